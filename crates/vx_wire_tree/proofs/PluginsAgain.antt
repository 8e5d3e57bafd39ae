-- What encodings and plugins write of an array that returns decodes to that array.
use Rattle.std.proofs.Common.{ℕ, zero, suc, ◌≡◌, ◌<◌, ◌^◌, List, Option, Some, None, Bool, true, IsTrue, cond, refl, sym, ap, ◌∙◌, subst, length}
use Rattle.std.proofs.lemmas.List.{length-map}
use Rattle.vx_trees.specs.Rose.{node, end, more, label, count}
use Rattle.vx_trees.specs.Everywhere.{EverywhereBelow}
use Rattle.vx_types.specs.Typ.{Typ}
use Rattle.vx_scalars.specs.Stats.{Stats, FitStats}
use Rattle.vx_scalars.specs.WrittenStats.{written_stats}
use Rattle.vx_array_tree.specs.Body.{Body}
use Rattle.vx_array_tree.specs.Body as B
use Rattle.vx_array_tree.specs.Canon.{KeepsStats, IsKeptNode}
use Rattle.vx_array_tree.specs.Encoding.{Encoding}
use Rattle.vx_array_tree.specs.Encoding as E
use Rattle.vx_array_tree.specs.Encodings.Primitives as Primitives
use Rattle.vx_array_tree.specs.Normal.{IsNormal, IsNormalNode}
use Rattle.vx_array_tree.specs.Sound.{IsSound, IsSoundNode, metadata_in}
use Rattle.vx_array_tree.specs.Table.{encoding_of, metadata_of, id_of, IsNative}
use Rattle.vx_array_tree.specs.Tree.{Tree, Trees, Head, places}
use Rattle.vx_array_tree.proofs.CanonLaws as Canon
use Rattle.vx_array_tree.proofs.Identifiers.{distinct_ids}
use Rattle.vx_wire_tree.specs.Codec.{Codec, IsLawful, metadata_bytes}
use Rattle.vx_wire_tree.specs.Context.{is_among}
use Rattle.vx_wire_tree.specs.Fields.{told}
use Rattle.vx_wire_tree.specs.KnownTypes.{KnowsNode, KnowsTypes}
use Rattle.vx_wire_tree.specs.Limits.{HasMessage}
use Rattle.vx_wire_tree.specs.Matches.{IsEncodedNode, IsPluginNode, IsNodeBy, Matches, AllMatch}
use Rattle.vx_wire_tree.specs.Plugin.{NodeHead, head_at, head_of, PluginMeaning, Parts, Answer, given}
use Rattle.vx_wire_tree.specs.ReadBack.{IsReadAs, IsCountableNode, HasCountableMetadata}
use Rattle.vx_wire_tree.specs.Returns.{IsOwnCanon, ReturnsBy, ReturnsAs, Returns}
use Rattle.vx_wire_tree.specs.Revised.{revised_holds}
use Rattle.vx_wire_tree.specs.Session.{SessionMeaning, Reader, shipped, revised, plugin, IsPaired}
use Rattle.vx_wire_tree.specs.Taken.{Step, written, unwritten, undeclared, given_head, plugin_step, writer_step, step_head, step_below, each, Each, taken}
use Rattle.vx_wire_tree.specs.Wire.{WireHead}
use Rattle.vx_wire_tree.specs.Written.{writes_two, id_under, written_id, spelled, wire_head, wire, wires}
use Rattle.vx_wire_tree.proofs.Natives.{step_native}
use Rattle.vx_wire_tree.proofs.TakenPlaces.{places_taken}
use Rattle.vx_wire_tree.proofs.ReadAgain.{meant_told, own_bytes}
use Rattle.vx_wire_tree.proofs.TwoIdentifiers.{holds_own, native_under, revised_under, read_shipped, read_revised, node_by}

-- What is said of an array down to what plugins write: it is sound and normal, its statistics are kept, and the types
-- in it are known.
pub record IsOwn (s : SessionMeaning) (t : Tree) : Type 0 where
  pub sound : IsSound t
  pub normal : IsNormal t
  pub kept : KeepsStats t
  pub known : KnowsTypes s.ext t

-- The same for several arrays.
record AreOwn (s : SessionMeaning) (ts : Trees) : Type 0 where
  sound : EverywhereBelow IsSoundNode ts
  normal : EverywhereBelow IsNormalNode ts
  kept : EverywhereBelow IsKeptNode ts
  known : EverywhereBelow (KnowsNode s.ext) ts

own_below : (s : SessionMeaning) (h : Head) (ts : Trees) → IsOwn s (node h ts) → AreOwn s ts
own_below s h ts x = record { sound = x.sound.1; normal = x.normal.1; kept = x.kept.1; known = x.known.1 }

module _ (c : Codec) (s : SessionMeaning) (law : IsLawful c s) (paired : IsPaired s) where
  -- This holds of an array that is its own canon.
  pub own_of : (spells : Canon.SpellsOwn (spelled c s)) (t : Tree) → IsOwnCanon c s t → IsOwn s t
  own_of spells t x = record {
    sound = x.sound;
    normal = subst (λ (z : Tree). IsNormal z) x.own (Canon.canon_normal (spelled c s) t x.sound);
    kept = subst (λ (z : Tree). KeepsStats z) x.own (Canon.canon_at_keeps (spelled c s) (label t).dtype t);
    known = x.known;
  }

  own_stats : (d : Typ) (x : Stats) → FitStats d x → c.IsStorable x → written_stats x ≡ x → c.ShowsStats d (c.stats_field x) x
  own_stats d x f k w = subst (λ (z : Stats). c.ShowsStats d (c.stats_field x) z) w (law.stats.stats_again d x f k)

  -- The wire tree of a node over what its children are written as, and that it matches. Children are written at their
  -- own types and lengths.
  abbrev Told : Head → Trees → Tree → Type 0
  Told g us t = Matches c s (node (wire_head c s g us) (wires c s us)) t

  encoded_told : (h : Head) (ts us : Trees) → IsNative h.body → IsOwn s (node h ts) → c.IsStorable h.stats → IsReadAs (s.reader (written_id s h)) (encoding_of h.body) (written_id s h) h.len → HasMessage h ts
      → IsCountableNode c h us → places us ≡ places ts → AllMatch c s (wires c s us) ts → Told h us (node h ts)
  encoded_told h ts us native x k r m counted same kids =
      let e = encoding_of h.body in
      let v = metadata_in h ts in
      let w : metadata_bytes c (told (metadata_in h us)) ≡ c.fields_bytes (told v) = ap (λ ps. metadata_bytes c (told (metadata_of h.body ps))) same ∙ own_bytes c e v native x.sound.0.fair in
      let here : IsEncodedNode c s e (wire_head c s h us) (node h ts) (λ zs. AllMatch c s (wires c s us) zs) = record {
        encoding = refl;
        metadata = record {
          fields = told v;
          shown = subst (λ bytes. c.Shows e bytes (told v)) (sym w) ((law.messages (written_id s h) e r.encoding).message_again v x.sound.0.fair m (subst (λ bytes. length bytes < 2 ^ 64) w counted));
          meaning = meant_told e h.dtype v native x.sound.0.fair;
          fair = x.sound.0.fair;
          known = x.known.0;
        };
        buffers = refl;
        stats = own_stats h.dtype h.stats x.sound.0.stats k x.kept.0;
        normal = x.normal.0;
        children = kids;
      } in
      (written_id s h, refl, node_by c s (s.reader (written_id s h)) e (written_id s h) (wire_head c s h us) (wires c s us) (node h ts) (λ zs. AllMatch c s (wires c s us) zs) r refl here)

  given_told : (p : PluginMeaning) (h : Head) (ts us : Trees) (y : Parts) → IsOwn s (node h ts) → c.IsStorable h.stats → p.serialize (node h ts) ≡ given y → s.reader y.id ≡ Some (plugin p)
      → EverywhereBelow IsSoundNode y.children → AllMatch c s (wires c s us) y.children → count (wires c s us) ≡ count y.children → Told (given_head h y) us (node h ts)
  given_told p h ts us y x k e r sound kids n =
      let w : WireHead = wire_head c s (given_head h y) us in
      let g = p.builds_again (node h ts) y s.ext x.sound x.normal x.known e in
      let same : head_at y.id w (count (wires c s us)) h.dtype h.len ≡ head_of y (node h ts) =
      λ i. record { id = y.id; dtype = h.dtype; len = h.len; metadata = y.metadata; nbuffers = length-map y.buffers (λ b. Some b) i; nchildren = n i } in
      let m : IsPluginNode c s p w (count (wires c s us)) (node h ts) (λ zs. AllMatch c s (wires c s us) zs) = record {
        id = y.id;
        id_is = refl;
        buffers = y.buffers;
        buffers_are = refl;
        children = y.children;
        planned = ap (λ (z : NodeHead). p.plan z s.ext) same ∙ p.plans_again (node h ts) y s.ext x.sound x.normal x.known e;
        matched = kids;
        sound = sound;
        built = g.0;
        built_is = ap (λ (z : NodeHead). p.build z y.buffers y.children s.ext) same ∙ g.1;
        stats = h.stats;
        shown = own_stats h.dtype h.stats x.sound.0.stats k x.kept.0;
        tree_is = g.2;
      } in
      (y.id, refl, subst (λ z. IsNodeBy c s z w (wires c s us) (node h ts) (λ zs. AllMatch c s (wires c s us) zs)) (sym r) m)

  -- ---- by what writes a node

  same_encoding : (e f : Encoding) → s.writer (id_of e) ≡ Some (shipped f) → e ≡ f
  same_encoding e f w = distinct_ids e f (paired.own_identifier (id_of e) f w)

  -- The identifier under which primitives are written is read as primitives, where it is read by what wrote it.
  revised_told : (h : Head) → IsNative h.body → s.writer (id_of (encoding_of h.body)) ≡ Some revised → s.reader (written_id s h) ≡ Some revised
      → IsReadAs (s.reader (written_id s h)) (encoding_of h.body) (written_id s h) h.len
  revised_told h native w r =
      let own = distinct_ids (encoding_of h.body) E.primitive (paired.own_revised (id_of (encoding_of h.body)) w) in
      let writer : s.writer Primitives.id ≡ Some revised = ap (λ e. s.writer (id_of e)) (sym own) ∙ w in
      let under = native_under (writes_two s) h.body h.len native ∙ ap (λ e. id_under (writes_two s) e h.len) own ∙ revised_under s h.len writer in
      let held : IsTrue (revised_holds (written_id s h) h.len) = subst (λ (id : List ℕ). IsTrue (revised_holds id h.len)) (sym under) (holds_own h.len) in
      subst (λ (e : Encoding). IsReadAs (s.reader (written_id s h)) e (written_id s h) h.len) (sym own) (read_revised (s.reader (written_id s h)) (written_id s h) h.len r held)

  -- What a step matches, where a function gives what is written of each array below, and the bytes of metadata can be
  -- counted.
  abbrev Counted : Head → Trees → Type 0
  Counted g us = HasCountableMetadata c (node g us)

  abbrev Stepped : Step → (Trees → Trees) → Head → Trees → Type 0
  Stepped x f h ts = Counted (step_head x h) (f (step_below x)) → Told (step_head x h) (f (step_below x)) (node h ts)

  -- What holds of a node's children, and of those that a plugin gives.
  abbrev OfChildren : (Trees → Trees) → (Trees → Type 0) → Type 0
  OfChildren f Below = (us : Trees) → AreOwn s us → Below us → EverywhereBelow (IsCountableNode c) (f us) → AllMatch c s (wires c s (f us)) us

  abbrev OfGiven : (Trees → Trees) → (Trees → Type 0) → Type 0
  OfGiven f Given = (us : Trees) → Given us → EverywhereBelow (IsCountableNode c) (f us) → AllMatch c s (wires c s (f us)) us × EverywhereBelow IsSoundNode us

  declared_step : (p : PluginMeaning) (h : Head) (ts : Trees) (y : Parts) (f : Trees → Trees) → is_among y.id p.declared ≡ true → (Counted (given_head h y) (f y.children) → Told (given_head h y) (f y.children) (node h ts)) → Stepped (plugin_step p h (given y)) f h ts
  declared_step p h ts y f d m = subst (λ (b : Bool). Stepped (cond b (written (given_head h y) y.children) (unwritten undeclared)) f h ts) (sym d) m

  writer_told : (r : Option Reader) (h : Head) (ts : Trees) (f : Trees → Trees) (Below Given : Trees → Type 0) → IsNative h.body → IsOwn s (node h ts) → c.IsStorable h.stats → s.writer (id_of (encoding_of h.body)) ≡ r
      → ReturnsBy s r h ts Below Given → OfChildren f Below → OfGiven f Given → ((us : Trees) → places (f us) ≡ places us) → ((us : Trees) → count (wires c s (f us)) ≡ count us) → Stepped (writer_step r h ts) f h ts
  writer_told None h ts f Below Given native x k w b kids gifts same n = absurd b
  writer_told (Some (shipped e)) h ts f Below Given native x k w b kids gifts same n =
      let own = same_encoding (encoding_of h.body) e w in
      let r = read_shipped (s.reader (written_id s h)) (encoding_of h.body) (written_id s h) h.len (b.reader ∙ ap (λ z. Some (shipped z)) (sym own)) in
      λ counted. encoded_told h ts (f ts) native x k r b.message counted.0 (same ts) (kids ts (own_below s h ts x) b.below counted.1)
  writer_told (Some revised) h ts f Below Given native x k w b kids gifts same n =
      let r = revised_told h native w b.reader in
      λ counted. encoded_told h ts (f ts) native x k r b.message counted.0 (same ts) (kids ts (own_below s h ts x) b.below counted.1)
  writer_told (Some (plugin p)) h ts f Below Given native x k w b kids gifts same n =
      let y = b.parts in
      let S : Answer → Type 0 = λ a. Stepped (plugin_step p h a) f h ts in
      subst S (sym b.serialized) (declared_step p h ts y f b.declared
      (λ counted. let g = gifts y.children b.below counted.1 in given_told p h ts (f y.children) y x k b.serialized b.reader g.1 g.0 (n y.children)))

  returns_native : (b : Body) (h : Head) (ts : Trees) (Below Given : Trees → Type 0) → ReturnsAs s b h ts Below Given → IsNative b × ReturnsBy s (s.writer (id_of (encoding_of b))) h ts Below Given
  returns_native (B.foreign x) h ts Below Given r = absurd r
  returns_native _ h ts Below Given r = (tt, r)

  -- ---- node by node

  each_count : (n : ℕ) (us : Trees) → count (wires c s (each (taken s n) us)) ≡ count us
  each_count n end = refl
  each_count n (more u us) = ap (λ k. suc k) (each_count n us)

  -- What is said of each array down to n levels.
  abbrev IsReturned : ℕ → Type 0
  IsReturned n = (t : Tree) → IsOwn s t → Returns c s n t → HasCountableMetadata c (taken s n t) → Matches c s (wire c s (taken s n t)) t

  all_returned : (n : ℕ) → IsReturned n → (us : Trees) → AreOwn s us → Each (λ u. Returns c s n u) us → EverywhereBelow (IsCountableNode c) (each (taken s n) us)
      → AllMatch c s (wires c s (each (taken s n) us)) us
  all_returned n ih end x k counted = refl
  all_returned n ih (more u us) x k counted = (
    ih u (record { sound = x.sound.0; normal = x.normal.0; kept = x.kept.0; known = x.known.0 }) k.0 counted.0,
    all_returned n ih us (record { sound = x.sound.1; normal = x.normal.1; kept = x.kept.1; known = x.known.1 }) k.1 counted.1,
  )

  all_given : (spells : Canon.SpellsOwn (spelled c s)) (n : ℕ) → IsReturned n → (us : Trees) → Each (λ u. IsOwnCanon c s u × Returns c s n u) us → EverywhereBelow (IsCountableNode c) (each (taken s n) us)
      → AllMatch c s (wires c s (each (taken s n) us)) us × EverywhereBelow IsSoundNode us
  all_given spells n ih end k counted = (refl, tt)
  all_given spells n ih (more u us) k counted =
      let r = all_given spells n ih us k.1 counted.1 in
      ((ih u (own_of spells u k.0.0) k.0.1 counted.0, r.0), (k.0.0.sound, r.1))

  -- What is written of an array that returns decodes to it, where the bytes of the metadata can be counted.
  pub returned : (spells : Canon.SpellsOwn (spelled c s)) (n : ℕ) → IsReturned n
  returned spells zero t x r counted = absurd r
  returned spells (suc n) (node h ts) x r counted =
      let f : Trees → Trees = λ us. each (taken s n) us in
      let Below : Trees → Type 0 = λ us. Each (λ u. Returns c s n u) us in
      let Given : Trees → Type 0 = λ us. Each (λ u. IsOwnCanon c s u × Returns c s n u) us in
      let q = returns_native h.body h ts Below Given r.1 in
      (subst (λ z. Stepped z f h ts) (sym (step_native s h.body h ts q.0))
      (writer_told (s.writer (id_of (encoding_of h.body))) h ts f Below Given q.0 x r.0 refl q.1
      (λ us y k m. all_returned n (λ t z w v. returned spells n t z w v) us y k m) (λ us k m. all_given spells n (λ t z w v. returned spells n t z w v) us k m) (λ us. places_taken s n us) (λ us. each_count n us))) counted
