-- What is written of a sound array is read back as its canon.
use Rattle.std.proofs.Common.{ℕ, ◌≡◌, ◌<◌, ◌^◌, List, [], ◌∷◌, length, Option, Some, None, Bool, true, false, IsTrue, nat_le, if◌then◌else◌, refl, sym, ap, ◌∙◌, subst}
use Rattle.vx_trees.specs.Rose.{node, end, more, label}
use Rattle.vx_trees.specs.Everywhere.{EverywhereBelow}
use Rattle.vx_types.specs.Typ.{Typ}
use Rattle.vx_types.specs.declared.nullability.Nullability.{Nullability}
use Rattle.vx_types.specs.declared.nullability.Nullability.TheVariants.{Nullable, NonNullable}
use Rattle.vx_scalars.specs.Stats.{FitStats}
use Rattle.vx_scalars.proofs.LawsStats.{fit_under}
use Rattle.vx_array_tree.specs.Canon.{types_in, as_foreign, all_foreign, canon_at, canon_all}
use Rattle.vx_array_tree.specs.Body.{Body}
use Rattle.vx_array_tree.specs.Body as B
use Rattle.vx_array_tree.specs.Encoding.{Encoding}
use Rattle.vx_array_tree.specs.Encoding as E
use Rattle.vx_array_tree.specs.Encodings.Foreigns as Foreigns
use Rattle.vx_array_tree.specs.Encodings.Primitives as Primitives
use Rattle.vx_array_tree.specs.Metadata.{Metadata}
use Rattle.vx_array_tree.specs.Normal.{IsNormal}
use Rattle.vx_array_tree.specs.Metadata as M
use Rattle.vx_array_tree.specs.Place.{Place}
use Rattle.vx_array_tree.specs.Sound.{IsSound, IsSoundNode, metadata_in}
use Rattle.vx_array_tree.specs.Table.{encoding_of, id_of, IsNative, IsNativeEncoding, IsFair}
use Rattle.vx_array_tree.specs.Tree.{Head, Tree, Trees, places}
use Rattle.vx_array_tree.proofs.Bodies.{cleared_encoding, cleared_buffers}
use Rattle.vx_array_tree.proofs.CanonLaws.{by_node, foreign_normal, canon_at_normal}
use Rattle.vx_array_tree.proofs.CanonPlaces.{known, known_node, foreign_node, Planned, planned_at, types_at, kids_metadata}
use Rattle.vx_array_tree.proofs.Identifiers.{distinct_ids}
use Rattle.vx_array_tree.proofs.Retyped.{IsRetyped, AreRetyped, retyped_same}
use Rattle.vx_wire_tree.specs.KnownTypes.{KnowsNode, KnowsTypes}
use Rattle.vx_wire_tree.specs.Codec.{Codec, IsLawful, metadata_bytes}
use Rattle.vx_wire_tree.specs.Fields.{meant, told, nullable_if, is_nullable}
use Rattle.vx_wire_tree.specs.Limits.{HasMessages, HasMessage}
use Rattle.vx_wire_tree.specs.Matches.{IsRaw, AreRaw, IsEncodedNode, IsNodeBy, Matches, AllMatch}
use Rattle.vx_wire_tree.specs.ReadBack.{IsReadAs, IsReadBack, ReadsBack, IsWrittenNode, IsWritten, IsCountableNode, HasCountableMetadata, IsStorableNode, HasStorableStats, IsWrittenBy, IsUnreadBy, IsUnread, AreUnread, IsKept, ReadsBackBy, AllReadBack}
use Rattle.vx_wire_tree.specs.Reads.{IsMetadata}
use Rattle.vx_wire_tree.specs.Revised.{revised_name, revised_holds}
use Rattle.vx_wire_tree.specs.Session.{SessionMeaning, Reader, shipped, revised, plugin, IsShippedReader, IsShipped, IsPaired, IsReadAgainBy, IsRevisedAgainBy}
use Rattle.vx_wire_tree.specs.Wire.{all_present}
use Rattle.vx_wire_tree.specs.Written.{id_under, writes_two, body_id, written_id, spelled, wire_head, wire, wires, canon}
use Rattle.vx_wire_tree.proofs.Natives.{native_writer}
use Rattle.vx_wire_tree.proofs.TwoIdentifiers.{holds_own, native_under, own_under, revised_under, read_shipped, read_revised, node_by}

nullable_again : (n : Nullability) → nullable_if (is_nullable n) ≡ n
nullable_again Nullable = refl
nullable_again NonNullable = refl

-- No known encoding admits a foreign node's metadata.
never_foreign : (e : Encoding) (x : Foreigns.Metadata) → IsNativeEncoding e → IsFair e (M.foreign x) → ⊥
never_foreign E.foreign x k f = k
never_foreign _ x k f = f

-- The message that is written of metadata that such an encoding admits means that metadata, at any type, and its bytes
-- are the message's.
pub meant_told : (e : Encoding) (d : Typ) (v : Metadata) → IsNativeEncoding e → IsFair e v → meant d (told v) ≡ v
meant_told e d (M.foreign x) k f = absurd (never_foreign e x k f)
meant_told e d (M.dict x) k f = ap (λ (n : Nullability). M.dict (record { values_len = x.values_len; codes_ptype = x.codes_ptype; nullable_codes = n; all_values_referenced = x.all_values_referenced })) (nullable_again x.nullable_codes)
meant_told e d _ k f = refl

pub own_bytes : (c : Codec) (e : Encoding) (v : Metadata) → IsNativeEncoding e → IsFair e v → metadata_bytes c (told v) ≡ c.fields_bytes (told v)
own_bytes c e (M.foreign x) k f = absurd (never_foreign e x k f)
own_bytes c e _ k f = refl

module _ (c : Codec) (s : SessionMeaning) where
  mutual
    -- What is spelled of an array, whatever it is, matches the foreign array of it.
    pub raw_again : (d : Typ) (n : ℕ) (t : Tree) → IsRaw (wire c s t) (as_foreign (spelled c s) d n t)
    raw_again d n (node h ts) = (record { kept = spelled c s h ts; body = refl; id = refl; metadata = refl; buffers = refl }, raw_again_each d n ts)

    raw_again_each : (d : Typ) (n : ℕ) (ts : Trees) → AreRaw (wires c s ts) (all_foreign (spelled c s) d n ts)
    raw_again_each d n end = refl
    raw_again_each d n (more t ts) = (raw_again d n t, raw_again_each d n ts)

  -- How a node is read back, by what it is.
  read_back_native : (b : Body) (h : Head) (ts : Trees) (Below : Type 0) → IsNative b → ReadsBackBy c s b h ts Below → IsReadBack c s h ts × Below
  read_back_native (B.foreign x) h ts Below k r = absurd k
  read_back_native _ h ts Below k r = r

  read_back_foreign : (b : Body) (h : Head) (ts : Trees) (Below : Type 0) (x : Foreigns.Data) → b ≡ B.foreign x → ReadsBackBy c s b h ts Below → IsKept s x
  read_back_foreign b h ts Below x e r = subst (λ z. ReadsBackBy c s z h ts Below) e r

  module _ (law : IsLawful c s) where
    -- A node as it is read back at a type matches what was written of it, if its children do.
    encoded_again : (d : Typ) (h : Head) (ts : Trees) → IsNative h.body → IsSoundNode h ts → IsNormal (known_node (spelled c s) d h ts) → IsReadBack c s h ts → (r : IsRetyped h.dtype d)
        → ((p : Planned d h ts) → AllMatch c s (wires c s ts) (canon_all (spelled c s) (types_in p.at) ts))
        → IsEncodedNode c s (encoding_of h.body) (wire_head c s h ts) (known_node (spelled c s) d h ts) (λ us. AllMatch c s (wires c s ts) us)
    encoded_again d h ts native x n b r kids =
        let e = encoding_of h.body in
        let p = planned_at d h ts native x r in
        let v = metadata_in h ts in
        let m : IsMetadata c s.ext e d (metadata_bytes c (told v)) v = record {
          fields = told v;
          shown = subst (λ bytes. c.Shows e bytes (told v)) (sym (own_bytes c e v native x.fair))
              ((law.messages (written_id s h) e b.reader.encoding).message_again v x.fair b.message (subst (λ bytes. length bytes < 2 ^ 64) (own_bytes c e v native x.fair) b.countable));
          meaning = meant_told e d v native x.fair;
          fair = x.fair;
          known = b.known;
        } in
        let fit : FitStats d h.stats = subst (λ (z : Typ). FitStats z h.stats) r.retyped (fit_under r.nullability_is h.dtype h.stats x.stats) in
        record {
          encoding = cleared_encoding h.body;
          metadata = subst (λ (z : Metadata). IsMetadata c s.ext e d (metadata_bytes c (told v)) z) (sym (kids_metadata (spelled c s) d h ts p)) m;
          buffers = ap (λ bs. all_present bs) (sym (cleared_buffers h.body));
          stats = law.stats.stats_again d h.stats fit b.storable;
          normal = n.0;
          children = subst (λ (ds : List Typ). AllMatch c s (wires c s ts) (canon_all (spelled c s) ds ts)) (sym (types_at d h ts p)) (kids p);
        }

    -- What is read back of a sound node of a known encoding is normal.
    known_normal : (d : Typ) (h : Head) (ts : Trees) → IsNative h.body → IsSound (node h ts) → IsRetyped h.dtype d → IsNormal (known_node (spelled c s) d h ts)
    known_normal d h ts native x r = subst IsNormal (known h.body (known_node (spelled c s) d h ts) (foreign_node (spelled c s) d h ts) native) (canon_at_normal (spelled c s) d (node h ts) x r)

    node_again : (d : Typ) (h : Head) (ts : Trees) → IsNative h.body → IsReadBack c s h ts
        → IsEncodedNode c s (encoding_of h.body) (wire_head c s h ts) (known_node (spelled c s) d h ts) (λ us. AllMatch c s (wires c s ts) us)
        → Matches c s (wire c s (node h ts)) (known_node (spelled c s) d h ts)
    node_again d h ts native b k =
        let t = known_node (spelled c s) d h ts in
        (written_id s h, refl, node_by c s (s.reader (written_id s h)) (encoding_of h.body) (written_id s h) (wire_head c s h ts) (wires c s ts) t (λ us. AllMatch c s (wires c s ts) us) b.reader refl k)

    foreign_again : (d : Typ) (h : Head) (ts : Trees) (x : Foreigns.Data) → h.body ≡ B.foreign x → IsKept s x → Matches c s (wire c s (node h ts)) (foreign_node (spelled c s) d h ts)
    foreign_again d h ts x e k =
        let t = foreign_node (spelled c s) d h ts in
        let r : s.reader (written_id s h) ≡ None = ap (λ b. s.reader (body_id (writes_two s) b h.len)) e ∙ k.reader in
        (written_id s h, refl, subst (λ z. IsNodeBy c s z (wire_head c s h ts) (wires c s ts) t (λ us. AllMatch c s (wires c s ts) us)) (sym r) (k.allowed, raw_again d h.len (node h ts), foreign_normal (spelled c s) d h.len (node h ts)))

    mutual
      -- A sound array that can be read back: what is read back matches its wire tree, at its own type or at one that
      -- differs by nullability.
      pub canon_matches : (d : Typ) (t : Tree) → IsSound t → ReadsBack c s t → IsRetyped (label t).dtype d → Matches c s (wire c s t) (canon_at (spelled c s) d t)
      canon_matches d (node h ts) x b r =
          by_node (spelled c s) (λ u. Matches c s (wire c s (node h ts)) u) d h ts
          (λ native.
          let y = read_back_native h.body h ts (AllReadBack c s ts) native b in
          node_again d h ts native y.0 (encoded_again d h ts native x.0 (known_normal d h ts native x r) y.0 r (λ p. canon_all_match ts p.at x.1 y.1 p.retyped)))
          (λ z e. foreign_again d h ts z e (read_back_foreign h.body h ts (AllReadBack c s ts) z e b))

      canon_all_match : (ts : Trees) (qs : List Place) → EverywhereBelow IsSoundNode ts → AllReadBack c s ts → AreRetyped (places ts) qs → AllMatch c s (wires c s ts) (canon_all (spelled c s) (types_in qs) ts)
      canon_all_match end qs x b r = refl
      canon_all_match (more t ts) [] x b r = absurd r
      canon_all_match (more t ts) (q ∷ qs) x b r = (canon_matches q.dtype t x.0 b.0 r.0, canon_all_match ts qs x.1 b.1 r.2)

    pub written_matches : (t : Tree) → IsSound t → ReadsBack c s t → Matches c s (wire c s t) (canon c s t)
    written_matches t x b = canon_matches (label t).dtype t x b (retyped_same (label t).dtype)

-- ---- the conditions on reading back are met

read_by_shipped : (e : Encoding) (r : Option Reader) → IsShippedReader r → IsReadAgainBy r e → r ≡ Some (shipped e)
read_by_shipped e None ok b = absurd b
read_by_shipped e (Some (plugin p)) ok b = absurd ok
read_by_shipped e (Some revised) ok b = absurd b
read_by_shipped e (Some (shipped f)) ok b = ap (λ z. Some (shipped z)) b

read_by_revised : (r : Option Reader) → IsShippedReader r → IsRevisedAgainBy r → r ≡ Some revised
read_by_revised None ok b = absurd b
read_by_revised (Some (plugin p)) ok b = absurd ok
read_by_revised (Some revised) ok b = refl
read_by_revised (Some (shipped f)) ok b = absurd b

module _ (c : Codec) (s : SessionMeaning) (ok : IsShipped s) (paired : IsPaired s) where
  -- The identifier under which nodes of an encoding are written is read by it.
  abbrev ReadsAs : Encoding → ℕ → Type 0
  ReadsAs e n = IsReadAs (s.reader (id_under (writes_two s) e n)) e (id_under (writes_two s) e n) n

  by_length : (n : ℕ) (b : Bool) → nat_le n 4 ≡ b → s.writer Primitives.id ≡ Some revised → s.reader (if b then Primitives.id else revised_name) ≡ Some revised
  by_length n true q w = read_by_revised (s.reader Primitives.id) (ok.reads Primitives.id) (paired.revised_is_read w).0
  by_length n false q w = read_by_revised (s.reader revised_name) (ok.reads revised_name) (paired.revised_is_read w).1

  revised_as : (n : ℕ) → s.writer Primitives.id ≡ Some revised → ReadsAs E.primitive n
  revised_as n w =
      let under = revised_under s n w in
      let r = ap (λ id. s.reader id) under ∙ by_length n (nat_le n 4) refl w in
      read_revised (s.reader (id_under (writes_two s) E.primitive n)) (id_under (writes_two s) E.primitive n) n r (subst (λ (id : List ℕ). IsTrue (revised_holds id n)) (sym under) (holds_own n))

  written_by : (e : Encoding) (n : ℕ) (r : Reader) → IsShippedReader (Some r) → s.writer (id_of e) ≡ Some r → ReadsAs e n
  written_by e n (plugin p) q w = absurd q
  written_by e n (shipped f) q w =
      let same = distinct_ids e f (paired.own_identifier (id_of e) f w) in
      let r = read_by_shipped f (s.reader (id_of e)) (ok.reads (id_of e)) (paired.written_is_read (id_of e) f w) ∙ ap (λ g. Some (shipped g)) (sym same) in
      read_shipped (s.reader (id_under (writes_two s) e n)) e (id_under (writes_two s) e n) n (ap (λ id. s.reader id) (own_under s e f n w) ∙ r)
  written_by e n revised q w =
      let same = distinct_ids e E.primitive (paired.own_revised (id_of e) w) in
      let writer : s.writer Primitives.id ≡ Some revised = ap (λ g. s.writer (id_of g)) (sym same) ∙ w in
      subst (λ (g : Encoding). ReadsAs g n) (sym same) (revised_as n writer)

  node_back : (h : Head) (ts : Trees) → IsNative h.body → IsWrittenNode s h ts → HasMessage h ts → IsCountableNode c h ts → KnowsNode s.ext h ts → IsStorableNode c h ts → IsReadBack c s h ts
  node_back h ts native w m n k b =
      let x = native_writer s h.body native w in
      record {
        reader =
            subst (λ (id : List ℕ). IsReadAs (s.reader id) (encoding_of h.body) id h.len) (sym (native_under (writes_two s) h.body h.len native))
            (written_by (encoding_of h.body) h.len x.writer (subst (λ z. IsShippedReader z) x.writer_is (ok.writes (id_of (encoding_of h.body)))) x.writer_is);
        message = m;
        countable = n;
        known = k;
        storable = b;
      }

  -- A node is read back, by what it is.
  kept_back : (b : Body) (h : Head) (ts : Trees) (Below Under : Type 0) → (IsNative b → IsReadBack c s h ts) → IsWrittenBy s b → IsUnreadBy s b Under → (Under → Below) → ReadsBackBy c s b h ts Below
  kept_back (B.foreign x) h ts Below Under f w u g = record { reader = u; allowed = w }
  kept_back _ h ts Below Under f w u g = (f tt, g u)

  mutual
    pub reads_back : (t : Tree) → IsUnread s t → IsWritten s t → HasMessages t → HasCountableMetadata c t → KnowsTypes s.ext t → HasStorableStats c t → ReadsBack c s t
    reads_back (node h ts) u w m n k b =
        kept_back h.body h ts (AllReadBack c s ts) (AreUnread s ts) (λ native. node_back h ts native w.0 m.0 n.0 k.0 b.0) w.0 u (λ us. read_back_each ts us w.1 m.1 n.1 k.1 b.1)

    read_back_each : (ts : Trees) → AreUnread s ts → EverywhereBelow (IsWrittenNode s) ts → EverywhereBelow HasMessage ts → EverywhereBelow (IsCountableNode c) ts → EverywhereBelow (KnowsNode s.ext) ts → EverywhereBelow (IsStorableNode c) ts
        → AllReadBack c s ts
    read_back_each end u w m n k b = tt
    read_back_each (more t ts) u w m n k b = (reads_back t u.0 w.0 m.0 n.0 k.0 b.0, read_back_each ts u.1 w.1 m.1 n.1 k.1 b.1)
