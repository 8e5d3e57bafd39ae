-- What decoding a node and its children gives, and why it does not.
use Rattle.std.proofs.Common.{Bool, true, false, ℕ, zero, suc, ◌≡◌, ◌+◌, ◌<◌, ◌≤◌, List, [], ◌∷◌, ◌++◌, Option, Some, None, refl, sym, ap, ◌∙◌, arith, subst, take, length, get_or, add-one, inl, inr}
use Rattle.std.specs.Prelude.{slice_get, option_map, IsSome, IsSomeAnd}
use Rattle.std.specs.declared.alloc.Global.{Global}
use Rattle.std.specs.declared.dyn_box.DynBox.{DynBox}
use Rattle.std.proofs.lemmas.List.{length-map, take_all}
use Rattle.vx_buffer.specs.Buffer.{Buffer}
use Rattle.vx_trees.specs.Rose.{node, label, below, roses_of, roses_list, count}
use Rattle.vx_trees.specs.Everywhere.{EverywhereBelow}
use Rattle.vx_trees.proofs.Holding.{everywhere_below-snoc}
use Rattle.vx_trees.proofs.Lists.{count-roses_of, roses_of-roses_list, roses_list-roses_of}
use Rattle.vx_types.specs.Known.{ExtMeaning}
use Rattle.vx_types.specs.Typ.{Typ}
use Rattle.vx_types.specs.Seen.{typ}
use Rattle.vx_array_tree.specs.Metadata.{Metadata}
use Rattle.vx_array_tree.specs.Place.{Place}
use Rattle.vx_array_tree.specs.Sound.{IsSound, IsSoundNode}
use Rattle.vx_array_tree.specs.Encoding as Encodings
use Rattle.vx_array_tree.specs.Table.{plan_of, Allows, Content, IsShaped}
use Rattle.vx_array_tree.specs.Tree.{Tree, Trees, places, rows_below}
use Rattle.vx_array_tree.proofs.PlanCounts.{planned_count}
use Rattle.vx_wire_tree.specs.Causes.{AllTell, IsOf, MayStandFor, HasChildren}
use Rattle.vx_wire_tree.specs.Codec.{IsLawful}
use Rattle.vx_wire_tree.specs.Matches.{Matches, AllMatch}
use Rattle.vx_wire_tree.specs.Placed.{IsChild, HasPlan, IsPlannedBy}
use Rattle.vx_wire_tree.specs.Plugin.{PluginMeaning, head_at}
use Rattle.vx_wire_tree.specs.Revised.{revised_holds}
use Rattle.vx_wire_tree.specs.Session.{SessionMeaning, Reader, shipped, revised, plugin, encoding_by}
use Rattle.vx_wire_tree.specs.Steps.{PlansChildren, HasNoMetadata, HasNoPlan, HasParts, HasWrongShape, HasWrongControl, HasWrongContent, IsToldBy}
use Rattle.vx_wire_tree.specs.DecodesTo.{DecodesTo}
use Rattle.vx_wire_tree.specs.Wire.{Wire, all_present}
use Rattle.vx_wire_tree.proofs.Laws.{node_decodes, revised_decodes, matched_count, plugin_decodes}
use Rattle.vx_encodings.specs.Messages.{codec}
use Rattle.vx_encodings.specs.Plain.{plain_encoding}
use Rattle.vx_encodings.proofs.Laws.{one_value}
use Rattle.vx_plans.specs.declared.head.ArrayHead.{ArrayHead}
use Rattle.vx_registry.specs.Plugin.{head_in}
use Rattle.vx_registry.specs.Meaning.{reader_in}
use Rattle.vx_registry.specs.declared.array_session.ArraySession.{ArraySession}
use Rattle.vx_registry.specs.declared.tables.Entry.{Entry}
use Rattle.vx_registry.specs.declared.tables.Entry.TheVariants.{Shipped, Revised, Boxed}
use Rattle.vx_serialized.specs.declared.error.WireError.{WireError}
use Rattle.vx_serialized.specs.declared.error.WireError.TheVariants.{OutOfMemory, OutOfBounds, UnknownIndex, UnknownEncoding, BadMetadata, BadShape, BadContent, ForeignControl, BadStats, PluginRefused}
use Rattle.vx_serialized.specs.Causes.{RefusesWire}
use Rattle.vx_serialized.specs.ReadingSteps.{RefusesNodeBuffers, RefusesKept, RefusesStats}
use Rattle.vx_serialized.specs.Decoding.{IsHeadOf, IsNodeOf, IsPastHead, PlansBy, RefusesPlan, head_over, BuildsBy, RefusesBuild}

-- ---- children, one by one

all_match-snoc_suc : (s : SessionMeaning) (ws : List Wire) (i : ℕ) (d : Wire) (ts : List Tree) (u : Tree) → i < length ws → AllMatch codec s (roses_of (take i ws)) (roses_of ts) → Matches codec s (get_or ws i d) u
    → AllMatch codec s (roses_of (take (suc i) ws)) (roses_of (ts ++ u ∷ []))
all_match-snoc_suc s [] i d ts u h m n = absurd (omega (arith, h))
all_match-snoc_suc s (w ∷ ws) zero d [] u h m n = (n, refl)
all_match-snoc_suc s (w ∷ ws) zero d (t ∷ ts) u h m n = absurd (cc)
all_match-snoc_suc s (w ∷ ws) (suc i) d [] u h m n = absurd m
all_match-snoc_suc s (w ∷ ws) (suc i) d (t ∷ ts) u h m n = (m.0, all_match-snoc_suc s ws i d ts u (omega (arith, h)) m.1 n)

places-snoc_suc : (ts : List Tree) (u : Tree) (ps : List Place) (i : ℕ) (p : Place) → places (roses_of ts) ≡ take i ps → slice_get ps i ≡ Some p
    → (label u).dtype ≡ p.dtype → (label u).len ≡ p.len → places (roses_of (ts ++ u ∷ [])) ≡ take (suc i) ps
places-snoc_suc ts u [] i p e g d n = absurd (cc)
places-snoc_suc [] u (q ∷ ps) zero p e g d n =
    let b : q ≡ p = cc in
    λ j. (record { dtype = (d ∙ ap (λ z. z.dtype) (sym b)) j; len = (n ∙ ap (λ z. z.len) (sym b)) j }) ∷ []
places-snoc_suc (t ∷ ts) u (q ∷ ps) zero p e g d n = absurd (cc)
places-snoc_suc [] u (q ∷ ps) (suc i) p e g d n = absurd (cc)
places-snoc_suc (t ∷ ts) u (q ∷ ps) (suc i) p e g d n =
    let a : (record { dtype = (label t).dtype; len = (label t).len }) ≡ q = cc in
    let b : places (roses_of ts) ≡ take i ps = cc in
    λ j. a j ∷ places-snoc_suc ts u ps i p b g d n j

-- One more child that decodes to the array of its place.
pub told-snoc : (s : SessionMeaning) (ws : List Wire) (ps : List Place) (i : ℕ) (w : Wire) (p : Place) (us vs : Trees) (u : Tree) → i < length ws → AllTell codec s (roses_of (take i ws)) (take i ps) us
    → w ≡ get_or ws i w → slice_get ps i ≡ Some p → DecodesTo codec s w p.dtype p.len u → roses_list vs ≡ roses_list us ++ u ∷ [] → AllTell codec s (roses_of (take (i + 1) ws)) (take (i + 1) ps) vs
told-snoc s ws ps i w p us vs u h k f g x e =
    let ts = roses_list us in
    let back = sym (roses_of-roses_list us) in
    let next : vs ≡ roses_of (ts ++ u ∷ []) = sym (roses_of-roses_list vs) ∙ ap (λ z. roses_of z) e in
    let M : Wire → Type 0 = λ z. Matches codec s z u in
    let A : Trees → Type 0 = λ z. AllMatch codec s (roses_of (take i ws)) z in
    let S : Trees → Type 0 = λ z. EverywhereBelow IsSoundNode z in
    rw (next, add-one i) (record {
      matched = all_match-snoc_suc s ws i w ts u h (subst A back k.matched) (subst M f x.matched);
      sound = everywhere_below-snoc IsSoundNode ts (ts ++ u ∷ []) u (subst S back k.sound) x.sound refl;
      placed = places-snoc_suc ts u ps i p (ap (λ z. places z) (sym back) ∙ k.placed) g x.dtype x.len;
    })

-- All children.
pub all_told : (s : SessionMeaning) (ws : List Wire) (ps : List Place) (us : Trees) (i : ℕ) → length ws ≤ i → length ps ≡ length ws → AllTell codec s (roses_of (take i ws)) (take i ps) us → AllTell codec s (roses_of ws) ps us
all_told s ws ps us i h same k =
    let A : List Wire → Type 0 = λ z. AllTell codec s (roses_of z) (take i ps) us in
    let B : List Place → Type 0 = λ z. AllTell codec s (roses_of ws) z us in
    subst B (take_all i ps (omega (arith, h, same))) (subst A (take_all i ws h) k)

-- ---- what is at a place of a list

-- There are as many places as children.
enough_by : (r : Option PluginMeaning) (x : ExtMeaning) (h : ArrayHead) (ps : List Place) (ws : List Wire) (w : Wire) (d : Typ) (n : ℕ) → PlansBy x (option_map (λ p. plugin p) r) h ps → IsHeadOf h w d n → roses_of ws ≡ below w → length ps ≡ length ws
enough_by None x h ps ws w d n plan is own = absurd plan.0
enough_by (Some p) x h ps ws w d n plan is own = p.one_each (head_in h) x ps plan ∙ is.children ∙ sym (ap (λ z. count z) own) ∙ count-roses_of ws

pub enough : {Y : Type 0} {G : Y → Type 0} (means : DynBox Y Global G → PluginMeaning) (s : ArraySession Y G) (e : Entry) (x : ExtMeaning) (h : ArrayHead) (ps : List Place) (ws : List Wire) (w : Wire) (d : Typ) (n : ℕ) → PlansBy x (reader_in means s e) h ps → IsHeadOf h w d n → roses_of ws ≡ below w → length ps ≡ length ws
enough means s (Shipped e) x h ps ws w d n plan is own =
    planned_count (plain_encoding e) (typ h.dtype) h.len plan.0.value h.nchildren ps plan.0.plan ∙ is.children ∙ sym (ap (λ z. count z) own) ∙ count-roses_of ws
enough means s Revised x h ps ws w d n plan is own =
    planned_count Encodings.primitive (typ h.dtype) h.len plan.0.value h.nchildren ps plan.0.plan ∙ is.children ∙ sym (ap (λ z. count z) own) ∙ count-roses_of ws
enough means s (Boxed k) x h ps ws w d n plan is own = enough_by _ x h ps ws w d n plan is own

pub get_past : {A : Type 0} (xs : List A) (i : ℕ) → i < length xs → slice_get xs i ≡ None → ⊥
get_past [] i h g = absurd (omega (arith, h))
get_past (x ∷ xs) zero h g = absurd (cc)
get_past (x ∷ xs) (suc i) h g = get_past xs i (omega (arith, h)) g

-- ---- causes

-- A child's cause is its parent's.
caused_above : (s : SessionMeaning) (x : WireError) (w : Wire) (d : Typ) (n : ℕ) (i : ℕ) (v : Wire) (p : Place) → IsChild codec s w d n i v p → RefusesWire s x v p.dtype p.len → RefusesWire s x w d n
caused_above s OutOfMemory w d n i v p child c = tt
caused_above s OutOfBounds w d n i v p child c = (i ∷ c.0, (v, child.child, c.1))
caused_above s UnknownIndex w d n i v p child c = (i ∷ c.0, (v, child.child, c.1))
caused_above s UnknownEncoding w d n i v p child c = (i ∷ c.0, (v, p, child, c.1))
caused_above s BadMetadata w d n i v p child c = (i ∷ c.0, (v, p, child, c.1))
caused_above s BadShape w d n i v p child c = (i ∷ c.0, (v, p, child, c.1))
caused_above s BadContent w d n i v p child c = (i ∷ c.0, (v, p, child, c.1))
caused_above s ForeignControl w d n i v p child c = (i ∷ c.0, (v, p, child, c.1))
caused_above s BadStats w d n i v p child c = (i ∷ c.0, (v, p, child, c.1))
caused_above s PluginRefused w d n i v p child c = (i ∷ c.0, (v, p, child, c.1))
caused_above s _ w d n i v p child c = absurd c

-- So is that of the child at an index of a list.
pub caused_by_child : (s : SessionMeaning) (x : WireError) (w : Wire) (d : Typ) (n : ℕ) (ws : List Wire) (ps : List Place) (i : ℕ) (v : Wire) (p : Place) → HasPlan codec s w d n ps → roses_of ws ≡ below w
    → slice_get ws i ≡ Some v → slice_get ps i ≡ Some p → RefusesWire s x v p.dtype p.len → RefusesWire s x w d n
caused_by_child s x w d n ws ps i v p plan e g f c =
    let child : slice_get (roses_list (below w)) i ≡ Some v = ap (λ z. slice_get z i) (ap (λ z. roses_list z) (sym e) ∙ roses_list-roses_of ws) ∙ g in
    caused_above s x w d n i v p (record { places = ps; planned = plan; child = child; place = f }) c

-- A missing buffer.
pub caused_by_buffers : (s : SessionMeaning) (x : WireError) (w : Wire) (d : Typ) (n : ℕ) → RefusesNodeBuffers x (label w).buffers → RefusesWire s x w d n
caused_by_buffers s OutOfMemory w d n c = tt
caused_by_buffers s OutOfBounds w d n c = ([], c)
caused_by_buffers s _ w d n c = absurd c

-- Nothing reads the node, and such nodes are not allowed.
pub caused_by_reader : (s : SessionMeaning) (w : Wire) (d : Typ) (n : ℕ) (id : List ℕ) → (label w).id ≡ Some id → s.reader id ≡ None → s.ext.unknown ≡ false → RefusesWire s UnknownEncoding w d n
caused_by_reader s w d n id i r closed = ([], record { unregistered = record { id = id; id_is = i; reader_is = r }; closed = closed })

-- A wire tree that is not kept.
pub caused_by_keeping : (s : SessionMeaning) (x : WireError) (w : Wire) (d : Typ) (n : ℕ) → RefusesKept x w → RefusesWire s x w d n
caused_by_keeping s OutOfMemory w d n c = tt
caused_by_keeping s OutOfBounds w d n c = c
caused_by_keeping s UnknownIndex w d n c = c
caused_by_keeping s _ w d n c = absurd c

-- ---- what is known of a node

-- What holds of a head's parts holds of the wire node's.
at_node : (P : Typ → ℕ → List ℕ → ℕ → Type 0) (h : ArrayHead) (w : Wire) (d : Typ) (n : ℕ) → IsHeadOf h w d n → P (typ h.dtype) h.len h.metadata h.nchildren → P d n (label w).metadata (count (below w))
at_node P h w d n is x =
    let A : Typ → Type 0 = λ z. P z h.len h.metadata h.nchildren in
    let B : ℕ → Type 0 = λ z. P d z h.metadata h.nchildren in
    let C : List ℕ → Type 0 = λ z. P d n z h.nchildren in
    let D : ℕ → Type 0 = λ z. P d n (label w).metadata z in
    subst D is.children (subst C is.metadata (subst B is.len (subst A is.dtype x)))

-- The head that a plugin is given.
told_head : (h : ArrayHead) (w : Wire) (d : Typ) (n : ℕ) (id : List ℕ) → IsHeadOf h w d n → h.serialized_id ≡ id → head_in h ≡ head_at id (label w) (count (below w)) d n
told_head h w d n id is named = λ i. record { id = named i; dtype = is.dtype i; len = is.len i; metadata = is.metadata i; nbuffers = is.buffers i; nchildren = is.children i }

own_encoding : (s : SessionMeaning) (w : Wire) (d : Typ) (n : ℕ) (r : Option Reader) (e : Encodings.Encoding) (h : ArrayHead) → IsNodeOf s w d n r h → encoding_by r ≡ Some e → IsOf s w e
own_encoding s w d n r e h read by = record { id = read.id; id_is = read.id_is; encoding_is = ap (λ z. encoding_by z) read.reader_is ∙ by }

-- A fact of a value, where there is one.
there : {A : Type 0} (o : Option A) (P : A → Type 0) → IsSomeAnd o P → (a : A) × (o ≡ Some a) × P a
there None P k = absurd k
there (Some a) P k = (a, refl, k)

-- The encoding that reads a node plans its children.
plans_own : (x : ExtMeaning) (r : Option Reader) (e : Encodings.Encoding) (h : ArrayHead) (ps : List Place) → encoding_by r ≡ Some e → PlansBy x r h ps → PlansChildren codec x e (typ h.dtype) h.len h.metadata h.nchildren ps
plans_own x (Some (plugin p)) e h ps by plan = absurd (cc)
plans_own x r e h ps by plan = subst (λ (o : Option Encodings.Encoding). IsSomeAnd o (λ f. PlansChildren codec x f (typ h.dtype) h.len h.metadata h.nchildren ps)) by plan.0

-- A node by what reads its identifier.
pub node_of : (s : SessionMeaning) (w : Wire) (d : Typ) (n : ℕ) (r : Option Reader) (h : ArrayHead) (id : List ℕ) → (label w).id ≡ Some id → h.serialized_id ≡ id → s.reader id ≡ r → IsHeadOf h w d n → IsNodeOf s w d n r h
node_of s w d n r h id i named q head = record { id = id; id_is = i; named = named; reader_is = q; head = head }

planned_by : (s : SessionMeaning) (w : Wire) (d : Typ) (n : ℕ) (r : Option Reader) (h : ArrayHead) (ps : List Place) → IsNodeOf s w d n r h → PlansBy s.ext r h ps → IsPlannedBy codec s r w d n ps
planned_by s w d n None h ps read plan = absurd plan.0
planned_by s w d n (Some (shipped e)) h ps read plan = at_node (λ f m b k. PlansChildren codec s.ext e f m b k ps) h w d n read.head plan.0
planned_by s w d n (Some revised) h ps read plan = at_node (λ f m b k. PlansChildren codec s.ext Encodings.primitive f m b k ps) h w d n read.head plan.0
planned_by s w d n (Some (plugin p)) h ps read plan =
    record { id = read.id; id_is = read.id_is; plan = ap (λ z. p.plan z s.ext) (sym (told_head h w d n read.id read.head read.named)) ∙ plan }

pub planned : (s : SessionMeaning) (w : Wire) (d : Typ) (n : ℕ) (r : Option Reader) (h : ArrayHead) (ps : List Place) → IsNodeOf s w d n r h → PlansBy s.ext r h ps → HasPlan codec s w d n ps
planned s w d n r h ps read plan =
    let P : Option Reader → Type 0 = λ z. IsPlannedBy codec s z w d n ps in
    record { id = read.id; id_is = read.id_is; planned = subst P (sym read.reader_is) (planned_by s w d n r h ps read plan) }

-- An encoding refuses a node's metadata, or plans nothing.
no_metadata : (s : SessionMeaning) (w : Wire) (d : Typ) (n : ℕ) (e : Encodings.Encoding) (h : ArrayHead) → IsHeadOf h w d n → IsOf s w e → HasNoMetadata codec s.ext e (typ h.dtype) h.metadata → RefusesWire s BadMetadata w d n
no_metadata s w d n e h head by c = ([], record { encoding = e; by = by; none = at_node (λ f m b k. HasNoMetadata codec s.ext e f b) h w d n head c })

no_plan : (s : SessionMeaning) (w : Wire) (d : Typ) (n : ℕ) (e : Encodings.Encoding) (h : ArrayHead) → IsHeadOf h w d n → IsOf s w e → HasNoPlan codec s.ext e (typ h.dtype) h.len h.metadata h.nchildren
    → RefusesWire s BadShape w d n
no_plan s w d n e h head by c =
    let none = at_node (λ f m b k. HasNoPlan codec s.ext e f m b k) h w d n head c in
    ([], record { encoding = e; by = by; value = none.value; metadata = none.metadata; broken = inl none.none })

-- An identifier that holds a head's rows holds the node's.
held_at : (b : Bool) (h : ArrayHead) (w : Wire) (d : Typ) (n : ℕ) (id : List ℕ) → IsHeadOf h w d n → h.serialized_id ≡ id → revised_holds h.serialized_id h.len ≡ b → revised_holds id n ≡ b
held_at b h w d n id head named e = (λ i. revised_holds (sym named i) (sym head.len i)) ∙ e

not_held : (b : Bool) → (b ≡ true → ⊥) → b ≡ false
not_held true k = absurd (k refl)
not_held false k = refl

past_length : (s : SessionMeaning) (w : Wire) (d : Typ) (n : ℕ) (r : Option Reader) (h : ArrayHead) → IsNodeOf s w d n r h → IsPastHead s.ext r h → RefusesWire s BadShape w d n
past_length s w d n (Some revised) h read c =
    let plans = at_node (λ f m b k. PlansChildren codec s.ext Encodings.primitive f m b k c.places) h w d n read.head c.plan in
    let past = held_at false h w d n read.id read.head read.named (not_held (revised_holds h.serialized_id h.len) c.past) in (
      [],
      record {
        encoding = Encodings.primitive;
        by = own_encoding s w d n (Some revised) Encodings.primitive h read refl;
        value = plans.value;
        metadata = plans.metadata;
        broken = inr (inr (inr (record { by = record { id = read.id; id_is = read.id_is; reader_is = read.reader_is }; past = past })));
      },
    )
past_length s w d n _ h read c = absurd (c.past tt)

pub caused_by_plan : (s : SessionMeaning) (x : WireError) (w : Wire) (d : Typ) (n : ℕ) (r : Option Reader) (h : ArrayHead) → IsNodeOf s w d n r h → RefusesPlan x s.ext r h → RefusesWire s x w d n
caused_by_plan s OutOfMemory w d n r h read c = tt
caused_by_plan s BadMetadata w d n r h read c =
    let k = there (encoding_by r) (λ e. HasNoMetadata codec s.ext e (typ h.dtype) h.metadata) c in
    no_metadata s w d n k.0 h read.head (own_encoding s w d n r k.0 h read k.1) k.2
caused_by_plan s BadShape w d n r h read (inl c) =
    let k = there (encoding_by r) (λ e. HasNoPlan codec s.ext e (typ h.dtype) h.len h.metadata h.nchildren) c in
    no_plan s w d n k.0 h read.head (own_encoding s w d n r k.0 h read k.1) k.2
caused_by_plan s BadShape w d n r h read (inr c) = past_length s w d n r h read c
caused_by_plan s PluginRefused w d n (Some (plugin p)) h read c = (
  [],
  record {
    means = p;
    by = record { id = read.id; id_is = read.id_is; reader_is = read.reader_is };
    refuses = inl (record { id = read.id; id_is = read.id_is; none = ap (λ z. p.plan z s.ext) (sym (told_head h w d n read.id read.head read.named)) ∙ c });
  },
)
caused_by_plan s _ w d n r h read c = absurd c

-- No other buffers may stand for those that are there.
standing : (bs cs : List Buffer) → MayStandFor (all_present bs) cs → cs ≡ bs
standing [] cs m = m
standing (b ∷ bs) [] m = absurd m
standing (b ∷ bs) (c ∷ cs) m = λ i. m.0 i ∷ standing bs cs m.1 i

-- Parts with as many children are of the same shape.
content_broken : (e : Encodings.Encoding) (d : Typ) (n : ℕ) (v : Metadata) (bs : List Buffer) (j k : ℕ) (ts : Trees) → j ≡ k → (x : IsShaped e d n v bs j) → (Content d n x.body (rows_below ts) → ⊥)
    → (y : IsShaped e d n v bs k) × (Content d n y.body (rows_below ts) → ⊥)
content_broken e d n v bs j k ts same x wrong =
    (record { body = x.body; body_is = x.body_is; holds = x.holds; allows = subst (λ (z : ℕ). Allows e d v z) same x.allows }, wrong)

-- Arrays that the children decode to are a node's children.
children_of : (s : SessionMeaning) (w : Wire) (ws : List Wire) (ps : List Place) (ts : Trees) → roses_of ws ≡ below w → AllTell codec s (roses_of ws) ps ts → HasChildren codec s w ps ts
children_of s w ws ps ts own told = subst (λ z. AllTell codec s z ps ts) own told

-- The head that a plugin is given with the parts.
head_of_parts : (s : SessionMeaning) (w : Wire) (d : Typ) (n : ℕ) (id : List ℕ) (h : ArrayHead) (bs : List Buffer) (ts : Trees) → IsHeadOf h w d n → h.serialized_id ≡ id → (label w).buffers ≡ all_present bs → AllMatch codec s (below w) ts
    → head_over h bs ts ≡ head_at id (label w) (count (below w)) d n
head_of_parts s w d n id h bs ts is named own matched =
    let k = matched_count codec s (below w) ts matched in
    let b : length bs ≡ length (label w).buffers = sym (ap (λ z. length z) own ∙ length-map bs (λ b. Some b)) in
    λ i. record { id = named i; dtype = is.dtype i; len = is.len i; metadata = is.metadata i; nbuffers = b i; nchildren = k i }

-- Why an encoding that has planned builds nothing, by its refusal.
wrong_shape : (s : SessionMeaning) (w : Wire) (d : Typ) (n : ℕ) (e : Encodings.Encoding) (h : ArrayHead) (bs : List Buffer) (ws : List Wire) (ps : List Place) (ts : Trees) → IsHeadOf h w d n → IsOf s w e
    → PlansChildren codec s.ext e (typ h.dtype) h.len h.metadata h.nchildren ps → (label w).buffers ≡ all_present bs → roses_of ws ≡ below w → AllTell codec s (roses_of ws) ps ts → HasWrongShape codec s.ext e (typ h.dtype) h.len h.metadata bs ts → RefusesWire s BadShape w d n
wrong_shape s w d n e h bs ws ps ts head by plan own own_children told c =
    let wrong = at_node (λ f m b k. HasWrongShape codec s.ext e f m b bs ts) h w d n head c in
    let plans = at_node (λ f m b k. PlansChildren codec s.ext e f m b k ps) h w d n head plan in
    let kids = children_of s w ws ps ts own_children told in
    let same : count (below w) ≡ count ts = sym (matched_count codec s (below w) ts kids.matched) in
    let value = one_value s.ext e d (label w).metadata plans.value wrong.value plans.metadata wrong.metadata in
    let plan_is = ap (λ z. plan_of e d n z (count (below w))) (sym value) ∙ plans.plan in
    let shaped : (IsShaped e d n wrong.value bs (count ts) → ⊥) → (cs : List Buffer) → MayStandFor (label w).buffers cs → IsShaped e d n wrong.value cs (count (below w)) → ⊥ =
    λ never cs stand fits.
    let B : List (Option Buffer) → Type 0 = λ os. MayStandFor os cs in
    let C : List Buffer → Type 0 = λ z. IsShaped e d n wrong.value z (count (below w)) in
    let D : ℕ → Type 0 = λ z. IsShaped e d n wrong.value bs z in
    never (subst D same (subst C (standing bs cs (subst B own stand)) fits))
    in (
      [],
      record {
        encoding = e;
        by = by;
        value = wrong.value;
        metadata = wrong.metadata;
        broken = elim wrong.wrong [ inl never ↦ inr (inl (shaped never)) | inr never ↦ inr (inr (inl (record { places_are = ps; plan = plan_is; children = ts; matched = kids; untaken = never }))) ];
      },
    )

wrong_control : (s : SessionMeaning) (w : Wire) (d : Typ) (n : ℕ) (e : Encodings.Encoding) (h : ArrayHead) (ws : List Wire) (ps : List Place) (ts : Trees) → IsHeadOf h w d n → IsOf s w e
    → PlansChildren codec s.ext e (typ h.dtype) h.len h.metadata h.nchildren ps → roses_of ws ≡ below w → AllTell codec s (roses_of ws) ps ts → HasWrongControl codec s.ext e (typ h.dtype) h.len h.metadata ts → RefusesWire s ForeignControl w d n
wrong_control s w d n e h ws ps ts head by plan own_children told c =
    let wrong = at_node (λ f m b k. HasWrongControl codec s.ext e f m b ts) h w d n head c in
    let plans = at_node (λ f m b k. PlansChildren codec s.ext e f m b k ps) h w d n head plan in
    let value = one_value s.ext e d (label w).metadata plans.value wrong.value plans.metadata wrong.metadata in (
      [],
      record {
        encoding = e;
        by = by;
        value = wrong.value;
        metadata = wrong.metadata;
        places_are = ps;
        plan = ap (λ z. plan_of e d n z (count (below w))) (sym value) ∙ plans.plan;
        children = ts;
        matched = children_of s w ws ps ts own_children told;
        foreign = wrong.foreign;
      },
    )

wrong_content : (s : SessionMeaning) (w : Wire) (d : Typ) (n : ℕ) (e : Encodings.Encoding) (h : ArrayHead) (bs : List Buffer) (ws : List Wire) (ps : List Place) (ts : Trees) → IsHeadOf h w d n → IsOf s w e
    → PlansChildren codec s.ext e (typ h.dtype) h.len h.metadata h.nchildren ps → (label w).buffers ≡ all_present bs → roses_of ws ≡ below w → AllTell codec s (roses_of ws) ps ts → HasWrongContent codec s.ext e (typ h.dtype) h.len h.metadata bs ts → RefusesWire s BadContent w d n
wrong_content s w d n e h bs ws ps ts head by plan own own_children told c =
    let wrong = at_node (λ f m b k. HasWrongContent codec s.ext e f m b bs ts) h w d n head c in
    let plans = at_node (λ f m b k. PlansChildren codec s.ext e f m b k ps) h w d n head plan in
    let kids = children_of s w ws ps ts own_children told in
    let same : count ts ≡ count (below w) = matched_count codec s (below w) ts kids.matched in
    let value = one_value s.ext e d (label w).metadata plans.value wrong.value plans.metadata wrong.metadata in
    let broken = content_broken e d n wrong.value bs (count ts) (count (below w)) ts same wrong.shaped wrong.wrong in (
      [],
      record {
        encoding = e;
        by = by;
        value = wrong.value;
        metadata = wrong.metadata;
        places_are = ps;
        plan = ap (λ z. plan_of e d n z (count (below w))) (sym value) ∙ plans.plan;
        buffers = bs;
        buffers_are = own;
        shaped = broken.0;
        children = ts;
        matched = kids;
        controlled = wrong.controlled;
        broken = broken.1;
      },
    )

pub caused_by_build : (s : SessionMeaning) (x : WireError) (w : Wire) (d : Typ) (n : ℕ) (r : Option Reader) (h : ArrayHead) (bs : List Buffer) (ws : List Wire) (ps : List Place) (ts : Trees) → IsNodeOf s w d n r h
    → PlansBy s.ext r h ps → (label w).buffers ≡ all_present bs → roses_of ws ≡ below w → AllTell codec s (roses_of ws) ps ts → RefusesBuild x s.ext r h bs ts → RefusesWire s x w d n
caused_by_build s OutOfMemory w d n r h bs ws ps ts read plan own own_children told c = tt
caused_by_build s BadShape w d n r h bs ws ps ts read plan own own_children told c =
    let k = there (encoding_by r) (λ e. HasWrongShape codec s.ext e (typ h.dtype) h.len h.metadata bs ts) c in
    wrong_shape s w d n k.0 h bs ws ps ts read.head (own_encoding s w d n r k.0 h read k.1) (plans_own s.ext r k.0 h ps k.1 plan) own own_children told k.2
caused_by_build s ForeignControl w d n r h bs ws ps ts read plan own own_children told c =
    let k = there (encoding_by r) (λ e. HasWrongControl codec s.ext e (typ h.dtype) h.len h.metadata ts) c in
    wrong_control s w d n k.0 h ws ps ts read.head (own_encoding s w d n r k.0 h read k.1) (plans_own s.ext r k.0 h ps k.1 plan) own_children told k.2
caused_by_build s BadContent w d n r h bs ws ps ts read plan own own_children told c =
    let k = there (encoding_by r) (λ e. HasWrongContent codec s.ext e (typ h.dtype) h.len h.metadata bs ts) c in
    wrong_content s w d n k.0 h bs ws ps ts read.head (own_encoding s w d n r k.0 h read k.1) (plans_own s.ext r k.0 h ps k.1 plan) own own_children told k.2
caused_by_build s PluginRefused w d n (Some (plugin p)) h bs ws ps ts read plan own own_children told c =
    let kids = children_of s w ws ps ts own_children told in (
      [],
      record {
        means = p;
        by = record { id = read.id; id_is = read.id_is; reader_is = read.reader_is };
        refuses = inr (record {
          id = read.id;
          id_is = read.id_is;
          places_are = ps;
          plan = ap (λ z. p.plan z s.ext) (sym (told_head h w d n read.id read.head read.named)) ∙ plan;
          buffers = bs;
          buffers_are = own;
          children = ts;
          matched = kids;
          none = ap (λ z. p.build z bs ts s.ext) (sym (head_of_parts s w d n read.id h bs ts read.head read.named own kids.matched)) ∙ c;
        });
      },
    )
caused_by_build s _ w d n r h bs ws ps ts read plan own own_children told c = absurd c

-- What is built is of the type that was asked for.
pub built_dtype : (s : SessionMeaning) (w : Wire) (d : Typ) (n : ℕ) (r : Option Reader) (h : ArrayHead) (bs : List Buffer) (ws : List Wire) (ps : List Place) (ts : Trees) (t : Tree) → IsNodeOf s w d n r h → PlansBy s.ext r h ps
    → (label w).buffers ≡ all_present bs → roses_of ws ≡ below w → AllTell codec s (roses_of ws) ps ts → BuildsBy s.ext r h bs ts t → (label t).dtype ≡ d
built_dtype s w d n (Some (plugin p)) h bs ws ps ts t read plan own own_children told parts =
    let kids = children_of s w ws ps ts own_children told in
    let at = head_at read.id (label w) (count (below w)) d n in
    let planned : p.plan at s.ext ≡ Some (places ts) = ap (λ z. p.plan z s.ext) (sym (told_head h w d n read.id read.head read.named)) ∙ plan ∙ ap (λ (qs : List Place). Some qs) (sym kids.placed) in
    (p.as_asked at bs ts s.ext t planned kids.sound (ap (λ z. p.build z bs ts s.ext) (sym (head_of_parts s w d n read.id h bs ts read.head read.named own kids.matched)) ∙ parts)).0
built_dtype s w d n r h bs ws ps ts t read plan own own_children told parts =
    let k = there (encoding_by r) (λ e. HasParts codec s.ext e (typ h.dtype) h.len h.metadata bs ts t) parts in
    ap (λ (z : Tree). (label z).dtype) k.2.tree_is ∙ read.head.dtype

-- Statistics that a node's table does not show.
pub caused_by_stats : (s : SessionMeaning) (x : WireError) (w : Wire) (d : Typ) (n : ℕ) (r : Option Reader) (h : ArrayHead) → IsSome r → IsNodeOf s w d n r h → RefusesStats x d (label w).stats → RefusesWire s x w d n
caused_by_stats s OutOfMemory w d n r h there read c = tt
caused_by_stats s BadStats w d n None h there read c = absurd (cc)
caused_by_stats s BadStats w d n (Some r) h there read c = ([], record { reader = r; by = record { id = read.id; id_is = read.id_is; reader_is = read.reader_is }; none = c })
caused_by_stats s _ w d n r h there read c = absurd c

-- The array of a planned node's parts, over children that decode to arrays, with the statistics that the node's table
-- shows: the node decodes to it.
pub told_node : (s : SessionMeaning) → IsLawful codec s → (w : Wire) (d : Typ) (n : ℕ) (r : Option Reader) (h : ArrayHead) (ps : List Place) (bs : List Buffer) (ws : List Wire) (ts : Trees) (t u : Tree) → IsNodeOf s w d n r h
    → PlansBy s.ext r h ps → (label w).buffers ≡ all_present bs → roses_of ws ≡ below w → AllTell codec s (roses_of ws) ps ts → BuildsBy s.ext r h bs ts t → IsSound t
    → IsToldBy codec d (label w).stats t u → DecodesTo codec s w d n u
told_node s law (node w below) d n None h ps bs ws ts t u read plan own own_children told parts sound stats = absurd parts
told_node s law (node w below) d n (Some (shipped e)) h ps bs ws ts t u read plan own own_children told parts sound stats =
    node_decodes codec s law read.id e w below d n ps bs ts t u read.id_is read.reader_is
    (at_node (λ f m b k. PlansChildren codec s.ext e f m b k ps) h (node w below) d n read.head plan.0) own
    (children_of s (node w below) ws ps ts own_children told)
    (at_node (λ f m b k. HasParts codec s.ext e f m b bs ts t) h (node w below) d n read.head parts) sound stats
told_node s law (node w below) d n (Some revised) h ps bs ws ts t u read plan own own_children told parts sound stats =
    revised_decodes codec s law read.id w below d n ps bs ts t u read.id_is read.reader_is (held_at true h (node w below) d n read.id read.head read.named plan.1)
    (at_node (λ f m b k. PlansChildren codec s.ext Encodings.primitive f m b k ps) h (node w below) d n read.head plan.0) own
    (children_of s (node w below) ws ps ts own_children told)
    (at_node (λ f m b k. HasParts codec s.ext Encodings.primitive f m b bs ts t) h (node w below) d n read.head parts) sound stats
told_node s law (node w below) d n (Some (plugin p)) h ps bs ws ts t u read plan own own_children told parts sound stats =
    let kids = children_of s (node w below) ws ps ts own_children told in
    plugin_decodes codec s law.stats read.id p w below d n ps bs ts t u read.id_is read.reader_is
    (ap (λ z. p.plan z s.ext) (sym (told_head h (node w below) d n read.id read.head read.named)) ∙ plan) own kids
    (ap (λ z. p.build z bs ts s.ext) (sym (head_of_parts s (node w below) d n read.id h bs ts read.head read.named own kids.matched)) ∙ parts) sound stats
