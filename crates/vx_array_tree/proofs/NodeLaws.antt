-- A node and its parts: metadata, buffers and the places of its children.
use Rattle.std.proofs.Common.{ℕ, ◌≡◌, List, [], ◌∷◌, Some, refl, sym, ap, ◌∙◌, subst}
use Rattle.std.proofs.lemmas.Option.{same_Some}
use Rattle.vx_buffer.specs.Buffer.{Buffer}
use Rattle.vx_trees.specs.Rose.{count}
use Rattle.vx_types.specs.Typ.{Typ}
use Rattle.vx_scalars.proofs.LawsStats.{none_fit}
use Rattle.vx_array_tree.specs.Body.{Body}
use Rattle.vx_array_tree.specs.Body as B
use Rattle.vx_array_tree.specs.Encoding.{Encoding}
use Rattle.vx_array_tree.specs.Encoding as E
use Rattle.vx_array_tree.specs.Encodings.Foreigns as Foreigns
use Rattle.vx_array_tree.specs.Metadata.{Metadata}
use Rattle.vx_array_tree.specs.Metadata as M
use Rattle.vx_array_tree.specs.Normal.{IsNormalNode}
use Rattle.vx_array_tree.specs.Place.{Place}
use Rattle.vx_array_tree.specs.Sound.{IsSoundNode, IsControlled, metadata_in}
use Rattle.vx_array_tree.specs.Table.{encoding_of, metadata_of, buffers_of, body_of, plan_of, lifted, cleared, IsFair, IsShaped, Allows, Holds, Takes, Content}
use Rattle.vx_array_tree.specs.Tree.{Head, Trees, places, encodings, rows_below, untold}
use Rattle.vx_array_tree.proofs.Bodies.{body_again, normal_cleared}
use Rattle.vx_array_tree.proofs.Options.{mapped}
use Rattle.vx_array_tree.proofs.Plans.{metadata_again, bufferless_is}
use Rattle.vx_array_tree.proofs.Retyped.{normal_places}

-- ---- what is built of parts

-- A body that is built of an encoding's parts is of that encoding.
pub body_encoding : (e : Encoding) (v : Metadata) (bs : List Buffer) (b : Body) → body_of e v bs ≡ Some b → encoding_of b ≡ e
body_encoding E.null M.empty bs b p = rw (bufferless_is B.null bs b p) refl
body_encoding E.bool (M.bool v) bs b p = let m = mapped B.bool _ b p in rw (m.1) refl
body_encoding E.primitive M.empty bs b p = let m = mapped B.primitive _ b p in rw (m.1) refl
body_encoding E.decimal (M.decimal v) bs b p = let m = mapped B.decimal _ b p in rw (m.1) refl
body_encoding E.varbin (M.varbin v) bs b p = let m = mapped B.varbin _ b p in rw (m.1) refl
body_encoding E.varbinview M.empty bs b p = let m = mapped B.varbinview _ b p in rw (m.1) refl
body_encoding E.list (M.list v) bs b p = rw (bufferless_is B.list bs b p) refl
body_encoding E.listview (M.listview v) bs b p = rw (bufferless_is _ bs b p) refl
body_encoding E.fixed_size_list M.empty bs b p = rw (bufferless_is B.fixed_size_list bs b p) refl
body_encoding E.map M.empty bs b p = rw (bufferless_is B.map bs b p) refl
body_encoding E.struct M.empty bs b p = rw (bufferless_is B.struct bs b p) refl
body_encoding E.union M.empty bs b p = rw (bufferless_is B.union bs b p) refl
body_encoding E.variant (M.variant v) bs b p = rw (bufferless_is B.variant bs b p) refl
body_encoding E.ext M.empty bs b p = rw (bufferless_is B.ext bs b p) refl
body_encoding E.dict (M.dict v) bs b p = rw (bufferless_is _ bs b p) refl
body_encoding E.foreign (M.foreign v) bs b p = ap (λ z. encoding_of z) (sym (same_Some (B.foreign (Foreigns.body_of v bs)) b p))
body_encoding _ v bs b p = absurd (cc)

-- The nullability that codes bring to values is no part of metadata.
lifted_metadata : (d : Typ) (n : ℕ) (b : Body) (ps : List Place) → metadata_of b (lifted d n b ps) ≡ metadata_of b ps
lifted_metadata d n (B.dict x) [] = refl
lifted_metadata d n (B.dict x) (c ∷ []) = refl
lifted_metadata d n (B.dict x) (c ∷ v ∷ ps) = refl
lifted_metadata d n _ ps = refl

-- A node that is built over children as they are planned has the metadata that it was built by.
pub built_metadata : (e : Encoding) (d : Typ) (n : ℕ) (v : Metadata) (bs : List Buffer) (b : Body) (ts : Trees) → body_of e v bs ≡ Some b → plan_of e d n v (count ts) ≡ Some (lifted d n b (places ts))
    → metadata_of b (places ts) ≡ v
built_metadata e d n v bs b ts p q = sym (lifted_metadata d n b (places ts)) ∙ metadata_again e d n v (count ts) bs b (lifted d n b (places ts)) p q

-- Without statistics it is sound, where its parts are as its encoding asks.
pub built_sound : (e : Encoding) (d : Typ) (n : ℕ) (v : Metadata) (bs : List Buffer) (ts : Trees) (x : IsShaped e d n v bs (count ts)) → IsFair e v
    → plan_of e d n v (count ts) ≡ Some (lifted d n x.body (places ts)) → Takes e (encodings ts) → IsControlled (untold d n x.body) ts → Content d n x.body (rows_below ts) → IsSoundNode (untold d n x.body) ts
built_sound e d n v bs ts x f p k r c =
    let g : e ≡ encoding_of x.body = sym (body_encoding e v bs x.body x.body_is) in
    let m : v ≡ metadata_of x.body (places ts) = sym (built_metadata e d n v bs x.body ts x.body_is p) in
    record {
      fair = subst (λ (z : Metadata). IsFair (encoding_of x.body) z) m (subst (λ (z : Encoding). IsFair z v) g f);
      planned = (λ i. plan_of (sym g i) d n (sym m i) (count ts)) ∙ p;
      allows = subst (λ (z : Metadata). Allows (encoding_of x.body) d z (count ts)) m (subst (λ (z : Encoding). Allows z d v (count ts)) g x.allows);
      takes = subst (λ (z : Encoding). Takes z (encodings ts)) g k;
      holds = x.holds;
      controlled = r;
      content = c;
      stats = none_fit d;
    }

cleared_holds : (d : Typ) (n : ℕ) (b : Body) → Holds d n b → Holds d n (cleared b)
cleared_holds d n (B.listview x) h = h
cleared_holds d n _ h = h

-- And the parts of a sound node are as its encoding asks: what they hold is the node's, but for a flag.
pub sound_shaped : (h : Head) (ts : Trees) → IsSoundNode h ts → IsShaped (encoding_of h.body) h.dtype h.len (metadata_in h ts) (buffers_of h.body) (count ts)
sound_shaped h ts s = record { body = cleared h.body; body_is = body_again h.body (places ts); holds = cleared_holds h.dtype h.len h.body s.holds; allows = s.allows }

-- ---- normal nodes

-- A sound normal node's children stand just where they are planned.
pub planned_places : (h : Head) (ts : Trees) → IsSoundNode h ts → IsNormalNode h ts → plan_of (encoding_of h.body) h.dtype h.len (metadata_in h ts) (count ts) ≡ Some (places ts)
planned_places h ts s n = s.planned ∙ ap (λ (ps : List Place). Some ps) (normal_places h.body h ts n s.allows)

-- Its metadata and buffers give back all that it holds.
pub own_body : (h : Head) (ts : Trees) → IsNormalNode h ts → body_of (encoding_of h.body) (metadata_in h ts) (buffers_of h.body) ≡ Some h.body
own_body h ts n = body_again h.body (places ts) ∙ ap (λ (b : Body). Some b) (normal_cleared h.body h ts n)

-- Two sound normal nodes of one type, with as many rows, of one encoding, and with the same metadata, buffers,
-- statistics and number of children, are equal, and their children stand at the same places.
pub record IsSameNode (h g : Head) (ts us : Trees) : Type 0 where
  pub dtype : h.dtype ≡ g.dtype
  pub len : h.len ≡ g.len
  pub encoding : encoding_of h.body ≡ encoding_of g.body
  pub metadata : metadata_in h ts ≡ metadata_in g us
  pub buffers : buffers_of h.body ≡ buffers_of g.body
  pub stats : h.stats ≡ g.stats
  pub children : count ts ≡ count us

pub same_body : (h g : Head) (ts us : Trees) → IsSameNode h g ts us → IsNormalNode h ts → IsNormalNode g us → h.body ≡ g.body
same_body h g ts us q nh ng =
    same_Some h.body g.body (sym (own_body h ts nh) ∙ (λ i. body_of (q.encoding i) (q.metadata i) (q.buffers i)) ∙ own_body g us ng)

pub same_head : (h g : Head) (ts us : Trees) → IsSameNode h g ts us → IsNormalNode h ts → IsNormalNode g us → h ≡ g
same_head h g ts us q nh ng =
    let b = same_body h g ts us q nh ng in
    let d = q.dtype in
    let n = q.len in
    let x = q.stats in
    λ i. record { dtype = d i; len = n i; stats = x i; body = b i }

pub same_places : (h g : Head) (ts us : Trees) → IsSameNode h g ts us → IsSoundNode h ts → IsSoundNode g us → IsNormalNode h ts → IsNormalNode g us → places ts ≡ places us
same_places h g ts us q sh sg nh ng =
    same_Some (places ts) (places us) (sym (planned_places h ts sh nh) ∙ (λ i. plan_of (q.encoding i) (q.dtype i) (q.len i) (q.metadata i) (q.children i)) ∙ planned_places g us sg ng)
