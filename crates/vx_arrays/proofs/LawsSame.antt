-- Laws of equality, of hashes and of other buffers, for the crates above.
use Rattle.std.proofs.Common.{◌≡◌, List, [], ◌∷◌, Option, Some, option_map, map, refl, sym, ap, ◌∙◌}
use Rattle.std.proofs.lemmas.Option.{same_Some}
use Rattle.vx_buffer.specs.Buffer.{Buffer}
use Rattle.vx_trees.specs.Rose.{node, label}
use Rattle.vx_scalars.specs.Stats.{Stats}
use Rattle.vx_array_tree.specs.Body.{Body}
use Rattle.vx_array_tree.specs.Body as B
use Rattle.vx_array_tree.specs.Encodings.Foreigns as Foreigns
use Rattle.vx_array_tree.specs.Encodings.VarBinViews as VarBinViews
use Rattle.vx_array_tree.specs.Metadata as M
use Rattle.vx_array_tree.specs.Encoding as E
use Rattle.vx_array_tree.specs.Table.{buffers_of}
use Rattle.vx_array_tree.specs.Tree.{Tree, Head, untold, with_stats}
use Rattle.vx_array_tree.proofs.Built.{body_buffers}
use Rattle.vx_array_tree.proofs.Options.{mapped}
use Rattle.vx_arrays.specs.Compared.{IsSame, bare, compared_body, compared, each_compared, fed_array}
use Rattle.vx_arrays.specs.NewBuffers.{rebuffered, with_buffers}
use Rattle.vx_arrays.proofs.Feeding.{bare_buffers}
use Rattle.vx_arrays.proofs.Bodies.VarBinViews.{views_last}

-- ---- equality is an equivalence, and equal arrays are fed to a hash alike

pub same_itself : (t : Tree) → IsSame t t
same_itself t = refl

pub same_back : (t u : Tree) → IsSame t u → IsSame u t
same_back t u e = sym e

pub same_through : (t u v : Tree) → IsSame t u → IsSame u v → IsSame t v
same_through t u v e f = e ∙ f

pub same_fed : (t u : Tree) → IsSame t u → fed_array (compared t) ≡ fed_array (compared u)
same_fed t u e = ap fed_array e

-- Arrays that differ by their statistics alone are equal.
pub same_told : (x : Stats) (t : Tree) → IsSame (with_stats x t) t
same_told x (node h ts) = refl

-- ---- other buffers

-- What is made with buffers has these.
body_has : (b c : Body) (bs : List Buffer) → rebuffered b bs ≡ Some c → buffers_of c ≡ bs
body_has (B.bool x) c bs e = body_buffers E.bool (M.bool x.offset) bs c e
body_has (B.primitive x) c bs e = body_buffers E.primitive M.empty bs c e
body_has (B.decimal x) c bs e = body_buffers E.decimal (M.decimal x.values_type) bs c e
body_has (B.varbin x) c bs e = with_metadata bs e
  where
    with_metadata : (bs : List Buffer) → rebuffered (B.varbin x) bs ≡ Some c → buffers_of c ≡ bs
    with_metadata [] e = absurd (cc)
    with_metadata (b ∷ []) e = ap (λ z. buffers_of z) (sym (same_Some (B.varbin (record { bytes = b })) c e))
    with_metadata (b ∷ d ∷ bs) e = absurd (cc)
body_has (B.varbinview x) c bs e = body_buffers E.varbinview M.empty bs c e
body_has B.null c [] e = ap (λ z. buffers_of z) (sym (same_Some B.null c e))
body_has B.list c [] e = ap (λ z. buffers_of z) (sym (same_Some B.list c e))
body_has (B.listview x) c [] e = ap (λ z. buffers_of z) (sym (same_Some (B.listview x) c e))
body_has B.fixed_size_list c [] e = ap (λ z. buffers_of z) (sym (same_Some B.fixed_size_list c e))
body_has B.map c [] e = ap (λ z. buffers_of z) (sym (same_Some B.map c e))
body_has B.struct c [] e = ap (λ z. buffers_of z) (sym (same_Some B.struct c e))
body_has B.union c [] e = ap (λ z. buffers_of z) (sym (same_Some B.union c e))
body_has B.variant c [] e = ap (λ z. buffers_of z) (sym (same_Some B.variant c e))
body_has B.ext c [] e = ap (λ z. buffers_of z) (sym (same_Some B.ext c e))
body_has (B.dict x) c [] e = ap (λ z. buffers_of z) (sym (same_Some (B.dict x) c e))
body_has (B.foreign x) c bs e = ap (λ z. buffers_of z) (sym (same_Some (B.foreign (Foreigns.body_of (Foreigns.metadata_of x) bs)) c e))
body_has _ c (d ∷ bs) e = absurd (cc)

pub has_buffers : (t u : Tree) (bs : List Buffer) → with_buffers t bs ≡ Some u → buffers_of (label u).body ≡ bs
has_buffers (node h ts) u bs e =
    let f = λ (b : Body). node (let g : Head = record { dtype = h.dtype; len = h.len; stats = h.stats; body = b } in g) ts in
    let m = mapped f (rebuffered h.body bs) u e in
    ap (λ (v : Tree). buffers_of (label v).body) (m.1) ∙ body_has h.body m.0 bs m.2

-- With its own buffers an array is what it was.
own_body : (b : Body) → rebuffered b (buffers_of b) ≡ Some b
own_body (B.bool x) = refl
own_body (B.primitive x) = refl
own_body (B.decimal x) = refl
own_body (B.varbin x) = refl
own_body (B.varbinview x) = ap (λ o. option_map B.varbinview o) (views_last x.buffers x.views)
own_body B.null = refl
own_body B.list = refl
own_body (B.listview x) = refl
own_body B.fixed_size_list = refl
own_body B.map = refl
own_body B.struct = refl
own_body B.union = refl
own_body B.variant = refl
own_body B.ext = refl
own_body (B.dict x) = refl
own_body (B.foreign x) = refl

pub own_buffers : (t : Tree) → with_buffers t (buffers_of (label t).body) ≡ Some t
own_buffers (node h ts) = ap (λ (o : Option Body). option_map (λ (b : Body). node (let g : Head = record { dtype = h.dtype; len = h.len; stats = h.stats; body = b } in g) ts) o) (own_body h.body)

-- What is compared of a node with other buffers is what is compared of it, with these without their alignments.
bare_data : VarBinViews.Data → VarBinViews.Data
bare_data x = record { buffers = map bare x.buffers; views = bare x.views }

data_bare : (b : Buffer) (bs : List Buffer) → VarBinViews.data_of (bare b) (map bare bs) ≡ bare_data (VarBinViews.data_of b bs)
unfolding bare_data
data_bare b [] = refl
data_bare b (c ∷ bs) = ap (λ (x : VarBinViews.Data). let y : VarBinViews.Data = record { buffers = bare b ∷ x.buffers; views = x.views } in y) (data_bare c bs)

rebuffered_bare : (b : Body) (bs : List Buffer) → rebuffered (compared_body b) (map bare bs) ≡ option_map compared_body (rebuffered b bs)
unfolding bare_data
rebuffered_bare (B.bool x) [] = refl
rebuffered_bare (B.bool x) (b ∷ []) = refl
rebuffered_bare (B.bool x) (b ∷ c ∷ bs) = refl
rebuffered_bare (B.primitive x) [] = refl
rebuffered_bare (B.primitive x) (b ∷ []) = refl
rebuffered_bare (B.primitive x) (b ∷ c ∷ bs) = refl
rebuffered_bare (B.decimal x) [] = refl
rebuffered_bare (B.decimal x) (b ∷ []) = refl
rebuffered_bare (B.decimal x) (b ∷ c ∷ bs) = refl
rebuffered_bare (B.varbin x) [] = refl
rebuffered_bare (B.varbin x) (b ∷ []) = refl
rebuffered_bare (B.varbin x) (b ∷ c ∷ bs) = refl
rebuffered_bare (B.varbinview x) [] = refl
rebuffered_bare (B.varbinview x) (b ∷ bs) = ap (λ y. Some (B.varbinview y)) (data_bare b bs)
rebuffered_bare B.null [] = refl
rebuffered_bare B.null (d ∷ bs) = refl
rebuffered_bare B.list [] = refl
rebuffered_bare B.list (d ∷ bs) = refl
rebuffered_bare (B.listview x) [] = refl
rebuffered_bare (B.listview x) (d ∷ bs) = refl
rebuffered_bare B.fixed_size_list [] = refl
rebuffered_bare B.fixed_size_list (d ∷ bs) = refl
rebuffered_bare B.map [] = refl
rebuffered_bare B.map (d ∷ bs) = refl
rebuffered_bare B.struct [] = refl
rebuffered_bare B.struct (d ∷ bs) = refl
rebuffered_bare B.union [] = refl
rebuffered_bare B.union (d ∷ bs) = refl
rebuffered_bare B.variant [] = refl
rebuffered_bare B.variant (d ∷ bs) = refl
rebuffered_bare B.ext [] = refl
rebuffered_bare B.ext (d ∷ bs) = refl
rebuffered_bare (B.dict x) [] = refl
rebuffered_bare (B.dict x) (d ∷ bs) = refl
rebuffered_bare (B.foreign x) bs = refl

-- With buffers that have the bytes of its own an array is equal to what it was.
pub same_bytes : (t u : Tree) (bs : List Buffer) → with_buffers t bs ≡ Some u → map bare bs ≡ map bare (buffers_of (label t).body) → IsSame u t
same_bytes (node h ts) u bs e q =
    let f = λ (b : Body). node (let g : Head = record { dtype = h.dtype; len = h.len; stats = h.stats; body = b } in g) ts in
    let m = mapped f (rebuffered h.body bs) u e in
    let k : compared_body m.0 ≡ compared_body h.body =
    same_Some (compared_body m.0) (compared_body h.body)
    (ap (λ o. option_map compared_body o) (sym m.2) ∙ sym (rebuffered_bare h.body bs) ∙ ap (λ cs. rebuffered (compared_body h.body) cs) (q ∙ sym (bare_buffers h.body)) ∙ own_body (compared_body h.body)) in
    ap compared m.1 ∙ (λ i. node (untold h.dtype h.len (k i)) (each_compared ts))
