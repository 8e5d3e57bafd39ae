-- What a node holds is given back by its metadata and its buffers.
use Rattle.std.proofs.Common.{◌≡◌, ◌⊎◌, inl, inr, List, [], ◌∷◌, ◌++◌, Some, option_map, refl, sym, ap, Bool}
use Rattle.vx_buffer.specs.Buffer.{Buffer}
use Rattle.vx_array_tree.specs.Body.{Body}
use Rattle.vx_array_tree.specs.Body as B
use Rattle.vx_array_tree.specs.Encoding as E
use Rattle.vx_array_tree.specs.Encodings.Foreigns as Foreigns
use Rattle.vx_array_tree.specs.Encodings.VarBinViews as VarBinViews
use Rattle.vx_array_tree.specs.Normal.{IsNormalBy}
use Rattle.vx_array_tree.specs.Place.{Place}
use Rattle.vx_array_tree.specs.Table.{encoding_of, metadata_of, buffers_of, body_of, cleared, id_of, own_id, IsNative, IsNormalBody}
use Rattle.vx_array_tree.specs.Tree.{Head, Trees, places}

data_last : (b : Buffer) (bs : List Buffer) (v : Buffer) → VarBinViews.data_of b (bs ++ v ∷ []) ≡ record { buffers = b ∷ bs; views = v }
data_last b [] v = refl
data_last b (c ∷ bs) v = ap (λ (x : VarBinViews.Data). record { buffers = b ∷ x.buffers; views = x.views }) (data_last c bs v)

-- The last of a node's buffers are its views.
views_last : (bs : List Buffer) (v : Buffer) → VarBinViews.body_of (bs ++ v ∷ []) ≡ Some (record { buffers = bs; views = v })
views_last [] v = refl
views_last (b ∷ bs) v = ap (λ (x : VarBinViews.Data). Some x) (data_last b bs v)

-- A node's metadata and buffers give back all that it holds but a list view's flag.
pub body_again : (b : Body) (ps : List Place) → body_of (encoding_of b) (metadata_of b ps) (buffers_of b) ≡ Some (cleared b)
body_again (B.varbinview x) ps = ap (λ o. option_map B.varbinview o) (views_last x.buffers x.views)
body_again _ ps = refl

-- A node is of an encoding that is known, or foreign.
pub native_or : (b : Body) → IsNative b ⊎ ((x : Foreigns.Data) × (b ≡ B.foreign x))
native_or (B.foreign x) = inr (x, refl)
native_or _ = inl tt

pub foreign_is : (b : Body) → encoding_of b ≡ E.foreign → (x : Foreigns.Data) × (b ≡ B.foreign x)
foreign_is (B.foreign x) e = (x, refl)
foreign_is _ e = absurd (cc)

-- Its identifier is then its encoding's.
pub native_id : (b : Body) → IsNative b → own_id b ≡ id_of (encoding_of b)
native_id (B.foreign x) k = absurd k
native_id _ k = refl

-- A node of an encoding that is known is normal just where its encoding says so.
pub normal_by : (b : Body) (h : Head) (ts : Trees) → IsNative b → IsNormalBody b h.dtype (places ts) → IsNormalBy b h ts
normal_by (B.foreign x) h ts k n = absurd k
normal_by _ h ts k n = n

pub body_normal : (b : Body) (h : Head) (ts : Trees) → IsNormalBy b h ts → IsNormalBody b h.dtype (places ts)
body_normal (B.foreign x) h ts n = tt
body_normal _ h ts n = n

-- In its normal form a node has no flag to clear.
pub normal_cleared : (b : Body) (h : Head) (ts : Trees) → IsNormalBy b h ts → cleared b ≡ b
normal_cleared (B.listview x) h ts p = ap (λ (z : Bool). B.listview (record { zero_copy = z })) (sym p)
normal_cleared _ h ts p = refl

pub cleared_native : (b : Body) → IsNative b → IsNative (cleared b)
cleared_native (B.listview x) k = tt
cleared_native _ k = k

-- A flag tells nothing of encoding, metadata or buffers.
pub cleared_encoding : (b : Body) → encoding_of (cleared b) ≡ encoding_of b
cleared_encoding (B.listview x) = refl
cleared_encoding _ = refl

pub cleared_metadata : (b : Body) (ps : List Place) → metadata_of (cleared b) ps ≡ metadata_of b ps
cleared_metadata (B.listview x) ps = refl
cleared_metadata _ ps = refl

pub cleared_buffers : (b : Body) → buffers_of (cleared b) ≡ buffers_of b
cleared_buffers (B.listview x) = refl
cleared_buffers _ = refl

pub cleared_twice : (b : Body) → cleared (cleared b) ≡ cleared b
cleared_twice (B.listview x) = refl
cleared_twice _ = refl
