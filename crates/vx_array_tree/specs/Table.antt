-- The table of encodings: for each of them, what its own file says. Nothing else is said of an encoding here.
use Rattle.std.specs.Prelude.{ℕ, ◌≡◌, List, [], ◌∷◌, Option, Some, None, option_map, bytes_eq, if◌then◌else◌, Bool, false}
use Rattle.vx_buffer.specs.Buffer.{Buffer}
use Rattle.vx_types.specs.Typ.{Typ}
use Rattle.vx_array_tree.specs.Encoding.{Encoding}
use Rattle.vx_array_tree.specs.Encoding as E
use Rattle.vx_array_tree.specs.Metadata.{Metadata}
use Rattle.vx_array_tree.specs.Metadata as M
use Rattle.vx_array_tree.specs.Body.{Body}
use Rattle.vx_array_tree.specs.Body as B
use Rattle.vx_array_tree.specs.Place.{Place}
use Rattle.vx_array_tree.specs.Rows.{Rows}
use Rattle.vx_array_tree.specs.Encodings.Nulls as Nulls
use Rattle.vx_array_tree.specs.Encodings.Bools as Bools
use Rattle.vx_array_tree.specs.Encodings.Primitives as Primitives
use Rattle.vx_array_tree.specs.Encodings.Decimals as Decimals
use Rattle.vx_array_tree.specs.Encodings.VarBins as VarBins
use Rattle.vx_array_tree.specs.Encodings.VarBinViews as VarBinViews
use Rattle.vx_array_tree.specs.Encodings.Lists as Lists
use Rattle.vx_array_tree.specs.Encodings.ListViews as ListViews
use Rattle.vx_array_tree.specs.Encodings.FixedSizeLists as FixedSizeLists
use Rattle.vx_array_tree.specs.Encodings.Maps as Maps
use Rattle.vx_array_tree.specs.Encodings.Structs as Structs
use Rattle.vx_array_tree.specs.Encodings.Unions as Unions
use Rattle.vx_array_tree.specs.Encodings.Variants as Variants
use Rattle.vx_array_tree.specs.Encodings.Exts as Exts
use Rattle.vx_array_tree.specs.Encodings.Dicts as Dicts
use Rattle.vx_array_tree.specs.Encodings.Foreigns as Foreigns

-- An encoding's identifier. (Foreign nodes have none in common; each has its own.)
abbrev pub id_of : Encoding → List ℕ
id_of E.null = Nulls.id
id_of E.bool = Bools.id
id_of E.primitive = Primitives.id
id_of E.decimal = Decimals.id
id_of E.varbin = VarBins.id
id_of E.varbinview = VarBinViews.id
id_of E.list = Lists.id
id_of E.listview = ListViews.id
id_of E.fixed_size_list = FixedSizeLists.id
id_of E.map = Maps.id
id_of E.struct = Structs.id
id_of E.union = Unions.id
id_of E.variant = Variants.id
id_of E.ext = Exts.id
id_of E.dict = Dicts.id
id_of E.foreign = []

-- The first of these encodings that has an identifier, if any.
abbrev pub named_in : List ℕ → List Encoding → Option Encoding
named_in id [] = None
named_in id (e ∷ es) = if bytes_eq id (id_of e) then Some e else named_in id es

-- The encoding of an identifier, if one has it.
abbrev pub encoding_named : List ℕ → Option Encoding
encoding_named id = named_in id E.all

-- The encoding that a node is of.
abbrev pub encoding_of : Body → Encoding
encoding_of B.null = E.null
encoding_of (B.bool x) = E.bool
encoding_of (B.primitive x) = E.primitive
encoding_of (B.decimal x) = E.decimal
encoding_of (B.varbin x) = E.varbin
encoding_of (B.varbinview x) = E.varbinview
encoding_of B.list = E.list
encoding_of (B.listview x) = E.listview
encoding_of B.fixed_size_list = E.fixed_size_list
encoding_of B.map = E.map
encoding_of B.struct = E.struct
encoding_of B.union = E.union
encoding_of B.variant = E.variant
encoding_of B.ext = E.ext
encoding_of (B.dict x) = E.dict
encoding_of (B.foreign x) = E.foreign

-- A node's identifier: its encoding's, or a foreign node's own.
abbrev pub own_id : Body → List ℕ
own_id (B.foreign x) = x.id
own_id b = id_of (encoding_of b)

-- An encoding is known: it is not that of foreign nodes.
abbrev pub IsNativeEncoding : Encoding → Type 0
IsNativeEncoding E.foreign = ⊥
IsNativeEncoding _ = Unit {0}

-- A node is of an encoding that is known.
abbrev pub IsNative : Body → Type 0
IsNative b = IsNativeEncoding (encoding_of b)

-- The metadata of a node whose children have these places.
abbrev pub metadata_of : Body → List Place → Metadata
metadata_of (B.bool x) ps = M.bool (Bools.metadata_of x)
metadata_of (B.decimal x) ps = M.decimal (Decimals.metadata_of x)
metadata_of (B.varbin x) ps = M.varbin (VarBins.metadata_of ps)
metadata_of B.list ps = M.list (Lists.metadata_of ps)
metadata_of (B.listview x) ps = M.listview (ListViews.metadata_of ps)
metadata_of B.variant ps = M.variant (Variants.metadata_of ps)
metadata_of (B.dict x) ps = M.dict (Dicts.metadata_of x ps)
metadata_of (B.foreign x) ps = M.foreign (Foreigns.metadata_of x)
metadata_of _ ps = M.empty

-- Whether an encoding admits this metadata. Metadata of another encoding it does not.
abbrev pub IsFair : Encoding → Metadata → Type 0
IsFair E.null M.empty = Unit {0}
IsFair E.bool (M.bool v) = Bools.IsFair v
IsFair E.primitive M.empty = Unit {0}
IsFair E.decimal (M.decimal v) = Unit {0}
IsFair E.varbin (M.varbin v) = VarBins.IsFair v
IsFair E.varbinview M.empty = Unit {0}
IsFair E.list (M.list v) = Lists.IsFair v
IsFair E.listview (M.listview v) = ListViews.IsFair v
IsFair E.fixed_size_list M.empty = Unit {0}
IsFair E.map M.empty = Unit {0}
IsFair E.struct M.empty = Unit {0}
IsFair E.union M.empty = Unit {0}
IsFair E.variant (M.variant v) = Variants.IsFair v
IsFair E.ext M.empty = Unit {0}
IsFair E.dict (M.dict v) = Dicts.IsFair v
IsFair E.foreign (M.foreign v) = Unit {0}
IsFair _ _ = ⊥

-- The buffers that a node holds, in the order in which they are written.
abbrev pub buffers_of : Body → List Buffer
buffers_of (B.bool x) = Bools.buffers_of x
buffers_of (B.primitive x) = Primitives.buffers_of x
buffers_of (B.decimal x) = Decimals.buffers_of x
buffers_of (B.varbin x) = VarBins.buffers_of x
buffers_of (B.varbinview x) = VarBinViews.buffers_of x
buffers_of (B.foreign x) = x.buffers
buffers_of _ = []

-- A node that has no buffers.
abbrev pub bufferless : Body → List Buffer → Option Body
bufferless b [] = Some b
bufferless b (c ∷ bs) = None

-- What a node holds that has this metadata and these buffers, as it is read: none where an encoding has
-- another number of buffers, or other metadata.
abbrev pub body_of : Encoding → Metadata → List Buffer → Option Body
body_of E.null M.empty bs = bufferless B.null bs
body_of E.bool (M.bool v) bs = option_map B.bool (Bools.body_of v bs)
body_of E.primitive M.empty bs = option_map B.primitive (Primitives.body_of bs)
body_of E.decimal (M.decimal v) bs = option_map B.decimal (Decimals.body_of v bs)
body_of E.varbin (M.varbin v) bs = option_map B.varbin (VarBins.body_of bs)
body_of E.varbinview M.empty bs = option_map B.varbinview (VarBinViews.body_of bs)
body_of E.list (M.list v) bs = bufferless B.list bs
body_of E.listview (M.listview v) bs = bufferless (B.listview ListViews.body_of) bs
body_of E.fixed_size_list M.empty bs = bufferless B.fixed_size_list bs
body_of E.map M.empty bs = bufferless B.map bs
body_of E.struct M.empty bs = bufferless B.struct bs
body_of E.union M.empty bs = bufferless B.union bs
body_of E.variant (M.variant v) bs = bufferless B.variant bs
body_of E.ext M.empty bs = bufferless B.ext bs
body_of E.dict (M.dict v) bs = bufferless (B.dict (Dicts.body_of v)) bs
body_of E.foreign (M.foreign v) bs = Some (B.foreign (Foreigns.body_of v bs))
body_of _ _ bs = None

-- Where the k children of a node are to stand, by its encoding, its type, its rows and its metadata: none where the
-- type is of another kind, k children do not fit, or a length cannot be counted. This is the one statement of the
-- children's places.
abbrev pub plan_of : Encoding → Typ → ℕ → Metadata → ℕ → Option (List Place)
plan_of E.null d n M.empty k = Nulls.plan d n k
plan_of E.bool d n (M.bool v) k = Bools.plan d n k
plan_of E.primitive d n M.empty k = Primitives.plan d n k
plan_of E.decimal d n (M.decimal v) k = Decimals.plan d n k
plan_of E.varbin d n (M.varbin v) k = VarBins.plan d n v k
plan_of E.varbinview d n M.empty k = VarBinViews.plan d n k
plan_of E.list d n (M.list v) k = Lists.plan d n v k
plan_of E.listview d n (M.listview v) k = ListViews.plan d n v k
plan_of E.fixed_size_list d n M.empty k = FixedSizeLists.plan d n k
plan_of E.map d n M.empty k = Maps.plan d n k
plan_of E.struct d n M.empty k = Structs.plan d n k
plan_of E.union d n M.empty k = Unions.plan d n k
plan_of E.variant d n (M.variant v) k = Variants.plan d n v k
plan_of E.ext d n M.empty k = Exts.plan d n k
plan_of E.dict d n (M.dict v) k = Dicts.plan d n v k
plan_of E.foreign d n (M.foreign v) k = Foreigns.plan d n k
plan_of _ d n v k = None

-- What is planned may stand: a validity, or codes that are null, only where rows may be null.
abbrev pub Allows : Encoding → Typ → Metadata → ℕ → Type 0
Allows E.bool d v k = Bools.Allows d k
Allows E.primitive d v k = Primitives.Allows d k
Allows E.decimal d v k = Decimals.Allows d k
Allows E.varbin d v k = VarBins.Allows d k
Allows E.varbinview d v k = VarBinViews.Allows d k
Allows E.list d v k = Lists.Allows d k
Allows E.listview d v k = ListViews.Allows d k
Allows E.fixed_size_list d v k = FixedSizeLists.Allows d k
Allows E.struct d v k = Structs.Allows d k
Allows E.dict d (M.dict v) k = Dicts.Allows d v
Allows _ d v k = Unit {0}

-- A node's buffers have the lengths and alignments that its rows ask for.
abbrev pub Holds : Typ → ℕ → Body → Type 0
Holds d n (B.bool x) = Bools.Holds n x
Holds d n (B.primitive x) = Primitives.Holds d n x
Holds d n (B.decimal x) = Decimals.Holds n x
Holds d n (B.varbinview x) = VarBinViews.Holds n x
Holds d n _ = Unit {0}

-- The parts of a node, before it is built, have the shape that its encoding requires: they hold a body whose buffers
-- are right, and this number of children may stand.
pub record IsShaped (e : Encoding) (d : Typ) (n : ℕ) (v : Metadata) (bs : List Buffer) (k : ℕ) : Type 0 where
  pub body : Body
  pub body_is : body_of e v bs ≡ Some body
  pub holds : Holds d n body
  pub allows : Allows e d v k

-- The encodings that a node's children may be of.
abbrev pub Takes : Encoding → List Encoding → Type 0
Takes E.map es = Maps.Takes es
Takes _ es = Unit {0}

-- Whether child i of a node's k children is a control child: a validity, codes, offsets, sizes or tags.
abbrev pub is_control : Encoding → Typ → ℕ → ℕ → Bool
is_control E.bool d k i = Bools.is_control i
is_control E.primitive d k i = Primitives.is_control i
is_control E.decimal d k i = Decimals.is_control i
is_control E.varbin d k i = VarBins.is_control i
is_control E.varbinview d k i = VarBinViews.is_control i
is_control E.list d k i = Lists.is_control i
is_control E.listview d k i = ListViews.is_control i
is_control E.fixed_size_list d k i = FixedSizeLists.is_control i
is_control E.struct d k i = Structs.is_control d k i
is_control E.union d k i = Unions.is_control i
is_control E.dict d k i = Dicts.is_control i
is_control _ d k i = false

-- The places that a plan is compared with: the children's own, but that a dictionary's values may lack
-- nullability that its codes bring, and that a foreign node's children may stand anywhere.
abbrev pub lifted : Typ → ℕ → Body → List Place → List Place
lifted d n (B.dict x) ps = Dicts.lifted ps
lifted d n (B.foreign x) ps = Foreigns.lifted d n ps
lifted d n _ ps = ps

-- What a node's content is to be, by its children's rows.
abbrev pub Content : Typ → ℕ → Body → List Rows → Type 0
Content d n (B.varbin x) rs = VarBins.Content d n x rs
Content d n (B.varbinview x) rs = VarBinViews.Content d n x rs
Content d n B.list rs = Lists.Content n rs
Content d n (B.listview x) rs = ListViews.Content n rs
Content d n B.union rs = Unions.Content d n rs
Content d n (B.dict x) rs = Dicts.Content n rs
Content d n _ rs = Unit {0}

-- What a node holds that is read back where it was written: all that it holds, without a list view's flag.
abbrev pub cleared : Body → Body
cleared (B.listview x) = B.listview (ListViews.cleared x)
cleared b = b

-- A node of this type over children of these places has the one form in which it is read.
abbrev pub IsNormalBody : Body → Typ → List Place → Type 0
IsNormalBody (B.listview x) d ps = ListViews.IsNormal x
IsNormalBody (B.dict x) d ps = Dicts.IsNormal d ps
IsNormalBody _ d ps = Unit {0}

-- A node's rows, by its children's places and rows.
abbrev pub node_rows : Typ → ℕ → Body → List Place → List Rows → Rows
node_rows d n B.null ps rs = Nulls.rows n
node_rows d n (B.bool x) ps rs = Bools.rows n x rs
node_rows d n (B.primitive x) ps rs = Primitives.rows d n x rs
node_rows d n (B.decimal x) ps rs = Decimals.rows n x rs
node_rows d n (B.varbin x) ps rs = VarBins.rows d n x rs
node_rows d n (B.varbinview x) ps rs = VarBinViews.rows d n x rs
node_rows d n B.list ps rs = Lists.rows n rs
node_rows d n (B.listview x) ps rs = ListViews.rows n rs
node_rows d n B.fixed_size_list ps rs = FixedSizeLists.rows d n rs
node_rows d n B.map ps rs = Maps.rows n rs
node_rows d n B.struct ps rs = Structs.rows d n rs
node_rows d n B.union ps rs = Unions.rows d n rs
node_rows d n B.variant ps rs = Variants.rows n (Variants.metadata_of ps) rs
node_rows d n B.ext ps rs = Exts.rows n rs
node_rows d n (B.dict x) ps rs = Dicts.rows n rs
node_rows d n (B.foreign x) ps rs = Foreigns.rows n
