-- Why a message is refused at a type, and where in it the cause stands.
use Rattle.std.specs.Prelude.{ℕ, zero, suc, ℤ, pos, ◌<◌, eqb, if◌then◌else◌, ◌≡◌, ◌⊎◌, Bool, true, false, List, [], ◌∷◌, length, Option, Some, None}
use Rattle.vx_trees.specs.Rose.{Roses, node, end, more, count}
use Rattle.vx_proto.specs.Parts.{entries_in, message_in, number_in}
use Rattle.vx_proto.specs.Value.{Content, Entry, Value, octets, message, slots_of}
use Rattle.vx_proto.specs.Written.{nested}
use Rattle.vx_type_wire.specs.Known.{ExtMeaning, IsRead}
use Rattle.vx_proto.specs.Value.{one_number, one_message}
use Rattle.vx_type_wire.specs.TypeMessage.{IsMessageOf, RefusesReadingType}
use Rattle.vx_type_wire.specs.declared.error.TypeWireError.{TypeWireError}
use Rattle.vx_type_wire.specs.declared.error.TypeWireError.TheVariants as type_error
use Rattle.vx_types.specs.Content.{IsText}
use Rattle.vx_types.specs.Fits.{Fits, FitsMember, IsDecimal, IsOf, IsUtf8, IsVariant, bare, member}
use Rattle.vx_types.specs.Kind.{Kind, boolean, primitive, decimal, utf8, binary, list, fixed_size_list, structure, union, map, variant}
use Rattle.vx_numbers.specs.Numbers.{is_integer, kind_of}
use Rattle.vx_types.specs.Typ.{Typ}
use Rattle.vx_types.specs.Value as V
use Rattle.vx_types.specs.Well.{IsInRange}
use Rattle.vx_types.specs.Words.{entries}
use Rattle.vx_numbers.specs.declared.ptype.PType.{PType}
use Rattle.vx_numbers.specs.declared.ptype.PType.TheVariants.{F16, F32, F64}
use Rattle.vx_numbers.specs.declared.value.PValue.{PValue}
use Rattle.vx_numbers.specs.declared.value.PValue.TheVariants.{U8, U16, U32, U64, I8, I16, I32, I64}
use Rattle.vx_scalar_wire.specs.Reading.{Holds, HoldsInteger, HoldsNumber, HoldsOctets, ReadsValue}
use Rattle.vx_scalar_wire.specs.declared.error.ScalarWireError.{ScalarWireError}
use Rattle.vx_scalar_wire.specs.declared.error.ScalarWireError.TheVariants.{OutOfMemory, TooDeep, MissingKind, KindMismatch, OutOfRange, BadChild, BadScalar, BadDType}

-- ---- which members are read at a type

-- A number is one of these.
abbrev pub is_one_of : ℕ → List ℕ → Bool
is_one_of n [] = false
is_one_of n (m ∷ ms) = if eqb m n then true else is_one_of n ms

-- The members that are read as numbers of a kind: integers as int64 and uint64, floats by their own, those of 16 bits as uint64, too.
abbrev pub numeral_members : PType → List ℕ
numeral_members F16 = 4 ∷ 10 ∷ []
numeral_members F32 = 5 ∷ []
numeral_members F64 = 6 ∷ []
numeral_members p = 3 ∷ 4 ∷ []

-- The members that are read at a type that is no extension, beside null.
abbrev pub members_at : Typ → List ℕ
members_at (node (boolean m) ts) = 2 ∷ []
members_at (node (primitive p m) ts) = numeral_members p
members_at (node (decimal p s m) ts) = 8 ∷ []
members_at (node (utf8 m) ts) = 7 ∷ 8 ∷ []
members_at (node (binary m) ts) = 7 ∷ 8 ∷ []
members_at (node (list m) ts) = 9 ∷ []
members_at (node (fixed_size_list k m) ts) = 9 ∷ []
members_at (node (structure ns m) ts) = 9 ∷ []
members_at (node (map b m) ts) = 9 ∷ []
members_at (node (union ns ids m) ts) = 11 ∷ []
members_at (node (variant m) ts) = 12 ∷ []
members_at _ = []

-- ---- causes at one message

-- The message has a member that is not read at the type.
abbrev pub IsMismatch : Typ → Value → Type 0
IsMismatch d m = (g : ℕ) × (c : Content) × Holds m g c × (is_one_of g (1 ∷ members_at (bare d)) ≡ false)

-- A number as an integer; none where it is a float.
abbrev pub integer_of : PValue → Option ℤ
integer_of (U8 n) = Some (pos n)
integer_of (U16 n) = Some (pos n)
integer_of (U32 n) = Some (pos n)
integer_of (U64 n) = Some (pos n)
integer_of (I8 z) = Some z
integer_of (I16 z) = Some z
integer_of (I32 z) = Some z
integer_of (I64 z) = Some z
integer_of _ = None

-- No number of a kind, in its range, is this integer.
abbrev pub NoneIs : PType → ℤ → Type 0
NoneIs p z = (n : PValue) → kind_of n ≡ p → IsInRange n → integer_of n ≡ Some z → ⊥

-- Why an integer is none of a kind: the kind has no integers, or none in its range is this.
abbrev pub IsNoInteger : ScalarWireError → PType → ℤ → Type 0
IsNoInteger KindMismatch p z = is_integer p ≡ false
IsNoInteger OutOfRange p z = (is_integer p ≡ true) × NoneIs p z
IsNoInteger _ p z = ⊥

-- An integer stands at a type of integers that does not contain it.
abbrev pub IsOutside : Typ → Value → Type 0
IsOutside d m = (p : PType) × (z : ℤ) × IsOf p (bare d) × (is_integer p ≡ true) × HoldsInteger m z × NoneIs p z

-- Bits stand at a type of floats, and are more than the type has.
abbrev pub HasMoreBits : Typ → Value → Type 0
HasMoreBits d m = (x : PValue) × IsOf (kind_of x) (bare d) × (is_integer (kind_of x) ≡ false) × HoldsNumber m x × (IsInRange x → ⊥)

-- Bytes stand at a type of decimals, and their length is no width.
abbrev pub HasNoWidth : Typ → Value → Type 0
HasNoWidth d m = (bs : List ℕ) × IsDecimal (bare d) × Holds m 8 (octets bs) × (is_one_of (length bs) (1 ∷ 2 ∷ 4 ∷ 8 ∷ 16 ∷ 32 ∷ []) ≡ false)

-- Bytes stand at a type of texts, and are not UTF-8.
abbrev pub IsNoText : Typ → Value → Type 0
IsNoText d m = (bs : List ℕ) × IsUtf8 (bare d) × HoldsOctets m bs × (IsText bs → ⊥)

-- The type is a union's, and the fact holds of its tags and its members.
abbrev pub OfUnion : (List ℕ → Roses Kind → Type 0) → Typ → Type 0
OfUnion P (node (union ns ids m) ts) = P ids ts
OfUnion P _ = ⊥

-- A union's message stands at a union's type, and the fact holds of the message, the tags and the members.
abbrev pub AtUnion : (Value → List ℕ → Roses Kind → Type 0) → Typ → Value → Type 0
AtUnion P d m = (u : Value) × Holds m 11 (message (slots_of u)) × OfUnion (P u) (bare d)

-- It has a tag over a byte, or one that no member has, or no value, or one that does not fit the member.
abbrev pub HasLargeTag : Typ → Value → Type 0
HasLargeTag = AtUnion (λ u ids ts. (n : ℕ) × (number_in (entries_in u 0) ≡ Some n) × (255 < n))

abbrev pub HasUnknownTag : Typ → Value → Type 0
HasUnknownTag = AtUnion (λ u ids ts. (n : ℕ) × (number_in (entries_in u 0) ≡ Some n) × (member n ids ts ≡ None))

abbrev pub LacksValue : Typ → Value → Type 0
LacksValue = AtUnion (λ u ids ts. message_in (entries_in u 1) ≡ None)

abbrev pub HasUnfitValue : ExtMeaning → Typ → Value → Type 0
HasUnfitValue s = AtUnion (λ u ids ts. (n : ℕ) × (f : Typ) × (w : Value) × (v : V.Value) × (u ≡ one_number 1 n ∷ one_message 2 w ∷ []) × (member n ids ts ≡ Some f) × ReadsValue s v f w × (Fits v f → ⊥))

-- A structure has another number of fields than k.
abbrev pub IsOtherCount : ℕ → Typ → Type 0
IsOtherCount k (node (structure ns m) ts) = k ≡ count ts → ⊥
IsOtherCount k _ = ⊥

-- A list stands at a structure's type, and its values are not as many as the fields.
abbrev pub HasOtherCount : Typ → Value → Type 0
HasOtherCount d m = (l : Value) × Holds m 9 (message (slots_of l)) × IsOtherCount (length (entries_in l 0)) (bare d)

-- ---- causes at a scalar's message

-- Why a scalar's type is refused. Allocation failure is no refusal of the type.
abbrev pub RefusesTypeBy : TypeWireError → ExtMeaning → Value → Type 0
RefusesTypeBy type_error.OutOfMemory s t = ⊥
RefusesTypeBy e s t = RefusesReadingType e s t

-- A scalar lacks its type or its value, its value does not fit its type, or its type is not read.
abbrev pub IsScalarCause : ScalarWireError → ExtMeaning → Value → Type 0
IsScalarCause MissingKind s l = (message_in (entries_in l 0) ≡ None) ⊎ (message_in (entries_in l 1) ≡ None)
IsScalarCause BadScalar s l =
    (t : Value) × (w : Value) × (f : Typ) × (v : V.Value) × (l ≡ one_message 1 t ∷ one_message 2 w ∷ []) × IsRead (IsMessageOf t) s f × ReadsValue s v f w × (Fits v f → ⊥)
IsScalarCause (BadDType r) s l = (t : Value) × (message_in (entries_in l 0) ≡ Some t) × RefusesTypeBy r s t
IsScalarCause _ s l = ⊥

-- The scalar in a variant has a cause.
abbrev pub AtVariant : ScalarWireError → ExtMeaning → Typ → Value → Type 0
AtVariant e s d m = (l : Value) × IsVariant (bare d) × Holds m 12 (message (slots_of l)) × IsScalarCause e s l

-- Why a message is refused at a type, where it is not for a message in it: one line a refusal.
abbrev pub IsCause : ScalarWireError → ExtMeaning → Typ → Value → Type 0
IsCause MissingKind s d m = (m ≡ [] ∷ []) ⊎ (LacksValue d m ⊎ AtVariant MissingKind s d m)
IsCause KindMismatch s d m = IsMismatch d m
IsCause OutOfRange s d m = IsOutside d m ⊎ (HasMoreBits d m ⊎ (HasNoWidth d m ⊎ HasLargeTag d m))
IsCause BadChild s d m = HasOtherCount d m ⊎ (HasUnknownTag d m ⊎ HasUnfitValue s d m)
IsCause BadScalar s d m = IsNoText d m ⊎ AtVariant BadScalar s d m
IsCause (BadDType r) s d m = AtVariant (BadDType r) s d m
IsCause _ s d m = ⊥

-- ---- messages in a message

-- This member stands at this place.
abbrev pub IsAt : List Entry → ℕ → Entry → Type 0
IsAt [] i x = ⊥
IsAt (y ∷ ys) zero x = y ≡ x
IsAt (y ∷ ys) (suc i) x = IsAt ys i x

-- The type at a place among fields.
abbrev pub IsFieldAt : Roses Kind → ℕ → Typ → Type 0
IsFieldAt end i f = ⊥
IsFieldAt (more t ts) zero f = t ≡ f
IsFieldAt (more t ts) (suc i) f = IsFieldAt ts i f

-- The type at which a tuple's part at a place is read.
abbrev pub IsPartType : Typ → ℕ → Typ → Type 0
IsPartType (node (list m) (more e end)) i f = e ≡ f
IsPartType (node (fixed_size_list k m) (more e end)) i f = e ≡ f
IsPartType (node (structure ns m) ts) i f = IsFieldAt ts i f
IsPartType (node (map b m) (more x (more y end))) i f = entries (record { key = x; value = y; keys_sorted = b }) ≡ f
IsPartType _ i f = ⊥

-- A message is one of a list's, at the type of its place; a union's, at the type of its member; a variant's, at its own.
abbrev pub IsElement : Typ → Value → Typ → Value → Type 0
IsElement d m f u = (l : Value) × (i : ℕ) × Holds m 9 (message (slots_of l)) × IsAt (entries_in l 0) i (1, message (slots_of u)) × IsPartType (bare d) i f

abbrev pub IsMember : Typ → Value → Typ → Value → Type 0
IsMember d m f u = (n : ℕ) × Holds m 11 (message (slots_of (one_number 1 n ∷ one_message 2 u ∷ []))) × FitsMember n (λ ts. ts ≡ more f end) (bare d)

abbrev pub IsInner : ExtMeaning → Typ → Value → Typ → Value → Type 0
IsInner s d m f u = (t : Value) × IsVariant (bare d) × Holds m 12 (message (slots_of (one_message 1 t ∷ one_message 2 u ∷ []))) × IsRead (IsMessageOf t) s f

abbrev pub IsPart : ExtMeaning → Typ → Value → Typ → Value → Type 0
IsPart s d m f u = IsElement d m f u ⊎ (IsMember d m f u ⊎ IsInner s d m f u)

-- A message stands at a depth within another; at depth 0 it is the same.
abbrev pub IsWithin : ℕ → ExtMeaning → Typ → Value → Typ → Value → Type 0
IsWithin zero s d m f u = (d ≡ f) × (m ≡ u)
IsWithin (suc depth) s d m f u = (e : Typ) × (w : Value) × IsPart s d m e w × IsWithin depth s e w f u

-- ---- refusals

-- A message or one within it has a cause, or more than most messages nest. Allocation failure has no cause.
abbrev pub RefusesReadingValue : ScalarWireError → ExtMeaning → ℕ → Typ → Value → Type 0
RefusesReadingValue OutOfMemory s most d m = Unit {0}
RefusesReadingValue TooDeep s most d m = most < nested m
RefusesReadingValue e s most d m = (depth : ℕ) × (f : Typ) × (u : Value) × IsWithin depth s d m f u × IsCause e s f u

-- A scalar's message has a cause, or its value's message is refused at its type.
abbrev pub RefusesReadingScalar : ScalarWireError → ExtMeaning → ℕ → Value → Type 0
RefusesReadingScalar OutOfMemory s most l = Unit {0}
RefusesReadingScalar e s most l = IsScalarCause e s l ⊎ ((t : Value) × (w : Value) × (f : Typ) × (l ≡ one_message 1 t ∷ one_message 2 w ∷ []) × IsRead (IsMessageOf t) s f × RefusesReadingValue e s most f w)
