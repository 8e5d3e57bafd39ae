-- What a reader of values answers.
use Rattle.std.specs.Prelude.{ℕ, ◌≡◌, List, [], ◌∷◌, Result, Ok, Err}
use Rattle.vx_trees.specs.Rose.{Roses, node, roses_of}
use Rattle.vx_proto.specs.Value.{Content, Value, message, slots_of}
use Rattle.vx_type_wire.specs.Known.{ExtMeaning, IsRead}
use Rattle.vx_type_wire.specs.TypeMessage.{IsMessageOf, RefusesReadingType, all_messages}
use Rattle.vx_type_wire.specs.declared.error.TypeWireError.{TypeWireError}
use Rattle.vx_types.specs.Fits.{bare}
use Rattle.vx_types.specs.Kind.{Kind, structure}
use Rattle.vx_types.specs.Seen.{typ}
use Rattle.vx_types.specs.Typ.{Typ}
use Rattle.vx_types.specs.Value as V
use Rattle.vx_types.specs.declared.dtype.DType.{DType}
use Rattle.vx_types.specs.declared.nullability.Nullability.{Nullability}
use Rattle.vx_scalars.specs.Told.{Typed}
use Rattle.vx_scalar_wire.specs.Reading.{ReadsValue, ReadsParts, EachReads, ReadsBy, ReadsScalar}
use Rattle.vx_scalar_wire.specs.Refusing.{IsPartType, RefusesReadingValue, RefusesReadingScalar, RefusesTypeBy}
use Rattle.vx_scalar_wire.specs.declared.error.ScalarWireError.{ScalarWireError}
use Rattle.vx_scalar_wire.specs.declared.error.ScalarWireError.TheVariants.{OutOfMemory, BadDType}

-- A message that holds one member.
abbrev pub lone_member : ℕ → Content → Value
lone_member g c = ((g, c) ∷ []) ∷ []

-- A reader gives what is read at a type, as view sees it, or refuses with a cause.
abbrev pub GivesValue : {X : Type 0} → (X → V.Value) → Result X ScalarWireError → ExtMeaning → ℕ → Typ → Value → Type 0
GivesValue view (Ok x) s most d m = ReadsValue s (view x) d m
GivesValue view (Err e) s most d m = RefusesReadingValue e s most d m

-- The same of a scalar.
abbrev pub GivesScalar : Result Typed ScalarWireError → ExtMeaning → ℕ → Value → Type 0
GivesScalar (Ok x) s most l = ReadsScalar s x l
GivesScalar (Err e) s most l = RefusesReadingScalar e s most l

-- A reader gives the parts of a tuple from its messages, at a type that is no extension, or refuses the tuple at each type that is stored so.
abbrev pub GivesParts : Result (List V.Value) ScalarWireError → ExtMeaning → ℕ → Typ → Value → Type 0
GivesParts (Ok vs) s most d l = (ws : List Value) × (l ≡ all_messages 1 ws ∷ []) × ReadsParts (λ e. EachReads s (roses_of vs) e ws) (λ ts. ReadsBy s (roses_of vs) ts ws) d
GivesParts (Err e) s most d l = (t : Typ) → bare t ≡ d → RefusesReadingValue e s most t (lone_member 9 (message (slots_of l)))

-- What each message is read as at one type, whatever tuple holds them.
abbrev pub GivesEach : Result (List V.Value) ScalarWireError → ExtMeaning → ℕ → Typ → Value → Type 0
GivesEach (Ok vs) s most f l = (ws : List Value) × (l ≡ all_messages 1 ws ∷ []) × EachReads s (roses_of vs) f ws
GivesEach (Err e) s most f l = (t : Typ) → ((i : ℕ) → IsPartType (bare t) i f) → RefusesReadingValue e s most t (lone_member 9 (message (slots_of l)))

-- The same, one by one, of a structure's fields.
abbrev pub GivesRow : Result (List V.Value) ScalarWireError → ExtMeaning → ℕ → Roses Kind → Value → Type 0
GivesRow (Ok vs) s most ts l = (ws : List Value) × (l ≡ all_messages 1 ws ∷ []) × ReadsBy s (roses_of vs) ts ws
GivesRow (Err e) s most ts l = (t : Typ) (ns : List (List ℕ)) (n : Nullability) → bare t ≡ node (structure ns n) ts → RefusesReadingValue e s most t (lone_member 9 (message (slots_of l)))

-- ---- types

-- A message of a type is read under readers of extensions, or it is not.
abbrev pub GivesType : ExtMeaning → Value → Result DType TypeWireError → Type 0
GivesType s t (Ok d) = IsRead (IsMessageOf t) s (typ d)
GivesType s t (Err e) = RefusesReadingType e s t

-- What is answered to messages of types is what they are read as under readers of extensions.
abbrev pub ReadsTypes : (Value → Result DType TypeWireError → Type 0) → ExtMeaning → Type 0
ReadsTypes Answers s = (t : Value) (r : Result DType TypeWireError) → Answers t r → GivesType s t r

-- A scalar's type is not read.
abbrev pub RefusesScalarType : ScalarWireError → ExtMeaning → Value → Type 0
RefusesScalarType OutOfMemory s t = Unit {0}
RefusesScalarType (BadDType r) s t = RefusesTypeBy r s t
RefusesScalarType _ s t = ⊥
