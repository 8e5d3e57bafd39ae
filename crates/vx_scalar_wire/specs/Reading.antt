-- What a scalar's message is read as, at a type and under readers of extensions.
use Rattle.std.specs.Prelude.{ℕ, ℤ, pos, negsuc, ◌≡◌, ◌⊎◌, List, [], ◌∷◌}
use Rattle.vx_trees.specs.Rose.{Roses, node, end, more}
use Rattle.vx_proto.specs.Parts.{flag_number}
use Rattle.vx_proto.specs.Reads.{Reads}
use Rattle.vx_proto.specs.Signed.{zigzag}
use Rattle.vx_proto.specs.Value.{Content, Value, number, octets, message, slots_of}
use Rattle.vx_type_wire.specs.Known.{ExtMeaning, IsKnown, IsRead}
use Rattle.vx_proto.specs.Value.{one_number, one_message}
use Rattle.vx_type_wire.specs.TypeMessage.{IsMessageOf, all_messages}
use Rattle.vx_types.specs.Fits.{Fits, FitBy, FitsMember, IsBoolean, IsOf, IsDecimal, IsUtf8, IsBinary, IsVariant, bare}
use Rattle.vx_types.specs.Kind.{Kind, list, fixed_size_list, structure, map}
use Rattle.vx_numbers.specs.Numbers.{kind_of}
use Rattle.vx_types.specs.Typ.{Typ}
use Rattle.vx_types.specs.Value as V
use Rattle.vx_types.specs.Content.{IsText}
use Rattle.vx_types.specs.Well.{IsInRange, IsDecimalInRange}
use Rattle.vx_types.specs.Words.{entries}
use Rattle.vx_numbers.specs.declared.value.PValue.{PValue}
use Rattle.vx_numbers.specs.declared.value.PValue.TheVariants.{U8, U16, U32, U64, I8, I16, I32, I64, F16, F32, F64}
use Rattle.vx_scalars.specs.Told.{Typed}
use Rattle.vx_scalar_wire.specs.ScalarMessage.{decimal_bytes, scalar_lists}

-- ---- one member

-- A value's message has this member, of this number, in its oneof.
abbrev pub Holds : Value → ℕ → Content → Type 0
Holds m tag c = m ≡ ((tag, c) ∷ []) ∷ []

-- An integer that is not negative stands as a uint64, too.
abbrev pub HoldsUnsigned : Value → ℤ → Type 0
HoldsUnsigned m (pos n) = Holds m 4 (number n)
HoldsUnsigned m (negsuc n) = ⊥

-- An integer stands as an int64 or a uint64, whichever sign its kind has.
abbrev pub HoldsInteger : Value → ℤ → Type 0
HoldsInteger m z = Holds m 3 (number (zigzag z)) ⊎ HoldsUnsigned m z

-- A float stands by its bits in its own member; one of 16 bits as a uint64, too.
abbrev pub HoldsNumber : Value → PValue → Type 0
HoldsNumber m (U8 n) = HoldsInteger m (pos n)
HoldsNumber m (U16 n) = HoldsInteger m (pos n)
HoldsNumber m (U32 n) = HoldsInteger m (pos n)
HoldsNumber m (U64 n) = HoldsInteger m (pos n)
HoldsNumber m (I8 z) = HoldsInteger m z
HoldsNumber m (I16 z) = HoldsInteger m z
HoldsNumber m (I32 z) = HoldsInteger m z
HoldsNumber m (I64 z) = HoldsInteger m z
HoldsNumber m (F16 bits) = Holds m 10 (number bits) ⊎ Holds m 4 (number bits)
HoldsNumber m (F32 bits) = Holds m 5 (number bits)
HoldsNumber m (F64 bits) = Holds m 6 (number bits)

-- A text and bytes each stand as a string or as bytes.
abbrev pub HoldsOctets : Value → List ℕ → Type 0
HoldsOctets m s = Holds m 7 (octets s) ⊎ Holds m 8 (octets s)

-- ---- parts

-- The parts of a tuple, at a list's type each at the elements' type, at a structure's one by one, at a map's each as
-- an entry. How many a list of fixed size has is not looked at.
abbrev pub ReadsParts : (Typ → Type 0) → (Roses Kind → Type 0) → Typ → Type 0
ReadsParts Each By (node (list m) (more e end)) = Each e
ReadsParts Each By (node (fixed_size_list s m) (more e end)) = Each e
ReadsParts Each By (node (structure ns m) ts) = By ts
ReadsParts Each By (node (map b m) (more x (more y end))) = Each (entries (record { key = x; value = y; keys_sorted = b }))
ReadsParts Each By _ = ⊥

abbrev mutual
  -- A message is read as a value at a type, by the value's mark: a number in the range of its kind, a text that is one.
  -- Null is read at every type. A union's value and what stands in a variant also fit their types.
  pub ReadsValue : ExtMeaning → V.Value → Typ → Value → Type 0
  ReadsValue s (node V.null vs) d m = (vs ≡ end) × Holds m 1 (number 0)
  ReadsValue s (node V.opaque vs) d m = ⊥
  ReadsValue s (node (V.bool b) vs) d m = IsBoolean (bare d) × (vs ≡ end) × Holds m 2 (number (flag_number b))
  ReadsValue s (node (V.number n) vs) d m = IsOf (kind_of n) (bare d) × (vs ≡ end) × IsInRange n × HoldsNumber m n
  ReadsValue s (node (V.decimal x) vs) d m = IsDecimal (bare d) × (vs ≡ end) × IsDecimalInRange x × Holds m 8 (octets (decimal_bytes x))
  ReadsValue s (node (V.utf8 bs) vs) d m = IsUtf8 (bare d) × (vs ≡ end) × IsText bs × HoldsOctets m bs
  ReadsValue s (node (V.binary bs) vs) d m = IsBinary (bare d) × (vs ≡ end) × HoldsOctets m bs
  ReadsValue s (node V.tuple vs) d m =
      (ws : List Value) × Holds m 9 (message (slots_of (all_messages 1 ws ∷ []))) × ReadsParts (λ e. EachReads s vs e ws) (λ ts. ReadsBy s vs ts ws) (bare d)
  ReadsValue s (node (V.union tag) vs) d m =
      (w : Value) × Holds m 11 (message (slots_of (one_number 1 tag ∷ one_message 2 w ∷ []))) × FitsMember tag (λ ts. ReadsBy s vs ts (w ∷ []) × FitBy vs ts) (bare d)
  ReadsValue s (node (V.variant e) vs) d m =
      IsVariant (bare d) × ((t : Value) × (w : Value) × Holds m 12 (message (slots_of (one_message 1 t ∷ one_message 2 w ∷ [])))
      × IsRead (IsMessageOf t) s e × ReadsBy s vs (more e end) (w ∷ []) × FitBy vs (more e end))

  -- Each of the messages is read as the value in its place, all at one type.
  pub EachReads : ExtMeaning → V.Values → Typ → List Value → Type 0
  EachReads s end e ws = ws ≡ []
  EachReads s (more v vs) e ws = elim ws [ [] ↦ ⊥ | w ∷ us ↦ ReadsValue s v e w × EachReads s vs e us ]

  -- The same, each at the type in its place.
  pub ReadsBy : ExtMeaning → V.Values → Roses Kind → List Value → Type 0
  ReadsBy s end ts ws = (ts ≡ end) × (ws ≡ [])
  ReadsBy s (more v vs) ts ws = elim ts [ end ↦ ⊥ | more d ds ↦ elim ws [ [] ↦ ⊥ | w ∷ us ↦ ReadsValue s v d w × ReadsBy s vs ds us ] ]

-- A scalar's message is read as its type, which the readers know, and as its value at that type, which it fits.
abbrev pub ReadsScalar : ExtMeaning → Typed → Value → Type 0
ReadsScalar s x m =
    (t : Value) × (w : Value) × (m ≡ one_message 1 t ∷ one_message 2 w ∷ []) × IsRead (IsMessageOf t) s x.dtype × ReadsValue s x.value x.dtype w × Fits x.value x.dtype

-- Bytes show a value at a type: they are its message, which is read as the value.
abbrev pub ShowsValue : ExtMeaning → V.Value → Typ → List ℕ → Type 0
ShowsValue s v d bytes = (m : Value) × Reads scalar_lists 15 bytes m × ReadsValue s v d m

-- ---- known types

-- The readers know the type of a variant.
abbrev pub IsKnownMark : ExtMeaning → V.Mark → Type 0
IsKnownMark s (V.variant e) = IsKnown s e
IsKnownMark s m = Unit {0}

abbrev mutual
  -- They know that of each variant in a value.
  pub IsKnownValue : ExtMeaning → V.Value → Type 0
  IsKnownValue s (node m vs) = IsKnownMark s m × AreKnownValues s vs

  -- And in each of these values.
  pub AreKnownValues : ExtMeaning → V.Values → Type 0
  AreKnownValues s end = Unit {0}
  AreKnownValues s (more v vs) = IsKnownValue s v × AreKnownValues s vs
