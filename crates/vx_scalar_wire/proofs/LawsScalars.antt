-- What is written of a value that fits a type is read as the value at that type, and what is read at a type is one value.
use Rattle.std.proofs.Common.{◌≡◌, ◌∙◌, ℕ, List, [], ◌∷◌, refl, sym, subst, inl, inr}
use Rattle.vx_proto.specs.Value.{Value}
use Rattle.vx_proto.proofs.LawsOfForms.{same_slot, same_rest}
use Rattle.vx_proto.proofs.LawsOfMessages.{reads_one}
use Rattle.vx_trees.specs.Rose.{Roses, node, end, more, count}
use Rattle.vx_type_wire.specs.Known.{ExtMeaning, IsKnown}
use Rattle.vx_type_wire.specs.TypeMessage.{type_message}
use Rattle.vx_type_wire.proofs.LawsTypes.{message-injective}
use Rattle.vx_types.specs.Fits.{Fits, FitParts, FitsMember, EachFits, FitBy, bare}
use Rattle.vx_types.specs.Kind as K
use Rattle.vx_types.specs.Kind.{Kind}
use Rattle.vx_types.specs.Typ.{Typ}
use Rattle.vx_types.specs.Value as V
use Rattle.vx_types.specs.Well.{IsWell, AreWell}
use Rattle.vx_types.specs.Words.{entries}
use Rattle.vx_numbers.specs.declared.value.PValue.{PValue}
use Rattle.vx_numbers.specs.declared.value.PValue.TheVariants.{U8, U16, U32, U64, I8, I16, I32, I64, F16, F32, F64}
use Rattle.vx_scalars.specs.Told.{Typed}
use Rattle.vx_scalar_wire.specs.Typed.{IsTyped}
use Rattle.vx_scalar_wire.specs.Reading.{HoldsNumber, ReadsParts, ReadsValue, EachReads, ReadsBy, ReadsScalar, ShowsValue, IsKnownValue, AreKnownValues}
use Rattle.vx_scalar_wire.specs.ScalarMessage.{number_member, value_message, value_messages, scalar_message, scalar_lists}
use Rattle.vx_scalar_wire.proofs.OneValue.{reads-one, one_part}

numeral : (n : PValue) → HoldsNumber (number_member n ∷ []) n
numeral (U8 n) = inr refl
numeral (U16 n) = inr refl
numeral (U32 n) = inr refl
numeral (U64 n) = inr refl
numeral (I8 z) = inl refl
numeral (I16 z) = inl refl
numeral (I32 z) = inl refl
numeral (I64 z) = inl refl
numeral (F16 bits) = inl refl
numeral (F32 bits) = refl
numeral (F64 bits) = refl

-- What fits as a tuple's parts is read as them, where it is so of each.
parts : (k : ℕ) (Each Read : Typ → Type 0) (By ReadBy : Roses Kind → Type 0) → ((e : Typ) → Each e → Read e) → ((ts : Roses Kind) → By ts → ReadBy ts)
    → (d : Typ) → FitParts k Each By d → ReadsParts Read ReadBy d
parts k Each Read By ReadBy g h (node (K.list m) (more e end)) f = g e f
parts k Each Read By ReadBy g h (node (K.fixed_size_list z m) (more e end)) f = g e f.1
parts k Each Read By ReadBy g h (node (K.structure ns m) ts) f = h ts f
parts k Each Read By ReadBy g h (node (K.map b m) (more x (more y end))) f = g (entries (record { key = x; value = y; keys_sorted = b })) f
parts k Each Read By ReadBy g h _ f = absurd f

-- What fits a union's member is read as it, where it is so of what stands under the tag.
member : (tag : ℕ) (By ReadBy : Roses Kind → Type 0) → ((e : Typ) → By (more e end) → ReadBy (more e end)) → (d : Typ) → FitsMember tag By d → FitsMember tag ReadBy d
member tag By ReadBy g (node (K.union ns ids m) ts) f = (f.0, f.1, g f.0 f.2)
member tag By ReadBy g _ f = absurd f

no_value : (tag : ℕ) (d : Typ) → FitsMember tag (λ ts. FitBy end ts) d → ⊥
no_value tag (node (K.union ns ids m) ts) f = let e = f.2 in absurd (cc)
no_value tag _ f = f

two_values : (tag : ℕ) (v u : V.Value) (us : V.Values) (d : Typ) → FitsMember tag (λ ts. FitBy (more v (more u us)) ts) d → ⊥
two_values tag v u us (node (K.union ns ids m) ts) f = f.2.1
two_values tag v u us _ f = f

mutual
  -- A value that fits is read from its own message.
  pub written-reads : (s : ExtMeaning) (v : V.Value) (d : Typ) → Fits v d → IsWell v → IsKnownValue s v → ReadsValue s v d (value_message v)
  written-reads s (node V.null vs) d f w k = (f.1, refl)
  written-reads s (node V.opaque vs) d f w k = absurd f
  written-reads s (node (V.bool b) vs) d f w k = (f.0, f.1, refl)
  written-reads s (node (V.number n) vs) d f w k = (f.0, f.1, w.0, numeral n)
  written-reads s (node (V.decimal x) vs) d f w k = (f.0, f.1, w.0, refl)
  written-reads s (node (V.utf8 bs) vs) d f w k = (f.0, f.1, w.0, inl refl)
  written-reads s (node (V.binary bs) vs) d f w k = (f.0, f.1, inr refl)
  written-reads s (node V.tuple vs) d f w k = (
    value_messages vs,
    refl,
    parts (count vs) (λ e. EachFits vs e) (λ e. EachReads s vs e (value_messages vs)) (λ ts. FitBy vs ts) (λ ts. ReadsBy s vs ts (value_messages vs))
        (λ e g. each-reads s vs e g w.1 k.1) (λ ts g. by-reads s vs ts g w.1 k.1) (bare d) f,
  )
  written-reads s (node (V.union tag) end) d f w k = absurd (no_value tag (bare d) f)
  written-reads s (node (V.union tag) (more v end)) d f w k = (
    value_message v,
    refl,
    member tag (λ ts. FitBy (more v end) ts) (λ ts. ReadsBy s (more v end) ts (value_message v ∷ []) × FitBy (more v end) ts)
        (λ e g. ((written-reads s v e g.0 w.1.0 k.1.0, (refl, refl)), g)) (bare d) f,
  )
  written-reads s (node (V.union tag) (more v (more u us))) d f w k = absurd (two_values tag v u us (bare d) f)
  written-reads s (node (V.variant e) end) d f w k = let g = f.1 in absurd (cc)
  written-reads s (node (V.variant e) (more v end)) d f w k = (
    f.0,
    (
      type_message e,
      value_message v,
      refl,
      record { shows = record { is_type = w.0; is = refl }; known = k.0 },
      (written-reads s v e f.1.0 w.1.0 k.1.0, (refl, refl)),
      f.1,
    ),
  )
  written-reads s (node (V.variant e) (more v (more u us))) d f w k = absurd f.1.1

  each-reads : (s : ExtMeaning) (vs : V.Values) (e : Typ) → EachFits vs e → AreWell vs → AreKnownValues s vs → EachReads s vs e (value_messages vs)
  each-reads s end e f w k = refl
  each-reads s (more v vs) e f w k = (written-reads s v e f.0 w.0 k.0, each-reads s vs e f.1 w.1 k.1)

  by-reads : (s : ExtMeaning) (vs : V.Values) (ts : Roses Kind) → FitBy vs ts → AreWell vs → AreKnownValues s vs → ReadsBy s vs ts (value_messages vs)
  by-reads s end ts f w k = (f, refl)
  by-reads s (more v vs) end f w k = absurd f
  by-reads s (more v vs) (more d ds) f w k = (written-reads s v d f.0 w.0 k.0, by-reads s vs ds f.1 w.1 k.1)

-- A scalar whose types are known is read from its own message.
pub written-scalar_reads : (s : ExtMeaning) (x : Typed) → IsTyped x → IsKnown s x.dtype → IsKnownValue s x.value → ReadsScalar s x (scalar_message x)
written-scalar_reads s x h k known = (
  type_message x.dtype,
  value_message x.value,
  refl,
  record { shows = record { is_type = h.is_type; is = refl }; known = k },
  written-reads s x.value x.dtype h.fits h.well known,
  h.fits,
)

-- For the clauses of writers.
pub ruleset written = (written-reads, written-scalar_reads)

-- ---- one value

-- A message is read as one value at most, at a type and under the same readers.
pub one_value : (s : ExtMeaning) (d : Typ) (m : Value) (v u : V.Value) → ReadsValue s v d m → ReadsValue s u d m → v ≡ u
one_value s d m v u r q = reads-one s v u d m r q

-- Bytes show one value at most at a type.
pub one_shown : (s : ExtMeaning) (d : Typ) (bytes : List ℕ) (v u : V.Value) → ShowsValue s v d bytes → ShowsValue s u d bytes → v ≡ u
one_shown s d bytes v u r q =
    let same : r.0 ≡ q.0 = reads_one scalar_lists 15 bytes r.0 q.0 r.1 q.1 in
    reads-one s v u d r.0 r.2 (subst (λ w. ReadsValue s u d w) (sym same) q.2)

-- A scalar's message is read as one scalar at most.
pub one_scalar : (s : ExtMeaning) (m : Value) (x y : Typed) → ReadsScalar s x m → ReadsScalar s y m → x ≡ y
one_scalar s m x y r q =
    let whole = sym r.2 ∙ q.2 in
    let types : r.0 ≡ q.0 = one_part 1 r.0 q.0 (same_slot _ _ _ _ whole) in
    let inner : r.1 ≡ q.1 = one_part 2 r.1 q.1 (same_slot _ _ [] [] (same_rest _ _ _ _ whole)) in
    let dtype : x.dtype ≡ y.dtype = message-injective x.dtype y.dtype r.3.shows.is_type q.3.shows.is_type (sym r.3.shows.is ∙ types ∙ q.3.shows.is) in
    let value : x.value ≡ y.value =
    reads-one s x.value y.value x.dtype r.1 r.4 (subst (λ w. ReadsValue s y.value x.dtype w) (sym inner) (subst (λ d. ReadsValue s y.value d q.1) (sym dtype) q.4)) in
    λ i. record { dtype = dtype i; value = value i }

-- ---- what was written

-- What is read of a value's own message, at a type that it fits, is the value.
pub value_again : (s : ExtMeaning) (v u : V.Value) (d : Typ) → Fits v d → IsWell v → IsKnownValue s v → ReadsValue s u d (value_message v) → u ≡ v
value_again s v u d f w k r = reads-one s u v d (value_message v) r (written-reads s v d f w k)

-- What is read of a scalar's own message is the scalar, where its types are known.
pub scalar_again : (s : ExtMeaning) (x y : Typed) → IsTyped x → IsKnown s x.dtype → IsKnownValue s x.value → ReadsScalar s y (scalar_message x) → y ≡ x
scalar_again s x y h k known r = one_scalar s (scalar_message x) y x r (written-scalar_reads s x h k known)
