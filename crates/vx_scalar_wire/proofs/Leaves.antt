-- Members without messages in them, at a type: what is read of them, and why they are refused.
use Rattle.std.specs.Prelude.{IfOk, IfErr, Result, Ok, Err}
use Rattle.std.proofs.Common.{◌≡◌, ◌⊎◌, Bool, false, true, ℕ, ℤ, pos, List, ◌∷◌, Some, refl, sym, ap, subst, inl, inr}
use Rattle.std.proofs.lemmas.Option.{same_Some}
use Rattle.vx_proto.specs.Parts.{flag_number}
use Rattle.vx_proto.specs.Signed.{zigzag}
use Rattle.vx_proto.specs.Value.{Content, number, octets}
use Rattle.vx_trees.specs.Rose.{node}
use Rattle.vx_type_wire.specs.Known.{ExtMeaning}
use Rattle.vx_types.specs.Fits.{IsBoolean, IsBinary, IsOf, IsUtf8, bare}
use Rattle.vx_types.specs.Content.{IsText}
use Rattle.vx_types.specs.Kind.{primitive}
use Rattle.vx_numbers.specs.Numbers.{is_integer, kind_of}
use Rattle.vx_types.specs.Seen.{typ}
use Rattle.vx_types.specs.Typ.{Typ}
use Rattle.vx_types.specs.Value as V
use Rattle.vx_types.specs.Well.{IsInRange}
use Rattle.vx_types.specs.declared.dtype.DType.{DType}
use Rattle.vx_types.specs.declared.dtype.DType.TheVariants.{Bool as BoolType, Primitive, Decimal, Utf8, Binary}
use Rattle.vx_types.specs.declared.decimal.DecimalDType.{DecimalDType}
use Rattle.vx_types.specs.declared.nullability.Nullability.{Nullability}
use Rattle.vx_numbers.specs.declared.ptype.PType.{PType}
use Rattle.vx_numbers.specs.declared.ptype.PType.TheVariants as kind
use Rattle.vx_numbers.specs.declared.value.PValue.{PValue}
use Rattle.vx_numbers.specs.declared.value.PValue.TheVariants.{U8, U16, U32, U64, I8, I16, I32, I64, F16, F32, F64}
use Rattle.vx_scalar_wire.specs.Answers.{lone_member, GivesValue}
use Rattle.vx_scalar_wire.specs.Reading.{HoldsInteger, HoldsNumber, HoldsOctets, ReadsValue}
use Rattle.vx_scalar_wire.specs.Refusing.{is_one_of, numeral_members, members_at, integer_of, IsNoInteger, RefusesReadingValue}
use Rattle.vx_scalar_wire.specs.declared.error.ScalarWireError.{ScalarWireError}
use Rattle.vx_scalar_wire.specs.declared.error.ScalarWireError.TheVariants as error

-- ---- members that are not read at a type

pub mismatch : (s : ExtMeaning) (most : ℕ) (d t : Typ) (g : ℕ) (c : Content) → t ≡ bare d → is_one_of g (1 ∷ members_at t) ≡ false → RefusesReadingValue error.KindMismatch s most d (lone_member g c)
mismatch s most d t g c e h = (0, d, lone_member g c, (refl, refl), (g, c, refl, subst (λ (x : Typ). is_one_of g (1 ∷ members_at x) ≡ false) e h))

no_flag_of : (p : PType) → is_one_of 2 (1 ∷ numeral_members p) ≡ false
no_flag_of kind.F16 = refl
no_flag_of kind.F32 = refl
no_flag_of kind.F64 = refl
no_flag_of _ = refl

-- A flag is read at no type but those of flags.
pub no_flags : (d : DType) → ((x : Nullability) → d ≡ BoolType x → ⊥) → is_one_of 2 (1 ∷ members_at (typ d)) ≡ false
no_flags (BoolType x) h = absurd (h x refl)
no_flags (Primitive p x) h = no_flag_of p
no_flags _ h = refl

pub not_numbers : (d : DType) → ((p : PType) (x : Nullability) → d ≡ Primitive p x → ⊥) → (q : PType) → IsOf q (typ d) → ⊥
not_numbers (Primitive p x) h q b = h p x refl
not_numbers _ h q b = b

-- The members of numbers are read at no type but those of numbers.
others : (b : Typ) → ((p : PType) → IsOf p b → ⊥)
    → (is_one_of 3 (1 ∷ members_at b) ≡ false) × (is_one_of 4 (1 ∷ members_at b) ≡ false) × (is_one_of 5 (1 ∷ members_at b) ≡ false) × (is_one_of 6 (1 ∷ members_at b) ≡ false)
    × (is_one_of 10 (1 ∷ members_at b) ≡ false)
others (node (primitive p m) ts) h = absurd (h p refl)
others _ h = (refl, refl, refl, refl, refl)

refused_as : (e : ScalarWireError) (s : ExtMeaning) (most : ℕ) (d : Typ) (g : ℕ) (c : Content) → e ≡ error.KindMismatch → is_one_of g (1 ∷ members_at (bare d)) ≡ false
    → RefusesReadingValue e s most d (lone_member g c)
refused_as e s most d g c is h = subst (λ (x : ScalarWireError). RefusesReadingValue x s most d (lone_member g c)) (sym is) (mismatch s most d (bare d) g c refl h)

pub no_signed : (e : ScalarWireError) (s : ExtMeaning) (most : ℕ) (d : Typ) (c : Content) → e ≡ error.KindMismatch → ((p : PType) → IsOf p (bare d) → ⊥) → RefusesReadingValue e s most d (lone_member 3 c)
no_signed e s most d c is h = refused_as e s most d 3 c is (others (bare d) h).0

pub no_unsigned : (e : ScalarWireError) (s : ExtMeaning) (most : ℕ) (d : Typ) (c : Content) → e ≡ error.KindMismatch → ((p : PType) → IsOf p (bare d) → ⊥) → RefusesReadingValue e s most d (lone_member 4 c)
no_unsigned e s most d c is h = refused_as e s most d 4 c is (others (bare d) h).1

pub no_single : (e : ScalarWireError) (s : ExtMeaning) (most : ℕ) (d : Typ) (c : Content) → e ≡ error.KindMismatch → ((p : PType) → IsOf p (bare d) → ⊥) → RefusesReadingValue e s most d (lone_member 5 c)
no_single e s most d c is h = refused_as e s most d 5 c is (others (bare d) h).2

pub no_double : (e : ScalarWireError) (s : ExtMeaning) (most : ℕ) (d : Typ) (c : Content) → e ≡ error.KindMismatch → ((p : PType) → IsOf p (bare d) → ⊥) → RefusesReadingValue e s most d (lone_member 6 c)
no_double e s most d c is h = refused_as e s most d 6 c is (others (bare d) h).3

pub no_half : (e : ScalarWireError) (s : ExtMeaning) (most : ℕ) (d : Typ) (c : Content) → e ≡ error.KindMismatch → ((p : PType) → IsOf p (bare d) → ⊥) → RefusesReadingValue e s most d (lone_member 10 c)
no_half e s most d c is h = refused_as e s most d 10 c is (others (bare d) h).4

pub at_numbers : (b : Typ) (p : PType) → IsOf p b → members_at b ≡ numeral_members p
at_numbers (node (primitive q m) ts) p o = ap numeral_members (sym o)
at_numbers _ p o = absurd o

other_number : (s : ExtMeaning) (most : ℕ) (d : Typ) (g : ℕ) (c : Content) (p : PType) → IsOf p (bare d) → is_one_of g (1 ∷ numeral_members p) ≡ false
    → RefusesReadingValue error.KindMismatch s most d (lone_member g c)
other_number s most d g c p o h = mismatch s most d (bare d) g c refl (subst (λ (ms : List ℕ). is_one_of g (1 ∷ ms) ≡ false) (sym (at_numbers (bare d) p o)) h)

no_ten : (p : PType) → (p ≡ kind.F16 → ⊥) → is_one_of 10 (1 ∷ numeral_members p) ≡ false
no_ten kind.F16 h = absurd (h refl)
no_ten kind.F32 h = refl
no_ten kind.F64 h = refl
no_ten _ h = refl

no_five : (p : PType) → (p ≡ kind.F32 → ⊥) → is_one_of 5 (1 ∷ numeral_members p) ≡ false
no_five kind.F32 h = absurd (h refl)
no_five kind.F16 h = refl
no_five kind.F64 h = refl
no_five _ h = refl

no_six : (p : PType) → (p ≡ kind.F64 → ⊥) → is_one_of 6 (1 ∷ numeral_members p) ≡ false
no_six kind.F64 h = absurd (h refl)
no_six kind.F16 h = refl
no_six kind.F32 h = refl
no_six _ h = refl

no_three : (p : PType) → is_integer p ≡ false → is_one_of 3 (1 ∷ numeral_members p) ≡ false
no_three kind.F16 h = refl
no_three kind.F32 h = refl
no_three kind.F64 h = refl
no_three _ h = absurd (cc)

no_four : (p : PType) → (p ≡ kind.F16 → ⊥) → is_integer p ≡ false → is_one_of 4 (1 ∷ numeral_members p) ≡ false
no_four kind.F16 x h = absurd (x refl)
no_four kind.F32 x h = refl
no_four kind.F64 x h = refl
no_four _ x h = absurd (cc)

pub other_half : (s : ExtMeaning) (most : ℕ) (d : Typ) (c : Content) (p : PType) → IsOf p (bare d) → (p ≡ kind.F16 → ⊥) → RefusesReadingValue error.KindMismatch s most d (lone_member 10 c)
other_half s most d c p o h = other_number s most d 10 c p o (no_ten p h)

pub other_single : (s : ExtMeaning) (most : ℕ) (d : Typ) (c : Content) (p : PType) → IsOf p (bare d) → (p ≡ kind.F32 → ⊥) → RefusesReadingValue error.KindMismatch s most d (lone_member 5 c)
other_single s most d c p o h = other_number s most d 5 c p o (no_five p h)

pub other_double : (s : ExtMeaning) (most : ℕ) (d : Typ) (c : Content) (p : PType) → IsOf p (bare d) → (p ≡ kind.F64 → ⊥) → RefusesReadingValue error.KindMismatch s most d (lone_member 6 c)
other_double s most d c p o h = other_number s most d 6 c p o (no_six p h)

-- ---- flags

-- A flag is read at a type of flags.
pub flag_read : (s : ExtMeaning) (d t : Typ) (b : Bool) (n : ℕ) → t ≡ bare d → IsBoolean t → flag_number b ≡ n → ReadsValue s (V.lone (V.bool b)) d (lone_member 2 (number n))
flag_read s d t b n e h f = (subst (λ x. IsBoolean x) e h, refl, ap (λ k. lone_member 2 (number k)) (sym f))

-- ---- integers

pub integers : (p : PType) → (p ≡ kind.F16 → ⊥) → (p ≡ kind.F32 → ⊥) → (p ≡ kind.F64 → ⊥) → is_integer p ≡ true
integers kind.F16 a b c = absurd (a refl)
integers kind.F32 a b c = absurd (b refl)
integers kind.F64 a b c = absurd (c refl)
integers _ a b c = refl

as_signed : (y z : ℤ) → Some y ≡ Some z → HoldsInteger (lone_member 3 (number (zigzag z))) y
as_signed y z e = inl (ap (λ x. lone_member 3 (number (zigzag x))) (sym (same_Some y z e)))

-- An integer of a kind is read where it stands with sign,
holds_signed : (n : PValue) (z : ℤ) → integer_of n ≡ Some z → HoldsNumber (lone_member 3 (number (zigzag z))) n
holds_signed (U8 n) z e = as_signed (pos n) z e
holds_signed (U16 n) z e = as_signed (pos n) z e
holds_signed (U32 n) z e = as_signed (pos n) z e
holds_signed (U64 n) z e = as_signed (pos n) z e
holds_signed (I8 y) z e = as_signed y z e
holds_signed (I16 y) z e = as_signed y z e
holds_signed (I32 y) z e = as_signed y z e
holds_signed (I64 y) z e = as_signed y z e
holds_signed (F16 n) z e = absurd (cc)
holds_signed (F32 n) z e = absurd (cc)
holds_signed (F64 n) z e = absurd (cc)

pub signed_given : (r : Result PValue ScalarWireError) (s : ExtMeaning) (most : ℕ) (d : Typ) (p : PType) (z : ℤ) → IsOf p (bare d)
    → IfOk r (λ n. kind_of n ≡ p) → IfOk r (λ n. integer_of n ≡ Some z) → IfOk r (λ n. IsInRange n) → IfErr r (λ e. IsNoInteger e p z)
    → GivesValue (λ n. V.lone (V.number n)) r s most d (lone_member 3 (number (zigzag z)))
signed_given (Ok n) s most d p z o k h i x = (subst (λ q. IsOf q (bare d)) (sym k) o, refl, i, holds_signed n z h)
signed_given (Err error.KindMismatch) s most d p z o k h i x = other_number s most d 3 (number (zigzag z)) p o (no_three p x)
signed_given (Err error.OutOfRange) s most d p z o k h i x = (0, d, lone_member 3 (number (zigzag z)), (refl, refl), inl (p, z, o, x.0, inl refl, x.1))
signed_given (Err _) s most d p z o k h i x = absurd x

as_unsigned : (y : ℤ) (k : ℕ) → Some y ≡ Some (pos k) → HoldsInteger (lone_member 4 (number k)) y
as_unsigned y k e = subst (λ x. HoldsInteger (lone_member 4 (number k)) x) (sym (same_Some y (pos k) e)) (inr refl)

-- and where it stands without.
holds_unsigned : (n : PValue) (k : ℕ) → integer_of n ≡ Some (pos k) → HoldsNumber (lone_member 4 (number k)) n
holds_unsigned (U8 n) k e = as_unsigned (pos n) k e
holds_unsigned (U16 n) k e = as_unsigned (pos n) k e
holds_unsigned (U32 n) k e = as_unsigned (pos n) k e
holds_unsigned (U64 n) k e = as_unsigned (pos n) k e
holds_unsigned (I8 y) k e = as_unsigned y k e
holds_unsigned (I16 y) k e = as_unsigned y k e
holds_unsigned (I32 y) k e = as_unsigned y k e
holds_unsigned (I64 y) k e = as_unsigned y k e
holds_unsigned (F16 n) k e = absurd (cc)
holds_unsigned (F32 n) k e = absurd (cc)
holds_unsigned (F64 n) k e = absurd (cc)

pub unsigned_given : (r : Result PValue ScalarWireError) (s : ExtMeaning) (most : ℕ) (d : Typ) (p : PType) (k : ℕ) → IsOf p (bare d) → (p ≡ kind.F16 → ⊥)
    → IfOk r (λ n. kind_of n ≡ p) → IfOk r (λ n. integer_of n ≡ Some (pos k)) → IfOk r (λ n. IsInRange n) → IfErr r (λ e. IsNoInteger e p (pos k))
    → GivesValue (λ n. V.lone (V.number n)) r s most d (lone_member 4 (number k))
unsigned_given (Ok n) s most d p k o f a h i x = (subst (λ q. IsOf q (bare d)) (sym a) o, refl, i, holds_unsigned n k h)
unsigned_given (Err error.KindMismatch) s most d p k o f a h i x = other_number s most d 4 (number k) p o (no_four p f x)
unsigned_given (Err error.OutOfRange) s most d p k o f a h i x = (0, d, lone_member 4 (number k), (refl, refl), inl (p, pos k, o, x.0, inr refl, x.1))
unsigned_given (Err _) s most d p k o f a h i x = absurd x

-- ---- floats

-- A float is read by its bits.
pub float_given : (r : Result PValue ScalarWireError) (s : ExtMeaning) (most : ℕ) (d : Typ) (g : ℕ) (c : Content) (x : PValue) → IsOf (kind_of x) (bare d) → is_integer (kind_of x) ≡ false
    → HoldsNumber (lone_member g c) x → IfOk r (λ n. n ≡ x) → IfOk r (λ n. IsInRange n) → IfErr r (λ e. (e ≡ error.OutOfRange) × (IsInRange x → ⊥))
    → GivesValue (λ n. V.lone (V.number n)) r s most d (lone_member g c)
float_given (Ok n) s most d g c x o f h e i z = (subst (λ y. IsOf (kind_of y) (bare d)) (sym e) o, refl, i, subst (λ y. HoldsNumber (lone_member g c) y) (sym e) h)
float_given (Err e) s most d g c x o f h k i z =
    subst (λ (y : ScalarWireError). RefusesReadingValue y s most d (lone_member g c)) (sym z.0) (0, d, lone_member g c, (refl, refl), inr (inl (x, o, f, h, z.1)))

-- The bits of a float of 16 stand as an integer without sign, too.
pub half_given : (r : Result PValue ScalarWireError) (s : ExtMeaning) (most : ℕ) (d : Typ) (k : ℕ) → IsOf kind.F16 (bare d)
    → IfOk r (λ n. n ≡ F16 k) → IfOk r (λ n. IsInRange n) → IfErr r (λ e. (e ≡ error.OutOfRange) × (IsInRange (F16 k) → ⊥))
    → GivesValue (λ n. V.lone (V.number n)) r s most d (lone_member 4 (number k))
half_given r s most d k o e i z = float_given r s most d 4 (number k) (F16 k) o refl (inr refl) e i z

-- ---- octets

-- Octets are read at no type but those of texts, of bytes and of decimals.
pub no_octets : (g : ℕ) (d : DType) → (g ≡ 7) ⊎ (g ≡ 8) → ((x : Nullability) → d ≡ Utf8 x → ⊥) → ((x : Nullability) → d ≡ Binary x → ⊥) → ((p : DecimalDType) (x : Nullability) → d ≡ Decimal p x → ⊥)
    → is_one_of g (1 ∷ members_at (typ d)) ≡ false
no_octets g d h a b c = elim h [ inl e ↦ subst (λ (k : ℕ). is_one_of k (1 ∷ members_at (typ d)) ≡ false) (sym e) (go d a b c).0 | inr e ↦ subst (λ (k : ℕ). is_one_of k (1 ∷ members_at (typ d)) ≡ false) (sym e) (go d a b c).1 ]
  where
    numbers : (p : PType) → (is_one_of 7 (1 ∷ numeral_members p) ≡ false) × (is_one_of 8 (1 ∷ numeral_members p) ≡ false)
    numbers kind.F16 = (refl, refl)
    numbers kind.F32 = (refl, refl)
    numbers kind.F64 = (refl, refl)
    numbers _ = (refl, refl)

    go : (t : DType) → ((x : Nullability) → t ≡ Utf8 x → ⊥) → ((x : Nullability) → t ≡ Binary x → ⊥) → ((p : DecimalDType) (x : Nullability) → t ≡ Decimal p x → ⊥)
        → (is_one_of 7 (1 ∷ members_at (typ t)) ≡ false) × (is_one_of 8 (1 ∷ members_at (typ t)) ≡ false)
    go (Utf8 x) u v w = absurd (u x refl)
    go (Binary x) u v w = absurd (v x refl)
    go (Decimal p x) u v w = absurd (w p x refl)
    go (Primitive p x) u v w = numbers p
    go _ u v w = (refl, refl)

holds_octets : (g : ℕ) (bs : List ℕ) → (g ≡ 7) ⊎ (g ≡ 8) → HoldsOctets (lone_member g (octets bs)) bs
holds_octets g bs (inl e) = inl (ap (λ (k : ℕ). lone_member k (octets bs)) e)
holds_octets g bs (inr e) = inr (ap (λ (k : ℕ). lone_member k (octets bs)) e)

pub text_read : (s : ExtMeaning) (d t : Typ) (g : ℕ) (bs : List ℕ) (v : V.Value) → t ≡ bare d → IsUtf8 t → IsText bs → (g ≡ 7) ⊎ (g ≡ 8) → v ≡ V.lone (V.utf8 bs)
    → ReadsValue s v d (lone_member g (octets bs))
text_read s d t g bs v e u x h is =
    subst (λ (w : V.Value). ReadsValue s w d (lone_member g (octets bs))) (sym is) (subst (λ (z : Typ). IsUtf8 z) e u, refl, x, holds_octets g bs h)

pub text_refused : (e : ScalarWireError) (s : ExtMeaning) (most : ℕ) (d t : Typ) (g : ℕ) (bs : List ℕ) → t ≡ bare d → IsUtf8 t → (g ≡ 7) ⊎ (g ≡ 8)
    → (e ≡ error.OutOfMemory) ⊎ ((e ≡ error.BadScalar) × (IsText bs → ⊥)) → RefusesReadingValue e s most d (lone_member g (octets bs))
text_refused e s most d t g bs is u h (inl x) = subst (λ (y : ScalarWireError). RefusesReadingValue y s most d (lone_member g (octets bs))) (sym x) tt
text_refused e s most d t g bs is u h (inr x) =
    subst (λ (y : ScalarWireError). RefusesReadingValue y s most d (lone_member g (octets bs))) (sym x.0)
    (0, d, lone_member g (octets bs), (refl, refl), inl (bs, subst (λ (z : Typ). IsUtf8 z) is u, holds_octets g bs h, x.1))

pub binary_read : (s : ExtMeaning) (d t : Typ) (g : ℕ) (bs cs : List ℕ) → t ≡ bare d → IsBinary t → (g ≡ 7) ⊎ (g ≡ 8) → cs ≡ bs → ReadsValue s (V.lone (V.binary cs)) d (lone_member g (octets bs))
binary_read s d t g bs cs e u h is =
    subst (λ (w : List ℕ). ReadsValue s (V.lone (V.binary w)) d (lone_member g (octets bs))) (sym is) (subst (λ (z : Typ). IsBinary z) e u, refl, holds_octets g bs h)

-- A string is read at no type of decimals.
pub no_string : (g : ℕ) (d : DType) (p : DecimalDType) (x : Nullability) → d ≡ Decimal p x → (g ≡ 7) ⊎ (g ≡ 8) → (g ≡ 8 → ⊥) → is_one_of g (1 ∷ members_at (typ d)) ≡ false
no_string g d p x is (inl e) h =
    subst (λ (k : ℕ). is_one_of k (1 ∷ members_at (typ d)) ≡ false) (sym e) (subst (λ (t : DType). is_one_of 7 (1 ∷ members_at (typ t)) ≡ false) (sym is) refl)
no_string g d p x is (inr e) h = absurd (h e)
