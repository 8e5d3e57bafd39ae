-- A message that is read as a value at a type has no cause of a refusal.
use Rattle.std.specs.Prelude.{IfErr, IfOk, MatchResult, Option, Result, Ok, Err, if◌then◌else◌}
use Rattle.std.proofs.Common.{◌≡◌, ◌∙◌, ◌==◌, ◌<◌, ◌≤◌, Bool, true, false, ℕ, zero, suc, ℤ, pos, negsuc, List, [], ◌∷◌, Some, None, length, refl, sym, ap, subst, inl, inr, arith}
use lib.Utf8.{encode}
use Rattle.std.specs.Cmp.{unsigned_Decides}
use Rattle.std.proofs.lemmas.Str.{is_utf8-from_IsUtf8}
use Rattle.vx_trees.specs.Everywhere.{EverywhereBelow}
use Rattle.vx_trees.specs.Rose.{Roses, node, end, more, count}
use Rattle.vx_proto.specs.Parts.{entries_in, message_in, number_in}
use Rattle.vx_proto.specs.Signed.{zigzag}
use Rattle.vx_proto.specs.Value.{Content, Entry, Value, number, octets, message, slots_of}
use Rattle.vx_proto.specs.Written.{nested}
use Rattle.vx_proto.proofs.LawsOfForms.{same_content, same_message, same_number, same_rest, same_slot}
use Rattle.vx_proto.proofs.LawsOfViews.{message_is}
use Rattle.vx_type_wire.specs.Known.{ExtMeaning, IsNotKnown, IsRead}
use Rattle.vx_proto.specs.Value.{one_number, one_message}
use Rattle.vx_type_wire.specs.TypeMessage.{IsMessageOf, all_messages}
use Rattle.vx_type_wire.specs.declared.error.TypeWireError.{TypeWireError}
use Rattle.vx_type_wire.specs.declared.error.TypeWireError.TheVariants as type_error
use Rattle.vx_type_wire.proofs.LawsTypes.{message-injective, known_or}
use Rattle.vx_trees.specs.Bytes.{AreBytes}
use Rattle.vx_types.specs.Content.{IsText}
use Rattle.vx_types.specs.Fits.{Fits, FitBy, FitsMember, IsBoolean, IsOf, IsDecimal, IsUtf8, IsBinary, IsVariant, bare, bare_first, member}
use Rattle.vx_types.specs.Kind as K
use Rattle.vx_types.specs.Kind.{Kind}
use Rattle.vx_numbers.specs.Numbers.{is_integer, kind_of}
use Rattle.vx_types.specs.Typ.{Typ, IsType, IsTypeNode}
use Rattle.vx_types.specs.Value as V
use Rattle.vx_types.specs.Well.{IsInRange}
use Rattle.vx_types.specs.Words.{entries, key_name, value_name}
use Rattle.vx_numbers.specs.declared.ptype.PType.{PType}
use Rattle.vx_numbers.specs.declared.ptype.PType.TheVariants as kind
use Rattle.vx_numbers.specs.declared.value.PValue.{PValue}
use Rattle.vx_numbers.specs.declared.value.PValue.TheVariants.{U8, U16, U32, U64, I8, I16, I32, I64, F16, F32, F64}
use Rattle.vx_scalars.specs.Seen.{seen}
use Rattle.vx_scalars.specs.Told.{Typed}
use Rattle.vx_scalars.specs.declared.value.ScalarValue.{ScalarValue}
use Rattle.vx_scalar_wire.specs.Reading.{Holds, HoldsInteger, HoldsNumber, HoldsOctets, ReadsParts, ReadsValue, EachReads, ReadsBy, ReadsScalar}
use Rattle.vx_scalar_wire.specs.Refusing.{is_one_of, numeral_members, members_at, integer_of, NoneIs, OfUnion, IsOtherCount, IsAt, IsFieldAt, IsPartType, IsPart, IsWithin, IsScalarCause, RefusesTypeBy, IsCause, RefusesReadingValue, RefusesReadingScalar}
use Rattle.vx_scalar_wire.specs.declared.error.ScalarWireError.{ScalarWireError}
use Rattle.vx_scalar_wire.specs.declared.error.ScalarWireError.TheVariants.{OutOfMemory, TooDeep, MissingKind, KindMismatch, OutOfRange, BadChild, BadScalar, BadDType}
use Rattle.vx_scalar_wire.proofs.Inversions.{only_text, only_decimal, only_tuple, only_union, only_variant}
use Rattle.vx_scalar_wire.proofs.Digits.{size, sized}
use Rattle.vx_scalar_wire.proofs.Leaves.{at_numbers}
use Rattle.vx_scalar_wire.proofs.OneValue.{rank, rank_in, tag_in, held, mark_ranked, number_ranked, integer_ranked, both_members, of_kind, one_inside, one_integer, one_numeral, one_part, reads-one}
use Rattle.vx_scalar_wire.proofs.LawsScalars.{one_scalar}
use Rattle.vx_scalar_wire.proofs.Refused.{part_depth}

-- ---- the members that are read

unlike : (b : Bool) → b ≡ true → b ≡ false → ⊥
unlike b e f = absurd (cc)

none_some : {A : Type 0} (x : Option A) (a : A) → x ≡ Some a → x ≡ None → ⊥
none_some x a e f = absurd (cc)

some_is : {A : Type 0} (x : Option A) (a b : A) → x ≡ Some a → x ≡ Some b → a ≡ b
some_is x a b e f = cc

among : (m : Value) (g : ℕ) (c : Content) (ms : List ℕ) → Holds m g c → is_one_of g ms ≡ true → is_one_of (tag_in m) ms ≡ true
among m g c ms h e = subst (λ k. is_one_of k ms ≡ true) (sym (held m g c h)) e

integer_among : (m : Value) (z : ℤ) → HoldsInteger m z → is_one_of (tag_in m) (1 ∷ 3 ∷ 4 ∷ []) ≡ true
integer_among m z (inl e) = among m 3 (number (zigzag z)) (1 ∷ 3 ∷ 4 ∷ []) e refl
integer_among m (pos n) (inr e) = among m 4 (number n) (1 ∷ 3 ∷ 4 ∷ []) e refl
integer_among m (negsuc n) (inr e) = absurd e

number_among : (m : Value) (n : PValue) → HoldsNumber m n → is_one_of (tag_in m) (1 ∷ numeral_members (kind_of n)) ≡ true
number_among m (U8 n) h = integer_among m (pos n) h
number_among m (U16 n) h = integer_among m (pos n) h
number_among m (U32 n) h = integer_among m (pos n) h
number_among m (U64 n) h = integer_among m (pos n) h
number_among m (I8 z) h = integer_among m z h
number_among m (I16 z) h = integer_among m z h
number_among m (I32 z) h = integer_among m z h
number_among m (I64 z) h = integer_among m z h
number_among m (F16 n) (inl e) = among m 10 (number n) (1 ∷ 4 ∷ 10 ∷ []) e refl
number_among m (F16 n) (inr e) = among m 4 (number n) (1 ∷ 4 ∷ 10 ∷ []) e refl
number_among m (F32 n) e = among m 5 (number n) (1 ∷ 5 ∷ []) e refl
number_among m (F64 n) e = among m 6 (number n) (1 ∷ 6 ∷ []) e refl

octets_among : (m : Value) (bs : List ℕ) → HoldsOctets m bs → is_one_of (tag_in m) (1 ∷ 7 ∷ 8 ∷ []) ≡ true
octets_among m bs (inl e) = among m 7 (octets bs) (1 ∷ 7 ∷ 8 ∷ []) e refl
octets_among m bs (inr e) = among m 8 (octets bs) (1 ∷ 7 ∷ 8 ∷ []) e refl

-- The members at the types of each mark.
at_flags : (t : Typ) → IsBoolean t → members_at t ≡ 2 ∷ []
at_flags (node (K.boolean m) ts) h = refl
at_flags _ h = absurd h

at_decimals : (t : Typ) → IsDecimal t → members_at t ≡ 8 ∷ []
at_decimals (node (K.decimal p s m) ts) h = refl
at_decimals _ h = absurd h

at_texts : (t : Typ) → IsUtf8 t → members_at t ≡ 7 ∷ 8 ∷ []
at_texts (node (K.utf8 m) ts) h = refl
at_texts _ h = absurd h

at_bytes : (t : Typ) → IsBinary t → members_at t ≡ 7 ∷ 8 ∷ []
at_bytes (node (K.binary m) ts) h = refl
at_bytes _ h = absurd h

at_tuples : (Each : Typ → Type 0) (By : Roses Kind → Type 0) (t : Typ) → ReadsParts Each By t → members_at t ≡ 9 ∷ []
at_tuples Each By (node (K.list m) ts) h = refl
at_tuples Each By (node (K.fixed_size_list z m) ts) h = refl
at_tuples Each By (node (K.structure ns m) ts) h = refl
at_tuples Each By (node (K.map b m) ts) h = refl
at_tuples Each By _ h = absurd h

at_unions : (tag : ℕ) (By : Roses Kind → Type 0) (t : Typ) → FitsMember tag By t → members_at t ≡ 11 ∷ []
at_unions tag By (node (K.union ns ids m) ts) h = refl
at_unions tag By _ h = absurd h

at_variants : (t : Typ) → IsVariant t → members_at t ≡ 12 ∷ []
at_variants (node (K.variant m) ts) h = refl
at_variants _ h = absurd h

read_by : (m : Value) (t : Typ) (ms : List ℕ) → members_at t ≡ ms → is_one_of (tag_in m) (1 ∷ ms) ≡ true → is_one_of (tag_in m) (1 ∷ members_at t) ≡ true
read_by m t ms e h = subst (λ (ns : List ℕ). is_one_of (tag_in m) (1 ∷ ns) ≡ true) (sym e) h

-- What is read at a type is one of the type's members, or null.
readable : (s : ExtMeaning) (k : V.Mark) (vs : V.Values) (d : Typ) (m : Value) → ReadsValue s (node k vs) d m → is_one_of (tag_in m) (1 ∷ members_at (bare d)) ≡ true
readable s V.null vs d m r = among m 1 (number 0) (1 ∷ members_at (bare d)) r.1 refl
readable s V.opaque vs d m r = absurd r
readable s (V.bool b) vs d m r = read_by m (bare d) (2 ∷ []) (at_flags (bare d) r.0) (among m 2 _ (1 ∷ 2 ∷ []) r.2 refl)
readable s (V.number n) vs d m r = read_by m (bare d) (numeral_members (kind_of n)) (at_numbers (bare d) (kind_of n) r.0) (number_among m n r.3)
readable s (V.decimal x) vs d m r = read_by m (bare d) (8 ∷ []) (at_decimals (bare d) r.0) (among m 8 _ (1 ∷ 8 ∷ []) r.3 refl)
readable s (V.utf8 bs) vs d m r = read_by m (bare d) (7 ∷ 8 ∷ []) (at_texts (bare d) r.0) (octets_among m bs r.3)
readable s (V.binary bs) vs d m r = read_by m (bare d) (7 ∷ 8 ∷ []) (at_bytes (bare d) r.0) (octets_among m bs r.2)
readable s V.tuple vs d m r =
    read_by m (bare d) (9 ∷ []) (at_tuples (λ e. EachReads s vs e r.0) (λ ts. ReadsBy s vs ts r.0) (bare d) r.2) (among m 9 _ (1 ∷ 9 ∷ []) r.1 refl)
readable s (V.union tag) vs d m r =
    read_by m (bare d) (11 ∷ []) (at_unions tag (λ ts. ReadsBy s vs ts (r.0 ∷ []) × FitBy vs ts) (bare d) r.2) (among m 11 _ (1 ∷ 11 ∷ []) r.1 refl)
readable s (V.variant e) vs d m r = read_by m (bare d) (12 ∷ []) (at_variants (bare d) r.0) (among m 12 _ (1 ∷ 12 ∷ []) r.1.2 refl)

no_numeral_zero : (p : PType) → is_one_of 0 (1 ∷ numeral_members p) ≡ false
no_numeral_zero kind.F16 = refl
no_numeral_zero kind.F32 = refl
no_numeral_zero kind.F64 = refl
no_numeral_zero _ = refl

no_zero : (t : Typ) → is_one_of 0 (1 ∷ members_at t) ≡ false
no_zero (node (K.primitive p m) ts) = no_numeral_zero p
no_zero _ = refl

-- Nothing is read of a message without a member.
not_vacant : (s : ExtMeaning) (v : V.Value) (d : Typ) (m : Value) → m ≡ [] ∷ [] → ReadsValue s v d m → ⊥
not_vacant s (node k vs) d m e r =
    unlike (is_one_of 0 (1 ∷ members_at (bare d))) (subst (λ g. is_one_of g (1 ∷ members_at (bare d)) ≡ true) (ap tag_in e) (readable s k vs d m r)) (no_zero (bare d))

not_mismatched : (s : ExtMeaning) (v : V.Value) (d : Typ) (m : Value) (g : ℕ) (c : Content) → Holds m g c → is_one_of g (1 ∷ members_at (bare d)) ≡ false → ReadsValue s v d m → ⊥
not_mismatched s (node k vs) d m g c h e r =
    unlike (is_one_of g (1 ∷ members_at (bare d))) (subst (λ j. is_one_of j (1 ∷ members_at (bare d)) ≡ true) (held m g c h) (readable s k vs d m r)) e

-- ---- numbers, texts and decimals

integers_of : (m : Value) (n : PValue) (z : ℤ) → is_integer (kind_of n) ≡ true → HoldsNumber m n → HoldsInteger m z → integer_of n ≡ Some z
integers_of m (U8 n) z i h g = ap (λ (x : ℤ). Some x) (one_integer m (pos n) z h g)
integers_of m (U16 n) z i h g = ap (λ (x : ℤ). Some x) (one_integer m (pos n) z h g)
integers_of m (U32 n) z i h g = ap (λ (x : ℤ). Some x) (one_integer m (pos n) z h g)
integers_of m (U64 n) z i h g = ap (λ (x : ℤ). Some x) (one_integer m (pos n) z h g)
integers_of m (I8 y) z i h g = ap (λ (x : ℤ). Some x) (one_integer m y z h g)
integers_of m (I16 y) z i h g = ap (λ (x : ℤ). Some x) (one_integer m y z h g)
integers_of m (I32 y) z i h g = ap (λ (x : ℤ). Some x) (one_integer m y z h g)
integers_of m (I64 y) z i h g = ap (λ (x : ℤ). Some x) (one_integer m y z h g)
integers_of m _ z i h g = absurd (cc)

-- What stands as a number is read as one, in the range of the type's kind.
number_read : (s : ExtMeaning) (v : V.Value) (d : Typ) (m : Value) → 3 ≡ rank_in (tag_in m) (bare d) → ReadsValue s v d m → (n : PValue) × IsOf (kind_of n) (bare d) × IsInRange n × HoldsNumber m n
number_read s (node (V.number n) vs) d m e r = (n, r.0, r.2, r.3)
number_read s (node k vs) d m e r = let f : rank k ≡ 3 = mark_ranked s k vs d m r ∙ sym e in absurd (omega (arith, f))

not_outside : (s : ExtMeaning) (v : V.Value) (d : Typ) (m : Value) (p : PType) (z : ℤ) → IsOf p (bare d) → is_integer p ≡ true → HoldsInteger m z → NoneIs p z → ReadsValue s v d m → ⊥
not_outside s v d m p z o i h none r =
    let n = number_read s v d m (integer_ranked m z (bare d) h) r in
    let same : kind_of n.0 ≡ p = of_kind (kind_of n.0) p (bare d) n.1 o in
    none n.0 same n.2 (integers_of m n.0 z (ap is_integer same ∙ i) n.3 h)

not_wide : (s : ExtMeaning) (v : V.Value) (d : Typ) (m : Value) (x : PValue) → IsOf (kind_of x) (bare d) → HoldsNumber m x → (IsInRange x → ⊥) → ReadsValue s v d m → ⊥
not_wide s v d m x o h none r =
    let n = number_read s v d m (number_ranked m x (bare d) h) r in
    none (subst (λ y. IsInRange y) (one_numeral m n.0 x (of_kind (kind_of n.0) (kind_of x) (bare d) n.1 o) n.3 h) n.2)

some_width : (x : V.DecimalValue) → is_one_of (size x) (1 ∷ 2 ∷ 4 ∷ 8 ∷ 16 ∷ 32 ∷ []) ≡ true
some_width (V.i8 z) = refl
some_width (V.i16 z) = refl
some_width (V.i32 z) = refl
some_width (V.i64 z) = refl
some_width (V.i128 z) = refl
some_width (V.i256 bytes) = refl

not_unsized : (s : ExtMeaning) (v : V.Value) (d : Typ) (m : Value) (bs : List ℕ) → IsDecimal (bare d) → Holds m 8 (octets bs) → is_one_of (length bs) (1 ∷ 2 ∷ 4 ∷ 8 ∷ 16 ∷ 32 ∷ []) ≡ false → ReadsValue s v d m → ⊥
not_unsized s v d m bs o h e r =
    let x = only_decimal s v d m bs o h r in
    let same : size x.0 ≡ length bs = sym (sized x.0 x.2) ∙ ap (λ (cs : List ℕ). length cs) x.3 in
    unlike (is_one_of (length bs) (1 ∷ 2 ∷ 4 ∷ 8 ∷ 16 ∷ 32 ∷ [])) (subst (λ k. is_one_of k (1 ∷ 2 ∷ 4 ∷ 8 ∷ 16 ∷ 32 ∷ []) ≡ true) same (some_width x.0)) e

-- ---- unions

first_same : (e f : Typ) → more e end ≡ more f end → e ≡ f
first_same e f h = cc

-- The one value below a tag.
lone_read : (s : ExtMeaning) (vs : V.Values) (e : Typ) (w : Value) → ReadsBy s vs (more e end) (w ∷ []) → FitBy vs (more e end) → (x : V.Value) × ReadsValue s x e w × Fits x e
lone_read s end e w r f = absurd (cc)
lone_read s (more v vs) e w r f = (v, r.0, f.0)

-- What a union's message that is read holds.
record UnionRead (s : ExtMeaning) (d : Typ) (u : Value) : Type 0 where
  pub tag : ℕ
  pub inner : Value
  pub is : u ≡ one_number 1 tag ∷ one_message 2 inner ∷ []
  pub values : V.Values
  pub fits : FitsMember tag (λ ts. ReadsBy s values ts (inner ∷ []) × FitBy values ts) (bare d)

union_held : (s : ExtMeaning) (v : V.Value) (d : Typ) (m u : Value) → Holds m 11 (message (slots_of u)) → ReadsValue s v d m → UnionRead s d u
union_held s v d m u h r =
    let q = only_union s v d m (message (slots_of u)) h r in
    record { tag = q.0; inner = q.3.0; is = one_inside m 11 u (one_number 1 q.0 ∷ one_message 2 q.3.0 ∷ []) h q.3.1; values = q.1; fits = q.3.2 }

at_union : (tag : ℕ) (P : List ℕ → Roses Kind → Type 0) (By : Roses Kind → Type 0) → ((ids : List ℕ) (ts : Roses Kind) (e : Typ) → P ids ts → member tag ids ts ≡ Some e → By (more e end) → ⊥)
    → (t : Typ) → OfUnion P t → FitsMember tag By t → ⊥
at_union tag P By f (node (K.union ns ids m) ts) h k = f ids ts k.0 h k.1 k.2
at_union tag P By f _ h k = absurd h

-- A fact of a union's tags and members, at the member that is read.
both_unions : (s : ExtMeaning) (d : Typ) (u : Value) (q : UnionRead s d u) (P : List ℕ → Roses Kind → Type 0)
    → ((ids : List ℕ) (ts : Roses Kind) (e : Typ) → P ids ts → member q.tag ids ts ≡ Some e → ReadsBy s q.values (more e end) (q.inner ∷ []) × FitBy q.values (more e end) → ⊥) → OfUnion P (bare d) → ⊥
both_unions s d u q P f o = at_union q.tag P (λ ts. ReadsBy s q.values ts (q.inner ∷ []) × FitBy q.values ts) f (bare d) o q.fits

if_some : (b : Bool) (A : Type 0) (x : Typ) (y : Option Typ) (d : Typ) → (if b then Some x else y) ≡ Some d → (b ≡ true → x ≡ d → A) → (y ≡ Some d → A) → A
if_some true A x y d e f g = f refl (some_is (Some x) x d refl e)
if_some false A x y d e f g = g e

-- A member's tag is a byte, and its type is one.
member_typed : (tag : ℕ) (ids : List ℕ) (ts : Roses Kind) (d : Typ) → AreBytes ids → EverywhereBelow IsTypeNode ts → member tag ids ts ≡ Some d → (tag < 256) × IsType d
member_typed tag [] ts d b h e = absurd (cc)
member_typed tag (id ∷ ids) end d b h e = absurd (cc)
member_typed tag (id ∷ ids) (more t ts) d b h e =
    if_some (tag == id) ((tag < 256) × IsType d) t (member tag ids ts) d e
    (λ same is. let is_id : tag ≡ id = (unsigned_Decides tag id).0 same in (omega (arith, is_id, b.0), subst (λ (x : Typ). IsType x) is h.0))
    (λ other. member_typed tag ids ts d b.1 h.1 other)

tag_typed : (tag : ℕ) (By : Roses Kind → Type 0) (t : Typ) → IsType t → FitsMember tag By t → (tag < 256) × ((f : Typ) × IsType f × By (more f end))
tag_typed tag By (node (K.union ns ids m) ts) h k = let e = member_typed tag ids ts k.0 h.0.bytes h.1 k.1 in (e.0, (k.0, e.1, k.2))
tag_typed tag By _ h k = absurd k

mutual
  bare_type : (d : Typ) → IsType d → IsType (bare d)
  bare_type (node (K.extension id bs) ts) h = bare_first_type ts h.1
  bare_type (node k ts) h = h

  bare_first_type : (ts : Roses Kind) → EverywhereBelow IsTypeNode ts → IsType (bare_first ts)
  bare_first_type end h = (refl, tt)
  bare_first_type (more t ts) h = bare_type t h.0

not_large : (s : ExtMeaning) (v : V.Value) (d : Typ) (m u : Value) → IsType d → Holds m 11 (message (slots_of u)) → OfUnion (λ ids ts. (n : ℕ) × (number_in (entries_in u 0) ≡ Some n) × (255 < n)) (bare d) → ReadsValue s v d m → ⊥
not_large s v d m u is h o r =
    let q = union_held s v d m u h r in
    let tag : number_in (entries_in u 0) ≡ Some q.tag = ap (λ (x : Value). number_in (entries_in x 0)) q.is in
    let small : q.tag < 256 = (tag_typed q.tag (λ ts. ReadsBy s q.values ts (q.inner ∷ []) × FitBy q.values ts) (bare d) (bare_type d is) q.fits).0 in
    both_unions s d u q (λ ids ts. (n : ℕ) × (number_in (entries_in u 0) ≡ Some n) × (255 < n)) (λ ids ts e p found by. let same : p.0 ≡ q.tag = some_is (number_in (entries_in u 0)) p.0 q.tag p.1 tag in absurd (omega (arith, same, small, p.2))) o

not_unknown : (s : ExtMeaning) (v : V.Value) (d : Typ) (m u : Value) → Holds m 11 (message (slots_of u)) → OfUnion (λ ids ts. (n : ℕ) × (number_in (entries_in u 0) ≡ Some n) × (member n ids ts ≡ None)) (bare d) → ReadsValue s v d m → ⊥
not_unknown s v d m u h o r =
    let q = union_held s v d m u h r in
    let tag : number_in (entries_in u 0) ≡ Some q.tag = ap (λ (x : Value). number_in (entries_in x 0)) q.is in
    both_unions s d u q (λ ids ts. (n : ℕ) × (number_in (entries_in u 0) ≡ Some n) × (member n ids ts ≡ None))
    (λ ids ts e p found by.
    let same : p.0 ≡ q.tag = some_is (number_in (entries_in u 0)) p.0 q.tag p.1 tag in
    none_some (member q.tag ids ts) e found (subst (λ n. member n ids ts ≡ None) same p.2)) o

not_lacking : (s : ExtMeaning) (v : V.Value) (d : Typ) (m u : Value) → Holds m 11 (message (slots_of u)) → OfUnion (λ ids ts. message_in (entries_in u 1) ≡ None) (bare d) → ReadsValue s v d m → ⊥
not_lacking s v d m u h o r =
    let q = union_held s v d m u h r in
    let inner : message_in (entries_in u 1) ≡ Some q.inner = ap (λ (x : Value). message_in (entries_in x 1)) q.is ∙ message_is (message (slots_of q.inner)) q.inner refl in
    both_unions s d u q (λ ids ts. message_in (entries_in u 1) ≡ None) (λ ids ts e p found by. none_some (message_in (entries_in u 1)) q.inner inner p) o

not_unfit : (s : ExtMeaning) (v : V.Value) (d : Typ) (m u : Value) → Holds m 11 (message (slots_of u))
    → OfUnion (λ ids ts. (n : ℕ) × (f : Typ) × (w : Value) × (x : V.Value) × (u ≡ one_number 1 n ∷ one_message 2 w ∷ []) × (member n ids ts ≡ Some f) × ReadsValue s x f w × (Fits x f → ⊥)) (bare d)
    → ReadsValue s v d m → ⊥
not_unfit s v d m u h o r =
    let q = union_held s v d m u h r in
    both_unions s d u q (λ ids ts. (n : ℕ) × (f : Typ) × (w : Value) × (x : V.Value) × (u ≡ one_number 1 n ∷ one_message 2 w ∷ []) × (member n ids ts ≡ Some f) × ReadsValue s x f w × (Fits x f → ⊥))
    (λ ids ts e p found by.
    let whole = sym p.4 ∙ q.is in
    let tag : p.0 ≡ q.tag = same_number _ _ (same_content 1 1 _ _ [] [] (same_slot _ _ _ _ whole)) in
    let inner : p.2 ≡ q.inner = one_part 2 p.2 q.inner (same_slot _ _ [] [] (same_rest _ _ _ _ whole)) in
    let same : p.1 ≡ e = some_is (member q.tag ids ts) p.1 e (subst (λ n. member n ids ts ≡ Some p.1) tag p.5) found in
    let x = lone_read s q.values e q.inner by.0 by.1 in
    let one : x.0 ≡ p.3 = reads-one s x.0 p.3 e q.inner x.1 (subst (λ w. ReadsValue s p.3 e w) inner (subst (λ t. ReadsValue s p.3 t p.2) same p.6)) in
    p.7 (subst (λ t. Fits p.3 t) (sym same) (subst (λ y. Fits y e) one x.2))) o

-- ---- scalars

-- What a scalar's message that is read holds.
record ScalarRead (s : ExtMeaning) (l : Value) : Type 0 where
  pub typed_by : Value
  pub inner : Value
  pub is : l ≡ one_message 1 typed_by ∷ one_message 2 inner ∷ []
  pub dtype : Typ
  pub shown : IsRead (IsMessageOf typed_by) s dtype
  pub value : V.Value
  pub read : ReadsValue s value dtype inner
  pub fits : Fits value dtype

variant_held : (s : ExtMeaning) (v : V.Value) (d : Typ) (m l : Value) → Holds m 12 (message (slots_of l)) → ReadsValue s v d m → ScalarRead s l
variant_held s v d m l h r =
    let q = only_variant s v d m (message (slots_of l)) h r in
    let x = lone_read s q.1 q.0 q.4.1 q.4.4 q.4.5 in
    record { typed_by = q.4.0; inner = q.4.1; is = one_inside m 12 l (one_message 1 q.4.0 ∷ one_message 2 q.4.1 ∷ []) h q.4.2; dtype = q.0; shown = q.4.3; value = x.0; read = x.1; fits = x.2 }

type_held : (s : ExtMeaning) (l : Value) (q : ScalarRead s l) → message_in (entries_in l 0) ≡ Some q.typed_by
type_held s l q = ap (λ (x : Value). message_in (entries_in x 0)) q.is ∙ message_is (message (slots_of q.typed_by)) q.typed_by refl

value_held : (s : ExtMeaning) (l : Value) (q : ScalarRead s l) → message_in (entries_in l 1) ≡ Some q.inner
value_held s l q = ap (λ (x : Value). message_in (entries_in x 1)) q.is ∙ message_is (message (slots_of q.inner)) q.inner refl

one_typed : (s : ExtMeaning) (a b : Value) (t u : Typ) → a ≡ b → IsRead (IsMessageOf a) s t → IsMessageOf b u → t ≡ u
one_typed s a b t u e h k = message-injective t u h.shows.is_type k.is_type (sym h.shows.is ∙ e ∙ k.is)

-- The message of a scalar's type nests no deeper than the scalar's.
flat_type : (s : ExtMeaning) (l t : Value) (q : ScalarRead s l) → nested l ≤ 100 → q.typed_by ≡ t → nested t ≤ 100
flat_type s l t q n e =
    let whole : nested l ≡ nested (one_message 1 q.typed_by ∷ one_message 2 q.inner ∷ []) = ap nested q.is in
    let same : nested q.typed_by ≡ nested t = ap nested e in
    omega (arith, whole, same, n)

not_unread : (r : TypeWireError) (s : ExtMeaning) (l t : Value) (q : ScalarRead s l) → nested l ≤ 100 → q.typed_by ≡ t → RefusesTypeBy r s t → ⊥
not_unread type_error.OutOfMemory s l t q n e h = h
not_unread type_error.BadTable s l t q n e h = h
not_unread type_error.TableLimit s l t q n e h = h
not_unread type_error.BadMessage s l t q n e h = h
not_unread type_error.TooDeep s l t q n e h = absurd (omega (arith, flat_type s l t q n e, h))
not_unread type_error.BadType s l t q n e h = h q.dtype (record { is_type = q.shown.shows.is_type; is = sym e ∙ q.shown.shows.is })
not_unread type_error.UnknownExtension s l t q n e h =
    known_or type_error.UnknownExtension s q.dtype (subst (λ u. IsNotKnown type_error.UnknownExtension s u) (sym (one_typed s q.typed_by t q.dtype h.0 e q.shown h.1.0)) h.1.1) q.shown.known
not_unread type_error.ExtensionRefused s l t q n e h =
    known_or type_error.ExtensionRefused s q.dtype (subst (λ u. IsNotKnown type_error.ExtensionRefused s u) (sym (one_typed s q.typed_by t q.dtype h.0 e q.shown h.1.0)) h.1.1) q.shown.known
not_unread type_error.WireLimit s l t q n e h = h

-- A scalar's message that is read has no cause of its own.
no_scalar_cause : (e : ScalarWireError) (s : ExtMeaning) (l : Value) → ScalarRead s l → nested l ≤ 100 → IsScalarCause e s l → ⊥
no_scalar_cause MissingKind s l q n (inl h) = none_some (message_in (entries_in l 0)) q.typed_by (type_held s l q) h
no_scalar_cause MissingKind s l q n (inr h) = none_some (message_in (entries_in l 1)) q.inner (value_held s l q) h
no_scalar_cause BadScalar s l q n h =
    let whole = sym h.4 ∙ q.is in
    let types : h.0 ≡ q.typed_by = one_part 1 h.0 q.typed_by (same_slot _ _ _ _ whole) in
    let inner : h.1 ≡ q.inner = one_part 2 h.1 q.inner (same_slot _ _ [] [] (same_rest _ _ _ _ whole)) in
    let same : h.2 ≡ q.dtype = one_typed s h.0 q.typed_by h.2 q.dtype types h.5 q.shown.shows in
    let one : q.value ≡ h.3 =
    reads-one s q.value h.3 q.dtype q.inner q.read (subst (λ w. ReadsValue s h.3 q.dtype w) inner (subst (λ t. ReadsValue s h.3 t h.1) same h.6)) in
    h.7 (subst (λ t. Fits h.3 t) (sym same) (subst (λ y. Fits y q.dtype) one q.fits))
no_scalar_cause (BadDType r) s l q n h = not_unread r s l h.0 q n (some_is (message_in (entries_in l 0)) q.typed_by h.0 (type_held s l q) h.1) h.2
no_scalar_cause _ s l q n h = absurd h

-- ---- tuples

counted_by : (s : ExtMeaning) (vs : V.Values) (ts : Roses Kind) (ws : List Value) → ReadsBy s vs ts ws → length (all_messages 1 ws) ≡ count ts
counted_by s end ts ws r = ap (λ (us : List Value). length (all_messages 1 us)) r.1 ∙ ap (λ (x : Roses Kind). count x) (sym r.0)
counted_by s (more v vs) end ws r = absurd r
counted_by s (more v vs) (more d ds) [] r = absurd r
counted_by s (more v vs) (more d ds) (w ∷ ws) r = omega (arith, counted_by s vs ds ws r.1)

other_parts : (s : ExtMeaning) (vs : V.Values) (ws : List Value) (t : Typ) → ReadsParts (λ e. EachReads s vs e ws) (λ ts. ReadsBy s vs ts ws) t → IsOtherCount (length (all_messages 1 ws)) t → ⊥
other_parts s vs ws (node (K.structure ns m) ts) r h = h (counted_by s vs ts ws r)
other_parts s vs ws _ r h = absurd h

not_miscounted : (s : ExtMeaning) (v : V.Value) (d : Typ) (m l : Value) → Holds m 9 (message (slots_of l)) → IsOtherCount (length (entries_in l 0)) (bare d) → ReadsValue s v d m → ⊥
not_miscounted s v d m l h c r =
    let q = only_tuple s v d m (message (slots_of l)) h r in
    let is : l ≡ all_messages 1 q.2.0 ∷ [] = one_inside m 9 l (all_messages 1 q.2.0 ∷ []) h q.2.1 in
    other_parts s q.0 q.2.0 (bare d) q.2.2 (subst (λ (x : Value). IsOtherCount (length (entries_in x 0)) (bare d)) is c)

-- ---- one message

inside_depth : (m l : Value) (g : ℕ) → Holds m g (message (slots_of l)) → nested m ≤ 100 → nested l ≤ 100
inside_depth m l g h n = let whole : nested m ≡ nested (((g, message (slots_of l)) ∷ []) ∷ []) = ap nested h in omega (arith, whole, n)

-- A message that is read at a type has no cause of its own.
no_cause : (e : ScalarWireError) (s : ExtMeaning) (v : V.Value) (d : Typ) (m : Value) → IsType d → nested m ≤ 100 → ReadsValue s v d m → IsCause e s d m → ⊥
no_cause MissingKind s v d m is n r (inl h) = not_vacant s v d m h r
no_cause MissingKind s v d m is n r (inr (inl h)) = not_lacking s v d m h.0 h.1 h.2 r
no_cause MissingKind s v d m is n r (inr (inr h)) = no_scalar_cause MissingKind s h.0 (variant_held s v d m h.0 h.2 r) (inside_depth m h.0 12 h.2 n) h.3
no_cause KindMismatch s v d m is n r h = not_mismatched s v d m h.0 h.1 h.2 h.3 r
no_cause OutOfRange s v d m is n r (inl h) = not_outside s v d m h.0 h.1 h.2 h.3 h.4 h.5 r
no_cause OutOfRange s v d m is n r (inr (inl h)) = not_wide s v d m h.0 h.1 h.3 h.4 r
no_cause OutOfRange s v d m is n r (inr (inr (inl h))) = not_unsized s v d m h.0 h.1 h.2 h.3 r
no_cause OutOfRange s v d m is n r (inr (inr (inr h))) = not_large s v d m h.0 is h.1 h.2 r
no_cause BadChild s v d m is n r (inl h) = not_miscounted s v d m h.0 h.1 h.2 r
no_cause BadChild s v d m is n r (inr (inl h)) = not_unknown s v d m h.0 h.1 h.2 r
no_cause BadChild s v d m is n r (inr (inr h)) = not_unfit s v d m h.0 h.1 h.2 r
no_cause BadScalar s v d m is n r (inl h) = h.3 (only_text s v d m h.0 h.1 h.2 r).1
no_cause BadScalar s v d m is n r (inr h) = no_scalar_cause BadScalar s h.0 (variant_held s v d m h.0 h.2 r) (inside_depth m h.0 12 h.2 n) h.3
no_cause (BadDType x) s v d m is n r h = no_scalar_cause (BadDType x) s h.0 (variant_held s v d m h.0 h.2 r) (inside_depth m h.0 12 h.2 n) h.3
no_cause _ s v d m is n r h = absurd h

-- ---- messages in it

each_at : (s : ExtMeaning) (vs : V.Values) (e : Typ) (ws : List Value) (i : ℕ) (u : Value) → EachReads s vs e ws → IsAt (all_messages 1 ws) i (1, message (slots_of u)) → (x : V.Value) × ReadsValue s x e u
each_at s end e [] i u r a = absurd a
each_at s end e (w ∷ ws) i u r a = absurd (cc)
each_at s (more v vs) e [] i u r a = absurd a
each_at s (more v vs) e (w ∷ ws) zero u r a = (v, subst (λ y. ReadsValue s v e y) (same_message w u (ap (λ (x : Entry). x.1) a)) r.0)
each_at s (more v vs) e (w ∷ ws) (suc i) u r a = each_at s vs e ws i u r.1 a

by_at : (s : ExtMeaning) (vs : V.Values) (ts : Roses Kind) (ws : List Value) (i : ℕ) (f : Typ) (u : Value) → ReadsBy s vs ts ws → IsAt (all_messages 1 ws) i (1, message (slots_of u)) → IsFieldAt ts i f
    → (x : V.Value) × ReadsValue s x f u
by_at s end ts [] i f u r a b = absurd a
by_at s end ts (w ∷ ws) i f u r a b = let e : w ∷ ws ≡ [] = r.1 in absurd (cc)
by_at s (more v vs) end ws i f u r a b = absurd r
by_at s (more v vs) (more d ds) [] i f u r a b = absurd r
by_at s (more v vs) (more d ds) (w ∷ ws) zero f u r a b =
    (v, subst (λ t. ReadsValue s v t u) b (subst (λ y. ReadsValue s v d y) (same_message w u (ap (λ (x : Entry). x.1) a)) r.0))
by_at s (more v vs) (more d ds) (w ∷ ws) (suc i) f u r a b = by_at s vs ds ws i f u r.1 a b

part_at : (s : ExtMeaning) (vs : V.Values) (ws : List Value) (t : Typ) (i : ℕ) (f : Typ) (u : Value) → ReadsParts (λ e. EachReads s vs e ws) (λ ts. ReadsBy s vs ts ws) t
    → IsAt (all_messages 1 ws) i (1, message (slots_of u)) → IsPartType t i f → (x : V.Value) × ReadsValue s x f u
part_at s vs ws (node (K.list m) (more e end)) i f u r a b = subst (λ t. (x : V.Value) × ReadsValue s x t u) b (each_at s vs e ws i u r a)
part_at s vs ws (node (K.fixed_size_list z m) (more e end)) i f u r a b = subst (λ t. (x : V.Value) × ReadsValue s x t u) b (each_at s vs e ws i u r a)
part_at s vs ws (node (K.structure ns m) ts) i f u r a b = by_at s vs ts ws i f u r a b
part_at s vs ws (node (K.map k m) (more x (more y end))) i f u r a b =
    subst (λ t. (z : V.Value) × ReadsValue s z t u) b (each_at s vs (entries (record { key = x; value = y; keys_sorted = k })) ws i u r a)
part_at s vs ws _ i f u r a b = absurd b

field_typed : (ts : Roses Kind) (i : ℕ) (f : Typ) → EverywhereBelow IsTypeNode ts → IsFieldAt ts i f → IsType f
field_typed end i f h b = absurd b
field_typed (more t ts) zero f h b = subst (λ (x : Typ). IsType x) b h.0
field_typed (more t ts) (suc i) f h b = field_typed ts i f h.1 b

key_text : IsText key_name
unfolding encode
key_text = is_utf8-from_IsUtf8 key_name (key_name, (refl, refl))

value_text : IsText value_name
unfolding encode
value_text = is_utf8-from_IsUtf8 value_name (value_name, (refl, refl))

part_typed : (t : Typ) (i : ℕ) (f : Typ) → IsType t → IsPartType t i f → IsType f
part_typed (node (K.list m) (more e end)) i f h b = subst (λ (x : Typ). IsType x) b h.1.0
part_typed (node (K.fixed_size_list z m) (more e end)) i f h b = subst (λ (x : Typ). IsType x) b h.1.0
part_typed (node (K.structure ns m) ts) i f h b = field_typed ts i f h.1 b
part_typed (node (K.map k m) (more x (more y end))) i f h b =
    subst (λ (z : Typ). IsType z) b (record { types = refl; texts = (key_text, (value_text, tt)) }, h.1)
part_typed _ i f h b = absurd b

-- A message in one that is read is read, too, at its type.
part_read : (s : ExtMeaning) (v : V.Value) (d : Typ) (m : Value) (f : Typ) (u : Value) → IsType d → ReadsValue s v d m → IsPart s d m f u → IsType f × ((x : V.Value) × ReadsValue s x f u)
part_read s v d m f u is r (inl h) =
    let q = only_tuple s v d m (message (slots_of h.0)) h.2 r in
    let same : h.0 ≡ all_messages 1 q.2.0 ∷ [] = one_inside m 9 h.0 (all_messages 1 q.2.0 ∷ []) h.2 q.2.1 in
    (part_typed (bare d) h.1 f (bare_type d is) h.4, part_at s q.0 q.2.0 (bare d) h.1 f u q.2.2 (subst (λ (x : Value). IsAt (entries_in x 0) h.1 (1, message (slots_of u))) same h.3) h.4)
part_read s v d m f u is r (inr (inl h)) =
    let q = union_held s v d m (one_number 1 h.0 ∷ one_message 2 u ∷ []) h.1 r in
    let tag : h.0 ≡ q.tag = same_number _ _ (same_content 1 1 _ _ [] [] (same_slot _ _ _ _ q.is)) in
    let inner : u ≡ q.inner = one_part 2 u q.inner (same_slot _ _ [] [] (same_rest _ _ _ _ q.is)) in
    let typed = tag_typed h.0 (λ ts. ts ≡ more f end) (bare d) (bare_type d is) h.2 in (
      (let same : typed.1.0 ≡ f = first_same typed.1.0 f typed.1.2 in subst (λ (x : Typ). IsType x) same typed.1.1),
      both_members h.0 q.tag (λ ts. ts ≡ more f end) (λ ts. ReadsBy s q.values ts (q.inner ∷ []) × FitBy q.values ts) ((x : V.Value) × ReadsValue s x f u) tag
          (λ e is_f by.
          let x = lone_read s q.values e q.inner by.0 by.1 in
          (x.0, subst (λ w. ReadsValue s x.0 f w) (sym inner) (subst (λ t. ReadsValue s x.0 t q.inner) (first_same e f is_f) x.1))) (bare d) h.2 q.fits,
    )
part_read s v d m f u is r (inr (inr h)) =
    let q = variant_held s v d m (one_message 1 h.0 ∷ one_message 2 u ∷ []) h.2 r in
    let types : h.0 ≡ q.typed_by = one_part 1 h.0 q.typed_by (same_slot _ _ _ _ q.is) in
    let inner : u ≡ q.inner = one_part 2 u q.inner (same_slot _ _ [] [] (same_rest _ _ _ _ q.is)) in
    let same : f ≡ q.dtype = one_typed s h.0 q.typed_by f q.dtype types h.3 q.shown.shows in
    (h.3.shows.is_type, (q.value, subst (λ w. ReadsValue s q.value f w) (sym inner) (subst (λ t. ReadsValue s q.value t q.inner) (sym same) q.read)))

no_cause_within : (depth : ℕ) (e : ScalarWireError) (s : ExtMeaning) (v : V.Value) (d : Typ) (m : Value) (f : Typ) (u : Value) → IsType d → nested m ≤ 100 → ReadsValue s v d m → IsWithin depth s d m f u
    → IsCause e s f u → ⊥
no_cause_within zero e s v d m f u is n r w c = no_cause e s v d m is n r (subst (λ t. IsCause e s t m) (sym w.0) (subst (λ x. IsCause e s f x) (sym w.1) c))
no_cause_within (suc depth) e s v d m f u is n r w c =
    let p = part_read s v d m w.0 w.1 is r w.2 in
    no_cause_within depth e s p.1.0 w.0 w.1 f u p.0 (omega (arith, part_depth s d m w.0 w.1 w.2, n)) p.1.1 w.3 c

-- What is read at a type, with at most 100 messages nested, is refused for allocation failure alone.
pub only_memory : (e : ScalarWireError) (s : ExtMeaning) (v : V.Value) (d : Typ) (m : Value) → IsType d → nested m ≤ 100 → ReadsValue s v d m → RefusesReadingValue e s 100 d m → e ≡ OutOfMemory
only_memory OutOfMemory s v d m is n r h = refl
only_memory TooDeep s v d m is n r h = absurd (omega (arith, n, h))
only_memory e s v d m is n r h = absurd (no_cause_within h.0 e s v d m h.1 h.2 is n r h.3 h.4)

-- ---- answers

-- What is read at a type is given, allocation failure aside.
pub value_complete : (r : Result (Option ScalarValue) ScalarWireError) (s : ExtMeaning) (d : Typ) (m : Value) → IsType d → IfOk r (λ x. ReadsValue s (seen x) d m) → IfErr r (λ e. RefusesReadingValue e s 100 d m)
    → (v : V.Value) → nested m ≤ 100 → ReadsValue s v d m → MatchResult r (λ x. seen x ≡ v) (λ e. e ≡ OutOfMemory)
value_complete (Ok x) s d m is h k v n r = reads-one s (seen x) v d m h r
value_complete (Err e) s d m is h k v n r = only_memory e s v d m is n r k

scalar_held : (s : ExtMeaning) (x : Typed) (l : Value) → ReadsScalar s x l → ScalarRead s l
scalar_held s x l r = record { typed_by = r.0; inner = r.1; is = r.2; dtype = x.dtype; shown = r.3; value = x.value; read = r.4; fits = r.5 }

inner_depth : (l t w : Value) → l ≡ one_message 1 t ∷ one_message 2 w ∷ [] → nested l ≤ 100 → nested w ≤ 100
inner_depth l t w e n = let whole : nested l ≡ nested (one_message 1 t ∷ one_message 2 w ∷ []) = ap nested e in omega (arith, whole, n)

-- A scalar's message that is read is refused for allocation failure alone.
pub scalar_memory : (e : ScalarWireError) (s : ExtMeaning) (x : Typed) (l : Value) → nested l ≤ 100 → ReadsScalar s x l → RefusesReadingScalar e s 100 l → e ≡ OutOfMemory
scalar_memory OutOfMemory s x l n r c = refl
scalar_memory e s x l n r (inl c) = absurd (no_scalar_cause e s l (scalar_held s x l r) n c)
scalar_memory e s x l n r (inr c) =
    let whole = sym c.3 ∙ r.2 in
    let types : c.0 ≡ r.0 = one_part 1 c.0 r.0 (same_slot _ _ _ _ whole) in
    let inner : c.1 ≡ r.1 = one_part 2 c.1 r.1 (same_slot _ _ [] [] (same_rest _ _ _ _ whole)) in
    let same : c.2 ≡ x.dtype = one_typed s c.0 r.0 c.2 x.dtype types c.4 r.3.shows in
    let read : ReadsValue s x.value c.2 c.1 = subst (λ w. ReadsValue s x.value c.2 w) (sym inner) (subst (λ t. ReadsValue s x.value t r.1) (sym same) r.4) in
    only_memory e s x.value c.2 c.1 c.4.shows.is_type (inner_depth l c.0 c.1 c.3 n) read c.5

-- What is read of a scalar's message is given, allocation failure aside.
pub scalar_complete : (r : Result Typed ScalarWireError) (s : ExtMeaning) (l : Value) → IfOk r (λ x. ReadsScalar s x l) → IfErr r (λ e. RefusesReadingScalar e s 100 l)
    → (x : Typed) → nested l ≤ 100 → ReadsScalar s x l → MatchResult r (λ y. y ≡ x) (λ e. e ≡ OutOfMemory)
scalar_complete (Ok y) s l h k x n r = one_scalar s l y x h r
scalar_complete (Err e) s l h k x n r = scalar_memory e s x l n r k

-- For the calls that read messages.
pub ruleset complete = (value_complete, only_memory, scalar_complete, scalar_memory)
