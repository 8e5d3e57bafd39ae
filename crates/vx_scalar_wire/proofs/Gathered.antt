-- Values gathered one by one from the elements of a list's message.
use Rattle.std.proofs.Common.{◌≡◌, ◌∙◌, ◌<◌, ◌≤◌, ◌+◌, ℕ, zero, suc, List, [], ◌∷◌, ◌++◌, length, get_or, take, drop, refl, sym, ap, subst, add-one, arith}
use Rattle.std.specs.Prelude.{Result, Ok, Err, Some}
use Rattle.vx_trees.specs.Rose.{Roses, node, end, more, roses_of}
use Rattle.vx_proto.specs.declared.element.Element.{Element}
use Rattle.vx_proto.specs.Repeated.{messages, seen, as_message}
use Rattle.vx_proto.specs.Value.{Value, message, slots_of, entries_view}
use Rattle.vx_proto.proofs.LawsOfRepeated.{member_read, all_read}
use Rattle.vx_type_wire.specs.Known.{ExtMeaning, IsRead}
use Rattle.vx_proto.specs.Value.{one_number, one_message}
use Rattle.vx_type_wire.specs.TypeMessage.{IsMessageOf}
use Rattle.vx_types.specs.Fits.{Fits, FitBy, FitsMember, IsVariant, bare, member}
use Rattle.vx_types.specs.Kind.{Kind, structure, union}
use Rattle.vx_types.specs.declared.nullability.Nullability.{Nullability}
use Rattle.vx_types.specs.Seen.{typ, typs}
use Rattle.vx_types.specs.Typ.{Typ}
use Rattle.vx_types.specs.Value as V
use Rattle.vx_types.specs.declared.dtype.DType.{DType}
use Rattle.vx_scalars.specs.Told.{Typed}
use Rattle.vx_scalar_wire.specs.Answers.{GivesEach, GivesParts, GivesRow, lone_member}
use Rattle.vx_scalar_wire.specs.Refusing.{IsPartType}
use Rattle.vx_scalar_wire.specs.Reading.{ReadsValue, ReadsParts, EachReads, ReadsBy, ReadsScalar}
use Rattle.vx_scalar_wire.specs.declared.error.ScalarWireError.{ScalarWireError}

-- These are the messages of the elements so far.
abbrev pub SoFar : List (ℕ × Element) → ℕ → List Value → Type 0
SoFar es i ws = messages (λ v. v) 1 ws ++ entries_view (drop i es) ≡ entries_view es

pub further : (es : List (ℕ × Element)) (i : ℕ) (x : ℕ × Element) (w : Value) (ws : List Value) → i < length es → x ≡ get_or es i x → seen x ≡ (1, message (slots_of w)) → SoFar es i ws
    → SoFar es (i + 1) (ws ++ w ∷ [])
further es i x w ws lt is held so_far = member_read (as_message (λ (v : Value). v)) 1 ws w es i x lt is held so_far

pub done : (es : List (ℕ × Element)) (i : ℕ) (ws : List Value) → length es ≤ i → SoFar es i ws → messages (λ v. v) 1 ws ≡ entries_view es
done es i ws le so_far = all_read (as_message (λ (v : Value). v)) 1 ws es i le so_far

pub each_more : (s : ExtMeaning) (vs : List V.Value) (v : V.Value) (e : Typ) (ws : List Value) (w : Value) → EachReads s (roses_of vs) e ws → ReadsValue s v e w
    → EachReads s (roses_of (vs ++ v ∷ [])) e (ws ++ w ∷ [])
each_more s [] v e [] w h r = (r, refl)
each_more s [] v e (x ∷ ws) w h r = absurd (cc)
each_more s (u ∷ vs) v e [] w h r = absurd h
each_more s (u ∷ vs) v e (x ∷ ws) w h r = (h.0, each_more s vs v e ws w h.1 r)

by_more : (s : ExtMeaning) (vs : List V.Value) (v : V.Value) (ts : List Typ) (d : Typ) (ws : List Value) (w : Value) → ReadsBy s (roses_of vs) (roses_of ts) ws → ReadsValue s v d w
    → ReadsBy s (roses_of (vs ++ v ∷ [])) (roses_of (ts ++ d ∷ [])) (ws ++ w ∷ [])
by_more s [] v [] d [] w h r = (r, (refl, refl))
by_more s [] v [] d (x ∷ ws) w h r = let e = h.1 in absurd (cc)
by_more s [] v (t ∷ ts) d ws w h r = let e = h.0 in absurd (cc)
by_more s (u ∷ vs) v [] d ws w h r = absurd h
by_more s (u ∷ vs) v (t ∷ ts) d [] w h r = absurd h
by_more s (u ∷ vs) v (t ∷ ts) d (x ∷ ws) w h r = (h.0, by_more s vs v ts d ws w h.1 r)

types_more : (ds : List DType) (i : ℕ) (d : DType) → i < length ds → typs (take (suc i) ds) ≡ typs (take i ds) ++ typ (get_or ds i d) ∷ []
types_more [] i d h = absurd (omega (arith, h))
types_more (x ∷ ds) zero d h = refl
types_more (x ∷ ds) (suc i) d h = ap (λ (ts : List Typ). typ x ∷ ts) (types_more ds i d (omega (arith, h)))

pub fields_more : (s : ExtMeaning) (vs : List V.Value) (v : V.Value) (ds : List DType) (i : ℕ) (d : DType) (ws : List Value) (w : Value) → i < length ds → d ≡ get_or ds i d
    → ReadsBy s (roses_of vs) (roses_of (typs (take i ds))) ws → ReadsValue s v (typ d) w → ReadsBy s (roses_of (vs ++ v ∷ [])) (roses_of (typs (take (i + 1) ds))) (ws ++ w ∷ [])
fields_more s vs v ds i d ws w lt is h r =
    let next : typs (take i ds) ++ typ d ∷ [] ≡ typs (take (i + 1) ds) =
    ap (λ (x : DType). typs (take i ds) ++ typ x ∷ []) is ∙ sym (types_more ds i d lt) ∙ ap (λ (n : ℕ). typs (take n ds)) (sym (add-one i)) in
    subst (λ (ts : List Typ). ReadsBy s (roses_of (vs ++ v ∷ [])) (roses_of ts) (ws ++ w ∷ [])) next (by_more s vs v (typs (take i ds)) (typ d) ws w h r)

pub types_all : (ds : List DType) (i : ℕ) → length ds ≤ i → typs (take i ds) ≡ typs ds
types_all [] zero h = refl
types_all [] (suc i) h = refl
types_all (x ∷ ds) zero h = absurd (omega (arith, h))
types_all (x ∷ ds) (suc i) h = ap (λ (ts : List Typ). typ x ∷ ts) (types_all ds i (omega (arith, h)))

-- ---- the values that have parts

-- What is read at each type is the parts of a list, of one of fixed size or of a map,
pub tuple_parts : (s : ExtMeaning) (r : Result (List V.Value) ScalarWireError) (most : ℕ) (m : Value) (e x d b : Typ) → d ≡ b → e ≡ x
    → ((Each : Typ → Type 0) (By : Roses Kind → Type 0) → Each x → ReadsParts Each By b) → ((i : ℕ) → IsPartType b i x) → GivesEach r s most e m → GivesParts r s most d m
tuple_parts s (Ok vs) most m e x d b is same f g h = (
  h.0,
  h.1,
  subst (λ (y : Typ). ReadsParts (λ z. EachReads s (roses_of vs) z h.0) (λ ts. ReadsBy s (roses_of vs) ts h.0) y) (sym is)
      (f (λ z. EachReads s (roses_of vs) z h.0) (λ ts. ReadsBy s (roses_of vs) ts h.0) (subst (λ (z : Typ). EachReads s (roses_of vs) z h.0) same h.2)),
)
tuple_parts s (Err y) most m e x d b is same f g h =
    λ t stored. h t (λ i. subst (λ (z : Typ). IsPartType z i e) (sym (stored ∙ is)) (subst (λ (z : Typ). IsPartType b i z) (sym same) (g i)))

-- and of a structure what is read one by one.
pub row_parts : (s : ExtMeaning) (r : Result (List V.Value) ScalarWireError) (most : ℕ) (m : Value) (ns : List (List ℕ)) (n : Nullability) (ts : Roses Kind) (d : Typ) → d ≡ node (structure ns n) ts
    → GivesRow r s most ts m → GivesParts r s most d m
row_parts s (Ok vs) most m ns n ts d is h = (h.0, h.1, subst (λ (y : Typ). ReadsParts (λ z. EachReads s (roses_of vs) z h.0) (λ us. ReadsBy s (roses_of vs) us h.0) y) (sym is) h.2)
row_parts s (Err y) most m ns n ts d is h = λ t stored. h t ns n (stored ∙ is)

-- A scalar is read of its two messages.
pub scalar_read : (s : ExtMeaning) (m d w : Value) (x : Typed) (e : Typ) (v : V.Value) → x ≡ record { dtype = e; value = v } → m ≡ one_message 1 d ∷ one_message 2 w ∷ [] → IsRead (IsMessageOf d) s e
    → ReadsValue s v e w → Fits v e → ReadsScalar s x m
scalar_read s m d w x e v is p q r f = subst (λ (y : Typed). ReadsScalar s y m) (sym is) (d, w, p, q, r, f)

-- A variant is read of a scalar's message.
pub variant_read : (s : ExtMeaning) (m : Value) (x y : Typed) (t : Typ) → y ≡ x → IsVariant (bare t) → ReadsScalar s x m
    → ReadsValue s (node (V.variant y.dtype) (more y.value end)) t (lone_member 12 (message (slots_of m)))
variant_read s m x y t same v r =
    subst (λ (z : Typed). ReadsValue s (node (V.variant z.dtype) (more z.value end)) t (lone_member 12 (message (slots_of m)))) (sym same)
    (v, (r.0, r.1, ap (λ (u : Value). lone_member 12 (message (slots_of u))) r.2, r.3, (r.4, (refl, refl)), (r.5, refl)))

-- A union's value is read of its tag and of the value of the member.
pub union_read : (s : ExtMeaning) (m w : Value) (n : ℕ) (v y : V.Value) (d t u : Typ) (ns : List (List ℕ)) (ids : List ℕ) (k : Nullability) (ts : Roses Kind) → y ≡ v → u ≡ bare t
    → u ≡ node (union ns ids k) ts → member n ids ts ≡ Some d → m ≡ one_number 1 n ∷ one_message 2 w ∷ [] → ReadsValue s v d w → Fits v d
    → ReadsValue s (node (V.union n) (more y end)) t (lone_member 11 (message (slots_of m)))
union_read s m w n v y d t u ns ids k ts same is_bare is found p r f =
    subst (λ (z : V.Value). ReadsValue s (node (V.union n) (more z end)) t (lone_member 11 (message (slots_of m)))) (sym same) (
      w,
      ap (λ (x : Value). lone_member 11 (message (slots_of x))) p,
      subst (λ (z : Typ). FitsMember n (λ us. ReadsBy s (more v end) us (w ∷ []) × FitBy (more v end) us) z) (sym is ∙ is_bare) (d, found, ((r, (refl, refl)), (f, refl))),
    )
