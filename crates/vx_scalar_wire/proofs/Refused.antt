-- From the cause of a refusal in a message to that of the message round it.
use Rattle.std.specs.Prelude.{IfErr, IfOk, Option, Result, Ok, Err}
use Rattle.std.proofs.Common.{◌≡◌, ◌∙◌, ◌+◌, ◌<◌, ◌≤◌, ℕ, zero, suc, List, [], ◌∷◌, Some, None, get_or, length, refl, sym, ap, subst, inl, inr, arith}
use Rattle.vx_trees.specs.Rose.{Roses, node, end, more, count, roses_of}
use Rattle.vx_proto.specs.declared.element.Element.{Element}
use Rattle.vx_proto.specs.Parts.{entries_in, message_in, number_in}
use Rattle.vx_proto.specs.Repeated.{seen}
use Rattle.vx_proto.specs.Value.{Entry, Value, message, slots_of, entries_of, entries_view}
use Rattle.vx_proto.specs.Written.{nested, content_depth, entries_depth, slots_depth}
use Rattle.vx_proto.proofs.LawsOfViews.{slot_depth_in}
use Rattle.vx_type_wire.specs.Known.{ExtMeaning, IsRead}
use Rattle.vx_proto.specs.Value.{one_number, one_message}
use Rattle.vx_type_wire.specs.TypeMessage.{IsMessageOf}
use Rattle.vx_types.specs.Fits.{Fits, FitsMember, IsVariant, bare, member}
use Rattle.vx_types.specs.Kind.{Kind, structure, union}
use Rattle.vx_types.specs.Seen.{typ, typs}
use Rattle.vx_types.specs.Typ.{Typ}
use Rattle.vx_types.specs.Value as V
use Rattle.vx_scalars.specs.Seen.{seen as seen_value}
use Rattle.vx_scalars.specs.Told.{Typed}
use Rattle.vx_scalars.specs.declared.value.ScalarValue.{ScalarValue}
use Rattle.vx_types.specs.declared.dtype.DType.{DType}
use Rattle.vx_types.specs.declared.nullability.Nullability.{Nullability}
use Rattle.vx_types.proofs.LawsOfTypes.{typs-length}
use Rattle.vx_scalar_wire.specs.Answers.{GivesScalar, GivesValue, RefusesScalarType, lone_member}
use Rattle.vx_scalar_wire.specs.Reading.{ReadsScalar, ReadsValue}
use Rattle.vx_scalar_wire.specs.Refusing.{IsOtherCount, OfUnion, IsAt, IsFieldAt, IsPartType, IsPart, IsCause, RefusesReadingValue, RefusesReadingScalar}
use Rattle.vx_scalar_wire.specs.declared.error.ScalarWireError.{ScalarWireError}
use Rattle.vx_scalar_wire.specs.declared.error.ScalarWireError.TheVariants.{OutOfMemory, TooDeep, MissingKind, OutOfRange, BadChild, BadScalar, BadDType}

at_depth : (es : List Entry) (i n : ℕ) (u : Value) → IsAt es i (n, message (slots_of u)) → suc (slots_depth (slots_of u)) ≤ entries_depth (entries_of es)
at_depth [] i n u h = absurd h
at_depth (y ∷ es) zero n u h = let e : content_depth y.1 ≡ suc (slots_depth (slots_of u)) = ap (λ (z : Entry). content_depth z.1) h in omega (arith, e)
at_depth (y ∷ es) (suc i) n u h = omega (arith, at_depth es i n u h)

-- A message in another nests two less deep.
pub part_depth : (s : ExtMeaning) (d : Typ) (m : Value) (f : Typ) (u : Value) → IsPart s d m f u → nested u + 2 ≤ nested m
part_depth s d m f u (inl h) =
    let whole : nested m ≡ nested (lone_member 9 (message (slots_of h.0))) = ap nested h.2 in
    omega (arith, whole, slot_depth_in h.0 0, at_depth (entries_in h.0 0) h.1 1 u h.3)
part_depth s d m f u (inr (inl h)) =
    let whole : nested m ≡ nested (lone_member 11 (message (slots_of (one_number 1 h.0 ∷ one_message 2 u ∷ [])))) = ap nested h.1 in
    omega (arith, whole)
part_depth s d m f u (inr (inr h)) =
    let whole : nested m ≡ nested (lone_member 12 (message (slots_of (one_message 1 h.0 ∷ one_message 2 u ∷ [])))) = ap nested h.2 in
    omega (arith, whole)

-- A message is refused for a cause of its own,
pub refused_here : (e : ScalarWireError) (s : ExtMeaning) (most : ℕ) (d : Typ) (m : Value) → IsCause e s d m → RefusesReadingValue e s most d m
refused_here OutOfMemory s most d m h = tt
refused_here TooDeep s most d m h = absurd h
refused_here _ s most d m h = (0, d, m, (refl, refl), h)

-- or for one of a message in it.
pub refused_part : (e : ScalarWireError) (s : ExtMeaning) (most : ℕ) (d : Typ) (m : Value) (f : Typ) (u : Value) → IsPart s d m f u → RefusesReadingValue e s most f u → RefusesReadingValue e s (most + 2) d m
refused_part OutOfMemory s most d m f u p h = tt
refused_part TooDeep s most d m f u p h = omega (arith, part_depth s d m f u p, h)
refused_part _ s most d m f u p h = (suc h.0, h.1, h.2, (f, u, p, h.3), h.4)

refused_inner : (e : ScalarWireError) (s : ExtMeaning) (most : ℕ) (d f : Typ) (l t w : Value) → IsVariant (bare d) → l ≡ one_message 1 t ∷ one_message 2 w ∷ [] → IsRead (IsMessageOf t) s f
    → RefusesReadingValue e s most f w → RefusesReadingValue e s (most + 2) d (lone_member 12 (message (slots_of l)))
refused_inner e s most d f l t w v is r h =
    refused_part e s most d (lone_member 12 (message (slots_of l))) f w (inr (inr (t, v, ap (λ (x : Value). lone_member 12 (message (slots_of x))) is, r))) h

-- A variant is refused where its scalar is.
pub refused_variant : (e : ScalarWireError) (s : ExtMeaning) (most : ℕ) (d : Typ) (l : Value) → IsVariant (bare d) → RefusesReadingScalar e s most l
    → RefusesReadingValue e s (most + 2) d (lone_member 12 (message (slots_of l)))
refused_variant OutOfMemory s most d l v h = tt
refused_variant MissingKind s most d l v (inl h) = refused_here MissingKind s (most + 2) d (lone_member 12 (message (slots_of l))) (inr (inr (l, v, refl, h)))
refused_variant BadScalar s most d l v (inl h) = refused_here BadScalar s (most + 2) d (lone_member 12 (message (slots_of l))) (inr (l, v, refl, h))
refused_variant (BadDType r) s most d l v (inl h) = refused_here (BadDType r) s (most + 2) d (lone_member 12 (message (slots_of l))) (l, v, refl, h)
refused_variant _ s most d l v (inl h) = absurd h
refused_variant e s most d l v (inr h) = refused_inner e s most d h.2 l h.0 h.1 v h.3 h.4 h.5

-- A scalar is refused where its value is.
pub refused_value : (e : ScalarWireError) (s : ExtMeaning) (most : ℕ) (l t w : Value) (f : Typ) → l ≡ one_message 1 t ∷ one_message 2 w ∷ [] → IsRead (IsMessageOf t) s f → RefusesReadingValue e s most f w
    → RefusesReadingScalar e s most l
refused_value OutOfMemory s most l t w f is r h = tt
refused_value _ s most l t w f is r h = inr (t, w, f, is, r, h)

-- A tuple is refused where one of its parts is.
pub refused_element : (e : ScalarWireError) (s : ExtMeaning) (most : ℕ) (d f : Typ) (l w : Value) (i : ℕ) → IsAt (entries_in l 0) i (1, message (slots_of w)) → IsPartType (bare d) i f
    → RefusesReadingValue e s most f w → RefusesReadingValue e s (most + 2) d (lone_member 9 (message (slots_of l)))
refused_element e s most d f l w i a p h = refused_part e s most d (lone_member 9 (message (slots_of l))) f w (inl (l, i, refl, a, p)) h

-- A union's value is refused where its member is.
pub refused_member : (e : ScalarWireError) (s : ExtMeaning) (most : ℕ) (d f : Typ) (l w : Value) (n : ℕ) (ns : List (List ℕ)) (ids : List ℕ) (k : Nullability) (ts : Roses Kind)
    → bare d ≡ node (union ns ids k) ts → member n ids ts ≡ Some f → l ≡ one_number 1 n ∷ one_message 2 w ∷ [] → RefusesReadingValue e s most f w
    → RefusesReadingValue e s (most + 2) d (lone_member 11 (message (slots_of l)))
refused_member e s most d f l w n ns ids k ts is found p h =
    refused_part e s most d (lone_member 11 (message (slots_of l))) f w
    (inr (inl (n, ap (λ (x : Value). lone_member 11 (message (slots_of x))) p, subst (λ (z : Typ). FitsMember n (λ us. us ≡ more f end) z) (sym is) (f, found, refl)))) h

-- Where an element stands.
pub element_at : (es : List (ℕ × Element)) (i : ℕ) (x : ℕ × Element) (y : Entry) → i < length es → x ≡ get_or es i x → seen x ≡ y → IsAt (entries_view es) i y
element_at [] i x y lt is e = absurd (omega arith)
element_at (z ∷ es) zero x y lt is e = ap seen (sym is) ∙ e
element_at (z ∷ es) (suc i) x y lt is e = element_at es i x y (omega arith) is e

pub field_at : (ds : List DType) (i : ℕ) (d : DType) → i < length ds → d ≡ get_or ds i d → IsFieldAt (roses_of (typs ds)) i (typ d)
field_at [] i d lt is = absurd (omega arith)
field_at (x ∷ ds) zero d lt is = ap typ (sym is)
field_at (x ∷ ds) (suc i) d lt is = field_at ds i d (omega arith) is

-- ---- unions

pub large_tag : (s : ExtMeaning) (most : ℕ) (d : Typ) (l : Value) (n : ℕ) (ns : List (List ℕ)) (ids : List ℕ) (k : Nullability) (ts : Roses Kind) → bare d ≡ node (union ns ids k) ts
    → Some n ≡ number_in (entries_in l 0) → 255 < n → RefusesReadingValue OutOfRange s most d (lone_member 11 (message (slots_of l)))
large_tag s most d l n ns ids k ts is e h =
    refused_here OutOfRange s most d (lone_member 11 (message (slots_of l)))
    (inr (inr (inr (l, refl, subst (λ (z : Typ). OfUnion (λ us vs. (j : ℕ) × (number_in (entries_in l 0) ≡ Some j) × (255 < j)) z) (sym is) (n, sym e, h)))))

pub unknown_tag : (e : ScalarWireError) (s : ExtMeaning) (most : ℕ) (d : Typ) (l : Value) (n : ℕ) (ns : List (List ℕ)) (ids : List ℕ) (k : Nullability) (ts : Roses Kind)
    → bare d ≡ node (union ns ids k) ts → Some n ≡ number_in (entries_in l 0) → (e ≡ BadChild) × (member n ids ts ≡ None) → RefusesReadingValue e s most d (lone_member 11 (message (slots_of l)))
unknown_tag e s most d l n ns ids k ts is p h =
    subst (λ (y : ScalarWireError). RefusesReadingValue y s most d (lone_member 11 (message (slots_of l)))) (sym h.0)
    (refused_here BadChild s most d (lone_member 11 (message (slots_of l)))
    (inr (inl (l, refl, subst (λ (z : Typ). OfUnion (λ us vs. (j : ℕ) × (number_in (entries_in l 0) ≡ Some j) × (member j us vs ≡ None)) z) (sym is) (n, sym p, h.1)))))

pub unfit_value : (s : ExtMeaning) (most : ℕ) (d : Typ) (l w : Value) (n : ℕ) (f : Typ) (v : V.Value) (ns : List (List ℕ)) (ids : List ℕ) (k : Nullability) (ts : Roses Kind)
    → bare d ≡ node (union ns ids k) ts → l ≡ one_number 1 n ∷ one_message 2 w ∷ [] → member n ids ts ≡ Some f → ReadsValue s v f w → (Fits v f → ⊥)
    → RefusesReadingValue BadChild s most d (lone_member 11 (message (slots_of l)))
unfit_value s most d l w n f v ns ids k ts is p found r h =
    refused_here BadChild s most d (lone_member 11 (message (slots_of l)))
    (inr (inr (
      l,
      refl,
      subst (λ (z : Typ). OfUnion (λ us vs. (j : ℕ) × (e : Typ) × (u : Value) × (x : V.Value) × (l ≡ one_number 1 j ∷ one_message 2 u ∷ []) × (member j us vs ≡ Some e) × ReadsValue s x e u × (Fits x e → ⊥)) z)
          (sym is) (n, f, w, v, p, found, r, h),
    )))

-- ---- structures

same_count : (ts : List Typ) → count (roses_of ts) ≡ length ts
same_count [] = refl
same_count (t ∷ ts) = omega (arith, same_count ts)

viewed_length : (es : List (ℕ × Element)) → length (entries_view es) ≡ length es
viewed_length [] = refl
viewed_length (x ∷ es) = omega (arith, viewed_length es)

pub other_count : (s : ExtMeaning) (most : ℕ) (l : Value) (es : List (ℕ × Element)) (ds : List DType) (ts : List Typ) → entries_view es ≡ entries_in l 0 → typs ds ≡ ts → (length es ≡ length ds → ⊥)
    → (t : Typ) (ns : List (List ℕ)) (n : Nullability) → bare t ≡ node (structure ns n) (roses_of ts) → RefusesReadingValue BadChild s most t (lone_member 9 (message (slots_of l)))
other_count s most l es ds ts e f h t ns n is =
    refused_here BadChild s most t (lone_member 9 (message (slots_of l)))
    (inl (
      l,
      refl,
      subst (λ (z : Typ). IsOtherCount (length (entries_in l 0)) z) (sym is)
          (λ c. h (sym (viewed_length es) ∙ ap (λ (x : List Entry). length x) e ∙ c ∙ same_count ts ∙ ap (λ (x : List Typ). length x) (sym f) ∙ typs-length ds)),
    ))

-- ---- scalars

pub refused_type : (e : ScalarWireError) (s : ExtMeaning) (most : ℕ) (l t : Value) → Some t ≡ message_in (entries_in l 0) → RefusesScalarType e s t → RefusesReadingScalar e s most l
refused_type OutOfMemory s most l t p h = tt
refused_type (BadDType r) s most l t p h = inl (t, sym p, h)
refused_type _ s most l t p h = absurd h

pub unfit_scalar : (s : ExtMeaning) (most : ℕ) (l t w : Value) (f : Typ) (v : V.Value) → l ≡ one_message 1 t ∷ one_message 2 w ∷ [] → IsRead (IsMessageOf t) s f → ReadsValue s v f w → (Fits v f → ⊥)
    → RefusesReadingScalar BadScalar s most l
unfit_scalar s most l t w f v is r q h = inl (t, w, f, v, is, r, q, h)

-- ---- answers

-- What is given is read,
pub value_given : (r : Result (Option ScalarValue) ScalarWireError) (s : ExtMeaning) (most : ℕ) (d : Typ) (m : Value) → GivesValue (λ x. seen_value x) r s most d m → IfOk r (λ x. ReadsValue s (seen_value x) d m)
value_given (Ok x) s most d m h = h
value_given (Err e) s most d m h = tt

-- and what is not is refused.
pub value_refused : (r : Result (Option ScalarValue) ScalarWireError) (s : ExtMeaning) (most : ℕ) (d : Typ) (m : Value) → GivesValue (λ x. seen_value x) r s most d m → IfErr r (λ e. RefusesReadingValue e s most d m)
value_refused (Ok x) s most d m h = tt
value_refused (Err e) s most d m h = h

pub scalar_given : (r : Result Typed ScalarWireError) (s : ExtMeaning) (most : ℕ) (l : Value) → GivesScalar r s most l → IfOk r (λ x. ReadsScalar s x l)
scalar_given (Ok x) s most l h = h
scalar_given (Err e) s most l h = tt

pub scalar_refused : (r : Result Typed ScalarWireError) (s : ExtMeaning) (most : ℕ) (l : Value) → GivesScalar r s most l → IfErr r (λ e. RefusesReadingScalar e s most l)
scalar_refused (Ok x) s most l h = tt
scalar_refused (Err e) s most l h = h
