-- The parts of the message of an aggregate function, and the function that is read of them.
use Rattle.std.proofs.Common.{◌≡◌, ◌⊎◌, inl, inr, Bool, ℕ, List, [], ◌∷◌, Option, Some, None, refl, ap, sym, subst, ◌∙◌, if◌then◌else◌, Result, Ok, Err, IfOk, IfErr, MatchResult}
use Rattle.std.specs.Prelude.{IsErr}
use Rattle.std.specs.Str.{IsUtf8}
use Rattle.std.proofs.lemmas.Str.{is_utf8-from_IsUtf8}
use Rattle.std.proofs.lemmas.Option.{none-some, same_Some}
use Rattle.vx_proto.specs.Schema.{plain, optional, field}
use Rattle.vx_proto.specs.declared.schema.Kind.TheVariants.{Scalar}
use Rattle.vx_proto.specs.declared.schema.ScalarKind.TheVariants.{String, Bytes}
use Rattle.vx_proto.specs.Form.{HasForm}
use Rattle.vx_proto.specs.Parts.{entries_in, text_in, octets_in}
use Rattle.vx_proto.specs.Value.{Entry, Value}
use Rattle.vx_proto.proofs.LawsOfForms.{HoldsMember, none_or_one, slots_of_form}
use Rattle.vx_proto.proofs.LawsOfSlots.{Has, plain_holds, two_of}
use Rattle.vx_fn_wire.specs.Foreign.{foreign_aggregate_fn}
use Rattle.vx_proto.specs.Value.{one_octets}
use Rattle.vx_fn_wire.specs.Messages.{metadata_of}
use Rattle.vx_fn_wire.specs.Schema.{aggregate_lists}
use Rattle.vx_fn_wire.specs.Session.{Registry, IsAggregateOf, RefusesAggregate, optional_octets, HoldsAggregate, ReadsAggregate, RefusesReadingAggregate}
use Rattle.vx_fn_wire.specs.declared.aggregate_fn.AggregateFn.{AggregateFn}
use Rattle.vx_fn_wire.specs.declared.error.FnWireError.{FnWireError}
use Rattle.vx_fn_wire.specs.declared.error.FnWireError.TheVariants.{OutOfMemory, IdMismatch}
use Rattle.vx_fn_wire.proofs.Given.{given_same, given_excludes}

-- A text in its plain slot.
pub record HoldsText (i : ℕ) (es : List Entry) : Type 0 where
  pub text : List ℕ
  pub is : es ≡ one_octets i text
  pub utf8 : IsUtf8 text

pub holds_text : (F : ℕ → Value → Type 0) (i : ℕ) (es : List Entry) → Has F (plain i String) es → HoldsText i es
holds_text F i es h =
    let m = plain_holds F i String es h in
    record { text = m.form.0; is = m.is ∙ ap (λ e. (i, e) ∷ []) m.form.1; utf8 = m.form.2 }

-- Metadata in its optional slot.
pub holds_metadata : (F : ℕ → Value → Type 0) (i : ℕ) (es : List Entry) → Has F (optional i Bytes) es → (m : Option (List ℕ)) × (es ≡ optional_octets i m)
holds_metadata F i es h = go (none_or_one F (field i (Scalar Bytes)) es h.count h.form)
  where
    go : (es ≡ []) ⊎ HoldsMember F (field i (Scalar Bytes)) es → (m : Option (List ℕ)) × (es ≡ optional_octets i m)
    go (inl none) = (None, none)
    go (inr one) = (Some one.form.0, one.is ∙ ap (λ e. (i, e) ∷ []) one.form.1)

pub text_there : (i : ℕ) (s : List ℕ) → IsUtf8 s → text_in (one_octets i s) ≡ Some s
text_there i s h = ap (λ b. if b then Some s else None) (is_utf8-from_IsUtf8 s h)

pub octets_there : (i : ℕ) (m : Option (List ℕ)) → octets_in (optional_octets i m) ≡ m
octets_there i None = refl
octets_there i (Some s) = refl

-- A message of the form holds an identifier and metadata, where its accessors find them.
pub record Parts (v : Value) : Type 0 where
  pub id : List ℕ
  pub metadata : Option (List ℕ)
  pub holds : HoldsAggregate v id metadata
  pub id_there : text_in (entries_in v 0) ≡ Some id
  pub metadata_there : octets_in (entries_in v 1) ≡ metadata

pub parts : (v : Value) → HasForm aggregate_lists 0 v → Parts v
parts v h =
    let F = HasForm aggregate_lists in
    let two = two_of F (plain 1 String) (optional 2 Bytes) v (slots_of_form aggregate_lists 0 v h) in
    let id = holds_text F 1 two.a two.has_a in
    let metadata = holds_metadata F 2 two.b two.has_b in
    record {
      id = id.text;
      metadata = metadata.0;
      holds = two.is ∙ (λ i. id.is i ∷ metadata.1 i ∷ []);
      id_there = ap (λ w. text_in (entries_in w 0)) two.is ∙ ap text_in id.is ∙ text_there 1 id.text id.utf8;
      metadata_there = ap (λ w. octets_in (entries_in w 1)) two.is ∙ ap octets_in metadata.1 ∙ octets_there 2 metadata.0;
    }

-- The identifier of a message of the form is found.
pub id_found : (v w : Value) → HasForm aggregate_lists 0 v → w ≡ v → None ≡ text_in (entries_in w 0) → ⊥
id_found v w h same none =
    let p = parts v h in
    none-some p.id (none ∙ ap (λ z. text_in (entries_in z 0)) same ∙ p.id_there)

-- What the accessors find of a message of the form is what it holds.
pub parts_found : (v w : Value) (id : List ℕ) (m : Option (List ℕ)) → HasForm aggregate_lists 0 v → w ≡ v → Some id ≡ text_in (entries_in w 0) → m ≡ octets_in (entries_in w 1) → HoldsAggregate v id m
parts_found v w id m h same found metadata =
    let p = parts v h in
    let id_is : id ≡ p.id = same_Some id p.id (found ∙ ap (λ z. text_in (entries_in z 0)) same ∙ p.id_there) in
    let m_is : m ≡ p.metadata = metadata ∙ ap (λ z. octets_in (entries_in z 1)) same ∙ p.metadata_there in
    p.holds ∙ sym (λ i. one_octets 1 (id_is i) ∷ optional_octets 2 (m_is i) ∷ [])

-- A message holds one identifier and one metadata.
one_id : (v : Value) (a b : List ℕ) (m n : Option (List ℕ)) → HoldsAggregate v a m → HoldsAggregate v b n → a ≡ b
one_id v a b m n h k = same_Some a b (sym (ap (λ z. octets_in (entries_in z 0)) h) ∙ ap (λ z. octets_in (entries_in z 0)) k)

one_metadata : (v : Value) (a b : List ℕ) (m n : Option (List ℕ)) → HoldsAggregate v a m → HoldsAggregate v b n → m ≡ n
one_metadata v a b m n h k =
    sym (octets_there 2 m) ∙ sym (ap (λ z. octets_in (entries_in z 1)) h) ∙ ap (λ z. octets_in (entries_in z 1)) k ∙ octets_there 2 n

-- One function is that of an identifier and metadata.
one_given : (reader : Option (List ℕ → Option AggregateFn)) (unknown : Bool) (id metadata : List ℕ) (f g : AggregateFn) → IsAggregateOf reader unknown id metadata f → IsAggregateOf reader unknown id metadata g → f ≡ g
one_given reader unknown id metadata f g h k = given_same reader unknown metadata (foreign_aggregate_fn id metadata) f g h.0 k.0

-- Where a function is given, no cause of a refusal holds.
none_given : (e : FnWireError) (reader : Option (List ℕ → Option AggregateFn)) (unknown : Bool) (id metadata : List ℕ) (g : AggregateFn) → RefusesAggregate e reader unknown id metadata → IsAggregateOf reader unknown id metadata g → ⊥
none_given IdMismatch reader unknown id metadata g h k =
    let same = given_same reader unknown metadata (foreign_aggregate_fn id metadata) h.0 g h.1 k.0 in
    h.2 (ap (λ (f : AggregateFn). f.id) same ∙ k.1)
none_given e reader unknown id metadata g h k = given_excludes e reader unknown metadata (foreign_aggregate_fn id metadata) g k.0 h

-- What is given of the parts is read, and a refusal has its cause.
pub read_of : (registry : Registry AggregateFn) (unknown : Bool) (v : Value) (id there : List ℕ) (m : Option (List ℕ)) (metadata : List ℕ) (r : Result AggregateFn FnWireError)
    → HoldsAggregate v there m → id ≡ there → metadata ≡ metadata_of m → IfOk r (λ f. IsAggregateOf (registry id) unknown id metadata f) → IfOk r (λ f. ReadsAggregate registry unknown v f)
read_of registry unknown v id there m metadata (Ok f) holds same is given =
    record { id = id; metadata = m; holds = subst (λ i. HoldsAggregate v i m) (sym same) holds; given = subst (λ b. IsAggregateOf (registry id) unknown id b f) is given }
read_of registry unknown v id there m metadata (Err e) holds same is given = tt

pub caused_of : (registry : Registry AggregateFn) (unknown : Bool) (v : Value) (id there : List ℕ) (m : Option (List ℕ)) (metadata : List ℕ) (r : Result AggregateFn FnWireError)
    → HoldsAggregate v there m → id ≡ there → metadata ≡ metadata_of m → IfErr r (λ e. (e ≡ OutOfMemory) ⊎ RefusesAggregate e (registry id) unknown id metadata) → IfErr r (λ e. (e ≡ OutOfMemory) ⊎ RefusesReadingAggregate e registry unknown v)
caused_of registry unknown v id there m metadata (Ok f) holds same is cause = tt
caused_of registry unknown v id there m metadata (Err e) holds same is (inl h) = inl h
caused_of registry unknown v id there m metadata (Err e) holds same is (inr cause) =
    inr (record { id = id; metadata = m; holds = subst (λ i. HoldsAggregate v i m) (sym same) holds; cause = subst (λ b. RefusesAggregate e (registry id) unknown id b) is cause })

module _ (registry : Registry AggregateFn) (unknown : Bool) (v : Value) where
  one_function : (f g : AggregateFn) → ReadsAggregate registry unknown v f → ReadsAggregate registry unknown v g → f ≡ g
  one_function f g read k =
      let id = one_id v k.id read.id k.metadata read.metadata k.holds read.holds in
      let m = one_metadata v k.id read.id k.metadata read.metadata k.holds read.holds in
      one_given (registry read.id) unknown read.id (metadata_of read.metadata) f g read.given
      (subst (λ n. IsAggregateOf (registry read.id) unknown read.id (metadata_of n) g) m (subst (λ i. IsAggregateOf (registry i) unknown i (metadata_of k.metadata) g) id k.given))

  uncaused : (e : FnWireError) (g : AggregateFn) → RefusesReadingAggregate e registry unknown v → ReadsAggregate registry unknown v g → ⊥
  uncaused e g cause k =
      let id = one_id v k.id cause.id k.metadata cause.metadata k.holds cause.holds in
      let m = one_metadata v k.id cause.id k.metadata cause.metadata k.holds cause.holds in
      none_given e (registry cause.id) unknown cause.id (metadata_of cause.metadata) g cause.cause
      (subst (λ n. IsAggregateOf (registry cause.id) unknown cause.id (metadata_of n) g) m (subst (λ i. IsAggregateOf (registry i) unknown i (metadata_of k.metadata) g) id k.given))

  -- At most one function is read of a message, and where one is, the only refusal is `OutOfMemory`.
  pub one_read : (r : Result AggregateFn FnWireError) (g : AggregateFn) → IfOk r (λ f. ReadsAggregate registry unknown v f) → IfErr r (λ e. (e ≡ OutOfMemory) ⊎ RefusesReadingAggregate e registry unknown v) → ReadsAggregate registry unknown v g
      → MatchResult r (λ f. f ≡ g) (λ e. e ≡ OutOfMemory)
  one_read (Ok f) g read cause k = one_function f g read k
  one_read (Err e) g read (inl h) k = h
  one_read (Err e) g read (inr cause) k = absurd (uncaused e g cause k)

  -- A message is refused where a cause holds.
  pub none_read : (r : Result AggregateFn FnWireError) (e : FnWireError) → IfOk r (λ f. ReadsAggregate registry unknown v f) → RefusesReadingAggregate e registry unknown v → IsErr r
  none_read (Ok f) e read cause = absurd (uncaused e f cause read)
  none_read (Err y) e read cause = refl
