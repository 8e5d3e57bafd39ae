-- The codes and the values of a dictionary, and its rows.
use Rattle.std.proofs.Common.{ℕ, ◌≡◌, ◌≤◌, ◌<◌, ◌+◌, ◌⊎◌, inl, inr, List, [], ◌∷◌, Option, Some, None, Result, Ok, Err, IfOk, Bool, true, false, refl, sym, ap, ◌∙◌, subst, length, get_or, arith}
use Rattle.std.specs.Prelude.{◌↔◌, IsTrue, is_some, unwrap_or}
use Rattle.std.proofs.lemmas.Bool.{false≢true}
use Rattle.std.proofs.Math.Nat.{eq-or-lt_of_le}
use Rattle.std.proofs.lemmas.Option.{none-some}
use Rattle.vx_trees.specs.Rose.{node, end, more, label, count, roses_of}
use Rattle.vx_trees.specs.Same.{same}
use Rattle.vx_trees.proofs.Lists.{count-roses_of}
use Rattle.vx_trees.proofs.Sameness.{same-decides}
use Rattle.vx_trees.specs.Walks.{nodes, nodes_of}
use Rattle.vx_trees.proofs.LawsOfLists.{heads, tails}
use Rattle.vx_types.proofs.LawsOfTypes.{nullable_under, same_nullability}
use Rattle.vx_types.specs.Kind.{primitive, boolean}
use Rattle.vx_numbers.specs.Numbers.{is_integer}
use Rattle.vx_types.specs.Typ.{Typ, typ_code}
use Rattle.vx_types.specs.Value.{Value, lone, null, opaque, natural}
use Rattle.vx_types.specs.Words.{nullability}
use Rattle.vx_types.specs.declared.nullability.Nullability.{Nullability}
use Rattle.vx_types.specs.declared.nullability.Nullability.TheVariants.{Nullable, NonNullable}
use Rattle.vx_numbers.specs.declared.ptype.PType.{PType}
use Rattle.vx_scalars.specs.Stats.{Stats}
use Rattle.vx_array_tree.specs.Body as B
use Rattle.vx_array_tree.specs.Encodings.Dicts.{Data, Content, IsCode, lifted, raised, rows, valid_by}
use Rattle.vx_array_tree.specs.Place.{Place, place, ptype_of}
use Rattle.vx_array_tree.specs.Refused.{IsWellShaped}
use Rattle.vx_types.specs.Value.{flag_in}
use Rattle.vx_array_tree.specs.Rows.{IsThere, index_at, where_valid, cells_where}
use Rattle.vx_array_tree.specs.Sound.{IsSoundNode}
use Rattle.vx_array_tree.specs.Tree.{Tree, Trees, cells, places, row_at, rows_below, rows_of, untold, valid_at}
use Rattle.vx_array_tree.proofs.Plans.{exactly_is}
use Rattle.vx_array_tree.proofs.RowsAgree.{AgreesAt, rows_agree}
use Rattle.vx_array_tree.proofs.RowsOfSound.{rows_len}
use Rattle.vx_arrays.specs.Dicts.{AreDictChildren, IsOfCodes, dict_head}
use Rattle.vx_arrays.specs.Plain.{plain_head}
use Rattle.vx_arrays.specs.declared.body.Body.{Body}
use Rattle.vx_arrays.specs.declared.body.Body.TheVariants.{Dict}
use Rattle.vx_rows.specs.declared.error.ArrayError.{ArrayError}
use Rattle.vx_arrays.proofs.Untold.{untold_node}

-- ---- types

-- A type that may be null has no nullability to get.
pub already_raised : (m : Nullability) (v : Typ) → nullability v ≡ Nullable → raised m v ≡ v
already_raised Nullable v e = same_nullability Nullable v e
already_raised NonNullable v e = refl

-- A type that is the raised one is the dictionary's where a test says so.
pub type_decides : (m : Nullability) (v d w : Typ) (b : Bool) → b ≡ same typ_code w d → w ≡ raised m v → IsTrue b ↔ (raised m v ≡ d)
type_decides m v d w b h e = (λ t. sym e ∙ (same-decides typ_code w d).0 (sym h ∙ t), λ q. h ∙ (same-decides typ_code w d).1 (e ∙ q))

-- The types of codes are of a kind of integers, null or not.
codes_type : (d : Typ) → IsOfCodes d → (d ≡ node (primitive (ptype_of d) (nullability d)) end) × IsTrue (is_integer (ptype_of d))
codes_type (node (primitive p m) end) h = (refl, h)
codes_type _ h = absurd h

type_of_codes : (d : Typ) (p : PType) (m : Nullability) → d ≡ node (primitive p m) end → IsTrue (is_integer p) → IsOfCodes d
type_of_codes d p m e h = subst (λ (z : Typ). IsOfCodes z) (sym e) h

-- Where codes may be null, the dictionary's type is.
codes_allow : (m : Nullability) (v d : Typ) → raised m v ≡ d → m ≡ Nullable → nullability d ≡ Nullable
codes_allow Nullable v d q e = subst (λ (z : Typ). nullability z ≡ Nullable) q (nullable_under v)
codes_allow NonNullable v d q e = absurd (cc)

-- ---- shapes

-- Its children are two.
pub shaped_two : (d : Typ) (n : ℕ) (x : Data) (ts : Trees) → IsWellShaped (untold d n (B.dict x)) ts → count ts ≡ 2
shaped_two d n x end s = absurd (none-some _ s.planned)
shaped_two d n x (more c end) s = absurd (none-some _ s.planned)
shaped_two d n x (more c (more v end)) s = refl
shaped_two d n x (more c (more v (more u us))) s = absurd (none-some _ s.planned)

pub shaped_paired : (d : Typ) (n : ℕ) (x : Data) (c v : Tree) → IsWellShaped (untold d n (B.dict x)) (more c (more v end)) → AreDictChildren d n c v
shaped_paired d n x c v s =
    let e = exactly_is (place (node (primitive (ptype_of (label c).dtype) (nullability (label c).dtype)) end) n ∷ place d (label v).len ∷ []) 2 (lifted (places (more c (more v end)))) s.planned in
    let p = heads _ _ _ _ e in
    let q = heads _ _ _ _ (tails _ _ _ _ e) in
    record {
      kind = type_of_codes (label c).dtype (ptype_of (label c).dtype) (nullability (label c).dtype) (ap (λ (z : Place). z.dtype) p) s.fair;
      counted = ap (λ (z : Place). z.len) p;
      typed = ap (λ (z : Place). z.dtype) q;
    }

pub paired_shaped : (d : Typ) (n : ℕ) (x : Data) (c v : Tree) → AreDictChildren d n c v → IsWellShaped (untold d n (B.dict x)) (more c (more v end))
paired_shaped d n x c v a =
    let k = codes_type (label c).dtype a.kind in
    record {
      fair = k.1;
      planned = λ i. Some (place (sym k.0 i) (sym a.counted i) ∷ place (sym a.typed i) (label v).len ∷ []);
      allows = codes_allow (nullability (label c).dtype) (label v).dtype d a.typed;
      takes = tt;
      holds = tt;
    }

-- Two arrays are the children of a dictionary exactly where they are its codes and its values.
pub pair_decides : (d : Typ) (n : ℕ) (f b : Bool) (ts : Trees) (c v : Tree) → ts ≡ more c (more v end) → (IsTrue b ↔ AreDictChildren d n c v) → IsTrue b ↔ IsWellShaped (dict_head d n f) ts
pair_decides d n f b ts c v e h =
    let x : Data = record { all_values_referenced = f } in
    subst (λ (us : Trees). IsTrue b ↔ IsWellShaped (dict_head d n f) us) (sym e)
    (λ t. paired_shaped d n x c v (h.0 t), λ s. h.1 (shaped_paired d n x c v s))

-- And no others are.
pub none_decides : (d : Typ) (n : ℕ) (f : Bool) (ts : Trees) → (count ts ≡ 2 → ⊥) → IsTrue false ↔ IsWellShaped (dict_head d n f) ts
none_decides d n f ts h = (λ t. absurd (false≢true t), λ s. absurd (h (shaped_two d n (record { all_values_referenced = f }) ts s)))

pub pair_answers : (d : Typ) (n : ℕ) (f : Bool) (ts : Trees) (c v : Tree) (r : Result Bool ArrayError) → ts ≡ more c (more v end) → IfOk r (λ b. IsTrue b ↔ AreDictChildren d n c v) → IfOk r (λ b. IsTrue b ↔ IsWellShaped (dict_head d n f) ts)
pair_answers d n f ts c v (Ok b) e h = pair_decides d n f b ts c v e h
pair_answers d n f ts c v (Err x) e h = tt

pub ruleset shapes = (pair_answers, none_decides)

-- ---- two arrays

pub two_items : (us : List Tree) (a b : Tree) → length us ≡ 2 → a ≡ get_or us 0 a → b ≡ get_or us 1 b → roses_of us ≡ more a (more b end)
two_items [] a b l p q = absurd (omega (arith, l))
two_items (x ∷ []) a b l p q = absurd (omega (arith, l))
two_items (x ∷ y ∷ []) a b l p q = λ i. more (sym p i) (more (sym q i) end)
two_items (x ∷ y ∷ z ∷ us) a b l p q = absurd (omega (arith, l))

pub other_items : (us : List Tree) → (length us ≡ 2 → ⊥) → count (roses_of us) ≡ 2 → ⊥
other_items us h e = h (sym (count-roses_of us) ∙ e)

-- ---- the content

-- A row of which a number is known is there.
there : (o : Option Bool) (r : Value) (k : ℕ) → AgreesAt o r → natural r ≡ Some k → o ≡ Some true
there None r k a e = absurd (none-some k (ap (λ (z : Value). natural z) (sym a) ∙ e))
there (Some false) r k a e = absurd (none-some k (ap (λ (z : Value). natural z) (sym a) ∙ e))
there (Some true) r k a e = refl

number_there : (c : Tree) (i k : ℕ) → Some k ≡ natural (row_at c i) → valid_at c i ≡ Some true
number_there c i k e = there (valid_at c i) (row_at c i) k (rows_agree c i) (sym e)

number_is : (c : Tree) (i k : ℕ) → Some k ≡ natural (row_at c i) → k ≡ index_at (rows_of c) i
number_is c i k e = ap (λ (o : Option ℕ). unwrap_or o 0) e

-- Of a code that is a number, it is to be below the values.
pub number_decides : (c v : Tree) (i k n : ℕ) (b : Bool) → Some k ≡ natural (row_at c i) → n ≡ (label v).len → (IsTrue b ↔ (k < n)) → IsTrue b ↔ (IsThere (rows_of c).valid i → IsCode (rows_of c ∷ rows_of v ∷ []) i)
number_decides c v i k n b e l h =
    let q = number_is c i k e in
    let w = rows_len v in (
      λ t _. record { natural = ap (λ (o : Option ℕ). is_some o) (sym e); within = let x = h.0 t in omega (arith, x, q, l, w) },
      λ f. h.1 (let x = (f (number_there c i k e)).within in omega (arith, x, q, l, w)),
    )

-- Where it is none, it is not to be there.
pub missing_decides : (c v : Tree) (i : ℕ) (b : Bool) → None ≡ natural (row_at c i) → (IsTrue b ↔ (valid_at c i ≡ Some true → ⊥)) → IsTrue b ↔ (IsThere (rows_of c).valid i → IsCode (rows_of c ∷ rows_of v ∷ []) i)
missing_decides c v i b e h = (
  λ t there. absurd (h.0 t there),
  λ f. h.1 (λ there. false≢true (ap (λ (o : Option ℕ). is_some o) e ∙ (f there).natural)),
)

-- What holds up to a number, and at it, holds up to the next.
pub one_more : (P : ℕ → Type 0) (i : ℕ) → ((k : ℕ) → k < i → P k) → P i → (k : ℕ) → k < i + 1 → P k
one_more P i all next k h = at_most (eq-or-lt_of_le (omega (arith, h)))
  where
    at_most : (k ≡ i) ⊎ (k < i) → P k
    at_most (inl e) = subst P (sym e) next
    at_most (inr l) = all k l

pub ruleset code_steps = (number_decides, missing_decides)

module _ (d : Typ) (n : ℕ) (f : Bool) (ts : Trees) (s : IsWellShaped (dict_head d n f) ts) where
  pub shaped_count : count ts ≡ 2
  shaped_count = shaped_two d n (record { all_values_referenced = f }) ts s

  module _ (c v : Tree) (e : ts ≡ more c (more v end)) where
    pub codes_counted : (label c).len ≡ n
    codes_counted = (shaped_paired d n (record { all_values_referenced = f }) c v (subst (λ (us : Trees). IsWellShaped (dict_head d n f) us) e s)).counted

pub content_of : (n : ℕ) (b : Bool) (ts : Trees) (c v : Tree) → ts ≡ more c (more v end) → (IsTrue b ↔ Content n (rows_of c ∷ rows_of v ∷ [])) → IsTrue b ↔ Content n (rows_below ts)
content_of n b ts c v e h = subst (λ (us : Trees). IsTrue b ↔ Content n (rows_below us)) (sym e) h

pub ruleset contents = (shaped_count, codes_counted, content_of)

-- ---- sound nodes

module _ (d : Typ) (n : ℕ) (x : Data) (ts : Trees) (s : IsSoundNode (untold d n (B.dict x)) ts) where
  shape : IsWellShaped (untold d n (B.dict x)) ts
  shape = record { fair = s.fair; planned = s.planned; allows = s.allows; takes = s.takes; holds = s.holds }

  pub sound_two : count ts ≡ 2
  sound_two = shaped_two d n x ts shape

  module _ (c v : Tree) (e : ts ≡ more c (more v end)) where
    paired : AreDictChildren d n c v
    paired = shaped_paired d n x c v (subst (λ (us : Trees). IsWellShaped (untold d n (B.dict x)) us) e shape)

    content : Content n (rows_of c ∷ rows_of v ∷ [])
    content = subst (λ (us : Trees). Content n (rows_below us)) e s.content

    pub sound_counted : (label c).len ≡ n
    sound_counted = paired.counted

    module _ (i k : ℕ) (h : i < n) (q : Some k ≡ natural (row_at c i)) where
      -- A code that is a number names one of the values.
      pub sound_within : k < (label v).len
      sound_within = let w = (content i h (number_there c i k q)).within in let l = rows_len v in let y = number_is c i k q in omega (arith, w, l, y)

    -- One that is none is not there.
    never_there : (i : ℕ) → i < n → None ≡ natural (row_at c i) → valid_at c i ≡ Some true → ⊥
    never_there i h q there = false≢true (ap (λ (o : Option ℕ). is_some o) q ∙ (content i h there).natural)

pub ruleset pairs = (sound_two, sound_counted)

-- ---- rows

through_valid : (o : Option Bool) (valid : ℕ → Option Bool) (j : ℕ) → o ≡ Some true → valid j ≡ valid_by o valid j
through_valid o valid j e = rw e refl

not_valid : (o : Option Bool) (valid : ℕ → Option Bool) (j : ℕ) → (o ≡ Some true → ⊥) → o ≡ valid_by o valid j
not_valid None valid j h = refl
not_valid (Some false) valid j h = refl
not_valid (Some true) valid j h = absurd (h refl)

through_row : (o : Option Bool) (value : ℕ → Value) (i : ℕ) → o ≡ Some true → value i ≡ where_valid o value i
through_row o value i e = rw e refl

through_cells : (o : Option Bool) (cells : ℕ → ℕ) (i : ℕ) → o ≡ Some true → cells i ≡ cells_where o cells i
through_cells o cells i e = rw e refl

-- Values of non-nullable flags are of the same type.
never_nullable : (v : Typ) → raised Nullable v ≡ node (boolean NonNullable) end → ⊥
never_nullable v e = absurd (nullable_never (sym (nullable_under v) ∙ ap (λ (y : Typ). nullability y) e))
  where
    nullable_never : Nullable ≡ NonNullable → ⊥
    nullable_never e = absurd (cc)

raised_flags : (m : Nullability) (v : Typ) → raised m v ≡ node (boolean NonNullable) end → v ≡ node (boolean NonNullable) end
raised_flags Nullable v e = absurd (never_nullable v e)
raised_flags NonNullable v e = e

-- An array is a dictionary of these codes and values.
pub record IsDict (t c v : Tree) : Type 0 where
  pub codes_smaller : nodes c < nodes t
  pub values_smaller : nodes v < nodes t
  pub counted : (label c).len ≡ (label t).len
  pub typed : raised (nullability (label c).dtype) (label v).dtype ≡ (label t).dtype
  pub content : Content (label t).len (rows_of c ∷ rows_of v ∷ [])
  pub valid : (i : ℕ) → valid_by (valid_at c i) (λ j. valid_at v j) (index_at (rows_of c) i) ≡ valid_at t i
  pub row : (i : ℕ) → where_valid (valid_at c i) (λ j. row_at v (index_at (rows_of c) j)) i ≡ row_at t i

dict_node : (d : Typ) (n : ℕ) (z : Stats) (x : Data) (c v : Tree) → IsSoundNode (untold d n (B.dict x)) (more c (more v end)) → IsDict (node (record { dtype = d; len = n; stats = z; body = B.dict x }) (more c (more v end))) c v
dict_node d n z x c v s =
    let p = paired d n x (more c (more v end)) s c v refl in
    record {
      codes_smaller = omega arith;
      values_smaller = omega arith;
      counted = p.counted;
      typed = p.typed;
      content = s.content;
      valid = λ i. refl;
      row = λ i. refl;
    }

dict_over : (d : Typ) (n : ℕ) (z : Stats) (x : Data) (ts : Trees) (c v : Tree) → ts ≡ more c (more v end) → IsSoundNode (untold d n (B.dict x)) ts → IsDict (node (record { dtype = d; len = n; stats = z; body = B.dict x }) ts) c v
dict_over d n z x ts c v e s =
    subst (λ (us : Trees). IsDict (node (record { dtype = d; len = n; stats = z; body = B.dict x }) us) c v) (sym e)
    (dict_node d n z x c v (subst (λ (us : Trees). IsSoundNode (untold d n (B.dict x)) us) e s))

pub dict_of : (d : Typ) (n : ℕ) (z : Stats) (b : Body) (x : Data) (ts : Trees) (t c v : Tree) → b ≡ Dict x → node (plain_head d n z b) ts ≡ t → IsSoundNode (plain_head d n z b) ts → ts ≡ more c (more v end) → IsDict t c v
dict_of d n z b x ts t c v q w s e =
    let f : IsSoundNode (plain_head d n z (Dict x)) ts = subst (λ (y : Body). IsSoundNode (plain_head d n z y) ts) q s in
    let g : node (plain_head d n z (Dict x)) ts ≡ t = ap (λ (y : Body). node (plain_head d n z y) ts) (sym q) ∙ w in
    subst (λ (u : Tree). IsDict u c v) g (dict_over d n z x ts c v e (untold_node d n z (B.dict x) ts f))

-- A row of the dictionary is that of the values which its code names.
module _ (t c v : Tree) (a : IsDict t c v) (i : ℕ) where
  module _ (k : ℕ) (q : Some k ≡ natural (row_at c i)) where
    pub named_within : i < (label t).len → k < (label v).len
    named_within h = let w = (a.content i h (number_there c i k q)).within in let l = rows_len v in let y = number_is c i k q in omega (arith, w, l, y)

    pub named_valid : valid_at v k ≡ valid_at t i
    named_valid =
        ap (λ j. valid_at v j) (number_is c i k q) ∙ through_valid (valid_at c i) (λ j. valid_at v j) (index_at (rows_of c) i) (number_there c i k q) ∙ a.valid i

    pub named_row : row_at v k ≡ row_at t i
    named_row =
        ap (λ j. row_at v j) (number_is c i k q) ∙ through_row (valid_at c i) (λ j. row_at v (index_at (rows_of c) j)) i (number_there c i k q) ∙ a.row i

  module _ (h : i < (label t).len) (q : None ≡ natural (row_at c i)) where
    unnamed : valid_at c i ≡ Some true → ⊥
    unnamed there = false≢true (ap (λ (o : Option ℕ). is_some o) q ∙ (a.content i h there).natural)

    pub unnamed_valid : valid_at c i ≡ valid_at t i
    unnamed_valid = not_valid (valid_at c i) (λ j. valid_at v j) (index_at (rows_of c) i) unnamed ∙ a.valid i

    pub unnamed_natural : None ≡ natural (row_at t i)
    unnamed_natural = none_natural (valid_at c i) (λ j. row_at v (index_at (rows_of c) j)) i unnamed ∙ ap (λ (w : Value). natural w) (a.row i)
      where
        none_natural : (o : Option Bool) (value : ℕ → Value) (i : ℕ) → (o ≡ Some true → ⊥) → None ≡ natural (where_valid o value i)
        none_natural None value i h = refl
        none_natural (Some false) value i h = refl
        none_natural (Some true) value i h = absurd (h refl)

    pub unnamed_flag : None ≡ flag_in (row_at t i)
    unnamed_flag = none_flag (valid_at c i) (λ j. row_at v (index_at (rows_of c) j)) i unnamed ∙ ap (λ (w : Value). flag_in w) (a.row i)
      where
        none_flag : (o : Option Bool) (value : ℕ → Value) (i : ℕ) → (o ≡ Some true → ⊥) → None ≡ flag_in (where_valid o value i)
        none_flag None value i h = refl
        none_flag (Some false) value i h = refl
        none_flag (Some true) value i h = absurd (h refl)

pub values_flags : (t c v : Tree) → IsDict t c v → (label t).dtype ≡ node (boolean NonNullable) end → (label v).dtype ≡ node (boolean NonNullable) end
values_flags t c v a q = raised_flags (nullability (label c).dtype) (label v).dtype (a.typed ∙ q)

-- ---- of what a row is made

module _ (n : ℕ) (ts : Trees) (c v : Tree) (i : ℕ) (e : ts ≡ more c (more v end)) where
  pub pair_smaller : nodes v ≤ nodes_of ts
  pair_smaller = rw e (omega arith)

  module _ (k : ℕ) (q : Some k ≡ natural (row_at c i)) where
    pub named_value : row_at v k ≡ (rows n (rows_below ts)).row i
    named_value =
        ap (λ j. row_at v j) (number_is c i k q) ∙ through_row (valid_at c i) (λ j. row_at v (index_at (rows_of c) j)) i (number_there c i k q)
        ∙ ap (λ (us : Trees). (rows n (rows_below us)).row i) (sym e)

    pub named_cells : cells v k ≡ (rows n (rows_below ts)).cells i
    named_cells =
        ap (λ j. cells v j) (number_is c i k q) ∙ through_cells (valid_at c i) (λ j. cells v (index_at (rows_of c) j)) i (number_there c i k q)
        ∙ ap (λ (us : Trees). (rows n (rows_below us)).cells i) (sym e)

  module _ (d : Typ) (x : Data) (s : IsSoundNode (untold d n (B.dict x)) ts) (h : i < n) (q : None ≡ natural (row_at c i)) where
    never : valid_at c i ≡ Some true → ⊥
    never = never_there d n x ts s c v e i h q

    pub null_value : (b : Bool) → Some b ≡ valid_at c i → lone null ≡ (rows n (rows_below ts)).row i
    null_value b t = null_where (valid_at c i) b (λ j. row_at v (index_at (rows_of c) j)) i never t ∙ ap (λ (us : Trees). (rows n (rows_below us)).row i) (sym e)
      where
        null_where : (o : Option Bool) (b : Bool) (value : ℕ → Value) (i : ℕ) → (o ≡ Some true → ⊥) → Some b ≡ o → lone null ≡ where_valid o value i
        null_where None b value i h t = absurd (none-some b (sym t))
        null_where (Some false) b value i h t = refl
        null_where (Some true) b value i h t = absurd (h refl)

    pub opaque_value : None ≡ valid_at c i → lone opaque ≡ (rows n (rows_below ts)).row i
    opaque_value t = ap (λ (o : Option Bool). where_valid o (λ j. row_at v (index_at (rows_of c) j)) i) t ∙ ap (λ (us : Trees). (rows n (rows_below us)).row i) (sym e)

    pub lone_cells : 1 ≡ (rows n (rows_below ts)).cells i
    lone_cells = one_where (valid_at c i) (λ j. cells v (index_at (rows_of c) j)) i never ∙ ap (λ (us : Trees). (rows n (rows_below us)).cells i) (sym e)
      where
        one_where : (o : Option Bool) (count : ℕ → ℕ) (i : ℕ) → (o ≡ Some true → ⊥) → 1 ≡ cells_where o count i
        one_where None count i h = refl
        one_where (Some false) count i h = refl
        one_where (Some true) count i h = absurd (h refl)

pub ruleset dict_parts = (pair_smaller, named_value, named_cells, sound_within, null_value, opaque_value, lone_cells)
