-- The children of a node of texts or of bytes: its offsets, and what stands after them.
use Rattle.std.proofs.Common.{take, drop, get_or, ◌<◌, ℕ, suc, ◌≡◌, ◌≢◌, ◌≤◌, ◌-◌, ◌^◌, List, [], ◌∷◌, Option, Some, None, Bool, true, false, refl, sym, ap, ◌∙◌, subst, length, arith}
use Rattle.std.proofs.lemmas.List.{take_all}
use Rattle.std.proofs.lemmas.Bool.{false≢true, iff_false, lt-ltb}
use Rattle.std.specs.Prelude.{◌↔◌, IsTrue}
use Rattle.std.proofs.lemmas.Option.{none-some}
use Rattle.vx_buffer.specs.Buffer.{Buffer}
use Rattle.vx_trees.specs.Rose.{node, end, more, label, count, roses_of}
use Rattle.vx_trees.proofs.LawsOfLists.{heads, tails}
use Rattle.vx_types.specs.Content.{IsText}
use Rattle.vx_types.specs.Kind as K
use Rattle.vx_numbers.specs.Numbers.{is_integer}
use Rattle.vx_types.specs.Seen.{typ}
use Rattle.vx_types.specs.Typ.{Typ}
use Rattle.vx_types.specs.Value.{lone, null, opaque, utf8, binary}
use Rattle.vx_types.specs.Words.{nullability}
use Rattle.vx_types.specs.declared.dtype.DType.{DType}
use Rattle.vx_types.specs.declared.dtype.DType.TheVariants as D
use Rattle.vx_types.specs.declared.nullability.Nullability.{Nullability}
use Rattle.vx_types.specs.declared.nullability.Nullability.TheVariants.{NonNullable}
use Rattle.vx_numbers.specs.declared.ptype.PType.{PType}
use Rattle.vx_array_tree.specs.Body as B
use Rattle.vx_array_tree.specs.Encodings.VarBins.{Data, AreOffsets, Content, IsContent, bytes_at, mark_of, plan, planned, metadata_of}
use Rattle.vx_array_tree.specs.Encodings.VarBins.{rows as rows_of_parts}
use Rattle.vx_array_tree.specs.Place.{Place, place, numbers, is_len, before_validity, ptype_of}
use Rattle.vx_array_tree.specs.Refused.{IsWellShaped}
use Rattle.vx_array_tree.specs.Rows.{IsThere, validity, where_valid}
use Rattle.vx_array_tree.specs.Sound.{IsSoundNode}
use Rattle.vx_array_tree.specs.Tree.{Tree, Trees, places, rows_below, rows_of, untold}
use Rattle.vx_array_tree.proofs.Options.{mapped, let_through}
use Rattle.vx_arrays.specs.Validity.{IsValidity}
use Rattle.vx_arrays.specs.VarBins.{varbin_head, IsOfBytes, IsOfOffsets, IsSplit}

-- ---- what a plan says

-- Only nodes of texts and of bytes have one.
plan_of_bytes : (d : Typ) (n : ℕ) (v : PType) (k : ℕ) (ps : List Place) → plan d n v k ≡ Some ps → IsOfBytes d × (planned n v k ≡ Some ps)
plan_of_bytes (node (K.utf8 m) end) n v k ps e = (tt, e)
plan_of_bytes (node (K.binary m) end) n v k ps e = (tt, e)
plan_of_bytes _ n v k ps e = absurd (cc)

pub front_is : (p : Place) (n : ℕ) (o : Tree) (vs : Trees) → before_validity (p ∷ []) n (suc (count vs)) ≡ Some (places (more o vs))
    → (place (label o).dtype (label o).len ≡ p) × (before_validity [] n (count vs) ≡ Some (places vs))
front_is p n o vs e =
    let m = mapped (λ (qs : List Place). p ∷ qs) (before_validity [] n (count vs)) (places (more o vs)) e in
    let q : place (label o).dtype (label o).len ≡ p = heads _ _ _ _ (m.1) in
    let r : places vs ≡ m.0 = tails _ _ _ _ (m.1) in
    (q, m.2 ∙ ap (λ z. Some z) (sym r))

some_planned : (n : ℕ) (v : PType) (ts : Trees) → planned n v (count ts) ≡ Some (places ts) → ts ≢ end
some_planned n v end e = λ _. none-some _ (let_through (is_len (suc n)) _ _ e)
some_planned n v (more o vs) e = λ q. absurd (cc)

module _ (d : Typ) (n : ℕ) (b : Buffer) where
  -- A well-shaped node is of texts or of bytes, and has children.
  pub shaped_bytes : (ts : Trees) → IsWellShaped (varbin_head d n b) ts → IsOfBytes d
  shaped_bytes ts s = (plan_of_bytes d n (metadata_of (places ts)) (count ts) (places ts) s.planned).0

  pub shaped_some : (ts : Trees) → IsWellShaped (varbin_head d n b) ts → ts ≢ end
  shaped_some ts s = some_planned n (metadata_of (places ts)) ts (plan_of_bytes d n (metadata_of (places ts)) (count ts) (places ts) s.planned).1

  -- The first of them are offsets, and after them stands a validity or nothing.
  front : (o : Tree) (vs : Trees) → IsWellShaped (varbin_head d n b) (more o vs)
      → (place (label o).dtype (label o).len ≡ place (numbers (ptype_of (label o).dtype)) (suc n)) × (before_validity [] n (count vs) ≡ Some (places vs))
  front o vs s =
      let p = (plan_of_bytes d n (ptype_of (label o).dtype) (suc (count vs)) (places (more o vs)) s.planned).1 in
      front_is (place (numbers (ptype_of (label o).dtype)) (suc n)) n o vs (let_through (is_len (suc n)) _ _ p)

  pub shaped_split : (o : Tree) (vs : Trees) → IsWellShaped (varbin_head d n b) (more o vs) → IsSplit n o vs
  shaped_split o vs s = record { counted = ap (λ (p : Place). p.len) (front o vs s).0; planned = (front o vs s).1 }

  pub shaped_offsets : (o : Tree) (vs : Trees) → IsWellShaped (varbin_head d n b) (more o vs) → IsOfOffsets (label o).dtype
  shaped_offsets o vs s = subst (λ (z : Typ). IsOfOffsets z) (sym (ap (λ (p : Place). p.dtype) (front o vs s).0)) s.fair

  pub shaped_validity : (o : Tree) (vs : Trees) → IsWellShaped (varbin_head d n b) (more o vs) → IsValidity (nullability d) n vs
  shaped_validity o vs s = record { planned = (front o vs s).1; allowed = λ e. s.allows (ap (λ k. suc k) e) }

-- ---- what is of that shape

pub below_limit : (n : ℕ) → n < 2 ^ 64 → is_len n ≡ true
below_limit n h = lt-ltb n (2 ^ 64) h

pub offsets_type : (d : Typ) → IsOfOffsets d → (d ≡ numbers (ptype_of d)) × IsTrue (is_integer (ptype_of d))
offsets_type (node (K.primitive p NonNullable) end) h = (refl, h)
offsets_type _ h = absurd h

planned_at : (n : ℕ) (v : PType) (o : Tree) (vs : Trees) → (label o).dtype ≡ numbers v → (label o).len ≡ suc n → suc n < 2 ^ 64 → before_validity [] n (count vs) ≡ Some (places vs)
    → planned n v (suc (count vs)) ≡ Some (places (more o vs))
planned_at n v o vs d l lt p = rw (below_limit (suc n) lt, p, d, l) refl

plan_at : (d : Typ) (n : ℕ) (v : PType) (k : ℕ) (ps : List Place) → IsOfBytes d → planned n v k ≡ Some ps → plan d n v k ≡ Some ps
plan_at (node (K.utf8 m) end) n v k ps h e = e
plan_at (node (K.binary m) end) n v k ps h e = e
plan_at _ n v k ps h e = absurd h

pub same_suc : (j k : ℕ) → suc j ≡ suc k → j ≡ k
same_suc j k e = omega (arith, e)

-- Offsets, one more than there are rows, and a validity or nothing, under a type of texts or of bytes.
pub shaped_of : (d : Typ) (n : ℕ) (b : Buffer) (o : Tree) (vs : Trees) → IsOfBytes d → IsOfOffsets (label o).dtype → (label o).len ≡ suc n → suc n < 2 ^ 64 → IsValidity (nullability d) n vs
    → IsWellShaped (varbin_head d n b) (more o vs)
shaped_of d n b o vs h t l lt v =
    let k = offsets_type (label o).dtype t in
    record {
      fair = k.1;
      planned = plan_at d n (ptype_of (label o).dtype) (suc (count vs)) (places (more o vs)) h (planned_at n (ptype_of (label o).dtype) o vs k.0 l lt v.planned);
      allows = λ e. v.allowed (same_suc (count vs) 1 e);
      takes = tt;
      holds = tt;
    }

-- ---- sound nodes

module _ (d : Typ) (n : ℕ) (x : Data) where
  shape : (ts : Trees) → IsSoundNode (untold d n (B.varbin x)) ts → IsWellShaped (varbin_head d n x.bytes) ts
  shape ts s = record { fair = s.fair; planned = s.planned; allows = s.allows; takes = s.takes; holds = s.holds }

  pub sound_bytes : (ts : Trees) → IsSoundNode (untold d n (B.varbin x)) ts → IsOfBytes d
  sound_bytes ts s = shaped_bytes d n x.bytes ts (shape ts s)

  module _ (ts : Trees) (o : Tree) (vs : Trees) (e : ts ≡ more o vs) (s : IsSoundNode (untold d n (B.varbin x)) ts) where
    front_shape : IsWellShaped (varbin_head d n x.bytes) (more o vs)
    front_shape = subst (λ (z : Trees). IsWellShaped (varbin_head d n x.bytes) z) e (shape ts s)

    content : Content d n x (rows_of o ∷ rows_below vs)
    content = subst (λ (z : Trees). Content d n x (rows_below z)) e s.content

    pub sound_counted : (label o).len ≡ suc n
    sound_counted = (shaped_split d n x.bytes o vs front_shape).counted

    pub sound_planned : before_validity [] n (count vs) ≡ Some (places vs)
    sound_planned = (shaped_split d n x.bytes o vs front_shape).planned

    pub sound_offsets : (bs : List ℕ) → bs ≡ x.bytes.bytes → AreOffsets (rows_of o) n (length bs)
    sound_offsets bs q = subst (λ (y : List ℕ). AreOffsets (rows_of o) n (length y)) (sym q) content.offsets

    -- A valid row is of the type's content.
    pub sound_text : (bs part : List ℕ) (i : ℕ) → bs ≡ x.bytes.bytes → i < n → validity (rows_below vs) i ≡ Some true → part ≡ bytes_at bs (rows_of o) i → IsContent d part
    sound_text bs part i q h there p =
        subst (λ (y : List ℕ). IsContent d y) (sym p) (subst (λ (y : List ℕ). IsContent d (bytes_at y (rows_of o) i)) (sym q) (content.texts i h there))

    -- ---- the rows of the node

    -- A valid row is its bytes.
    pub row_there : (bs part : List ℕ) (i : ℕ) → bs ≡ x.bytes.bytes → validity (rows_below vs) i ≡ Some true → part ≡ bytes_at bs (rows_of o) i → lone (mark_of d part) ≡ (rows_of_parts d n x (rows_below ts)).row i
    row_there bs part i q there p =
        ap (λ (y : List ℕ). lone (mark_of d y)) (p ∙ ap (λ (y : List ℕ). bytes_at y (rows_of o) i) q)
        ∙ sym (ap (λ (w : Option Bool). where_valid w (λ j. lone (mark_of d (bytes_at x.bytes.bytes (rows_of o) j))) i) there)
        ∙ ap (λ (z : Trees). (rows_of_parts d n x (rows_below z)).row i) (sym e)

    -- One that is not there is null, and one of which that is not known is opaque.
    pub row_null : (i : ℕ) → validity (rows_below vs) i ≡ Some false → lone null ≡ (rows_of_parts d n x (rows_below ts)).row i
    row_null i there =
        sym (ap (λ (w : Option Bool). where_valid w (λ j. lone (mark_of d (bytes_at x.bytes.bytes (rows_of o) j))) i) there)
        ∙ ap (λ (z : Trees). (rows_of_parts d n x (rows_below z)).row i) (sym e)

    pub row_unknown : (i : ℕ) → validity (rows_below vs) i ≡ None → lone opaque ≡ (rows_of_parts d n x (rows_below ts)).row i
    row_unknown i there =
        sym (ap (λ (w : Option Bool). where_valid w (λ j. lone (mark_of d (bytes_at x.bytes.bytes (rows_of o) j))) i) there)
        ∙ ap (λ (z : Trees). (rows_of_parts d n x (rows_below z)).row i) (sym e)

-- ---- the value of a row

-- A type of texts or of bytes is one of the two.
pub of_bytes : (z : DType) → IsOfBytes (typ z) → ((m : Nullability) → z ≡ D.Utf8 m → ⊥) → ((m : Nullability) → z ≡ D.Binary m → ⊥) → ⊥
of_bytes (D.Utf8 m) h p q = p m refl
of_bytes (D.Binary m) h p q = q m refl
of_bytes _ h p q = absurd h

module _ (z : DType) (m : Nullability) (bs : List ℕ) where
  -- Under a type of texts, content is a text.
  pub text_of_type : z ≡ D.Utf8 m → IsContent (typ z) bs → IsText bs
  text_of_type e h = subst (λ (y : DType). IsContent (typ y) bs) e h

  -- A row of that type is its text, and one of a type of bytes its bytes.
  pub text_mark : (b : List ℕ) → z ≡ D.Utf8 m → b ≡ bs → utf8 b ≡ mark_of (typ z) bs
  text_mark b e q = ap (λ (y : List ℕ). utf8 y) q ∙ ap (λ (y : DType). mark_of (typ y) bs) (sym e)

  pub bytes_mark : z ≡ D.Binary m → binary bs ≡ mark_of (typ z) bs
  bytes_mark e = ap (λ (y : DType). mark_of (typ y) bs) (sym e)

-- ---- the first of some children

-- The first of some children, and those after it.
pub first_and_after : (ts : List Tree) (o : Tree) → 1 ≤ length ts → o ≡ get_or ts 0 o → roses_of ts ≡ more o (roses_of (take (length ts - 1) (drop 1 ts)))
first_and_after [] o h e = absurd (omega (arith, h))
first_and_after (t ∷ ts) o h e =
    let a : take (suc (length ts) - 1) ts ≡ ts = take_all {A = Tree} (suc (length ts) - 1) ts (omega arith) in
    ap (λ (u : Tree). more u (roses_of ts)) (sym e) ∙ ap (λ (us : List Tree). more o (roses_of us)) (sym a)

-- The first of them.
abbrev pub first_of : (ts : List Tree) → 1 ≤ length ts → Tree
first_of [] h = absurd (omega (arith, h))
first_of (t ∷ ts) h = t

pub first_is : (ts : List Tree) (h : 1 ≤ length ts) → first_of ts h ≡ get_or ts 0 (first_of ts h)
first_is [] h = absurd (omega (arith, h))
first_is (t ∷ ts) h = refl

-- ---- what tests say of parts

pub absurd_test : {P : Type 0} → IsTrue false → P
absurd_test t = absurd (false≢true t)

module _ (d : Typ) (n : ℕ) (b : Buffer) (o : Tree) (vs : Trees) where
  -- Under no type of offsets, and under a type that is none of texts or of bytes, nothing is of the shape.
  pub unshaped_offsets : (t : Bool) (e : Typ) → (IsTrue t ↔ IsOfOffsets e) → e ≡ (label o).dtype → t ≡ false → IsTrue false ↔ IsWellShaped (varbin_head d n b) (more o vs)
  unshaped_offsets t e f q h = (λ x. absurd_test x, λ s. absurd (iff_false f h (subst (λ (z : Typ). IsOfOffsets z) (sym q) (shaped_offsets d n b o vs s))))

  pub unshaped_bytes : (t : Bool) → (IsTrue t ↔ IsOfBytes d) → t ≡ false → IsTrue false ↔ IsWellShaped (varbin_head d n b) (more o vs)
  unshaped_bytes t f h = (λ x. absurd_test x, λ s. absurd (iff_false f h (shaped_bytes d n b (more o vs) s)))

  -- Else it is the validity that decides.
  pub validity_decides : (t u r : Bool) (e : Typ) (m : Nullability) → (IsTrue t ↔ IsOfOffsets e) → e ≡ (label o).dtype → t ≡ true → (IsTrue u ↔ IsOfBytes d) → u ≡ true → (label o).len ≡ suc n → suc n < 2 ^ 64
      → m ≡ nullability d → (IsTrue r ↔ IsValidity m n vs) → IsTrue r ↔ IsWellShaped (varbin_head d n b) (more o vs)
  validity_decides t u r e m f q h g k l lt w v =
      let offsets = subst (λ (z : Typ). IsOfOffsets z) q (f.0 h) in (
        λ x. shaped_of d n b o vs (g.0 k) offsets l lt (subst (λ (z : Nullability). IsValidity z n vs) w (v.0 x)),
        λ s. v.1 (subst (λ (z : Nullability). IsValidity z n vs) (sym w) (shaped_validity d n b o vs s)),
      )

  pub shaped_counted : IsWellShaped (varbin_head d n b) (more o vs) → (label o).len ≡ suc n
  shaped_counted s = (shaped_split d n b o vs s).counted

  pub shaped_planned : IsWellShaped (varbin_head d n b) (more o vs) → before_validity [] n (count vs) ≡ Some (places vs)
  shaped_planned s = (shaped_split d n b o vs s).planned

-- ---- what tests say of content

module _ (z : DType) (n : ℕ) (x : Data) (o : Tree) (vs : Trees) where
  pub no_offsets : (t : Bool) (bs : List ℕ) → bs ≡ x.bytes.bytes → (IsTrue t ↔ AreOffsets (rows_of o) n (length bs)) → t ≡ false → IsTrue false ↔ Content (typ z) n x (rows_of o ∷ rows_below vs)
  no_offsets t bs e f h = (λ w. absurd_test w, λ c. absurd (iff_false f h (subst (λ (y : List ℕ). AreOffsets (rows_of o) n (length y)) (sym e) c.offsets)))

  -- Under a type of texts the valid rows are to be texts.
  pub texts_decide : (m : Nullability) (t r : Bool) (bs : List ℕ) → z ≡ D.Utf8 m → bs ≡ x.bytes.bytes → (IsTrue t ↔ AreOffsets (rows_of o) n (length bs)) → t ≡ true
      → (IsTrue r ↔ ((i : ℕ) → i < n → IsThere (validity (rows_below vs)) i → IsText (bytes_at bs (rows_of o) i))) → IsTrue r ↔ Content (typ z) n x (rows_of o ∷ rows_below vs)
  texts_decide m t r bs q e f h g =
      let k : typ z ≡ node (K.utf8 m) end = ap (λ y. typ y) q in
      let a = subst (λ (y : List ℕ). AreOffsets (rows_of o) n (length y)) e (f.0 h) in
      let T : Typ → List ℕ → Type 0 = λ y ys. (i : ℕ) → i < n → IsThere (validity (rows_below vs)) i → IsContent y (bytes_at ys (rows_of o) i) in (
        λ w. record { offsets = a; texts = subst (λ (y : Typ). T y x.bytes.bytes) (sym k) (subst (λ (ys : List ℕ). T (node (K.utf8 m) end) ys) e (g.0 w)) },
        λ c. g.1 (subst (λ (ys : List ℕ). T (node (K.utf8 m) end) ys) (sym e) (subst (λ (y : Typ). T y x.bytes.bytes) k c.texts)),
      )

  -- Under one of bytes the offsets are all.
  pub bytes_decide : (m : Nullability) (t : Bool) (bs : List ℕ) → z ≡ D.Binary m → bs ≡ x.bytes.bytes → (IsTrue t ↔ AreOffsets (rows_of o) n (length bs)) → t ≡ true → IsTrue true ↔ Content (typ z) n x (rows_of o ∷ rows_below vs)
  bytes_decide m t bs q e f h =
      let k : typ z ≡ node (K.binary m) end = ap (λ y. typ y) q in
      let T : Typ → Type 0 = λ y. (i : ℕ) → i < n → IsThere (validity (rows_below vs)) i → IsContent y (bytes_at x.bytes.bytes (rows_of o) i) in
      (λ w. record { offsets = subst (λ (y : List ℕ). AreOffsets (rows_of o) n (length y)) e (f.0 h); texts = subst T (sym k) (λ i l there. tt) }, λ c. refl)
