-- The texts of unions: the type of the member that a tag names, and the text of its row under the tag; and those of variants.
use Rattle.std.proofs.Common.{ℕ, zero, suc, ◌≡◌, ◌≤◌, ◌<◌, ◌+◌, min, List, [], ◌∷◌, ◌++◌, Option, Some, None, codes, refl, sym, ap, ◌∙◌, length, drop, get_or, arith, add-one}
use Rattle.std.proofs.lemmas.Bool.{eq-eqb, ne_eqb}
use Rattle.std.proofs.lemmas.List.{append-nil}
use Rattle.std.specs.Fmt.{decimal}
use Rattle.std.specs.Prelude.{if◌then◌else◌}
use Rattle.vx_trees.specs.Rose.{Roses, node, end, more, roses_of}
use Rattle.vx_types.specs.Fits.{bare, member}
use Rattle.vx_types.specs.Kind.{Kind}
use Rattle.vx_types.specs.Seen.{typ, typs}
use Rattle.vx_types.specs.Typ.{Typ}
use Rattle.vx_types.specs.Value.{Value, union, variant_of}
use Rattle.vx_types.specs.declared.dtype.DType.{DType}
use Rattle.vxcat_store.specs.RowText.{member_under, parted, texts_by, value_text}

-- ---- the type of a member

named_first : (tag x : ℕ) (ids : List ℕ) (t : Typ) (ts : Roses Kind) → x ≡ tag → Some t ≡ member tag (x ∷ ids) (more t ts)
named_first tag x ids t ts e = sym (ap (λ b. if b then Some t else member tag ids ts) (eq-eqb tag x (sym e)))

named_later : (tag x : ℕ) (ids : List ℕ) (t : Typ) (ts : Roses Kind) → (x ≡ tag → ⊥) → member tag (x ∷ ids) (more t ts) ≡ member tag ids ts
named_later tag x ids t ts e = ap (λ b. if b then Some t else member tag ids ts) (ne_eqb tag x (λ q. e (sym q)))

found_suc : (tag : ℕ) (ids : List ℕ) (ds : List DType) (i x : ℕ) (d : DType) → i < length ids → i < length ds → get_or ids i x ≡ tag → Some (typ (get_or ds i d)) ≡ member tag (drop i ids) (roses_of (typs (drop i ds)))
found_suc tag [] ds i x d h k e = absurd (omega (arith, h))
found_suc tag (y ∷ ids) [] i x d h k e = absurd (omega (arith, k))
found_suc tag (y ∷ ids) (c ∷ ds) zero x d h k e = named_first tag y ids (typ c) (roses_of (typs ds)) e
found_suc tag (y ∷ ids) (c ∷ ds) (suc i) x d h k e = found_suc tag ids ds i x d (omega (arith, h)) (omega (arith, k)) e

next_suc : (tag : ℕ) (ids : List ℕ) (ds : List DType) (i x : ℕ) → i < length ids → i < length ds → (get_or ids i x ≡ tag → ⊥)
    → member tag (drop i ids) (roses_of (typs (drop i ds))) ≡ member tag (drop (suc i) ids) (roses_of (typs (drop (suc i) ds)))
next_suc tag [] ds i x h k e = absurd (omega (arith, h))
next_suc tag (y ∷ ids) [] i x h k e = absurd (omega (arith, k))
next_suc tag (y ∷ ids) (c ∷ ds) zero x h k e = named_later tag y ids (typ c) (roses_of (typs ds)) e
next_suc tag (y ∷ ids) (c ∷ ds) (suc i) x h k e = next_suc tag ids ds i x (omega (arith, h)) (omega (arith, k)) e

-- The member at which the search stands has the tag, and is found.
pub named_here : (tag : ℕ) (ids : List ℕ) (ds : List DType) (i x : ℕ) (d : DType) → i < min (length ids) (length ds) → member tag (drop i ids) (roses_of (typs (drop i ds))) ≡ member tag ids (roses_of (typs ds))
    → d ≡ get_or ds i d → get_or ids i x ≡ tag → Some (typ d) ≡ member tag ids (roses_of (typs ds))
named_here tag ids ds i x d h q f g =
    ap (λ (z : DType). Some (typ z)) f ∙ found_suc tag ids ds i x d (omega (arith, h)) (omega (arith, h)) g ∙ q

-- Else the search goes on.
pub named_next : (tag : ℕ) (ids : List ℕ) (ds : List DType) (i x : ℕ) → i < min (length ids) (length ds) → member tag (drop i ids) (roses_of (typs (drop i ds))) ≡ member tag ids (roses_of (typs ds))
    → (get_or ids i x ≡ tag → ⊥) → member tag (drop (i + 1) ids) (roses_of (typs (drop (i + 1) ds))) ≡ member tag ids (roses_of (typs ds))
named_next tag ids ds i x h q f = rw (add-one i) (sym (next_suc tag ids ds i x (omega (arith, h)) (omega (arith, h)) f) ∙ q)

none_at_end : (tag : ℕ) (xs : List ℕ) → member {A = Kind} tag xs end ≡ None
none_at_end tag [] = refl
none_at_end tag (x ∷ xs) = refl

none_left : (tag : ℕ) (xs : List ℕ) (ds : List DType) (j : ℕ) → min (length xs) (length ds) ≤ j → member tag (drop j xs) (roses_of (typs (drop j ds))) ≡ None
none_left tag [] ds zero l = refl
none_left tag [] ds (suc j) l = refl
none_left tag (x ∷ xs) [] zero l = refl
none_left tag (x ∷ xs) [] (suc j) l = none_at_end tag (drop j xs)
none_left tag (x ∷ xs) (d ∷ ds) zero l = absurd (omega (arith, l))
none_left tag (x ∷ xs) (d ∷ ds) (suc j) l = none_left tag xs ds j (omega (arith, l))

-- At the end no member has it.
pub named_none : (tag : ℕ) (ids : List ℕ) (ds : List DType) (i : ℕ) → min (length ids) (length ds) ≤ i → member tag (drop i ids) (roses_of (typs (drop i ds))) ≡ member tag ids (roses_of (typs ds)) → None ≡ member tag ids (roses_of (typs ds))
named_none tag ids ds i h q = sym (none_left tag ids ds i h) ∙ q

pub ruleset naming = (named_here, named_next, named_none)

-- ---- the text

-- The text of a union with this type for its row, or with none.
text_by : ℕ → Value → Option Typ → List ℕ
text_by tag v o = codes "#" ++ (decimal tag ++ (codes "(" ++ (parted (texts_by (more v end) (elim o [ Some t ↦ more t end | None ↦ end ])) ++ codes ")")))

pub union_some : (tag : ℕ) (v : Value) (d t : Typ) → Some t ≡ member_under tag (bare d) → value_text (node (union tag) (more v end)) d ≡ codes "#" ++ (decimal tag ++ (codes "(" ++ (value_text v t ++ codes ")")))
unfolding text_by
union_some tag v d t e =
    sym (ap (λ (o : Option Typ). text_by tag v o) e) ∙ ap (λ (r : List ℕ). codes "#" ++ (decimal tag ++ (codes "(" ++ (r ++ codes ")")))) (append-nil (value_text v t))

pub union_none : (tag : ℕ) (v : Value) (d : Typ) → None ≡ member_under tag (bare d) → value_text (node (union tag) (more v end)) d ≡ codes "#" ++ (decimal tag ++ codes "()")
unfolding text_by
union_none tag v d e = sym (ap (λ (o : Option Typ). text_by tag v o) e)

-- ---- variants

-- A variant's text is that of its value, by the type of this.
pub variant_is : (d e : Typ) (v : Value) → codes "v(" ++ (value_text v d ++ codes ")") ≡ value_text (variant_of d v) e
variant_is d e v = sym (ap (λ (text : List ℕ). codes "v(" ++ (text ++ codes ")")) (append-nil (value_text v d)))
