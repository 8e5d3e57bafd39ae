-- The children of a list view node: its elements, its offsets, its sizes, and what stands after them; and its rows.
use Rattle.std.proofs.Common.{ℕ, suc, ◌≡◌, ◌≤◌, ◌<◌, ◌+◌, ◌⊎◌, inl, inr, List, [], ◌∷◌, Option, Some, None, Bool, true, false, refl, sym, ap, ◌∙◌, subst, length, arith}
use Rattle.std.proofs.Math.Nat.{eq-or-lt_of_le}
use Rattle.std.specs.Prelude.{◌↔◌, IsTrue}
use Rattle.std.proofs.lemmas.Option.{none-some, same_Some}
use Rattle.vx_trees.specs.Rose.{node, end, more, label, count, roses_of}
use Rattle.vx_trees.specs.Walks.{nodes, nodes_of}
use Rattle.vx_trees.specs.Same.{same}
use Rattle.vx_trees.proofs.Lists.{count-roses_of}
use Rattle.vx_trees.proofs.Sameness.{same-decides}
use Rattle.vx_types.specs.Kind.{list}
use Rattle.vx_numbers.specs.Numbers.{is_integer}
use Rattle.vx_types.specs.Typ.{Typ, typ_code}
use Rattle.vx_types.specs.Value.{Value, tuple}
use Rattle.vx_numbers.specs.declared.ptype.PType.{PType}
use Rattle.vx_array_tree.specs.Body as B
use Rattle.vx_array_tree.specs.Encodings.ListViews.{Data, Metadata, Content, IsView, metadata_of, plan, rows}
use Rattle.vx_array_tree.specs.Place.{Place, place, numbers, before_validity, ptype_of}
use Rattle.vx_array_tree.specs.Refused.{IsWellShaped}
use Rattle.vx_array_tree.specs.Rows.{Rows, IsIndex, IsThere, validity, rest, index_at, where_valid, cells_where, values_from, cells_from}
use Rattle.vx_array_tree.specs.Sound.{IsSoundNode}
use Rattle.vx_array_tree.specs.Tree.{Tree, Trees, places, rows_below, rows_of, untold}
use Rattle.vx_array_tree.proofs.RowsOfSound.{rows_len}
use Rattle.vx_arrays.specs.Lists.{element_of}
use Rattle.vx_arrays.specs.ListViews.{AreCounts, AreViewParts, views_of}
use Rattle.vx_arrays.specs.VarBins.{IsOfOffsets}
use Rattle.vx_arrays.proofs.Listed.{first_stands}
use Rattle.vx_arrays.proofs.Split.{offsets_type, same_suc}

-- ---- what a plan says

-- The places of the elements, of the offsets and of the sizes.
abbrev three_places : Typ → ℕ → PType → PType → ℕ → List Place
three_places e m p q n = place e m ∷ place (numbers p) n ∷ place (numbers q) n ∷ []

planned_three : (d : Typ) (n : ℕ) (v : Metadata) (k : ℕ) (ps : List Place) → plan d n v k ≡ Some ps
    → (e : Typ) × (element_of d ≡ Some e) × (before_validity (three_places e v.elements_len v.offset_ptype v.size_ptype n) n k ≡ Some ps)
planned_three (node (list m) (more e end)) n v k ps h = (e, refl, h)
planned_three _ n v k ps h = absurd (cc)

-- ---- what is of that shape

counts_at : (n : ℕ) (t : Tree) → IsTrue (is_integer (ptype_of (label t).dtype)) → place (label t).dtype (label t).len ≡ place (numbers (ptype_of (label t).dtype)) n → AreCounts n t
counts_at n t i f = record { integers = subst (λ (z : Typ). IsOfOffsets z) (sym (ap (λ (x : Place). x.dtype) f)) i; counted = ap (λ (x : Place). x.len) f }

pub shaped_parts : (d : Typ) (n : ℕ) (x : Data) (a o z : Tree) (vs : Trees) → IsWellShaped (untold d n (B.listview x)) (more a (more o (more z vs))) → AreViewParts d n a o z vs
shaped_parts d n x a o z vs s =
    let ts : Trees = more a (more o (more z vs)) in
    let q : PType = ptype_of (label o).dtype in
    let r : PType = ptype_of (label z).dtype in
    let p = planned_three d n (metadata_of (places ts)) (count ts) (places ts) s.planned in
    let f = first_stands (place p.0 (label a).len) (place (numbers q) n ∷ place (numbers r) n ∷ []) n a (more o (more z vs)) p.2 in
    let g = first_stands (place (numbers q) n) (place (numbers r) n ∷ []) n o (more z vs) f.1 in
    let h = first_stands (place (numbers r) n) [] n z vs g.1 in
    record {
      element = p.1 ∙ ap (λ (y : Typ). Some y) (sym (ap (λ (y : Place). y.dtype) f.0));
      offsets = counts_at n o s.fair.offsets g.0;
      sizes = counts_at n z s.fair.sizes h.0;
      after = record { planned = h.1; allowed = λ e. s.allows (ap (λ k. suc (suc (suc k))) e) };
    }

planned_of : (d : Typ) (n : ℕ) (a o z : Tree) (vs : Trees) (p q : PType) → element_of d ≡ Some (label a).dtype → (label o).dtype ≡ numbers p → (label o).len ≡ n → (label z).dtype ≡ numbers q → (label z).len ≡ n
    → before_validity [] n (count vs) ≡ Some (places vs)
    → plan d n (record { elements_len = (label a).len; offset_ptype = p; size_ptype = q }) (suc (suc (suc (count vs)))) ≡ Some (places (more a (more o (more z vs))))
planned_of (node (list m) (more e end)) n a o z vs p q x t l u k b =
    let f : e ≡ (label a).dtype = same_Some _ _ x in
    rw (b, t, l, u, k, f) refl
planned_of _ n a o z vs p q x t l u k b = absurd (cc)

pub parts_shaped : (d : Typ) (n : ℕ) (x : Data) (a o z : Tree) (vs : Trees) → AreViewParts d n a o z vs → IsWellShaped (untold d n (B.listview x)) (more a (more o (more z vs)))
parts_shaped d n x a o z vs l =
    let p = offsets_type (label o).dtype l.offsets.integers in
    let q = offsets_type (label z).dtype l.sizes.integers in
    record {
      fair = record { offsets = p.1; sizes = q.1 };
      planned = planned_of d n a o z vs (ptype_of (label o).dtype) (ptype_of (label z).dtype) l.element p.0 l.offsets.counted q.0 l.sizes.counted l.after.planned;
      allows = λ e. l.after.allowed (same_suc (count vs) 1 (same_suc (suc (count vs)) 2 (same_suc (suc (suc (count vs))) 3 e)));
      takes = tt;
      holds = tt;
    }

-- An array is of the type of the elements exactly where its type equals that.
pub element_decides : (b : Bool) (k e : Typ) (a : Tree) (o : Option Typ) → Some k ≡ o → e ≡ (label a).dtype → b ≡ same typ_code e k → IsTrue b ↔ (o ≡ Some (label a).dtype)
element_decides b k e a o s q d = (
  λ t. sym s ∙ ap (λ (y : Typ). Some y) (sym ((same-decides typ_code e k).0 (sym d ∙ t)) ∙ q),
  λ h. d ∙ (same-decides typ_code e k).1 (q ∙ sym (same_Some _ _ (s ∙ h))),
)

-- There are three children or more.
pub three_children : (d : Typ) (n : ℕ) (x : Data) (ts : Trees) → IsWellShaped (untold d n (B.listview x)) ts → 3 ≤ count ts
three_children d n x end s = let p = planned_three d n (metadata_of []) 0 [] s.planned in absurd (none-some _ p.2)
three_children d n x (more a end) s = let p = planned_three d n (metadata_of (places (more a end))) 1 (places (more a end)) s.planned in absurd (none-some _ p.2)
three_children d n x (more a (more o end)) s = let p = planned_three d n (metadata_of (places (more a (more o end)))) 2 (places (more a (more o end))) s.planned in absurd (none-some _ p.2)
three_children d n x (more a (more o (more z vs))) s = omega arith

-- So of fewer arrays there is no node.
pub never_few : (d : Typ) (n : ℕ) (flag : Bool) (us : List Tree) → length us < 3 → IsWellShaped (untold d n (views_of flag)) (roses_of us) → ⊥
never_few d n flag us l s = omega (arith, l, three_children d n (record { zero_copy = flag }) (roses_of us) s, count-roses_of us)

-- After the first of some arrays stands one less.
pub one_less : (us ws : List Tree) (a : Tree) → more a (roses_of ws) ≡ roses_of us → suc (length ws) ≡ length us
one_less us ws a e = ap (λ k. suc k) (sym (count-roses_of ws)) ∙ ap (λ (ts : Trees). count ts) e ∙ count-roses_of us

-- A node of that shape is of the parts that its first three children leave.
pub parts_decide : (d : Typ) (n : ℕ) (flag b : Bool) (us : List Tree) (a o z : Tree) (xs ws vs : List Tree) → more a (roses_of xs) ≡ roses_of us → more o (roses_of ws) ≡ roses_of xs → more z (roses_of vs) ≡ roses_of ws
    → (IsTrue b ↔ AreViewParts d n a o z (roses_of vs)) → IsTrue b ↔ IsWellShaped (untold d n (views_of flag)) (roses_of us)
parts_decide d n flag b us a o z xs ws vs e f g h =
    let w : more a (more o (more z (roses_of vs))) ≡ roses_of us = ap (λ (ts : Trees). more a (more o ts)) g ∙ ap (λ (ts : Trees). more a ts) f ∙ e in
    let x : Data = record { zero_copy = flag } in
    subst (λ (ts : Trees). IsTrue b ↔ IsWellShaped (untold d n (views_of flag)) ts) w
    (λ t. parts_shaped d n x a o z (roses_of vs) (h.0 t), λ s. h.1 (shaped_parts d n x a o z (roses_of vs) s))

pub ruleset shapes = (never_few, one_less, parts_decide)

-- ---- sound nodes

shape : (d : Typ) (n : ℕ) (x : Data) (ts : Trees) → IsSoundNode (untold d n (B.listview x)) ts → IsWellShaped (untold d n (B.listview x)) ts
shape d n x ts s = record { fair = s.fair; planned = s.planned; allows = s.allows; takes = s.takes; holds = s.holds }

pub shaped_some : (d : Typ) (n : ℕ) (x : Data) (us : List Tree) → IsWellShaped (untold d n (B.listview x)) (roses_of us) → 3 ≤ length us
shaped_some d n x us s = omega (arith, three_children d n x (roses_of us) s, count-roses_of us)

pub sound_some : (d : Typ) (n : ℕ) (x : Data) (us : List Tree) → IsSoundNode (untold d n (B.listview x)) (roses_of us) → 3 ≤ length us
sound_some d n x us s = shaped_some d n x us (shape d n x (roses_of us) s)

module _ (d : Typ) (n : ℕ) (x : Data) (ts us ws : Trees) (a o z : Tree) (vs : Trees) (e : more a us ≡ ts) (f : more o ws ≡ us) (g : more z vs ≡ ws) where
  whole : more a (more o (more z vs)) ≡ ts
  whole = ap (λ (ys : Trees). more a (more o ys)) g ∙ ap (λ (ys : Trees). more a ys) f ∙ e

  module _ (s : IsWellShaped (untold d n (B.listview x)) ts) where
    parts_of : AreViewParts d n a o z vs
    parts_of = shaped_parts d n x a o z vs (subst (λ (ys : Trees). IsWellShaped (untold d n (B.listview x)) ys) (sym whole) s)

    pub shaped_offsets : (label o).len ≡ n
    shaped_offsets = parts_of.offsets.counted

    pub shaped_sizes : (label z).len ≡ n
    shaped_sizes = parts_of.sizes.counted

    pub shaped_planned : before_validity [] n (count vs) ≡ Some (places vs)
    shaped_planned = parts_of.after.planned

  -- The content is that the valid rows are right.
  pub content_is : (b : Bool) → (IsTrue b ↔ ((i : ℕ) → i < n → IsThere (validity (rows_below vs)) i → IsView (rows_of a) (rows_of o) (rows_of z) i)) → IsTrue b ↔ Content n (rows_below ts)
  content_is b h = subst (λ (ys : Trees). IsTrue b ↔ Content n (rows_below ys)) whole h

  -- The validity is that of the node.
  pub valid_is : (i : ℕ) (v : Option Bool) → v ≡ validity (rows_below vs) i → v ≡ validity (rest (rest (rest (rows_below ts)))) i
  valid_is i v q = q ∙ ap (λ (ys : Trees). validity (rest (rest (rest (rows_below ys)))) i) whole

  module _ (s : IsSoundNode (untold d n (B.listview x)) ts) where
    pub sound_offsets : (label o).len ≡ n
    sound_offsets = shaped_offsets (shape d n x ts s)

    pub sound_sizes : (label z).len ≡ n
    sound_sizes = shaped_sizes (shape d n x ts s)

    pub sound_planned : before_validity [] n (count vs) ≡ Some (places vs)
    sound_planned = shaped_planned (shape d n x ts s)

    pub sound_view : (i : ℕ) (v : Option Bool) → i < n → v ≡ validity (rest (rest (rest (rows_below ts)))) i → v ≡ Some true → IsView (rows_of a) (rows_of o) (rows_of z) i
    sound_view i v l q t =
        let c : Content n (rows_below (more a (more o (more z vs)))) = subst (λ (ys : Trees). Content n (rows_below ys)) (sym whole) s.content in
        let w : validity (rows_below vs) i ≡ v = ap (λ (ys : Trees). validity (rest (rest (rest (rows_below ys)))) i) whole ∙ sym q in
        c i l (w ∙ t)

  -- ---- its rows

  -- A valid row is its elements.
  pub view_value : (start size i : ℕ) (v : Option Bool) (y : Value) → (v ≡ Some true → start ≡ index_at (rows_of o) i) → (v ≡ Some true → size ≡ index_at (rows_of z) i) → v ≡ validity (rest (rest (rest (rows_below ts)))) i
      → ((g : ℕ → Value) (j : ℕ) → node tuple (values_from (rows_of a) start size) ≡ g j → y ≡ where_valid v g j) → y ≡ (rows n (rows_below ts)).row i
  view_value start size i v y q r w h =
      h (λ j. node tuple (values_from (rows_of a) start size)) i refl
      ∙ same v q r
      ∙ ap (λ (b : Option Bool). where_valid b (λ j. node tuple (values_from (rows_of a) (index_at (rows_of o) j) (index_at (rows_of z) j))) i) (w ∙ ap (λ (ys : Trees). validity (rest (rest (rest (rows_below ys)))) i) (sym whole))
      ∙ ap (λ (ys : Trees). (rows n (rows_below ys)).row i) whole
    where
      same : (v : Option Bool) → (v ≡ Some true → start ≡ index_at (rows_of o) i) → (v ≡ Some true → size ≡ index_at (rows_of z) i)
          → where_valid v (λ (j : ℕ). node tuple (values_from (rows_of a) start size)) i ≡ where_valid v (λ j. node tuple (values_from (rows_of a) (index_at (rows_of o) j) (index_at (rows_of z) j))) i
      same None q r = refl
      same (Some false) q r = refl
      same (Some true) q r = λ k. node tuple (values_from (rows_of a) (q refl k) (r refl k))

  pub view_cells : (start size i : ℕ) (v : Option Bool) (y : ℕ) → (v ≡ Some true → start ≡ index_at (rows_of o) i) → (v ≡ Some true → size ≡ index_at (rows_of z) i) → v ≡ validity (rest (rest (rest (rows_below ts)))) i
      → ((g : ℕ → ℕ) (j : ℕ) → suc (cells_from (rows_of a) start size) ≡ g j → y ≡ cells_where v g j) → y ≡ (rows n (rows_below ts)).cells i
  view_cells start size i v y q r w h =
      h (λ j. suc (cells_from (rows_of a) start size)) i refl
      ∙ same v q r
      ∙ ap (λ (b : Option Bool). cells_where b (λ j. suc (cells_from (rows_of a) (index_at (rows_of o) j) (index_at (rows_of z) j))) i) (w ∙ ap (λ (ys : Trees). validity (rest (rest (rest (rows_below ys)))) i) (sym whole))
      ∙ ap (λ (ys : Trees). (rows n (rows_below ys)).cells i) whole
    where
      same : (v : Option Bool) → (v ≡ Some true → start ≡ index_at (rows_of o) i) → (v ≡ Some true → size ≡ index_at (rows_of z) i)
          → cells_where v (λ (j : ℕ). suc (cells_from (rows_of a) start size)) i ≡ cells_where v (λ j. suc (cells_from (rows_of a) (index_at (rows_of o) j) (index_at (rows_of z) j))) i
      same None q r = refl
      same (Some false) q r = refl
      same (Some true) q r = λ k. suc (cells_from (rows_of a) (q refl k) (r refl k))

  pub elements_smaller : (k : ℕ) → k ≤ nodes a → k ≤ nodes_of ts
  elements_smaller k h = subst (λ (ys : Trees). k ≤ nodes_of ys) whole (omega (arith, h))

pub ruleset list_views = (one_less, shaped_some, sound_some, shaped_offsets, shaped_sizes, shaped_planned, content_is, valid_is, sound_offsets, sound_sizes, sound_planned, sound_view, view_value, view_cells, elements_smaller)

-- ---- one row

module _ (a : Tree) (offsets sizes : Rows) (i : ℕ) where
  -- A row whose offset and size are natural numbers that end within the elements is right.
  pub is_view : (total offset size last : ℕ) (b : Bool) → total ≡ (label a).len → offset ≡ index_at offsets i → size ≡ index_at sizes i → (IsThere offsets.valid i → IsIndex offsets i) → (IsThere sizes.valid i → IsIndex sizes i)
      → last ≡ offset + size → (IsTrue b ↔ (last ≤ total)) → IsTrue b ↔ IsView (rows_of a) offsets sizes i
  is_view total offset size last b t o s x y e d = (
    λ w. record { offset = x; size = y; within = omega (arith, d.0 w, t, o, s, e, rows_len a) },
    λ v. d.1 (omega (arith, v.within, t, o, s, e, rows_len a)),
  )

  -- What is no view.
  pub no_offset : ((IsThere offsets.valid i → IsIndex offsets i) → ⊥) → IsView (rows_of a) offsets sizes i → ⊥
  no_offset n v = n v.offset

  pub no_size : ((IsThere sizes.valid i → IsIndex sizes i) → ⊥) → IsView (rows_of a) offsets sizes i → ⊥
  no_size n v = n v.size

  pub too_far : (total offset size : ℕ) → total ≡ (label a).len → offset ≡ index_at offsets i → size ≡ index_at sizes i → total < offset + size → IsView (rows_of a) offsets sizes i → ⊥
  too_far total offset size t o s l v = omega (arith, v.within, t, o, s, l, rows_len a)

  pub view_within : (total offset size : ℕ) → total ≡ (label a).len → offset ≡ index_at offsets i → size ≡ index_at sizes i → IsView (rows_of a) offsets sizes i → offset + size ≤ total
  view_within total offset size t o s v = omega (arith, v.within, t, o, s, rows_len a)

pub ruleset views = (is_view, no_offset, no_size, too_far, view_within)

-- ---- all rows

-- The rows up to one that are there are right.
abbrev pub AreUpTo : Tree → Rows → Rows → (ℕ → Option Bool) → ℕ → Type 0
AreUpTo a offsets sizes valid n = (i : ℕ) → i < n → IsThere valid i → IsView (rows_of a) offsets sizes i

module _ (a : Tree) (offsets sizes : Rows) (valid : ℕ → Option Bool) where
  pub up_to_none : AreUpTo a offsets sizes valid 0
  up_to_none i l t = absurd (omega (arith, l))

  at_last : (n i : ℕ) → AreUpTo a offsets sizes valid n → (IsThere valid n → IsView (rows_of a) offsets sizes n) → (i ≡ n) ⊎ (i < n) → IsThere valid i → IsView (rows_of a) offsets sizes i
  at_last n i h v (inl q) = rw q v
  at_last n i h v (inr l) = h i l

  pub up_to_more : (n : ℕ) (w : Option Bool) → w ≡ valid n → AreUpTo a offsets sizes valid n → (w ≡ Some true → IsView (rows_of a) offsets sizes n) → AreUpTo a offsets sizes valid (n + 1)
  up_to_more n w e h v i l = at_last n i h (λ t. v (e ∙ t)) (eq-or-lt_of_le (omega (arith, l)))

  -- Where all are right, each of them is.
  pub right_at : (n i : ℕ) (w : Option Bool) → w ≡ valid i → i < n → AreUpTo a offsets sizes valid n → w ≡ Some true → IsView (rows_of a) offsets sizes i
  right_at n i w e l h t = h i l (sym e ∙ t)

pub ruleset loops = (up_to_none, up_to_more, right_at)
