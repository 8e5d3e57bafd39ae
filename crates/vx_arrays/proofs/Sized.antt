-- The children of a fixed-size list node: its elements, and what stands after them; and its rows.
use Rattle.std.proofs.Common.{ℕ, suc, ◌≡◌, ◌≤◌, ◌<◌, ◌+◌, ◌*◌, ◌^◌, List, [], ◌∷◌, Option, Some, Bool, true, false, refl, sym, ap, ◌∙◌, subst, length, arith}
use Rattle.std.proofs.lemmas.Bool.{iff_false, false≢true, ltb-true}
use Rattle.std.specs.Prelude.{◌↔◌, IsTrue}
use Rattle.std.proofs.lemmas.Option.{none-some}
use Rattle.vx_trees.specs.Rose.{node, end, more, label, count, roses_of}
use Rattle.vx_trees.specs.Walks.{nodes, nodes_of}
use Rattle.vx_trees.proofs.Lists.{count-roses_of}
use Rattle.vx_types.specs.Kind.{fixed_size_list}
use Rattle.vx_types.specs.Typ.{Typ}
use Rattle.vx_types.specs.Value.{Value, tuple}
use Rattle.vx_types.specs.declared.nullability.Nullability.{Nullability}
use Rattle.vx_array_tree.specs.Body as B
use Rattle.vx_array_tree.specs.Encodings.FixedSizeLists.{plan, rows, size_of}
use Rattle.vx_array_tree.specs.Place.{Place, place, is_len, when, before_validity}
use Rattle.vx_array_tree.specs.Refused.{IsWellShaped}
use Rattle.vx_array_tree.specs.Rows.{validity, first, rest, where_valid, cells_where, values_from, cells_from}
use Rattle.vx_array_tree.specs.Sound.{IsSoundNode}
use Rattle.vx_array_tree.specs.Tree.{Tree, Trees, places, rows_below, rows_of, untold}
use Rattle.vx_array_tree.proofs.Options.{let_through}
use Rattle.vx_arrays.specs.FixedSizeLists.{IsOfSize, fixed_size_list_head}
use Rattle.vx_arrays.specs.Validity.{IsValidity}
use Rattle.vx_arrays.proofs.Split.{front_is, below_limit, same_suc}

-- ---- what a plan says

-- The type of the elements. (Which it is of any other type does not matter.)
abbrev pub element_of : Typ → Typ
element_of (node (fixed_size_list s m) (more e end)) = e
element_of d = d

-- Only nodes of lists of one size have one.
pub sized : (d : Typ) (n k : ℕ) (ps : List Place) → plan d n k ≡ Some ps → IsOfSize d × (when (is_len (n * size_of d)) (before_validity (place (element_of d) (n * size_of d) ∷ []) n k) ≡ Some ps)
sized (node (fixed_size_list s m) (more e end)) n k ps h = (tt, h)
sized _ n k ps h = absurd (cc)

passed : (b : Bool) (o : Option (List Place)) (ps : List Place) → when b o ≡ Some ps → b ≡ true
passed true o ps e = refl
passed false o ps e = absurd (cc)

counted : (n : ℕ) → is_len n ≡ true → n < 2 ^ 64
counted n h = ltb-true n (2 ^ 64) h

-- ---- sound nodes

module _ (d : Typ) (n : ℕ) (ts : Trees) (s : IsSoundNode (untold d n B.fixed_size_list) ts) where
  planned_so : IsOfSize d × (when (is_len (n * size_of d)) (before_validity (place (element_of d) (n * size_of d) ∷ []) n (count ts)) ≡ Some (places ts))
  planned_so = sized d n (count ts) (places ts) s.planned

  pub sound_size : IsOfSize d
  sound_size = planned_so.0

  -- All elements can be counted.
  pub sound_few : n * size_of d < 2 ^ 64
  sound_few = counted (n * size_of d) (passed (is_len (n * size_of d)) _ (places ts) planned_so.1)

  pub sound_children : before_validity (place (element_of d) (n * size_of d) ∷ []) n (count ts) ≡ Some (places ts)
  sound_children = let_through (is_len (n * size_of d)) _ (places ts) planned_so.1

-- There are elements.
some_children : (p : Place) (n : ℕ) (ts : Trees) → before_validity (p ∷ []) n (count ts) ≡ Some (places ts) → 1 ≤ count ts
some_children p n end e = absurd (none-some _ e)
some_children p n (more t ts) e = omega arith

pub sound_some : (d : Typ) (n : ℕ) (ts : List Tree) → IsSoundNode (untold d n B.fixed_size_list) (roses_of ts) → 1 ≤ length ts
sound_some d n ts s = omega (arith, some_children (place (element_of d) (n * size_of d)) n (roses_of ts) (sound_children d n (roses_of ts) s), count-roses_of ts)

module _ (d : Typ) (n : ℕ) (ts : Trees) (o : Tree) (vs : Trees) (e : more o vs ≡ ts) where
  module _ (s : IsSoundNode (untold d n B.fixed_size_list) ts) where
    front : (place (label o).dtype (label o).len ≡ place (element_of d) (n * size_of d)) × (before_validity [] n (count vs) ≡ Some (places vs))
    front = front_is (place (element_of d) (n * size_of d)) n o vs (subst (λ (us : Trees). before_validity (place (element_of d) (n * size_of d) ∷ []) n (count us) ≡ Some (places us)) (sym e) (sound_children d n ts s))

    pub sound_elements : (label o).len ≡ n * size_of d
    sound_elements = ap (λ (p : Place). p.len) front.0

    pub sound_planned : before_validity [] n (count vs) ≡ Some (places vs)
    sound_planned = front.1

  -- The validity is that of the node.
  pub valid_is : (i : ℕ) (v : Option Bool) → v ≡ validity (rows_below vs) i → v ≡ validity (rest (rows_below ts)) i
  valid_is i v q = q ∙ ap (λ (us : Trees). validity (rest (rows_below us)) i) e

  -- A valid row is its elements.
  elements_are : (size i : ℕ) → size ≡ size_of d → node tuple (values_from (rows_of o) (i * size) size) ≡ node tuple (values_from (first (rows_below ts)) (i * size_of d) (size_of d))
  elements_are size i q =
      ap (λ j. node tuple (values_from (rows_of o) (i * j) j)) q ∙ ap (λ (us : Trees). node tuple (values_from (first (rows_below us)) (i * size_of d) (size_of d))) e

  cells_are : (size i : ℕ) → size ≡ size_of d → suc (cells_from (rows_of o) (i * size) size) ≡ suc (cells_from (first (rows_below ts)) (i * size_of d) (size_of d))
  cells_are size i q =
      ap (λ j. suc (cells_from (rows_of o) (i * j) j)) q ∙ ap (λ (us : Trees). suc (cells_from (first (rows_below us)) (i * size_of d) (size_of d))) e

  pub list_value : (size i : ℕ) (v : Option Bool) (x : Value) → size ≡ size_of d → v ≡ validity (rows_below vs) i
      → ((f : ℕ → Value) (j : ℕ) → node tuple (values_from (rows_of o) (i * size) size) ≡ f j → x ≡ where_valid v f j) → x ≡ (rows d n (rows_below ts)).row i
  list_value size i v x q w h =
      h (λ j. node tuple (values_from (first (rows_below ts)) (j * size_of d) (size_of d))) i (elements_are size i q)
      ∙ ap (λ (b : Option Bool). where_valid b (λ j. node tuple (values_from (first (rows_below ts)) (j * size_of d) (size_of d))) i) (valid_is i v w)

  pub list_cells : (size i : ℕ) (v : Option Bool) (x : ℕ) → size ≡ size_of d → v ≡ validity (rows_below vs) i
      → ((f : ℕ → ℕ) (j : ℕ) → suc (cells_from (rows_of o) (i * size) size) ≡ f j → x ≡ cells_where v f j) → x ≡ (rows d n (rows_below ts)).cells i
  list_cells size i v x q w h =
      h (λ j. suc (cells_from (first (rows_below ts)) (j * size_of d) (size_of d))) i (cells_are size i q)
      ∙ ap (λ (b : Option Bool). cells_where b (λ j. suc (cells_from (first (rows_below ts)) (j * size_of d) (size_of d))) i) (valid_is i v w)

  pub elements_smaller : (k : ℕ) → k ≤ nodes o → k ≤ nodes_of ts
  elements_smaller k h = subst (λ (us : Trees). k ≤ nodes_of us) e (omega (arith, h))

-- A row's elements end where those of the next one begin.
pub row_within : (i n size : ℕ) → i < n → i * size + size ≤ n * size
row_within i n size h = grind arith

-- ---- what is of that shape

module _ (s : ℕ) (m : Nullability) (n : ℕ) (o : Tree) (vs : Trees) where
  planned_at : (label o).len ≡ n * s → n * s < 2 ^ 64 → before_validity [] n (count vs) ≡ Some (places vs) → plan (node (fixed_size_list s m) (more (label o).dtype end)) n (suc (count vs)) ≡ Some (places (more o vs))
  planned_at l lt p = rw (below_limit (n * s) lt, p, l) refl

  shaped_of : (label o).len ≡ n * s → (label o).len < 2 ^ 64 → IsValidity m n vs → IsWellShaped (fixed_size_list_head (label o).dtype s m n) (more o vs)
  shaped_of l lt v = record {
    fair = tt;
    planned = planned_at l (omega (arith, l, lt)) v.planned;
    allows = λ q. v.allowed (same_suc (count vs) 1 q);
    takes = tt;
    holds = tt;
  }

  shaped_front : IsWellShaped (fixed_size_list_head (label o).dtype s m n) (more o vs) → (place (label o).dtype (label o).len ≡ place (label o).dtype (n * s)) × (before_validity [] n (count vs) ≡ Some (places vs))
  shaped_front h = front_is (place (label o).dtype (n * s)) n o vs (let_through (is_len (n * s)) _ _ h.planned)

  -- With another number of elements nothing has that shape.
  pub unshaped : (b : Bool) → (IsTrue b ↔ ((label o).len ≡ n * s)) → b ≡ false → IsTrue false ↔ IsWellShaped (fixed_size_list_head (label o).dtype s m n) (more o vs)
  unshaped b f q = (λ x. absurd (false≢true x), λ h. absurd (iff_false f q (ap (λ (p : Place). p.len) (shaped_front h).0)))

  -- Else it is the validity that decides.
  pub validity_decides : (b r : Bool) → (IsTrue b ↔ ((label o).len ≡ n * s)) → b ≡ true → (label o).len < 2 ^ 64 → (IsTrue r ↔ IsValidity m n vs) → IsTrue r ↔ IsWellShaped (fixed_size_list_head (label o).dtype s m n) (more o vs)
  validity_decides b r f q lt v = (
    λ x. shaped_of (f.0 q) lt (v.0 x),
    λ h. v.1 (record { planned = (shaped_front h).1; allowed = λ j. h.allows (ap (λ k. suc k) j) }),
  )

-- What rows of lists of one size rest on.
pub ruleset sized_lists = (sound_size, sound_some, sound_few, sound_elements, sound_planned, row_within, list_value, list_cells, elements_smaller)
