-- The children of a list node: its elements, its offsets, and what stands after them; and its rows.
use Rattle.std.proofs.Common.{ℕ, suc, ◌≡◌, ◌≤◌, ◌<◌, ◌+◌, ◌-◌, ◌^◌, List, [], ◌∷◌, Option, Some, Bool, true, false, refl, sym, ap, ◌∙◌, subst, length, arith, add-one}
use Rattle.std.specs.Prelude.{◌↔◌, IsTrue}
use Rattle.std.proofs.lemmas.Bool.{ltb-true}
use Rattle.std.specs.Prelude.{◌↔◌, IsTrue}
use Rattle.std.proofs.lemmas.Option.{none-some, same_Some}
use Rattle.vx_trees.specs.Rose.{node, end, more, label, count, roses_of}
use Rattle.vx_trees.specs.Walks.{nodes, nodes_of}
use Rattle.vx_trees.proofs.Lists.{count-roses_of}
use Rattle.vx_trees.proofs.LawsOfLists.{heads, tails}
use Rattle.vx_types.specs.Kind.{list}
use Rattle.vx_types.specs.Typ.{Typ}
use Rattle.vx_types.specs.Value.{Value, tuple}
use Rattle.vx_types.specs.Words.{nullability}
use Rattle.vx_types.specs.declared.nullability.Nullability.{Nullability}
use Rattle.vx_numbers.specs.declared.ptype.PType.{PType}
use Rattle.vx_array_tree.specs.Body as B
use Rattle.vx_array_tree.specs.Encodings.Lists.{Metadata, Content, metadata_of, plan, rows, size_at}
use Rattle.vx_array_tree.specs.Encodings.VarBins.{AreOffsets}
use Rattle.vx_array_tree.specs.Place.{Place, place, numbers, is_len, when, before_validity, ptype_of}
use Rattle.vx_array_tree.specs.Refused.{IsWellShaped}
use Rattle.vx_array_tree.specs.Rows.{validity, rest, index_at, where_valid, cells_where, values_from, cells_from}
use Rattle.vx_array_tree.specs.Sound.{IsSoundNode}
use Rattle.vx_array_tree.specs.Tree.{Tree, Trees, places, rows_below, rows_of, untold}
use Rattle.vx_array_tree.proofs.Options.{mapped, let_through}
use Rattle.vx_array_tree.proofs.RowsOfSound.{rows_len}
use Rattle.vx_arrays.specs.Lists.{element_of}
use Rattle.vx_arrays.specs.Validity.{IsValidity}
use Rattle.vx_arrays.specs.VarBins.{IsOfOffsets}
use Rattle.vx_arrays.proofs.Split.{below_limit, offsets_type, same_suc}

-- ---- what a plan says

passed : (b : Bool) (o : Option (List Place)) (ps : List Place) → when b o ≡ Some ps → b ≡ true
passed true o ps e = refl
passed false o ps e = absurd (cc)

-- The first child stands at the first place, and the others at the others.
pub first_stands : (p : Place) (ps : List Place) (n : ℕ) (o : Tree) (vs : Trees) → before_validity (p ∷ ps) n (suc (count vs)) ≡ Some (places (more o vs))
    → (place (label o).dtype (label o).len ≡ p) × (before_validity ps n (count vs) ≡ Some (places vs))
first_stands p ps n o vs e =
    let m = mapped (λ (qs : List Place). p ∷ qs) (before_validity ps n (count vs)) (places (more o vs)) e in
    let q : place (label o).dtype (label o).len ≡ p = heads _ _ _ _ (m.1) in
    let r : places vs ≡ m.0 = tails _ _ _ _ (m.1) in
    (q, m.2 ∙ ap (λ z. Some z) (sym r))

-- The places of the elements and of the offsets.
abbrev pub two_places : Typ → ℕ → PType → ℕ → List Place
two_places e m p n = place e m ∷ place (numbers p) (suc n) ∷ []

planned_two : (d : Typ) (n : ℕ) (v : Metadata) (k : ℕ) (ps : List Place) → plan d n v k ≡ Some ps
    → (e : Typ) × (element_of d ≡ Some e) × (when (is_len (suc n)) (before_validity (two_places e v.elements_len v.offset_ptype n) n k) ≡ Some ps)
planned_two (node (list m) (more e end)) n v k ps h = (e, refl, h)
planned_two _ n v k ps h = absurd (cc)

-- ---- what is of that shape

-- Elements of the type's, offsets, one more than there are rows, and a validity or nothing.
pub record IsListed (d : Typ) (n : ℕ) (a o : Tree) (vs : Trees) : Type 0 where
  pub element : element_of d ≡ Some (label a).dtype
  pub offsets : IsOfOffsets (label o).dtype
  pub counted : (label o).len ≡ suc n
  pub few : suc n < 2 ^ 64
  pub after : IsValidity (nullability d) n vs

pub shaped_listed : (d : Typ) (n : ℕ) (a o : Tree) (vs : Trees) → IsWellShaped (untold d n B.list) (more a (more o vs)) → IsListed d n a o vs
shaped_listed d n a o vs s =
    let ts : Trees = more a (more o vs) in
    let q : PType = ptype_of (label o).dtype in
    let p = planned_two d n (metadata_of (places ts)) (count ts) (places ts) s.planned in
    let w = let_through (is_len (suc n)) _ (places ts) p.2 in
    let f = first_stands (place p.0 (label a).len) (place (numbers q) (suc n) ∷ []) n a (more o vs) w in
    let g = first_stands (place (numbers q) (suc n)) [] n o vs f.1 in
    record {
      element = p.1 ∙ ap (λ (z : Typ). Some z) (sym (ap (λ (x : Place). x.dtype) f.0));
      offsets = subst (λ (z : Typ). IsOfOffsets z) (sym (ap (λ (x : Place). x.dtype) g.0)) s.fair;
      counted = ap (λ (x : Place). x.len) g.0;
      few = ltb-true (suc n) (2 ^ 64) (passed (is_len (suc n)) _ (places ts) p.2);
      after = record { planned = g.1; allowed = λ e. s.allows (ap (λ k. suc (suc k)) e) };
    }

planned_of : (d : Typ) (n : ℕ) (a o : Tree) (vs : Trees) (q : PType) → element_of d ≡ Some (label a).dtype → (label o).dtype ≡ numbers q → (label o).len ≡ suc n → suc n < 2 ^ 64 → before_validity [] n (count vs) ≡ Some (places vs)
    → plan d n (record { elements_len = (label a).len; offset_ptype = q }) (suc (suc (count vs))) ≡ Some (places (more a (more o vs)))
planned_of (node (list m) (more e end)) n a o vs q x t l lt p =
    let f : e ≡ (label a).dtype = same_Some _ _ x in
    rw (below_limit (suc n) lt, p, t, l, f) refl
planned_of _ n a o vs q x t l lt p = absurd (cc)

pub listed_shaped : (d : Typ) (n : ℕ) (a o : Tree) (vs : Trees) → IsListed d n a o vs → IsWellShaped (untold d n B.list) (more a (more o vs))
listed_shaped d n a o vs l =
    let k = offsets_type (label o).dtype l.offsets in
    record {
      fair = k.1;
      planned = planned_of d n a o vs (ptype_of (label o).dtype) l.element k.0 l.counted l.few l.after.planned;
      allows = λ e. l.after.allowed (same_suc (count vs) 1 (same_suc (suc (count vs)) 2 e));
      takes = tt;
      holds = tt;
    }

-- What is told of the type's nullability is told of the type.
pub after_type : (m : Nullability) (n : ℕ) (b : Bool) (d : Typ) (vs : Trees) → m ≡ nullability d → (IsTrue b ↔ IsValidity m n vs) → IsTrue b ↔ IsValidity (nullability d) n vs
after_type m n b d vs e h = subst (λ (z : Nullability). IsTrue b ↔ IsValidity z n vs) e h

-- So parts are of it where each is, and of no other.
pub listed_decide : (d : Typ) (n : ℕ) (b : Bool) (a o : Tree) (vs : Trees) → element_of d ≡ Some (label a).dtype → IsOfOffsets (label o).dtype → (label o).len ≡ suc n → suc n < 2 ^ 64 → (IsTrue b ↔ IsValidity (nullability d) n vs)
    → IsTrue b ↔ IsWellShaped (untold d n B.list) (more a (more o vs))
listed_decide d n b a o vs e k l lt h = (
  λ t. listed_shaped d n a o vs (record { element = e; offsets = k; counted = l; few = lt; after = h.0 t }),
  λ s. h.1 (shaped_listed d n a o vs s).after,
)

-- There are two children or more.
pub two_children : (d : Typ) (n : ℕ) (ts : Trees) → IsWellShaped (untold d n B.list) ts → 2 ≤ count ts
two_children d n end s = let p = planned_two d n (metadata_of []) 0 [] s.planned in absurd (none-some _ (let_through (is_len (suc n)) _ _ p.2))
two_children d n (more a end) s = let p = planned_two d n (metadata_of (places (more a end))) 1 (places (more a end)) s.planned in absurd (none-some _ (let_through (is_len (suc n)) _ _ p.2))
two_children d n (more a (more o vs)) s = omega arith

-- So of fewer arrays there is no node.
pub never_few : (d : Typ) (n : ℕ) (us : List Tree) → length us < 2 → IsWellShaped (untold d n B.list) (roses_of us) → ⊥
never_few d n us l s = omega (arith, l, two_children d n (roses_of us) s, count-roses_of us)

-- A node of that shape is of the parts that its first two children leave.
pub parts_decide : (d : Typ) (n : ℕ) (b : Bool) (us : List Tree) (a o : Tree) (ws vs : List Tree) → more a (roses_of ws) ≡ roses_of us → more o (roses_of vs) ≡ roses_of ws
    → (IsTrue b ↔ IsWellShaped (untold d n B.list) (more a (more o (roses_of vs)))) → IsTrue b ↔ IsWellShaped (untold d n B.list) (roses_of us)
parts_decide d n b us a o ws vs e f h = subst (λ (ts : Trees). IsTrue b ↔ IsWellShaped (untold d n B.list) ts) (ap (λ (ts : Trees). more a ts) f ∙ e) h

pub ruleset shapes = (never_few, parts_decide)

-- ---- sound nodes

shape : (d : Typ) (n : ℕ) (ts : Trees) → IsSoundNode (untold d n B.list) ts → IsWellShaped (untold d n B.list) ts
shape d n ts s = record { fair = s.fair; planned = s.planned; allows = s.allows; takes = s.takes; holds = s.holds }

pub shaped_some : (d : Typ) (n : ℕ) (us : List Tree) → IsWellShaped (untold d n B.list) (roses_of us) → 1 ≤ length us
shaped_some d n us s = omega (arith, two_children d n (roses_of us) s, count-roses_of us)

pub shaped_more : (d : Typ) (n : ℕ) (us ws : List Tree) (a : Tree) → more a (roses_of ws) ≡ roses_of us → IsWellShaped (untold d n B.list) (roses_of us) → 1 ≤ length ws
shaped_more d n us ws a e s = omega (arith, two_children d n (roses_of us) s, count-roses_of ws, ap (λ (ts : Trees). count ts) e)

pub sound_some : (d : Typ) (n : ℕ) (us : List Tree) → IsSoundNode (untold d n B.list) (roses_of us) → 1 ≤ length us
sound_some d n us s = shaped_some d n us (shape d n (roses_of us) s)

pub sound_more : (d : Typ) (n : ℕ) (us ws : List Tree) (a : Tree) → more a (roses_of ws) ≡ roses_of us → IsSoundNode (untold d n B.list) (roses_of us) → 1 ≤ length ws
sound_more d n us ws a e s = shaped_more d n us ws a e (shape d n (roses_of us) s)

module _ (d : Typ) (n : ℕ) (ts us : Trees) (a o : Tree) (vs : Trees) (e : more a us ≡ ts) (f : more o vs ≡ us) where
  whole : more a (more o vs) ≡ ts
  whole = ap (λ (ws : Trees). more a ws) f ∙ e

  module _ (s : IsWellShaped (untold d n B.list) ts) where
    listed : IsListed d n a o vs
    listed = shaped_listed d n a o vs (subst (λ (ws : Trees). IsWellShaped (untold d n B.list) ws) (sym whole) s)

    pub shaped_counted : (label o).len ≡ suc n
    shaped_counted = listed.counted

  -- The content is that the offsets are right, up to the number of elements.
  pub content_is : (b : Bool) (total : ℕ) → total ≡ (label a).len → (IsTrue b ↔ AreOffsets (rows_of o) n total) → IsTrue b ↔ Content n (rows_below ts)
  content_is b total q h =
      subst (λ (ws : Trees). IsTrue b ↔ Content n (rows_below ws)) whole
      (subst (λ (m : ℕ). IsTrue b ↔ AreOffsets (rows_of o) n m) (q ∙ sym (rows_len a)) h)

  module _ (s : IsSoundNode (untold d n B.list) ts) where
    pub sound_counted : (label o).len ≡ suc n
    sound_counted = shaped_counted (shape d n ts s)

    pub sound_planned : before_validity [] n (count vs) ≡ Some (places vs)
    sound_planned = (listed (shape d n ts s)).after.planned

    pub sound_offsets : (total : ℕ) → total ≡ (label a).len → AreOffsets (rows_of o) n total
    sound_offsets total q =
        subst (λ (m : ℕ). AreOffsets (rows_of o) n m) (rows_len a ∙ sym q) (subst (λ (ws : Trees). Content n (rows_below ws)) (sym whole) s.content)

  -- ---- its rows

  -- The validity is that of the node.
  pub valid_is : (i : ℕ) (v : Option Bool) → v ≡ validity (rows_below vs) i → v ≡ validity (rest (rest (rows_below ts))) i
  valid_is i v q = q ∙ ap (λ (ws : Trees). validity (rest (rest (rows_below ws))) i) whole

  same_size : (start next i : ℕ) → start ≡ index_at (rows_of o) i → next ≡ index_at (rows_of o) (i + 1) → next - start ≡ size_at (rows_of o) i
  same_size start next i q r = rw (q, r ∙ ap (λ (k : ℕ). index_at (rows_of o) k) (add-one i)) refl

  -- A valid row is its elements.
  pub list_value : (start next i : ℕ) (v : Option Bool) (x : Value) → start ≡ index_at (rows_of o) i → next ≡ index_at (rows_of o) (i + 1) → v ≡ validity (rest (rest (rows_below ts))) i
      → ((g : ℕ → Value) (j : ℕ) → node tuple (values_from (rows_of a) start (next - start)) ≡ g j → x ≡ where_valid v g j) → x ≡ (rows n (rows_below ts)).row i
  list_value start next i v x q r w h =
      h (λ j. node tuple (values_from (rows_of a) (index_at (rows_of o) j) (size_at (rows_of o) j))) i (λ k. node tuple (values_from (rows_of a) (q k) (same_size start next i q r k)))
      ∙ ap (λ (b : Option Bool). where_valid b (λ j. node tuple (values_from (rows_of a) (index_at (rows_of o) j) (size_at (rows_of o) j))) i) (w ∙ ap (λ (ws : Trees). validity (rest (rest (rows_below ws))) i) (sym whole))
      ∙ ap (λ (ws : Trees). (rows n (rows_below ws)).row i) whole

  pub list_cells : (start next i : ℕ) (v : Option Bool) (x : ℕ) → start ≡ index_at (rows_of o) i → next ≡ index_at (rows_of o) (i + 1) → v ≡ validity (rest (rest (rows_below ts))) i
      → ((g : ℕ → ℕ) (j : ℕ) → suc (cells_from (rows_of a) start (next - start)) ≡ g j → x ≡ cells_where v g j) → x ≡ (rows n (rows_below ts)).cells i
  list_cells start next i v x q r w h =
      h (λ j. suc (cells_from (rows_of a) (index_at (rows_of o) j) (size_at (rows_of o) j))) i (λ k. suc (cells_from (rows_of a) (q k) (same_size start next i q r k)))
      ∙ ap (λ (b : Option Bool). cells_where b (λ j. suc (cells_from (rows_of a) (index_at (rows_of o) j) (size_at (rows_of o) j))) i) (w ∙ ap (λ (ws : Trees). validity (rest (rest (rows_below ws))) i) (sym whole))
      ∙ ap (λ (ws : Trees). (rows n (rows_below ws)).cells i) whole

  pub elements_smaller : (k : ℕ) → k ≤ nodes a → k ≤ nodes_of ts
  elements_smaller k h = subst (λ (ws : Trees). k ≤ nodes_of ws) whole (omega (arith, h))

-- A row's elements begin where they end, or before, and end within all.
pub in_order : (o : Tree) (n total start next i : ℕ) → AreOffsets (rows_of o) n total → i < n → start ≡ index_at (rows_of o) i → next ≡ index_at (rows_of o) (i + 1) → start ≤ next
in_order o n total start next i a h q r = omega (arith, a.rising i h, q, r, ap (λ (k : ℕ). index_at (rows_of o) k) (add-one i))

pub ruleset lists = (shaped_some, shaped_more, shaped_counted, content_is, sound_some, sound_more, sound_counted, sound_planned, sound_offsets, valid_is, list_value, list_cells, elements_smaller, in_order)
