-- The entries of a map node, and its rows.
use Rattle.std.proofs.Common.{ℕ, ◌≡◌, ◌<◌, ◌≤◌, List, [], ◌∷◌, Some, refl, sym, ap, ◌∙◌, length, get_or, arith}
use Rattle.std.proofs.lemmas.Option.{same_Some}
use Rattle.vx_trees.specs.Rose.{node, end, more, label, count, roses_of}
use Rattle.vx_trees.proofs.Lists.{count-roses_of}
use Rattle.vx_trees.specs.Walks.{nodes}
use Rattle.vx_trees.proofs.LawsOfLists.{heads}
use Rattle.vx_trees.proofs.LawsOfRoses.{first_tree, never_end, alone_too}
use Rattle.vx_types.specs.Kind.{list, map}
use Rattle.vx_types.specs.Parts.{Entries}
use Rattle.vx_types.specs.Typ.{Typ}
use Rattle.vx_types.specs.Words.{entries, nullability}
use Rattle.vx_types.specs.declared.nullability.Nullability.{Nullability}
use Rattle.vx_scalars.specs.Stats.{Stats}
use Rattle.vx_array_tree.specs.Body as B
use Rattle.vx_array_tree.specs.Encodings.Maps.{plan, Takes}
use Rattle.vx_array_tree.specs.Place.{Place, place}
use Rattle.vx_array_tree.specs.Refused.{IsWellShaped}
use Rattle.vx_array_tree.specs.Sound.{IsSoundNode}
use Rattle.vx_array_tree.specs.Tree.{Tree, Trees, cells, encodings, places, row_at, untold, valid_at}
use Rattle.vx_arrays.specs.Maps.{AreEntries, map_tree}

-- ---- what a plan says

-- A node's only child, which is the entries of its maps.
pub record IsMapped (d : Typ) (n : ℕ) (ts : Trees) : Type 0 where
  pub lists : Tree
  pub alone : ts ≡ more lists end
  pub entries : AreEntries d n lists

mapped : (d : Typ) (n : ℕ) (ts : Trees) → plan d n (count ts) ≡ Some (places ts) → Takes (encodings ts) → IsMapped d n ts
mapped (node (map b m) (more x (more y end))) n end h v = absurd (cc)
mapped (node (map b m) (more x (more y end))) n (more t end) h v =
    let p = heads (place (node (list m) (more (entries (record { key = x; value = y; keys_sorted = b })) end)) n) (place (label t).dtype (label t).len) [] [] (same_Some _ _ h) in
    record {
      lists = t;
      alone = refl;
      entries = record { typed = ap (λ (q : Place). Some q.dtype) p; counted = sym (ap (λ (q : Place). q.len) p); viewed = v };
    }
mapped (node (map b m) (more x (more y end))) n (more t (more u us)) h v = absurd (cc)
mapped _ n ts h v = absurd (cc)

planned : (d : Typ) (n : ℕ) (t : Tree) → AreEntries d n t → plan d n 1 ≡ Some (place (label t).dtype (label t).len ∷ [])
planned (node (map b m) (more x (more y end))) n t s =
    let typed : node (list m) (more (entries (record { key = x; value = y; keys_sorted = b })) end) ≡ (label t).dtype = same_Some _ _ s.typed in
    λ i. Some (place (typed i) (sym s.counted i) ∷ [])
planned _ n t s = absurd (cc)

-- A node is of the shape exactly where its only child is the entries.
pub shaped_mapped : (d : Typ) (n : ℕ) (ts : Trees) → IsWellShaped (untold d n B.map) ts → IsMapped d n ts
shaped_mapped d n ts s = mapped d n ts s.planned s.takes

pub entries_shaped : (d : Typ) (n : ℕ) (t : Tree) → AreEntries d n t → IsWellShaped (untold d n B.map) (more t end)
entries_shaped d n t s = record { fair = tt; planned = planned d n t s; allows = tt; takes = s.viewed; holds = tt }

pub sound_mapped : (d : Typ) (n : ℕ) (ts : Trees) → IsSoundNode (untold d n B.map) ts → IsMapped d n ts
sound_mapped d n ts s = mapped d n ts s.planned s.takes

pub shaped_entries : (d : Typ) (n : ℕ) (t : Tree) → IsWellShaped (untold d n B.map) (more t end) → AreEntries d n t
shaped_entries d n t s =
    let m = shaped_mapped d n (more t end) s in
    rw (first_tree t m.lists end end m.alone) m.entries

-- ---- its rows

module _ (d : Typ) (n : ℕ) (x : Stats) (ts : Trees) (t : Tree) (i : ℕ) (e : ts ≡ more t end) where
  pub mapped_valid : valid_at (node (record { dtype = d; len = n; stats = x; body = B.map }) ts) i ≡ valid_at t i
  mapped_valid = rw e refl

  pub mapped_row : row_at (node (record { dtype = d; len = n; stats = x; body = B.map }) ts) i ≡ row_at t i
  mapped_row = rw e refl

  pub mapped_cells : cells (node (record { dtype = d; len = n; stats = x; body = B.map }) ts) i ≡ cells t i
  mapped_cells = rw e refl

  pub mapped_smaller : nodes t < nodes (node (record { dtype = d; len = n; stats = x; body = B.map }) ts)
  mapped_smaller = rw e (omega arith)

pub ruleset mapped_rows = (mapped_valid, mapped_row, mapped_cells, mapped_smaller)

-- ---- in the words of a slice

pub not_empty : (d : Typ) (n : ℕ) → IsSoundNode (untold d n B.map) end → ⊥
not_empty d n s = let m = sound_mapped d n end s in never_end m.lists end (sym m.alone)

pub alone_in : (d : Typ) (n : ℕ) (t : Tree) (ts : Trees) → IsSoundNode (untold d n B.map) (more t ts) → more t ts ≡ more t end
alone_in d n t ts s = alone_too t ts _ (sound_mapped d n (more t ts) s).alone

pub rows_in : (d : Typ) (n : ℕ) (t : Tree) (ts : Trees) → IsSoundNode (untold d n B.map) (more t ts) → (label t).len ≡ n
rows_in d n t ts s =
    let x = sound_mapped d n (more t ts) s in
    ap (λ (u : Tree). (label u).len) (first_tree t _ ts end x.alone) ∙ x.entries.counted

-- A map node has no child but the first.
pub alone_item : (us : List Tree) (u : Tree) (d : Typ) (n : ℕ) → 1 ≤ length us → u ≡ get_or us 0 u → IsSoundNode (untold d n B.map) (roses_of us) → roses_of us ≡ more u end
alone_item [] u d n l e s = absurd (omega (arith, l))
alone_item (x ∷ us) u d n l e s = alone_in d n x (roses_of us) s ∙ ap (λ (t : Tree). more t end) (sym e)

-- Of two or more arrays there is none.
pub never_two : (us : List Tree) (d : Typ) (n : ℕ) → 2 ≤ length us → IsWellShaped (untold d n B.map) (roses_of us) → ⊥
never_two us d n l s = omega (arith, l, count-roses_of us, ap (λ (ts : Trees). count ts) (shaped_mapped d n (roses_of us) s).alone)

-- Of none there is none.
pub never_none : (d : Typ) (n : ℕ) → IsWellShaped (untold d n B.map) end → ⊥
never_none d n s = let m = shaped_mapped d n end s in never_end m.lists end (sym m.alone)

pub ruleset maps = (not_empty, alone_in, rows_in)

pub ruleset shapes = (entries_shaped, shaped_entries, never_two, never_none)

-- ---- one child put into an empty list

pub tree_is : (m : Entries) (t : Tree) (k : Nullability) (n : ℕ) (ts : Trees) → k ≡ nullability (label t).dtype → n ≡ (label t).len → ts ≡ more t end → node (untold (node (map m.keys_sorted k) (more m.key (more m.value end))) n B.map) ts ≡ map_tree m t
tree_is m t k n ts e l q = rw (e, l, q) refl
