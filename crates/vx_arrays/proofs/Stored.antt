-- The storage of an extension node, and its rows.
use Rattle.std.proofs.Common.{ℕ, ◌≡◌, ◌<◌, ◌≤◌, List, [], ◌∷◌, Some, refl, sym, ap, ◌∙◌, length, get_or, arith}
use Rattle.std.proofs.lemmas.Option.{same_Some}
use Rattle.vx_trees.specs.Rose.{node, end, more, label, count, roses_of}
use Rattle.vx_trees.proofs.Lists.{count-roses_of}
use Rattle.vx_trees.specs.Walks.{nodes}
use Rattle.vx_trees.proofs.LawsOfLists.{heads}
use Rattle.vx_trees.proofs.LawsOfRoses.{first_tree, never_end, alone_too}
use Rattle.vx_types.specs.Kind.{extension}
use Rattle.vx_types.specs.Parts.{Ext}
use Rattle.vx_types.specs.Typ.{Typ}
use Rattle.vx_scalars.specs.Stats.{Stats}
use Rattle.vx_array_tree.specs.Body as B
use Rattle.vx_array_tree.specs.Encodings.Exts.{plan}
use Rattle.vx_array_tree.specs.Place.{Place, place}
use Rattle.vx_array_tree.specs.Refused.{IsWellShaped}
use Rattle.vx_array_tree.specs.Sound.{IsSoundNode}
use Rattle.vx_array_tree.specs.Tree.{Tree, Trees, cells, places, row_at, untold, valid_at}
use Rattle.vx_arrays.specs.Extensions.{extension_tree, storage_of}

-- ---- what a plan says

-- A node's only child, which stands at a place of its type's storage and of its length.
pub record IsStored (d : Typ) (n : ℕ) (ts : Trees) : Type 0 where
  pub storage : Tree
  pub alone : ts ≡ more storage end
  pub stands : storage_of d ≡ Some (label storage).dtype
  pub len_is : (label storage).len ≡ n

pub stored : (d : Typ) (n : ℕ) (ts : Trees) → plan d n (count ts) ≡ Some (places ts) → IsStored d n ts
stored (node (extension x bs) (more e end)) n end h = absurd (cc)
stored (node (extension x bs) (more e end)) n (more t end) h =
    let p = heads (place e n) (place (label t).dtype (label t).len) [] [] (same_Some _ _ h) in
    record { storage = t; alone = refl; stands = ap (λ (q : Place). Some q.dtype) p; len_is = sym (ap (λ (q : Place). q.len) p) }
stored (node (extension x bs) (more e end)) n (more t (more u us)) h = absurd (cc)
stored _ n ts h = absurd (cc)

pub planned : (d : Typ) (n : ℕ) (ts : Trees) → IsStored d n ts → plan d n (count ts) ≡ Some (places ts)
planned (node (extension x bs) (more e end)) n ts s =
    let typed : e ≡ (label s.storage).dtype = same_Some _ _ s.stands in
    rw s.alone (λ i. Some (place (typed i) (sym s.len_is i) ∷ []))
planned _ n ts s = absurd (cc)

-- A node is of the shape exactly where its only child is its storage.
pub shaped_stored : (d : Typ) (n : ℕ) (ts : Trees) → IsWellShaped (untold d n B.ext) ts → IsStored d n ts
shaped_stored d n ts s = stored d n ts s.planned

pub stored_shaped : (d : Typ) (n : ℕ) (ts : Trees) → IsStored d n ts → IsWellShaped (untold d n B.ext) ts
stored_shaped d n ts s = record { fair = tt; planned = planned d n ts s; allows = tt; takes = tt; holds = tt }

pub sound_stored : (d : Typ) (n : ℕ) (ts : Trees) → IsSoundNode (untold d n B.ext) ts → IsStored d n ts
sound_stored d n ts s = stored d n ts s.planned

nothing_stored : (d : Typ) (n : ℕ) → IsStored d n end → ⊥
nothing_stored d n s = never_end s.storage end (sym s.alone)

-- ---- its rows

module _ (d : Typ) (n : ℕ) (x : Stats) (ts : Trees) (t : Tree) (i : ℕ) (e : ts ≡ more t end) where
  pub stored_valid : valid_at (node (record { dtype = d; len = n; stats = x; body = B.ext }) ts) i ≡ valid_at t i
  stored_valid = rw e refl

  pub stored_row : row_at (node (record { dtype = d; len = n; stats = x; body = B.ext }) ts) i ≡ row_at t i
  stored_row = rw e refl

  pub stored_cells : cells (node (record { dtype = d; len = n; stats = x; body = B.ext }) ts) i ≡ cells t i
  stored_cells = rw e refl

  pub stored_smaller : nodes t < nodes (node (record { dtype = d; len = n; stats = x; body = B.ext }) ts)
  stored_smaller = rw e (omega arith)

-- ---- in the words of a slice

pub not_empty : (d : Typ) (n : ℕ) → IsSoundNode (untold d n B.ext) end → ⊥
not_empty d n s = nothing_stored d n (sound_stored d n end s)

pub alone_in : (d : Typ) (n : ℕ) (t : Tree) (ts : Trees) → IsSoundNode (untold d n B.ext) (more t ts) → more t ts ≡ more t end
alone_in d n t ts s = alone_too t ts _ (sound_stored d n (more t ts) s).alone

pub rows_in : (d : Typ) (n : ℕ) (t : Tree) (ts : Trees) → IsSoundNode (untold d n B.ext) (more t ts) → (label t).len ≡ n
rows_in d n t ts s =
    let x = sound_stored d n (more t ts) s in
    ap (λ (u : Tree). (label u).len) (first_tree t _ ts end x.alone) ∙ x.len_is

-- An extension node has no child but the first.
pub alone_item : (us : List Tree) (u : Tree) (d : Typ) (n : ℕ) → 1 ≤ length us → u ≡ get_or us 0 u → IsSoundNode (untold d n B.ext) (roses_of us) → roses_of us ≡ more u end
alone_item [] u d n l e s = absurd (omega (arith, l))
alone_item (x ∷ us) u d n l e s = alone_in d n x (roses_of us) s ∙ ap (λ (t : Tree). more t end) (sym e)

-- Of two or more arrays there is none.
pub never_two : (us : List Tree) (d : Typ) (n : ℕ) → 2 ≤ length us → IsWellShaped (untold d n B.ext) (roses_of us) → ⊥
never_two us d n l s = omega (arith, l, count-roses_of us, ap (λ (ts : Trees). count ts) (shaped_stored d n (roses_of us) s).alone)

-- ---- one child put into an empty list

pub tree_is : (x : Ext) (t : Tree) (n : ℕ) (ts : Trees) → n ≡ (label t).len → ts ≡ more t end → node (untold (node (extension x.id x.metadata) (more x.storage end)) n B.ext) ts ≡ extension_tree x t
tree_is x t n ts l e = rw (l, e) refl

pub ruleset storages = (not_empty, alone_in, rows_in)

pub ruleset stored_rows = (stored_valid, stored_row, stored_cells, stored_smaller)
