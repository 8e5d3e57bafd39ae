-- What is asked of an array that is to be read again as itself, whatever encodings and plugins write of it.
use Rattle.std.specs.Prelude.{ℕ, zero, suc, ◌≡◌, Option, Some, None}
use Rattle.vx_trees.specs.Rose.{node}
use Rattle.vx_array_tree.specs.Body.{Body}
use Rattle.vx_array_tree.specs.Body as B
use Rattle.vx_array_tree.specs.Table.{encoding_of, id_of}
use Rattle.vx_array_tree.specs.Tree.{Tree, Trees, Head}
use Rattle.vx_wire_tree.specs.Plugin.{Parts, given}
use Rattle.vx_wire_tree.specs.Returns.{IsOwnCanon}
use Rattle.vx_wire_tree.specs.Session.{SessionMeaning, Reader, shipped, revised, plugin}
use Rattle.vx_wire_tree.specs.Taken.{Each}
use Rattle.vx_wire_tree.specs.Written.{written_id}
use Rattle.vx_encodings.specs.Messages.{codec}
use Rattle.vx_serde.specs.Limits.{most_levels}
use Rattle.vx_serde.specs.declared.options.SerializeOptions.{SerializeOptions}

-- A node by what writes it: the identifier under which it is written is read by that, and the same is said of the arrays
-- below it, or of those that the plugin gives.
abbrev pub IsReadByWriter : SessionMeaning → Option Reader → Head → Trees → (Trees → Type 0) → (Trees → Type 0) → Type 0
IsReadByWriter s None h ts Below Given = Unit {0}
IsReadByWriter s (Some (shipped e)) h ts Below Given = (s.reader (written_id s h) ≡ Some (shipped e)) × Below ts
IsReadByWriter s (Some revised) h ts Below Given = (s.reader (written_id s h) ≡ Some revised) × Below ts
IsReadByWriter s (Some (plugin p)) h ts Below Given = (y : Parts) → p.serialize (node h ts) ≡ given y → (s.reader y.id ≡ Some (plugin p)) × Given y.children

-- A node by what it is: it is not foreign.
abbrev pub IsReadAs : SessionMeaning → Body → Head → Trees → (Trees → Type 0) → (Trees → Type 0) → Type 0
IsReadAs s (B.foreign x) h ts Below Given = ⊥
IsReadAs s b h ts Below Given = IsReadByWriter s (s.writer (id_of (encoding_of b))) h ts Below Given

-- No node is foreign, and each written identifier is read by what wrote it, down to n levels; and each array that a
-- plugin gives is its own canon.
abbrev pub AreReadByWriters : SessionMeaning → ℕ → Tree → Type 0
AreReadByWriters s zero t = Unit {0}
AreReadByWriters s (suc n) (node h ts) =
    IsReadAs s h.body h ts (λ us. Each (λ u. AreReadByWriters s n u) us) (λ us. Each (λ u. IsOwnCanon codec s u × AreReadByWriters s n u) us)

-- The array and each array that plugins give for it are their own canons, in which types are known; none holds a foreign
-- node; and each written identifier is read by what wrote it.
pub record IsReturnable (s : SessionMeaning) (options : SerializeOptions) (array : Tree) : Type 0 where
  pub own : IsOwnCanon codec s array
  pub read : AreReadByWriters s (most_levels options) array
