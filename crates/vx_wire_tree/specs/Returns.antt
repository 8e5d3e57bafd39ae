-- When what encodings and plugins write of an array is read again as that array.
use Rattle.std.specs.Prelude.{ℕ, zero, suc, ◌≡◌, Option, Some, None, true}
use Rattle.vx_trees.specs.Rose.{node}
use Rattle.vx_array_tree.specs.Body.{Body}
use Rattle.vx_array_tree.specs.Body as B
use Rattle.vx_array_tree.specs.Sound.{IsSound}
use Rattle.vx_array_tree.specs.Table.{encoding_of, id_of}
use Rattle.vx_array_tree.specs.Tree.{Tree, Trees, Head}
use Rattle.vx_wire_tree.specs.Codec.{Codec}
use Rattle.vx_wire_tree.specs.Context.{is_among}
use Rattle.vx_wire_tree.specs.KnownTypes.{KnowsTypes}
use Rattle.vx_wire_tree.specs.Limits.{HasMessage}
use Rattle.vx_wire_tree.specs.Plugin.{PluginMeaning, Parts, given}
use Rattle.vx_wire_tree.specs.Session.{SessionMeaning, Reader, shipped, revised, plugin}
use Rattle.vx_wire_tree.specs.Taken.{Each}
use Rattle.vx_wire_tree.specs.Written.{written_id, canon}

-- An array is its own canon, and the types in it are known.
pub record IsOwnCanon (c : Codec) (s : SessionMeaning) (t : Tree) : Type 0 where
  pub sound : IsSound t
  pub own : canon c s t ≡ t
  pub known : KnowsTypes s.ext t

-- A node that an encoding writes: its metadata fits its message, and its identifier is read by what wrote it.
pub record IsEncodedAgain (s : SessionMeaning) (e : Reader) (h : Head) (ts : Trees) (Below : Trees → Type 0) : Type 0 where
  pub message : HasMessage h ts
  pub reader : s.reader (written_id s h) ≡ Some e
  pub below : Below ts

-- A node that a plugin writes: the plugin gives parts under an identifier that it declares and that it reads, and the
-- same is said of the arrays that it gives.
pub record IsGivenAgain (s : SessionMeaning) (p : PluginMeaning) (h : Head) (ts : Trees) (Given : Trees → Type 0) : Type 0 where
  pub parts : Parts
  pub serialized : p.serialize (node h ts) ≡ given parts
  pub declared : is_among parts.id p.declared ≡ true
  pub reader : s.reader parts.id ≡ Some (plugin p)
  pub below : Given parts.children

-- A node by what writes it.
abbrev pub ReturnsBy : SessionMeaning → Option Reader → Head → Trees → (Trees → Type 0) → (Trees → Type 0) → Type 0
ReturnsBy s None h ts Below Given = ⊥
ReturnsBy s (Some (shipped e)) h ts Below Given = IsEncodedAgain s (shipped e) h ts Below
ReturnsBy s (Some revised) h ts Below Given = IsEncodedAgain s revised h ts Below
ReturnsBy s (Some (plugin p)) h ts Below Given = IsGivenAgain s p h ts Given

-- A node by what it is: a foreign one does not return, any other one does by what writes its encoding.
abbrev pub ReturnsAs : SessionMeaning → Body → Head → Trees → (Trees → Type 0) → (Trees → Type 0) → Type 0
ReturnsAs s (B.foreign x) h ts Below Given = ⊥
ReturnsAs s b h ts Below Given = ReturnsBy s (s.writer (id_of (encoding_of b))) h ts Below Given

-- What is written of an array of at most n levels is read again as the array: each node's statistics can be stored, and
-- what writes a node reads it. Each array that a plugin gives on the way is its own canon.
abbrev pub Returns : Codec → SessionMeaning → ℕ → Tree → Type 0
Returns c s zero t = ⊥
Returns c s (suc n) (node h ts) =
    c.IsStorable h.stats × ReturnsAs s h.body h ts (λ us. Each (λ u. Returns c s n u) us) (λ us. Each (λ u. IsOwnCanon c s u × Returns c s n u) us)
