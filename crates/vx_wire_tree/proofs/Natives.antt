-- What holds of a node of a known encoding, by what writes it.
use Rattle.std.proofs.Common.{◌≡◌, ◌⊎◌, inl, inr, refl}
use Rattle.vx_array_tree.specs.Body.{Body}
use Rattle.vx_array_tree.specs.Body as B
use Rattle.vx_array_tree.specs.Encodings.Foreigns as Foreigns
use Rattle.vx_array_tree.specs.Table.{encoding_of, id_of, IsNative}
use Rattle.vx_array_tree.specs.Tree.{Trees, Head}
use Rattle.vx_wire_tree.specs.ReadBack.{HasWriter, IsWrittenBy}
use Rattle.vx_wire_tree.specs.Session.{SessionMeaning}
use Rattle.vx_wire_tree.specs.Taken.{writer_step, step_by}

-- A node is of a known encoding, or foreign.
pub native_or : (b : Body) → IsNative b ⊎ ((x : Foreigns.Data) × (b ≡ B.foreign x))
native_or (B.foreign x) = inr (x, refl)
native_or _ = inl tt

module _ (s : SessionMeaning) where
  -- A node of a known encoding is written by what writes the encoding.
  pub step_native : (b : Body) (h : Head) (ts : Trees) → IsNative b → step_by s b h ts ≡ writer_step (s.writer (id_of (encoding_of b))) h ts
  step_native (B.foreign x) h ts k = absurd k
  step_native _ h ts k = refl

  -- It has a writer where its encoding has one.
  pub native_writer : (b : Body) → IsNative b → IsWrittenBy s b → HasWriter s (encoding_of b)
  native_writer (B.foreign x) k w = absurd k
  native_writer _ k w = w

  pub native_written : (b : Body) → IsNative b → HasWriter s (encoding_of b) → IsWrittenBy s b
  native_written (B.foreign x) k w = absurd k
  native_written _ k w = w
