use Rattle.std.proofs.Common.{◌≡◌, take}
use Rattle.std.specs.List.{flat_map, fold}
use Rattle.vx_trees.specs.Rose.{label}
use Rattle.vx_array_tree.specs.Table.{buffers_of}
use Rattle.vx_arrays.specs.Compared.{fed_buffer}
use Rattle.vx_arrays.proofs.array.Array.hash_root.Given as goal

-- the buffers so far are fed
abbrev pub invariant-loop-i : goal.invariant-loop-i
invariant-loop-i g l = l.state ≡ fold g.H.Hasher.write l.initial.state (flat_map fed_buffer (take l.i (buffers_of (label l.self).body)))
