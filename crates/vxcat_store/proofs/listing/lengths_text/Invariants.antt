use Rattle.std.proofs.Common.{◌≡◌, ◌++◌, string_bytes}
use Rattle.vx_trees.specs.Rose.{label}
use Rattle.vx_array_tree.specs.Table.{buffers_of}
use Rattle.vxcat_store.specs.Listing.{lengths_text}
use Rattle.vxcat_store.proofs.Listings.{lengths_from}
use Rattle.vxcat_store.proofs.listing.lengths_text.Given as goal

abbrev pub invariant-loop-i : goal.invariant-loop-i
invariant-loop-i l = let buffers = buffers_of (label l.array).body in string_bytes l.text ++ lengths_from l.i buffers ≡ lengths_text buffers
