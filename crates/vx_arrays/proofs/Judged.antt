-- Parts that are refused are never sound.
use Rattle.vx_trees.specs.Rose.{node}
use Rattle.vx_array_tree.specs.Sound.{IsSound}
use Rattle.vx_array_tree.specs.Tree.{Head, Trees}
use Rattle.vx_array_tree.proofs.Built.{sound_well_shaped}
use Rattle.vx_arrays.specs.Refused.{IsMemory, RefusesMaking}
use Rattle.vx_rows.specs.declared.error.ArrayError.{ArrayError}
use Rattle.vx_rows.specs.declared.error.ArrayError.TheVariants.{OutOfMemory, BadShape, BadContent, ForeignControl, ValueTooLarge, BadCast}

pub unmade_unsound : (e : ArrayError) (h : Head) (ts : Trees) → RefusesMaking e (node h ts) → IsSound (node h ts) → IsMemory e
unmade_unsound OutOfMemory h ts u s = tt
unmade_unsound BadShape h ts u s = absurd (u (sound_well_shaped h ts s.0))
unmade_unsound BadContent h ts u s = absurd (u.broken s.0.content)
unmade_unsound ForeignControl h ts u s = absurd (u.foreign s.0.controlled)
unmade_unsound ValueTooLarge h ts u s = absurd u
unmade_unsound BadCast h ts u s = absurd u
