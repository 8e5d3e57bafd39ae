-- The meaning of a plugin that writes an array over itself, or under an identifier that it does not declare, or not at
-- all.
use Rattle.std.specs.Prelude.{ℕ, List, [], ◌∷◌, Option, Some, None, nat_eq, if◌then◌else◌}
use Rattle.vx_trees.specs.Rose.{end, more}
use Rattle.vx_array_tree.specs.Place.{Place, place}
use Rattle.vx_array_tree.specs.Tree.{Tree, Trees}
use Rattle.vx_wire_tree.specs.Plugin.{NodeHead, Parts, Answer, none, refused, given}
use Rattle.vx_plugin_tests.specs.declared.odd.Oddity.{Oddity}
use Rattle.vx_plugin_tests.specs.declared.odd.Oddity.TheVariants.{Formless, Unwilling, Undeclared, Endless}

-- An array as the one child of a node that has no more parts, under an identifier.
abbrev pub over : List ℕ → Tree → Parts
over id t = record { id = id; metadata = []; buffers = []; children = more t end }

-- What is made of an array: nothing, a refusal, or itself below a node of one of two identifiers.
abbrev pub odd_answer : Oddity → List ℕ → List ℕ → Tree → Answer
odd_answer Formless id other t = none
odd_answer Unwilling id other t = refused
odd_answer Undeclared id other t = given (over other t)
odd_answer Endless id other t = given (over id t)

-- The one child has the place of its node.
abbrev pub odd_plan : NodeHead → Option (List Place)
odd_plan h = if nat_eq h.nchildren 1 then Some (place h.dtype h.len ∷ []) else None

-- And it is what is read.
abbrev pub odd_build : Trees → Option Tree
odd_build end = None
odd_build (more t ts) = Some t
