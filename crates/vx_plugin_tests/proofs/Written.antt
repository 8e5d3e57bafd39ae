-- What plugins write of an array.
use Rattle.std.proofs.Common.{ℕ, ◌≡◌, ◌<◌, ◌++◌, List, [], ◌∷◌, length, sym, ap, ◌∙◌, arith}
use Rattle.vx_trees.specs.Rose.{node, end, more, label, below, roses_of, roses_list}
use Rattle.vx_array_tree.specs.Body as B
use Rattle.vx_array_tree.specs.Encodings.Primitives as Primitives
use Rattle.vx_array_tree.specs.Tree.{Tree, Trees}
use Rattle.vx_wire_tree.specs.Plugin.{refused, given}
use Rattle.vx_registry.specs.Plugin.{parts_in}
use Rattle.vx_registry.specs.declared.serialization.ArraySerialization.{ArraySerialization}
use Rattle.vx_plugin_tests.specs.Odd.{over}
use Rattle.vx_plugin_tests.specs.Versioned.{id_for, answer_by, answer}

one : (ts : Trees) (t : Tree) → roses_list ts ≡ t ∷ [] → ts ≡ more t end
one end t e = absurd (cc)
one (more u end) t e = let same : u ≡ t = cc in ap (λ z. more z end) same
one (more u (more v us)) t e = absurd (cc)

-- A list that was empty, and to which a copy of an array was appended.
pub alone : (old ts : Trees) (t u : Tree) → old ≡ end → roses_list ts ≡ roses_list old ++ t ∷ [] → t ≡ u → ts ≡ more u end
alone old ts t u empty pushed same = one ts t (pushed ∙ ap (λ z. roses_list z ++ t ∷ []) empty) ∙ ap (λ z. more z end) same

-- An array below a node that has no more parts.
pub over_is : (id : List ℕ) (t : Tree) (s : ArraySerialization) → s.serialized_id ≡ id → s.metadata ≡ [] → s.buffers ≡ [] → s.children ≡ more t end → given (over id t) ≡ given (parts_in s)
over_is id t s i m b k = λ j. given (record { id = sym i j; metadata = sym m j; buffers = sym b j; children = sym k j })

-- Numbers with a child are refused.
pub childful : (old new : List ℕ) (t : Tree) (x : Primitives.Data) (cs : List Tree) → (label t).body ≡ B.primitive x → roses_of cs ≡ below t → 0 < length cs → answer old new t ≡ refused
childful old new (node h end) x [] b e l = absurd (omega (arith, l))
childful old new (node h end) x (c ∷ cs) b e l = absurd (cc)
childful old new (node h (more u us)) x cs b e l = ap (λ z. answer_by (id_for old new h.len) h.dtype z (more u us)) b
