-- Parts are of the shape where the number of elements and a validity say so.
use Rattle.std.proofs.lemmas.Bool.{false≢true}
use Rattle.std.proofs.Common.{◌≡◌, ◌*◌, subst, IsTrue, arith}
use Rattle.std.specs.Prelude.{◌↔◌}
use Rattle.vx_array_tree.specs.Tree.{option_trees}
use Rattle.vx_arrays.proofs.Sized.{unshaped, validity_decides}
use Rattle.vx_arrays.proofs.encodings.fixed_size_list.is_shaped.Goals as goal

pub returns-then-not-is_product-clause-shaped : goal.returns-then-not-is_product-clause-shaped
returns-then-not-is_product-clause-shaped c =
    unshaped c.args.size c.args.nullability c.args.len c.args.elements.now (option_trees c.args.validity.now) c.is_product.result
    (subst (λ k. IsTrue c.is_product.result ↔ (k ≡ c.args.len * c.args.size)) c.len.ensures.len c.is_product.ensures) c.if-not-is_product.true

pub returns-then-not-is_product-clause-sound : goal.returns-then-not-is_product-clause-sound
returns-then-not-is_product-clause-sound c = λ t. absurd (false≢true t)

pub returns-clause-shaped : goal.returns-clause-shaped
returns-clause-shaped c =
    validity_decides c.args.size c.args.nullability c.args.len c.args.elements.now (option_trees c.args.validity.now) c.is_product.result c.is_validity.result
    (subst (λ k. IsTrue c.is_product.result ↔ (k ≡ c.args.len * c.args.size)) c.len.ensures.len c.is_product.ensures) c.if-not-is_product.false (omega (arith, c.len.type_inv, c.len.ensures.len)) c.is_validity.ensures.fits

pub returns-clause-sound : goal.returns-clause-sound
returns-clause-sound c = λ t. (c.len.ensures.sound, c.is_validity.ensures.sound)
