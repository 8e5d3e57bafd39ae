use Rattle.std.proofs.Common.{arith, sym, ap, ◌∙◌}
use Rattle.vx_arrays.specs.Plain.{plain_body}
use Rattle.vx_plugin_tests.proofs.Written.{childful}
use Rattle.vx_plugin_tests.proofs.versioned.VersionedArrayPlugin.serialize.Goals as goal

pub returns-then-children-ne0 : goal.returns-then-children-ne0
returns-then-children-ne0 c =
    childful c.args.self.now.old c.args.self.now.new c.args.array.now _ c.children.result.now (sym c.body.ensures ∙ ap (λ z. plain_body z) c.in-Primitive.is) c.children.ensures.children (omega (arith, c.if-children-ne0.true))
