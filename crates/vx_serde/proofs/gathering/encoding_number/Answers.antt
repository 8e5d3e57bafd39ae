use Rattle.std.proofs.Common.{◌≡◌, ℕ, ◌++◌, List, subst}
use Rattle.vx_wire_tree.specs.Context.{index_of}
use Rattle.vx_serde.proofs.Growing.{taken-number}
use Rattle.vx_serde.proofs.gathering.encoding_number.Goals as goal

pub returns-in-Ok-Some-clause-number : goal.returns-in-Ok-Some-clause-number
returns-in-Ok-Some-clause-number c = λ more.
    let P : List ℕ → Type 0 = λ z. index_of z (c.intern.new.self.ids ++ more) ≡ c.in-Ok-Some.number in
    subst P c.in-Ok.ensures.ok
    (taken-number c.in-Ok.id c.args.ctx.now c.intern.new.self c.in-Ok-Some.number more (rw c.in-Ok-Some.field-0-is at c.in-Ok-Some.ensures.interned) (rw c.in-Ok-Some.field-0-is at c.in-Ok-Some.ensures.place))
