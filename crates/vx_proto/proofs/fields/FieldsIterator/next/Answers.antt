use Rattle.std.proofs.Common.{◌≡◌, ◌<◌, ℕ, zero, suc, eqb, false, length, refl, sym, ◌∙◌, arith, rules}
use Rattle.vx_proto.specs.WireView.{field_view}
use Rattle.vx_proto.proofs.CutAll.{begins, begins_none}
use Rattle.vx_proto.proofs.fields.FieldsIterator.next.Goals as goal

some_left : (n : ℕ) → eqb n 0 ≡ false → 0 < n
some_left zero e = absurd cc
some_left (suc n) e = omega arith

pub returns-in-Some : goal.returns-in-Some
returns-in-Some c = record {
  steps = begins c.args.self.now.rest.now c.in-Some.rest.now (field_view c.in-Some.field) (sym c.in-Some.ensures.field);
  goes = search rules;
}

pub returns-in-None : goal.returns-in-None
returns-in-None c = record {
  steps = (some_left (length c.args.self.now.rest.now) (sym c.is_empty.ensures ∙ c.if-is_empty.false), begins_none c.args.self.now.rest.now (sym c.in-None.ensures.field), refl, refl);
  goes = search rules;
}
