use Rattle.std.proofs.Common.{◌++◌, ◌∷◌, [], ap, sym, ◌∙◌, Bool}
use Rattle.std.specs.Prelude.{if◌then◌else◌}
use Rattle.vx_flat.proofs.KnownTables.{interned}
use Rattle.vx_flat.proofs.builder.known.FieldTables.intern.Goals as goal

pub returns-clause-interned : goal.returns-clause-interned
returns-clause-interned c =
    let a = c.args in
    interned c.self.inside.places.entries c.insert.new.self.entries c.in_ok-key.key a.place a.bytes.now a.self.now
    c.in_ok-insert.ensures.entries c.in_ok-key.ensures.items c.self.view_is (c.requires c.if-not-interns.false)
    ∙ ap (λ (b : Bool). if b then a.self.now ++ (a.bytes.now, a.place) ∷ [] else a.self.now) (sym c.if-not-interns.false)
