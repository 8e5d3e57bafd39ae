use Rattle.std.proofs.Common.{◌≡◌, ◌<◌, ◌≤◌, ℕ, ◌∙◌, ap, subst, length}
use Rattle.vx_wire_tree.specs.Context.{Context, with_id}
use Rattle.vx_registry.specs.contracts.context.ArrayContext.{the_view}
use Rattle.vx_registry.proofs.Interning.{full, added, added-place}
use Rattle.vx_registry.proofs.context.ArrayContext.append.Goals as goal
use Rattle.vx_registry.proofs.context.ArrayContext.append.Goals.{In_ok-insert}

pub returns-in-None-clause-refused : goal.returns-in-None-clause-refused
returns-in-None-clause-refused c =
    let count = c.len.ensures.len ∙ ap (λ z. length z.ids) c.self.view_is in
    full c.args.self.now c.args.id.now c.requires.allowed c.requires.new (subst (λ (n : ℕ). 65536 ≤ n) count c.in-None.ensures.none)

-- The new list is the old one with the identifier.
grown_ids : (c : In_ok-insert) → c.insert.new.self.keys ≡ with_id c.args.id.now c.args.self.now.ids
grown_ids c =
    c.in_ok-insert.ensures.keys ∙ ap (λ id. with_id id c.self.inside.ids.keys) (c.in_ok-id.ensures.ok ∙ c.as_str.ensures.same) ∙ ap (λ z. with_id c.args.id.now z.ids) c.self.view_is

pub returns-clause-interned : goal.returns-clause-interned
returns-clause-interned c =
    let count = c.len.ensures.len ∙ ap (λ z. length z.ids) c.self.view_is in
    let new : Context = the_view (record { ids = c.insert.new.self; allowed = c.self.inside.allowed; alloc = c.self.inside.alloc }) in
    added c.args.self.now new c.args.id.now c.requires.allowed c.requires.new (subst (λ (n : ℕ). n < 65536) count c.in-Some.ensures.small) (grown_ids c) (ap (λ z. z.allowed) c.self.view_is)

pub returns-clause-place : goal.returns-clause-place
returns-clause-place c =
    let count = c.len.ensures.len ∙ ap (λ z. length z.ids) c.self.view_is in
    let new : Context = the_view (record { ids = c.insert.new.self; allowed = c.self.inside.allowed; alloc = c.self.inside.alloc }) in
    added-place c.args.self.now new c.args.id.now c.in-Some.last c.requires.new (c.in-Some.ensures.some ∙ count) (grown_ids c)
