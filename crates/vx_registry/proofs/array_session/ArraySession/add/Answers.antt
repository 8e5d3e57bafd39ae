use Rattle.std.proofs.Common.{◌≡◌, ◌+◌, ◌++◌, ◌∷◌, [], length, arith, ap, refl, ◌∙◌}
use Rattle.vx_registry.specs.Session.{put_all, with_plugin}
use Rattle.vx_registry.specs.declared.tables.Entry.TheVariants.{Boxed}
use Rattle.vx_registry.proofs.Meanings.{found_boxed}
use Rattle.vx_registry.proofs.Pairing.{within_as, within_boxed}
use Rattle.vx_registry.proofs.array_session.ArraySession.add.Goals as goal

-- The number is below the length, and no other number was put in.
pub invariant_of-self-2 : goal.invariant_of-self-2
invariant_of-self-2 g c =
    let own = c.args.self.now in
    let before : c.len.result ≡ length own.plugins.items = omega (arith, c.len.ensures, c.reserve.ensures.len) in
    let after : length c.push_reserved.new.self.items ≡ c.len.result + 1 = omega (arith, c.push_reserved.ensures.len, c.len.ensures) in
    record { in_range = within_as _ _ _ _ c.in-Ok-set_boxed.ensures.registered after (within_boxed c.len.result c.in-Ok-clone.id c.in-Ok.ids own.tables (within_as own.tables own.tables _ _ refl before own.in_range)) }

-- The number is that of the last plugin, and the identifiers are those of the plugin's meaning.
pub returns-clause-entries : goal.returns-clause-entries
returns-clause-entries g c =
    let own = c.args.self.now in
    let b = c.args.plugin in
    let p = (goal.ArrayPlugin-dyn g (b.vtable, b.value)).means b.value in
    let k = length own.plugins.items in
    let before : c.len.result ≡ k = omega (arith, c.len.ensures, c.reserve.ensures.len) in
    c.in-Ok-set_boxed.ensures.registered
    ∙ ap (λ n. with_plugin n c.in-Ok-clone.id c.in-Ok.ids own.tables) before
    ∙ ap (λ id. with_plugin k id c.in-Ok.ids own.tables) (c.in-Ok-clone.ensures.ok ∙ c.id_of.ensures)
    ∙ ap (λ ids. with_plugin k p.id ids own.tables) c.in-Ok.ensures.declared

pub returns-clause-readers : goal.returns-clause-readers
returns-clause-readers g c = λ x id.
    let own = c.args.self.now in
    let b = c.args.plugin in
    let n = c.len.result in
    let before : n ≡ length own.plugins.items = omega (arith, c.len.ensures, c.reserve.ensures.len) in
    found_boxed (λ b. (goal.ArrayPlugin-dyn g (b.vtable, b.value)).means b.value) own.plugins.items c.push_reserved.new.self.items b n _ own.tables.readers c.set_boxed.new.self.readers id
    (c.push_reserved.ensures.items ∙ ap (λ z. z ++ b ∷ []) c.reserve.ensures.items) before
    (ap (λ r. r.readers) c.in-Ok-set_boxed.ensures.registered ∙ ap (λ z. put_all (Boxed n) z own.tables.readers) c.in-Ok.ensures.declared)
    (λ m p. own.in_range.readers id m p)

pub returns-clause-writers : goal.returns-clause-writers
returns-clause-writers g c = λ x id.
    let own = c.args.self.now in
    let b = c.args.plugin in
    let n = c.len.result in
    let before : n ≡ length own.plugins.items = omega (arith, c.len.ensures, c.reserve.ensures.len) in
    found_boxed (λ b. (goal.ArrayPlugin-dyn g (b.vtable, b.value)).means b.value) own.plugins.items c.push_reserved.new.self.items b n (((goal.ArrayPlugin-dyn g (b.vtable, b.value)).means b.value).id ∷ []) own.tables.writers c.set_boxed.new.self.writers id
    (c.push_reserved.ensures.items ∙ ap (λ z. z ++ b ∷ []) c.reserve.ensures.items) before
    (ap (λ r. r.writers) c.in-Ok-set_boxed.ensures.registered ∙ ap (λ z. put_all (Boxed n) (z ∷ []) own.tables.writers) (c.in-Ok-clone.ensures.ok ∙ c.id_of.ensures))
    (λ m p. own.in_range.writers id m p)
