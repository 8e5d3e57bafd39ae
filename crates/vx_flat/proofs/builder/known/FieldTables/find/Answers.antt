use Rattle.std.proofs.Common.{ap, sym, ◌∙◌, ◌≡◌}
use Rattle.std.specs.Prelude.{bytes_eq}
use Rattle.std.specs.Map.{lookup}
use Rattle.vx_flat.specs.BlockOffsets.{known_at}
use Rattle.vx_flat.proofs.KnownTables.{lookup_known, same_bytes}
use Rattle.vx_flat.proofs.builder.known.FieldTables.find.Goals as goal

pub returns : goal.returns
returns c =
    let bs = c.args.bytes.now in
    c.copied.ensures
    ∙ (c.get.ensures.value
    ∙ (lookup_known c.self.inside.places.entries bs ∙ ap (λ t. known_at t bs) c.self.view_is))

pub returns-in-loop-i : goal.returns-in-loop-i
returns-in-loop-i c =
    let bs = c.args.bytes.now in
    let es = c.self.inside.places.entries in
    let same : c.in-Some.key.now.items ≡ bs =
    sym c.as_slice.ensures.value ∙ same_bytes c.as_slice.result.now bs (sym c.eq.ensures ∙ c.if-eq.true) in
    sym c.in-Some.ensures.value
    ∙ (ap (λ xs. lookup (λ y. bytes_eq xs y.items) es) same
    ∙ (lookup_known es bs ∙ ap (λ t. known_at t bs) c.self.view_is))
