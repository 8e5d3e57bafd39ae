use Rattle.std.proofs.Common.{◌∙◌, ℕ, List, [], ap, get_or, sym, take}
use Rattle.std.proofs.lemmas.List.{take_more}
use Rattle.vx_wire_tree.specs.Context.{with_id, with_ids}
use Rattle.vx_registry.proofs.Interning.{with_ids-snoc}
use Rattle.vx_registry.proofs.context.set_of.Goals as goal

pub loop-id-preserved : goal.loop-id-preserved
loop-id-preserved c =
    let items : List (List ℕ) = c.as_slice-id-items.result.now in
    let x : List ℕ = c.id-item.result in
    let at : List ℕ = get_or items c.loop-id.id-index x in
    c.in_ok-insert.ensures.keys
    ∙ ap (λ id. with_id id c.loop-id.set.keys) (c.in_ok-named.ensures.ok ∙ (c.as_str.ensures.same ∙ c.id-item.is))
    ∙ ap (λ ids. with_id at ids) c.loop-id.invariant
    ∙ sym (with_ids-snoc [] (take c.loop-id.id-index items) at)
    ∙ sym (ap (λ ids. with_ids [] ids) (take_more items c.loop-id.id-index x c.loop-id-test.true))
