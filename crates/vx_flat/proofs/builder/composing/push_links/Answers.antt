use Rattle.std.proofs.Common.{◌+◌, ◌*◌, ◌++◌, [], ap, sym, ◌∙◌, append_assoc}
use Rattle.vx_flat.specs.FieldTables.{le_bytes, zeros}
use Rattle.vx_flat.proofs.Composing.{links_zero}
use Rattle.vx_flat.proofs.Loose.{links_length}
use Rattle.vx_flat.proofs.builder.composing.push_links.Goals as goal

pub returns : goal.returns
returns c =
    let n = c.args.count in
    let m = c.args.out.now.items in
    c.in_ok-push_zeros.ensures
    ∙ (ap (λ x. x ++ zeros (4 * n)) c.in_ok-push_number.ensures
    ∙ (append_assoc m (le_bytes 4 n) (zeros (4 * n))
    ∙ (λ i. m ++ (le_bytes 4 (sym (links_length n []) i) ++ sym (links_zero n (c.args.offsets.target + 4)) i))))
