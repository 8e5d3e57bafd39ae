use Rattle.std.proofs.Common.{◌∙◌, ap, ◌++◌, ◌∷◌, []}
use Rattle.vx_rows.specs.Plain.{plain_value, plain_values}
use Rattle.vx_rows.proofs.SameRows.{values-push}
use Rattle.vx_rows.proofs.row_values.RowValues.push.Goals as goal

pub returns-clause-ok : goal.returns-clause-ok
returns-clause-ok c =
    ap (λ vs. plain_values vs) c.in_ok-push.ensures.items ∙ values-push c.self.inside.items.items c.args.value ∙ ap (λ vs. vs ++ plain_value c.args.value ∷ []) c.self.view_is
