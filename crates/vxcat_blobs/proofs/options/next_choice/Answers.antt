use Rattle.std.proofs.Common.{rules, ◌≡◌, ◌∷◌, codes, decimal, sym, ◌∙◌, arith}
use Rattle.vxcat_blobs.proofs.OptionFronts.{too_many_rows}
use Rattle.vxcat_blobs.proofs.options.next_choice.Goals as goal

pub returns-then-number-gt-MAX_ROWS-clause-none : goal.returns-then-number-gt-MAX_ROWS-clause-none
returns-then-number-gt-MAX_ROWS-clause-none c = λ choice rest range same.
    let words : c.args.words.now ≡ codes "--rows" ∷ decimal c.in_ok-number.number ∷ c.in_ok-value.rest.now = search rules in
    too_many_rows choice rest c.in_ok-value.rest.now c.in_ok-number.number (omega arith) (omega arith) range (sym words ∙ same)
