use Rattle.std.proofs.Common.{rules, ◌≡◌, ◌∙◌, List, ℕ, ap, get_or, codes, decimal, arith}
use Rattle.std.proofs.lemmas.Fmt.{decimal_injective}
use Rattle.vxcat_blobs.proofs.SixWords.{six}
use Rattle.vxcat_blobs.proofs.make.words.parse_make.Goals as goal

pub returns-then-rows-gt-MAX_ROWS-clause-none : goal.returns-then-rows-gt-MAX_ROWS-clause-none
returns-then-rows-gt-MAX_ROWS-clause-none c = λ line invoked.
    let spelled : decimal c.in_ok-rows.rows ≡ c.rows-item.result = search rules in
    let word : c.rows-item.result ≡ decimal line.rows = c.rows-item.is ∙ ap (λ (l : List (List ℕ)). get_or l 2 c.rows-item.result) invoked.words_are in
    let same = decimal_injective c.in_ok-rows.rows line.rows (omega arith) (omega (arith, invoked.few)) (spelled ∙ word) in
    omega (arith, same, invoked.few, c.if-rows-gt-MAX_ROWS.true)

pub returns-clause-invoked : goal.returns-clause-invoked
returns-clause-invoked c =
    let command : codes "make" ≡ c.command-item.result = search rules in
    let first : decimal c.in_ok-seed.seed ≡ c.seed-item.result = search rules in
    let second : decimal c.in_ok-rows.rows ≡ c.rows-item.result = search rules in
    record {
      words_are =
          rw (command, first, second) (six c.args.words.now _ _ _ _ _ _ (omega arith) c.command-item.is c.seed-item.is c.rows-item.is c.type_file-item.is c.out-item.is c.id_file-item.is);
      fits = omega arith;
      few = omega arith;
      apart = search rules;
    }
