use Rattle.std.proofs.Common.{rules, ◌≡◌, IfNone, None, Some, Option, codes, decimal, arith, subst, sym, ◌∙◌}
use Rattle.vxcat_blobs.specs.Recode.{InvokesRecode, Recode}
use Rattle.vxcat_blobs.specs.GivenOptions.{Given, Gives, given_in}
use Rattle.vxcat_blobs.proofs.OptionSettings.{gives_some, sets}
use Rattle.vxcat_blobs.proofs.SevenWords.{seven, behind, behind-is, options_behind}
use Rattle.vxcat_blobs.proofs.recode.words.parse_recode.Goals as goal

if_none : {A : Type 0} (o : Option A) (P : Type 0) → P → IfNone o P
if_none None P p = p
if_none (Some x) P p = tt

pub returns-in_err-options-clause-none : goal.returns-in_err-options-clause-none
returns-in_err-options-clause-none c =
    let none = c.in_err-options.ensures.none in
    let never : (line : Recode) → InvokesRecode c.args.words.now line → ⊥ =
    λ line invoked.
    (let found = gives_some (behind c.args.words.now) invoked.given (options_behind c.args.words.now line invoked) invoked.are_options in
    none found.0 (subst (λ (before : Given). Gives before (behind c.args.words.now) found.0) (sym c.none.ensures) found.1)) in
    if_none _ _ never

pub returns-clause-invoked : goal.returns-clause-invoked
returns-clause-invoked c =
    let found = sets (behind c.args.words.now) (given_in c.in_ok-options.options) (subst (λ (before : Given). Gives before (behind c.args.words.now) (given_in c.in_ok-options.options)) c.none.ensures c.in_ok-options.ensures.given) in
    let command : codes "recode" ≡ c.command-item.result = search rules in
    let number : decimal c.in_ok-len.len ≡ c.len-item.result = search rules in
    record {
      given = found.settings;
      words_are =
          rw (command, number) (seven c.args.words.now _ _ _ _ _ _ _ _ (omega arith) (sym found.words_are ∙ behind-is c.args.words.now) c.command-item.is c.type_file-item.is c.blob_file-item.is c.len-item.is c.id_file-item.is c.out-item.is c.out_ids-item.is);
      are_options = found.are_options;
      settings_are = found.settings_are;
      fits = omega arith;
      outputs_differ = search rules;
    }
