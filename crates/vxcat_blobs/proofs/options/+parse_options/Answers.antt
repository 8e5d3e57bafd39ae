use Rattle.std.proofs.Common.{◌≡◌, ℕ, ◌==◌, false, List, [], ◌∷◌, Option, Some, None, IfSome, IfNone, length, sym, ◌∙◌}
use Rattle.vxcat_blobs.specs.GivenOptions.{Given, Gives, given_in, setting_of}
use Rattle.vxcat_blobs.proofs.OptionFronts.{not_begun, given_twice, one_more, rest_not_given}
use Rattle.vxcat_blobs.proofs.options.+parse_options.Goals as goal

not_empty : (words : List (List ℕ)) → (length words == 0) ≡ false → words ≡ [] → ⊥
not_empty [] is none = cc
not_empty (word ∷ words) is none = cc

if_none : {A : Type 0} (o : Option A) (P : Type 0) → P → IfNone o P
if_none None P p = p
if_none (Some x) P p = tt

if_none_map : {A : Type 0} (o : Option A) (P Q : Type 0) → (P → Q) → IfNone o P → IfNone o Q
if_none_map None P Q f p = f p
if_none_map (Some x) P Q f p = tt

if_some_map : {A : Type 0} (o : Option A) (P Q : A → Type 0) → ((x : A) → P x → Q x) → IfSome o P → IfSome o Q
if_some_map None P Q f p = tt
if_some_map (Some x) P Q f p = f x p

pub returns-in_err-choice-clause-none : goal.returns-in_err-choice-clause-none
returns-in_err-choice-clause-none t c =
    let some = not_empty c.args.words.now (sym c.is_empty.ensures ∙ c.if-is_empty.false) in
    let never : (after : Given) → Gives (given_in c.args.before) c.args.words.now after → ⊥ =
    λ after. not_begun (given_in c.args.before) after c.args.words.now some c.in_err-choice.ensures.none in
    if_none _ _ never

pub returns-in_err-with-clause-none : goal.returns-in_err-with-clause-none
returns-in_err-with-clause-none t c =
    let found = c.in_ok-choice.ensures in
    let never : (after : Given) → Gives (given_in c.args.before) c.args.words.now after → ⊥ =
    λ after. given_twice (given_in c.args.before) after (setting_of c.in_ok-choice.choice) c.args.words.now c.in_ok-choice.rest.now found.spelled found.in_range (sym c.in_err-with.ensures) in
    if_none _ _ never

pub returns-clause-given : goal.returns-clause-given
returns-clause-given t c = if_some_map c.parse_options.result _ _ (λ options. one_more (given_in c.args.before) (given_in c.in_ok-with.field-0) (given_in options) (setting_of c.in_ok-choice.choice) c.args.words.now
    c.in_ok-choice.rest.now c.in_ok-choice.ensures.spelled c.in_ok-choice.ensures.in_range (sym c.in_ok-with.ensures)) c.parse_options.ensures.given

pub returns-clause-none : goal.returns-clause-none
returns-clause-none t c = if_none_map c.parse_options.result _ _ (rest_not_given (given_in c.args.before) (given_in c.in_ok-with.field-0) (setting_of c.in_ok-choice.choice) c.args.words.now c.in_ok-choice.rest.now
    c.in_ok-choice.ensures.spelled c.in_ok-choice.ensures.in_range (sym c.in_ok-with.ensures)) c.parse_options.ensures.none
