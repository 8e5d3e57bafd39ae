use Rattle.std.proofs.Common.{◌≡◌, ℕ, ◌<◌, ◌^◌, true, false, List, [], ◌∷◌, length, get_or, decimal, Option, Result, Ok, Err, IfSome, IfNone, refl, sym, ap, subst, ◌∙◌, arith}
use Rattle.std.specs.Str.{all_ascii_digits}
use Rattle.std.specs.Result.{result_ok}
use Rattle.std.specs.Str.Parse.{ParsesUnsigned}
use Rattle.std.specs.Char.{is_ascii_digit}
use Rattle.std.specs.List.{list_all}
use Rattle.vxcat_store.proofs.DecimalNumbers.{parsed_is_decimal, decimal_is_digits, decimal_no_zero, decimal_parses, all_digits_is}
use Rattle.vxcat_store.proofs.numbers.decimal_number.Goals as goal

some : {E : Type 0} (bs : List ℕ) (r : Result ℕ E) (o : Option ℕ) → o ≡ result_ok r → ParsesUnsigned 64 10 bs r → all_ascii_digits bs ≡ true → (get_or bs 0 0 ≡ 48 → length bs ≡ 1) → IfSome o (λ n. bs ≡ decimal n)
some bs (Err e) o is parses digits no_zero = rw is tt
some {E} bs (Ok n) o is parses digits no_zero =
    let text : bs ≡ decimal n = parsed_is_decimal {E = E} bs (Ok n) n parses digits no_zero (refl {0}) in
    rw is text

none : {E : Type 0} (bs : List ℕ) (r : Result ℕ E) (o : Option ℕ) → o ≡ result_ok r → ParsesUnsigned 64 10 bs r → IfNone o ((n : ℕ) → n < 2 ^ 64 → bs ≡ decimal n → ⊥)
none bs (Ok n) o is parses = rw is tt
none {E} bs (Err e) o is parses =
    let never : (n : ℕ) → n < 2 ^ 64 → bs ≡ decimal n → ⊥ = λ n fits same. (let ok = decimal_parses {E = E} n bs (Err e) fits same parses in cc) in
    rw is never

one_long : (bs : List ℕ) → get_or bs 0 0 ≡ 48 → (1 < length bs → ⊥) → length bs ≡ 1
one_long [] zero short = absurd (omega (arith, zero))
one_long (c ∷ []) zero short = refl
one_long (c ∷ d ∷ cs) zero short = absurd (short (omega arith))

pub returns-then-not-are_digits-clause-none : goal.returns-then-not-are_digits-clause-none
returns-then-not-are_digits-clause-none c = λ n fits is.
    let text : c.as_bytes-digits.result.now ≡ decimal n = c.as_bytes-digits.ensures.value ∙ is in
    let digits : list_all is_ascii_digit c.as_bytes-digits.result.now ≡ true = all_digits_is c.as_bytes-digits.result.now ∙ ap all_ascii_digits text ∙ decimal_is_digits n fits in
    let no : c.are_digits.result ≡ false = c.if-not-are_digits.true in
    let yes : c.are_digits.result ≡ true = c.are_digits.ensures ∙ digits in
    cc

pub returns-then-has_leading_zero-clause-none : goal.returns-then-has_leading_zero-clause-none
returns-then-has_leading_zero-clause-none c = λ n fits is.
    let text : c.as_bytes-digits.result.now ≡ decimal n = c.as_bytes-digits.ensures.value ∙ is in
    let zero_first = c.has_leading_zero.ensures.0 c.if-has_leading_zero.true in
    decimal_no_zero n fits (ap (λ (l : List ℕ). get_or l 0 0) (sym text) ∙ zero_first.0) (subst (λ (l : List ℕ). 1 < length l) text zero_first.1)

pub returns-clause-spelled : goal.returns-clause-spelled
returns-clause-spelled c =
    let text = c.as_bytes-digits.ensures.value in
    let digits : all_ascii_digits c.args.word.now ≡ true = sym (all_digits_is c.args.word.now) ∙ ap (λ (l : List ℕ). list_all is_ascii_digit l) (sym text) ∙ sym c.are_digits.ensures ∙ c.if-not-are_digits.false in
    some c.args.word.now c.parse.result c.ok.result c.ok.ensures.value c.parse.ensures.value.0 digits (λ zero. one_long c.args.word.now zero (λ long. let yes : c.has_leading_zero.result ≡ true = c.has_leading_zero.ensures.1 (ap (λ (l : List ℕ). get_or l 0 0) text ∙ zero, subst (λ (l : List ℕ). 1 < length l) (sym text) long) in let no : c.has_leading_zero.result ≡ false = c.if-has_leading_zero.false in cc))

pub returns-clause-none : goal.returns-clause-none
returns-clause-none c = none c.args.word.now c.parse.result c.ok.result c.ok.ensures.value c.parse.ensures.value.0
