use Rattle.std.proofs.Common.{arith, rules, get_or, ap, take, length, ◌≡◌, ◌∙◌, ◌<◌, ◌≤◌, ℕ, List, subst, take_all}
use Rattle.std.proofs.lemmas.Int.Digits.{digits_more, digits_value_more}
use Rattle.std.proofs.lemmas.Str.{digit_value_digit}
use Rattle.std.specs.Str.Parse.{AllDigits, IsNumeral, digits_value}
use Rattle.cqa_value.proofs.Integers.{no_numeral, too_great}
use Rattle.cqa_value.proofs.digits.read_digits.Goals as goal
use Rattle.cqa_value.proofs.digits.read_digits.Goals.{then-digit-lt48-via-then-digit-lt48, then-digit-lt48-via-else-digit-lt48+then-digit-gt57}

pub returns-then-digit-lt48 : goal.returns-then-digit-lt48
returns-then-digit-lt48 c = λ is. absurd (no_numeral c.args.digits.now c.loop-digit.digit-index c.loop-digit-test.true is
    (λ digit. elim c.then-digit-lt48.branch [ then-digit-lt48-via-then-digit-lt48 w ↦ omega arith | then-digit-lt48-via-else-digit-lt48+then-digit-gt57 w ↦ omega arith ]))

pub returns-then-number-gt-MOST_BEFORE_DIGIT : goal.returns-then-number-gt-MOST_BEFORE_DIGIT
returns-then-number-gt-MOST_BEFORE_DIGIT c = λ _. too_great c.args.digits.now c.loop-digit.digit-index c.loop-digit-test.true (omega (arith, c.loop-digit.invariant.number))

pub loop-digit-preserved : goal.loop-digit-preserved
loop-digit-preserved c =
    let value = digit_value_digit (get_or c.args.digits.now c.loop-digit.digit-index 0) (omega arith, omega arith) in
    record {
      digits = digits_more 10 c.args.digits.now c.loop-digit.digit-index c.loop-digit-test.true c.loop-digit.invariant.digits (omega (arith, value));
      number = omega (arith, value, c.loop-digit.invariant.number, digits_value_more 10 c.args.digits.now c.loop-digit.digit-index c.loop-digit-test.true);
    }

whole : (digits : List ℕ) (i number : ℕ) → 0 < length digits → length digits ≤ i → AllDigits 10 (take i digits) → number ≡ digits_value 10 (take i digits) → IsNumeral 10 digits × (number ≡ digits_value 10 digits)
whole digits i number some all is value = let same = take_all i digits all in ((some, subst (AllDigits 10) same is), value ∙ ap (digits_value 10) same)

pub returns : goal.returns
returns c = whole c.args.digits.now c.loop-digit.digit-index c.loop-digit.number (search rules) c.loop-digit-test.false c.loop-digit.invariant.digits c.loop-digit.invariant.number
