use Rattle.std.proofs.Common.{◌≡◌, take}
use Rattle.std.specs.Str.Parse.{AllDigits, digits_value}
use Rattle.cqa_value.proofs.digits.read_digits.Given as goal

-- the bytes so far are digits, and their number is known
abbrev pub invariant-loop-digit : goal.invariant-loop-digit
invariant-loop-digit l = record {
  digits : AllDigits 10 (take l.digit-index l.digits);
  number : l.number ≡ digits_value 10 (take l.digit-index l.digits);
}
