use Rattle.std.proofs.Common.{◌≡◌, length}
use Rattle.cnf_form.specs.Lines.{after_token, token_of}
use Rattle.cnf_form.specs.Numbers.{digits_after}
use Rattle.cnf_form.proofs.scan.read_digits.Given as goal

abbrev pub invariant-loop-rest : goal.invariant-loop-rest
invariant-loop-rest l = record {
  digits : digits_after l.value (token_of l.rest) ≡ digits_after 0 (token_of l.text);
  after : after_token l.rest ≡ after_token l.text;
}

abbrev pub decreases-loop-rest : goal.decreases-loop-rest
decreases-loop-rest l = length l.rest
