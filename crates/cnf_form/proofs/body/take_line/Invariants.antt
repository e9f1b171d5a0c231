use Rattle.std.proofs.Common.{◌≡◌, ◌++◌, ℕ, List, length}
use Rattle.cnf_form.specs.Lines.{after_line, line_of, tokens}
use Rattle.cnf_form.specs.Formulas.{Token, tagged}
use Rattle.cnf_form.specs.Reading.{outcome}
use Rattle.cnf_form.proofs.body.take_line.Given as goal

abbrev pub invariant-loop-after : goal.invariant-loop-after
invariant-loop-after l = record {
  line : after_line l.text ≡ after_line l.rest;
  so_far : (missing n : ℕ) (later : List Token) → outcome l.vars missing l.fn.body (tagged n (tokens (line_of l.text)) ++ later) ≡ outcome l.vars missing l.body (tagged n (tokens (line_of l.rest)) ++ later);
}

abbrev pub decreases-loop-after : goal.decreases-loop-after
decreases-loop-after l = length l.rest
