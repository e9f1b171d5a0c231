use Rattle.std.proofs.Common.{◌≡◌, length}
use Rattle.cnf_form.specs.Lines.{after_line, line_of, tokens}
use Rattle.lrat_check.specs.LogTexts.{hints_of}
use Rattle.lrat_check.specs.LogParts.{after_hints}
use Rattle.lrat_check.proofs.reading.read_hints.Given as goal

abbrev pub invariant-loop-number : goal.invariant-loop-number
invariant-loop-number l = record {
  line : after_line l.text ≡ after_line l.rest;
  so_far : hints_of (tokens (line_of l.text)) ≡ after_hints l.hints.items (hints_of (tokens (line_of l.rest)));
}

abbrev pub decreases-loop-number : goal.decreases-loop-number
decreases-loop-number l = length l.rest
