use Rattle.std.proofs.Common.{◌≡◌, length}
use Rattle.cnf_form.specs.Lines.{after_line}
use Rattle.cnf_form.proofs.scan.skip_line.Given as goal

abbrev pub invariant-loop-text : goal.invariant-loop-text
invariant-loop-text l = after_line l.text ≡ after_line l.fn.text

abbrev pub decreases-loop-text : goal.decreases-loop-text
decreases-loop-text l = length l.text
