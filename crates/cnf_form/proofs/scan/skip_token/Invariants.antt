use Rattle.std.proofs.Common.{◌≡◌, length}
use Rattle.cnf_form.specs.Lines.{after_token}
use Rattle.cnf_form.proofs.scan.skip_token.Given as goal

abbrev pub invariant-loop-text : goal.invariant-loop-text
invariant-loop-text l = after_token l.text ≡ after_token l.fn.text

abbrev pub decreases-loop-text : goal.decreases-loop-text
decreases-loop-text l = length l.text
