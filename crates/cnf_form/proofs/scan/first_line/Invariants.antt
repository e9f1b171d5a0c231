use Rattle.std.proofs.Common.{◌≡◌, ◌++◌, take, drop}
use Rattle.cnf_form.specs.Lines.{line_of}
use Rattle.cnf_form.proofs.scan.first_line.Given as goal

abbrev pub invariant-loop-at : goal.invariant-loop-at
invariant-loop-at l = line_of l.text ≡ take l.at l.text ++ line_of (drop l.at l.text)
