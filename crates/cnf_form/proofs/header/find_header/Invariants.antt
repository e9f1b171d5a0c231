use Rattle.std.proofs.Common.{◌≡◌, ℕ, length}
use Rattle.cnf_form.specs.Lines.{lines}
use Rattle.cnf_form.specs.Formulas.{formula_of}
use Rattle.cnf_form.specs.Reading.{IsPast}
use Rattle.cnf_form.proofs.header.find_header.Given as goal

abbrev pub invariant-loop-rest : goal.invariant-loop-rest
invariant-loop-rest l = record {
  past : IsPast 1 l.number l.text l.rest;
  same : (missing : ℕ) → formula_of missing 1 (lines l.text) ≡ formula_of missing l.number (lines l.rest);
}

abbrev pub decreases-loop-rest : goal.decreases-loop-rest
decreases-loop-rest l = length l.rest
