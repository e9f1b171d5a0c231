use Rattle.std.proofs.Common.{◌≡◌, ℕ, length}
use Rattle.cnf_form.specs.Lines.{lines}
use Rattle.cnf_form.specs.Formulas.{body_tokens}
use Rattle.cnf_form.specs.Reading.{IsPast, outcome}
use Rattle.cnf_form.proofs.body.read_body.Given as goal

abbrev pub invariant-loop-rest : goal.invariant-loop-rest
invariant-loop-rest l = record {
  past : IsPast l.first l.number l.text l.rest;
  same : (missing : ℕ) → outcome l.vars missing l.fn.body (body_tokens l.first (lines l.text)) ≡ outcome l.vars missing l.body (body_tokens l.number (lines l.rest));
}

abbrev pub decreases-loop-rest : goal.decreases-loop-rest
decreases-loop-rest l = length l.rest
