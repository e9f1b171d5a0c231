use Rattle.std.proofs.Common.{◌≡◌, ◌+◌, OnOk, length, subst, arith}
use Rattle.cnf_form.specs.Literals.{literals}
use Rattle.cdcl.specs.Lines.{IsLine}
use Rattle.cdcl.proofs.States.{literals_count}
use Rattle.cdcl.proofs.Ends.{line_step}
use Rattle.cdcl.proofs.solver.Solver.learn.Goals as goal

pub returns-in-Ok-clause-line : goal.returns-in-Ok-clause-line
returns-in-Ok-clause-line c =
    let id : c.len-2.result + 1 ≡ length (literals c.args.self.now.clauses.items) + 1 = let n = literals_count c.args.self.now.clauses.items in omega (arith, n, c.len-2.ensures, c.args.self.now.clauses.ok) in
    line_step c.args.self.now.permanent (literals c.args.self.now.clauses.items) (length c.args.self.now.places.items) c.step_of.result (c.len-2.result + 1) c.in_ok-learnt.learnt.lits.items c.in_ok-learnt.learnt.hints.items
    c.step_of.ensures id
    (subst (λ r. OnOk r (IsLine c.args.self.now.permanent (literals c.args.self.now.clauses.items) (length c.args.self.now.places.items) c.in_ok-learnt.learnt.lits.items c.in_ok-learnt.learnt.hints.items)) c.in-Ok.is c.jump_and_add-added.ensures.line)
