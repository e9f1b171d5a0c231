use Rattle.std.proofs.Common.{◌≡◌, ◌+◌, [], arith, List, subst, length}
use Rattle.cnf_form.specs.declared.formula.Clause.{Clause}
use Rattle.cnf_form.specs.Literals.{literals}
use Rattle.search_trail.specs.Analysis.{ChainPasses}
use Rattle.cdcl.proofs.States.{literals_count}
use Rattle.cdcl.proofs.Ends.{last_step}
use Rattle.cdcl.proofs.Conflicts.{conflict_in}
use Rattle.cdcl.proofs.solver.Solver.end.Goals as goal

pub refute-requires-clause-conflict : goal.refute-requires-clause-conflict
refute-requires-clause-conflict c = conflict_in c.args.self.now c.implications.result c.args.conflict c.implications.ensures.clauses c.implications.ensures.trail c.requires.conflict

pub returns : goal.returns
returns c =
    let clauses = c.args.self.now.clauses in
    let id : c.len.result + 1 ≡ length (literals clauses.items) + 1 = let n = literals_count clauses.items in omega (arith, n, c.len.ensures, clauses.ok) in (
      c.step_of.result,
      c.in_ok-push.ensures.items,
      last_step (literals clauses.items) c.step_of.result (c.len.result + 1) c.new.result.items c.in_ok-hints.hints.items c.step_of.ensures id c.new.ensures.items
          (subst (λ (cs : List Clause). ChainPasses (literals cs) [] c.in_ok-hints.hints.items) c.implications.ensures.clauses c.in_ok-hints.ensures),
    )
