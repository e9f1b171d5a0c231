use Rattle.std.proofs.Common.{List, ap, length, arith}
use Rattle.cnf_form.specs.Literals.{literals}
use Rattle.search_trail.specs.declared.trail.Entry.{Entry}
use Rattle.cdcl.proofs.States.{last_within}
use Rattle.cdcl.proofs.Conflicts.{conflict_in}
use Rattle.cdcl.proofs.solver.Solver.analyze.Goals as goal

pub analyze-requires-clause-level : goal.analyze-requires-clause-level
analyze-requires-clause-level c =
    let s = c.args.self.now in
    let r = last_within (literals s.clauses.items) s.trail.items s.places.items s.level_starts.items c.requires.sound c.requires.level in
    let e = ap (λ (es : List Entry). length es) c.implications.ensures.trail in
    omega (arith, r, e, c.implications.ensures.start)

pub analyze-requires-clause-conflict : goal.analyze-requires-clause-conflict
analyze-requires-clause-conflict c = conflict_in c.args.self.now c.implications.result c.args.conflict c.implications.ensures.clauses c.implications.ensures.trail c.requires.conflict
