use Rattle.std.proofs.Common.{◌≡◌, length, ◌++◌}
use Rattle.cnf_form.specs.Literals.{literals}
use Rattle.cdcl.specs.Looking.{IsReady}
use Rattle.cdcl.specs.Lines.{AreLines, learnt}
use Rattle.cdcl.proofs.solver.Solver.search_and_learn.Given as goal

abbrev pub invariant-loop-round : goal.invariant-loop-round
invariant-loop-round l = record {
  ready : IsReady l.self;
  permanent : l.self.permanent ≡ l.initial.self.permanent;
  len : length l.self.places.items ≡ length l.initial.self.places.items;
  db : literals l.self.clauses.items ≡ literals l.initial.self.clauses.items ++ learnt l.log.items;
  lines : AreLines l.initial.self.permanent (literals l.initial.self.clauses.items) (length l.initial.self.places.items) l.log.items;
  count : length l.log.items ≡ l._round;
}
