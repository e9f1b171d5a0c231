use Rattle.std.proofs.Common.{◌≡◌, ◌++◌, take}
use Rattle.std.specs.List.{flat_map}
use Rattle.sql_steps.specs.Steps.{test_at}
use Rattle.cqa_model.specs.declared.query.Cond.{Cond}
use Rattle.sql_steps.proofs.fitting.Fitting.add_tests.Given as goal

-- the tests so far
abbrev pub invariant-loop-cond : goal.invariant-loop-cond
invariant-loop-cond l = record {
  known : l.self.known ≡ l.fn.self.known;
  all : l.self.all ≡ l.fn.self.all ++ flat_map (λ (k : Cond). test_at l.atom l.place l.columns k) (take l.cond-index l.conds);
}
