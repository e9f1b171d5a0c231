use Rattle.std.proofs.Common.{◌≡◌, false, take}
use Rattle.std.specs.List.{list_any}
use Rattle.cqa_model.specs.declared.query.Cond.{Cond}
use Rattle.plan_sql.specs.Statement.{is_rare_test}
use Rattle.plan_sql.proofs.few.has_rare_test.Given as goal

-- those so far
abbrev pub invariant-loop-cond : goal.invariant-loop-cond
invariant-loop-cond l = list_any (λ (k : Cond). is_rare_test l.shape.query.now l.bounds l.atom k) (take l.cond-index l.shape.query.now.conds) ≡ false
