use Rattle.std.proofs.Common.{◌≡◌, ap, length, arith, get_or, List}
use Rattle.cqa_value.specs.declared.value.Value.{Value as Cell}
use Rattle.cqa_value.specs.Values.{nothing}
use Rattle.plan_rows.specs.Taking.{placed}
use Rattle.plan_rows.specs.Fitting.{AgreesAll}
use Rattle.plan_rows.proofs.Telling.{agrees-first, agrees-others, told-map}
use Rattle.plan_rows.proofs.known.+told_by_taken.Goals as goal

pub told_by_taken-requires : goal.told_by_taken-requires
told_by_taken-requires t c = (omega (arith, ap (λ z. length (placed z)) c.in-Before.is, c.decreases), c.requires)

pub returns-in-Some : goal.returns-in-Some
returns-in-Some t c = λ y all.
    c.in-Some.ensures y (agrees-first c.args.setting.now.bound.now.query.now c.args.column.atom y (placed c.args.taken.now) _ _ (ap placed c.in-Before.is) all c.args.column.col c.requires.1)

pub returns-in-None : goal.returns-in-None
returns-in-None t c =
    let q = c.args.setting.now.bound.now.query.now in
    let F = c.args.column.atom in
    told-map
    (λ value. (y : List Cell) → AgreesAll q F y (placed c.in-Before.before.now) → get_or y c.args.column.col nothing ≡ value)
    (λ value. (y : List Cell) → AgreesAll q F y (placed c.args.taken.now) → get_or y c.args.column.col nothing ≡ value)
    c.told_by_taken.result
    (λ v h y all. h y (agrees-others q F y (placed c.args.taken.now) _ _ (ap placed c.in-Before.is) all)) c.told_by_taken.ensures
