use Rattle.std.proofs.Common.{◌≡◌, sym, subst, get_or, List}
use Rattle.std.specs.List.{All}
use Rattle.std.specs.Option.{option_copied}
use Rattle.cqa_value.specs.declared.value.Value.{Value as Cell}
use Rattle.cqa_value.specs.Values.{nothing}
use Rattle.cqa_model.specs.Plan.{TestHolds}
use Rattle.plan_rows.specs.Fitting.{GivesCandidate}
use Rattle.plan_rows.specs.Knowing.{MayFit}
use Rattle.plan_rows.specs.Over.{look_query, look_taken}
use Rattle.plan_rows.proofs.Telling.{may-tests, may-agree, may-answer, told-map}
use Rattle.plan_rows.proofs.known.known.Goals as goal

pub returns-in-Some : goal.returns-in-Some
returns-in-Some c =
    let look = c.args.look.now in
    λ y f. c.in-Some.ensures y (subst (λ conds. All (TestHolds look.atom y) conds) (sym c.as_slice.ensures) (may-tests (look_query look) (look_taken look) look.atom y (option_copied c.args.row) f))

pub returns-in-Some-told_by_taken : goal.returns-in-Some-told_by_taken
returns-in-Some-told_by_taken c =
    let look = c.args.look.now in
    λ y f. c.in-Some-told_by_taken.ensures y (may-agree (look_query look) (look_taken look) look.atom y (option_copied c.args.row) f)

pub returns-in-Some-row : goal.returns-in-Some-row
returns-in-Some-row c =
    let look = c.args.look.now in
    let q = look_query look in
    let taken = look_taken look in
    told-map
    (λ value. (y : List Cell) → GivesCandidate q look.atom y c.in-Some-row.row.now → get_or y c.args.col nothing ≡ value)
    (λ value. (y : List Cell) → MayFit q (option_copied c.args.row) taken look.atom y → get_or y c.args.col nothing ≡ value)
    c.told_by_answer.result
    (λ v h y f. h y (may-answer q taken look.atom y c.in-Some-row.row.now (subst (λ r. MayFit q (option_copied r) taken look.atom y) c.in-Some-row.is f))) c.told_by_answer.ensures
