use Rattle.std.proofs.Common.{sym, ◌∙◌}
use Rattle.std.proofs.lemmas.Result.{IfOk-weaker}
use Rattle.range_ask.proofs.Ended.{some-of, none-of, least-choice, loose-choice}
use Rattle.range_ask.proofs.choice.least_choice.Goals as goal

pub returns-then-is_some : goal.returns-then-is_some
returns-then-is_some c =
    let ends = c.in_ok-found.found in
    let found = c.in_ok-found.ensures in
    let some = some-of ends.avoids.extreme (sym c.is_some.ensures ∙ c.if-is_some.true) in
    IfOk-weaker c.choice_between.result _ _ (λ choice b. least-choice c.args.db.now c.args.table c.args.tests.now found.0 found.1 c.args.col ends found.2 some.0 some.1 choice b) c.choice_between.ensures

pub returns-else-is_some : goal.returns-else-is_some
returns-else-is_some c =
    let ends = c.in_ok-found.found in
    let found = c.in_ok-found.ensures in
    IfOk-weaker c.loose_choice.result _ _ (λ choice l. loose-choice c.args.db.now c.args.table c.args.tests.now found.0 found.1 c.args.col ends found.2 (none-of ends.avoids.extreme (sym c.is_some.ensures ∙ c.if-is_some.false)) choice l) c.loose_choice.ensures
