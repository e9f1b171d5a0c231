use Rattle.std.proofs.lemmas.Result.{IfOk-weaker}
use Rattle.range_ask.proofs.Ended.{greatest-choice}
use Rattle.range_ask.proofs.choice.greatest_choice.Goals as goal

pub returns : goal.returns
returns c =
    let ends = c.in_ok-avoids.field-0 in
    let found = c.in_ok-avoids.ensures in
    IfOk-weaker c.choice_between.result _ _ (λ choice b. greatest-choice c.args.db.now c.args.table c.args.tests.now found.0 found.1 c.args.col ends found.2 choice b) c.choice_between.ensures
