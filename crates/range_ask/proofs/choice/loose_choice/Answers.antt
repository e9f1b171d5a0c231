use Rattle.std.proofs.lemmas.Result.{IfOk-weaker}
use Rattle.range_ask.proofs.choice.loose_choice.Goals as goal

pub returns : goal.returns
returns c =
    IfOk-weaker c.choice_between.result _ _ (λ choice b. record { high = c.in_ok-high.high; places_are = c.in_ok-high.ensures.places; extreme_is = c.in_ok-high.ensures.extreme; between = b }) c.choice_between.ensures
