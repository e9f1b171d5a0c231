use Rattle.std.proofs.Common.{map, sym, ◌∙◌, ap, subst}
use Rattle.std.proofs.lemmas.Result.{IfOk-weaker}
use Rattle.repair_back.specs.Results.{is_contested_in}
use Rattle.table_blocks.specs.Tables.{AreStored}
use Rattle.cqa_value.proofs.Words.{Contains-filter}
use Rattle.query_replies.specs.Kept.{kept_line}
use Rattle.query_statements.proofs.Contesting.{wide-contested}
use Rattle.query_statements.proofs.Ranging.{attained-stored}
use Rattle.query_statements.proofs.range.tell.Goals as goal

pub told-requires-clause-low : goal.told-requires-clause-low
told-requires-clause-low c =
    let db = c.args.db.now in
    let is = c.in_ok-ends.ensures in
    let from = is.is.from in
    subst (AreStored db) (sym (is.low_is ∙ wide-contested db c.args.table is.parts is.parted c.args.goal.now c.args.tests.now _ _ from))
    (λ name m. attained-stored db c.args.table c.args.goal.now c.args.tests.now _ _ c.requires.database c.requires.there from name ((Contains-filter (is_contested_in db) is.range.low name).0 m).0)

pub told-requires-clause-high : goal.told-requires-clause-high
told-requires-clause-high c =
    let db = c.args.db.now in
    let is = c.in_ok-ends.ensures in
    let to = is.is.to in
    subst (AreStored db) (sym (is.high_is ∙ wide-contested db c.args.table is.parts is.parted c.args.goal.now c.args.tests.now _ _ to))
    (λ name m. attained-stored db c.args.table c.args.goal.now c.args.tests.now _ _ c.requires.database c.requires.there to name ((Contains-filter (is_contested_in db) is.range.high name).0 m).0)

pub returns : goal.returns
returns c =
    let db = c.args.db.now in
    let is = c.in_ok-ends.ensures in
    let lows = ap (map (kept_line db)) (is.low_is ∙ wide-contested db c.args.table is.parts is.parted c.args.goal.now c.args.tests.now _ _ is.is.from) in
    let highs = ap (map (kept_line db)) (is.high_is ∙ wide-contested db c.args.table is.parts is.parted c.args.goal.now c.args.tests.now _ _ is.is.to) in
    let least = is.least_is in
    let greatest = is.greatest_is in
    IfOk-weaker c.told.result _ _ (λ reply e. record { range = is.range; is = is.is; replies = cc (e, lows, highs, least, greatest) }) c.told.ensures
