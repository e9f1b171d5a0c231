use Rattle.std.proofs.lemmas.Result.{IfOk-weaker}
use Rattle.range_ask.proofs.Gathered.{groups-are}
use Rattle.range_ask.proofs.groups.fill.Goals as goal

pub returns : goal.returns
returns c =
    let ask = c.args.ask.now in
    let table = c.in_ok-add_table.ensures in
    IfOk-weaker c.gather.result _ _
    (λ done h. groups-are c.args.db.now c.args.table ask.goal.now ask.tests.now ask.col table.0 table.1 table.2 c.add_table.new.groups c.gather.ensures.ordered table.3 c.gather.new.list h) c.gather.ensures.ended
