use Rattle.std.proofs.Common.{◌≤◌, [], get_or, arith}
use Rattle.cqa_model.specs.Repairs.{SharesKey}
use Rattle.cqa_model.proofs.Repairs.{shares-sym, shares-trans}
use Rattle.repair_back.proofs.blocks.block_start.Goals as goal

pub returns-clause-begins : goal.returns-clause-begins
returns-clause-begins c i low l s =
    let key = c.args.key.now in
    let rows = c.args.rows.now in
    let start = c.block_start.result in
    let e = c.block_start.ensures in
    let here : SharesKey key (get_or rows c.args.at []) (get_or rows start []) = (e.block start e.before).1 (omega arith) in
    let back : SharesKey key (get_or rows start []) (get_or rows i []) = shares-sym key (get_or rows i []) (get_or rows start []) s in
    let b = e.before in
    let first : start ≤ i = (e.block i (omega (arith, low, b))).0 (shares-trans key (get_or rows c.args.at []) (get_or rows start []) (get_or rows i []) here back) in
    omega (arith, low, first)

pub returns-clause-same : goal.returns-clause-same
returns-clause-same c =
    let e = c.block_start.ensures in
    shares-sym c.args.key.now (get_or c.args.rows.now c.args.at []) (get_or c.args.rows.now c.block_start.result []) ((e.block c.block_start.result e.before).1 (omega arith))
