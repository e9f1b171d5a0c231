use Rattle.std.proofs.Common.{arith}
use Rattle.repair_back.proofs.BlockEnds.{block_end-is, block_end-begins}
use Rattle.repair_back.proofs.blocks.block_end.Goals as goal

pub returns-clause-block : goal.returns-clause-block
returns-clause-block c =
    let e = c.block_end.ensures in
    block_end-is c.args.key.now c.args.rows.now c.requires.order c.args.at c.block_end.result e.within e.behind
    (λ i low l. let w = e.within in (e.block i low (omega (arith, l, w))).1 l) (λ l s. let b = e.behind in let n = (e.block c.block_end.result (omega (arith, b)) l).0 s in omega (arith, n)) c.requires.begins

pub returns-clause-begins : goal.returns-clause-begins
returns-clause-begins c =
    let e = c.block_end.ensures in
    block_end-begins c.args.key.now c.args.rows.now c.requires.order c.args.at c.block_end.result e.within e.behind
    (λ i low l. let w = e.within in (e.block i low (omega (arith, l, w))).1 l) (λ l s. let b = e.behind in let n = (e.block c.block_end.result (omega (arith, b)) l).0 s in omega (arith, n))
