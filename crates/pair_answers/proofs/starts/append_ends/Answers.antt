use Rattle.std.proofs.Common.{arith, ◌+◌, ◌++◌, ◌∷◌, [], sym, subst}
use Rattle.row_cursor.specs.Blocks.{blocks_left}
use Rattle.pair_answers.proofs.Walking.{AreEndsSoFar, one-more, few-ends}
use Rattle.pair_answers.proofs.starts.append_ends.Goals as goal

pub loop-block-preserved : goal.loop-block-preserved
loop-block-preserved c =
    let all = blocks_left c.over-cursor.result in
    let next = blocks_left c.next.new.self in
    let first = c.args.first in
    let old = c.args.ends.now.items in
    let ends = c.loop-block.ends.items in
    let end = c.loop-block.end in
    subst (λ more. AreEndsSoFar first old all next more (end + c.len.result)) (sym c.in_ok-push.ensures.items)
    (subst (λ n. AreEndsSoFar first old all next (ends ++ (end + n) ∷ []) (end + n)) (sym c.len.ensures)
    (one-more first old all (blocks_left c.loop-block.cursor) next c.in-Some.block ends end c.loop-block.invariant c.in-Some.ensures.steps))

pub returns-clause-few : goal.returns-clause-few
returns-clause-few c =
    let few = few-ends c.args.first c.args.ends.now.items (blocks_left c.over-cursor.result) (blocks_left c.loop-block.cursor) c.loop-block.ends.items c.loop-block.end c.loop-block.invariant in
    let blocks = c.over-cursor.ensures.few in
    let rows = c.rows.ensures.few in
    omega (arith, few, blocks, rows)
