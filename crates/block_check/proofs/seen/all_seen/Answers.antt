use Rattle.std.proofs.Common.{◌≡◌, length, subst, arith}
use Rattle.block_check.specs.Firsts.{KnowsFirsts}
use Rattle.block_check.proofs.seen.all_seen.Goals as goal

pub returns : goal.returns
returns c =
    let all : c.loop-node.node-index ≡ length c.args.nodes.now = omega (arith, c.loop-node-test.false, c.loop-node.auto.node-index-end) in
    subst (λ z. KnowsFirsts c.args.query.now c.args.nodes.now z c.loop-node.seen.known c.loop-node.seen.firsts.items) all c.loop-node.invariant
