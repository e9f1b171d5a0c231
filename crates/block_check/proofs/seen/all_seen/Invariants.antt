use Rattle.block_check.specs.Firsts.{KnowsFirsts}
use Rattle.block_check.proofs.seen.all_seen.Given as goal

-- the nodes so far are known
abbrev pub invariant-loop-node : goal.invariant-loop-node
invariant-loop-node l = KnowsFirsts l.query l.nodes l.node-index l.seen.known l.seen.firsts.items
