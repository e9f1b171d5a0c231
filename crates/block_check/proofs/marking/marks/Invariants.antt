use Rattle.block_check.specs.Walking.{HasMarks}
use Rattle.block_check.proofs.marking.marks.Given as goal

-- the blocks so far have marks
abbrev pub invariant-loop-node : goal.invariant-loop-node
invariant-loop-node l = HasMarks l.query l.nodes l.node-index l.marks.items
