use Rattle.plan_rows.proofs.Sharing.{underway-starts, none-right}
use Rattle.rewrite_text.proofs.printed.add_blocks.Goals as goal

pub invariant_of-rest : goal.invariant_of-rest
invariant_of-rest c = record { underway = underway-starts c.args.course.now }

pub add_nodes-done-requires-clause-memo : goal.add_nodes-done-requires-clause-memo
add_nodes-done-requires-clause-memo c = none-right c.args.course.now c.over-memo.result c.over-memo.ensures
