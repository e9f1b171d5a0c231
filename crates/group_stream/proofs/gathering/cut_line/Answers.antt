use Rattle.std.proofs.lemmas.Bool.{ne_eqb}
use Rattle.std.proofs.Common.{get_or}
use Rattle.group_stream.proofs.Cutting.{line_step}
use Rattle.group_stream.proofs.gathering.cut_line.Goals as goal

pub loop-at-preserved : goal.loop-at-preserved
loop-at-preserved c = line_step c.args.text.now c.loop-at.at c.loop-at-test.true (ne_eqb (get_or c.args.text.now c.loop-at.at 0) 10 c.if-byte-eq10.false) c.loop-at.invariant
