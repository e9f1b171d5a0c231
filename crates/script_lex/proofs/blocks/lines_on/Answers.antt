use Rattle.script_lex.proofs.BlockLines.{lines_more, line_more}
use Rattle.script_lex.proofs.blocks.lines_on.Goals.{then-bytes-seen-eq10+else-is_ending_line, else-bytes-seen-eq10}
use Rattle.script_lex.proofs.blocks.lines_on.Goals as goal

pub loop-seen-preserved : goal.loop-seen-preserved
loop-seen-preserved c = elim c.if-bytes-seen-eq10.branch [
  | then-bytes-seen-eq10+else-is_ending_line w ↦
      rw w.line-is (line_more c.args.bytes.now c.loop-seen.line c.loop-seen.seen c.loop-seen.invariant c.loop-seen-test.true w.if-bytes-seen-eq10.true (λ e. absurd (cc (w.is_ending_line.ensures.1 e, w.if-is_ending_line.false))))
  | else-bytes-seen-eq10 w ↦ rw w.line-is (lines_more c.args.bytes.now c.loop-seen.line c.loop-seen.seen c.loop-seen.invariant c.loop-seen-test.true w.if-bytes-seen-eq10.false)
]
