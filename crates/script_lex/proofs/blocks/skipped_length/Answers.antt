use Rattle.std.proofs.Common.{arith}
use Rattle.script_lex.specs.declared.bytes.Class.TheVariants.{LineBlank}
use Rattle.script_lex.proofs.Runs.{run_stops}
use Rattle.script_lex.proofs.BlockLines.{skips_none}
use Rattle.script_lex.proofs.blocks.skipped_length.Goals.{else-blanks-bytes-via-then-blanks-bytes+else-bytes-blanks-eq10, else-blanks-bytes-via-else-blanks-bytes}
use Rattle.script_lex.proofs.blocks.skipped_length.Goals as goal

pub returns-else-blanks-bytes : goal.returns-else-blanks-bytes
returns-else-blanks-bytes c = record {
  within = omega arith;
  skips =
      skips_none c.args.bytes.now c.args.blanks c.requires.each (run_stops LineBlank c.args.bytes.now c.args.blanks c.requires)
      (λ lt feed. elim c.else-blanks-bytes.branch [
        | else-blanks-bytes-via-then-blanks-bytes+else-bytes-blanks-eq10 w ↦ w.if-bytes-blanks-eq10.false feed
        | else-blanks-bytes-via-else-blanks-bytes w ↦ let no = w.if-blanks-bytes.false in absurd (omega arith)
      ])
      c.requires.within;
}
