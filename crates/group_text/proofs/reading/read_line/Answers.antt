use Rattle.std.proofs.Common.{arith}
use Rattle.group_text.proofs.Parts.{line_of_take, take_full}
use Rattle.group_text.proofs.reading.read_line.Goals as goal

pub slice_bounds-read_long-end : goal.slice_bounds-read_long-end
slice_bounds-read_long-end c = take_full 16777216 c.args.line.now (omega (arith, c.if-line-gt-LONGEST_LINE.true))

pub read_long-requires : goal.read_long-requires
read_long-requires c = line_of_take 16777216 c.args.line.now c.requires
