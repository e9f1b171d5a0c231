use Rattle.std.proofs.Common.{◌++◌, ◌+◌, ◌∙◌, ap}
use Rattle.case_maker.specs.Scripts.{lines_of}
use Rattle.case_maker.proofs.Ranges.{lines_more}
use Rattle.case_maker.proofs.lines.append_part.Goals as goal

pub loop-at-preserved : goal.loop-at-preserved
loop-at-preserved c =
    c.in_ok-append_lines.ensures ∙ ap (λ l. l ++ lines_of c.args.part (c.args.first + c.loop-at.at)) c.loop-at.invariant ∙ lines_more (lines_of c.args.part) c.args.out.now.items c.args.first c.loop-at.at
