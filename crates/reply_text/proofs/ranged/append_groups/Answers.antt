use Rattle.std.proofs.Common.{rules, ◌++◌, codes}
use Rattle.reply_text.specs.Texts.{group_text}
use Rattle.reply_text.proofs.Pieces.{one_more}
use Rattle.reply_text.proofs.ranged.append_groups.Goals as goal

pub loop-line-preserved : goal.loop-line-preserved
loop-line-preserved c = one_more (λ line. group_text line ++ codes "\n") c.args.out.now.items c.loop-line.out.items c.append_group.new.out.items c.args.lines.now c.loop-line.line-index c.line-item.result (search rules) c.line-item.is c.loop-line.invariant c.in_ok-append_group.ensures
