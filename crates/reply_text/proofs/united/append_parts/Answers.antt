use Rattle.reply_text.specs.Texts.{part_text}
use Rattle.reply_text.proofs.Pieces.{one_more_numbered}
use Rattle.reply_text.proofs.united.append_parts.Goals as goal

pub loop-before-preserved : goal.loop-before-preserved
loop-before-preserved c =
    one_more_numbered part_text c.args.out.now.items c.loop-before.out.items c.append_part.new.out.items c.args.parts.now c.loop-before.before _ c.loop-before-test.true c.index-parts-before.is c.loop-before.invariant c.in_ok-append_part.ensures
