use Rattle.reply_text.specs.Texts.{step_text}
use Rattle.reply_text.proofs.Pieces.{one_more_numbered}
use Rattle.reply_text.proofs.planned.append_steps.Goals as goal

pub loop-before-preserved : goal.loop-before-preserved
loop-before-preserved c =
    one_more_numbered step_text c.args.out.now.items c.loop-before.out.items c.append_step.new.out.items c.args.names.now c.loop-before.before _ c.loop-before-test.true c.index-names-before.is c.loop-before.invariant c.in_ok-append_step.ensures
