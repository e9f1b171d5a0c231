use Rattle.rewrite_check.proofs.Steps.{step_told, step_bad}
use Rattle.rewrite_check.proofs.head.step.Goals as goal

pub returns-clause-leads : goal.returns-clause-leads
returns-clause-leads c =
    step_told c.args.tables.now c.take.new.tables c.args.script.now c.due_text.new.self c.in_ok-text.text.now c.in_ok-said.said c.take.result c.in_ok-text.ensures.taken c.in_ok-said.ensures c.take.ensures.leads

pub returns-clause-bad : goal.returns-clause-bad
returns-clause-bad c =
    step_bad c.args.tables.now c.args.script.now c.due_text.new.self c.in_ok-text.text.now c.in_ok-said.said c.before-2.result c.take.result c.in_ok-text.ensures.taken c.in_ok-said.ensures c.before-2.ensures.is c.take.ensures.bad
