use Rattle.rewrite_check.specs.Spelling.{Ordered}
use Rattle.rewrite_check.specs.Reading.{asked_stage, certificate_of}
use Rattle.rewrite_check.proofs.Moving.{one_read, bad_text}
use Rattle.rewrite_check.proofs.Steps.{no_order, order_leads, order_none}
use Rattle.rewrite_check.proofs.order.order.Goals as goal

pub returns-in-Some-clause-leads : goal.returns-in-Some-clause-leads
returns-in-Some-clause-leads c = λ db.
    let claim = c.args.claim.now in
    let text = c.in_ok-text.text.now in
    one_read (asked_stage db claim) (Ordered (certificate_of db claim c.in-Some.order)) c.args.script.now c.due_text.new.self text c.in_ok-text.ensures.taken
    (order_leads claim text c.in_ok-order.field-0 c.in-Some.order c.in-Some.is c.in_ok-order.ensures db)

pub returns-in-None-clause-bad : goal.returns-in-None-clause-bad
returns-in-None-clause-bad c = λ db.
    let claim = c.args.claim.now in
    let text = c.in_ok-text.text.now in
    bad_text (asked_stage db claim) c.args.script.now c.due_text.new.self text c.before-in-None.result c.in_ok-text.ensures.taken c.before-in-None.ensures.is
    (no_order db claim text (order_none claim text c.in_ok-order.field-0 c.in-None.is c.in_ok-order.ensures))
