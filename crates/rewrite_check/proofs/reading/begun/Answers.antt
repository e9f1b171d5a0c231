use Rattle.std.proofs.Common.{[], subst}
use Rattle.std.proofs.lemmas.Result.{IfOk-weaker}
use Rattle.rewrite_check.specs.declared.certificate.Certificate.{Certificate}
use Rattle.rewrite_check.specs.Spelling.{Created, Ordered}
use Rattle.rewrite_check.specs.Reading.{GoesFrom, IsBadStatement, asked_stage}
use Rattle.rewrite_check.proofs.Kept.{asked_places}
use Rattle.rewrite_check.proofs.Moving.{more_read, bad_behind, bad_on}
use Rattle.rewrite_check.proofs.reading.begun.Goals as goal

pub ordered-requires : goal.ordered-requires
ordered-requires c =
    let stage = asked_stage c.head.new.tables c.in-Ok.claim in
    asked_places c.args.script.now c.head.new.script c.head.new.tables c.in-Ok.claim
    (subst (λ z. GoesFrom (Created z) c.args.script.now stage c.head.new.script) c.new-tables.ensures.empty c.in-Ok.ensures.leads)

pub returns-in-Ok-clause-leads : goal.returns-in-Ok-clause-leads
returns-in-Ok-clause-leads c =
    let stage = asked_stage c.head.new.tables c.in-Ok.claim in
    let at = c.args.script.now in
    let on = c.head.new.script in
    let end = c.ordered.new.script in
    let read = subst (λ z. GoesFrom (Created z) at stage on) c.new-tables.ensures.empty c.in-Ok.ensures.leads in
    IfOk-weaker c.ordered.result (λ (z : Certificate). GoesFrom stage on (Ordered z) end) (λ (z : Certificate). GoesFrom (Created []) at (Ordered z) end) (λ z h. more_read (Created []) stage (Ordered z) at on end read h) c.ordered.ensures.leads

pub returns-in-Ok-clause-bad : goal.returns-in-Ok-clause-bad
returns-in-Ok-clause-bad c =
    let stage = asked_stage c.head.new.tables c.in-Ok.claim in
    let at = c.args.script.now in
    let on = c.head.new.script in
    let read = subst (λ z. GoesFrom (Created z) at stage on) c.new-tables.ensures.empty c.in-Ok.ensures.leads in
    bad_on c.ordered.result (IsBadStatement stage on) (IsBadStatement (Created []) at) (λ n h. bad_behind (Created []) stage at on n read h) c.ordered.ensures.bad
