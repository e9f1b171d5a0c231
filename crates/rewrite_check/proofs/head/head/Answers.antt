use Rattle.rewrite_check.specs.Spelling.{Created}
use Rattle.rewrite_check.specs.Reading.{IsBadStatement, asked_stage}
use Rattle.rewrite_check.proofs.Moving.{more_read, bad_behind, bad_out}
use Rattle.rewrite_check.proofs.Steps.{step_some, step_none}
use Rattle.rewrite_check.proofs.head.head.Goals as goal

pub returns-in_err-claim-clause-bad : goal.returns-in_err-claim-clause-bad
returns-in_err-claim-clause-bad c =
    let old = c.args.tables.now in
    let at = c.args.script.now in
    bad_out c.from_residual.result c.in_err-claim.field-0.0 (IsBadStatement (Created c.loop-claim.tables) c.loop-claim.script) (IsBadStatement (Created old) at)
    (λ n h. bad_behind (Created old) (Created c.loop-claim.tables) at c.loop-claim.script n c.loop-claim.invariant h) c.from_residual.ensures.1 c.in_err-claim.ensures.bad

pub returns-in-Some-clause-leads : goal.returns-in-Some-clause-leads
returns-in-Some-clause-leads c =
    let mid = c.loop-claim.tables in
    let new = c.step.new.tables in
    let claim = c.in-Some.claim in
    more_read (Created c.args.tables.now) (Created mid) (asked_stage new claim) c.args.script.now c.loop-claim.script c.step.new.script c.loop-claim.invariant
    (step_some mid new c.loop-claim.script c.step.new.script c.in_ok-claim.field-0 claim c.in-Some.is c.in_ok-claim.ensures.leads)

pub loop-claim-preserved : goal.loop-claim-preserved
loop-claim-preserved c =
    let mid = c.loop-claim.tables in
    let new = c.step.new.tables in
    more_read (Created c.args.tables.now) (Created mid) (Created new) c.args.script.now c.loop-claim.script c.step.new.script c.loop-claim.invariant
    (step_none mid new c.loop-claim.script c.step.new.script c.in_ok-claim.field-0 c.in_default.is c.in_ok-claim.ensures.leads)
