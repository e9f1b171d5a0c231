use Rattle.std.proofs.Common.{List, get_or, pos, subst}
use Rattle.cnf_form.specs.declared.formula.Lit.{Lit}
use Rattle.lrat_check.specs.declared.following.Follow.{Follow}
use Rattle.lrat_check.specs.Marks.{Shows}
use Rattle.lrat_check.specs.Store.{live_of}
use Rattle.lrat_check.specs.Following.{FollowIs}
use Rattle.lrat_check.proofs.Followed.{along_more, along_pass, along_fail, along_end}
use Rattle.lrat_check.proofs.following.follow_all.Goals as goal

pub returns-in-Pass : goal.returns-in-Pass
returns-in-Pass c = along_pass _ _ _ c.follow_one.new.marks _ c.loop-hint.hint-index c.loop-hint-test.true c.loop-hint.invariant
    (subst (λ (f : Follow). (held : List Lit) → Shows c.loop-hint.marks held → FollowIs (live_of c.args.store.now) held (get_or c.args.hints.now c.loop-hint.hint-index (pos 0)) c.follow_one.new.marks f)
    c.in-Pass.is c.in_ok-follow_one.ensures)

pub returns-in-Fail : goal.returns-in-Fail
returns-in-Fail c = along_fail _ _ _ c.follow_one.new.marks _ c.loop-hint.hint-index c.in-Fail.cause c.loop-hint-test.true c.loop-hint.invariant
    (subst (λ (f : Follow). (held : List Lit) → Shows c.loop-hint.marks held → FollowIs (live_of c.args.store.now) held (get_or c.args.hints.now c.loop-hint.hint-index (pos 0)) c.follow_one.new.marks f)
    c.in-Fail.is c.in_ok-follow_one.ensures)

pub loop-hint-preserved : goal.loop-hint-preserved
loop-hint-preserved c =
    along_more _ _ _ c.follow_one.new.marks _ c.loop-hint.hint-index c.loop-hint-test.true c.loop-hint.invariant
    (subst (λ (f : Follow). (held : List Lit) → Shows c.loop-hint.marks held → FollowIs (live_of c.args.store.now) held (get_or c.args.hints.now c.loop-hint.hint-index (pos 0)) c.follow_one.new.marks f)
    c.in-On.is c.in_ok-follow_one.ensures)

pub returns : goal.returns
returns c = along_end _ _ _ _ c.loop-hint.hint-index c.loop-hint-test.false c.loop-hint.invariant
