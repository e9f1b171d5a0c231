use Rattle.std.proofs.Common.{subst, Bool, true, false}
use Rattle.cnf_form.specs.declared.formula.Lit.{Lit}
use Rattle.lrat_check.specs.Marks.{HoldIs}
use Rattle.lrat_check.proofs.Shown.{assume_more, assume_end, both_signs}
use Rattle.lrat_check.proofs.marks.Marks.assume.Goals as goal

pub returns-then-not-branch : goal.returns-then-not-branch
returns-then-not-branch c = both_signs _ _ c.loop-lit.lit-index (record { var = 0; positive = false }) c.loop-lit-test.true c.loop-lit.invariant
    (subst (λ (l : Lit). HoldIs c.loop-lit.self c.hold.new.self l false) c.opposite.ensures
    (subst (λ (b : Bool). HoldIs c.loop-lit.self c.hold.new.self c.opposite.result b) c.if-not-branch.true c.in_ok-hold.ensures))

pub loop-lit-preserved : goal.loop-lit-preserved
loop-lit-preserved c =
    assume_more _ _ _ c.loop-lit.lit-index (record { var = 0; positive = false }) c.loop-lit-test.true c.loop-lit.invariant
    (subst (λ (l : Lit). HoldIs c.loop-lit.self c.hold.new.self l true) c.opposite.ensures
    (subst (λ (b : Bool). HoldIs c.loop-lit.self c.hold.new.self c.opposite.result b) c.if-not-branch.false c.in_ok-hold.ensures))

pub returns : goal.returns
returns c = assume_end _ _ _ c.loop-lit-test.false c.loop-lit.invariant
