use Rattle.std.proofs.Common.{◌∙◌, sym, below_more, arith}
use Rattle.std.proofs.lemmas.Bool.{false≢true}
use Rattle.key_closure.specs.Sets.{HasAtom}
use Rattle.plan_rows.specs.Grouping.{AreUnlinked}
use Rattle.plan_rows.proofs.grouped.is_joined.Goals.{else-has-via-then-has+else-are_joined, else-has-via-else-has}
use Rattle.plan_rows.proofs.grouped.is_joined.Goals as goal

pub loop-other-preserved : goal.loop-other-preserved
loop-other-preserved c =
    let q = c.args.bound.now.query.now in
    let group = c.args.group.now in
    below_more (λ F. HasAtom group F → AreUnlinked q F c.args.atom) c.loop-other.other c.loop-other.invariant
    (λ h. elim c.else-has.branch [
      | else-has-via-then-has+else-are_joined w ↦ w.are_joined.ensures w.if-are_joined.false
      | else-has-via-else-has w ↦ absurd (false≢true (sym w.if-has.false ∙ c.has.ensures.1 h))
    ])

pub returns : goal.returns
returns c = λ f F l h. c.loop-other.invariant F (omega (arith, c.loop-other-test.false, c.loop-other.auto.other-end, c.len-other-end.ensures, l)) h
