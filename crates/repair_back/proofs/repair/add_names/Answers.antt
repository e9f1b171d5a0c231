use Rattle.repair_back.proofs.Naming.{named-set, named-clear, named-all}
use Rattle.std.proofs.Common.{◌<◌, arith, sym, subst, ◌∙◌}
use Rattle.repair_back.proofs.repair.add_names.Goals as goal

pub loop-place-preserved-then-not-has : goal.loop-place-preserved-then-not-has
loop-place-preserved-then-not-has c =
    named-clear c.args.table c.args.names.now.items c.args.choice.now c.loop-place.place (subst (λ n. c.loop-place.place < n) (sym c.requires.size) c.loop-place-test.true) c.loop-place.names.items c.loop-place.invariant
    (sym c.has.ensures ∙ c.if-not-has.true)

pub loop-place-preserved : goal.loop-place-preserved
loop-place-preserved c =
    c.in_ok-push.ensures.items ∙
    named-set c.args.table c.args.names.now.items c.args.choice.now c.loop-place.place (subst (λ n. c.loop-place.place < n) (sym c.requires.size) c.loop-place-test.true) c.loop-place.names.items c.loop-place.invariant
    (sym c.has.ensures ∙ c.if-not-has.false)

pub returns : goal.returns
returns c = named-all c.args.table c.args.names.now.items c.args.choice.now c.loop-place.place c.loop-place.names.items (omega (arith, c.loop-place-test.false, c.requires.size)) c.loop-place.invariant
