use Rattle.std.proofs.Common.{ℕ, ◌<◌, Option, IfSome, arith, subst, sym, length, ◌∙◌}
use Rattle.std.proofs.lemmas.Bool.{false≢true}
use Rattle.fo_plan.proofs.Passing.{passed-on, passed-less}
use Rattle.fo_plan.proofs.Walked.{found-next, spot-behind}
use Rattle.fo_plan.proofs.enough.Blocks.looked_up.Goals as goal

pub loop-at-preserved : goal.loop-at-preserved
loop-at-preserved c =
    let low = c.loop-at.invariant.low in
    let later = c.after-at.ensures.later in
    record {
      low = omega (arith, low, later);
      passed = passed-on c.args.self.now c.args.spot.now.place c.loop-at.at c.after-at.result c.loop-at.invariant.passed (λ f. false≢true (sym c.if-begins_block.false ∙ c.begins_block.ensures.1 f)) c.after-at.ensures.none;
      spot = c.loop-at.invariant.spot;
    }

pub taken_at-requires-clause-begins : goal.taken_at-requires-clause-begins
taken_at-requires-clause-begins c = c.begins_block.ensures.0 c.if-begins_block.true

pub returns-then-begins_block-clause-spot : goal.returns-then-begins_block-clause-spot
returns-then-begins_block-clause-spot c =
    let t = c.taken_at.ensures in
    spot-behind c.args.self.now c.loop-at.at c.taken_at.new.spot c.taken_at.result t.next t.within
    (subst (λ (o : Option ℕ). IfSome o (λ at. at < c.taken_at.new.spot.place)) (sym t.last) (let low = t.next.low in let high = t.next.high in let h : c.loop-at.at < c.taken_at.new.spot.place = omega (arith, low, high) in h))
    t.rest t.begins

pub returns-then-begins_block-clause-next : goal.returns-then-begins_block-clause-next
returns-then-begins_block-clause-next c =
    found-next c.args.self.now c.args.spot.now.place c.loop-at.at c.taken_at.new.spot.place c.taken_at.result c.loop-at.invariant.low c.loop-at.invariant.passed c.taken_at.ensures.next

pub returns-clause-spot : goal.returns-clause-spot
returns-clause-spot c = c.loop-at.invariant.spot

pub returns-clause-next : goal.returns-clause-next
returns-clause-next c =
    let ended = c.loop-at-test.false in
    let count = c.len.ensures in
    passed-less c.args.self.now c.args.spot.now.place c.loop-at.at (length c.args.self.now.rows) c.loop-at.invariant.passed (omega (arith, ended, count))
