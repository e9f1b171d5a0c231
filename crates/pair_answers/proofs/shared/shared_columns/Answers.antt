use Rattle.std.proofs.Common.{◌+◌, ◌<◌, length, ap, subst, sym, ◌∙◌, arith, true≢false}
use Rattle.std.proofs.lemmas.List.{length_push}
use Rattle.cqa_model.specs.Query.{atom_at}
use Rattle.cqa_model.proofs.ClassNames.{untold}
use Rattle.pair_answers.specs.Shared.{AreSharedSoFar}
use Rattle.pair_answers.proofs.Sharing.{shared-more, shared-less, shared-row, shared-end}
use Rattle.pair_answers.proofs.shared.shared_columns.Goals as goal
use Rattle.pair_answers.proofs.shared.shared_columns.Goals.{then-linked+in_ok-push, else-linked}

pub loop-j-preserved : goal.loop-j-preserved
loop-j-preserved c =
    let q = c.args.pair.now.bound.now.query.now in
    let li : c.loop-i.i < (atom_at q 0).width = (let t = c.loop-i-test.true in let w = c.width_of-left_width.ensures in omega arith) in
    let lj : c.loop-j.j < (atom_at q 1).width = (let t = c.loop-j-test.true in let w = c.width_of-right_width.ensures in omega arith) in
    let few = c.loop-j.invariant.few in
    elim (c.if-linked.branch) [
      | then-linked+in_ok-push w ↦ record {
        shared = subst (λ z. AreSharedSoFar q z.items c.loop-i.i (c.loop-j.j + 1)) (sym w.cols-is)
            (subst (λ z. AreSharedSoFar q z c.loop-i.i (c.loop-j.j + 1)) (sym w.in_ok-push.ensures.items)
            (shared-more q c.loop-j.cols.items c.loop-i.i c.loop-j.j c.loop-j.invariant.shared li lj (c.are_linked-linked.ensures.0 w.if-linked.true)));
        few = let e = ap (λ z. length z.items) w.cols-is in let m = ap length w.in_ok-push.ensures.items in let k = length_push c.loop-j.cols.items (record { left = c.loop-i.i; right = c.loop-j.j }) in omega (arith, e, m, k, few);
      }
      | else-linked w ↦ record {
        shared = subst (λ z. AreSharedSoFar q z.items c.loop-i.i (c.loop-j.j + 1)) (sym w.cols-is)
            (shared-less q c.loop-j.cols.items c.loop-i.i c.loop-j.j c.loop-j.invariant.shared li lj (λ l. true≢false (sym (c.are_linked-linked.ensures.1 l) ∙ w.if-linked.false)));
        few = let e = ap (λ z. length z.items) w.cols-is in omega (arith, e, few);
      }
    ]

pub loop-i-preserved : goal.loop-i-preserved
loop-i-preserved c =
    let q = c.args.pair.now.bound.now.query.now in
    let t = c.loop-j-test.false in
    let w = c.width_of-right_width.ensures in
    let wide = (q.kept.each 1 (let two = c.args.pair.now.two in omega (arith, two))).width.1 in
    let j = c.loop-j.auto.j-end in
    let few = c.loop-j.invariant.few in
    record {
      shared = shared-row q c.loop-j.cols.items c.loop-i.i c.loop-j.j (omega (arith, t, w)) c.loop-j.invariant.shared;
      few = omega (arith, few, wide, j, w);
    }

pub returns-clause-shared : goal.returns-clause-shared
returns-clause-shared c = shared-end c.args.pair.now.bound.now.query.now c.loop-i.cols.items c.loop-i.i (let t = c.loop-i-test.false in let w = c.width_of-left_width.ensures in omega arith) c.loop-i.invariant.shared

pub returns-clause-few : goal.returns-clause-few
returns-clause-few c =
    let few = c.loop-i.invariant.few in
    let wide = (c.args.pair.now.bound.now.query.now.kept.each 0 (let two = c.args.pair.now.two in omega (arith, two))).width.1 in
    let w = c.width_of-left_width.ensures in
    let i = c.loop-i.auto.i-end in
    omega (arith, few, wide, w, i)

pub are_linked-linked-requires-clause-variables : goal.are_linked-linked-requires-clause-variables
are_linked-linked-requires-clause-variables c = let bound = c.args.pair.now.bound.now in untold bound.query.now bound.variables bound.named
