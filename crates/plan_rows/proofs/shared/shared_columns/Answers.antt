use Rattle.std.proofs.Common.{◌∷◌, [], length, ap, sym, subst, arith}
use Rattle.std.proofs.lemmas.List.{length-append}
use Rattle.plan_rows.specs.Left.{AreSharedInParts}
use Rattle.plan_rows.proofs.Columns.{shared-more}
use Rattle.plan_rows.proofs.shared.shared_columns.Goals as goal

pub loop-count-preserved : goal.loop-count-preserved
loop-count-preserved c =
    let shared = c.loop-count.shared.items in
    let columns = c.in_ok-shared_of.field-0 in
    let e = ap length c.in_ok-push.ensures.items in
    let l = length-append c.loop-count.shared.items (c.in_ok-shared_of.field-0 ∷ []) in
    let s = c.loop-count.invariant.size in
    record {
      size = omega (arith, e, l, s);
      shared = subst (AreSharedInParts c.args.setting.now.bound.now.query.now c.args.order.now) (sym c.in_ok-push.ensures.items)
          (shared-more c.args.setting.now.bound.now.query.now c.args.order.now shared columns c.loop-count.count c.split_at.result.0.now c.split_at.result.1.now c.loop-count.invariant.size c.split_at.ensures.front c.split_at.ensures.back c.loop-count.invariant.shared c.in_ok-shared_of.ensures);
    }
