use Rattle.std.proofs.Common.{◌∷◌, [], length, ap, sym, subst, arith}
use Rattle.std.proofs.lemmas.List.{length-append}
use Rattle.plan_repair.specs.Apart.{AreEnough}
use Rattle.plan_repair.proofs.Apart.{enough-more}
use Rattle.plan_repair.proofs.way.enough_of.Goals as goal

pub loop-place-preserved : goal.loop-place-preserved
loop-place-preserved c =
    let enough = c.loop-place.enough.items in
    let e = ap length c.in_ok-push.ensures.items in
    let l = length-append c.loop-place.enough.items (c.enough_at.result ∷ []) in
    let s = c.loop-place.invariant.size in
    record {
      size = omega (arith, e, l, s);
      enough = subst (AreEnough c.args.setting.now.bound.now.query.now c.args.order.now) (sym c.in_ok-push.ensures.items)
          (enough-more c.args.setting.now.bound.now.query.now c.args.order.now enough c.loop-place.place c.enough_at.result s c.loop-place.invariant.enough c.enough_at.ensures);
    }
