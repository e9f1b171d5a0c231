use Rattle.std.proofs.Common.{◌-◌, length, refl}
use Rattle.std.proofs.Math.Logic.{∥∥₁_elim}
use Rattle.std.proofs.Props.{props}
use Rattle.plan_repair.proofs.Apart.{apart-at, apart-all}
use Rattle.plan_repair.proofs.way.enough_for.Goals as goal

pub returns-then-place-way : goal.returns-then-place-way
returns-then-place-way c =
    let way = c.args.way.now in
    let order = way.course.now.order.now in
    ∥∥₁_elim way.known (hlevel props) (λ enough. ∣ apart-at way.course.now.setting.bound.now.query.now order c.args.plan.now way.enough.now (length order - length c.args.plan.now) _ enough refl c.if-place-way.true refl ∣₁)

pub returns : goal.returns
returns c =
    let order = c.args.way.now.course.now.order.now in
    ∣ apart-all c.args.way.now.course.now.setting.bound.now.query.now order c.args.plan.now (length order - length c.args.plan.now) refl ∣₁
