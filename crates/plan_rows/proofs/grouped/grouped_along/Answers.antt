use Rattle.std.proofs.Common.{◌∙◌}
use Rattle.plan_rows.proofs.Grouping.{ways-in}
use Rattle.plan_rows.proofs.grouped.grouped_along.Goals as goal

pub returns-then-are_behind-clause-ways : goal.returns-then-are_behind-clause-ways
returns-then-are_behind-clause-ways c =
    ways-in c.args.setting.now.bound.now.query.now c.args.setting.now.bound.now.db.now c.args.order.now c.in-Ok.other.items c.args.ways.now c.requires.ways
    (λ front rest F e. c.are_behind.ensures c.if-are_behind.true front rest F (c.as_slice.ensures.value ∙ e))
