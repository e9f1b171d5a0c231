use Rattle.std.proofs.Common.{[], sym, ◌∙◌}
use Rattle.plan_rows.proofs.Sharing.{none-right}
use Rattle.plan_repair.proofs.Apart.{some-none}
use Rattle.plan_repair.proofs.mending.mend_all.Goals as goal

pub mend_rest-mended-requires-clause-memo : goal.mend_rest-mended-requires-clause-memo
mend_rest-mended-requires-clause-memo c = none-right c.args.way.now.course.now c.over-memo.result c.over-memo.ensures

pub returns-clause-mended : goal.returns-clause-mended
returns-clause-mended c =
    λ e. some-none c.args.way.now.course.now.setting.bound.now.query.now c.args.way.now.course.now.setting.bound.now.db.now c.args.way.now.row.now c.mend_rest-mended.new.kept [] c.mend_rest-mended.result c.mend_rest-mended.ensures.mends.few c.mend_rest-mended.ensures.mends.mended (sym c.is_some.ensures ∙ e)

pub returns-clause-holds : goal.returns-clause-holds
returns-clause-holds c = λ e. c.mend_rest-mended.ensures.mends.holds (sym c.is_some.ensures ∙ e)
