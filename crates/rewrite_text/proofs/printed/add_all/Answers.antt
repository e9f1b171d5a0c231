use Rattle.std.proofs.lemmas.Result.{on_ok_weaker}
use Rattle.rewrite_text.proofs.Drafting.{over_more_so, refused_on}
use Rattle.rewrite_text.proofs.Printing.{certified, long_head, long_blocks}
use Rattle.rewrite_text.proofs.printed.add_all.Goals as goal

pub returns-clause-text : goal.returns-clause-text
returns-clause-text c =
    on_ok_weaker c.add_blocks.result (λ tree. certified c.args.course.now.setting.bound.now.db.now c.args.course.now.setting.bound.now.query.now c.args.row.now c.args.course.now.order.now c.args.draft.now c.add_head.new.draft c.add_blocks.new.draft c.requires.line c.in_ok-add_head.ensures.ok tree) c.add_blocks.ensures.made

pub returns-clause-over : goal.returns-clause-over
returns-clause-over c =
    over_more_so (long_blocks c.args.course.now.setting.bound.now.db.now c.args.course.now.setting.bound.now.query.now c.args.row.now c.args.course.now.order.now c.args.course.now.setting.bound.now.database c.args.course.now.setting.bound.now.fits c.args.course.now.atoms c.requires.holds c.args.draft.now c.add_head.new.draft c.requires.line c.in_ok-add_head.ensures.ok)
    c.add_blocks.result c.add_blocks.ensures.over

pub returns-in_err-add_head-clause-over : goal.returns-in_err-add_head-clause-over
returns-in_err-add_head-clause-over c =
    refused_on (long_head c.args.course.now.setting.bound.now.db.now c.args.course.now.setting.bound.now.query.now c.args.row.now c.args.course.now.order.now c.args.course.now.setting.bound.now.database c.args.course.now.setting.bound.now.fits c.args.course.now.atoms c.requires.holds c.args.draft.now c.requires.line)
    c.from_residual.result c.in_err-add_head.field-0.0 c.from_residual.ensures.1 c.in_err-add_head.ensures.over
