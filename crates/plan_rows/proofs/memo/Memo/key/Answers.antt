use Rattle.std.proofs.Common.{◌-◌, ◌∙◌, sym, length, refl, arith}
use Rattle.plan_rows.specs.Taking.{placed}
use Rattle.plan_rows.proofs.Sharing.{key-made}
use Rattle.plan_rows.proofs.memo.Memo.key.Goals as goal

pub returns : goal.returns
returns c =
    let rest = c.args.rest.now in
    key-made rest.course.now (placed rest.taken.now) rest.plan.now c.args.row.now c.as_slice-columns.result.now c.index-course-place.result (length rest.course.now.order.now - length rest.plan.now) c.are_settled-settled.result c.memo_key.result
    rest.underway refl (omega (arith, c.if-place-course.false)) c.index-course-place.is (c.as_slice-columns.ensures ∙ sym c.index-course-place.is) c.are_settled-settled.ensures c.memo_key.ensures
