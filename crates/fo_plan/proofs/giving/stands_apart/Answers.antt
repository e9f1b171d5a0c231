use Rattle.std.proofs.Common.{◌-◌, ◌∙◌, length, refl, sym, arith}
use Rattle.plan_rows.specs.Taking.{placed}
use Rattle.fo_plan.proofs.Barren.{apart-at}
use Rattle.fo_plan.proofs.giving.stands_apart.Goals as goal

pub returns-then-place-gt0 : goal.returns-then-place-gt0
returns-then-place-gt0 c =
    let rest = c.args.rest.now in
    apart-at rest.course.now (placed rest.taken.now) rest.plan.now c.as_slice.result.now c.index-course-place.result (length rest.course.now.order.now - length rest.plan.now) c.is_empty.result
    rest.underway refl (omega (arith, c.if-place-course.false)) c.index-course-place.is (c.as_slice.ensures ∙ sym c.index-course-place.is) c.is_empty.ensures
