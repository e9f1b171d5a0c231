use Rattle.std.proofs.Common.{◌+◌, refl, sym, ap, arith, length}
use Rattle.refusals.proofs.Faults.{kind_more, kind_found, value_read}
use Rattle.query_resolve.specs.Checks.{answer_kinds}
use Rattle.query_resolve.proofs.AnswerColumns.{mismatch}
use Rattle.query_resolve.proofs.answer.kind_fault_of.Goals as goal

pub returns-in-Some : goal.returns-in-Some
returns-in-Some c =
    let t = c.loop-at-test.true in
    let long = ap length c.as_slice-value-items.ensures in
    sym (kind_found 1 c.loop-at.at (answer_kinds c.args.bound.now.db.now c.args.bound.now.query.now) c.args.row.now c.answer_kind-kind.result c.value-item.result c.loop-at.invariant c.answer_kind-kind.ensures
    (value_read c.args.row.now c.as_slice-value-items.result.now c.loop-at.at c.value-item.result c.as_slice-value-items.ensures (omega (arith, t, long)) c.value-item.is)
    c.in-Some.fault (sym (mismatch _ c.kind.result c.answer_kind-kind.result c.value-item.result (c.loop-at.at + 1) c.loop-at.at c.in-Some.ensures c.kind.ensures.is refl)))

pub loop-at-preserved : goal.loop-at-preserved
loop-at-preserved c =
    let t = c.loop-at-test.true in
    let long = ap length c.as_slice-value-items.ensures in
    kind_more 1 c.loop-at.at (answer_kinds c.args.bound.now.db.now c.args.bound.now.query.now) c.args.row.now c.answer_kind-kind.result c.value-item.result c.loop-at.invariant c.answer_kind-kind.ensures
    (value_read c.args.row.now c.as_slice-value-items.result.now c.loop-at.at c.value-item.result c.as_slice-value-items.ensures (omega (arith, t, long)) c.value-item.is)
    (sym (mismatch _ c.kind.result c.answer_kind-kind.result c.value-item.result (c.loop-at.at + 1) c.loop-at.at c.in_default.ensures c.kind.ensures.is refl))
