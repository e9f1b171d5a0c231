use Rattle.std.proofs.Common.{◌<◌, ◌∙◌, get_or, sym, ap, arith, length}
use Rattle.cqa_value.specs.Valid.{IsValidValue}
use Rattle.cqa_model.specs.Database.{kinds_of}
use Rattle.refusals.proofs.Faults.{kind_more, kind_found, value_read}
use Rattle.table_changes.proofs.Columns.{read_more, kind_read}
use Rattle.table_changes.proofs.check.kind_fault_of.Goals as goal

pub returns-in-Some-clause-is : goal.returns-in-Some-clause-is
returns-in-Some-clause-is c =
    let t = c.loop-at-test.true in
    let long = ap length c.as_slice-value-items.ensures in
    sym (kind_found c.args.number c.loop-at.at (kinds_of c.args.schema.now) c.args.row.now c.index-columns-at.result.kind c.value-item.result c.loop-at.invariant.none
    (kind_read c.args.schema.now.columns c.as_slice-columns.result.now c.loop-at.at c.index-columns-at.result c.as_slice-columns.ensures (omega (arith, t, long, c.requires)) c.index-columns-at.is)
    (value_read c.args.row.now c.as_slice-value-items.result.now c.loop-at.at c.value-item.result c.as_slice-value-items.ensures (omega (arith, t, long)) c.value-item.is)
    c.in-Some.fault (sym c.in-Some.ensures.is))

pub loop-at-preserved : goal.loop-at-preserved
loop-at-preserved c =
    let t = c.loop-at-test.true in
    let long = ap length c.as_slice-value-items.ensures in
    let there : c.loop-at.at < length c.args.row.now = omega (arith, t, long) in
    record {
      none = kind_more c.args.number c.loop-at.at (kinds_of c.args.schema.now) c.args.row.now c.index-columns-at.result.kind c.value-item.result c.loop-at.invariant.none
          (kind_read c.args.schema.now.columns c.as_slice-columns.result.now c.loop-at.at c.index-columns-at.result c.as_slice-columns.ensures (omega (arith, t, long, c.requires)) c.index-columns-at.is)
          (value_read c.args.row.now c.as_slice-value-items.result.now c.loop-at.at c.value-item.result c.as_slice-value-items.ensures (omega (arith, t, long)) c.value-item.is)
          (sym c.in_default.ensures.is);
      valid = read_more IsValidValue c.args.row.now c.loop-at.at c.loop-at.invariant.valid there c.value-item.result (c.value-item.is ∙ ap (λ l. get_or l c.loop-at.at c.value-item.result) c.as_slice-value-items.ensures) c.in_default.ensures.valid;
    }
