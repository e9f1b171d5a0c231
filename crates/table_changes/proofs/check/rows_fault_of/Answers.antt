use Rattle.std.proofs.Common.{sym, refl, length}
use Rattle.std.proofs.lemmas.Option.{slice_get_read}
use Rattle.cqa_value.specs.Valid.{IsValidRow}
use Rattle.cqa_model.specs.Database.{kinds_of}
use Rattle.refusals.proofs.Faults.{rows_more, rows_found}
use Rattle.table_changes.proofs.Columns.{read_more}
use Rattle.table_changes.proofs.check.rows_fault_of.Goals as goal

pub returns-in-Some-clause-is : goal.returns-in-Some-clause-is
returns-in-Some-clause-is c = sym (rows_found (kinds_of c.args.schema.now) c.loop-at.at c.args.rows.now c.index-rows-at.result c.loop-at.invariant.none (slice_get_read c.args.rows.now (length c.args.rows.now) c.loop-at.at c.index-rows-at.result refl c.loop-at-test.true c.index-rows-at.is) c.in-Some.fault (sym c.in-Some.ensures.is))

pub loop-at-preserved : goal.loop-at-preserved
loop-at-preserved c = record {
  none = rows_more (kinds_of c.args.schema.now) c.loop-at.at c.args.rows.now c.index-rows-at.result c.loop-at.invariant.none (slice_get_read c.args.rows.now (length c.args.rows.now) c.loop-at.at c.index-rows-at.result refl c.loop-at-test.true c.index-rows-at.is) (sym c.in_default.ensures.is);
  valid = read_more IsValidRow c.args.rows.now c.loop-at.at c.loop-at.invariant.valid c.loop-at-test.true c.index-rows-at.result c.index-rows-at.is (c.in_default.ensures.valid refl);
}
