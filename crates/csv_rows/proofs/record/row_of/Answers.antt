use Rattle.std.proofs.Common.{◌≡◌, ◌++◌, ◌∷◌, ◌∙◌, ◌+◌, ◌≤◌, [], suc, take, length, sym, subst, arith, refl}
use Rattle.std.proofs.lemmas.List.{length-append, length-map, take_all}
use Rattle.csv.specs.Records.{fields_of}
use Rattle.csv_rows.specs.Blocks.{IsRecordOf, kinds}
use Rattle.csv_rows.proofs.Records.{field_count, field_there, field_value, record_more}
use Rattle.csv_rows.proofs.record.row_of.Goals as goal

pub returns-then-len-columns : goal.returns-then-len-columns
returns-then-len-columns c = λ row h. c.if-len-columns.true (c.len.ensures ∙ field_count c.args.columns.now (fields_of c.args.fields.now) row h)

pub loop-at-init : goal.loop-at-init
loop-at-init c = record {
  is = rw c.in_ok-row.ensures tt;
  count = rw c.in_ok-row.ensures refl;
  within = omega arith;
}

pub push-requires : goal.push-requires
push-requires c = let inv = c.loop-at.invariant in omega (arith, inv.count, c.loop-at-test.true, c.requires)

pub returns-in_default : goal.returns-in_default
returns-in_default c = λ row h. field_there (fields_of c.args.fields.now) c.loop-at.at
    (omega (arith, c.loop-at-test.true, c.if-len-columns.false, c.len.ensures)) (sym c.in_default.ensures.value)

pub returns-in_default-2 : goal.returns-in_default-2
returns-in_default-2 c =
    let none = rw c.in_default-2.is at c.in_ok-value.ensures in
    λ row h. let found = field_value c.args.columns.now (fields_of c.args.fields.now) row c.loop-at.at c.index-columns-at.result c.index-columns-at.result c.in-Some.field.now h
    c.loop-at-test.true (sym c.index-columns-at.is) (sym c.in-Some.ensures.value) in
    none found.0 found.1

pub loop-at-preserved : goal.loop-at-preserved
loop-at-preserved c =
    let inv = c.loop-at.invariant in
    let i = c.loop-at.at in
    let value = c.in-Some-2.value in
    let is = rw c.in-Some-2.is at c.in_ok-value.ensures in
    let next : suc i ≡ i + 1 = omega arith in
    let more = record_more c.args.columns.now (fields_of c.args.fields.now) c.loop-at.row i c.index-columns-at.result c.index-columns-at.result c.in-Some.field.now value
    c.loop-at-test.true (sym c.index-columns-at.is) (sym c.in-Some.ensures.value) is inv.is in
    let pushed = c.in_ok-push.ensures.ok in
    record {
      is = rw pushed (subst (λ n. IsRecordOf (take n (kinds c.args.columns.now)) (take n (fields_of c.args.fields.now)) (c.loop-at.row ++ value ∷ [])) next more);
      count = rw pushed (omega (arith, length-append c.loop-at.row (value ∷ []), inv.count));
      within = omega (arith, c.loop-at-test.true);
    }

pub returns : goal.returns
returns c =
    let columns = kinds c.args.columns.now in
    let fields = fields_of c.args.fields.now in
    let past : length c.args.columns.now ≤ c.loop-at.at = omega (arith, c.loop-at-test.false) in
    let all_columns = take_all c.loop-at.at columns (omega (arith, past, length-map c.args.columns.now (λ column. column.kind))) in
    let all_fields = take_all c.loop-at.at fields (omega (arith, past, c.if-len-columns.false, c.len.ensures)) in
    (subst (λ x. IsRecordOf x fields c.loop-at.row) all_columns (subst (λ x. IsRecordOf (take c.loop-at.at columns) x c.loop-at.row) all_fields c.loop-at.invariant.is))
