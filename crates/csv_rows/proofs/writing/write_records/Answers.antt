use Rattle.std.proofs.Common.{◌≡◌, ◌++◌, ◌∷◌, ◌∙◌, ◌+◌, [], All, map, take, sym, ap, subst, arith}
use Rattle.std.proofs.lemmas.List.{flat_map_more, take_all, take_more}
use Rattle.std.proofs.lemmas.List.Elements.{All-nil, All-push}
use Rattle.csv.specs.Records.{fields_of}
use Rattle.csv.specs.Writing.{row_text}
use Rattle.cqa_value.specs.Valid.{IsValidRow}
use Rattle.csv_rows.specs.Texts.{quoting, record_bytes, rows_bytes, value_bytes, written}
use Rattle.csv_rows.proofs.Quoting.{record_is}
use Rattle.csv_rows.proofs.writing.write_records.Goals as goal

pub loop-row-init : goal.loop-row-init
loop-row-init c = (c.requires.setup, c.requires.between, c.requires.empty, All-nil IsValidRow)

pub loop-row-preserved : goal.loop-row-preserved
loop-row-preserved c =
    let inv = c.loop-row.invariant in
    let i = c.loop-row.row-index in
    let rows = c.args.rows.now in
    let row = c.row-item.result in
    let wrote = c.in_ok-write_record.ensures in
    let step : take (i + 1) rows ≡ take i rows ++ row ∷ [] = take_more rows i row c.loop-row-test.true ∙ ap (λ y. take i rows ++ y ∷ []) (sym c.row-item.is) in
    let text : row_text quoting (map value_bytes row) ≡ record_bytes (map value_bytes row) = record_is (map value_bytes row) in
    let old = written c.loop-row.writer in (
      wrote.setup,
      wrote.between,
      wrote.text ∙ ap (λ w. old ++ row_text w (fields_of c.set_record.new.fields)) inv.0 ∙ ap (λ f. old ++ row_text quoting f) c.in_ok-set_record.ensures.fields ∙ ap (λ t. old ++ t) text
          ∙ ap (λ t. t ++ record_bytes (map value_bytes row)) inv.2 ∙ flat_map_more (λ r. record_bytes (map value_bytes r)) [] (take i rows) row ∙ ap rows_bytes (sym step),
      subst (All IsValidRow) (sym step) (All-push IsValidRow (take i rows) row inv.3 c.in_ok-set_record.ensures.stored),
    )

pub returns-clause-text : goal.returns-clause-text
returns-clause-text c = c.loop-row.invariant.2 ∙ ap rows_bytes (take_all c.loop-row.row-index c.args.rows.now (omega (arith, c.loop-row-test.false)))

pub returns-clause-stored : goal.returns-clause-stored
returns-clause-stored c = subst (All IsValidRow) (take_all c.loop-row.row-index c.args.rows.now (omega (arith, c.loop-row-test.false))) c.loop-row.invariant.3
