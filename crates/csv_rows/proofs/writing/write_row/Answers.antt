use Rattle.std.proofs.Common.{◌++◌, ◌∙◌, map, ap}
use Rattle.std.proofs.lemmas.Result.{on_ok_weaker}
use Rattle.csv.specs.Writing.{row_text}
use Rattle.csv.specs.Records.{fields_of}
use Rattle.csv_rows.specs.Texts.{quoting, value_bytes, written}
use Rattle.csv_rows.proofs.Quoting.{record_is}
use Rattle.csv_rows.proofs.writing.write_row.Goals as goal

pub returns-clause-text : goal.returns-clause-text
returns-clause-text c =
    let old = written c.args.writer.now in
    let fields = map value_bytes c.args.row.now in
    on_ok_weaker c.write_record.result (λ text. text ∙ ap (λ w. old ++ row_text w (fields_of c.set_record.new.fields)) c.requires.setup ∙ ap (λ f. old ++ row_text quoting f) c.in_ok-set_record.ensures.fields ∙ ap (λ t. old ++ t) (record_is fields)) c.write_record.ensures.text
