use Rattle.std.proofs.Common.{Err, ap, ◌∙◌}
use Rattle.csv_rows.proofs.Fields.{no_name, no_text}
use Rattle.csv_rows.proofs.field.value_of.Goals as goal

pub returns-in-Err-Refused : goal.returns-in-Err-Refused
returns-in-Err-Refused c = λ value h. no_text c.args.kind c.args.field.now value c.in-Text.is
    (no_name c.from_bytes.result c.args.field.now c.in-Err-Refused.field-0-0 (c.in-Err-Refused.is ∙ ap Err c.in-Err-Refused.field-0-is) c.from_bytes.ensures.not_utf8 c.from_bytes.ensures.too_long) h
