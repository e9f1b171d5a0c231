use Rattle.std.proofs.Common.{◌++◌, ◌∙◌, codes, ap, sym}
use Rattle.std.proofs.lemmas.List.{append-nil}
use Rattle.csv_rows.specs.Ends.{plain_rows}
use Rattle.csv_rows.specs.Texts.{rows_bytes}
use Rattle.csv_rows.proofs.Parting.{appended, copy_none, copy_some}
use Rattle.csv_rows.proofs.table.append_copy.Goals as goal

pub returns-then-not-has_plain : goal.returns-then-not-has_plain
returns-then-not-has_plain c =
    let old = c.args.out.now.items in
    sym (ap (λ l. old ++ l) (copy_none c.args.name.now c.args.rows.now (sym c.has_plain.ensures ∙ c.if-not-has_plain.true)) ∙ append-nil old)

pub returns : goal.returns
returns c =
    let old = c.args.out.now.items in
    let copy = copy_some c.args.name.now c.args.rows.now (sym c.has_plain.ensures ∙ c.if-not-has_plain.false) in
    appended old (codes "copy ") c.args.name.now (codes ";\n") (rows_bytes (plain_rows c.args.rows.now)) (codes "\\.\n")
    c.extend_from_slice.new.self.items c.extend_from_slice-2.new.self.items c.extend_from_slice-3.new.self.items c.append_records.new.out.items c.extend_from_slice-4.new.self.items
    c.in_ok-extend_from_slice.ensures.items (rw c.bytes.ensures at c.in_ok-extend_from_slice-2.ensures.items) c.in_ok-extend_from_slice-3.ensures.items c.in_ok-append_records.ensures c.in_ok-extend_from_slice-4.ensures.items ∙ ap (λ l. old ++ l) (sym copy)
