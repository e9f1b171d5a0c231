use Rattle.std.proofs.Common.{codes}
use Rattle.cqa_value.specs.Literals.{row_bytes}
use Rattle.csv_rows.proofs.Parting.{appended}
use Rattle.csv_rows.proofs.table.append_insert.Goals as goal

pub returns : goal.returns
returns c =
    appended c.args.out.now.items (codes "insert into ") c.args.name.now (codes " values ") (row_bytes c.args.row.now) (codes ";\n")
    c.extend_from_slice.new.self.items c.extend_from_slice-2.new.self.items c.extend_from_slice-3.new.self.items c.row_text.new.out.items c.extend_from_slice-4.new.self.items
    c.in_ok-extend_from_slice.ensures.items (rw c.bytes.ensures at c.in_ok-extend_from_slice-2.ensures.items) c.in_ok-extend_from_slice-3.ensures.items c.in_ok-row_text.ensures.ok c.in_ok-extend_from_slice-4.ensures.items
