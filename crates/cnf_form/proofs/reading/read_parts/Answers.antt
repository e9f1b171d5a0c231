use Rattle.std.proofs.Common.{◌∙◌, sym, ap, arith, refl}
use Rattle.cnf_form.specs.Lines.{lines}
use Rattle.cnf_form.specs.Formulas.{lrat_line}
use Rattle.cnf_form.proofs.ReadLines.{end_drop, end_of_end, whole_clauses, whole_done}
use Rattle.cnf_form.proofs.reading.read_parts.Goals as goal

pub returns-in-Done : goal.returns-in-Done
returns-in-Done c =
    let f = c.in-Found.ensures in
    let r = rw c.in-Done.is at c.in_ok-line-in-Found.ensures in
    let e = end_of_end c.args.bytes.now c.in-Found.text.now c.in-Done.rest.now f.1.end r.3 in (
      whole_done c.in-Found.header.vars (lrat_line 1 (lines c.args.bytes.now)) c.args.bytes.now _ _ (f.1.has ∙ r.1) (f.0 (lrat_line 1 (lines c.args.bytes.now))) (whole_clauses c.in-Found.header.vars (lrat_line c.in-Found.number (lines c.in-Found.text.now)) (lrat_line 1 (lines c.args.bytes.now)) c.in-Found.header.count _ c.new-in-Found.result.items c.read_body.new.body.clauses.items c.from_vec.result c.new.result.items c.new-in-Found.ensures.items c.new.ensures.items f.1.line c.from_vec.ensures r.0) refl,
      ap lines (end_drop c.args.bytes.now c.in-Done.rest.now e) ∙ r.2 ∙ sym f.1.after,
      omega arith,
    )
