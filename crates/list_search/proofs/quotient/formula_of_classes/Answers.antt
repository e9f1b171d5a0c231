use Rattle.std.proofs.Common.{◌≡◌, length, arith}
use Rattle.row_lists.specs.Spans.{variables_of_spans}
use Rattle.row_lists.proofs.Spans.{variables-length}
use Rattle.list_search.proofs.quotient.formula_of_classes.Goals as goal

pub returns : goal.returns
returns c =
    let classed = c.in_ok-classed.classed in
    let long = variables-length 0 classed.rows.vars classed.rows.spans classed.rows.kept.based in
    let vars : classed.rows.vars ≡ length (variables_of_spans classed.rows.spans) = omega (arith, long) in
    (classed.rows.spans, c.in_ok-classed.ensures.rows, vars, (classed.classes.items, c.in_ok-classed.ensures.classes, c.in_ok-clauses.ensures))
