-- The formula of a row has no more variables than the tables have rows, so its numbers can be written.
use Rattle.std.proofs.Common.{length}
use Rattle.cqa_model.specs.Query.{atom_at}
use Rattle.row_lists.proofs.Written.{few-variables, few_writable}
use Rattle.repair_clauses.specs.Laws.{FormulaIsWritable}
use Rattle.repair_clauses.proofs.Order.{clauses_rise}

pub formula_is_writable : FormulaIsWritable
formula_is_writable db q row e valid h few_clauses =
    let v = h.is.variables in
    let vars = h.formula.variables in
    few_writable db valid e.cnf (length vars) _ (few-variables db (λ F. (atom_at q F).table) vars v.in_order (λ x m. ((v.exactly x).0 m).0.1)
    (λ x y mx my e. q.kept.apart x.slot y.slot ((v.exactly x).0 mx).0.0 ((v.exactly y).0 my).0.0 e)) h.vars h.are (clauses_rise db q row h.formula h.is) few_clauses
