use Rattle.repair_clauses.proofs.Written
use Rattle.repair_clauses.proofs.laws.formula_is_writable.Goals as goal

pub returns : goal.returns
returns c = Written.formula_is_writable
