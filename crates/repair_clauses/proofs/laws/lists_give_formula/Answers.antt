use Rattle.repair_clauses.proofs.Bridge
use Rattle.repair_clauses.proofs.laws.lists_give_formula.Goals as goal

pub returns : goal.returns
returns c = Bridge.lists_give_formula
