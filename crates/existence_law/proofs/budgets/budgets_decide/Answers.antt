use Rattle.existence_law.proofs.Spending.{budgets_decide}
use Rattle.existence_law.proofs.budgets.budgets_decide.Goals as goal

pub returns : goal.returns
returns c = budgets_decide
