use Rattle.cqa_model.proofs.Cycles
use Rattle.cqa_model.proofs.laws.plan_or_cycle.Goals as goal

pub returns : goal.returns
returns c = Cycles.plan_or_cycle
