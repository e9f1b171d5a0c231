use Rattle.std.proofs.Common.{arith}
use Rattle.std.proofs.lemmas.Grind.{common_steps}
use Rattle.cqa_model.proofs.Labels.{relabel-hit, relabel-miss}
use Rattle.cqa_model.proofs.naming.join.Goals as goal

pub loop-c-preserved : goal.loop-c-preserved
loop-c-preserved c = grind (arith, common_steps, relabel-hit, relabel-miss)
