use Rattle.key_closure.proofs.Members.{none_in}
use Rattle.key_closure.proofs.variable_set.VarSet.new.Goals as goal

pub returns : goal.returns
returns c = λ k h. none_in 192 k h
