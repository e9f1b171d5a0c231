use Rattle.std.proofs.Common.{drop, length, ◌≡◌}
use Rattle.cqa_model.specs.Naming.{AreClasses}
use Rattle.cqa_model.proofs.naming.classes.Given as goal

abbrev pub invariant-loop-k : goal.invariant-loop-k
invariant-loop-k l = record { size : length l.class ≡ 192; are : AreClasses (drop l.k l.conds) l.class }
