use Rattle.std.proofs.Common.{Contains, take}
use Rattle.cqa_model.specs.declared.query.Cond.{Cond}
use Rattle.cqa_model.specs.declared.query.ColRef.{ColRef}
use Rattle.cqa_model.specs.Shape.{columns_of}
use Rattle.part_search.specs.Spoken.{HasColumn}
use Rattle.part_search.proofs.spoken.add_tested.Given as goal

-- the columns of the conditions so far are there
abbrev pub invariant-loop-cond : goal.invariant-loop-cond
invariant-loop-cond l = (k : Cond) → Contains (take l.cond-index l.conds) k → (c : ColRef) → Contains (columns_of k) c → HasColumn l.atom l.columns.items c
