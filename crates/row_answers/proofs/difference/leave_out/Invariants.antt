use Rattle.std.proofs.Common.{List, Contains, take, drop}
use Rattle.std.specs.Vec.Iter.{into_iter_items}
use Rattle.cqa_value.specs.declared.value.Value.{Value}
use Rattle.row_answers.proofs.Sieving.{AreDone}
use Rattle.row_answers.proofs.difference.leave_out.Given as goal

-- the rows so far are sifted; of the others those from the place on are still to come, and no row before it
abbrev pub invariant-loop-row : goal.invariant-loop-row
invariant-loop-row l = record {
  sifted : AreDone (λ row. Contains l.fn.others row → ⊥) (into_iter_items l.initial.row-iterator) l.left.items (into_iter_items l.row-iterator);
  to_come : (row : List Value) → Contains (drop l.at l.fn.others) row → Contains (into_iter_items l.row-iterator) row;
  met : (row : List Value) → Contains (take l.at l.fn.others) row → Contains (into_iter_items l.row-iterator) row → ⊥;
}
