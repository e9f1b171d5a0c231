use Rattle.std.proofs.Common.{◌≡◌}
use Rattle.std.specs.Vec.Iter.{into_iter_items}
use Rattle.row_answers.specs.Sides.{IsOf}
use Rattle.row_answers.proofs.Sieving.{AreDone}
use Rattle.pair_formula.proofs.certain.sift_all.Given as goal

-- the rows so far are sifted
abbrev pub invariant-loop-row : goal.invariant-loop-row
invariant-loop-row l = record {
  done : AreDone (IsOf l.fn.lookup.bound.now.db.now l.fn.lookup.bound.now.query.now l.fn.side) (into_iter_items l.initial.row-iterator) l.answers.items (into_iter_items l.row-iterator);
  same : l.lookup.bound.now ≡ l.fn.lookup.bound.now;
}
