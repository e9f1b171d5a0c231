use Rattle.std.proofs.Common.{◌-◌, ℕ, Contains}
use Rattle.std.specs.Option.{option_copied}
use Rattle.plan_rows.specs.Knowing.{MayFit}
use Rattle.plan_rows.specs.Over.{look_query, look_taken, look_rows}
use Rattle.plan_rows.proofs.Looking.{IsUpTo}
use Rattle.plan_rows.proofs.reached.add_places.Given as goal

-- the places so far are there
abbrev pub invariant-loop-at : goal.invariant-loop-at
invariant-loop-at l = record {
  kept : (p : ℕ) → Contains l.fn.found p → Contains l.found p;
  added : IsUpTo (look_rows l.look) (λ z. MayFit (look_query l.look) (option_copied l.row) (look_taken l.look) l.look.atom z) (Contains l.found) l.at;
}

abbrev pub decreases-loop-at : goal.decreases-loop-at
decreases-loop-at l = l.places.end - l.at
