use Rattle.std.proofs.Common.{◌+◌, ◌-◌, ◌*◌, length}
use Rattle.std.proofs.Common.{ℕ, Contains}
use Rattle.std.specs.Option.{option_copied}
use Rattle.plan_rows.specs.Links.{atoms_on}
use Rattle.plan_rows.specs.Over.{look_query, look_tables, look_taken}
use Rattle.plan_rows.proofs.Guessing.{HasReachedUpTo}
use Rattle.plan_rows.proofs.reached.+reached.Given as goal

abbrev pub decreases-add_guess : goal.decreases-add_guess
decreases-add_guess l = 3 * length l.later.now + 1

abbrev pub decreases-add_guesses : goal.decreases-add_guesses
decreases-add_guesses l = 3 * length l.later.now + 2

abbrev pub decreases-add_reached : goal.decreases-add_reached
decreases-add_reached l = 3 * length l.links.now

-- what the rows so far lead to is there
abbrev pub invariant-add_guesses-loop-place : goal.invariant-add_guesses-loop-place
invariant-add_guesses-loop-place l = record {
  kept : (p : ℕ) → Contains l.fn.found p → Contains l.found p;
  added : HasReachedUpTo (look_query l.look) (look_tables l.look) (option_copied l.row) (look_taken l.look) l.atom (atoms_on l.later) l.look.atom l.found l.place;
}

abbrev pub decreases-add_guesses-loop-place : goal.decreases-add_guesses-loop-place
decreases-add_guesses-loop-place l = l.places.end - l.place
