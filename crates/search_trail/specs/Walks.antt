-- How an analysis goes back over the implications of a trail.
use Rattle.std.specs.Prelude.{◌<◌, ℕ, ℤ, List, [], length, reverse}
use Rattle.cnf_form.specs.Literals.{literals}
use Rattle.search_trail.specs.declared.analysis.SeenMarks.{SeenMarks}
use Rattle.search_trail.specs.declared.implications.Implications.{Implications}
use Rattle.search_trail.specs.Trail.{held}
use Rattle.search_trail.specs.Analysis.{AreMarks, AtMostSeen, Grow, IsFalse, Works}

-- all literals of the clause at the index are denied by the trail
abbrev pub IsConflictIn : Implications → ℕ → Type 0
IsConflictIn g k = (k < length g.clauses.now) × IsFalse (held g.trail.now) (literals g.clauses.now) k

-- further variables are marked, and of those on the level that are left no fewer are counted
pub record AreMoreMarks (g : Implications) (old new : SeenMarks) : Type 0 where
  pub marks : AreMarks (length g.places.now) new
  pub grow : Grow old.seen.items new.seen.items
  pub counted : (end : ℕ) → AtMostSeen (held g.trail.now) g.start end old.seen.items old.left → AtMostSeen (held g.trail.now) g.start end new.seen.items new.left

-- A walk back from a conflict has come down to the place: its marks, of which no more are left than are counted, and the hints
-- so far, the last one first.
pub record IsWalkedTo (g : Implications) (place : ℕ) (m : SeenMarks) (hints : List ℤ) : Type 0 where
  pub marks : AreMarks (length g.places.now) m
  pub few : AtMostSeen (held g.trail.now) g.start place m.seen.items m.left
  pub works : Works (literals g.clauses.now) (held g.trail.now) m.seen.items [] place (reverse hints)
