-- What a solver keeps true.
use Rattle.search_trail.specs.Trail.{At, held, AreTrailPlaces, AllInRange, AllLow, AreAllInRange}
use Rattle.std.specs.Prelude.{◌<◌, ◌-◌, ℕ, List, Option, length, slice_index_or, Contains}
use Rattle.cnf_form.specs.declared.formula.Lit.{Lit}
use Rattle.cnf_form.specs.Literals.{literals}
use Rattle.search_trail.specs.declared.trail.Entry.{Entry}
use Rattle.cdcl.specs.declared.solver.Solver.{Solver}
use Rattle.search_trail.specs.Analysis.{IsForcedAt, AreReasons}

-- The trail, the places of variables, and where levels start, over clauses.
pub record IsSearchState (db : List (List Lit)) (trail : List Entry) (places : List (Option ℕ)) (level_starts : List ℕ) : Type 0 where
  pub places_are : AreTrailPlaces (held trail) places
  pub held_in : AllInRange (held trail) (length places)
  pub held_low : AllLow (held trail)
  pub db_in : AreAllInRange db (length places)
  pub db_low : (c : List Lit) → Contains db c → AllLow c
  pub rising : (i j a b : ℕ) → i < j → At level_starts i a → At level_starts j b → a < b
  pub under : (s : ℕ) → Contains level_starts s → s < length trail
  pub forced : (p : ℕ) → (Contains level_starts p → ⊥) → IsForcedAt trail p
  pub reasons : AreReasons db trail

-- where the last level starts; 0 where none has
abbrev pub last_start : List ℕ → ℕ
last_start level_starts = slice_index_or level_starts (length level_starts - 1) 0

abbrev pub IsSound : Solver → Type 0
IsSound s = IsSearchState (literals s.clauses.items) s.trail.items s.places.items s.level_starts.items
