-- What code that makes the query of a plan works on.
use Rattle.std.specs.Prelude.{◌≡◌, ℕ, ◌<◌, List, [], length, slice_index_or}
use Rattle.cqa_model.specs.declared.query.Query.{Query}
use Rattle.sql_steps.specs.Variables.{variables_of}

-- for each atom of a query the variables of its columns
pub record AreNamed (q : Query) (lists : List (List ℕ)) : Type 0 where
  pub size : length lists ≡ length q.atoms
  pub each : (F : ℕ) → F < length q.atoms → slice_index_or lists F [] ≡ variables_of q F

-- these are atoms of a query
abbrev pub AreAtoms : Query → List ℕ → Type 0
AreAtoms q atoms = (i : ℕ) → i < length atoms → slice_index_or atoms i 0 < length q.atoms
