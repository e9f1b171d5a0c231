-- Each aggregate over the witnesses of a query all of whose tables but one are strict has its ranges.
use Rattle.std.specs.Prelude.{ℕ, ◌<◌, List, length}
use Rattle.cqa_model.specs.declared.query.ColRef.{ColRef}
use Rattle.cqa_model.specs.declared.query.Query.{Query}
use Rattle.cqa_model.specs.Database.{Table, IsDatabase}
use Rattle.cqa_model.specs.Query.{FitsDatabase}
use Rattle.range_ask.specs.declared.groups.Group.{Group}
use Rattle.range_ask.specs.declared.range.Range.{Range}
use Rattle.range_groups.specs.JoinGroups.{AreJoinGroups}
use Rattle.range_join.specs.declared.sought.Sought.{Sought}
use Rattle.range_join.specs.Joins.{IsJoinRange}
use Rattle.range_join.specs.Worths.{AreOthersStrict}

-- an aggregate over the atoms of a query that fits a database, of whose tables all but one are strict
pub record CanBeRanged (db : List Table) (q : Query) (lax : ℕ) (sought : Sought) : Type 0 where
  pub database : IsDatabase db
  pub fits : FitsDatabase q db
  pub inside : lax < length q.atoms
  pub strict : AreOthersStrict q lax
  pub goal_inside : sought.atom < length q.atoms

-- It has a range: of its values in the repairs there is a least and a greatest one.
abbrev pub JoinRangesExist : Type 0
JoinRangesExist = (db : List Table) (q : Query) (lax : ℕ) (sought : Sought) → CanBeRanged db q lax sought → (range : Range) × IsJoinRange db q lax sought range

-- For each value that witnesses have in a column it has a range, and these values are a list.
abbrev pub JoinGroupsExist : Type 0
JoinGroupsExist = (db : List Table) (q : Query) (lax : ℕ) (sought : Sought) (column : ColRef) → CanBeRanged db q lax sought → (groups : List Group) × AreJoinGroups db q lax sought column groups
