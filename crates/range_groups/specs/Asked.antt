-- What is asked of groups, and both ends of one.
use Rattle.std.specs.Prelude.{◌≡◌, ◌<◌, List, [], length, map, Contains}
use Rattle.cqa_value.specs.declared.value.Value.{Value}
use Rattle.aggregate_range.specs.declared.aggregate.End.{End}
use Rattle.cqa_model.specs.declared.query.Query.{Query}
use Rattle.cqa_model.specs.Database.{Table}
use Rattle.cqa_model.specs.Query.{atom_at}
use Rattle.join_access.specs.Listing.{names_of}
use Rattle.range_join.specs.Parts.{AreNamesIn}
use Rattle.range_join.specs.Worths.{AreOthersStrict}
use Rattle.range_groups.specs.declared.ask.GroupAsk.{GroupAsk}
use Rattle.range_groups.specs.declared.members.Member.{Member}
use Rattle.range_groups.specs.JoinGroups.{HasThere, IsJoinGroup}
use Rattle.range_groups.specs.Members.{names_by, IsMemberOf}
use Rattle.range_groups.specs.Spans.{AreSpansOfPlaces}

-- the query
abbrev pub asked_query : GroupAsk → Query
asked_query ask = ask.found.now.bound.now.query.now

-- the database
abbrev pub asked_tables : GroupAsk → List Table
asked_tables ask = ask.found.now.bound.now.db.now

-- the tables of all atoms but one are strict; the query has no answer columns; the blocks of the one table have these spans
pub record AreGroupsAsked (ask : GroupAsk) : Type 0 where
  pub lax : ask.lax < length (asked_query ask).atoms
  pub strict : AreOthersStrict (asked_query ask) ask.lax
  pub atom : ask.sought.now.atom < length (asked_query ask).atoms
  pub column : ask.column.atom < length (asked_query ask).atoms
  pub row : ask.found.now.row.now ≡ []
  pub spans : AreSpansOfPlaces (asked_tables ask) (atom_at (asked_query ask) ask.lax).table ask.spans.now

-- each is one of the witnesses, with its value and its place
abbrev pub AreMembersOf : GroupAsk → List Member → Type 0
AreMembersOf ask members = (m : Member) → Contains members m → IsMemberOf (asked_tables ask) ask.column ask.lax m × Contains (names_of ask.found.now.list) (names_by m)

-- where the members are the witnesses that have a value, these are both ends of its group
abbrev pub AreEndsOf : GroupAsk → Value → List Member → End × End → Type 0
AreEndsOf ask value members ends =
    AreNamesIn (asked_tables ask) (asked_query ask) (HasThere ask.column value) (map names_by members) →
    IsJoinGroup (asked_tables ask) (asked_query ask) ask.lax ask.sought.now ask.column (record { value = value; least = ends.0; greatest = ends.1 })
