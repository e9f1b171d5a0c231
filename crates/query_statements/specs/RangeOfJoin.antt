-- `range` over several tables
use Rattle.std.specs.Prelude.{◌≡◌, ℕ, List, [], map, Option, Some, None}
use Rattle.cqa_model.specs.declared.query.ColRef.{ColRef}
use Rattle.cqa_model.specs.declared.query.Query.{Query}
use Rattle.cqa_model.specs.Database.{Table}
use Rattle.join_access.specs.Listing.{HasTooMany}
use Rattle.query_resolve.specs.declared.range.RangeQuery.{RangeQuery}
use Rattle.query_resolve.specs.Resolved.{IsRangeOf}
use Rattle.range_ask.specs.declared.ends.Ends.{Ends}
use Rattle.range_ask.specs.declared.groups.Group.{Group}
use Rattle.range_ask.specs.declared.range.Range.{Range}
use Rattle.range_join.specs.declared.sought.Sought.{Sought}
use Rattle.range_groups.specs.JoinGroups.{AreJoinGroups}
use Rattle.range_join.specs.Joins.{IsJoinRange}
use Rattle.refusals.specs.declared.refusal.Refusal.TheVariants.{WitnessLimit}
use Rattle.repair_back.specs.Results.{contested_of}
use Rattle.table_blocks.specs.Tables.{AreStored}
use Rattle.reply_text.specs.declared.reply.Reply.{Reply}
use Rattle.reply_text.specs.declared.reply.Reply.TheVariants as replies
use Rattle.spj_syntax.specs.declared.tree.RawRange.{RawRange}
use Rattle.session_state.specs.State.{State}
use Rattle.query_statements.specs.Range.{chosen_lines, group_line}

-- both ends, each with the rows that had to be chosen alone: those of blocks of two or more rows
pub record AreChosenEnds (db : List Table) (range : Range) (ends : Ends) : Type 0 where
  pub least : ends.least ≡ range.least
  pub low : ends.low ≡ contested_of db range.low
  pub low_stored : AreStored db ends.low
  pub greatest : ends.greatest ≡ range.greatest
  pub high : ends.high ≡ contested_of db range.high
  pub high_stored : AreStored db ends.high

-- The reply tells the least and the greatest value that an aggregate over the witnesses of a query has in a repair, each with
-- the rows that a repair which has it keeps of blocks of two or more rows of the one table that may break its key.
pub record TellsJoinEnds (db : List Table) (q : Query) (lax : ℕ) (sought : Sought) (reply : Reply) : Type 0 where
  pub range : Range
  pub is : IsJoinRange db q lax sought range
  pub replies : reply ≡ replies.Range range.least (chosen_lines db range.low) range.greatest (chosen_lines db range.high)

-- The reply tells both ends for each group: for each value that a witness has in a column.
pub record TellsJoinGroups (db : List Table) (q : Query) (lax : ℕ) (sought : Sought) (col : ColRef) (reply : Reply) : Type 0 where
  pub groups : List Group
  pub are : AreJoinGroups db q lax sought col groups
  pub replies : reply ≡ replies.Groups (map group_line groups)

-- both ends over all witnesses, or for each group of them
abbrev pub TellsJoinBy : List Table → Query → ℕ → Sought → Option ColRef → Reply → Type 0
TellsJoinBy db q lax sought None reply = TellsJoinEnds db q lax sought reply
TellsJoinBy db q lax sought (Some col) reply = TellsJoinGroups db q lax sought col reply

-- what is asked of the witnesses of the query
abbrev pub sought_of : RangeQuery → Sought
sought_of range = record { goal = range.goal; atom = range.atom }

-- What is told of a query within the limit of witnesses: both ends, or those of each group. Exactly where it has more than
-- `MOST_WITNESSES` of them, the row `()` is refused as one with too many. Neither changes anything.
abbrev pub TellsJoin : State → RangeQuery → Reply → State → Type 0
TellsJoin old range (replies.Refused refusal) new = (refusal ≡ WitnessLimit []) × HasTooMany range.query old.tables [] × (new ≡ old)
TellsJoin old range reply new = TellsJoinBy old.tables range.query range.lax (sought_of range) range.group reply × (HasTooMany range.query old.tables [] → ⊥) × (new ≡ old)

-- The names are resolved, and the reply tells both ends over the witnesses of the query or of each group of them, or that there
-- are too many.
pub record TellsRangeJoin (old : State) (raw : RawRange) (reply : Reply) (new : State) : Type 0 where
  pub range : RangeQuery
  pub resolved : IsRangeOf old.tables raw range
  pub told : TellsJoin old range reply new
