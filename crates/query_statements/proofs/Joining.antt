-- The rows that a range over several tables names are stored; and how it is told or refused.
use Rattle.std.proofs.Common.{◌≡◌, ◌<◌, inr, ℕ, List, length, None, Result, Ok, Err, sym, subst, arith}
use Rattle.std.proofs.lemmas.List.{length-map}
use Rattle.cqa_value.specs.declared.memory.Fail.{Fail}
use Rattle.cqa_value.specs.declared.memory.Fail.TheVariants as fails
use Rattle.aggregate_range.specs.declared.aggregate.End.{End}
use Rattle.cqa_model.specs.declared.query.Query.{Query}
use Rattle.cqa_model.specs.declared.query.RowId.{RowId}
use Rattle.cqa_model.specs.Database.{Table, IsDatabase}
use Rattle.cqa_model.specs.Query.{atom_at, FitsDatabase}
use Rattle.cqa_model.specs.Repairs.{IsTableRepair}
use Rattle.query_resolve.specs.declared.range.RangeQuery.{RangeQuery}
use Rattle.query_resolve.specs.Checks.{range_join_fault}
use Rattle.query_resolve.specs.Resolved.{IsRangeOf}
use Rattle.range_join.specs.declared.sought.Sought.{Sought}
use Rattle.range_join.specs.Joins.{IsJoinAttained}
use Rattle.refusals.specs.declared.refusal.Refusal.{Refusal}
use Rattle.table_blocks.specs.Tables.{AreStored, rows_at, key_at}
use Rattle.reply_text.specs.declared.reply.Reply.{Reply}
use Rattle.spj_syntax.specs.declared.tree.RawRange.{RawRange}
use Rattle.session_state.specs.State.{State}
use Rattle.session_state.specs.Replying.{Replies, IsReplyOutcome}
use Rattle.query_statements.specs.RangeOfJoin.{TellsJoin, TellsRangeJoin}
use Rattle.query_statements.proofs.Ranging.{repair-stored}

-- the names of the rows of the one table that may break its key are those of stored rows
pub join-stored : (db : List Table) (q : Query) (lax : ℕ) (sought : Sought) (names : List RowId) (end : End) → IsDatabase db → FitsDatabase q db → lax < length q.atoms → IsJoinAttained db q lax sought names end → AreStored db names
join-stored db q lax sought names end database fits inside is =
    let table = (atom_at q lax).table in
    let there = fits.there lax inside in
    let size = length-map db (λ (t : Table). t.rows) in
    let repair = is.repair.each table (omega (arith, size, there)) in
    subst (AreStored db) (sym is.named) (repair-stored db table is.places database there (subst (IsTableRepair (key_at db table) (rows_at db table)) is.rows repair))

-- how what is told of the query ends the statement
pub join_answered : (old : State) (raw : RawRange) (range : RangeQuery) (result : Result Reply (Fail Refusal)) → range_join_fault old.tables raw ≡ None → IsRangeOf old.tables raw range →
    IsReplyOutcome result old (TellsJoin old range) old → IsReplyOutcome result old (Replies (range_join_fault old.tables raw) old (TellsRangeJoin old raw)) old
join_answered old raw range (Ok reply) valid resolved told = inr (valid, record { range = range; resolved = resolved; told = told })
join_answered old raw range (Err (fails.Refused refusal)) valid resolved told = inr (valid, record { range = range; resolved = resolved; told = told })
join_answered old raw range (Err fails.NoMemory) valid resolved told = told
