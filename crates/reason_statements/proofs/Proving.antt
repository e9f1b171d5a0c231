-- What is proved of a row, as a reply.
use Rattle.std.proofs.Common.{◌≡◌, inr, List, None, Result, Ok, Err, refl}
use Rattle.cqa_value.specs.declared.memory.Fail.{Fail}
use Rattle.cqa_value.specs.declared.memory.Fail.TheVariants as fails
use Rattle.cqa_value.specs.declared.value.Value.{Value}
use Rattle.cqa_model.specs.declared.query.Query.{Query}
use Rattle.refusals.specs.declared.refusal.Refusal.{Refusal}
use Rattle.query_resolve.specs.Checks.{answer_fault, query_fault}
use Rattle.query_resolve.specs.Resolved.{IsQueryOf}
use Rattle.spj_syntax.specs.declared.tree.Select.{Select}
use Rattle.reply_text.specs.declared.reply.Reply.{Reply}
use Rattle.session_state.specs.State.{State}
use Rattle.session_state.specs.Replying.{Replies, IsReplyOutcome}
use Rattle.reason_statements.specs.Prove.{IsProofOutcome, MayProve, ProvesRow}

-- a row that passed its check is proved, and the state stays
pub proof_replied : (old : State) (q : Query) (row : List Value) (result : Result Reply (Fail Refusal)) → answer_fault old.tables q row ≡ None → IsProofOutcome result old.tables q row →
    IsReplyOutcome result old (Replies (answer_fault old.tables q row) old (MayProve old q row)) old
proof_replied old q row (Ok reply) valid told = inr (valid, (told, refl))
proof_replied old q row (Err (fails.Refused refusal)) valid told = inr (valid, (told, refl))
proof_replied old q row (Err fails.NoMemory) valid told = refl

-- how the answer for a row ends the statement
pub proof_ended : (old : State) (row : List Value) (select : Select) (query : Query) (result : Result Reply (Fail Refusal)) → query_fault old.tables select ≡ None → IsQueryOf old.tables select query →
    IsReplyOutcome result old (Replies (answer_fault old.tables query row) old (MayProve old query row)) old → IsReplyOutcome result old (Replies (query_fault old.tables select) old (ProvesRow old row select)) old
proof_ended old row select query (Ok reply) valid resolved told = inr (valid, record { query = query; resolved = resolved; replied = told })
proof_ended old row select query (Err (fails.Refused refusal)) valid resolved told = inr (valid, record { query = query; resolved = resolved; replied = told })
proof_ended old row select query (Err fails.NoMemory) valid resolved told = told
