-- `prove`
use Rattle.std.specs.Prelude.{◌≡◌, ℕ, List, map, Result, Ok, Err}
use Rattle.cqa_value.specs.declared.memory.Fail.{Fail}
use Rattle.cqa_value.specs.declared.memory.Fail.TheVariants as fails
use Rattle.cqa_value.specs.declared.value.Value.{Value}
use Rattle.cqa_model.specs.declared.query.RowId.{RowId}
use Rattle.cqa_model.specs.declared.query.Query.{Query}
use Rattle.cqa_model.specs.Database.{Table}
use Rattle.cqa_model.specs.Variables.{whole}
use Rattle.cqa_model.specs.Graph.{HasCycle}
use Rattle.cqa_model.specs.Certain.{IsCertain}
use Rattle.cqa_model.specs.Plan.{IsPlanOf}
use Rattle.refusals.specs.declared.refusal.Refusal.{Refusal}
use Rattle.refusals.specs.declared.refusal.Refusal.TheVariants.{CertificateLimit}
use Rattle.repair_back.specs.Results.{AreStored}
use Rattle.repair_back.specs.Rejected.{AreRejectingRows}
use Rattle.rewrite_text.specs.Certificates.{HasLongCertificate, IsCertificate}
use Rattle.spj_syntax.specs.declared.tree.Select.{Select}
use Rattle.query_resolve.specs.Checks.{answer_fault}
use Rattle.query_resolve.specs.Resolved.{IsQueryOf}
use Rattle.reply_text.specs.declared.reply.KeptRow.{KeptRow}
use Rattle.reply_text.specs.declared.reply.Reply.{Reply}
use Rattle.reply_text.specs.declared.reply.Reply.TheVariants.{Certificate, NoPlan, Rejected, Refused}
use Rattle.session_state.specs.State.{State}
use Rattle.session_state.specs.Replying.{Replies}
use Rattle.query_replies.specs.Kept.{kept_line}
use Rattle.query_replies.specs.Parts.{HasPlan}

-- the lines of the rows of a repair without a witness of a row, in the blocks that have a choice
abbrev pub AreRejectingLines : List Table → Query → List Value → List KeptRow → Type 0
AreRejectingLines db q row lines = (names : List RowId) × AreRejectingRows db q row names × AreStored db names × (lines ≡ map (kept_line db) names)

-- What is told of a row: that the query has no plan, since the attacks have a cycle. If it has one: of a row that isn't certain a
-- repair without a witness, and of a certain row its certificate, or that this would be too long.
abbrev pub Proves : List Table → Query → List Value → Reply → Type 0
Proves db q row NoPlan = HasCycle q (whole q)
Proves db q row (Rejected lines) = HasPlan q × AreRejectingLines db q row lines
Proves db q row (Certificate text) = IsCertain db q row × ((plan : List ℕ) × IsPlanOf q plan × IsCertificate db q row plan text)
Proves db q row (Refused CertificateLimit) = IsCertain db q row × ((plan : List ℕ) × IsPlanOf q plan × HasLongCertificate db q row plan)
Proves db q row _ = ⊥

-- what is answered of a row is so; want of memory is free
abbrev pub IsProofOutcome : Result Reply (Fail Refusal) → List Table → Query → List Value → Type 0
IsProofOutcome (Ok reply) db q row = Proves db q row reply
IsProofOutcome (Err (fails.Refused refusal)) db q row = Proves db q row (Refused refusal)
IsProofOutcome (Err fails.NoMemory) db q row = Unit {0}

-- so it is told, and the state stays
abbrev pub MayProve : State → Query → List Value → Reply → State → Type 0
MayProve old q row reply new = Proves old.tables q row reply × (new ≡ old)

-- The row is checked against the query, and then proved.
pub record ProvesRow (old : State) (row : List Value) (select : Select) (reply : Reply) (new : State) : Type 0 where
  pub query : Query
  pub resolved : IsQueryOf old.tables select query
  pub replied : Replies (answer_fault old.tables query row) old (MayProve old query row) reply new
