-- What is asked of a query goes on.
use Rattle.std.proofs.Common.{◌≡◌, inl, inr, Option, Some, None, refl}
use Rattle.cqa_model.specs.declared.query.Query.{Query}
use Rattle.refusals.specs.declared.refusal.Refusal.{Refusal}
use Rattle.spj_syntax.specs.declared.tree.Select.{Select}
use Rattle.spj_syntax.specs.declared.tree.Verb.{Verb}
use Rattle.spj_syntax.specs.declared.tree.Verb.TheVariants as verbs
use Rattle.query_replies.specs.Names.{query_names}
use Rattle.query_resolve.specs.Checks.{query_fault, answer_fault}
use Rattle.query_resolve.specs.Resolved.{IsQueryOf}
use Rattle.row_answers.specs.declared.side.Side.TheVariants.{Certain, Disputed}
use Rattle.reply_text.specs.declared.reply.Reply.{Reply}
use Rattle.reply_text.specs.declared.reply.Reply.TheVariants.{Rows, Classified, Refused}
use Rattle.session_state.specs.State.{State, IsState}
use Rattle.command_shell.specs.Machine.{Asks}
use Rattle.session_state.specs.Replying.{Replies}
use Rattle.reason_statements.specs.Explain.{MayTell}
use Rattle.reason_statements.specs.Against.{TellsAgainst}
use Rattle.reason_statements.specs.Prove.{MayProve}
use Rattle.command_shell.specs.Changing.{GoesOnTo}
use Rattle.reading_law.proofs.Queries.{queries_are_resolved}
use Rattle.existence_law.proofs.Answering.{answers_exist}
use Rattle.command_shell.proofs.Classing.{classes_are_told}
use Rattle.command_shell.proofs.Planning.{plans_are_told, sql_is_told, proofs_are_told}
use Rattle.command_shell.proofs.Siding.{sides_are_told}
use Rattle.command_shell.proofs.Explaining.{reasons_are_told}
use Rattle.command_shell.proofs.Opposing.{against_is_told}

-- a check that fails is replied to by its refusal, and else there is a reply by what may be done
pub replied : (fault : Option Refusal) (old : State) (May : Reply → State → Type 0) → IsState old → (fault ≡ None → GoesOnTo May) → GoesOnTo (Replies fault old May)
replied None old May is done = let g = done refl in (g.0, g.1, (inr (refl, g.2.0), g.2.1))
replied (Some refusal) old May is done = (Refused refusal, old, (inl (record { refusal = refusal; first = refl; replies = refl; keeps = refl }), is))

module _ (old : State) (select : Select) (is : IsState old) (q : Query) (resolved : IsQueryOf old.tables select q) where
  asked : (verb : Verb) → GoesOnTo (Asks old verb select)
  asked verbs.Ask = let g = sides_are_told old q Certain is resolved.fits in (g.0, g.1, (record { query = q; resolved = resolved; told = g.2.0 }, g.2.1))
  asked verbs.Disputed = let g = sides_are_told old q Disputed is resolved.fits in (g.0, g.1, (record { query = q; resolved = resolved; told = g.2.0 }, g.2.1))
  asked verbs.Possible =
      let rows = answers_exist.possible old.tables q resolved.fits in
      (Rows rows.0, old, (record { query = q; resolved = resolved; rows = rows.0; possible = rows.1; replies = refl; keeps = refl }, is))
  asked verbs.Classify =
      let part = classes_are_told q select.tables in
      (Classified part.0.class part.0.lines, old, (record { query = q; resolved = resolved; found = part.0; told = part.1; replies = refl; keeps = refl }, is))
  asked verbs.Plan = let told = plans_are_told q select.tables in (told.0, old, (record { query = q; resolved = resolved; told = told.1; keeps = refl }, is))
  asked verbs.Sql = let told = sql_is_told q (query_names old.tables select.tables q) in (told.0, old, (record { query = q; resolved = resolved; told = told.1; keeps = refl }, is))
  asked (verbs.Explain row) =
      let g = replied (answer_fault old.tables q row) old (MayTell old q row) is (λ n. reasons_are_told old q row is resolved.fits) in
      (g.0, g.1, (record { query = q; resolved = resolved; replied = g.2.0 }, g.2.1))
  asked (verbs.Against row) =
      let g = replied (answer_fault old.tables q row) old (TellsAgainst old q row) is (λ n. against_is_told old q row is resolved.fits) in
      (g.0, g.1, (record { query = q; resolved = resolved; replied = g.2.0 }, g.2.1))
  asked (verbs.Prove row) =
      let g = replied (answer_fault old.tables q row) old (MayProve old q row) is (λ n. proved) in
      (g.0, g.1, (record { query = q; resolved = resolved; replied = g.2.0 }, g.2.1))
    where
      proved : GoesOnTo (MayProve old q row)
      proved = let told = proofs_are_told old.tables q row is.database resolved.fits in (told.0, old, ((told.1, refl), is))

pub asking_goes_on : (old : State) (verb : Verb) (select : Select) → IsState old → query_fault old.tables select ≡ None → GoesOnTo (Asks old verb select)
asking_goes_on old verb select is e = let q = queries_are_resolved old.tables select is.database e in asked old select is q.0 q.1 verb
