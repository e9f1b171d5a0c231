-- A dump that is run again makes the same tables.
use Rattle.std.proofs.Common.{◌≡◌, ℕ, true, List, [], ◌∷◌, ◌++◌, refl, sym, ap, ◌∙◌, subst}
use Rattle.std.proofs.lemmas.List.{append-nil}
use Rattle.script_lex.specs.Scripts.{IsSpace}
use Rattle.script_lex.proofs.Statements.{at_most_one_cut}
use Rattle.reply_text.specs.declared.reply.Reply.{Reply}
use Rattle.csv_rows.specs.Dumps.{dump_text}
use Rattle.session_state.specs.State.{State}
use Rattle.command_shell.specs.Runs.{Run, Closes, has_refusal}
use Rattle.text_law.specs.Again.{DumpRunsAgain, DumpAnswersAgain}
use Rattle.reading_law.proofs.Cut.{whole_cut}
use Rattle.text_law.proofs.Scripts.{TakesAll, all_run, all_once, dump_cut, dump_statements, dump_taken}
use Rattle.text_law.proofs.DumpSteps.{with_tables}

none_last : (rest : List ℕ) (last : List Reply) → IsSpace rest → Closes true rest last → last ≡ []
none_last rest [] space closes = refl
none_last rest (reply ∷ replies) space closes = absurd (closes.0 space)

pub dump_runs_again : DumpRunsAgain
dump_runs_again dumped old is empty =
    let db = dumped.tables in
    let cut = whole_cut (dump_text db) (dump_statements db) (dump_cut db is.valid) in
    let start : with_tables old [] ≡ old = ap (with_tables old) (sym empty) in
    let taken : TakesAll old (dump_statements db) (with_tables old db) = subst (λ s. TakesAll s (dump_statements db) (with_tables old db)) start (dump_taken old db is.database is.valid) in
    let run = all_run old (with_tables old db) (dump_statements db) taken in
    record {
      may = (run.0, with_tables old db, record { statements = dump_statements db; rest = cut.0; answered = run.0; last = []; cut = cut.1; run = run.1; closes = cut.2; all = sym (append-nil run.0) });
      only = λ replies new r.
          let same = at_most_one_cut true (dump_text db) r.statements (dump_statements db) r.rest cut.0 r.cut cut.1 in
          let once = all_once old (with_tables old db) new (dump_statements db) r.answered taken (subst (λ xs. Run old xs r.answered new) same.0 r.run) in
          let none = none_last r.rest r.last (subst IsSpace (sym same.1) cut.2) r.closes in
          let all : replies ≡ r.answered = r.all ∙ ap (λ l. r.answered ++ l) none ∙ append-nil r.answered in
          (ap has_refusal all ∙ once.0, once.1);
    }

pub dump_answers_again : DumpAnswersAgain
dump_answers_again dumped old new written refused is empty answers =
    let h = (dump_runs_again dumped old is empty).only answers.replies new answers.run in
    (answers.refused_is ∙ h.0, ap (λ (s : State). s.tables) h.1)
