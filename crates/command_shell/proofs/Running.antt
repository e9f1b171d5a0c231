-- Statements one after another have a run, and so has each input.
use Rattle.std.proofs.Common.{ℕ, Bool, true, false, List, [], ◌∷◌, ◌++◌, drop, refl}
use Rattle.script_lex.specs.declared.cutting.Cut.{Cut}
use Rattle.script_lex.specs.declared.cutting.Cut.TheVariants as cuts
use Rattle.script_lex.specs.Scripts.{IsSpace, IsCut, statement_at}
use Rattle.script_lex.proofs.Statements.{space_over, first_statement}
use Rattle.refusals.specs.declared.refusal.Refusal.TheVariants.{Unfinished}
use Rattle.reply_text.specs.declared.reply.Reply.{Reply}
use Rattle.reply_text.specs.declared.reply.Reply.TheVariants.{Refused}
use Rattle.reading_law.specs.Inputs.{InputsAreCut}
use Rattle.reading_law.proofs.Firsts.{first_cut}
use Rattle.command_shell.specs.Runs.{Closes}
use Rattle.command_shell.specs.Laws.{StepsGoOn, RunsGoOn, InputsAreRun}

pub runs_go_on : StepsGoOn → RunsGoOn
runs_go_on steps old [] is = ([], old, (refl, is))
runs_go_on steps old (statement ∷ statements) is =
    let one = steps old statement.0 statement.1 is in
    let more = runs_go_on steps one.1 statements one.2.1 in
    (one.0 ∷ more.0, more.1, ((one.1, one.2.0, more.2.0), more.2.1))

-- what the end of the input adds
pub closing : (ended : Bool) (rest : List ℕ) → (last : List Reply) × Closes ended rest last
closing false rest = ([], refl)
closing true rest = let first = first_cut true rest in go first.0 first.1
  where
    refused : (IsSpace rest → ⊥) → (last : List Reply) × Closes true rest last
    refused other = (Refused Unfinished ∷ [], (other, refl, refl))

    go : (cut : Cut) → IsCut true rest cut → (last : List Reply) × Closes true rest last
    go (cuts.Statement text block at) h = refused (λ space. space_over true rest space (statement_at rest text block) (drop at rest) (first_statement true rest text block at h))
    go cuts.Blank h = ([], h)
    go cuts.Part h = refused h.0

pub inputs_are_run : RunsGoOn → InputsAreCut → InputsAreRun
inputs_are_run runs cuts old input ended is =
    let found = cuts ended input in
    let run = runs old found.0 is in
    let last = closing ended found.1 in
    (run.0 ++ last.0, run.1, (record { statements = found.0; rest = found.1; answered = run.0; last = last.0; cut = found.2; run = run.2.0; closes = last.1; all = refl }, run.2.1))
