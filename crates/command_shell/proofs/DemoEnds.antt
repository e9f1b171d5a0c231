-- How a run of the script of a size ends.
use Rattle.std.proofs.Common.{◌≡◌, ◌∙◌, ℕ, Bool, true, false, nat_lt, List, [], take, drop, Option, Some, Result, Ok, Err, IsErrAnd, refl, sym, ap, subst}
use Rattle.std.proofs.lemmas.List.{take-append-drop}
use Rattle.std.specs.Io.KnownBytes.{Keeps, Appends}
use Rattle.std.proofs.KnownBytes.{Consumes-nil, Appends-nil, Appends-kept, Keeps-refl}
use Rattle.cqa_io.specs.Causes.{Rose}
use Rattle.command_shell.specs.declared.ending.Command.TheVariants.{Demo}
use Rattle.command_shell.specs.declared.ending.Stop.{Stop}
use Rattle.command_shell.specs.declared.ending.Stop.TheVariants as stops
use Rattle.command_shell.specs.declared.ending.Ending.{Ending}
use Rattle.command_shell.specs.declared.ending.Ending.TheVariants.{Answered, WithRefusal}
use Rattle.session_state.specs.State.{State}
use Rattle.cqa_model.specs.Database.{row_total}
use Rattle.case_maker.specs.Scripts.{script_bytes}
use Rattle.command_shell.specs.declared.tally.Tally.{Tally}
use Rattle.command_shell.specs.Runs.{has_refusal}
use Rattle.command_shell.specs.GoingOn.{GoesOnFrom}
use Rattle.command_shell.specs.Demo.{line_text, AnswersAll, BreaksOffIn, StopsIn}
use Rattle.command_shell.specs.Parts.{ending_of, WriteRow}
use Rattle.command_shell.proofs.Tallied.{some_refused, at_its_end}
use Rattle.command_shell.specs.Tallying.{LineRow}
use Rattle.command_shell.specs.Top.{Ended, told}

-- how the line on a run was written
pub written_so : (result : Result Bool Stop) (rose : Type 0) (held_old held_new : Option (List ℕ)) (size : ℕ) (old new : State) (tally : Tally) → AnswersAll old (script_bytes size) tally new
    → WriteRow result rose held_old held_new (line_text size (row_total new.tables) tally) (nat_lt 0 tally.refused) → LineRow result rose held_old held_new size old new
written_so (Ok refused) rose held_old held_new size old new tally answers row = (
  line_text size (row_total new.tables) tally,
  row.0,
  record { tally = tally; answers = answers; line_is = refl; refused_is = row.1 ∙ ap (nat_lt 0) answers.tallies.refused ∙ some_refused answers.replies },
)
written_so (Err stops.WriteFault) rose held_old held_new size old new tally answers row =
    let line = line_text size (row_total new.tables) tally in
    let n = row.1.0 in (
      row.0,
      (
        take n line,
        row.1.1,
        record {
          line = line;
          more = drop n line;
          refused = has_refusal answers.replies;
          demo = record { tally = tally; answers = answers; line_is = refl; refused_is = refl };
          begins = sym (take-append-drop n line);
        },
      ),
    )
written_so (Err stops.OutOfMemory) rose held_old held_new size old new tally answers row = (row, at_its_end old new (script_bytes size) tally answers)

-- memory ran out before the line was written
pub out_of_memory : (result : Result Bool Stop) (rose : Type 0) (held : Option (List ℕ)) (size : ℕ) (old new : State) → IsErrAnd result (λ e. e ≡ stops.OutOfMemory) → StopsIn old (script_bytes size) new
    → LineRow result rose held held size old new
out_of_memory (Ok refused) rose held size old new is stops_in = absurd is
out_of_memory (Err e) rose held size old new is stops_in = subst (λ stop. LineRow (Err stop) rose held held size old new) (sym is) (Keeps-refl held, stops_in)

module _ (size : ℕ) (old new : State) (left held_old held_new : Option (List ℕ)) (reads writes_old writes_new : ℕ) where
  abbrev Ends : Ending → Type 0
  Ends ending = Ended (Some (Demo size)) ending (told left held_old reads writes_old) (told left held_new reads writes_new) old new

  kept : Keeps held_old held_new → Appends held_old held_new []
  kept same = Appends-kept held_old held_old held_new [] (Appends-nil held_old) same

  pub answered : LineRow (Ok false) (Rose writes_old writes_new) held_old held_new size old new → Ends Answered
  answered row = record { came = []; written = row.0; took = Consumes-nil left; put = row.1; row = ((refl, refl), row.2) }

  pub with_refusal : LineRow (Ok true) (Rose writes_old writes_new) held_old held_new size old new → Ends WithRefusal
  with_refusal row = record { came = []; written = row.0; took = Consumes-nil left; put = row.1; row = ((refl, refl), row.2) }

  -- in a state from which the machine goes on, the first statements begin a run over the script
  breaks_off : GoesOnFrom new → StopsIn old (script_bytes size) new → BreaksOffIn old (script_bytes size) new
  breaks_off goes stops_in =
      let on = goes old (script_bytes size) true stops_in.statements stops_in.rest stops_in.replies stops_in.begins stops_in.run in
      record { stops = stops_in; all = on.0; whole = on.1 }

  by_stop : GoesOnFrom new → (stop : Stop) → LineRow (Err stop) (Rose writes_old writes_new) held_old held_new size old new → Ends (ending_of stop)
  by_stop goes stops.WriteFault row = record { came = []; written = row.1.0; took = Consumes-nil left; put = row.1.1; row = ((refl, refl), row.0, row.1.2) }
  by_stop goes stops.OutOfMemory row = record { came = []; written = []; took = Consumes-nil left; put = kept row.0; row = ((refl, refl), refl, breaks_off goes row.1) }

  pub stopped : (ending : Ending) (stop : Stop) → ending ≡ ending_of stop → LineRow (Err stop) (Rose writes_old writes_new) held_old held_new size old new → GoesOnFrom new → Ends ending
  stopped ending stop is row goes = subst Ends (sym is) (by_stop goes stop row)
