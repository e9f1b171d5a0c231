-- Where some statements of an input were answered, the machine goes on to its end; and what was written begins the text of that run.
use Rattle.std.proofs.Common.{◌≡◌, inl, inr, ℕ, Bool, true, false, List, [], ◌∷◌, ◌++◌, refl, sym, ap, ◌∙◌, subst, append_assoc, append-nil}
use Rattle.std.proofs.lemmas.List.Concat.{flat_map-append}
use Rattle.script_lex.specs.Scripts.{Statement, Begins, HasNoStatement}
use Rattle.script_lex.proofs.Statements.{Begins-append, begins_first}
use Rattle.reply_text.specs.declared.reply.Reply.{Reply}
use Rattle.reply_text.specs.Texts.{reply_text}
use Rattle.session_state.specs.State.{State}
use Rattle.command_shell.specs.Runs.{Run, Closes, CutShort, text_of}
use Rattle.reading_law.specs.Inputs.{InputsAreCut}
use Rattle.command_shell.specs.Laws.{RunsGoOn, StatesGoOn}
use Rattle.command_shell.specs.GoingOn.{GoesOnFrom, BeginsRun}
use Rattle.command_shell.proofs.Running.{closing}

-- a run goes on with another one from its end
pub run_join : (old mid new : State) (s t : List Statement) (xs ys : List Reply) → Run old s xs mid → Run mid t ys new → Run old (s ++ t) (xs ++ ys) new
run_join old mid new [] t [] ys first then = subst (λ z. Run z t ys new) first then
run_join old mid new [] t (x ∷ xs) ys first then = absurd first
run_join old mid new (a ∷ s) t [] ys first then = absurd first
run_join old mid new (a ∷ s) t (x ∷ xs) ys first then = (first.0, first.1, run_join first.0 mid new s t xs ys first.2 then)

pub states_go_on : RunsGoOn → InputsAreCut → StatesGoOn
states_go_on runs cuts mid is old input ended statements rest replies begins run =
    let found = cuts ended input in
    let cut = found.2 in
    let later = begins_first ended input statements found.0 rest found.1 begins cut.begins cut.over in
    let on = runs mid later.0 is in
    let last = closing ended found.1 in
    let answered = replies ++ on.0 in (
      answered ++ last.0,
      record {
        new = on.1;
        whole = record {
          statements = found.0;
          rest = found.1;
          answered = answered;
          last = last.0;
          cut = cut;
          run = subst (λ l. Run old l answered on.1) (sym later.1) (run_join old mid on.1 statements later.0 replies on.0 run on.2.0);
          closes = last.1;
          all = refl;
        };
        later = later.0;
        more = on.0;
        statements_are = later.1;
        replies_are = refl;
        run = on.2.0;
      },
    )

-- what begins bytes that haven't ended begins them as an input that has
begins_as : (from to : Bool) → (from ≡ true → to ≡ true) → (input : List ℕ) (s : List Statement) (rest : List ℕ) → Begins from input s rest → Begins to input s rest
begins_as true to so input s rest begins = subst (λ b. Begins b input s rest) (sym (so refl)) begins
begins_as false to so input s rest begins = subst (λ l. Begins to l s rest) (append-nil input) (subst (Begins to (input ++ []) s) (append-nil rest) (Begins-append to input [] s rest begins))

module _ {old : State} {bytes : List ℕ} {at_end : Type 0} {new : State} {written : List ℕ} (cut : CutShort old bytes at_end new written) (ended : Bool) (so : cut.ended ≡ true → ended ≡ true) where
  begins : Begins ended bytes cut.statements cut.rest
  begins = begins_as cut.ended ended so bytes cut.statements cut.rest cut.begins

  -- the statements were all, and the end was told
  ended_run : ended ≡ true → HasNoStatement true cut.rest → Closes true cut.rest cut.last → BeginsRun cut ended
  ended_run e over closes = record {
    all = cut.replies ++ cut.last;
    runs_on = record {
      new = new;
      whole = record {
        statements = cut.statements;
        rest = cut.rest;
        answered = cut.replies;
        last = cut.last;
        cut = record { begins = begins; over = subst (λ b. HasNoStatement b cut.rest) (sym e) over };
        run = cut.run;
        closes = subst (λ b. Closes b cut.rest cut.last) (sym e) closes;
        all = refl;
      };
      later = [];
      more = [];
      statements_are = sym (append-nil cut.statements);
      replies_are = sym (append-nil cut.replies);
      run = refl;
    };
    left = cut.more;
    begins = flat_map-append reply_text cut.replies cut.last ∙ cut.written_is;
  }

  -- the machine goes on with the statements that are left
  later_run : GoesOnFrom new → cut.last ≡ [] → BeginsRun cut ended
  later_run goes none =
      let on = goes old bytes ended cut.statements cut.rest cut.replies begins cut.run in
      let r = on.1 in
      let whole = r.whole in
      let said : text_of cut.replies ≡ written ++ cut.more = sym (append-nil (text_of cut.replies)) ∙ ap (λ l. text_of cut.replies ++ text_of l) (sym none) ∙ cut.written_is in
      record {
        all = on.0;
        runs_on = r;
        left = cut.more ++ (text_of r.more ++ text_of whole.last);
        begins =
            ap text_of whole.all ∙ flat_map-append reply_text whole.answered whole.last
            ∙ ap (λ l. l ++ text_of whole.last) (ap text_of r.replies_are ∙ flat_map-append reply_text cut.replies r.more ∙ ap (λ l. l ++ text_of r.more) said)
            ∙ append_assoc (written ++ cut.more) (text_of r.more) (text_of whole.last)
            ∙ append_assoc written cut.more (text_of r.more ++ text_of whole.last);
      }

  pub begins_run : GoesOnFrom new → BeginsRun cut ended
  begins_run goes = elim cut.tail [
    | inl none ↦ later_run goes none
    | inr end ↦ ended_run (so end.0) end.1 end.2
  ]
