-- What is answered to `ask` and `disputed`: the rows of the side, or the first candidate with too many witnesses. No search has to spend its
-- budget.
use Rattle.std.proofs.Common.{inl, inr, Bool, List, filter, not, refl, ap}
use Rattle.std.proofs.lemmas.List.Kept.{IsStrictlySortedBy-filter}
use Rattle.cqa_value.specs.declared.value.Value.{Value}
use Rattle.cqa_value.specs.Values.{row_cmp}
use Rattle.cqa_value.proofs.Words.{is_yes, yes_of, no_of, clash_not, Contains-filter}
use Rattle.cqa_model.specs.declared.query.Query.{Query}
use Rattle.cqa_model.specs.Database.{Table}
use Rattle.cqa_model.specs.Query.{FitsDatabase}
use Rattle.existence_law.proofs.Answering.{answers_exist, dec_certain}
use Rattle.existence_law.proofs.Attacking.{methods_are_decided}
use Rattle.existence_law.proofs.Limiting.{first_over_exists}
use Rattle.query_strategy.specs.Strategies.{NeedsSearch}
use Rattle.refusals.specs.declared.refusal.Refusal.TheVariants.{WitnessLimit}
use Rattle.reply_text.specs.declared.reply.Reply.TheVariants.{Rows, Refused}
use Rattle.row_answers.specs.declared.side.Side.{Side}
use Rattle.row_answers.specs.declared.side.Side.TheVariants.{Certain, Disputed}
use Rattle.row_answers.specs.Sides.{IsAnswerOf, IsDisputedAnswer}
use Rattle.session_state.specs.State.{State, IsState}
use Rattle.query_statements.specs.Sides.{TellsSide, IsWithinWitnesses}
use Rattle.command_shell.specs.Changing.{GoesOnTo}

-- the disputed rows are the possible ones that aren't certain
disputed_answer : (db : List Table) (q : Query) → FitsDatabase q db → (rows : List (List Value)) × IsDisputedAnswer db q rows
disputed_answer db q fits =
    let l = answers_exist.possible db q fits in
    let open_row : List Value → Bool = λ row. not (is_yes (dec_certain db q row)) in (
      filter open_row l.0,
      record {
        ascending = IsStrictlySortedBy-filter row_cmp open_row l.0 l.1.ascending;
        exactly = λ row.
            let f = Contains-filter open_row l.0 row in (
              λ m. (let k = f.0 m in ((l.1.exactly row).0 k.0, λ c. clash_not (is_yes (dec_certain db q row)) k.1 (yes_of (dec_certain db q row) c))),
              λ h. f.1 ((l.1.exactly row).1 h.0, ap not (no_of (dec_certain db q row) h.1)),
            );
      },
    )

side_answer : (db : List Table) (q : Query) (side : Side) → FitsDatabase q db → (rows : List (List Value)) × IsAnswerOf db q side rows
side_answer db q Certain fits = answers_exist.certain db q fits
side_answer db q Disputed fits = disputed_answer db q fits

pub sides_are_told : (old : State) (q : Query) (side : Side) → IsState old → FitsDatabase q old.tables → GoesOnTo (TellsSide old q side)
sides_are_told old q side is fits = elim (methods_are_decided.search q) [
  | inr none ↦ told (λ needs. absurd (none needs))
  | inl needs ↦ elim (first_over_exists old.tables q fits) [
    | inl within ↦ told (λ n. within)
    | inr f ↦ (Refused (WitnessLimit f.0), old, ((needs, ((f.1.0, f.1.1, f.1.2), refl)), is))
  ]
]
  where
    told : (NeedsSearch q → IsWithinWitnesses old.tables q) → GoesOnTo (TellsSide old q side)
    told within = let rows = side_answer old.tables q side fits in (Rows rows.0, old, ((rows.1, within, refl), is))
