-- What is answered to `against`: that the row is certain, the rows that are kept against it, or that there are too many witnesses.
use Rattle.std.proofs.Common.{inl, inr, List, map, refl}
use Rattle.cqa_value.specs.declared.value.Value.{Value}
use Rattle.cqa_model.specs.declared.query.Query.{Query}
use Rattle.cqa_model.specs.Query.{FitsDatabase}
use Rattle.existence_law.proofs.Hitting.{rows_against_exist}
use Rattle.existence_law.proofs.Answering.{rows_are_decided}
use Rattle.existence_law.proofs.Attacking.{methods_are_decided}
use Rattle.existence_law.proofs.Naming.{witnesses_are_listed}
use Rattle.join_access.specs.Listing.{HasTooMany}
use Rattle.refusals.specs.declared.refusal.Refusal.TheVariants.{WitnessLimit}
use Rattle.reply_text.specs.declared.reply.Reply.TheVariants.{Certain, Against, Refused}
use Rattle.session_state.specs.State.{State, IsState}
use Rattle.reason_statements.specs.Against.{TellsAgainst}
use Rattle.query_replies.specs.Kept.{kept_line}
use Rattle.command_shell.specs.Changing.{GoesOnTo}

module _ (old : State) (q : Query) (row : List Value) (is : IsState old) (fits : FitsDatabase q old.tables) where
  by_few : (HasTooMany q old.tables row → ⊥) → GoesOnTo (TellsAgainst old q row)
  by_few few = elim (rows_are_decided.certain old.tables q row) [
    | inl certain ↦ (Certain, old, (((certain, λ needs. few), refl), is))
    | inr uncertain ↦
        let names = rows_against_exist old.tables q row is.database fits uncertain in
        (Against (map (kept_line old.tables) names.0), old, (((names.0, (names.1, few), refl), refl), is))
  ]

  -- with too many witnesses only a row that no search has to decide may be told to be certain
  by_many : HasTooMany q old.tables row → GoesOnTo (TellsAgainst old q row)
  by_many over = elim (methods_are_decided.search q) [
    | inl needs ↦ (Refused (WitnessLimit row), old, ((refl, (over, λ none. absurd (none needs)), refl), is))
    | inr none ↦ elim (rows_are_decided.certain old.tables q row) [
      | inl certain ↦ (Certain, old, (((certain, λ needs. absurd (none needs)), refl), is))
      | inr uncertain ↦ (Refused (WitnessLimit row), old, ((refl, (over, λ n. uncertain), refl), is))
    ]
  ]

pub against_is_told : (old : State) (q : Query) (row : List Value) → IsState old → FitsDatabase q old.tables → GoesOnTo (TellsAgainst old q row)
against_is_told old q row is fits = elim (witnesses_are_listed.count old.tables q row) [ inl over ↦ by_many old q row is fits over | inr few ↦ by_few old q row is fits few ]
