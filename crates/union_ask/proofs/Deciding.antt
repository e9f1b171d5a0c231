-- What the solver finds out of a row's formula is found out of the row.
use Rattle.std.proofs.Common.{◌≡◌, ℕ, List, sym, subst}
use Rattle.cqa_value.specs.declared.value.Value.{Value}
use Rattle.cqa_model.specs.declared.query.Query.{Query}
use Rattle.cqa_model.specs.Database.{Table, IsDatabase}
use Rattle.cdcl.specs.declared.outcome.Outcome.{Outcome}
use Rattle.cdcl.specs.declared.outcome.Outcome.TheVariants as outcomes
use Rattle.cdcl.specs.Outcomes.{OutcomeIs}
use Rattle.row_lists.specs.declared.formula.Encoded.{Encoded}
use Rattle.list_search.specs.declared.decision.Decided.{Decided}
use Rattle.list_search.specs.Judging.{SaysOf}
use Rattle.list_search.proofs.Deciding.{says_of}
use Rattle.part_search.specs.Parts.{AllFit}
use Rattle.part_search.specs.Judging.{IsSpentOver}
use Rattle.part_search.proofs.Forced.{certain_is_forced}
use Rattle.part_search.proofs.Framing.{lists-within, lists-stored}
use Rattle.part_search.proofs.Verdicts.{candidate-of}
use Rattle.union_ask.specs.Candidates.{AreTablesIn}
use Rattle.union_ask.specs.Encodings.{IsEncodedIn}
use Rattle.union_ask.specs.Reasons.{IsDecidedIn, SaysIn}
use Rattle.union_ask.specs.Searching.{IsSpentIn}
use Rattle.union_ask.proofs.Framing.{are-frame, frame-for}
use Rattle.cnf_form.specs.declared.formula.Cnf.{Cnf}
use Rattle.cnf_form.specs.declared.log.Log.{Log}

-- a spent log of the formula over the union's tables
pub spent-in : (db : List Table) (parts : List Query) (tables : List ℕ) → AreTablesIn parts tables → (budget : ℕ) (row : List Value) (cnf : Cnf) (log : Log) → IsSpentOver db tables parts budget row cnf log → IsSpentIn db parts budget row cnf log
spent-in db parts tables are budget row cnf log s = record {
  candidate = s.candidate;
  rows = s.rows;
  formula = record { tables = tables; are_tables = are; lists = s.formula.lists; are_lists = s.formula.are_lists; encoded = s.formula.encoded };
  spent = s.spent;
}

module _ (db : List Table) (parts : List Query) (d : IsDatabase db) (fits : AllFit parts db) (row : List Value) (e : Encoded) (h : IsEncodedIn db parts row e) where
  says : (o : Outcome) → SaysOf db h.lists o → SaysIn db parts row o
  says (outcomes.Sat values) k = λ c. k ((certain_is_forced db parts row h.lists fits h.are_lists).0 c)
  says (outcomes.Unsat log) k = (certain_is_forced db parts row h.lists fits h.are_lists).1 k
  says (outcomes.Spent log) k = candidate-of db parts row h.lists h.are_lists k

  pub decided-in : (budget : ℕ) (decided : Decided) → decided.formula ≡ e → OutcomeIs e.cnf budget decided.outcome → IsDecidedIn db parts row budget decided
  decided-in budget decided same o =
      let frame = frame-for db parts fits h.tables h.are_tables in
      let within = lists-within db parts h.tables frame row h.lists h.are_lists in
      let stored = lists-stored db parts h.tables frame row h.lists h.are_lists in
      record {
        formula = subst (IsEncodedIn db parts row) (sym same) h;
        outcome = subst (λ (g : Encoded). OutcomeIs g.cnf budget decided.outcome) (sym same) o;
        says = says decided.outcome (says_of db h.tables h.lists e h.encoded d (are-frame db parts fits h.tables h.are_tables) within stored budget decided.outcome o);
      }
