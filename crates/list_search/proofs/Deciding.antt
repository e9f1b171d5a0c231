-- The solver takes the formula of lists, and its answer decides whether every repair keeps one whole.
use Rattle.std.proofs.Common.{◌≡◌, ℕ, ◌<◌, ◌≤◌, ◌+◌, List, length, get_or, Result, Ok, Err, IfOk, sym, subst, arith, Contains, Bool}
use Rattle.std.proofs.lemmas.List.Elements.{Contains-get_or}
use Rattle.cqa_value.specs.declared.memory.NoMemory.{NoMemory}
use Rattle.cqa_model.specs.declared.query.RowId.{RowId}
use Rattle.cqa_model.specs.Database.{Table, IsDatabase}
use Rattle.cnf_form.specs.declared.formula.Lit.{Lit}
use Rattle.cnf_form.specs.declared.formula.Cnf.{Cnf}
use Rattle.cnf_form.specs.declared.log.Log.{Log}
use Rattle.cnf_form.specs.Literals.{AreVarsInRange, SatisfiesAll}
use Rattle.cnf_form.specs.Logs.{Refutes, AreConsecutive}
use Rattle.cnf_form.specs.Spent.{IsSpentLog}
use Rattle.cnf_form.proofs.Sound.{refutation_sound}
use Rattle.cdcl.specs.declared.outcome.Outcome.{Outcome}
use Rattle.cdcl.specs.declared.outcome.Outcome.TheVariants.{Sat, Unsat, Spent}
use Rattle.cdcl.specs.Outcomes.{IsModel, IsOnce, OutcomeIs, assignment}
use Rattle.row_lists.specs.declared.formula.Encoded.{Encoded}
use Rattle.row_lists.specs.Clauses.{Rises, clauses}
use Rattle.row_lists.specs.Spans.{at}
use Rattle.row_lists.specs.Lists.{AreStoredLists}
use Rattle.row_lists.specs.Formulas.{IsFrame, AreWithin}
use Rattle.row_lists.specs.Encodings.{IsListEncoded}
use Rattle.row_lists.proofs.Formulas.{list_clauses_rise, lists_decide}
use Rattle.list_search.specs.declared.decision.Decided.{Decided}
use Rattle.list_search.specs.declared.judging.Judged.{Judged}
use Rattle.list_search.specs.Judging.{IsJudged, Judges, SaysOf}
use Rattle.list_search.proofs.Rising.{rising-range, rising-once}

-- the lists have one
some_list : (lists : List (List RowId)) (names : List RowId) → Contains lists names → 0 < length lists
some_list lists names m = let l = m.1 in omega (arith, l)

module _ (db : List Table) (frame : List ℕ) (lists : List (List RowId)) (e : Encoded) (h : IsListEncoded db frame lists e) where
  rise : (c : List Lit) → Contains (clauses h.formula) c → Rises (length h.formula.variables) c
  rise = list_clauses_rise db frame lists h.formula h.is

  pub in_range : AreVarsInRange e.cnf
  in_range = rising-range e.cnf (clauses h.formula) (length h.formula.variables) h.are h.vars rise

  pub once : IsOnce e.cnf
  once = rising-once e.cnf (clauses h.formula) (length h.formula.variables) h.are h.vars rise

  module _ (d : IsDatabase db) (f : IsFrame db frame) (within : AreWithin frame lists) (st : AreStoredLists db lists) where
    pub says_of : (budget : ℕ) (o : Outcome) → OutcomeIs e.cnf budget o → SaysOf db lists o
    says_of budget (Sat values) m = λ forced. (lists_decide db frame lists h.formula d f within st h.is).0 forced (assignment values) (subst (SatisfiesAll (assignment values)) h.are m.1)
    says_of budget (Unsat log) m = (lists_decide db frame lists h.formula d f within st h.is).1 (λ v sat. refutation_sound e.cnf log.steps m.0 v (subst (SatisfiesAll v) (sym h.are) sat))
    says_of budget (Spent log) m =
        let free = m.free in
        let low = free.1 in
        let high = free.2 in
        let vars = h.vars in
        let some : 0 < length h.formula.variables = omega (arith, low, high, vars) in
        let x = get_or h.formula.variables 0 (at 0 0) in
        let relevant = ((h.is.variables.exactly x).0 (Contains-get_or h.formula.variables 0 (at 0 0) some)).1.1 in
        some_list lists relevant.1.0 relevant.1.1

    -- what is found out of the lists of a decided formula
    pub judged_is : (budget : ℕ) (o : Outcome) (j : Judged) → OutcomeIs e.cnf budget o → Judges e o j → IsJudged db frame lists budget j
    judged_is budget (Sat values) j o is = subst (IsJudged db frame lists budget) (sym is) (says_of budget (Sat values) o)
    judged_is budget (Unsat log) j o is = subst (IsJudged db frame lists budget) (sym is) (says_of budget (Unsat log) o)
    judged_is budget (Spent log) j o is = subst (IsJudged db frame lists budget) (sym is) (record { some = says_of budget (Spent log) o; rows = e.rows; formula = h; spent = o })

-- what the solver's clauses say of an outcome
outcome_is : (cnf : Cnf) (budget : ℕ) (r : Result Outcome NoMemory) (o : Outcome) → r ≡ Ok o → ((values : List Bool) → r ≡ Ok (Sat values) → IsModel cnf values) →
    ((log : Log) → r ≡ Ok (Unsat log) → Refutes cnf log.steps) → ((log : Log) → r ≡ Ok (Unsat log) → AreConsecutive (length cnf.clauses) log.steps) →
    ((log : Log) → r ≡ Ok (Unsat log) → length log.steps ≤ budget + 1) → ((log : Log) → r ≡ Ok (Spent log) → IsSpentLog cnf budget log.steps) → OutcomeIs cnf budget o
outcome_is cnf budget r (Sat values) e sat refutes ids size spent = sat values e
outcome_is cnf budget r (Unsat log) e sat refutes ids size spent = (refutes log e, ids log e, size log e)
outcome_is cnf budget r (Spent log) e sat refutes ids size spent = spent log e

-- the same of an outcome that is kept beside its formula
pub kept_is : (cnf : Cnf) (budget : ℕ) (r : Result Outcome NoMemory) (kept : Result Decided NoMemory) → IfOk kept (λ decided. r ≡ Ok decided.outcome) →
    ((values : List Bool) → r ≡ Ok (Sat values) → IsModel cnf values) → ((log : Log) → r ≡ Ok (Unsat log) → Refutes cnf log.steps) →
    ((log : Log) → r ≡ Ok (Unsat log) → AreConsecutive (length cnf.clauses) log.steps) → ((log : Log) → r ≡ Ok (Unsat log) → length log.steps ≤ budget + 1) →
    ((log : Log) → r ≡ Ok (Spent log) → IsSpentLog cnf budget log.steps) → IfOk kept (λ decided. OutcomeIs cnf budget decided.outcome)
kept_is cnf budget r (Ok decided) e sat refutes ids size spent = outcome_is cnf budget r decided.outcome e sat refutes ids size spent
kept_is cnf budget r (Err fault) e sat refutes ids size spent = tt
