-- The solver takes the formula of a row, and its answer decides the row.
use Rattle.std.proofs.Common.{◌≡◌, ℕ, ◌<◌, List, length, get_or, sym, subst, arith}
use Rattle.cqa_value.specs.declared.value.Value.{Value}
use Rattle.cqa_model.specs.declared.query.Query.{Query}
use Rattle.cqa_model.specs.Database.{Table}
use Rattle.cqa_model.specs.Query.{FitsDatabase}
use Rattle.cnf_form.specs.Literals.{AreVarsInRange, SatisfiesAll}
use Rattle.cnf_form.proofs.Sound.{refutation_sound}
use Rattle.cdcl.specs.declared.outcome.Outcome.{Outcome}
use Rattle.cdcl.specs.declared.outcome.Outcome.TheVariants.{Sat, Unsat, Spent}
use Rattle.cdcl.specs.Outcomes.{IsOnce, OutcomeIs, assignment}
use Rattle.table_blocks.specs.declared.bound.Bound.{Bound}
use Rattle.join_access.specs.Listing.{HasTooMany}
use Rattle.row_witnesses.specs.declared.found.RowWitnesses.{RowWitnesses}
use Rattle.row_lists.specs.declared.formula.Encoded.{Encoded}
use Rattle.repair_clauses.specs.Encodings.{IsEncoded}
use Rattle.union_ask.specs.QueryDeciding.{SaysOf}
use Rattle.row_lists.specs.Clauses.{clauses}
use Rattle.row_lists.specs.Spans.{at}
use Rattle.repair_clauses.proofs.Order.{clauses_rise}
use Rattle.repair_clauses.proofs.Exact.{clauses_decide}
use Rattle.list_search.proofs.Rising.{rising-once, rising-range}

module _ (q : Query) (db : List Table) (row : List Value) (e : Encoded) (h : IsEncoded q db row e) where
  pub in_range : AreVarsInRange e.cnf
  in_range = rising-range e.cnf (clauses h.formula) (length h.formula.variables) h.are h.vars (clauses_rise db q row h.formula h.is)

  pub once : IsOnce e.cnf
  once = rising-once e.cnf (clauses h.formula) (length h.formula.variables) h.are h.vars (clauses_rise db q row h.formula h.is)

  pub says_of : FitsDatabase q db → (budget : ℕ) (o : Outcome) → OutcomeIs e.cnf budget o → SaysOf q db row o
  says_of fits budget (Sat values) m = λ certain. (clauses_decide db q row h.formula fits h.is).0 certain (assignment values) (subst (SatisfiesAll (assignment values)) h.are m.1)
  says_of fits budget (Unsat log) m = (clauses_decide db q row h.formula fits h.is).1 (λ v sat. refutation_sound e.cnf log.steps m.0 v (subst (SatisfiesAll v) (sym h.are) sat))
  says_of fits budget (Spent log) m =
      let free = m.free in
      let low = free.1 in
      let high = free.2 in
      let vars = h.vars in
      let some : 0 < length h.formula.variables = omega (arith, low, high, vars) in
      let x = get_or h.formula.variables 0 (at 0 0) in
      let relevant = ((h.is.variables.exactly x).0 (0, some, Rattle.std.proofs.lemmas.List.get_or_default h.formula.variables 0 x (at 0 0) some)).1 in
      (relevant.0, relevant.1)

-- what is made of a row's witnesses, and told of them, is of the row over what they are of
module _ (w : RowWitnesses) (b : Bound) (row : List Value) (same : w.bound.now ≡ b) (same_row : w.row.now ≡ row) where
  pub encoded_of : (e : Encoded) → IsEncoded w.bound.now.query.now w.bound.now.db.now w.row.now e → IsEncoded b.query.now b.db.now row e
  encoded_of e h = subst (λ (x : Bound). IsEncoded x.query.now x.db.now row e) same (subst (λ r. IsEncoded w.bound.now.query.now w.bound.now.db.now r e) same_row h)

  pub within_of : HasTooMany b.query.now b.db.now row → ⊥
  within_of = subst (λ (x : Bound). HasTooMany x.query.now x.db.now row → ⊥) same (subst (λ r. HasTooMany w.bound.now.query.now w.bound.now.db.now r → ⊥) same_row w.within)
