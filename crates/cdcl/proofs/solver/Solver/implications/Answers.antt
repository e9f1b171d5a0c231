use Rattle.std.proofs.Common.{◌≤◌, ℕ, List, Option, sym, subst, arith, length}
use Rattle.cnf_form.specs.declared.formula.Clause.{Clause}
use Rattle.cnf_form.specs.Literals.{literals}
use Rattle.search_trail.specs.declared.trail.Entry.{Entry}
use Rattle.cdcl.specs.State.{IsSearchState, last_start}
use Rattle.cdcl.proofs.States.{last_in, past_last}
use Rattle.cdcl.proofs.solver.Solver.implications.Goals as goal

pub invariant_of-result : goal.invariant_of-result
invariant_of-result c =
    let s = c.args.self.now in
    let starts = s.level_starts.items in
    let st : IsSearchState (literals c.as_slice.result.now) c.as_slice-2.result.now c.as_slice-3.result.now starts =
    subst (λ (cs : List Clause). IsSearchState (literals cs) c.as_slice-2.result.now c.as_slice-3.result.now starts) (sym c.as_slice.ensures.value)
    (subst (λ (es : List Entry). IsSearchState (literals s.clauses.items) es c.as_slice-3.result.now starts) (sym c.as_slice-2.ensures.value)
    (subst (λ (ps : List (Option ℕ)). IsSearchState (literals s.clauses.items) s.trail.items ps starts) (sym c.as_slice-3.ensures.value) c.requires)) in
    let last : last_start starts ≤ length c.as_slice-2.result.now = last_in starts (length c.as_slice-2.result.now) st.under in
    record {
      within = omega (arith, last, c.last_start.ensures);
      placed = st.places_are;
      held_in = st.held_in;
      clauses_in = st.db_in;
      forced = λ p h. st.forced p (past_last starts p st.rising (omega (arith, h, c.last_start.ensures)));
      reasons = ∣ st.reasons ∣₁;
    }
