use Rattle.std.proofs.Common.{sym, subst, length}
use Rattle.cnf_form.specs.Logs.{Refutes, AreConsecutive}
use Rattle.join_access.specs.Listing.{HasTooMany}
use Rattle.row_lists.specs.declared.formula.Encoded.{Encoded}
use Rattle.repair_clauses.specs.Encodings.{IsEncoded}
use Rattle.pair_answers.proofs.Told.{pair-told}
use Rattle.pair_formula.proofs.Carrying.{carried}
use Rattle.pair_formula.proofs.Linked.{pair-formula, certain-formula}
use Rattle.pair_formula.proofs.proving.refute_row.Goals as goal

pub with_log-requires-clause-formula : goal.with_log-requires-clause-formula
with_log-requires-clause-formula c =
    let pair = c.args.pair.now in
    let bound = pair.bound.now in
    let formula = c.in_ok-formula.field-0 in
    let told = c.in_ok-found.ensures.found in
    pair-formula bound.db.now bound.query.now c.args.row.now formula bound.fits (pair-told bound.query.now pair.pair)
    (carried (λ b row. IsEncoded b.query.now b.db.now row formula) _ _ _ _ told.0 told.1 c.in_ok-formula.ensures)

pub with_log-requires-clause-none : goal.with_log-requires-clause-none
with_log-requires-clause-none c =
    let bound = c.args.pair.now.bound.now in
    let formula = c.in_ok-formula.field-0 in
    let told = c.in_ok-found.ensures.found in
    (certain-formula bound.db.now bound.query.now c.args.row.now formula bound.fits
    (carried (λ b row. IsEncoded b.query.now b.db.now row formula) _ _ _ _ told.0 told.1 c.in_ok-formula.ensures)).1 c.requires.certain

pub returns-clause-refuted : goal.returns-clause-refuted
returns-clause-refuted c =
    let bound = c.args.pair.now.bound.now in
    let row = c.args.row.now in
    let formula = c.in_ok-formula.field-0 in
    let refuted = c.in_ok-refuted in
    let told = c.in_ok-found.ensures.found in
    record {
      formula = subst (IsEncoded bound.query.now bound.db.now row) (sym refuted.ensures.same) (carried (λ b r. IsEncoded b.query.now b.db.now r formula) _ _ _ _ told.0 told.1 c.in_ok-formula.ensures);
      refutes = subst (λ (f : Encoded). Refutes f.cnf refuted.refuted.log.steps) (sym refuted.ensures.same) refuted.ensures.refutes;
      ids = subst (λ (f : Encoded). AreConsecutive (length f.cnf.clauses) refuted.refuted.log.steps) (sym refuted.ensures.same) refuted.ensures.ids;
    }

pub returns-clause-within : goal.returns-clause-within
returns-clause-within c =
    let told = c.in_ok-found.ensures.found in
    carried (λ b row. HasTooMany b.query.now b.db.now row → ⊥) _ _ _ _ told.0 told.1 c.in_ok-found.found.within
