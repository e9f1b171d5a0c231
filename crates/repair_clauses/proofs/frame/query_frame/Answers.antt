use Rattle.std.proofs.Common.{◌≤◌, ◌<◌, ◌∙◌, ℕ, List, length, get_or, sym, subst, arith}
use Rattle.std.proofs.lemmas.Result.{IfOk-weaker}
use Rattle.cqa_model.specs.declared.limits.TheConstants.{MOST_TABLES}
use Rattle.row_lists.specs.declared.frame.Frame.{Frame}
use Rattle.row_lists.proofs.Framing.{AreApart}
use Rattle.repair_clauses.specs.Frames.{tables_of}
use Rattle.repair_clauses.proofs.Bridge.{is-frame, long}
use Rattle.repair_clauses.proofs.frame.query_frame.Goals as goal

pub frame_of-requires-clause-few : goal.frame_of-requires-clause-few
frame_of-requires-clause-few c =
    let b = c.args.bound.now in
    let size = long b.query.now b.db.now b.fits in
    let few = b.query.now.kept.size.1 in
    subst (λ (xs : List ℕ). length xs ≤ MOST_TABLES) (sym c.in_ok-tables.ensures) (let z : length (tables_of b.query.now) ≤ MOST_TABLES = omega (arith, size, few) in z)

pub frame_of-requires-clause-there : goal.frame_of-requires-clause-there
frame_of-requires-clause-there c =
    let b = c.args.bound.now in
    subst (λ (xs : List ℕ). (s : ℕ) → s < length xs → get_or xs s 0 < length b.db.now) (sym c.in_ok-tables.ensures) (is-frame b.query.now b.db.now b.fits).there

pub frame_of-requires-clause-apart : goal.frame_of-requires-clause-apart
frame_of-requires-clause-apart c =
    let b = c.args.bound.now in
    subst AreApart (sym c.in_ok-tables.ensures) (is-frame b.query.now b.db.now b.fits).apart

pub returns-clause-tables : goal.returns-clause-tables
returns-clause-tables c = IfOk-weaker c.frame_of.result _ _ (λ (f : Frame) e. e ∙ c.in_ok-tables.ensures) c.frame_of.ensures.same
