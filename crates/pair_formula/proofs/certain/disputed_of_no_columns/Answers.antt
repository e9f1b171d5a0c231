use Rattle.std.proofs.Common.{◌∙◌, [], sym, subst, true≢false}
use Rattle.std.proofs.lemmas.Result.{IfOk-weaker}
use Rattle.cqa_model.specs.Certain.{IsCertain, IsPossibleAnswer}
use Rattle.row_answers.specs.Sides.{IsDisputedAnswer}
use Rattle.pair_formula.proofs.Sieving.{none-disputed, all-disputed}
use Rattle.pair_formula.proofs.certain.disputed_of_no_columns.Goals as goal

pub returns-then-branch : goal.returns-then-branch
returns-then-branch c =
    let b = c.args.pair.now.bound.now in
    none-disputed b.db.now b.query.now b.fits c.requires c.new.result (subst (IsCertain b.db.now b.query.now) c.new-row.ensures (c.in_ok-is_certain.ensures.0 c.if-branch.true)) c.new.ensures

pub returns : goal.returns
returns c =
    let b = c.args.pair.now.bound.now in
    let rejected : IsCertain b.db.now b.query.now [] → ⊥ = λ k. true≢false (sym (c.in_ok-is_certain.ensures.1 (subst (IsCertain b.db.now b.query.now) (sym c.new-row.ensures) k)) ∙ c.if-branch.false) in
    IfOk-weaker c.candidates.result (IsPossibleAnswer b.db.now b.query.now) (IsDisputedAnswer b.db.now b.query.now)
    (λ answers possible. all-disputed b.db.now b.query.now b.fits c.requires answers rejected possible) c.candidates.ensures.possible
