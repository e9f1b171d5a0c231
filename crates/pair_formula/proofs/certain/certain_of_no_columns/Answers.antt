use Rattle.std.proofs.Common.{◌++◌, ◌∷◌, [], ap, sym, subst, ◌∙◌, true≢false}
use Rattle.cqa_model.specs.Certain.{IsCertain}
use Rattle.pair_formula.proofs.Sieving.{lone-certain, lone-rejected}
use Rattle.pair_formula.proofs.certain.certain_of_no_columns.Goals as goal
use Rattle.pair_formula.proofs.certain.certain_of_no_columns.Goals.{then-branch+in_ok-push, else-branch}

pub returns : goal.returns
returns c =
    let db = c.args.pair.now.bound.now.db.now in
    let q = c.args.pair.now.bound.now.query.now in
    let row = c.new-row.result in
    let empty = c.new-row.ensures in
    elim c.if-branch.branch [
      | then-branch+in_ok-push w ↦ lone-certain db q c.args.pair.now.bound.now.fits c.requires c.if-branch.answers
          (subst (IsCertain db q) empty (c.in_ok-is_certain.ensures.0 w.if-branch.true))
          (w.answers-is ∙ w.in_ok-push.ensures.ok ∙ ap (λ z. z ++ row ∷ []) c.new-answers.ensures ∙ ap (λ z. z ∷ []) empty)
      | else-branch w ↦ lone-rejected db q c.args.pair.now.bound.now.fits c.requires c.if-branch.answers
          (λ k. true≢false (sym (c.in_ok-is_certain.ensures.1 (subst (IsCertain db q) (sym empty) k)) ∙ w.if-branch.false))
          (w.answers-is ∙ c.new-answers.ensures)
    ]
