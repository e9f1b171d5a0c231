use Rattle.std.proofs.Common.{refl, sym, ◌∙◌, true≢false}
use Rattle.pair_answers.proofs.FitsAll.{plain-fits}
use Rattle.pair_answers.proofs.Parts.{to_parts, from_parts}
use Rattle.pair_answers.proofs.fits.fits.Goals as goal

pub returns-then-side : goal.returns-then-side
returns-then-side c =
    let side = c.args.side.now in
    (λ _. plain-fits side.bound.now.query.now side.atom (side.plain c.if-side.true) side.row.now c.args.x.now, λ _. refl)

pub returns : goal.returns
returns c =
    let side = c.args.side.now in
    let q = side.bound.now.query.now in (
      λ e. from_parts q side.row.now side.atom c.args.x.now (c.own_fits.ensures.0 c.if-not-own_fits.false) (c.passes_tests.ensures.0 c.if-not-passes_tests.false) (c.answer_fits.ensures.0 c.if-not-answer_fits.false) (c.given_fits.ensures.0 e),
      λ f. c.given_fits.ensures.1 (to_parts q side.row.now side.atom c.args.x.now f).3,
    )

pub returns-then-not-own_fits : goal.returns-then-not-own_fits
returns-then-not-own_fits c =
    let side = c.args.side.now in (
      λ e. absurd (true≢false (sym e)),
      λ f. absurd (true≢false (sym (c.own_fits.ensures.1 (to_parts side.bound.now.query.now side.row.now side.atom c.args.x.now f).0) ∙ c.if-not-own_fits.true)),
    )

pub returns-then-not-answer_fits : goal.returns-then-not-answer_fits
returns-then-not-answer_fits c =
    let side = c.args.side.now in (
      λ e. absurd (true≢false (sym e)),
      λ f. absurd (true≢false (sym (c.answer_fits.ensures.1 (to_parts side.bound.now.query.now side.row.now side.atom c.args.x.now f).2) ∙ c.if-not-answer_fits.true)),
    )
