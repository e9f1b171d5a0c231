use Rattle.std.proofs.Common.{◌≡◌, ◌<◌, false, inl, inr, sym, arith, ◌∙◌, true≢false}
use Rattle.repair_back.specs.Results.{is_contested}
use Rattle.repair_back.proofs.Beside.{same-bool, next-rival, before-rival, beside}
use Rattle.repair_back.proofs.rivals.has_rival.Goals as goal

pub returns-then-has_next : goal.returns-then-has_next
returns-then-has_next c =
    let g = c.has_next.ensures.0 c.if-has_next.true in
    sym (next-rival c.args.key.now c.args.rows.now c.requires.order c.args.place c.requires.there g.0 g.1)

pub returns-then-place-eq0 : goal.returns-then-place-eq0
returns-then-place-eq0 c =
    let zero : c.args.place ≡ 0 = c.if-place-eq0.true in
    same-bool false (is_contested c.args.key.now c.args.rows.now _) (λ e. absurd (true≢false (sym e)))
    (λ h. elim (beside c.args.key.now c.args.rows.now c.requires.order c.args.place c.requires.there h) [
      | inl g ↦ absurd (true≢false (sym (c.has_next.ensures.1 g) ∙ c.if-has_next.false))
      | inr (l, s) ↦ absurd (omega (arith, l, zero))
    ])

pub returns : goal.returns
returns c =
    let some : 0 < c.args.place = omega (arith, c.if-place-eq0.false) in
    same-bool c.goes_on.result (is_contested c.args.key.now c.args.rows.now _)
    (λ e. before-rival c.args.key.now c.args.rows.now c.requires.order c.args.place c.requires.there some (c.goes_on.ensures.0 e))
    (λ h. elim (beside c.args.key.now c.args.rows.now c.requires.order c.args.place c.requires.there h) [
      | inl g ↦ absurd (true≢false (sym (c.has_next.ensures.1 g) ∙ c.if-has_next.false))
      | inr (l, s) ↦ c.goes_on.ensures.1 s
    ])
