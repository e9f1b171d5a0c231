use Rattle.std.proofs.Common.{◌≡◌, ◌∙◌, sym, true, false, rules}
use Rattle.lrat_check.proofs.Shown.{shown_new, hold_default}
use Rattle.lrat_check.proofs.marks.Marks.hold.Goals as goal

pub returns-in_ok-make_true-in-Open : goal.returns-in_ok-make_true-in-Open
returns-in_ok-make_true-in-Open c = shown_new _ _ c.args.lit (sym c.truth.ensures ∙ c.in-Open.is) c.in_ok-make_true-in-Open.ensures.here c.in_ok-make_true-in-Open.ensures.others

pub returns-in_default : goal.returns-in_default
returns-in_default c =
    let same : c.eq.result ≡ true → c.truth.result ≡ c.sign_of.result = search rules in
    let apart : c.eq.result ≡ false → c.truth.result ≡ c.sign_of.result → ⊥ = search rules in
    hold_default c.args.self.now c.args.lit c.in_default.truth c.eq.result (sym c.truth.ensures ∙ c.in_default.truth-is)
    (λ e. c.in_default.not-Open (c.in_default.truth-is ∙ e))
    (λ e. sym c.in_default.truth-is ∙ same e ∙ c.sign_of.ensures)
    (λ e f. apart e (c.in_default.truth-is ∙ f ∙ sym c.sign_of.ensures))
