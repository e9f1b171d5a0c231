use Rattle.std.proofs.Common.{◌≡◌, ℕ, ◌+◌, ◌<◌, List, Contains, true≢false, get_or, take, inl, inr, refl, sym, subst, arith}
use Rattle.std.proofs.lemmas.List.{take_more, take_all}
use Rattle.std.proofs.lemmas.List.Elements.{Contains-get_or, Contains-push_cases}
use Rattle.choice_values.proofs.asked.have_rows.Goals as goal

pub returns-then-size-eq0 : goal.returns-then-size-eq0
returns-then-size-eq0 c =
    let sizes = c.args.sizes.now in
    let i = c.loop-size.size-index in
    ((λ t. absurd (true≢false (sym t))), (λ h. absurd (let p = h (get_or sizes i 0) (Contains-get_or sizes i 0 c.loop-size-test.true) in let e = c.if-size-eq0.true in omega (arith, p, e))))

pub loop-size-preserved : goal.loop-size-preserved
loop-size-preserved c s m =
    let sizes = c.args.sizes.now in
    let i = c.loop-size.size-index in
    elim (Contains-push_cases (take i sizes) (get_or sizes i 0) s (subst (λ (xs : List ℕ). Contains xs s) (take_more sizes i 0 c.loop-size-test.true) m)) [
      | inl k ↦ c.loop-size.invariant s k
      | inr e ↦ (let n = c.if-size-eq0.false in omega (arith, e, n))
    ]

pub returns : goal.returns
returns c =
    let sizes = c.args.sizes.now in
    let i = c.loop-size.size-index in
    ((λ t s m. c.loop-size.invariant s (subst (λ (xs : List ℕ). Contains xs s) (sym (take_all i sizes (let f = c.loop-size-test.false in omega (arith, f)))) m)), (λ h. refl))
