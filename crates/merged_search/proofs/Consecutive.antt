-- Additions under consecutive ids, looked through from the first on.
use Rattle.std.proofs.Common.{◌≡◌, ◌<◌, ◌+◌, ℕ, zero, suc, le_of_suc-le-suc, List, [], ◌∷◌, ◌++◌, sym, subst, arith, length, take, get_or}
use Rattle.cnf_form.specs.declared.log.Step.{Step}
use Rattle.cnf_form.specs.declared.log.Step.TheVariants.{Add, Delete}
use Rattle.std.proofs.lemmas.List.{length-take-le, take_more}
use Rattle.cnf_form.specs.Logs.{AreConsecutive}

push : (n m : ℕ) (steps : List Step) (step : Step) → m ≡ n + length steps → AreConsecutive n steps → AreConsecutive m (step ∷ []) → AreConsecutive n (steps ++ step ∷ [])
push n m [] step e all next = subst (λ (k : ℕ). AreConsecutive k (step ∷ [])) (omega (arith, e)) next
push n m (Add id clause hints ∷ steps) step e all next = (all.0, push (n + 1) m steps step (omega (arith, e)) all.1 next)
push n m (Delete ids ∷ steps) step e all next = absurd all

-- one step more
pub consecutive_more : (n m : ℕ) (steps : List Step) (i : ℕ) (step : Step) → i < length steps → step ≡ get_or steps i step → m ≡ n + i → AreConsecutive n (take i steps)
    → AreConsecutive m (step ∷ []) → AreConsecutive n (take (i + 1) steps)
consecutive_more n m steps i step h at e all next = subst (λ (xs : List Step). AreConsecutive n xs) (sym (take_more steps i step h))
    (subst (λ (x : Step). AreConsecutive n (take i steps ++ x ∷ [])) at (push n m (take i steps) step (omega (arith, e, length-take-le i steps (omega (arith, h)))) all next))

-- the step at a place
pub consecutive_at : (n : ℕ) (steps : List Step) (i : ℕ) (step : Step) → i < length steps → step ≡ get_or steps i step → AreConsecutive n steps → AreConsecutive (n + i) (step ∷ [])
consecutive_at n [] i step h at all = absurd (omega (arith, h))
consecutive_at n (Add id clause hints ∷ steps) zero step h at all =
    subst (λ (x : Step). AreConsecutive (n + 0) (x ∷ [])) (sym at) (let here = all.0 in omega (arith, here), tt)
consecutive_at n (Add id clause hints ∷ steps) (suc i) step h at all =
    subst (λ (k : ℕ). AreConsecutive k (step ∷ [])) (omega arith) (consecutive_at (n + 1) steps i step (le_of_suc-le-suc h) at all.1)
consecutive_at n (Delete ids ∷ steps) i step h at all = absurd all
