-- As many choices as there are pass a test just where each passes.
use Rattle.std.proofs.Common.{◌≡◌, suc, ◌≤◌, Bool, true, false, not, cond, List, [], ◌∷◌, length, refl, ap, sym, ◌∙◌, subst, arith, Contains, inl, inr}
use Rattle.std.specs.List.{filter}
use Rattle.std.proofs.lemmas.List.Filters.{length-filter_both}
use Rattle.cqa_model.proofs.Classic.{mem-head, mem-tail, mem-nil, mem-cases}
use Rattle.plan_sql.specs.Laws.{CountIsEach}

module _ {A : Type 0} (test : A → Bool) where
  at-most : (xs : List A) → length (filter test xs) ≤ length xs
  at-most xs = omega (arith, length-filter_both test (λ x. not (test x)) (λ x. refl) xs)

  each-from : (xs : List A) → length (filter test xs) ≡ length xs → (x : A) → Contains xs x → test x ≡ true
  each-from [] e x m = absurd (mem-nil x m)
  each-from (y ∷ ys) e x m = go (test y) refl (λ more. each-from ys more x)
    where
      go : (b : Bool) → test y ≡ b → (length (filter test ys) ≡ length ys → Contains ys x → test x ≡ true) → test x ≡ true
      go true t later =
          let rest : suc (length (filter test ys)) ≡ suc (length ys) = subst (λ b. length (cond b (y ∷ filter test ys) (filter test ys)) ≡ suc (length ys)) t e in
          elim (mem-cases x y ys m) [ inl same ↦ ap test (sym same) ∙ t | inr n ↦ later (omega (arith, rest)) n ]
      go false t later =
          let rest : length (filter test ys) ≡ suc (length ys) = subst (λ b. length (cond b (y ∷ filter test ys) (filter test ys)) ≡ suc (length ys)) t e in
          let few = at-most ys in
          absurd (omega (arith, rest, few))

  each-into : (xs : List A) → ((x : A) → Contains xs x → test x ≡ true) → length (filter test xs) ≡ length xs
  each-into [] h = refl
  each-into (y ∷ ys) h =
      subst (λ b. length (cond b (y ∷ filter test ys) (filter test ys)) ≡ suc (length ys)) (sym (h y (mem-head y ys)))
      (ap suc (each-into ys (λ x m. h x (mem-tail x y ys m))))

pub count_is_each : CountIsEach
count_is_each shows choices = (each-from shows choices, each-into shows choices)
