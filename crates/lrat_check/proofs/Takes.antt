-- Members of the first elements of a list.
use Rattle.std.proofs.Common.{◌≡◌, ℕ, ◌<◌, ◌+◌, List, [], ◌∷◌, ◌⊎◌, sym, subst, length, get_or, take}
use Rattle.std.specs.Prelude.{Contains}
use Rattle.std.proofs.lemmas.List.{take_more}
use Rattle.std.proofs.lemmas.List.Elements.{Contains-push_cases, Contains-append_left, Contains-push}

pub more_cases : {X : Type 0} (xs : List X) (i : ℕ) (d : X) → i < length xs → (x : X) → Contains (take (i + 1) xs) x → Contains (take i xs) x ⊎ (get_or xs i d ≡ x)
more_cases {X} xs i d h x k = Contains-push_cases (take i xs) (get_or xs i d) x (subst (λ (ys : List X). Contains ys x) (take_more xs i d h) k)

pub more_left : {X : Type 0} (xs : List X) (i : ℕ) (d : X) → i < length xs → (x : X) → Contains (take i xs) x → Contains (take (i + 1) xs) x
more_left {X} xs i d h x k = subst (λ (ys : List X). Contains ys x) (sym (take_more xs i d h)) (Contains-append_left (take i xs) (get_or xs i d ∷ []) x k)

pub more_here : {X : Type 0} (xs : List X) (i : ℕ) (d : X) → i < length xs → Contains (take (i + 1) xs) (get_or xs i d)
more_here {X} xs i d h = subst (λ (ys : List X). Contains ys (get_or xs i d)) (sym (take_more xs i d h)) (Contains-push (take i xs) (get_or xs i d))
