-- Lists whose places are all taken, pushed to and cut.
use Rattle.std.proofs.Common.{◌≡◌, ◌<◌, ℕ, suc, zero, length, List, [], ◌∷◌, ◌++◌, Option, Some, None, refl, ap, slice_get, arith, take}
use Rattle.row_order.specs.Lists.{taken_values, AllTaken}

pub taken-push : {A B : Type 0} (f : A → B) (xs : List (Option A)) (x : A) → taken_values f (xs ++ Some x ∷ []) ≡ taken_values f xs ++ f x ∷ []
taken-push f [] x = refl
taken-push f (Some y ∷ xs) x = ap (λ ys. f y ∷ ys) (taken-push f xs x)
taken-push f (None ∷ xs) x = taken-push f xs x

pub AllTaken-push : {A : Type 0} (xs : List (Option A)) (x : A) → AllTaken xs → AllTaken (xs ++ Some x ∷ [])
AllTaken-push [] x h = tt
AllTaken-push (Some y ∷ xs) x h = AllTaken-push xs x h
AllTaken-push (None ∷ xs) x h = absurd h

pub taken-take : {A B : Type 0} (f : A → B) (n : ℕ) (xs : List (Option A)) → AllTaken xs → taken_values f (take n xs) ≡ take n (taken_values f xs)
taken-take f zero xs h = refl
taken-take f (suc n) [] h = refl
taken-take f (suc n) (Some x ∷ xs) h = ap (λ ys. f x ∷ ys) (taken-take f n xs h)
taken-take f (suc n) (None ∷ xs) h = absurd h

pub AllTaken-take : {A : Type 0} (n : ℕ) (xs : List (Option A)) → AllTaken xs → AllTaken (take n xs)
AllTaken-take zero xs h = tt
AllTaken-take (suc n) [] h = tt
AllTaken-take (suc n) (Some x ∷ xs) h = AllTaken-take n xs h
AllTaken-take (suc n) (None ∷ xs) h = absurd h

pub length-taken : {A B : Type 0} (f : A → B) (xs : List (Option A)) → AllTaken xs → length (taken_values f xs) ≡ length xs
length-taken f [] h = refl
length-taken f (Some x ∷ xs) h = ap suc (length-taken f xs h)
length-taken f (None ∷ xs) h = absurd h

pub taken-get : {A B : Type 0} (f : A → B) (xs : List (Option A)) (i : ℕ) → AllTaken xs → i < length xs → (x : A) × (slice_get xs i ≡ Some (Some x)) × (slice_get (taken_values f xs) i ≡ Some (f x))
taken-get f [] i h l = absurd (omega (arith, l))
taken-get f (Some x ∷ xs) zero h l = (x, refl, refl)
taken-get f (Some x ∷ xs) (suc i) h l = taken-get f xs i h (omega (arith, l))
taken-get f (None ∷ xs) i h l = absurd h
