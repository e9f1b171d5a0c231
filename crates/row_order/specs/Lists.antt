-- Lists whose places are all taken.
use Rattle.std.specs.Prelude.{List, [], ◌∷◌, Option, Some, None}
use Rattle.std.specs.Borrow.{Bor}

-- what stands in the places that are taken, as `read` reads it
abbrev pub taken_values : {A B : Type 0} → (A → B) → List (Option A) → List B
taken_values read [] = []
taken_values read (Some x ∷ xs) = read x ∷ taken_values read xs
taken_values read (None ∷ xs) = taken_values read xs

-- each place is taken
abbrev pub AllTaken : {A : Type 0} → List (Option A) → Type 0
AllTaken [] = Unit {0}
AllTaken (Some x ∷ xs) = AllTaken xs
AllTaken (None ∷ xs) = ⊥

-- the values that are borrowed, or stand there themselves
abbrev pub borrowed_values : {A : Type 0} → List (Option (Bor A)) → List A
borrowed_values = taken_values (λ x. x.now)

abbrev pub held_values : {A : Type 0} → List (Option A) → List A
held_values = taken_values (λ x. x)
