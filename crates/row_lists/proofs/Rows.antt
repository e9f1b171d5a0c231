-- Variables and their numbers.
use Rattle.std.proofs.Common.{◌≡◌, ℕ, zero, suc, ◌<◌, ◌≤◌, ◌+◌, List, length, Option, Some, None, refl, sym, ◌∙◌, subst, arith, Contains, slice_get}
use Rattle.std.specs.Cmp.{IsTotalOrder}
use Rattle.std.proofs.lemmas.Cmp.{nat_cmp_total, on_total, then_total}
use Rattle.std.proofs.lemmas.Option.{slice_get_within, same_Some}
use Rattle.cqa_value.proofs.Words.{Contains-slice_get}
use Rattle.cqa_model.proofs.Values.{dec_by}
use Rattle.row_lists.specs.Clauses.{Variable, variable_cmp, HasNumber}
use Rattle.row_lists.proofs.Numbers.{place_of}

pub variable_total : IsTotalOrder variable_cmp
variable_total = then_total (on_total (λ (x : Variable). x.slot) nat_cmp_total) (on_total (λ (x : Variable). x.place) nat_cmp_total)

pub numbered : (variables : List Variable) (n : ℕ) (x : Variable) → HasNumber variables n x → Contains variables x
numbered variables zero x h = absurd h
numbered variables (suc k) x h = Contains-slice_get variables k x h

pub number_below : (variables : List Variable) (n : ℕ) (x : Variable) → HasNumber variables n x → (1 ≤ n) × (n < 1 + length variables)
number_below variables zero x h = absurd h
number_below variables (suc k) x h = let l : k < length variables = slice_get_within variables k x h in (omega arith, omega arith)

pub number_of : (variables : List Variable) (x : Variable) → Contains variables x → (n : ℕ) × HasNumber variables n x
number_of variables x m = let p = place_of variables x m in (suc p.0, p.2)

pub one_variable : (variables : List Variable) (n : ℕ) (x y : Variable) → HasNumber variables n x → HasNumber variables n y → x ≡ y
one_variable variables zero x y h g = absurd h
one_variable variables (suc k) x y h g = same_Some x y (sym h ∙ g)

-- what the variable of a number is
abbrev IsAt : Option Variable → (Variable → Type 0) → Type 0
IsAt o P = (y : Variable) × (o ≡ Some y) × P y

dec_at : (P : Variable → Type 0) → ((y : Variable) → Dec (P y)) → (o : Option Variable) → Dec (IsAt o P)
dec_at P d None = no (λ h. none h.0 h.1)
  where
    none : (y : Variable) → None ≡ Some y → ⊥
    none y e = cc
dec_at P d (Some x) = dec_by (λ p. (x, refl, p)) (λ h. subst P (sym (same_Some x h.0 h.1)) h.2) (d x)

pub dec_number : (variables : List Variable) (P : Variable → Type 0) → ((y : Variable) → Dec (P y)) → (n : ℕ) → Dec ((y : Variable) × HasNumber variables n y × P y)
dec_number variables P d zero = no (λ h. h.1)
dec_number variables P d (suc k) = dec_at P d (slice_get variables k)
