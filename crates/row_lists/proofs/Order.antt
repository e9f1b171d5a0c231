-- The order of variables, and of their numbers.
use Rattle.std.proofs.Common.{◌≡◌, ℕ, zero, suc, ◌<◌, ◌≤◌, ◌+◌, ◌⊎◌, inl, inr, List, [], ◌∷◌, length, get_or, map, Some, refl, sym, ◌∙◌, ap, subst, arith, Contains, slice_get, Ordering, Less, Equal, Greater}
use Rattle.std.specs.Ordering.{nat_cmp, ordering_then}
use Rattle.std.specs.List.Sorted.{IsStrictlySortedBy}
use Rattle.std.specs.Cmp.Lexicographic.{slice_cmp}
use Rattle.std.proofs.lemmas.Bool.{cases_order}
use Rattle.std.proofs.lemmas.Cmp.{nat_cmp_total, nat_list_cmp_total}
use Rattle.std.proofs.lemmas.Option.{get_or_from_slice_get, slice_get_within}
use Rattle.std.proofs.lemmas.Map.Keys.{Less-from_sorted, sorted_from_all_adjacent}
use Rattle.cqa_value.proofs.Words.{nat_cmp_less, Contains-from_map}
use Rattle.cnf_form.specs.declared.formula.Lit.{Lit}
use Rattle.join_access.proofs.Sorted.{one_sorted, one_place, not_less, not_both}
use Rattle.row_lists.specs.Clauses.{Variable, variable_cmp, HasNumber, AreAllLists, Rises}
use Rattle.row_lists.proofs.Rows.{variable_total, one_variable}

-- ---- comparisons

pub less_then : (o p : Ordering) → o ≡ Less → ordering_then o p ≡ Less
less_then Less p e = refl
less_then Equal p e = cc
less_then Greater p e = cc

pub then_cases : (o p : Ordering) → ordering_then o p ≡ Less → (o ≡ Less) ⊎ ((o ≡ Equal) × (p ≡ Less))
then_cases Less p e = inl refl
then_cases Equal p e = inr (refl, e)
then_cases Greater p e = cc

pub then_less : (o p : Ordering) → o ≡ Equal → p ≡ Less → ordering_then o p ≡ Less
then_less Less p e l = refl
then_less Equal p e l = l
then_less Greater p e l = cc

pub from_less : (x y : ℕ) → nat_cmp x y ≡ Less → x < y
from_less x y e = go (cases_order x y)
  where
    go : (x ≡ y) ⊎ ((x < y) ⊎ (y < x)) → x < y
    go (inr (inl l)) = l
    go (inl q) = absurd (not_less nat_cmp nat_cmp_total x (subst (λ z. nat_cmp x z ≡ Less) (sym q) e))
    go (inr (inr g)) = absurd (not_both nat_cmp nat_cmp_total x y e (nat_cmp_less y x g))

pub from_equal : (x y : ℕ) → nat_cmp x y ≡ Equal → x ≡ y
from_equal x y e = grind (arith, e)

pub equal_self : (x : ℕ) → nat_cmp x x ≡ Equal
equal_self x = grind arith

-- ---- variables

pub slot_less : (x y : Variable) → x.slot < y.slot → variable_cmp x y ≡ Less
slot_less x y l = less_then (nat_cmp x.slot y.slot) (nat_cmp x.place y.place) (grind (arith, l))

pub place_less : (x y : Variable) → x.slot ≡ y.slot → x.place < y.place → variable_cmp x y ≡ Less
place_less x y e l = then_less (nat_cmp x.slot y.slot) (nat_cmp x.place y.place) (subst (λ z. nat_cmp x.slot z ≡ Equal) e (equal_self x.slot)) (nat_cmp_less x.place y.place l)

-- later variables have greater numbers
pub numbers_rise : (variables : List Variable) → IsStrictlySortedBy variable_cmp variables → (m n : ℕ) (x y : Variable) → HasNumber variables m x → HasNumber variables n y → variable_cmp x y ≡ Less → m < n
numbers_rise variables s zero n x y hx hy l = absurd hx
numbers_rise variables s (suc i) zero x y hx hy l = absurd hy
numbers_rise variables s (suc i) (suc j) x y hx hy l = go (cases_order i j)
  where
    go : (i ≡ j) ⊎ ((i < j) ⊎ (j < i)) → suc i < suc j
    go (inr (inl lt)) = omega (arith, lt)
    go (inl e) = absurd (not_less variable_cmp variable_total x (subst (λ z. variable_cmp x z ≡ Less) (one_variable variables (suc j) y x hy (subst (λ k. slice_get variables k ≡ Some x) e hx)) l))
    go (inr (inr gt)) = absurd (not_both variable_cmp variable_total x y l
        (subst (λ u. variable_cmp y u ≡ Less) (get_or_from_slice_get variables i x x hx)
        (subst (λ u. variable_cmp u (get_or variables i x) ≡ Less) (get_or_from_slice_get variables j y x hy)
        (Less-from_sorted variable_cmp variables j i x s gt (slice_get_within variables i x hx)))))

-- a variable has one number
pub same_number : (variables : List Variable) → IsStrictlySortedBy variable_cmp variables → (m n : ℕ) (x : Variable) → HasNumber variables m x → HasNumber variables n x → m ≡ n
same_number variables s zero n x hm hn = absurd hm
same_number variables s (suc i) zero x hm hn = absurd hn
same_number variables s (suc i) (suc j) x hm hn = ap suc (one_place variable_cmp variable_total variables i j x s hm hn)

-- ---- lists of numbers

pub one_list : (P : List ℕ → Type 0) (xs ys : List (List ℕ)) → AreAllLists P xs → AreAllLists P ys → xs ≡ ys
one_list P xs ys h k = one_sorted (slice_cmp nat_cmp) nat_list_cmp_total xs ys h.in_order k.in_order (λ z m. (k.exactly z).1 ((h.exactly z).0 m)) (λ z m. (h.exactly z).1 ((k.exactly z).0 m))

map_var : (lit : ℕ → Lit) → ((n : ℕ) → (lit n).var ≡ n) → (numbers : List ℕ) → map (λ (l : Lit). l.var) (map lit numbers) ≡ numbers
map_var lit h [] = refl
map_var lit h (n ∷ numbers) = let e = h n in let es = map_var lit h numbers in cc

-- a clause of rising numbers rises
pub rises_of : (vars : ℕ) (lit : ℕ → Lit) → ((n : ℕ) → (lit n).var ≡ n) → (numbers : List ℕ) (c : List Lit) → map lit numbers ≡ c → IsStrictlySortedBy nat_cmp numbers →
    ((n : ℕ) → Contains numbers n → (1 ≤ n) × (n < 1 + vars)) → Rises vars c
rises_of vars lit is numbers c e s b = subst (Rises vars) e (record {
  rises = subst (IsStrictlySortedBy nat_cmp) (sym (map_var lit is numbers)) s;
  in_range = λ l ml. let p = Contains-from_map lit numbers l ml in
      let v : l.var ≡ p.0 = ap (λ (z : Lit). z.var) (sym p.2) ∙ is p.0 in
      subst (λ n. (1 ≤ n) × (n < 1 + vars)) (sym v) (b p.0 p.1);
})

-- of the first n numbers each is below the next
abbrev pub RiseTo : List ℕ → ℕ → Type 0
RiseTo numbers n = (j : ℕ) → j + 1 < n → get_or numbers j 0 < get_or numbers (j + 1) 0

pub rise_all : (numbers : List ℕ) (n : ℕ) → RiseTo numbers n → length numbers ≤ n → IsStrictlySortedBy nat_cmp numbers
rise_all numbers n h all = sorted_from_all_adjacent nat_cmp_total numbers 0 (λ j l. nat_cmp_less (get_or numbers j 0) (get_or numbers (j + 1) 0) (h j (omega (arith, l, all))))
