-- Blocks, one after the other: how many rows stand before each, their numbers, and their clauses.
use Rattle.std.proofs.Common.{◌≡◌, ℕ, zero, suc, ◌<◌, ◌≤◌, ◌+◌, ◌∷◌, ◌++◌, List, [], length, get_or, map, take, Contains, sym, ◌∙◌, ap, subst, arith}
use Rattle.std.specs.List.{AllZip, range_with_len, sum}
use Rattle.std.proofs.lemmas.List.{append_assoc, map_push, take_more}
use Rattle.std.proofs.lemmas.List.Sums.{sum_by-cons, sum_by_more, sum_by_more_le}
use Rattle.cqa_value.proofs.Words.{Contains-from_map, Contains-map, mem-head, mem-tail}
use Rattle.cnf_form.specs.declared.formula.Lit.{Lit}
use Rattle.cnf_form.specs.Literals.{positive}
use Rattle.block_choices.specs.declared.row.BlockRow.{BlockRow}
use Rattle.block_lists.specs.Formulas.{AreNumbersIn, blocks_from, number}
use Rattle.block_lists.specs.Numbers.{AreNumbersOver, IsBasedOver, bases_from, number_over}
use Rattle.block_choices.specs.Choices.{AreThere, IsThere}

-- ---- one block more

abbrev pub same : ℕ → ℕ
same x = x

pub sum-cons : (s : ℕ) (sizes : List ℕ) → sum (s ∷ sizes) ≡ s + sum sizes
sum-cons s sizes = sum_by-cons same s sizes

pub bases-push : (n : ℕ) (sizes : List ℕ) (s m : ℕ) → m ≡ n + sum sizes → bases_from n (sizes ++ s ∷ []) ≡ bases_from n sizes ++ m ∷ []
bases-push n [] s m e = let z : n ≡ m = omega (arith, e) in ap (λ k. k ∷ []) z
bases-push n (t ∷ sizes) s m e = let k = sum-cons t sizes in ap (λ bs. n ∷ bs) (bases-push (n + t) sizes s m (omega (arith, e, k)))

pub blocks-push : (n : ℕ) (sizes : List ℕ) (s m : ℕ) → m ≡ n + sum sizes → blocks_from n (sizes ++ s ∷ []) ≡ blocks_from n sizes ++ range_with_len (suc m) s ∷ []
blocks-push n [] s m e = let z : n ≡ m = omega (arith, e) in ap (λ k. range_with_len (suc k) s ∷ []) z
blocks-push n (t ∷ sizes) s m e = let k = sum-cons t sizes in ap (λ bs. range_with_len (suc n) t ∷ bs) (blocks-push (n + t) sizes s m (omega (arith, e, k)))

pub bases-more : (sizes : List ℕ) (i m : ℕ) → i < length sizes → m ≡ sum (take i sizes) → bases_from 0 (take (i + 1) sizes) ≡ bases_from 0 (take i sizes) ++ m ∷ []
bases-more sizes i m l e = ap (bases_from 0) (take_more sizes i 0 l) ∙ bases-push 0 (take i sizes) (get_or sizes i 0) m (omega (arith, e))

pub blocks-more : (sizes : List ℕ) (i m : ℕ) → i < length sizes → m ≡ sum (take i sizes) → blocks_from 0 (take (i + 1) sizes) ≡ blocks_from 0 (take i sizes) ++ range_with_len (suc m) (get_or sizes i 0) ∷ []
blocks-more sizes i m l e = ap (blocks_from 0) (take_more sizes i 0 l) ∙ blocks-push 0 (take i sizes) (get_or sizes i 0) m (omega (arith, e))

pub sum-more : (sizes : List ℕ) (i m : ℕ) → i < length sizes → m ≡ sum (take i sizes) → m + get_or sizes i 0 ≡ sum (take (i + 1) sizes)
sum-more sizes i m l e = ap (λ k. k + get_or sizes i 0) e ∙ sym (sum_by_more same sizes i 0 l)

pub sum-within : (sizes : List ℕ) (i m : ℕ) → i < length sizes → m ≡ sum (take i sizes) → m + get_or sizes i 0 ≤ sum sizes
sum-within sizes i m l e = let k = sum_by_more_le same sizes i 0 l in omega (arith, k, e)

-- the clauses of one block more
pub blocks-added : (sizes : List ℕ) (i m : ℕ) → i < length sizes → m ≡ sum (take i sizes) → (old mid : List (List Lit)) (lits : List Lit) → mid ≡ old ++ map (map positive) (blocks_from 0 (take i sizes)) →
    lits ≡ map positive (range_with_len (suc m) (get_or sizes i 0)) → mid ++ lits ∷ [] ≡ old ++ map (map positive) (blocks_from 0 (take (i + 1) sizes))
blocks-added sizes i m l e old mid lits h is =
    let block = range_with_len (suc m) (get_or sizes i 0) in
    let blocks = blocks_from 0 (take i sizes) in
    ap (λ ls. ls ++ lits ∷ []) h ∙ (append_assoc old (map (map positive) blocks) (lits ∷ []) ∙ (ap (λ c. old ++ (map (map positive) blocks ++ c ∷ [])) is
    ∙ ap (λ ls. old ++ ls) (sym (ap (map (map positive)) (blocks-more sizes i m l e) ∙ map_push (map positive) blocks block))))

-- ---- the number of a row

-- how many rows stand before a block, by its place
pub based : (n : ℕ) (sizes : List ℕ) (b r : ℕ) → r < get_or sizes b 0 → get_or (bases_from n sizes) b 0 + 1 + r ≡ number n sizes b r
based n [] b r l = absurd (omega (arith, l))
based n (s ∷ sizes) zero r l = omega arith
based n (s ∷ sizes) (suc b) r l = based (n + s) sizes b r l

pub bases-within : (n : ℕ) (sizes : List ℕ) (b r : ℕ) → r < get_or sizes b 0 → (b < length (bases_from n sizes)) × (get_or (bases_from n sizes) b 0 + r < n + sum sizes)
bases-within n [] b r l = absurd (omega (arith, l))
bases-within n (s ∷ sizes) zero r l = let e = sum-cons s sizes in (omega arith, omega (arith, l, e))
bases-within n (s ∷ sizes) (suc b) r l =
    let h = bases-within (n + s) sizes b r l in
    let k = h.0 in
    let m = h.1 in
    let e = sum-cons s sizes in
    (omega (arith, k), omega (arith, m, e))

abbrev pub no_row : BlockRow
no_row = record { block = 0; row = 0 }

pub is-based : (sizes : List ℕ) (x : BlockRow) → sum sizes ≤ 1000000 → IsThere sizes x → IsBasedOver (bases_from 0 sizes) x
is-based sizes x few there =
    let h = bases-within 0 sizes x.block x.row there in
    let k = h.1 in
    (h.0, omega (arith, k, few))

-- the numbers of a list's rows, by how many rows stand before each block
pub numbers-of : (sizes : List ℕ) (names : List BlockRow) (numbers : List ℕ) → ((x : BlockRow) → Contains names x → IsThere sizes x) → AreNumbersOver (bases_from 0 sizes) names numbers → AreNumbersIn sizes names numbers
numbers-of sizes names numbers there h = record {
  rises = h.rises;
  exactly = λ m. (λ i. to m (Contains-from_map f names m ((h.same m).0 i)), λ k. (h.same m).1 (from m k));
}
  where
    f : BlockRow → ℕ
    f = number_over (bases_from 0 sizes)

    is : (x : BlockRow) → Contains names x → f x ≡ number 0 sizes x.block x.row
    is x i = based 0 sizes x.block x.row (there x i)

    to : (m : ℕ) → ((x : BlockRow) × Contains names x × (f x ≡ m)) → (x : BlockRow) × Contains names x × (number 0 sizes x.block x.row ≡ m)
    to m (x, i, e) = (x, i, sym (is x i) ∙ e)

    from : (m : ℕ) → ((x : BlockRow) × Contains names x × (number 0 sizes x.block x.row ≡ m)) → Contains (map f names) m
    from m (x, i, e) = subst (Contains (map f names)) (is x i ∙ e) (Contains-map f names x i)

-- list by list
pub all-numbers-of : (sizes : List ℕ) (lists : List (List BlockRow)) (numbers : List (List ℕ)) → AreThere sizes lists → AllZip (AreNumbersOver (bases_from 0 sizes)) lists numbers → AllZip (AreNumbersIn sizes) lists numbers
all-numbers-of sizes [] [] there h = tt
all-numbers-of sizes [] (n ∷ numbers) there h = absurd h
all-numbers-of sizes (names ∷ lists) [] there h = absurd h
all-numbers-of sizes (names ∷ lists) (n ∷ numbers) there h = (
  numbers-of sizes names n (there names (mem-head names lists)) h.0,
  all-numbers-of sizes lists numbers (λ ns m. there ns (mem-tail ns names lists m)) h.1,
)

-- blocks of one row or more are no more than their rows
pub no-more-blocks : (sizes : List ℕ) → ((s : ℕ) → Contains sizes s → 0 < s) → length sizes ≤ sum sizes
no-more-blocks [] some = omega arith
no-more-blocks (s ∷ sizes) some =
    let here = some s (mem-head s sizes) in
    let rest = no-more-blocks sizes (λ t m. some t (mem-tail t s sizes m)) in
    let e = sum-cons s sizes in
    omega (arith, here, rest, e)
