-- The choice of a model: the first true row of each block.
use Rattle.std.proofs.Common.{◌≡◌, ℕ, zero, suc, ◌<◌, ◌≤◌, ◌+◌, ◌-◌, ◌∷◌, ◌++◌, List, [], length, get_or, take, drop, refl, ◌∙◌, ap, arith, Bool, true, false, slice_range, cond}
use Rattle.std.specs.List.{sum}
use Rattle.std.proofs.lemmas.List.{length-drop, length-take-le, take_more}
use Rattle.block_lists.proofs.Bases.{sum-cons, sum-within}
use Rattle.block_lists.specs.Picks.{first_true, first_trues}

-- a true value ends the look
pub first-here : (values : List Bool) (i : ℕ) → i < length values → get_or values i false ≡ true → first_true (drop i values) ≡ 0
first-here [] i l e = absurd (omega (arith, l))
first-here (b ∷ values) zero l e = ap (λ (c : Bool). cond c 0 (suc (first_true values))) e
first-here (b ∷ values) (suc i) l e = first-here values i (omega (arith, l)) e

-- a false value is passed
pub first-next : (values : List Bool) (i : ℕ) → i < length values → get_or values i false ≡ false → first_true (drop i values) ≡ suc (first_true (drop (suc i) values))
first-next [] i l e = absurd (omega (arith, l))
first-next (b ∷ values) zero l e = ap (λ (c : Bool). cond c 0 (suc (first_true values))) e
first-next (b ∷ values) (suc i) l e = first-next values i (omega (arith, l)) e

pub first-none : (values : List Bool) (i : ℕ) → length values ≤ i → first_true (drop i values) ≡ 0
first-none [] zero l = refl
first-none [] (suc i) l = refl
first-none (b ∷ values) zero l = absurd (omega (arith, l))
first-none (b ∷ values) (suc i) l = first-none values i (omega (arith, l))

drop-nil : (n : ℕ) → drop {A = Bool} n [] ≡ []
drop-nil zero = refl
drop-nil (suc n) = refl

drop-drop : (s n m : ℕ) (values : List Bool) → m ≡ s + n → drop n (drop s values) ≡ drop m values
drop-drop zero n m values e = let z : n ≡ m = omega (arith, e) in ap (λ k. drop k values) z
drop-drop (suc s) n zero values e = absurd (omega (arith, e))
drop-drop (suc s) n (suc m) [] e = drop-nil n
drop-drop (suc s) n (suc m) (b ∷ values) e = drop-drop s n m values (omega (arith, e))

-- the values of a block are as many as its rows
pub part-length : (values : List Bool) (from size : ℕ) → from + size ≤ length values → length (slice_range values from (from + size)) ≡ size
part-length values from size l =
    let d = length-drop from values in
    let e : from + size - from ≡ size = omega arith in
    length-take-le (from + size - from) (drop from values) (omega (arith, l, d)) ∙ e

pub block-length : (sizes : List ℕ) (i from : ℕ) (values : List Bool) → i < length sizes → from ≡ sum (take i sizes) → length values ≡ sum sizes → length (slice_range values from (from + get_or sizes i 0)) ≡ get_or sizes i 0
block-length sizes i from values l e each = let w = sum-within sizes i from l e in part-length values from (get_or sizes i 0) (omega (arith, w, each))

pub trues-push : (sizes : List ℕ) (values : List Bool) (s m : ℕ) → m ≡ sum sizes → first_trues (sizes ++ s ∷ []) values ≡ first_trues sizes values ++ first_true (take s (drop m values)) ∷ []
trues-push [] values s m e = let z : 0 ≡ m = omega (arith, e) in ap (λ k. first_true (take s (drop k values)) ∷ []) z
trues-push (t ∷ sizes) values s m e =
    let k = sum-cons t sizes in
    ap (λ rest. first_true (take t values) ∷ rest) (trues-push sizes (drop t values) s (sum sizes) refl
    ∙ ap (λ (vs : List Bool). first_trues sizes (drop t values) ++ first_true (take s vs) ∷ []) (drop-drop t (sum sizes) m values (omega (arith, e, k))))

pub trues-more : (sizes : List ℕ) (values : List Bool) (i m to : ℕ) → i < length sizes → m ≡ sum (take i sizes) → to ≡ m + get_or sizes i 0 → first_trues (take (i + 1) sizes) values ≡ first_trues (take i sizes) values ++ first_true (slice_range values m to) ∷ []
trues-more sizes values i m to l e f =
    let d : get_or sizes i 0 ≡ to - m = omega (arith, f) in
    ap (λ ss. first_trues ss values) (take_more sizes i 0 l)
    ∙ (trues-push (take i sizes) values (get_or sizes i 0) m e
    ∙ ap (λ n. first_trues (take i sizes) values ++ first_true (take n (drop m values)) ∷ []) d)
