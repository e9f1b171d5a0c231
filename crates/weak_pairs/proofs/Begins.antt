-- Blocks one after the other: where each begins, and which rows are its own.
use Rattle.std.proofs.Common.{◌≡◌, ℕ, zero, suc, ◌+◌, ◌-◌, ◌<◌, ◌≤◌, List, [], ◌∷◌, ◌++◌, length, get_or, map, flat_map, refl, sym, ap, ◌∙◌, subst, arith}
use Rattle.std.specs.Prelude.{slice_index}
use native.Mathlib.Decide.{dec_lt, ℕ_discrete}
use Rattle.std.proofs.lemmas.List.{append_assoc, map-append, length-append, length-map, get_or_append_left, get_or-append-add}
use Rattle.weak_pairs.specs.Starts.{ends_from, starts_from}

abbrev pub flat : {A : Type 0} → List (List A) → List A
flat bs = flat_map (λ b. b) bs

pub ends-length : {A : Type 0} (n : ℕ) (bs : List (List A)) → length (ends_from n bs) ≡ length bs
ends-length n [] = refl
ends-length n (b ∷ bs) = ap suc (ends-length (n + length b) bs)

pub start-next : {A : Type 0} (n : ℕ) (bs : List (List A)) (v : ℕ) → v < length bs → slice_index (starts_from n bs) (suc v) ≡ slice_index (starts_from n bs) v + length (get_or bs v [])
start-next n [] v l = absurd (omega arith)
start-next n (b ∷ bs) zero l = refl
start-next n (b ∷ bs) (suc v) l = start-next (n + length b) bs v (omega arith)

pub start-least : {A : Type 0} (n : ℕ) (bs : List (List A)) (v : ℕ) → v ≤ length bs → n ≤ slice_index (starts_from n bs) v
start-least n bs zero l = omega arith
start-least n [] (suc v) l = absurd (omega arith)
start-least n (b ∷ bs) (suc v) l = let h = start-least (n + length b) bs v (omega arith) in omega (arith, h)

pub start-within : {A : Type 0} (n : ℕ) (bs : List (List A)) (v : ℕ) → v ≤ length bs → slice_index (starts_from n bs) v ≤ n + length (flat bs)
start-within n bs zero l = omega arith
start-within n [] (suc v) l = absurd (omega arith)
start-within n (b ∷ bs) (suc v) l = let h = start-within (n + length b) bs v (omega arith) in let e = length-append b (flat bs) in omega (arith, h, e)

pub start-rises : {A : Type 0} (n : ℕ) (bs : List (List A)) → ((v : ℕ) → v < length bs → 0 < length (get_or bs v [])) → (u v : ℕ) → u < v → v ≤ length bs → slice_index (starts_from n bs) u < slice_index (starts_from n bs) v
start-rises n bs some u zero l k = absurd (omega arith)
start-rises n bs some u (suc v) l k = go (ℕ_discrete u v) (λ less. start-rises n bs some u v less (omega arith))
  where
    next : slice_index (starts_from n bs) v < slice_index (starts_from n bs) (suc v)
    next = let e = start-next n bs v (omega arith) in let h = some v (omega arith) in omega (arith, e, h)

    go : Dec (u ≡ v) → (u < v → slice_index (starts_from n bs) u < slice_index (starts_from n bs) v) → slice_index (starts_from n bs) u < slice_index (starts_from n bs) (suc v)
    go (yes e) before = subst (λ z. slice_index (starts_from n bs) z < slice_index (starts_from n bs) (suc v)) (sym e) next
    go (no ne) before = let h = before (omega arith) in let k = next in omega (arith, h, k)

-- the rows of a block are its own
pub at-block : {A : Type 0} (n : ℕ) (bs : List (List A)) (v k i : ℕ) (d : A) → v < length bs → k < length (get_or bs v []) → n + i ≡ slice_index (starts_from n bs) v + k →
    get_or (flat bs) i d ≡ get_or (get_or bs v []) k d
at-block n [] v k i d l m e = absurd (omega arith)
at-block n (b ∷ bs) zero k i d l m e = let j : i ≡ k = omega arith in ap (λ z. get_or (b ++ flat bs) z d) j ∙ get_or_append_left b (flat bs) d k m
at-block n (b ∷ bs) (suc v) k i d l m e =
    let least = start-least (n + length b) bs v (omega arith) in
    let j : i ≡ length b + (i - length b) = omega (arith, least, e) in
    ap (λ z. get_or (b ++ flat bs) z d) j ∙ get_or-append-add b (flat bs) (i - length b) d ∙ at-block (n + length b) bs v k (i - length b) d (omega arith) m (omega (arith, least, e))

-- each number is one of some block
pub block-at : {A : Type 0} (n : ℕ) (bs : List (List A)) (i : ℕ) → i < length (flat bs) →
    (v : ℕ) × (v < length bs) × (slice_index (starts_from n bs) v ≤ n + i) × (n + i < slice_index (starts_from n bs) (suc v))
block-at n [] i l = absurd (omega arith)
block-at {A} n (b ∷ bs) i l = go (dec_lt i (length b)) (λ m. block-at (n + length b) bs (i - length b) m)
  where
    go : Dec (i < length b) → (i - length b < length (flat bs) → (v : ℕ) × (v < length bs) × (slice_index (starts_from (n + length b) bs) v ≤ n + length b + (i - length b)) × (n + length b + (i - length b) < slice_index (starts_from (n + length b) bs) (suc v))) →
        (v : ℕ) × (v < suc (length bs)) × (slice_index (starts_from n (b ∷ bs)) v ≤ n + i) × (n + i < slice_index (starts_from n (b ∷ bs)) (suc v))
    go (yes k) next = (zero, omega arith, omega arith, omega arith)
    go (no f) next =
        let e = length-append b (flat bs) in
        let h = next (omega (arith, e, l, f)) in
        let low = h.2 in
        let high = h.3 in
        let within = h.1 in (suc h.0, omega (arith, within), omega (arith, low, f), omega (arith, high, f))

pub ends-append : {A : Type 0} (n : ℕ) (xs ys : List (List A)) → ends_from n (xs ++ ys) ≡ ends_from n xs ++ ends_from (n + length (flat xs)) ys
ends-append n [] ys = let e : n ≡ n + 0 = omega arith in ap (λ z. ends_from z ys) e
ends-append n (b ∷ xs) ys =
    let e : n + length b + length (flat xs) ≡ n + length (b ++ flat xs) = let l = length-append b (flat xs) in omega (arith, l) in
    ap (λ z. (n + length b) ∷ z) (ends-append (n + length b) xs ys ∙ ap (λ z. ends_from (n + length b) xs ++ ends_from z ys) e)

pub ends-map : {A B : Type 0} (f : A → B) (n : ℕ) (bs : List (List A)) → ends_from n (map (λ b. map f b) bs) ≡ ends_from n bs
ends-map f n [] = refl
ends-map f n (b ∷ bs) = ap (λ z. (n + z) ∷ ends_from (n + z) (map (λ c. map f c) bs)) (length-map b f) ∙ ap (λ z. (n + length b) ∷ z) (ends-map f (n + length b) bs)

pub flat-append : {A : Type 0} (xs ys : List (List A)) → flat (xs ++ ys) ≡ flat xs ++ flat ys
flat-append [] ys = refl
flat-append (b ∷ xs) ys = ap (λ z. b ++ z) (flat-append xs ys) ∙ sym (append_assoc b (flat xs) (flat ys))

pub flat-map : {A B : Type 0} (f : A → B) (bs : List (List A)) → flat (map (λ b. map f b) bs) ≡ map f (flat bs)
flat-map f [] = refl
flat-map f (b ∷ bs) = ap (λ z. map f b ++ z) (flat-map f bs) ∙ sym (map-append f b (flat bs))
