-- Reasoning towards ⊥, where any case may be split, and finite choice.
use Rattle.std.proofs.Common.{◌≡◌, ℕ, zero, suc, ◌<◌, ◌⊎◌, inl, inr, List, [], ◌∷◌, length, get_or, refl, ap, sym, subst, arith, Contains, le_of_suc-le-suc}
use native.Mathlib.Decide.{ℕ_discrete}
use Rattle.cqa_value.specs.declared.value.Value.{Value}
pub use Rattle.cqa_value.proofs.Words.{mem-head, mem-tail, mem-nil, mem-cases, map_agree, dec_both}
use Rattle.cqa_model.proofs.Values.{dec_by, value_discrete, row_discrete}

abbrev pub Classically : Type 0 → Type 0
Classically A = (A → ⊥) → ⊥

pub stable : {A : Type 0} → Dec A → Classically A → A
stable (yes a) c = a
stable (no f) c = absurd (c f)

pub same_value : (x y : Value) → Classically (x ≡ y) → x ≡ y
same_value x y c = stable (value_discrete x y) c

-- a value for each number below n, by cases that may be split
pub choice : {A : Type 0} (d : A) (n : ℕ) (R : ℕ → A → Type 0) → ((i : ℕ) → i < n → Classically ((x : A) × R i x)) →
    Classically ((xs : List A) × (length xs ≡ n) × ((i : ℕ) → i < n → R i (get_or xs i d)))
choice d zero R h k = k ([], refl, λ i l. absurd (omega arith))
choice {A} d (suc n) R h k =
    h 0 (omega arith) (λ p. choice d n (λ i x. R (suc i) x) (λ i l. h (suc i) (omega arith)) (λ q. k (p.0 ∷ q.0, ap suc q.1, both p.0 p.1 q.0 q.2)))
  where
    both : (x : A) → R 0 x → (xs : List A) → ((i : ℕ) → i < n → R (suc i) (get_or xs i d)) → (i : ℕ) → i < suc n → R i (get_or (x ∷ xs) i d)
    both x r xs rs zero l = r
    both x r xs rs (suc i) l = rs i (le_of_suc-le-suc l)

pub choose : {A : Type 0} (d : A) (n : ℕ) (R : ℕ → A → Type 0) → ((i : ℕ) → i < n → (x : A) × R i x) →
    (xs : List A) × (length xs ≡ n) × ((i : ℕ) → i < n → R i (get_or xs i d))
choose d zero R h = ([], refl, λ i l. absurd (omega arith))
choose {A} d (suc n) R h = make (h 0 (omega arith)) (choose d n (λ i x. R (suc i) x) (λ i l. h (suc i) (omega arith)))
  where
    both : (x : A) → R 0 x → (xs : List A) → ((i : ℕ) → i < n → R (suc i) (get_or xs i d)) → (i : ℕ) → i < suc n → R i (get_or (x ∷ xs) i d)
    both x r xs rs zero l = r
    both x r xs rs (suc i) l = rs i (le_of_suc-le-suc l)

    make : ((x : A) × R 0 x) → ((xs : List A) × (length xs ≡ n) × ((i : ℕ) → i < n → R (suc i) (get_or xs i d))) → (xs : List A) × (length xs ≡ suc n) × ((i : ℕ) → i < suc n → R i (get_or xs i d))
    make p q = (p.0 ∷ q.0, ap suc q.1, both p.0 p.1 q.0 q.2)

pub mem-eq : {A : Type 0} (x y : A) (xs : List A) → x ≡ y → Contains xs x → Contains xs y
mem-eq x y xs e m = subst (λ z. Contains xs z) e m

-- decisions
pub dec_three : {A B C : Type 0} → Dec A → Dec B → Dec C → Dec (A × B × C)
dec_three d e f = dec_by (λ p. (p.0, p.1.0, p.1.1)) (λ p. (p.0, (p.1, p.2))) (dec_both d (dec_both e f))

pub dec_or : {A B : Type 0} → Dec A → Dec B → Dec (A ⊎ B)
dec_or (yes a) d = yes (inl a)
dec_or (no f) (yes b) = yes (inr b)
dec_or (no f) (no g) = no (λ s. elim s [ inl a ↦ f a | inr b ↦ g b ])

pub dec_if : {A B : Type 0} → Dec A → Dec B → Dec (A → B)
dec_if (no f) d = yes (λ a. absurd (f a))
dec_if (yes a) (yes b) = yes (λ x. b)
dec_if (yes a) (no g) = no (λ h. g (h a))

pub dec_below : (P : ℕ → Type 0) → ((k : ℕ) → Dec (P k)) → (n : ℕ) → Dec ((k : ℕ) → k < n → P k)
dec_below P d zero = yes (λ k l. absurd (omega arith))
dec_below P d (suc n) = dec_by (λ p. all p.0 p.1) (λ h. (h 0 (omega arith), λ k l. h (suc k) (omega arith))) (dec_both (d 0) (dec_below (λ k. P (suc k)) (λ k. d (suc k)) n))
  where
    all : P 0 → ((k : ℕ) → k < n → P (suc k)) → (k : ℕ) → k < suc n → P k
    all p ps zero l = p
    all p ps (suc k) l = ps k (le_of_suc-le-suc l)

pub dec_each : {A : Type 0} (P : A → Type 0) → ((x : A) → Dec (P x)) → (xs : List A) → Dec ((x : A) → Contains xs x → P x)
dec_each P d [] = yes (λ x m. absurd (mem-nil x m))
dec_each {A} P d (y ∷ ys) = dec_by (λ p. all p.0 p.1) (λ h. (h y (mem-head y ys), λ x m. h x (mem-tail x y ys m))) (dec_both (d y) (dec_each P d ys))
  where
    all : P y → ((x : A) → Contains ys x → P x) → (x : A) → Contains (y ∷ ys) x → P x
    all p ps x m = elim (mem-cases x y ys m) [ inl e ↦ subst P e p | inr h ↦ ps x h ]

pub dec_some : {A : Type 0} (P : A → Type 0) → ((x : A) → Dec (P x)) → (xs : List A) → Dec ((x : A) × Contains xs x × P x)
dec_some P d [] = no (λ p. mem-nil p.0 p.1)
dec_some {A} P d (y ∷ ys) = dec_by (λ s. from s) (λ p. split p.0 p.1 p.2) (dec_or (d y) (dec_some P d ys))
  where
    from : P y ⊎ ((x : A) × Contains ys x × P x) → (x : A) × Contains (y ∷ ys) x × P x
    from (inl p) = (y, mem-head y ys, p)
    from (inr h) = (h.0, mem-tail h.0 y ys h.1, h.2)

    split : (x : A) → Contains (y ∷ ys) x → P x → P y ⊎ ((x : A) × Contains ys x × P x)
    split x m p = elim (mem-cases x y ys m) [ inl e ↦ inl (subst P (sym e) p) | inr h ↦ inr (x, h, p) ]

pub dec_mem : (xs : List (List Value)) (x : List Value) → Dec (Contains xs x)
dec_mem xs x = dec_by (λ p. mem-eq p.0 x xs (sym p.2) p.1) (λ m. (x, m, refl)) (dec_some (λ y. x ≡ y) (λ y. row_discrete x y) xs)

-- the elements for which a decided test holds
abbrev pub keep : {A : Type 0} → Dec A → List Value → List (List Value) → List (List Value)
keep (yes a) y ys = y ∷ ys
keep (no f) y ys = ys

abbrev pub kept_by : {P : List Value → Type 0} → ((x : List Value) → Dec (P x)) → List (List Value) → List (List Value)
kept_by d [] = []
kept_by d (x ∷ xs) = keep (d x) x (kept_by d xs)

pub kept_by-stored : {P : List Value → Type 0} (d : (x : List Value) → Dec (P x)) (xs : List (List Value)) (x : List Value) → Contains (kept_by d xs) x → Contains xs x × P x
kept_by-stored d [] x m = absurd (mem-nil x m)
kept_by-stored {P} d (y ∷ ys) x m = go (d y) m (kept_by-stored d ys x)
  where
    go : (c : Dec (P y)) → Contains (keep c y (kept_by d ys)) x → (Contains (kept_by d ys) x → Contains ys x × P x) → Contains (y ∷ ys) x × P x
    go (yes p) h ih = elim (mem-cases x y (kept_by d ys) h) [ inl e ↦ (mem-eq y x (y ∷ ys) e (mem-head y ys), subst P e p) | inr n ↦ (mem-tail x y ys (ih n).0, (ih n).1) ]
    go (no f) h ih = (mem-tail x y ys (ih h).0, (ih h).1)

pub kept_by-keeps : {P : List Value → Type 0} (d : (x : List Value) → Dec (P x)) (xs : List (List Value)) (x : List Value) → Contains xs x → P x → Contains (kept_by d xs) x
kept_by-keeps d [] x m p = absurd (mem-nil x m)
kept_by-keeps {P} d (y ∷ ys) x m p = go (d y) (mem-cases x y ys m) (λ n. kept_by-keeps d ys x n p)
  where
    go : (c : Dec (P y)) → (y ≡ x) ⊎ Contains ys x → (Contains ys x → Contains (kept_by d ys) x) → Contains (keep c y (kept_by d ys)) x
    go (yes q) (inl e) ih = mem-eq y x (y ∷ kept_by d ys) e (mem-head y (kept_by d ys))
    go (yes q) (inr n) ih = mem-tail x y (kept_by d ys) (ih n)
    go (no f) (inl e) ih = absurd (f (subst P (sym e) p))
    go (no f) (inr n) ih = ih n

-- all below n, or one that is not
pub find_below : (P : ℕ → Type 0) → ((k : ℕ) → Dec (P k)) → (n : ℕ) → ((k : ℕ) → k < n → P k) ⊎ ((k : ℕ) × (k < n) × (P k → ⊥))
find_below P d zero = inl (λ k l. absurd (omega arith))
find_below P d (suc n) = go (d n) (find_below P d n)
  where
    last : P n → ((k : ℕ) → k < n → P k) → (k : ℕ) → k < suc n → Dec (k ≡ n) → P k
    last p h k l (yes e) = subst P (sym e) p
    last p h k l (no ne) = h k (omega arith)

    go : Dec (P n) → ((k : ℕ) → k < n → P k) ⊎ ((k : ℕ) × (k < n) × (P k → ⊥)) → ((k : ℕ) → k < suc n → P k) ⊎ ((k : ℕ) × (k < suc n) × (P k → ⊥))
    go (no f) s = inr (n, omega arith, f)
    go (yes p) (inl h) = inl (λ k l. last p h k l (ℕ_discrete k n))
    go (yes p) (inr h) = let l : h.0 < n = h.1 in inr (h.0, omega arith, h.2)

-- all of the list, or one that is not
pub find_in : {A : Type 0} (P : A → Type 0) → ((x : A) → Dec (P x)) → (xs : List A) → ((x : A) → Contains xs x → P x) ⊎ ((x : A) × Contains xs x × (P x → ⊥))
find_in P d [] = inl (λ x m. absurd (mem-nil x m))
find_in {A} P d (y ∷ ys) = go (d y) (find_in P d ys)
  where
    go : Dec (P y) → ((x : A) → Contains ys x → P x) ⊎ ((x : A) × Contains ys x × (P x → ⊥)) → ((x : A) → Contains (y ∷ ys) x → P x) ⊎ ((x : A) × Contains (y ∷ ys) x × (P x → ⊥))
    go (no f) s = inr (y, mem-head y ys, f)
    go (yes p) (inl h) = inl (λ x m. elim (mem-cases x y ys m) [ inl e ↦ subst P e p | inr n ↦ h x n ])
    go (yes p) (inr h) = inr (h.0, mem-tail h.0 y ys h.1, h.2)
