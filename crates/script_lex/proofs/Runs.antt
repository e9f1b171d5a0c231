-- Runs of bytes that pass a test.
use Rattle.std.proofs.Common.{◌≡◌, ◌+◌, ◌-◌, ◌<◌, ◌≤◌, ℕ, zero, suc, Bool, true, false, List, [], ◌∷◌, ◌++◌, length, take, drop, get_or, refl, ◌∙◌, ap, subst, arith, length-drop, take-add}
use Rattle.std.proofs.lemmas.List.{take_more, drop-take}
use Rattle.cqa_value.proofs.Words.{clash}
use Rattle.script_lex.specs.declared.bytes.Class.{Class}
use Rattle.script_lex.specs.Bytes.{test_of, AllPass, Runs}

pub AllPass-push : (test : ℕ → Bool) (xs : List ℕ) (b : ℕ) → AllPass test xs → test b ≡ true → AllPass test (xs ++ b ∷ [])
AllPass-push test [] b h k = (k, tt)
AllPass-push test (x ∷ xs) b h k = (h.0, AllPass-push test xs b h.1 k)

pub AllPass-more : (test : ℕ → Bool) (bytes : List ℕ) (n : ℕ) → n < length bytes → AllPass test (take n bytes) → test (get_or bytes n 0) ≡ true → AllPass test (take (n + 1) bytes)
AllPass-more test bytes n lt h k = rw (take_more bytes n 0 lt) (AllPass-push test (take n bytes) (get_or bytes n 0) h k)

AllPass-at : (test : ℕ → Bool) (bytes : List ℕ) (n m : ℕ) → n < m → m ≤ length bytes → AllPass test (take m bytes) → test (get_or bytes n 0) ≡ true
AllPass-at test [] n m lt le h = absurd (omega arith)
AllPass-at test (b ∷ bytes) n zero lt le h = absurd (omega arith)
AllPass-at test (b ∷ bytes) zero (suc m) lt le h = h.0
AllPass-at test (b ∷ bytes) (suc n) (suc m) lt le h = AllPass-at test bytes n m (omega arith) (omega arith) h.1

pub run_ends : (class : Class) (bytes : List ℕ) (n : ℕ) → n < length bytes → AllPass (test_of class) (take n bytes) → test_of class (get_or bytes n 0) ≡ false → Runs class bytes n
run_ends class bytes n lt h k = record { within = omega arith; each = h; stop = λ m nm le all. clash (test_of class (get_or bytes n 0)) (AllPass-at (test_of class) bytes n m nm le all) k }

pub run_all : (class : Class) (bytes : List ℕ) → AllPass (test_of class) (take (length bytes) bytes) → Runs class bytes (length bytes)
run_all class bytes h = record { within = omega arith; each = h; stop = λ m nm le all. absurd (omega arith) }

-- a run up to a byte that doesn't pass is one alone
pub run_same : (test : ℕ → Bool) (x y u v : List ℕ) (b c : ℕ) → AllPass test x → test b ≡ false → AllPass test y → test c ≡ false → x ++ b ∷ u ≡ y ++ c ∷ v → (x ≡ y) × (b ∷ u ≡ c ∷ v)
run_same test [] [] u v b c h k g l e = (refl, e)
run_same test [] (d ∷ y) u v b c h k g l e = let same : b ≡ d = cc in absurd (clash (test b) (rw same g.0) k)
run_same test (a ∷ x) [] u v b c h k g l e = let same : a ≡ c = cc in absurd (clash (test c) (rw (← same) h.0) l)
run_same test (a ∷ x) (d ∷ y) u v b c h k g l e =
    let head : a ≡ d = cc in
    let rest = run_same test x y u v b c h.1 k g.1 l (cc) in
    (ap (λ z. z ∷ x) head ∙ ap (λ z. d ∷ z) rest.0, rest.1)

-- a byte that doesn't pass stands in no run
pub run_none : (test : ℕ → Bool) (x u : List ℕ) (b : ℕ) → AllPass test (x ++ b ∷ u) → test b ≡ false → ⊥
run_none test [] u b h k = clash (test b) h.0 k
run_none test (a ∷ x) u b h k = run_none test x u b h.1 k

-- behind a run stands a byte that doesn't pass
pub run_stops : (class : Class) (bytes : List ℕ) (n : ℕ) → Runs class bytes n → n < length bytes → test_of class (get_or bytes n 0) ≡ false
run_stops class bytes n r lt = go (test_of class (get_or bytes n 0)) refl
  where
    go : (t : Bool) → test_of class (get_or bytes n 0) ≡ t → t ≡ false
    go true e = absurd (r.stop (n + 1) (omega arith) (omega arith) (AllPass-more (test_of class) bytes n lt r.each e))
    go false e = refl

AllPass-drop : (test : ℕ → Bool) (n : ℕ) (bytes : List ℕ) → AllPass test bytes → AllPass test (drop n bytes)
AllPass-drop test zero bytes h = h
AllPass-drop test (suc n) [] h = tt
AllPass-drop test (suc n) (b ∷ bytes) h = AllPass-drop test n bytes h.1

AllPass-append : (test : ℕ → Bool) (xs ys : List ℕ) → AllPass test xs → AllPass test ys → AllPass test (xs ++ ys)
AllPass-append test [] ys h k = k
AllPass-append test (x ∷ xs) ys h k = (h.0, AllPass-append test xs ys h.1 k)

-- a run behind bytes of its class
pub run_behind : (class : Class) (bytes : List ℕ) (known n : ℕ) → known ≤ length bytes → AllPass (test_of class) (take known bytes) → Runs class (drop known bytes) n → Runs class bytes (known + n)
run_behind class bytes known n within each r =
    let rest = length-drop known bytes in
    record {
      within = omega (arith, r.within, rest);
      each = rw (take-add known n bytes) (AllPass-append (test_of class) (take known bytes) (take n (drop known bytes)) each r.each);
      stop = λ m more le all. r.stop (m - known) (omega arith) (omega (arith, rest))
          (subst (AllPass (test_of class)) (drop-take known (m - known) bytes)
          (AllPass-drop (test_of class) known (take (known + (m - known)) bytes)
          (subst (λ z. AllPass (test_of class) (take z bytes)) (omega arith) all)));
    }
