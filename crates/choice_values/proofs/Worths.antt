-- Lists one longer, and under choices that agree.
use Rattle.std.proofs.Common.{◌≡◌, ◌≢◌, ℕ, zero, suc, get_or, ◌+◌, ◌<◌, Bool, true, false, ◌&&◌, if◌then◌else◌, List, [], ◌∷◌, ◌++◌, length, refl, sym, ◌∙◌, ap, subst, arith}
use Rattle.std.specs.Prelude.{nat_eq, ℤ, pos, ◌+ℤ◌, ◌≤ℤ◌}
use Rattle.std.proofs.lemmas.Int.{ints}
use Rattle.block_choices.specs.declared.row.BlockRow.{BlockRow}
use Rattle.choice_values.specs.Values.{Weighted}
use Rattle.choice_values.specs.Pairs.{list_at}
use Rattle.choice_values.specs.Choosing.{keeps, worth, worths, IsIn, AreIn, AreFree}

and-more : (a b c : Bool) → a && (b && c) ≡ (a && b) && c
and-more true b c = refl
and-more false b c = refl

pub keeps-append : (c : ℕ → ℕ) (ps qs : List BlockRow) → keeps c (ps ++ qs) ≡ keeps c ps && keeps c qs
keeps-append c [] qs = refl
keeps-append c (p ∷ ps) qs = ap (λ b. nat_eq (c p.block) p.row && b) (keeps-append c ps qs) ∙ and-more (nat_eq (c p.block) p.row) (keeps c ps) (keeps c qs)

module _ (Such : ℕ → Type 0) where
  pub in-append : (ps qs : List BlockRow) → IsIn Such ps → IsIn Such qs → IsIn Such (ps ++ qs)
  in-append [] qs f g = g
  in-append (p ∷ ps) qs f g = (f.0, in-append ps qs f.1 g)

  pub in-apart : (ps qs : List BlockRow) → IsIn Such (ps ++ qs) → IsIn Such ps × IsIn Such qs
  in-apart [] qs f = (tt, f)
  in-apart (p ∷ ps) qs f = (let r = in-apart ps qs f.1 in ((f.0, r.0), r.1))

  pub are-in-push : (ts : List Weighted) (t : Weighted) → AreIn Such ts → IsIn Such t.names → AreIn Such (ts ++ t ∷ [])
  are-in-push [] t f n = (n, tt)
  are-in-push (q ∷ ts) t f n = (f.0, are-in-push ts t f.1 n)

  pub are-in-apart : (ts : List Weighted) (t : Weighted) → AreIn Such (ts ++ t ∷ []) → AreIn Such ts × IsIn Such t.names
  are-in-apart [] t f = (tt, f.0)
  are-in-apart (q ∷ ts) t f = (let r = are-in-apart ts t f.1 in ((f.0, r.0), r.1))

  pub in-at : (ps : List BlockRow) (i : ℕ) (d : BlockRow) → i < length ps → IsIn Such ps → Such (get_or ps i d).block
  in-at [] i d l f = absurd (omega (arith, l))
  in-at (p ∷ ps) zero d l f = f.0
  in-at (p ∷ ps) (suc i) d l f = in-at ps i d (omega (arith, l)) f.1

  pub are-in-at : (ts : List Weighted) (i : ℕ) → i < length ts → AreIn Such ts → IsIn Such (list_at ts i).names
  are-in-at [] i l f = absurd (omega (arith, l))
  are-in-at (t ∷ ts) zero l f = f.0
  are-in-at (t ∷ ts) (suc i) l f = are-in-at ts i (omega (arith, l)) f.1

  -- choices that agree on such blocks
  module _ (c d : ℕ → ℕ) (same : (x : ℕ) → Such x → c x ≡ d x) where
    pub keeps-in : (ps : List BlockRow) → IsIn Such ps → keeps c ps ≡ keeps d ps
    keeps-in [] f = refl
    keeps-in (p ∷ ps) f = ap (λ n. nat_eq n p.row && keeps c ps) (same p.block f.0) ∙ ap (λ k. nat_eq (d p.block) p.row && k) (keeps-in ps f.1)

    pub worths-in : (ts : List Weighted) → AreIn Such ts → worths c ts ≡ worths d ts
    worths-in [] f = refl
    worths-in (t ∷ ts) f = ap (λ k. (if k then t.weight else pos 0) +ℤ worths c ts) (keeps-in t.names f.0) ∙ ap (λ n. worth d t +ℤ n) (worths-in ts f.1)

pub worths-push : (c : ℕ → ℕ) (ts : List Weighted) (t : Weighted) → worths c (ts ++ t ∷ []) ≡ worths c ts +ℤ worth c t
worths-push c [] t = omega (arith, ints)
worths-push c (s ∷ ts) t = ap (λ n. worth c s +ℤ n) (worths-push c ts t) ∙ omega (arith, ints)

all-in : (ps : List BlockRow) → IsIn (λ x. Unit {0}) ps
all-in [] = tt
all-in (p ∷ ps) = (tt, all-in ps)

are-all-in : (ts : List Weighted) → AreIn (λ x. Unit {0}) ts
are-all-in [] = tt
are-all-in (t ∷ ts) = (all-in t.names, are-all-in ts)

-- choices that agree everywhere
pub worths-same : (c d : ℕ → ℕ) (ts : List Weighted) → ((x : ℕ) → c x ≡ d x) → worths c ts ≡ worths d ts
worths-same c d ts same = worths-in (λ x. Unit {0}) c d (λ x u. same x) ts (are-all-in ts)

-- choices that agree off a block
pub worths-off : (c d : ℕ → ℕ) (b : ℕ) (ts : List Weighted) → ((x : ℕ) → x ≢ b → c x ≡ d x) → AreFree b ts → worths c ts ≡ worths d ts
worths-off c d b ts same f = worths-in (λ x. x ≢ b) c d same ts f

-- a list without a row counts in each choice
pub worths-whole : (c : ℕ → ℕ) (ts : List Weighted) (t : Weighted) (n m : ℤ) → worths c ts ≡ n → t.names ≡ [] → m ≡ n +ℤ t.weight → worths c (ts ++ t ∷ []) ≡ m
worths-whole c ts t n m h e s = worths-push c ts t ∙ (ap (λ k. k +ℤ worth c t) h ∙ (ap (λ (ps : List BlockRow). n +ℤ (if keeps c ps then t.weight else pos 0)) e ∙ sym s))
