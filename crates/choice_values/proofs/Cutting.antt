-- One row and one list more.
use Rattle.std.proofs.Common.{◌≡◌, ◌≢◌, ℕ, ◌+◌, ◌<◌, ◌≤◌, Bool, true, false, ◌&&◌, if◌then◌else◌, inl, inr, List, [], ◌∷◌, ◌++◌, length, take, drop, get_or, refl, sym, ◌∙◌, ap, subst, arith, eq-eqb}
use Rattle.std.specs.Prelude.{nat_eq, ℤ, pos, ◌+ℤ◌, ◌≤ℤ◌}
use Rattle.std.proofs.lemmas.Int.{ints}
use Rattle.std.proofs.lemmas.List.{take_more, take-append-drop}
use Rattle.std.proofs.lemmas.Bool.Decides.{eqb_tells}
use Rattle.block_choices.specs.declared.row.BlockRow.{BlockRow}
use Rattle.choice_values.specs.Values.{Weighted}
use Rattle.choice_values.specs.Choosing.{keeps, worth, worths, IsFree, AreFree}
use Rattle.choice_values.specs.Under.{IsLeft, IsCut, IsUnder}
use Rattle.choice_values.proofs.Worths.{keeps-append, in-append, in-apart, are-in-push, are-in-apart, worths-push}

eqb-not : (a b : ℕ) → a ≢ b → nat_eq a b ≡ false
eqb-not a b n = elim (eqb_tells a b) [ inl y ↦ absurd (n y.1) | inr z ↦ z.0 ]

and-true : (a : Bool) → a && true ≡ a
and-true true = refl
and-true false = refl

and-false : (a : Bool) → a && false ≡ false
and-false true = refl
and-false false = refl

single : (c : ℕ → ℕ) (p : BlockRow) → keeps c (p ∷ []) ≡ nat_eq (c p.block) p.row
single c p = and-true (nat_eq (c p.block) p.row)

pub left-none : (b r : ℕ) (names left : List BlockRow) → names ≡ [] → left ≡ [] → IsLeft b r names left
left-none b r names left e f = record { same = λ c k. ap (keeps c) (e ∙ sym f); free = subst (IsFree b) (sym f) tt; fewer = λ x h. subst (IsFree x) (sym f) tt }

module _ (b r : ℕ) (names left : List BlockRow) (i : ℕ) (l : i < length names) (d : BlockRow) (h : IsLeft b r (take i names) left) where
  more : (c : ℕ → ℕ) → keeps c (take (i + 1) names) ≡ keeps c (take i names) && nat_eq (c (get_or names i d).block) (get_or names i d).row
  more c = ap (keeps c) (take_more names i d l) ∙ (keeps-append c (take i names) (get_or names i d ∷ []) ∙ ap (λ k. keeps c (take i names) && k) (single c (get_or names i d)))

  apart : (x : ℕ) → IsFree x (take (i + 1) names) → IsFree x (take i names) × IsFree x (get_or names i d ∷ [])
  apart x f = in-apart (λ k. k ≢ x) (take i names) (get_or names i d ∷ []) (subst (IsFree x) (take_more names i d l) f)

  pub left-other : (new : List BlockRow) → (get_or names i d).block ≢ b → new ≡ left ++ get_or names i d ∷ [] → IsLeft b r (take (i + 1) names) new
  left-other new n e = record {
    same = λ c k. more c ∙ (ap (λ x. x && nat_eq (c (get_or names i d).block) (get_or names i d).row) (h.same c k)
        ∙ (ap (λ x. keeps c left && x) (sym (single c (get_or names i d))) ∙ (sym (keeps-append c left (get_or names i d ∷ [])) ∙ ap (keeps c) (sym e))));
    free = subst (IsFree b) (sym e) (in-append (λ k. k ≢ b) left (get_or names i d ∷ []) h.free (n, tt));
    fewer = λ x f. subst (IsFree x) (sym e) (in-append (λ k. k ≢ x) left (get_or names i d ∷ []) (h.fewer x (apart x f).0) (apart x f).1);
  }

  pub left-same : (get_or names i d).block ≡ b → (get_or names i d).row ≡ r → IsLeft b r (take (i + 1) names) left
  left-same e f = record {
    same = λ c k. more c ∙ (ap (λ x. keeps c (take i names) && x) (eq-eqb (c (get_or names i d).block) (get_or names i d).row (ap c e ∙ (k ∙ sym f))) ∙ (and-true (keeps c (take i names)) ∙ h.same c k));
    free = h.free;
    fewer = λ x g. h.fewer x (apart x g).0;
  }

  pub left-clash : (get_or names i d).block ≡ b → ((get_or names i d).row ≡ r → ⊥) → (c : ℕ → ℕ) → c b ≡ r → keeps c names ≡ false
  left-clash e n c k =
      ap (keeps c) (sym (take-append-drop (i + 1) names)) ∙ (keeps-append c (take (i + 1) names) (drop (i + 1) names)
      ∙ ap (λ x. x && keeps c (drop (i + 1) names)) (more c ∙ (ap (λ x. keeps c (take i names) && x) (eqb-not (c (get_or names i d).block) (get_or names i d).row (λ m. n (sym m ∙ (ap c e ∙ k)))) ∙ and-false (keeps c (take i names)))))

pub under-none : (b r : ℕ) → IsUnder b r [] (pos 0) []
under-none b r = record { same = λ c k. omega (arith, ints); free = tt; fewer = λ x f. tt }

module _ (b r : ℕ) (front : List Weighted) (l : Weighted) (base : ℤ) (left : List Weighted) (h : IsUnder b r front base left) where
  push : (c : ℕ → ℕ) → c b ≡ r → (k : Bool) → keeps c l.names ≡ k → worths c (front ++ l ∷ []) ≡ (base +ℤ worths c left) +ℤ (if k then l.weight else pos 0)
  push c e k s = worths-push c front l ∙ (ap (λ n. n +ℤ worth c l) (h.same c e) ∙ ap (λ x. (base +ℤ worths c left) +ℤ (if x then l.weight else pos 0)) s)

  -- it names another row of the block
  pub under-clash : ((c : ℕ → ℕ) → c b ≡ r → keeps c l.names ≡ false) → IsUnder b r (front ++ l ∷ []) base left
  under-clash n = record {
    same = λ c e. push c e false (n c e) ∙ none (base +ℤ worths c left);
    free = h.free;
    fewer = λ x f. h.fewer x (are-in-apart (λ k. k ≢ x) front l f).0;
  }
    where
      none : (x : ℤ) → x +ℤ pos 0 ≡ x
      none x = omega (arith, ints)

  -- no row is left of it
  pub under-whole : (rest : List BlockRow) → IsLeft b r l.names rest → rest ≡ [] → (sum : ℤ) → sum ≡ base +ℤ l.weight → IsUnder b r (front ++ l ∷ []) sum left
  under-whole rest m e sum s = record {
    same = λ c k. push c k true (m.same c k ∙ ap (keeps c) e) ∙ (turned base (worths c left) l.weight ∙ ap (λ n. n +ℤ worths c left) (sym s));
    free = h.free;
    fewer = λ x f. h.fewer x (are-in-apart (λ k. k ≢ x) front l f).0;
  }
    where
      turned : (x y z : ℤ) → (x +ℤ y) +ℤ z ≡ (x +ℤ z) +ℤ y
      turned x y z = omega (arith, ints)

  -- some are
  pub under-more : (m : Weighted) → IsLeft b r l.names m.names → m.weight ≡ l.weight → (new : List Weighted) → new ≡ left ++ m ∷ [] → IsUnder b r (front ++ l ∷ []) base new
  under-more m k w new e = record {
    same = λ c q. push c q (keeps c m.names) (k.same c q) ∙ (ap (λ n. (base +ℤ worths c left) +ℤ (if keeps c m.names then n else pos 0)) (sym w)
        ∙ (turned base (worths c left) (worth c m) ∙ ap (λ n. base +ℤ n) (sym (worths-push c left m) ∙ ap (worths c) (sym e))));
    free = subst (AreFree b) (sym e) (are-in-push (λ k. k ≢ b) left m h.free k.free);
    fewer = λ x f. (let a = are-in-apart (λ k. k ≢ x) front l f in subst (AreFree x) (sym e) (are-in-push (λ k. k ≢ x) left m (h.fewer x a.0) (k.fewer x a.1)));
  }
    where
      turned : (x y z : ℤ) → (x +ℤ y) +ℤ z ≡ x +ℤ (y +ℤ z)
      turned x y z = omega (arith, ints)
