-- A walk answers exactly what the shape spells, where one token ahead decides each step.
use Rattle.std.proofs.Common.{◌≡◌, ◌⊎◌, inl, inr, ℕ, Bool, true, false, not, ◌&&◌, ◌||◌, nat_eq, List, [], ◌∷◌, ◌++◌, Option, Some, None, refl, sym, ◌∙◌, ap, subst, append_assoc, pos}
use Rattle.std.specs.List.{AllByRecursion}
use Rattle.std.specs.Cmp.Lexicographic.{pointwise, same_text}
use Rattle.std.proofs.lemmas.Bool.{and_parts, and_from, not-true, or_right, or_left, or_cases}
use Rattle.std.proofs.lemmas.Bool.Decides.{Decides-eqb}
use Rattle.std.proofs.lemmas.Slice.Eq.{slice_eq-Decides}
use Rattle.cqa_value.proofs.Words.{clash_not}
use Rattle.script_lex.specs.declared.kinds.Symbol.{Symbol}
use Rattle.spj_syntax.specs.Lexemes.{Lexeme, Word, Number, Quoted, Mark}
use Rattle.spj_syntax.specs.Shapes.{Terminal, word, name, int, text, mark, matches, primary, Shape, one, ◌⨾◌, ◌∣◌, many, nothing, code, Generates, joined, Stuck, FirstFault}
use Rattle.spj_syntax.specs.Walk.{nullable, followed_by, or_else, only_if, after, after_all, nullable_all, Outcome, Past, Stopped, ended, next, walk, read}
use Rattle.spj_syntax.specs.First.{only, first, ends, differ, differs_from_all, apart, decided}

append_nil : (l : List Lexeme) → l ++ [] ≡ l
append_nil [] = refl
append_nil (p ∷ l) = ap (λ k. p ∷ k) (append_nil l)

append_empty : (a b : List Lexeme) → a ++ b ≡ [] → (a ≡ []) × (b ≡ [])
append_empty [] b e = (refl, e)
append_empty (x ∷ a) b e = (cc)

only_some : (b : Bool) (o : Option (List Shape)) (l : List Shape) → only_if b o ≡ Some l → (b ≡ true) × (o ≡ Some l)
only_some true o l e = (refl, e)
only_some false o l e = (cc)

or_some : (o r : Option (List Shape)) (l : List Shape) → or_else o r ≡ Some l → (o ≡ Some l) ⊎ ((o ≡ None) × (r ≡ Some l))
or_some None r l e = inr (refl, e)
or_some (Some m) r l e = inl e

followed_some : (o : Option (List Shape)) (k l : List Shape) → followed_by o k ≡ Some l → (m : List Shape) × (o ≡ Some m) × (m ++ k ≡ l)
followed_some None k l e = (cc)
followed_some (Some m) k l e = (m, refl, the_same (m ++ k) l e)
  where
    the_same : (a b : List Shape) → Some a ≡ Some b → a ≡ b
    the_same a b e = cc

-- shapes one after another
abbrev GeneratesAll : List Shape → List Lexeme → Type 0
GeneratesAll [] ls = ls ≡ []
GeneratesAll (p ∷ k) ls = (a b : List Lexeme) × Generates p a × GeneratesAll k b × (ls ≡ a ++ b)

GeneratesAll-split : (l k : List Shape) (ls : List Lexeme) → GeneratesAll (l ++ k) ls → (a b : List Lexeme) × GeneratesAll l a × GeneratesAll k b × (ls ≡ a ++ b)
GeneratesAll-split [] k ls s = ([], ls, refl, s, refl)
GeneratesAll-split (p ∷ l) k ls s =
    let r = GeneratesAll-split l k s.1 s.3 in
    (s.0 ++ r.0, r.1, (s.0, r.0, s.2, r.2, refl), r.3, s.4 ∙ ap (λ z. s.0 ++ z) r.4 ∙ sym (append_assoc s.0 r.0 r.1))

GeneratesAll-join : (l k : List Shape) (a b ls : List Lexeme) → GeneratesAll l a → GeneratesAll k b → ls ≡ a ++ b → GeneratesAll (l ++ k) ls
GeneratesAll-join [] k a b ls s t e = subst (GeneratesAll k) (sym (e ∙ ap (λ z. z ++ b) s)) t
GeneratesAll-join (p ∷ l) k a b ls s t e =
    (s.0, s.1 ++ b, s.2, GeneratesAll-join l k s.1 b (s.1 ++ b) s.3 t refl, e ∙ ap (λ z. z ++ b) s.4 ∙ append_assoc s.0 s.1 b)

one_shape : (p : Shape) (ls : List Lexeme) → GeneratesAll (p ∷ []) ls → Generates p ls
one_shape p ls s = subst (Generates p) (sym (s.4 ∙ ap (λ z. s.0 ++ z) s.3 ∙ append_nil s.0)) s.2

as_shapes : (p : Shape) (ls : List Lexeme) → Generates p ls → GeneratesAll (p ∷ []) ls
as_shapes p ls s = (ls, [], s, refl, sym (append_nil ls))

nullable_sound : (p : Shape) → nullable p ≡ true → Generates p []
nullable_sound (one x) h = (cc)
nullable_sound (p ⨾ q) h = let e = and_parts (nullable p) (nullable q) h in ([], [], nullable_sound p e.0, nullable_sound q e.1, refl)
nullable_sound (p ∣ q) h = elim (or_cases (nullable p) (nullable q) h) [ inl e ↦ inl (nullable_sound p e) | inr e ↦ inr (nullable_sound q e) ]
nullable_sound (many p) h = ([], tt, refl)
nullable_sound nothing h = refl

nullable_complete : (p : Shape) (ls : List Lexeme) → Generates p ls → ls ≡ [] → nullable p ≡ true
nullable_complete (one x) ls s e = let f : ls ≡ s.0 ∷ [] = s.2 in (cc)
nullable_complete (p ⨾ q) ls s e =
    let f = append_empty s.0 s.1 (sym s.4 ∙ e) in and_from (nullable p) (nullable q) (nullable_complete p s.0 s.2 f.0) (nullable_complete q s.1 s.3 f.1)
nullable_complete (p ∣ q) ls s e = elim s [ inl t ↦ or_left (nullable p) (nullable q) (nullable_complete p ls t e) | inr t ↦ or_right (nullable p) (nullable q) (nullable_complete q ls t e) ]
nullable_complete (many p) ls s e = refl
nullable_complete nothing ls s e = refl

after_sound : (p : Shape) (t : Lexeme) (l : List Shape) (a : List Lexeme) → after p t ≡ Some l → GeneratesAll l a → Generates p (t ∷ a)
after_sound (one x) t l a e s =
    let f = only_some (matches x t) (Some []) l e in
    let g : [] ≡ l = cc (f.1) in
    let h : a ≡ [] = subst (λ m. GeneratesAll m a) (sym g) s in
    (t, f.0, ap (λ z. t ∷ z) h)
after_sound (p ⨾ q) t l a e s =
    elim (or_some (followed_by (after p t) (q ∷ [])) (only_if (nullable p) (after q t)) l e) [
      | inl f ↦
          let g = followed_some (after p t) (q ∷ []) l f in
          let r = GeneratesAll-split g.0 (q ∷ []) a (subst (λ m. GeneratesAll m a) (sym g.2) s) in
          (t ∷ r.0, r.1, after_sound p t g.0 r.0 g.1 r.2, one_shape q r.1 r.3, ap (λ z. t ∷ z) r.4)
      | inr f ↦
          let g = only_some (nullable p) (after q t) l f.1 in
          ([], t ∷ a, nullable_sound p g.0, after_sound q t l a g.1 s, refl)
    ]
after_sound (p ∣ q) t l a e s =
    elim (or_some (after p t) (after q t) l e) [ inl f ↦ inl (after_sound p t l a f s) | inr f ↦ inr (after_sound q t l a f.1 s) ]
after_sound (many p) t l a e s =
    let g = followed_some (after p t) (many p ∷ []) l e in
    let r = GeneratesAll-split g.0 (many p ∷ []) a (subst (λ m. GeneratesAll m a) (sym g.2) s) in
    let m = one_shape (many p) r.1 r.3 in
    ((t ∷ r.0) ∷ m.0, (after_sound p t g.0 r.0 g.1 r.2, m.1), ap (λ z. t ∷ z) (r.4 ∙ ap (λ z. r.0 ++ z) m.2))
after_sound nothing t l a e s = (cc)

-- each shape spells something
same_bytes : (w : List ℕ) → pointwise nat_eq w w ≡ true
same_bytes w = (slice_eq-Decides Decides-eqb w w (pointwise nat_eq w w) refl).1 refl

abbrev sample_lexeme : Terminal → Lexeme
sample_lexeme (word w) = Word w
sample_lexeme name = Word []
sample_lexeme int = Number (pos 0)
sample_lexeme text = Quoted []
sample_lexeme (mark s) = Mark s

sample_matches : (x : Terminal) → matches x (sample_lexeme x) ≡ true
sample_matches (word w) = same_bytes w
sample_matches name = refl
sample_matches int = refl
sample_matches text = refl
sample_matches (mark s) = (Decides-eqb (code s) (code s)).1 refl

sample : (p : Shape) → (ls : List Lexeme) × Generates p ls
sample (one x) = (sample_lexeme x ∷ [], (sample_lexeme x, sample_matches x, refl))
sample (p ⨾ q) = let s = sample p in let t = sample q in (s.0 ++ t.0, (s.0, t.0, s.1, t.1, refl))
sample (p ∣ q) = let s = sample p in (s.0, inl s.1)
sample (many p) = ([], ([], tt, refl))
sample nothing = ([], refl)

-- a token matches one of these
abbrev Meets : List Terminal → Lexeme → Type 0
Meets [] t = ⊥
Meets (x ∷ xs) t = (matches x t ≡ true) ⊎ Meets xs t

Meets-left : (xs ys : List Terminal) (t : Lexeme) → Meets xs t → Meets (xs ++ ys) t
Meets-left [] ys t h = absurd h
Meets-left (x ∷ xs) ys t h = elim h [ inl e ↦ inl e | inr m ↦ inr (Meets-left xs ys t m) ]

Meets-right : (xs ys : List Terminal) (t : Lexeme) → Meets ys t → Meets (xs ++ ys) t
Meets-right [] ys t h = h
Meets-right (x ∷ xs) ys t h = inr (Meets-right xs ys t h)

Meets-split : (xs ys : List Terminal) (t : Lexeme) → Meets (xs ++ ys) t → Meets xs t ⊎ Meets ys t
Meets-split [] ys t h = inr h
Meets-split (x ∷ xs) ys t h = elim h [ inl e ↦ inl (inl e) | inr m ↦ elim (Meets-split xs ys t m) [ inl a ↦ inl (inr a) | inr b ↦ inr b ] ]

Meets-only : (b : Bool) (xs : List Terminal) (t : Lexeme) → b ≡ true → Meets xs t → Meets (only b xs) t
Meets-only true xs t e h = h
Meets-only false xs t e h = (cc)

only-Meets : (b : Bool) (xs : List Terminal) (t : Lexeme) → Meets (only b xs) t → (b ≡ true) × Meets xs t
only-Meets true xs t h = (refl, h)
only-Meets false xs t h = absurd h

first_meets : (p : Shape) (t : Lexeme) (l : List Shape) → after p t ≡ Some l → Meets (first p) t
first_meets (one x) t l e = inl (only_some (matches x t) (Some []) l e).0
first_meets (p ⨾ q) t l e =
    elim (or_some (followed_by (after p t) (q ∷ [])) (only_if (nullable p) (after q t)) l e) [
      | inl f ↦ let g = followed_some (after p t) (q ∷ []) l f in Meets-left (first p) (only (nullable p) (first q)) t (first_meets p t g.0 g.1)
      | inr f ↦ let g = only_some (nullable p) (after q t) l f.1 in Meets-right (first p) (only (nullable p) (first q)) t (Meets-only (nullable p) (first q) t g.0 (first_meets q t l g.1))
    ]
first_meets (p ∣ q) t l e =
    elim (or_some (after p t) (after q t) l e) [ inl f ↦ Meets-left (first p) (first q) t (first_meets p t l f) | inr f ↦ Meets-right (first p) (first q) t (first_meets q t l f.1) ]
first_meets (many p) t l e = let g = followed_some (after p t) (many p ∷ []) l e in first_meets p t g.0 g.1
first_meets nothing t l e = (cc)

ends_first : (p : Shape) (t : Lexeme) → nullable p ≡ true → Meets (first p) t → Meets (ends p) t
ends_first (one x) t n h = (cc)
ends_first (p ⨾ q) t n h =
    let e = and_parts (nullable p) (nullable q) n in
    elim (Meets-split (first p) (only (nullable p) (first q)) t h) [
      | inl a ↦ Meets-right (ends q) (only (nullable q) (ends p)) t (Meets-only (nullable q) (ends p) t e.1 (ends_first p t e.0 a))
      | inr b ↦ Meets-left (ends q) (only (nullable q) (ends p)) t (ends_first q t e.1 (only-Meets (nullable p) (first q) t b).1)
    ]
ends_first (p ∣ q) t n h = Meets-right (ends p ++ ends q) (only (nullable p || nullable q) (first p ++ first q)) t (Meets-only (nullable p || nullable q) (first p ++ first q) t n h)
ends_first (many p) t n h = Meets-right (ends p) (first p) t h
ends_first nothing t n h = h

abbrev Apart : List Terminal → List Terminal → Type 0
Apart xs ys = (t : Lexeme) → Meets xs t → Meets ys t → ⊥

same_code : (s r : Symbol) → nat_eq (code s) (code r) ≡ true → code s ≡ code r
same_code s r h = (Decides-eqb (code s) (code r)).0 h

differ_sound : (x y : Terminal) (t : Lexeme) → differ x y ≡ true → matches x t ≡ true → matches y t ≡ true → ⊥
differ_sound (word w) (word v) (Word u) d h k = clash_not (pointwise nat_eq w v) d (subst (λ z. pointwise nat_eq w z ≡ true) (sym (same_text v u (sym k))) h)
differ_sound (word w) name (Word u) d h k = clash_not (pointwise nat_eq primary u) k (subst (λ z. pointwise nat_eq primary z ≡ true) (same_text w u (sym h)) d)
differ_sound name (word w) (Word u) d h k = clash_not (pointwise nat_eq primary u) h (subst (λ z. pointwise nat_eq primary z ≡ true) (same_text w u (sym k)) d)
differ_sound (mark s) (mark r) (Mark q) d h k =
    clash_not (nat_eq (code s) (code r)) d ((Decides-eqb (code s) (code r)).1 (same_code s q h ∙ sym (same_code r q k)))
differ_sound int _ (Word u) d h k = (cc)
differ_sound text _ (Word u) d h k = (cc)
differ_sound _ int (Word u) d h k = (cc)
differ_sound _ text (Word u) d h k = (cc)
differ_sound _ _ (Word u) d h k = (cc)
differ_sound int int t d h k = (cc)
differ_sound _ int (Number u) d h k = (cc)
differ_sound int _ (Number u) d h k = (cc)
differ_sound _ _ (Number u) d h k = (cc)
differ_sound text text t d h k = (cc)
differ_sound _ text (Quoted u) d h k = (cc)
differ_sound text _ (Quoted u) d h k = (cc)
differ_sound _ _ (Quoted u) d h k = (cc)
differ_sound _ _ (Mark u) d h k = (cc)

differs_sound : (x : Terminal) (ys : List Terminal) (t : Lexeme) → differs_from_all x ys ≡ true → matches x t ≡ true → Meets ys t → ⊥
differs_sound x [] t d h m = m
differs_sound x (y ∷ ys) t d h m =
    let e = and_parts (differ x y) (differs_from_all x ys) d in
    elim m [ inl k ↦ differ_sound x y t e.0 h k | inr n ↦ differs_sound x ys t e.1 h n ]

apart_sound : (xs ys : List Terminal) → apart xs ys ≡ true → Apart xs ys
apart_sound [] ys h t m n = m
apart_sound (x ∷ xs) ys h t m n =
    let e = and_parts (differs_from_all x ys) (apart xs ys) h in
    elim m [ inl k ↦ differs_sound x ys t e.0 k n | inr o ↦ apart_sound xs ys e.1 t o n ]

-- one token ahead decides each step
abbrev Good : Shape → Type 0
Good (one x) = Unit {0}
Good (p ⨾ q) = Good p × Good q × Apart (ends p) (first q)
Good (p ∣ q) = Good p × Good q × Apart (first p) (first q)
Good (many p) = Good p × (nullable p ≡ false) × Apart (ends p) (first p)
Good nothing = Unit {0}

decided_good : (p : Shape) → decided p ≡ true → Good p
decided_good (one x) h = tt
decided_good (p ⨾ q) h =
    let e = and_parts (decided p && decided q) (apart (ends p) (first q)) h in
    let f = and_parts (decided p) (decided q) e.0 in
    (decided_good p f.0, decided_good q f.1, apart_sound (ends p) (first q) e.1)
decided_good (p ∣ q) h =
    let e = and_parts (decided p && decided q) (apart (first p) (first q)) h in
    let f = and_parts (decided p) (decided q) e.0 in
    (decided_good p f.0, decided_good q f.1, apart_sound (first p) (first q) e.1)
decided_good (many p) h =
    let e = and_parts (decided p && not (nullable p)) (apart (ends p) (first p)) h in
    let f = and_parts (decided p) (not (nullable p)) e.0 in
    (decided_good p f.0, not-true (nullable p) f.1, apart_sound (ends p) (first p) e.1)
decided_good nothing h = tt

abbrev first_all : List Shape → List Terminal
first_all [] = []
first_all (p ∷ k) = first p ++ only (nullable p) (first_all k)

abbrev GoodAll : List Shape → Type 0
GoodAll [] = Unit {0}
GoodAll (p ∷ k) = Good p × Apart (ends p) (first_all k) × GoodAll k

-- what is still wanted is good too
after_good : (p : Shape) (k : List Shape) (t : Lexeme) (l : List Shape) → Good p → Apart (ends p) (first_all k) → GoodAll k → after p t ≡ Some l → GoodAll (l ++ k)
after_good (one x) k t l g d h e =
    let f : [] ≡ l = cc ((only_some (matches x t) (Some []) l e).1) in subst (λ m. GoodAll (m ++ k)) f h
after_good (p ⨾ q) k t l g d h e =
    let d_q : Apart (ends q) (first_all k) = λ u m n. d u (Meets-left (ends q) (only (nullable q) (ends p)) u m) n in
    let h_q : GoodAll (q ∷ k) = (g.1, d_q, h) in
    let d_p : Apart (ends p) (first_all (q ∷ k)) = λ u m n. elim (Meets-split (first q) (only (nullable q) (first_all k)) u n) [
      | inl a ↦ g.2 u m a
      | inr b ↦ let c = only-Meets (nullable q) (first_all k) u b in d u (Meets-right (ends q) (only (nullable q) (ends p)) u (Meets-only (nullable q) (ends p) u c.0 m)) c.1
    ] in
    elim (or_some (followed_by (after p t) (q ∷ [])) (only_if (nullable p) (after q t)) l e) [
      | inl f ↦
          let i = followed_some (after p t) (q ∷ []) l f in
          subst (λ m. GoodAll m) (sym (append_shapes i.0 q k) ∙ ap (λ m. m ++ k) i.2) (after_good p (q ∷ k) t i.0 g.0 d_p h_q i.1)
      | inr f ↦ after_good q k t l g.1 d_q h (only_some (nullable p) (after q t) l f.1).1
    ]
  where
    append_shapes : (a : List Shape) (q : Shape) (k : List Shape) → (a ++ q ∷ []) ++ k ≡ a ++ q ∷ k
    append_shapes a q k = append_assoc a (q ∷ []) k
after_good (p ∣ q) k t l g d h e =
    let rest = only (nullable p || nullable q) (first p ++ first q) in
    elim (or_some (after p t) (after q t) l e) [
      | inl f ↦ after_good p k t l g.0 (λ u m n. d u (Meets-left (ends p ++ ends q) rest u (Meets-left (ends p) (ends q) u m)) n) h f
      | inr f ↦ after_good q k t l g.1 (λ u m n. d u (Meets-left (ends p ++ ends q) rest u (Meets-right (ends p) (ends q) u m)) n) h f.1
    ]
after_good (many p) k t l g d h e =
    let h_m : GoodAll (many p ∷ k) = (g, d, h) in
    let d_p : Apart (ends p) (first_all (many p ∷ k)) = λ u m n. elim (Meets-split (first p) (first_all k) u n) [
      | inl a ↦ g.2 u m a
      | inr b ↦ d u (Meets-left (ends p) (first p) u m) b
    ] in
    let i = followed_some (after p t) (many p ∷ []) l e in
    subst (λ m. GoodAll m) (sym (append_assoc i.0 (many p ∷ []) k) ∙ ap (λ m. m ++ k) i.2) (after_good p (many p ∷ k) t i.0 g.0 d_p h_m i.1)
after_good nothing k t l g d h e = (cc)

all_good : (k : List Shape) (t : Lexeme) (l : List Shape) → GoodAll k → after_all k t ≡ Some l → GoodAll l
all_good [] t l h e = (cc)
all_good (p ∷ k) t l h e =
    elim (or_some (followed_by (after p t) k) (only_if (nullable p) (after_all k t)) l e) [
      | inl f ↦ let i = followed_some (after p t) k l f in subst (λ m. GoodAll m) i.2 (after_good p k t i.0 h.0 h.1 h.2 i.1)
      | inr f ↦ all_good k t l h.2 (only_some (nullable p) (after_all k t) l f.1).1
    ]

-- the step that the shape takes
abbrev Step : Shape → Lexeme → List Lexeme → Type 0
Step p t a = (l : List Shape) × (after p t ≡ Some l) × GeneratesAll l a

both_step : (p q : Shape) (t : Lexeme) (a x y : List Lexeme) → Apart (ends p) (first q) → ((u : Lexeme) (z : List Lexeme) → Generates p (u ∷ z) → Step p u z) → (Generates q (t ∷ a) → Step q t a)
    → Generates p x → Generates q y → t ∷ a ≡ x ++ y → Step (p ⨾ q) t a
both_step p q t a [] y d f g s r e =
    let n : nullable p ≡ true = nullable_complete p [] s refl in
    let i = g (subst (Generates q) (sym e) r) in
    (i.0, skip (after p t) refl i.0 i.1 n, i.2)
  where
    skip : (o : Option (List Shape)) → after p t ≡ o → (l : List Shape) → after q t ≡ Some l → nullable p ≡ true
        → or_else (followed_by o (q ∷ [])) (only_if (nullable p) (after q t)) ≡ Some l
    skip None oe l le n = rw n le
    skip (Some m) oe l le n = absurd (d t (ends_first p t n (first_meets p t m oe)) (first_meets q t l le))
both_step p q t a (u ∷ x) y d f g s r e =
    let i = f u x s in
    let head : t ≡ u = cc in
    let tail : a ≡ x ++ y = cc in
    let found : after p t ≡ Some i.0 = ap (λ z. after p z) head ∙ i.1 in
    (i.0 ++ q ∷ [], ap (λ o. or_else (followed_by o (q ∷ [])) (only_if (nullable p) (after q t))) found, GeneratesAll-join i.0 (q ∷ []) x y a i.2 (as_shapes q y r) tail)

many_step : (p : Shape) (t : Lexeme) (a : List Lexeme) (parts : List (List Lexeme)) → nullable p ≡ false → ((u : Lexeme) (z : List Lexeme) → Generates p (u ∷ z) → Step p u z)
    → AllByRecursion (Generates p) parts → t ∷ a ≡ joined parts → Step (many p) t a
many_step p t a [] n f s e = (cc)
many_step p t a ([] ∷ parts) n f s e = let m : nullable p ≡ true = nullable_complete p [] s.0 refl in (cc)
many_step p t a ((u ∷ x) ∷ parts) n f s e =
    let i = f u x s.0 in
    let head : t ≡ u = cc in
    let tail : a ≡ x ++ joined parts = cc in
    let found : after p t ≡ Some i.0 = ap (λ z. after p z) head ∙ i.1 in
    (i.0 ++ many p ∷ [], ap (λ o. followed_by o (many p ∷ [])) found, GeneratesAll-join i.0 (many p ∷ []) x (joined parts) a i.2 (as_shapes (many p) (joined parts) (parts, s.1, refl)) tail)

either_left : (p q : Shape) (t : Lexeme) (a : List Lexeme) → Step p t a → Step (p ∣ q) t a
either_left p q t a i = (i.0, ap (λ o. or_else o (after q t)) i.1, i.2)

either_right : (p q : Shape) (t : Lexeme) (a : List Lexeme) → Apart (first p) (first q) → Step q t a → Step (p ∣ q) t a
either_right p q t a d i = (i.0, skip (after p t) refl, i.2)
  where
    skip : (o : Option (List Shape)) → after p t ≡ o → or_else o (after q t) ≡ Some i.0
    skip None oe = i.1
    skip (Some m) oe = absurd (d t (first_meets p t m oe) (first_meets q t i.0 i.1))

after_complete : (p : Shape) (t : Lexeme) (a : List Lexeme) → Good p → Generates p (t ∷ a) → Step p t a
after_complete (one x) t a g s =
    let head : s.0 ≡ t = let e : t ∷ a ≡ s.0 ∷ [] = s.2 in cc in
    let tail : a ≡ [] = let e : t ∷ a ≡ s.0 ∷ [] = s.2 in cc in
    ([], ap (λ b. only_if b (Some [])) (ap (λ z. matches x z) (sym head) ∙ s.1), tail)
after_complete (p ⨾ q) t a g s =
    both_step p q t a s.0 s.1 g.2 (λ u z r. after_complete p u z g.0 r) (λ r. after_complete q t a g.1 r) s.2 s.3 s.4
after_complete (p ∣ q) t a g s =
    elim s [ inl r ↦ either_left p q t a (after_complete p t a g.0 r) | inr r ↦ either_right p q t a g.2 (after_complete q t a g.1 r) ]
after_complete (many p) t a g s = many_step p t a s.0 g.1 (λ u z r. after_complete p u z g.0 r) s.1 s.2
after_complete nothing t a g s = (cc)

all_first : (k : List Shape) (t : Lexeme) (l : List Shape) → after_all k t ≡ Some l → Meets (first_all k) t
all_first [] t l e = (cc)
all_first (p ∷ k) t l e =
    elim (or_some (followed_by (after p t) k) (only_if (nullable p) (after_all k t)) l e) [
      | inl f ↦ let g = followed_some (after p t) k l f in Meets-left (first p) (only (nullable p) (first_all k)) t (first_meets p t g.0 g.1)
      | inr f ↦ let g = only_some (nullable p) (after_all k t) l f.1 in Meets-right (first p) (only (nullable p) (first_all k)) t (Meets-only (nullable p) (first_all k) t g.0 (all_first k t l g.1))
    ]

all_sound : (k : List Shape) (t : Lexeme) (l : List Shape) (a : List Lexeme) → after_all k t ≡ Some l → GeneratesAll l a → GeneratesAll k (t ∷ a)
all_sound [] t l a e s = (cc)
all_sound (p ∷ k) t l a e s =
    elim (or_some (followed_by (after p t) k) (only_if (nullable p) (after_all k t)) l e) [
      | inl f ↦
          let g = followed_some (after p t) k l f in
          let r = GeneratesAll-split g.0 k a (subst (λ m. GeneratesAll m a) (sym g.2) s) in
          (t ∷ r.0, r.1, after_sound p t g.0 r.0 g.1 r.2, r.3, ap (λ z. t ∷ z) r.4)
      | inr f ↦ let g = only_some (nullable p) (after_all k t) l f.1 in ([], t ∷ a, nullable_sound p g.0, all_sound k t l a g.1 s, refl)
    ]

abbrev StepAll : List Shape → Lexeme → List Lexeme → Type 0
StepAll k t a = (l : List Shape) × (after_all k t ≡ Some l) × GeneratesAll l a

stack_step : (p : Shape) (k : List Shape) (t : Lexeme) (a x y : List Lexeme) → Good p → Apart (ends p) (first_all k) → (GeneratesAll k (t ∷ a) → StepAll k t a)
    → Generates p x → GeneratesAll k y → t ∷ a ≡ x ++ y → StepAll (p ∷ k) t a
stack_step p k t a [] y g d f s r e =
    let n : nullable p ≡ true = nullable_complete p [] s refl in
    let i = f (subst (GeneratesAll k) (sym e) r) in
    (i.0, skip (after p t) refl i.0 i.1 n, i.2)
  where
    skip : (o : Option (List Shape)) → after p t ≡ o → (l : List Shape) → after_all k t ≡ Some l → nullable p ≡ true
        → or_else (followed_by o k) (only_if (nullable p) (after_all k t)) ≡ Some l
    skip None oe l le n = rw n le
    skip (Some m) oe l le n = absurd (d t (ends_first p t n (first_meets p t m oe)) (all_first k t l le))
stack_step p k t a (u ∷ x) y g d f s r e =
    let i = after_complete p u x g s in
    let head : t ≡ u = cc in
    let tail : a ≡ x ++ y = cc in
    let found : after p t ≡ Some i.0 = ap (λ z. after p z) head ∙ i.1 in
    (i.0 ++ k, ap (λ o. or_else (followed_by o k) (only_if (nullable p) (after_all k t))) found, GeneratesAll-join i.0 k x y a i.2 r tail)

all_complete : (k : List Shape) (t : Lexeme) (a : List Lexeme) → GoodAll k → GeneratesAll k (t ∷ a) → StepAll k t a
all_complete [] t a g s = (cc)
all_complete (p ∷ k) t a g s = stack_step p k t a s.0 s.1 g.0 g.1 (λ r. all_complete k t a g.2 r) s.2 s.3 s.4

all_nullable : (k : List Shape) → nullable_all k ≡ true → GeneratesAll k []
all_nullable [] h = refl
all_nullable (p ∷ k) h = let e = and_parts (nullable p) (nullable_all k) h in ([], [], nullable_sound p e.0, all_nullable k e.1, refl)

nullable_if : (k : List Shape) (ls : List Lexeme) → GeneratesAll k ls → ls ≡ [] → nullable_all k ≡ true
nullable_if [] ls s e = refl
nullable_if (p ∷ k) ls s e =
    let f = append_empty s.0 s.1 (sym s.4 ∙ e) in and_from (nullable p) (nullable_all k) (nullable_complete p s.0 s.2 f.0) (nullable_if k s.1 s.3 f.1)

sample_all : (k : List Shape) → (ls : List Lexeme) × GeneratesAll k ls
sample_all [] = ([], refl)
sample_all (p ∷ k) = let s = sample p in let t = sample_all k in (s.0 ++ t.0, (s.0, t.0, s.1, t.1, refl))

-- with the next token nothing that the shapes spell begins so
abbrev NoFurther : List Shape → List Lexeme → List Lexeme → Type 0
NoFurther k front [] = Unit {0}
NoFurther k front (t ∷ rest) = (more : List Lexeme) → GeneratesAll k (front ++ t ∷ more) → ⊥

abbrev NotWhole : List Shape → List Lexeme → List Lexeme → Type 0
NotWhole k front [] = GeneratesAll k front → ⊥
NotWhole k front (t ∷ rest) = (more : List Lexeme) → GeneratesAll k (front ++ t ∷ more) → ⊥

the_some : (l m : List Shape) → Some l ≡ Some m → l ≡ m
the_some l m e = cc

step_further : (k l : List Shape) (t : Lexeme) (front rest : List Lexeme) → GoodAll k → after_all k t ≡ Some l → NoFurther l front rest → NoFurther k (t ∷ front) rest
step_further k l t front [] g e n = tt
step_further k l t front (u ∷ rest) g e n = λ more s.
    let i = all_complete k t (front ++ u ∷ more) g s in
    n more (subst (λ m. GeneratesAll m (front ++ u ∷ more)) (the_some i.0 l (sym i.1 ∙ e)) i.2)

step_not : (k l : List Shape) (t : Lexeme) (front rest : List Lexeme) → GoodAll k → after_all k t ≡ Some l → NotWhole l front rest → NotWhole k (t ∷ front) rest
step_not k l t front [] g e n = λ s.
    let i = all_complete k t front g s in
    n (subst (λ m. GeneratesAll m front) (the_some i.0 l (sym i.1 ∙ e)) i.2)
step_not k l t front (u ∷ rest) g e n = λ more s.
    let i = all_complete k t (front ++ u ∷ more) g s in
    n more (subst (λ m. GeneratesAll m (front ++ u ∷ more)) (the_some i.0 l (sym i.1 ∙ e)) i.2)

none_further : (k : List Shape) (t : Lexeme) (more : List Lexeme) → GoodAll k → after_all k t ≡ None → GeneratesAll k (t ∷ more) → ⊥
none_further k t more g e s = let i = all_complete k t more g s in let f : Some i.0 ≡ None = sym i.1 ∙ e in absurd (cc)

pub record Passed (k : List Shape) (ts rest : List Lexeme) : Type 0 where
  pub front : List Lexeme
  pub split : ts ≡ front ++ rest
  pub spells : GeneratesAll k front
  pub further : NoFurther k front rest

pub record Halted (k : List Shape) (ts rest : List Lexeme) : Type 0 where
  pub front : List Lexeme
  pub split : ts ≡ front ++ rest
  pub more : List Lexeme
  pub begins : GeneratesAll k (front ++ more)
  pub stuck : NotWhole k front rest

-- what an outcome says
abbrev Says : List Shape → List Lexeme → Outcome → Type 0
Says k ts (Past rest) = Passed k ts rest
Says k ts (Stopped rest) = Halted k ts rest

at_end : (k : List Shape) (b : Bool) → nullable_all k ≡ b → Says k [] (ended b [])
at_end k true e = record { front = []; split = refl; spells = all_nullable k e; further = tt }
at_end k false e =
    let s = sample_all k in
    record { front = []; split = refl; more = s.0; begins = s.1; stuck = λ r. let h : nullable_all k ≡ true = nullable_if k [] r refl in absurd (clash (nullable_all k) e h) }
  where
    clash : (b : Bool) → b ≡ false → b ≡ true → ⊥
    clash true e h = (cc)
    clash false e h = (cc)

at_token : (k : List Shape) (t : Lexeme) (ts : List Lexeme) (b : Bool) → GoodAll k → after_all k t ≡ None → nullable_all k ≡ b → Says k (t ∷ ts) (ended b (t ∷ ts))
at_token k t ts true g n e = record { front = []; split = refl; spells = all_nullable k e; further = λ more s. none_further k t more g n s }
at_token k t ts false g n e = let s = sample_all k in record { front = []; split = refl; more = s.0; begins = s.1; stuck = λ more r. none_further k t more g n r }

onward : (k l : List Shape) (t : Lexeme) (ts : List Lexeme) (o : Outcome) → GoodAll k → after_all k t ≡ Some l → Says l ts o → Says k (t ∷ ts) o
onward k l t ts (Past rest) g e s = record {
  front = t ∷ s.front;
  split = ap (λ z. t ∷ z) s.split;
  spells = all_sound k t l s.front e s.spells;
  further = step_further k l t s.front rest g e s.further;
}
onward k l t ts (Stopped rest) g e s = record {
  front = t ∷ s.front;
  split = ap (λ z. t ∷ z) s.split;
  more = s.more;
  begins = all_sound k t l (s.front ++ s.more) e s.begins;
  stuck = step_not k l t s.front rest g e s.stuck;
}

walk_says : (ts : List Lexeme) (k : List Shape) → GoodAll k → Says k ts (walk k ts)
unfolding walk
walk_says [] k g = at_end k (nullable_all k) refl
walk_says (t ∷ ts) k g = step (λ l h. walk_says ts l h) (after_all k t) refl
  where
    step : ((l : List Shape) → GoodAll l → Says l ts (walk l ts)) → (o : Option (List Shape)) → after_all k t ≡ o
        → Says k (t ∷ ts) (next o (λ l. walk l ts) (ended (nullable_all k) (t ∷ ts)))
    step f None e = at_token k t ts (nullable_all k) g e refl
    step f (Some l) e = onward k l t ts (walk l ts) g e (f l (all_good k t l g e))

one_good : (p : Shape) → decided p ≡ true → GoodAll (p ∷ [])
one_good p h = (decided_good p h, λ t m n. n, tt)

says : (p : Shape) (ts : List Lexeme) (o : Outcome) → decided p ≡ true → read p ts ≡ o → Says (p ∷ []) ts o
unfolding read
says p ts o h e = subst (Says (p ∷ []) ts) e (walk_says ts (p ∷ []) (one_good p h))

-- all of it read: it is spelled
pub whole : (p : Shape) (ts : List Lexeme) → decided p ≡ true → read p ts ≡ Past [] → Generates p ts
whole p ts h e =
    let s : Passed (p ∷ []) ts [] = says p ts (Past []) h e in
    subst (Generates p) (sym (s.split ∙ append_nil s.front)) (one_shape p s.front s.spells)

past_stuck : (p : Shape) (front rest : List Lexeme) (t : Lexeme) → NoFurther (p ∷ []) front (t ∷ rest) → Stuck p front (t ∷ rest)
past_stuck p front rest t n b = n b.0 (as_shapes p (front ++ t ∷ b.0) (subst (Generates p) (append_assoc front (t ∷ []) b.0) b.1))

-- read to its end before the tokens end: the next token is the first fault
pub too_many : (p : Shape) (ts : List Lexeme) (t : Lexeme) (rest : List Lexeme) → decided p ≡ true → read p ts ≡ Past (t ∷ rest) → FirstFault p ts (t ∷ rest)
too_many p ts t rest h e =
    let s : Passed (p ∷ []) ts (t ∷ rest) = says p ts (Past (t ∷ rest)) h e in
    record {
      front = s.front;
      split = s.split;
      begins = ([], subst (Generates p) (sym (append_nil s.front)) (one_shape p s.front s.spells));
      stuck = past_stuck p s.front rest t s.further;
    }

halted_stuck : (p : Shape) (front rest : List Lexeme) → NotWhole (p ∷ []) front rest → Stuck p front rest
halted_stuck p front [] n = λ s. n (as_shapes p front s)
halted_stuck p front (t ∷ rest) n = past_stuck p front rest t n

-- stopped: there the first fault is
pub stopped : (p : Shape) (ts rest : List Lexeme) → decided p ≡ true → read p ts ≡ Stopped rest → FirstFault p ts rest
stopped p ts rest h e =
    let s : Halted (p ∷ []) ts rest = says p ts (Stopped rest) h e in
    record {
      front = s.front;
      split = s.split;
      begins = (s.more, one_shape p (s.front ++ s.more) s.begins);
      stuck = halted_stuck p s.front rest s.stuck;
    }
