-- How the trees of shapes go together.
use Rattle.std.proofs.Common.{◌≡◌, inl, inr, ◌<◌, ◌≤◌, ℕ, suc, true, List, [], ◌∷◌, ◌++◌, length, length-append, codes, Some, refl, sym, ◌∙◌, ap, subst, arith}
use Rattle.std.specs.List.{AllByRecursion}
use Rattle.std.specs.Cmp.Lexicographic.{same_text}
use Rattle.cqa_model.specs.declared.limits.TheConstants.{LONGEST_NAME}
use Rattle.script_lex.specs.declared.kinds.Symbol.{Symbol}
use Rattle.script_lex.specs.declared.kinds.TokenKind.TheVariants as kinds
use Rattle.script_lex.specs.Tokens.{IsToken}
use Rattle.spj_syntax.specs.Lexemes.{Lexeme, Word, Number, Quoted, Mark}
use Rattle.spj_syntax.specs.Limits.{most_items}
use Rattle.spj_syntax.specs.Shapes.{Terminal, word, mark, matches, Shape, one, ◌⨾◌, ◌∣◌, many, nothing, Generates, joined}
use Rattle.spj_syntax.specs.Grammar.{separated, filtered}
use Rattle.spj_syntax.specs.Walk.{has, only_if}
use Rattle.spj_syntax.specs.Written.{each_after, between, filtered_tokens}
use Rattle.spj_syntax.proofs.Steps.{mark_taken}

-- A word is spelled as one, and isn't too long.
abbrev pub IsLegal : Lexeme → Type 0
IsLegal (Word w) = IsToken kinds.Word w × (length w ≤ LONGEST_NAME)
IsLegal (Number z) = Unit {0}
IsLegal (Quoted t) = Unit {0}
IsLegal (Mark s) = Unit {0}

-- tokens of a text that isn't too long
pub record AreLegal (ls : List Lexeme) : Type 0 where
  pub each : AllByRecursion IsLegal ls
  pub few : length ls ≤ most_items

pub each_left : {A : Type 0} (P : A → Type 0) (a b : List A) → AllByRecursion P (a ++ b) → AllByRecursion P a
each_left P [] b h = tt
each_left P (l ∷ a) b h = (h.0, each_left P a b h.1)

pub each_right : {A : Type 0} (P : A → Type 0) (a b : List A) → AllByRecursion P (a ++ b) → AllByRecursion P b
each_right P [] b h = h
each_right P (l ∷ a) b h = each_right P a b h.1

legal_left : (a b ls : List Lexeme) → ls ≡ a ++ b → AreLegal ls → AreLegal a
legal_left a b ls e h = record { each = each_left IsLegal a b (subst (AllByRecursion IsLegal) e h.each); few = omega (arith, h.few, ap length e, length-append a b) }

legal_right : (a b ls : List Lexeme) → ls ≡ a ++ b → AreLegal ls → AreLegal b
legal_right a b ls e h = record { each = each_right IsLegal a b (subst (AllByRecursion IsLegal) e h.each); few = omega (arith, h.few, ap length e, length-append a b) }

-- What a shape generates of legal tokens is written by some value, which is valid.
pub record HasTrees {A : Type 0} (p : Shape) (tokens : A → List Lexeme) (Valid : A → Type 0) : Type 0 where
  pub tree : (ls : List Lexeme) → AreLegal ls → Generates p ls → (x : A) × (ls ≡ tokens x) × Valid x

-- no condition on a value
abbrev pub Anything : (A : Type 0) → A → Type 0
Anything A x = Unit {0}

-- Each value stands for one of another type.
pub turned : {A B : Type 0} {p : Shape} {f : A → List Lexeme} {g : B → List Lexeme} {V : A → Type 0} {W : B → Type 0} → ((x : A) → V x → (y : B) × (f x ≡ g y) × W y) → HasTrees p f V → HasTrees p g W
turned turn h = record {
  tree = λ ls legal s.
      let x = h.tree ls legal s in
      let y = turn x.0 x.2 in
      (y.0, x.1 ∙ y.1, y.2);
}

-- each value stands for one of another type, with no condition on it
pub counts_as : {A B : Type 0} {p : Shape} {f : A → List Lexeme} {g : B → List Lexeme} {V : A → Type 0} → ((x : A) → V x → (y : B) × (f x ≡ g y)) → HasTrees p f V → HasTrees p g (Anything B)
counts_as turn h = turned (λ x v. let y = turn x v in (y.0, y.1, tt)) h

-- one after another
pub both : {A B : Type 0} {p q : Shape} {f : A → List Lexeme} {g : B → List Lexeme} {V : A → Type 0} {W : B → Type 0} → HasTrees p f V → HasTrees q g W
    → HasTrees {A = A × B} (p ⨾ q) (λ x. f x.0 ++ g x.1) (λ x. V x.0 × W x.1)
both {f = f} h k = record {
  tree = λ ls legal s.
      let x = h.tree s.0 (legal_left s.0 s.1 ls s.4 legal) s.2 in
      let y = k.tree s.1 (legal_right s.0 s.1 ls s.4 legal) s.3 in
      ((x.0, y.0), s.4 ∙ ap (λ z. z ++ s.1) x.1 ∙ ap (λ z. f x.0 ++ z) y.1, (x.2, y.2));
}

-- one of two
pub either : {A : Type 0} {p q : Shape} {f : A → List Lexeme} {V : A → Type 0} → HasTrees p f V → HasTrees q f V → HasTrees (p ∣ q) f V
either h k = record { tree = λ ls legal s. elim s [ inl a ↦ h.tree ls legal a | inr b ↦ k.tree ls legal b ] }

pub none : HasTrees {A = Unit {0}} nothing (λ x. []) (Anything (Unit {0}))
none = record { tree = λ ls legal s. (tt, s, tt) }

-- a word and a symbol are matched by one lexeme alone
word_only : (w : List ℕ) (l : Lexeme) → matches (word w) l ≡ true → l ≡ Word w
word_only w (Word v) h = ap Word (sym (same_text w v (sym h)))
word_only w (Number z) h = (cc)
word_only w (Quoted t) h = (cc)
word_only w (Mark s) h = (cc)

mark_only : (s : Symbol) (l : Lexeme) → matches (mark s) l ≡ true → l ≡ Mark s
mark_only s (Mark r) h = let taken = mark_taken s (Mark r ∷ []) (ap (λ b. has (only_if b (Some []))) h) in cc ((taken.takes (tt, tt)).0)
mark_only s (Word v) h = (cc)
mark_only s (Number z) h = (cc)
mark_only s (Quoted t) h = (cc)

-- shapes that begin with a terminal which one lexeme alone matches
module _ (x : Terminal) (l : Lexeme) (only : (m : Lexeme) → matches x m ≡ true → m ≡ l) where
  alone : HasTrees {A = Unit {0}} (one x) (λ u. l ∷ []) (Anything (Unit {0}))
  alone = record { tree = λ ls legal s. (tt, s.2 ∙ ap (λ m. m ∷ []) (only s.0 s.1), tt) }

  behind : {A : Type 0} {p : Shape} {f : A → List Lexeme} {V : A → Type 0} → HasTrees p f V → HasTrees (one x ⨾ p) (λ a. l ∷ f a) V
  behind h = turned (λ a v. (a.1, refl, v.1)) (both alone h)

  -- any number, each with the terminal before it
  each_behind : {A : Type 0} {p : Shape} {f : A → List Lexeme} {V : A → Type 0} → HasTrees p f V → HasTrees (many (one x ⨾ p)) (each_after l f) (AllByRecursion V)
  each_behind {A = A} {p = p} {f = f} {V = V} h = record { tree = λ ls legal s. go s.0 ls legal s.1 s.2 }
    where
      go : (parts : List (List Lexeme)) (ls : List Lexeme) → AreLegal ls → AllByRecursion (Generates (one x ⨾ p)) parts → ls ≡ joined parts → (xs : List A) × (ls ≡ each_after l f xs) × AllByRecursion V xs
      go [] ls legal each e = ([], e, tt)
      go (part ∷ parts) ls legal each e =
          let first = (behind h).tree part (legal_left part (joined parts) ls e legal) each.0 in
          let others = go parts (joined parts) (legal_right part (joined parts) ls e legal) each.1 refl in
          (first.0 ∷ others.0, e ∙ ap (λ z. z ++ joined parts) first.1 ∙ ap (λ z. l ∷ (f first.0 ++ z)) others.1, (first.2, others.2))

  -- one or more, with the terminal between them
  all_between : {A : Type 0} {p : Shape} {f : A → List Lexeme} {V : A → Type 0} → HasTrees p f V → HasTrees (separated x p) (between l f) (λ xs. (0 < length xs) × AllByRecursion V xs)
  all_between h = turned (λ a v. (a.0 ∷ a.1, refl, (omega arith, (v.0, v.1)))) (both h (each_behind h))

pub a_word : (w : List ℕ) → HasTrees {A = Unit {0}} (one (word w)) (λ u. Word w ∷ []) (Anything (Unit {0}))
a_word w = alone (word w) (Word w) (word_only w)

pub a_mark : (s : Symbol) → HasTrees {A = Unit {0}} (one (mark s)) (λ u. Mark s ∷ []) (Anything (Unit {0}))
a_mark s = alone (mark s) (Mark s) (mark_only s)

pub after_word : (w : List ℕ) {A : Type 0} {p : Shape} {f : A → List Lexeme} {V : A → Type 0} → HasTrees p f V → HasTrees (one (word w) ⨾ p) (λ a. Word w ∷ f a) V
after_word w h = behind (word w) (Word w) (word_only w) h

pub after_mark : (s : Symbol) {A : Type 0} {p : Shape} {f : A → List Lexeme} {V : A → Type 0} → HasTrees p f V → HasTrees (one (mark s) ⨾ p) (λ a. Mark s ∷ f a) V
after_mark s h = behind (mark s) (Mark s) (mark_only s) h

pub each_after_mark : (s : Symbol) {A : Type 0} {p : Shape} {f : A → List Lexeme} {V : A → Type 0} → HasTrees p f V → HasTrees (many (one (mark s) ⨾ p)) (each_after (Mark s) f) (AllByRecursion V)
each_after_mark s h = each_behind (mark s) (Mark s) (mark_only s) h

pub with_marks : (s : Symbol) {A : Type 0} {p : Shape} {f : A → List Lexeme} {V : A → Type 0} → HasTrees p f V → HasTrees (separated (mark s) p) (between (Mark s) f) (λ xs. (0 < length xs) × AllByRecursion V xs)
with_marks s h = all_between (mark s) (Mark s) (mark_only s) h

pub with_words : (w : List ℕ) {A : Type 0} {p : Shape} {f : A → List Lexeme} {V : A → Type 0} → HasTrees p f V → HasTrees (separated (word w) p) (between (Word w) f) (λ xs. (0 < length xs) × AllByRecursion V xs)
with_words w h = all_between (word w) (Word w) (word_only w) h

-- a list with a token before each of its items is no longer than its tokens
fewer : {A : Type 0} (l : Lexeme) (f : A → List Lexeme) (xs : List A) → length xs ≤ length (each_after l f xs)
fewer l f [] = omega arith
fewer l f (x ∷ xs) = omega (arith, fewer l f xs, length-append (f x) (each_after l f xs))

-- nothing, or what is to hold
pub of_filter : {A : Type 0} {p : Shape} {f : A → List Lexeme} {V : A → Type 0} → HasTrees p f V → HasTrees (filtered p) (filtered_tokens f) (λ xs. AllByRecursion V xs × (length xs ≤ most_items))
of_filter {A = A} {p = p} {f = f} {V = V} h = record { tree = λ ls legal s. elim s [ inl a ↦ go ls legal ((after_word (codes "where") (with_words (codes "and") h)).tree ls legal a) | inr e ↦ ([], e, (tt, omega arith)) ] }
  where
    go : (ls : List Lexeme) → AreLegal ls → ((xs : List A) × (ls ≡ Word (codes "where") ∷ between (Word (codes "and")) f xs) × ((0 < length xs) × AllByRecursion V xs))
        → (xs : List A) × (ls ≡ filtered_tokens f xs) × (AllByRecursion V xs × (length xs ≤ most_items))
    go ls legal ([], e, v) = let some : 0 < 0 = v.0 in absurd (omega arith)
    go ls legal (x ∷ xs, e, v) =
        let tokens : length ls ≡ suc (length (f x ++ each_after (Word (codes "and")) f xs)) = ap length e in
        (x ∷ xs, e, (v.1, omega (arith, legal.few, tokens, length-append (f x) (each_after (Word (codes "and")) f xs), fewer (Word (codes "and")) f xs)))
