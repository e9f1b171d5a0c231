-- The bytes with which pieces begin.
use Rattle.std.proofs.Common.{◌≡◌, inl, inr, ◌==◌, ℕ, Bool, true, ◌||◌, List, [], ◌∷◌, refl, arith}
use Rattle.std.proofs.lemmas.Bool.Decides.{nat_tests}
use Rattle.std.proofs.lemmas.Bool.{or_right, or_left}
use Rattle.script_lex.specs.declared.kinds.Symbol.{Symbol}
use Rattle.script_lex.specs.declared.kinds.Symbol.TheVariants.{Open, Close, Comma, Dot, Eq, Ne, Lt, Le, Gt, Ge}
use Rattle.script_lex.specs.declared.kinds.TokenKind.TheVariants.{Word, Int, Text, Sym}
use Rattle.script_lex.specs.declared.pieces.PieceKind.{PieceKind}
use Rattle.script_lex.specs.declared.pieces.PieceKind.TheVariants.{Blank, Comment, Token as OfToken}
use Rattle.script_lex.specs.Bytes.{is_blank, is_letter, is_digit, is_word_byte, AllPass}
use Rattle.script_lex.specs.TokenParts.{is_single}
use Rattle.script_lex.specs.Tokens.{symbol_bytes, IsPiece}

-- the byte with which each kind begins
abbrev pub begins : PieceKind → ℕ → Bool
begins Blank b = is_blank b
begins Comment b = b == 45
begins (OfToken Word) b = is_letter b
begins (OfToken Int) b = b == 45 || is_digit b
begins (OfToken Text) b = b == 39
begins (OfToken (Sym s)) b = is_single b || (b == 60 || b == 62)

pub eq_true : (a b : ℕ) → a ≡ b → (a == b) ≡ true
eq_true a b h = grind (arith, nat_tests)

sym_begins : (s : Symbol) (b : ℕ) (bs : List ℕ) → b ∷ bs ≡ symbol_bytes s → begins (OfToken (Sym s)) b ≡ true
sym_begins Open b bs e = let h : b ≡ 40 = cc in rw h refl
sym_begins Close b bs e = let h : b ≡ 41 = cc in rw h refl
sym_begins Comma b bs e = let h : b ≡ 44 = cc in rw h refl
sym_begins Dot b bs e = let h : b ≡ 46 = cc in rw h refl
sym_begins Eq b bs e = let h : b ≡ 61 = cc in rw h refl
sym_begins Lt b bs e = let h : b ≡ 60 = cc in rw h refl
sym_begins Le b bs e = let h : b ≡ 60 = cc in rw h refl
sym_begins Ne b bs e = let h : b ≡ 60 = cc in rw h refl
sym_begins Gt b bs e = let h : b ≡ 62 = cc in rw h refl
sym_begins Ge b bs e = let h : b ≡ 62 = cc in rw h refl

pub first_of : (k : PieceKind) (b : ℕ) (bs : List ℕ) → IsPiece k (b ∷ bs) → begins k b ≡ true
first_of Blank b bs h = h.0
first_of Comment b [] h = absurd h
first_of Comment b (c ∷ bs) h = eq_true b 45 h.0
first_of (OfToken Word) b bs h = h.0
first_of (OfToken Int) b bs h = elim h [ inl k ↦ or_left (b == 45) (is_digit b) (eq_true b 45 k.0) | inr k ↦ or_right (b == 45) (is_digit b) k.0 ]
first_of (OfToken Text) b bs h = eq_true b 39 h.0
first_of (OfToken (Sym s)) b bs h = sym_begins s b bs h

pub none_empty : (k : PieceKind) → IsPiece k [] → ⊥
none_empty Blank h = h
none_empty Comment h = h
none_empty (OfToken Word) h = h
none_empty (OfToken Int) h = h
none_empty (OfToken Text) h = h
none_empty (OfToken (Sym Open)) h = (cc)
none_empty (OfToken (Sym Close)) h = (cc)
none_empty (OfToken (Sym Comma)) h = (cc)
none_empty (OfToken (Sym Lt)) h = (cc)
none_empty (OfToken (Sym Le)) h = (cc)
none_empty (OfToken (Sym Ne)) h = (cc)
none_empty (OfToken (Sym Dot)) h = (cc)
none_empty (OfToken (Sym Eq)) h = (cc)
none_empty (OfToken (Sym Gt)) h = (cc)
none_empty (OfToken (Sym Ge)) h = (cc)

-- the tests exclude one another
letter_blank : (b : ℕ) → is_letter b ≡ true → is_blank b ≡ true → ⊥
letter_blank b h k = grind (arith, nat_tests)

letter_digit : (b : ℕ) → is_letter b ≡ true → is_digit b ≡ true → ⊥
letter_digit b h k = grind (arith, nat_tests)

letter_dash : (b : ℕ) → is_letter b ≡ true → (b == 45) ≡ true → ⊥
letter_dash b h k = grind (arith, nat_tests)

letter_sym : (b : ℕ) → is_letter b ≡ true → (is_single b || (b == 60 || b == 62)) ≡ true → ⊥
letter_sym b h k = grind (arith, nat_tests)

digit_blank : (b : ℕ) → is_digit b ≡ true → is_blank b ≡ true → ⊥
digit_blank b h k = grind (arith, nat_tests)

digit_dash : (b : ℕ) → is_digit b ≡ true → (b == 45) ≡ true → ⊥
digit_dash b h k = grind (arith, nat_tests)

digit_sym : (b : ℕ) → is_digit b ≡ true → (is_single b || (b == 60 || b == 62)) ≡ true → ⊥
digit_sym b h k = grind (arith, nat_tests)

blank_dash : (b : ℕ) → is_blank b ≡ true → (b == 45) ≡ true → ⊥
blank_dash b h k = grind (arith, nat_tests)

blank_sym : (b : ℕ) → is_blank b ≡ true → (is_single b || (b == 60 || b == 62)) ≡ true → ⊥
blank_sym b h k = grind (arith, nat_tests)

single_rest : (b : ℕ) → is_single b ≡ true → ((is_blank b || b == 45) || (is_letter b || is_digit b)) ≡ true → ⊥
single_rest b h k = grind (arith, nat_tests)

-- only pieces of some kinds begin so
pub word_longer : (k : PieceKind) (b : ℕ) (bs : List ℕ) → is_letter b ≡ true → IsPiece k (b ∷ bs) → AllPass is_word_byte bs
word_longer Blank b bs h p = absurd (letter_blank b h (first_of Blank b bs p))
word_longer Comment b bs h p = absurd (letter_dash b h (first_of Comment b bs p))
word_longer (OfToken Word) b bs h p = p.1
word_longer (OfToken Int) b bs h p = absurd (int_not b h (first_of (OfToken Int) b bs p))
  where
    int_not : (b : ℕ) → is_letter b ≡ true → (b == 45 || is_digit b) ≡ true → ⊥
    int_not b h k = grind (arith, nat_tests)
word_longer (OfToken Text) b bs h p = absurd (no b h (first_of (OfToken Text) b bs p))
  where
    no : (b : ℕ) → is_letter b ≡ true → (b == 39) ≡ true → ⊥
    no b h k = grind (arith, nat_tests)
word_longer (OfToken (Sym s)) b bs h p = absurd (letter_sym b h (first_of (OfToken (Sym s)) b bs p))

pub digit_longer : (k : PieceKind) (b : ℕ) (bs : List ℕ) → is_digit b ≡ true → IsPiece k (b ∷ bs) → AllPass is_digit bs
digit_longer Blank b bs h p = absurd (digit_blank b h (first_of Blank b bs p))
digit_longer Comment b bs h p = absurd (digit_dash b h (first_of Comment b bs p))
digit_longer (OfToken Word) b bs h p = absurd (letter_digit b (first_of (OfToken Word) b bs p) h)
digit_longer (OfToken Int) b bs h p = elim p [ inl k ↦ absurd (digit_dash b h (eq_true b 45 k.0)) | inr k ↦ k.1 ]
digit_longer (OfToken Text) b bs h p = absurd (no b h (first_of (OfToken Text) b bs p))
  where
    no : (b : ℕ) → is_digit b ≡ true → (b == 39) ≡ true → ⊥
    no b h k = grind (arith, nat_tests)
digit_longer (OfToken (Sym s)) b bs h p = absurd (digit_sym b h (first_of (OfToken (Sym s)) b bs p))

pub blank_longer : (k : PieceKind) (b : ℕ) (bs : List ℕ) → is_blank b ≡ true → IsPiece k (b ∷ bs) → bs ≡ []
blank_longer Blank b bs h p = p.1
blank_longer Comment b bs h p = absurd (blank_dash b h (first_of Comment b bs p))
blank_longer (OfToken Word) b bs h p = absurd (letter_blank b (first_of (OfToken Word) b bs p) h)
blank_longer (OfToken Int) b bs h p = absurd (int_not b h (first_of (OfToken Int) b bs p))
  where
    int_not : (b : ℕ) → is_blank b ≡ true → (b == 45 || is_digit b) ≡ true → ⊥
    int_not b h k = grind (arith, nat_tests)
blank_longer (OfToken Text) b bs h p = absurd (no b h (first_of (OfToken Text) b bs p))
  where
    no : (b : ℕ) → is_blank b ≡ true → (b == 39) ≡ true → ⊥
    no b h k = grind (arith, nat_tests)
blank_longer (OfToken (Sym s)) b bs h p = absurd (blank_sym b h (first_of (OfToken (Sym s)) b bs p))

-- a byte that begins longer symbols is no symbol of its own kind
not_single : (b : ℕ) → is_single b ≡ true → (b == 60 || b == 62) ≡ true → ⊥
not_single b h e = grind (arith, nat_tests)

single_not : (s : Symbol) (b : ℕ) (bs : List ℕ) → is_single b ≡ true → b ∷ bs ≡ symbol_bytes s → bs ≡ []
single_not Open b bs h p = cc
single_not Close b bs h p = cc
single_not Comma b bs h p = cc
single_not Dot b bs h p = cc
single_not Eq b bs h p = cc
single_not Ne b bs h p = let e : b ≡ 60 = cc in absurd (not_single b h (rw e refl))
single_not Lt b bs h p = cc
single_not Le b bs h p = let e : b ≡ 60 = cc in absurd (not_single b h (rw e refl))
single_not Gt b bs h p = cc
single_not Ge b bs h p = let e : b ≡ 62 = cc in absurd (not_single b h (rw e refl))

pub single_longer : (k : PieceKind) (b : ℕ) (bs : List ℕ) → is_single b ≡ true → IsPiece k (b ∷ bs) → bs ≡ []
single_longer Blank b bs h p = p.1
single_longer Comment b bs h p = absurd (no b h (first_of Comment b bs p))
  where
    no : (b : ℕ) → is_single b ≡ true → (b == 45) ≡ true → ⊥
    no b h k = grind (arith, nat_tests)
single_longer (OfToken Word) b bs h p = absurd (letter_sym b (first_of (OfToken Word) b bs p) (or_left (is_single b) (b == 60 || b == 62) h))
single_longer (OfToken Int) b bs h p = absurd (no b h (first_of (OfToken Int) b bs p))
  where
    no : (b : ℕ) → is_single b ≡ true → (b == 45 || is_digit b) ≡ true → ⊥
    no b h k = grind (arith, nat_tests)
single_longer (OfToken Text) b bs h p = absurd (no b h (first_of (OfToken Text) b bs p))
  where
    no : (b : ℕ) → is_single b ≡ true → (b == 39) ≡ true → ⊥
    no b h k = grind (arith, nat_tests)
single_longer (OfToken (Sym s)) b bs h p = single_not s b bs h p
