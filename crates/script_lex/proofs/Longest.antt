-- The longest piece that stands first.
use Rattle.std.proofs.Common.{◌≡◌, inl, inr, ◌+◌, ◌<◌, ◌≤◌, ◌==◌, ℕ, zero, suc, true, false, List, [], ◌∷◌, length, take, drop, get_or, refl, sym, ◌∙◌, subst, arith}
use Rattle.std.proofs.lemmas.Bool.Decides.{nat_tests}
use Rattle.std.proofs.lemmas.Bool.{cases_lt}
use Rattle.std.proofs.lemmas.List.{take_all}
use Rattle.cqa_value.proofs.Words.{clash}
use Rattle.script_lex.specs.declared.bytes.Class.{Class}
use Rattle.script_lex.specs.declared.bytes.Class.TheVariants as classes
use Rattle.script_lex.specs.declared.kinds.Symbol.{Symbol}
use Rattle.script_lex.specs.declared.kinds.TokenKind.TheVariants.{Word, Int, Text, Sym}
use Rattle.script_lex.specs.declared.pieces.PieceKind.{PieceKind}
use Rattle.script_lex.specs.declared.pieces.PieceKind.TheVariants.{Blank, Comment, Token as OfToken}
use Rattle.script_lex.specs.Bytes.{is_blank, is_letter, is_digit, test_of, AllPass, Runs}
use Rattle.script_lex.specs.TokenParts.{is_single, EndsQuoted}
use Rattle.script_lex.specs.Tokens.{symbol_bytes, IsQuoted, IsPiece, IsLongest, NoPiece}
use Rattle.script_lex.proofs.FirstBytes.{begins, first_of, none_empty, word_longer, digit_longer, blank_longer, single_longer}
use Rattle.script_lex.proofs.Quotes.{no_quoted}

-- a list that was tested to be not empty
pub not_empty : (bytes : List ℕ) → false ≡ (length bytes == 0) → 0 < length bytes
not_empty [] e = absurd (cc)
not_empty (b ∷ bytes) e = omega arith

take_none : (m : ℕ) (bs : List ℕ) → suc m ≤ length bs → take (suc m) bs ≡ [] → ⊥
take_none m [] le e = absurd (omega arith)
take_none m (b ∷ bs) le e = absurd (cc)

-- one byte that no piece goes beyond
alone : (k : PieceKind) (bytes : List ℕ) → 0 < length bytes → IsPiece k (get_or bytes 0 0 ∷ []) → ((j : PieceKind) (bs : List ℕ) → IsPiece j (get_or bytes 0 0 ∷ bs) → bs ≡ []) → IsLongest k 1 bytes × (0 < 1)
alone k [] lt p f = absurd (omega arith)
alone k (b ∷ bytes) lt p f = (record { within = omega arith; piece = p; longest = λ m j. longer m j }, omega arith)
  where
    longer : (m : ℕ) (j : PieceKind) → 1 < m → m ≤ length (b ∷ bytes) → IsPiece j (take m (b ∷ bytes)) → ⊥
    longer zero j lt le h = absurd (omega arith)
    longer (suc zero) j lt le h = absurd (omega arith)
    longer (suc (suc m)) j lt le h = take_none m bytes (omega arith) (f j (take (suc m) bytes) h)

-- a byte and a run of a class
headed : (k : PieceKind) (class : Class) (bytes : List ℕ) (n : ℕ) → 0 < length bytes → Runs class (drop 1 bytes) n
    → (AllPass (test_of class) (take n (drop 1 bytes)) → IsPiece k (get_or bytes 0 0 ∷ take n (drop 1 bytes)))
    → ((j : PieceKind) (bs : List ℕ) → IsPiece j (get_or bytes 0 0 ∷ bs) → AllPass (test_of class) bs) → IsLongest k (n + 1) bytes × (0 < n + 1)
headed k class [] n lt r p f = absurd (omega arith)
headed k class (b ∷ bytes) n lt r p f =
    let e : suc n ≡ n + 1 = omega arith in
    let w : n ≤ length bytes = r.within in
    (subst (λ z. IsLongest k z (b ∷ bytes)) e (record { within = omega arith; piece = p r.each; longest = λ m j. longer m j }), omega arith)
  where
    longer : (m : ℕ) (j : PieceKind) → suc n < m → m ≤ length (b ∷ bytes) → IsPiece j (take m (b ∷ bytes)) → ⊥
    longer zero j lt le h = absurd (omega arith)
    longer (suc m) j lt le h = r.stop m (omega arith) (omega arith) (f j (take m bytes) h)

pub blank_stands : (bytes : List ℕ) → 0 < length bytes → is_blank (get_or bytes 0 0) ≡ true → IsLongest Blank 1 bytes × (0 < 1)
blank_stands bytes lt h = alone Blank bytes lt (h, refl) (λ j bs p. blank_longer j (get_or bytes 0 0) bs h p)

pub word_stands : (bytes : List ℕ) (n : ℕ) → 0 < length bytes → is_letter (get_or bytes 0 0) ≡ true → Runs classes.WordByte (drop 1 bytes) n → IsLongest (OfToken Word) (n + 1) bytes × (0 < n + 1)
word_stands bytes n lt h r = headed (OfToken Word) classes.WordByte bytes n lt r (λ a. (h, a)) (λ j bs p. word_longer j (get_or bytes 0 0) bs h p)

pub int_stands : (bytes : List ℕ) (n : ℕ) → 0 < length bytes → is_digit (get_or bytes 0 0) ≡ true → Runs classes.Digit (drop 1 bytes) n → IsLongest (OfToken Int) (n + 1) bytes × (0 < n + 1)
int_stands bytes n lt h r = headed (OfToken Int) classes.Digit bytes n lt r (λ a. inr (h, a)) (λ j bs p. digit_longer j (get_or bytes 0 0) bs h p)

pub single_stands : (s : Symbol) (bytes : List ℕ) → 0 < length bytes → symbol_bytes s ≡ get_or bytes 0 0 ∷ [] → is_single (get_or bytes 0 0) ≡ true → IsLongest (OfToken (Sym s)) 1 bytes × (0 < 1)
single_stands s bytes lt e h = alone (OfToken (Sym s)) bytes lt (sym e) (λ j bs p. single_longer j (get_or bytes 0 0) bs h p)

begins_none : (k : PieceKind) (b : ℕ) → is_blank b ≡ false → is_letter b ≡ false → is_digit b ≡ false → (b ≡ 45 → ⊥) → (b ≡ 60 → ⊥) → (b ≡ 62 → ⊥) → (b ≡ 39 → ⊥) → is_single b ≡ false → begins k b ≡ true → ⊥
begins_none Blank b h1 h2 h3 h4 h5 h8 h7 h6 t = clash (is_blank b) t h1
begins_none Comment b h1 h2 h3 h4 h5 h8 h7 h6 t = grind (arith, nat_tests)
begins_none (OfToken Word) b h1 h2 h3 h4 h5 h8 h7 h6 t = clash (is_letter b) t h2
begins_none (OfToken Int) b h1 h2 h3 h4 h5 h8 h7 h6 t = grind (arith, nat_tests)
begins_none (OfToken Text) b h1 h2 h3 h4 h5 h8 h7 h6 t = grind (arith, nat_tests)
begins_none (OfToken (Sym s)) b h1 h2 h3 h4 h5 h8 h7 h6 t = grind (arith, nat_tests)

pub nothing_stands : (bytes : List ℕ) → 0 < length bytes → is_blank (get_or bytes 0 0) ≡ false → is_letter (get_or bytes 0 0) ≡ false → is_digit (get_or bytes 0 0) ≡ false
    → (get_or bytes 0 0 ≡ 45 → ⊥) → (get_or bytes 0 0 ≡ 60 → ⊥) → (get_or bytes 0 0 ≡ 62 → ⊥) → (get_or bytes 0 0 ≡ 39 → ⊥) → is_single (get_or bytes 0 0) ≡ false → NoPiece bytes
nothing_stands [] lt h1 h2 h3 h4 h5 h8 h7 h6 m k p = absurd (omega arith)
nothing_stands (b ∷ bytes) lt h1 h2 h3 h4 h5 h8 h7 h6 zero k p = none_empty k p
nothing_stands (b ∷ bytes) lt h1 h2 h3 h4 h5 h8 h7 h6 (suc m) k p = begins_none k b h1 h2 h3 h4 h5 h8 h7 h6 (first_of k b (take m bytes) p)

text_longer : (k : PieceKind) (b : ℕ) (bs : List ℕ) → b ≡ 39 → IsPiece k (b ∷ bs) → IsQuoted bs
text_longer (OfToken Text) b bs h p = p.1
text_longer Blank b bs h p = absurd (no b h (first_of Blank b bs p))
  where
    no : (b : ℕ) → b ≡ 39 → begins Blank b ≡ true → ⊥
    no b h k = grind (arith, nat_tests)
text_longer Comment b bs h p = absurd (no b h (first_of Comment b bs p))
  where
    no : (b : ℕ) → b ≡ 39 → begins Comment b ≡ true → ⊥
    no b h k = grind (arith, nat_tests)
text_longer (OfToken Word) b bs h p = absurd (no b h (first_of (OfToken Word) b bs p))
  where
    no : (b : ℕ) → b ≡ 39 → begins (OfToken Word) b ≡ true → ⊥
    no b h k = grind (arith, nat_tests)
text_longer (OfToken Int) b bs h p = absurd (no b h (first_of (OfToken Int) b bs p))
  where
    no : (b : ℕ) → b ≡ 39 → begins (OfToken Int) b ≡ true → ⊥
    no b h k = grind (arith, nat_tests)
text_longer (OfToken (Sym s)) b bs h p = absurd (no b h (first_of (OfToken (Sym s)) b bs p))
  where
    no : (b : ℕ) → b ≡ 39 → begins (OfToken (Sym s)) b ≡ true → ⊥
    no b h k = grind (arith, nat_tests)

pub text_stands : (bytes : List ℕ) (n : ℕ) → 0 < length bytes → get_or bytes 0 0 ≡ 39 → EndsQuoted (drop 1 bytes) n → (n ≡ 0 → ⊥) → IsLongest (OfToken Text) (n + 1) bytes × (0 < n + 1)
text_stands [] n lt h e z = absurd (omega arith)
text_stands (b ∷ bytes) n lt h e z =
    let k : suc n ≡ n + 1 = omega arith in
    let w : n ≤ length bytes = e.within in
    (subst (λ x. IsLongest (OfToken Text) x (b ∷ bytes)) k (record { within = omega arith; piece = (h, e.ends (omega arith)); longest = λ m j. longer m j }), omega arith)
  where
    longer : (m : ℕ) (j : PieceKind) → suc n < m → m ≤ length (b ∷ bytes) → IsPiece j (take m (b ∷ bytes)) → ⊥
    longer zero j lt le p = absurd (omega arith)
    longer (suc m) j lt le p = e.longest m (omega arith) (omega arith) (text_longer j b (take m bytes) h p)

pub unclosed : (bytes : List ℕ) → 0 < length bytes → get_or bytes 0 0 ≡ 39 → EndsQuoted (drop 1 bytes) 0 → NoPiece bytes
unclosed [] lt h e m j p = absurd (omega arith)
unclosed (b ∷ bytes) lt h e zero j p = none_empty j p
unclosed (b ∷ bytes) lt h e (suc m) j p = elim (cases_lt (length bytes) m) [
  | inl k ↦ go (length bytes) (omega arith) (subst IsQuoted (take_all m bytes (omega arith) ∙ sym (take_all (length bytes) bytes (omega arith))) (text_longer j b (take m bytes) h p))
  | inr k ↦ go m k (text_longer j b (take m bytes) h p)
]
  where
    go : (m : ℕ) → m ≤ length bytes → IsQuoted (take m bytes) → ⊥
    go zero le q = no_quoted (subst IsQuoted (nothing bytes) q)
      where
        nothing : (bytes : List ℕ) → take 0 bytes ≡ []
        nothing [] = refl
        nothing (b ∷ bytes) = refl
    go (suc m) le q = e.longest (suc m) (omega arith) le q
