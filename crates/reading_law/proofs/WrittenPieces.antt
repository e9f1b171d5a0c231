-- Words, integers and operators stand first as the longest piece, where a space, a comma, a `)` or a dot follows.
use Rattle.std.proofs.Common.{◌≡◌, inl, inr, ◌+◌, ◌<◌, ◌≤◌, ◌==◌, ◌||◌, ℕ, zero, suc, Bool, true, false, List, [], ◌∷◌, ◌++◌, length, take, get_or, refl, sym, ap, subst, arith, length-append}
use Rattle.std.proofs.lemmas.Bool.Decides.{nat_tests}
use Rattle.std.proofs.lemmas.List.{take_at}
use Rattle.script_lex.specs.declared.bytes.Class.{Class}
use Rattle.script_lex.specs.declared.bytes.Class.TheVariants as classes
use Rattle.script_lex.specs.declared.kinds.Symbol.{Symbol}
use Rattle.script_lex.specs.declared.kinds.Symbol.TheVariants as s
use Rattle.script_lex.specs.declared.kinds.TokenKind.TheVariants.{Word, Int, Text, Sym}
use Rattle.script_lex.specs.declared.pieces.PieceKind.{PieceKind}
use Rattle.script_lex.specs.declared.pieces.PieceKind.TheVariants.{Blank, Comment, Token as OfToken}
use Rattle.script_lex.specs.Bytes.{is_blank, is_letter, is_digit, is_word_byte, test_of, AllPass, Runs}
use Rattle.script_lex.specs.TokenParts.{is_single}
use Rattle.script_lex.specs.Tokens.{symbol_bytes, IsNumber, IsToken, IsPiece, IsLongest}
use Rattle.script_lex.proofs.FirstBytes.{first_of}
use Rattle.script_lex.proofs.Longest.{word_stands, int_stands}

-- a space, a comma, a `)` or a dot
abbrev pub is_stop : ℕ → Bool
is_stop b = ((b == 32 || b == 44) || b == 41) || b == 46

-- one of them stands first, or nothing does
abbrev pub Stops : List ℕ → Type 0
Stops [] = Unit {0}
Stops (b ∷ bytes) = is_stop b ≡ true

stop_no_word : (b : ℕ) → is_stop b ≡ true → is_word_byte b ≡ false
stop_no_word b h = grind (arith, nat_tests)

stop_no_digit : (b : ℕ) → is_stop b ≡ true → is_digit b ≡ false
stop_no_digit b h = grind (arith, nat_tests)

-- a run of a class ends where a byte of no such class follows
runs : (class : Class) (bs rest : List ℕ) → AllPass (test_of class) bs → ((b : ℕ) → is_stop b ≡ true → test_of class b ≡ false) → Stops rest → Runs class (bs ++ rest) (length bs)
runs class bs rest all ends s = record {
  within = omega (arith, length-append bs rest);
  each = subst (AllPass (test_of class)) (sym (take_at bs rest (length bs) refl)) all;
  stop = λ m lt le. stop rest s m lt le;
}
  where
    stop : (rest : List ℕ) → Stops rest → (m : ℕ) → length bs < m → m ≤ length (bs ++ rest) → AllPass (test_of class) (take m (bs ++ rest)) → ⊥
    stop [] s m lt le a = absurd (omega (arith, length-append bs []))
    stop (b ∷ rest) s m lt le a = longer bs m lt a
      where
        longer : (xs : List ℕ) (m : ℕ) → length xs < m → AllPass (test_of class) (take m (xs ++ b ∷ rest)) → ⊥
        longer xs zero lt a = absurd (omega arith)
        longer [] (suc m) lt a = absurd (cc (a.0, ends b s))
        longer (x ∷ xs) (suc m) lt a = longer xs m (omega arith) a.1

pub word_first : (b : ℕ) (bs rest : List ℕ) → IsToken Word (b ∷ bs) → Stops rest → IsLongest (OfToken Word) (length (b ∷ bs)) ((b ∷ bs) ++ rest)
word_first b bs rest w s =
    let e : length bs + 1 ≡ length (b ∷ bs) = omega arith in
    subst (λ n. IsLongest (OfToken Word) n ((b ∷ bs) ++ rest)) e (word_stands ((b ∷ bs) ++ rest) (length bs) (omega arith) w.0 (runs classes.WordByte bs rest w.1 stop_no_word s)).0

pub digits_first : (b : ℕ) (bs rest : List ℕ) → AllPass is_digit (b ∷ bs) → Stops rest → IsLongest (OfToken Int) (length (b ∷ bs)) ((b ∷ bs) ++ rest)
digits_first b bs rest w s =
    let e : length bs + 1 ≡ length (b ∷ bs) = omega arith in
    subst (λ n. IsLongest (OfToken Int) n ((b ∷ bs) ++ rest)) e (int_stands ((b ∷ bs) ++ rest) (length bs) (omega arith) w.0 (runs classes.Digit bs rest w.1 stop_no_digit s)).0

digit_no_dash : (b : ℕ) → is_digit b ≡ true → b ≡ 45 → ⊥
digit_no_dash b h e = grind (arith, nat_tests)

dash_blank : (a : ℕ) → a ≡ 45 → is_blank a ≡ true → ⊥
dash_blank a e h = grind (arith, nat_tests)

dash_letter : (a : ℕ) → a ≡ 45 → is_letter a ≡ true → ⊥
dash_letter a e h = grind (arith, nat_tests)

dash_quote : (a : ℕ) → a ≡ 45 → (a == 39) ≡ true → ⊥
dash_quote a e h = grind (arith, nat_tests)

dash_single : (a : ℕ) → a ≡ 45 → (is_single a || (a == 60 || a == 62)) ≡ true → ⊥
dash_single a e h = grind (arith, nat_tests)

-- what begins with a dash and a digit is an integer
dash_longer : (k : PieceKind) (a b : ℕ) (bs : List ℕ) → a ≡ 45 → is_digit b ≡ true → IsPiece k (a ∷ b ∷ bs) → AllPass is_digit (b ∷ bs)
dash_longer Blank a b bs e h p = absurd (dash_blank a e (first_of Blank a (b ∷ bs) p))
dash_longer Comment a b bs e h p = absurd (digit_no_dash b h p.1)
dash_longer (OfToken Word) a b bs e h p = absurd (dash_letter a e (first_of (OfToken Word) a (b ∷ bs) p))
dash_longer (OfToken Int) a b bs e h p = elim p [ inl k ↦ k.1 | inr k ↦ absurd (digit_no_dash a k.0 e) ]
dash_longer (OfToken Text) a b bs e h p = absurd (dash_quote a e (first_of (OfToken Text) a (b ∷ bs) p))
dash_longer (OfToken (Sym s)) a b bs e h p = absurd (dash_single a e (first_of (OfToken (Sym s)) a (b ∷ bs) p))

pub minus_first : (b : ℕ) (bs rest : List ℕ) → AllPass is_digit (b ∷ bs) → Stops rest → IsLongest (OfToken Int) (length (45 ∷ b ∷ bs)) ((45 ∷ b ∷ bs) ++ rest)
minus_first b bs rest d s =
    let r = runs classes.Digit (b ∷ bs) rest d stop_no_digit s in
    record {
      within = omega (arith, length-append bs rest);
      piece = inl (refl, subst IsNumber (sym (take_at (b ∷ bs) rest (length (b ∷ bs)) refl)) d);
      longest = λ m j lt le p. longer m j lt le p r;
    }
  where
    longer : (m : ℕ) (j : PieceKind) → length (45 ∷ b ∷ bs) < m → m ≤ length ((45 ∷ b ∷ bs) ++ rest) → IsPiece j (take m ((45 ∷ b ∷ bs) ++ rest)) → Runs classes.Digit ((b ∷ bs) ++ rest) (length (b ∷ bs)) → ⊥
    longer zero j lt le p r = absurd (omega arith)
    longer (suc zero) j lt le p r = absurd (omega arith)
    longer (suc (suc m)) j lt le p r = r.stop (suc m) (omega arith) (omega arith) (dash_longer j 45 b (take m (bs ++ rest)) refl d.0 p)

-- ---- operators

-- a `<` or a `>`
abbrev is_angle : ℕ → Bool
is_angle b = b == 60 || b == 62

angle_blank : (b : ℕ) → is_angle b ≡ true → is_blank b ≡ true → ⊥
angle_blank b h k = grind (arith, nat_tests)

angle_letter : (b : ℕ) → is_angle b ≡ true → is_letter b ≡ true → ⊥
angle_letter b h k = grind (arith, nat_tests)

angle_digit : (b : ℕ) → is_angle b ≡ true → (b == 45 || is_digit b) ≡ true → ⊥
angle_digit b h k = grind (arith, nat_tests)

angle_dash : (b : ℕ) → is_angle b ≡ true → (b == 45) ≡ true → ⊥
angle_dash b h k = grind (arith, nat_tests)

angle_quote : (b : ℕ) → is_angle b ≡ true → (b == 39) ≡ true → ⊥
angle_quote b h k = grind (arith, nat_tests)

-- what begins with one of them is an operator
angle_longer : (k : PieceKind) (b : ℕ) (bs : List ℕ) → is_angle b ≡ true → IsPiece k (b ∷ bs) → (m : Symbol) × (b ∷ bs ≡ symbol_bytes m)
angle_longer Blank b bs h p = absurd (angle_blank b h (first_of Blank b bs p))
angle_longer Comment b bs h p = absurd (angle_dash b h (first_of Comment b bs p))
angle_longer (OfToken Word) b bs h p = absurd (angle_letter b h (first_of (OfToken Word) b bs p))
angle_longer (OfToken Int) b bs h p = absurd (angle_digit b h (first_of (OfToken Int) b bs p))
angle_longer (OfToken Text) b bs h p = absurd (angle_quote b h (first_of (OfToken Text) b bs p))
angle_longer (OfToken (Sym m)) b bs h p = (m, p)

-- no symbol has a space, or three bytes
no_space : (m : Symbol) → 32 ≡ get_or (symbol_bytes m) 1 0 → ⊥
no_space s.Open e = omega (arith, e)
no_space s.Close e = omega (arith, e)
no_space s.Comma e = omega (arith, e)
no_space s.Dot e = omega (arith, e)
no_space s.Eq e = omega (arith, e)
no_space s.Ne e = omega (arith, e)
no_space s.Lt e = omega (arith, e)
no_space s.Le e = omega (arith, e)
no_space s.Gt e = omega (arith, e)
no_space s.Ge e = omega (arith, e)

no_three : (m : Symbol) (n : ℕ) → suc (suc (suc n)) ≡ length (symbol_bytes m) → ⊥
no_three s.Open n e = omega (arith, e)
no_three s.Close n e = omega (arith, e)
no_three s.Comma n e = omega (arith, e)
no_three s.Dot n e = omega (arith, e)
no_three s.Eq n e = omega (arith, e)
no_three s.Ne n e = omega (arith, e)
no_three s.Lt n e = omega (arith, e)
no_three s.Le n e = omega (arith, e)
no_three s.Gt n e = omega (arith, e)
no_three s.Ge n e = omega (arith, e)

-- an operator of one byte, and a space
pub short_first : (m : Symbol) (a : ℕ) (rest : List ℕ) → a ∷ [] ≡ symbol_bytes m → is_angle a ≡ true → IsLongest (OfToken (Sym m)) 1 (a ∷ 32 ∷ rest)
short_first m a rest e h = record { within = omega arith; piece = e; longest = λ n j lt le p. longer n j lt p }
  where
    longer : (n : ℕ) (j : PieceKind) → 1 < n → IsPiece j (take n (a ∷ 32 ∷ rest)) → ⊥
    longer zero j lt p = absurd (omega arith)
    longer (suc zero) j lt p = absurd (omega arith)
    longer (suc (suc n)) j lt p = let k = angle_longer j a (32 ∷ take n rest) h p in no_space k.0 (ap (λ l. get_or l 1 0) k.1)

-- an operator of two bytes, and a space
pub double_first : (m : Symbol) (a b : ℕ) (rest : List ℕ) → a ∷ b ∷ [] ≡ symbol_bytes m → is_angle a ≡ true → IsLongest (OfToken (Sym m)) 2 (a ∷ b ∷ 32 ∷ rest)
double_first m a b rest e h = record { within = omega arith; piece = e; longest = λ n j lt le p. longer n j lt p }
  where
    longer : (n : ℕ) (j : PieceKind) → 2 < n → IsPiece j (take n (a ∷ b ∷ 32 ∷ rest)) → ⊥
    longer zero j lt p = absurd (omega arith)
    longer (suc zero) j lt p = absurd (omega arith)
    longer (suc (suc zero)) j lt p = absurd (omega arith)
    longer (suc (suc (suc n))) j lt p = let k = angle_longer j a (b ∷ 32 ∷ take n rest) h p in no_three k.0 (length (take n rest)) (ap length k.1)
