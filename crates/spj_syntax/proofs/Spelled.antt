-- What the parser needs to know of tokens, from how they spell their text.
use Rattle.std.proofs.Common.{◌≡◌, inl, inr, ◌+◌, ◌-◌, ◌<◌, ◌≤◌, ◌==◌, ◌&&◌, nat_eq, lit<, ℕ, zero, suc, Bool, true, false, IsTrue, List, [], ◌∷◌, ◌++◌, length, drop, get_or, slice_index, All, refl, sym, ◌∙◌, ap, subst, arith, append_assoc, length-append, if◌then◌else◌}
use Rattle.std.proofs.lemmas.Bool.Decides.{nat_tests}
use Rattle.std.proofs.lemmas.List.{length-drop, take_at, drop_at}
use Rattle.std.proofs.lemmas.List.Elements.{All-from_recursion, recursion_from_All}
use Rattle.std.proofs.lemmas.Str.{IsUtf8-from_ascii, IsUtf8-append, IsUtf8-take, IsUtf8-drop, IsCharBoundary-before_ascii, IsCharBoundary-after_ascii}
use Rattle.std.proofs.Math.Seq.{get_or-append_seam}
use Rattle.std.specs.Char.{is_ascii_digit}
use Rattle.std.specs.List.{AllByRecursion, slice_range}
use Rattle.std.specs.Str.{IsUtf8, all_ascii_digits}
use Rattle.script_lex.specs.declared.kinds.Span.{Span}
use Rattle.script_lex.specs.declared.kinds.Token.{Token}
use Rattle.script_lex.specs.declared.kinds.TokenKind.{TokenKind}
use Rattle.script_lex.specs.declared.kinds.TokenKind.TheVariants.{Word, Int, Text, Sym}
use Rattle.script_lex.specs.declared.pieces.Piece.{Piece}
use Rattle.script_lex.specs.declared.pieces.PieceKind.{PieceKind}
use Rattle.script_lex.specs.declared.pieces.PieceKind.TheVariants.{Blank, Comment, Token as OfToken}
use Rattle.script_lex.specs.Bytes.{is_letter, is_digit, is_word_byte, AllPass}
use Rattle.script_lex.specs.Tokens.{inside, IsNumber, IsToken, IsPiece, IsLongest, Splits, IsClean, kept, tokens_of, Spells, Rise, LiesIn}
use Rattle.script_lex.proofs.Placed.{lie_in, rise}
use Rattle.cqa_value.specs.Literals.{are_digits, without_minus, doubled}
use Rattle.spj_syntax.specs.Lexemes.{undoubled}
use Rattle.spj_syntax.specs.Reading.{IsSound, IsReadable}

-- words are ASCII

word_byte_small : (b : ℕ) → is_word_byte b ≡ true → b < 128
word_byte_small b h = grind (arith, nat_tests)

letter_small : (b : ℕ) → is_letter b ≡ true → b < 128
letter_small b h = grind (arith, nat_tests)

word_ascii : (bytes : List ℕ) → AllPass is_word_byte bytes → (i : ℕ) → slice_index bytes i < 128
word_ascii [] h i = lit< tt
word_ascii (b ∷ bytes) h zero = word_byte_small b h.0
word_ascii (b ∷ bytes) h (suc i) = word_ascii bytes h.1 i

letters_ascii : (b : ℕ) (bytes : List ℕ) → is_letter b ≡ true → AllPass is_word_byte bytes → (i : ℕ) → slice_index (b ∷ bytes) i < 128
letters_ascii b bytes h k zero = letter_small b h
letters_ascii b bytes h k (suc i) = word_ascii bytes k i

pub word_sound : (bytes : List ℕ) → IsToken Word bytes → IsUtf8 bytes
word_sound [] h = absurd h
word_sound (b ∷ bytes) h = IsUtf8-from_ascii (b ∷ bytes) (letters_ascii b bytes h.0 h.1)

-- ints have digits

digit_is : (b : ℕ) → is_digit b ≡ true → is_ascii_digit b ≡ true
digit_is b h = grind (arith, nat_tests)

digits_are : (bytes : List ℕ) → AllPass is_digit bytes → all_ascii_digits bytes ≡ true
digits_are [] h = refl
digits_are (b ∷ bytes) h = rw (digit_is b h.0) (digits_are bytes h.1)

number_sound : (bytes : List ℕ) → IsNumber bytes → IsTrue (are_digits bytes)
number_sound [] h = absurd h
number_sound (b ∷ bytes) h = digits_are (b ∷ bytes) h

digit_no_minus : (b : ℕ) → is_digit b ≡ true → (b == 45) ≡ false
digit_no_minus b h = grind (arith, nat_tests)

int_sound : (bytes : List ℕ) → IsToken Int bytes → IsTrue (are_digits (without_minus bytes))
int_sound [] h = absurd h
int_sound (b ∷ bytes) h = elim h [
  | inl k ↦ rw k.0 (number_sound bytes k.1)
  | inr k ↦ rw (digit_no_minus b k.0) (number_sound (b ∷ bytes) k)
]

-- texts are UTF-8 between their quotes

-- without one ASCII byte it is UTF-8 still
without_ascii : (front : List ℕ) (b : ℕ) (bytes : List ℕ) → b < 128 → IsUtf8 (front ++ b ∷ bytes) → IsUtf8 (front ++ bytes)
without_ascii front b bytes lt u =
    let within : length front < length (front ++ b ∷ bytes) = omega (arith, length-append front (b ∷ bytes)) in
    let small : get_or (front ++ b ∷ bytes) (length front) 0 < 128 = rw get_or-append_seam lt in
    let left : IsUtf8 front =
    subst IsUtf8 (take_at front (b ∷ bytes) (length front) refl) (IsUtf8-take (front ++ b ∷ bytes) (length front) u (IsCharBoundary-before_ascii (front ++ b ∷ bytes) (length front) within small)) in
    let whole : (front ++ b ∷ []) ++ bytes ≡ front ++ b ∷ bytes = append_assoc front (b ∷ []) bytes in
    let right : IsUtf8 bytes =
    subst IsUtf8 (ap (λ z. drop (length front + 1) z) (sym whole) ∙ drop_at (front ++ b ∷ []) bytes (length front + 1) (length-append front (b ∷ [])))
    (IsUtf8-drop (front ++ b ∷ bytes) (length front + 1) u (IsCharBoundary-after_ascii (front ++ b ∷ bytes) (length front) u within small)) in
    IsUtf8-append front bytes left right

is_quote : (b c : ℕ) → (nat_eq 39 b && nat_eq 39 c) ≡ true → (b ≡ 39) × (c ≡ 39)
is_quote b c h = (grind (arith, nat_tests), grind (arith, nat_tests))

undoubled-utf8 : (bytes front : List ℕ) → IsUtf8 (front ++ bytes) → IsUtf8 (front ++ undoubled bytes)
undoubled-utf8 [] front h = h
undoubled-utf8 (b ∷ []) front h = h
undoubled-utf8 (b ∷ c ∷ bytes) front h =
    go (nat_eq 39 b && nat_eq 39 c) refl (λ k. undoubled-utf8 bytes (front ++ 39 ∷ []) k)
    (undoubled-utf8 (c ∷ bytes) (front ++ b ∷ []) (subst IsUtf8 (sym (append_assoc front (b ∷ []) (c ∷ bytes))) h))
  where
    go : (t : Bool) → (nat_eq 39 b && nat_eq 39 c) ≡ t → (IsUtf8 ((front ++ 39 ∷ []) ++ bytes) → IsUtf8 ((front ++ 39 ∷ []) ++ undoubled bytes)) → IsUtf8 ((front ++ b ∷ []) ++ undoubled (c ∷ bytes))
        → IsUtf8 (front ++ (if t then 39 ∷ undoubled bytes else b ∷ undoubled (c ∷ bytes)))
    go true e f k =
        let q = is_quote b c e in
        let doubled : IsUtf8 ((front ++ 39 ∷ []) ++ 39 ∷ bytes) = subst IsUtf8 (ap (λ z. front ++ (z ∷ c ∷ bytes)) q.0 ∙ ap (λ z. front ++ (39 ∷ z ∷ bytes)) q.1 ∙ sym (append_assoc front (39 ∷ []) (39 ∷ bytes))) h in
        subst IsUtf8 (append_assoc front (39 ∷ []) (undoubled bytes)) (f (without_ascii (front ++ 39 ∷ []) 39 bytes (lit< tt) doubled))
    go false e f k = subst IsUtf8 (append_assoc front (b ∷ []) (undoubled (c ∷ bytes))) k

quoted_two : (bytes : List ℕ) → IsToken Text bytes → 2 ≤ length bytes
quoted_two [] h = absurd h
quoted_two (b ∷ bytes) h = let q = h.1 in omega (arith, ap length q.1, length-append (doubled q.0) (39 ∷ []))

text_sound : (bytes : List ℕ) → IsToken Text bytes → IsUtf8 (inside bytes) → IsSound Text bytes
text_sound bytes h u = (quoted_two bytes h, undoubled-utf8 (inside bytes) [] u)

-- a piece that is a token is readable
readable : (text : List ℕ) (p : Piece) (kind : TokenKind) → p.kind ≡ OfToken kind → p.span.from ≤ p.span.to → p.span.to ≤ length text → IsToken kind (slice_range text p.span.from p.span.to) → IsClean text p
    → IsReadable text (record { kind = kind; span = p.span })
readable text p Word e lt le h c = record { ordered = lt; within = le; sound = h }
readable text p Int e lt le h c = record { ordered = lt; within = le; sound = int_sound (slice_range text p.span.from p.span.to) h }
readable text p Text e lt le h c = record { ordered = lt; within = le; sound = text_sound (slice_range text p.span.from p.span.to) h (c.utf8 e) }
readable text p (Sym s) e lt le h c = record { ordered = lt; within = le; sound = tt }

each_kept : (P : Token → Type 0) (kind : PieceKind) (span : Span) (tokens : List Token) → ((k : TokenKind) → kind ≡ OfToken k → P (record { kind = k; span = span })) → AllByRecursion P tokens → AllByRecursion P (kept kind span ++ tokens)
each_kept P Blank span tokens h k = k
each_kept P Comment span tokens h k = k
each_kept P (OfToken kind) span tokens h k = (h kind refl, k)

-- a piece ends in the text
ends_within : (text : List ℕ) (at : ℕ) (p : Piece) → at < p.span.to → IsLongest p.kind (p.span.to - at) (drop at text) → p.span.to ≤ length text
ends_within text at p lt h = let w = h.within in omega (arith, length-drop at text)

all_readable : (text : List ℕ) (at end : ℕ) (pieces : List Piece) → Splits text at pieces end → AllByRecursion (IsClean text) pieces → AllByRecursion (IsReadable text) (tokens_of pieces)
all_readable text at end [] h c = tt
all_readable text at end (p ∷ pieces) h c =
    each_kept (IsReadable text) p.kind p.span (tokens_of pieces)
    (λ kind e. readable text p kind e (omega (arith, h.0, h.1)) (ends_within text at p h.1 h.2)
    (subst (λ z. IsToken kind (slice_range text z p.span.to)) (sym h.0) (token_of kind p.kind (slice_range text at p.span.to) e h.2.piece)) c.0)
    (all_readable text p.span.to end pieces h.3 c.1)
  where
    token_of : (kind : TokenKind) (k : PieceKind) (bytes : List ℕ) → k ≡ OfToken kind → IsPiece k bytes → IsToken kind bytes
    token_of kind k bytes e h = subst (λ z. IsPiece z bytes) e h

pub spelled_readable : {text : List ℕ} {tokens : List Token} → Spells text tokens → All (IsReadable text) tokens
spelled_readable {text = text} {tokens = tokens} h = All-from_recursion (IsReadable text) tokens (subst (AllByRecursion (IsReadable text)) (sym h.tokens_are) (all_readable text 0 (length text) h.pieces h.splits h.clean))

-- each token takes a byte
count_from : (text : List ℕ) (at : ℕ) (tokens : List Token) → at ≤ length text → AllByRecursion (LiesIn text) tokens → Rise at tokens → length tokens + at ≤ length text
count_from text at [] le h r = omega arith
count_from text at (t ∷ tokens) le h r = let i = count_from text t.span.to tokens h.0.within h.1 r.1 in omega (arith, i, h.0.some, r.0)

pub spelled_few : {text : List ℕ} {tokens : List Token} → Spells text tokens → length tokens ≤ length text
spelled_few {text = text} {tokens = tokens} h = let c = count_from text 0 tokens (omega arith) (recursion_from_All (LiesIn text) tokens (lie_in text tokens h)) (rise text tokens h) in omega (arith, c)
