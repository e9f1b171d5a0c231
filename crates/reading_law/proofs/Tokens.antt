-- The tokens of what is written, from right to left.
use Rattle.std.proofs.Common.{◌≡◌, ◌⊎◌, inl, inr, ◌+◌, ◌-◌, ◌<◌, ◌≤◌, lit≤, ℕ, true, false, IsTrue, List, [], ◌∷◌, ◌++◌, codes, length, take, drop, refl, sym, ap, ◌∙◌, subst, arith, append_assoc, length-append}
use Rattle.std.proofs.lemmas.Bool.Decides.{nat_tests}
use Rattle.std.proofs.lemmas.List.{take_at, drop_at, append-nil}
use Rattle.std.specs.List.{AllByRecursion, list_all, slice_range, flat_map, join_by}
use Rattle.std.specs.Str.{IsUtf8}
use Rattle.std.proofs.lemmas.Bool.{and_parts}
use Rattle.cqa_value.specs.declared.value.Value.{Value}
use Rattle.cqa_value.specs.declared.value.Value.TheVariants as values
use Rattle.cqa_value.specs.Literals.{is_in_range, literal_bytes}
use Rattle.cqa_value.specs.Valid.{IsValidValue}
use Rattle.cqa_value.proofs.Integers.{fits_to}
use Rattle.cqa_model.specs.declared.query.Op.{Op}
use Rattle.cqa_model.specs.declared.query.Op.TheVariants as ops
use Rattle.cqa_model.specs.Valid.{is_word, is_letter_or_digit, is_letter as is_name_letter}
use Rattle.script_lex.specs.declared.kinds.Span.{Span}
use Rattle.script_lex.specs.declared.kinds.Symbol.{Symbol}
use Rattle.script_lex.specs.declared.kinds.Symbol.TheVariants as s
use Rattle.script_lex.specs.declared.kinds.Token.{Token}
use Rattle.script_lex.specs.declared.kinds.TokenKind.TheVariants as kinds
use Rattle.script_lex.specs.declared.pieces.Piece.{Piece}
use Rattle.script_lex.specs.declared.pieces.PieceKind.{PieceKind}
use Rattle.script_lex.specs.declared.pieces.PieceKind.TheVariants.{Blank, Comment, Token as OfToken}
use Rattle.script_lex.specs.Bytes.{is_letter, is_word_byte, AllPass}
use Rattle.script_lex.specs.TokenParts.{is_single}
use Rattle.script_lex.specs.Tokens.{inside, symbol_bytes, IsToken, IsLongest, Splits, IsClean, kept, tokens_of}
use Rattle.script_lex.proofs.Longest.{blank_stands, single_stands}
use Rattle.spj_syntax.specs.Lexemes.{Lexeme, Word, Number, Quoted, Mark, of_kind, undoubled}
use Rattle.spj_syntax.specs.Parsed.{lexemes, Fits}
use Rattle.spj_syntax.specs.Written.{each_after, between, listed_tokens, anded_tokens, literal_tokens, op_symbol}
use Rattle.reading_law.proofs.Numbers.{is_written, integer_again, IsWritten}
use Rattle.reading_law.proofs.WrittenPieces.{Stops, word_first, digits_first, minus_first, short_first, double_first}
use Rattle.reading_law.proofs.Quotes.{quoted, text_first, inside_is, doubled_utf8, undoubled_is}

-- from a place on a text is pieces that stand for these tokens, none of which is too long or out of range
pub record StandsFor (text : List ℕ) (at : ℕ) (ls : List Lexeme) : Type 0 where
  pub pieces : List Piece
  pub splits : Splits text at pieces (length text)
  pub clean : AllByRecursion (IsClean text) pieces
  pub are : lexemes text (tokens_of pieces) ≡ ls
  pub fit : AllByRecursion (Fits false) ls

-- the bytes stand for these tokens at the end of any text
abbrev pub Spelled : List ℕ → List Lexeme → Type 0
Spelled rest ls = (text front : List ℕ) → text ≡ front ++ rest → StandsFor text (length front) ls

pub nothing_more : Spelled [] []
nothing_more text front e = record { pieces = []; splits = ap length (sym (append-nil front) ∙ sym e); clean = tt; are = refl; fit = tt }

-- the token that a piece is, if it is one
abbrev of_piece : PieceKind → List ℕ → List Lexeme
of_piece Blank bytes = []
of_piece Comment bytes = []
of_piece (OfToken kind) bytes = of_kind kind bytes ∷ []

are_kept : (text bytes : List ℕ) (kind : PieceKind) (span : Span) (tokens : List Token) (ls : List Lexeme) → slice_range text span.from span.to ≡ bytes → lexemes text tokens ≡ ls → lexemes text (kept kind span ++ tokens) ≡ of_piece kind bytes ++ ls
are_kept text bytes Blank span tokens ls e h = h
are_kept text bytes Comment span tokens ls e h = h
are_kept text bytes (OfToken kind) span tokens ls e h = ap (λ b. of_kind kind b ∷ lexemes text tokens) e ∙ ap (λ l. of_kind kind bytes ∷ l) h

all_both : {X : Type 0} (P : X → Type 0) (xs ys : List X) → AllByRecursion P xs → AllByRecursion P ys → AllByRecursion P (xs ++ ys)
all_both P [] ys a b = b
all_both P (x ∷ xs) ys a b = (a.0, all_both P xs ys a.1 b)

piece_then : (kind : PieceKind) (bytes rest : List ℕ) (ls : List Lexeme) → 0 < length bytes → IsLongest kind (length bytes) (bytes ++ rest) → (kind ≡ OfToken kinds.Text → IsUtf8 (inside bytes))
    → AllByRecursion (Fits false) (of_piece kind bytes) → Spelled rest ls → Spelled (bytes ++ rest) (of_piece kind bytes ++ ls)
piece_then kind bytes rest ls some longest utf8 fit more text front e =
    let h = more text (front ++ bytes) (e ∙ sym (append_assoc front bytes rest)) in
    let n : length (front ++ bytes) ≡ length front + length bytes = length-append front bytes in
    let width : length (front ++ bytes) - length front ≡ length bytes = omega (arith, n) in
    let stands : drop (length front) text ≡ bytes ++ rest = ap (λ t. drop (length front) t) e ∙ drop_at front (bytes ++ rest) (length front) refl in
    let slice : slice_range text (length front) (length (front ++ bytes)) ≡ bytes =
    ap (λ t. take (length (front ++ bytes) - length front) t) stands ∙ take_at bytes rest (length (front ++ bytes) - length front) (sym width) in
    record {
      pieces = (record { kind = kind; span = record { from = length front; to = length (front ++ bytes) } }) ∷ h.pieces;
      splits = (refl, omega (arith, n, some), subst (λ m. IsLongest kind m (drop (length front) text)) (sym width) (subst (λ z. IsLongest kind (length bytes) z) (sym stands) longest), h.splits);
      clean = (record { utf8 = λ k. subst (λ z. IsUtf8 (inside z)) (sym slice) (utf8 k) }, h.clean);
      are = are_kept text bytes kind (record { from = length front; to = length (front ++ bytes) }) (tokens_of h.pieces) ls slice h.are;
      fit = all_both (Fits false) (of_piece kind bytes) ls fit h.fit;
    }

pub word_then : (w rest : List ℕ) (ls : List Lexeme) → IsToken kinds.Word w → length w ≤ 64 → Stops rest → Spelled rest ls → Spelled (w ++ rest) (Word w ∷ ls)
word_then [] rest ls h short stops more = absurd h
word_then (b ∷ bs) rest ls h short stops more = piece_then (OfToken kinds.Word) (b ∷ bs) rest ls (omega arith) (word_first b bs rest h stops) (λ k. absurd (cc k)) (short, tt) more

pub blank_then : (rest : List ℕ) (ls : List Lexeme) → Spelled rest ls → Spelled (32 ∷ rest) ls
blank_then rest ls more = piece_then Blank (32 ∷ []) rest ls (omega arith) (blank_stands (32 ∷ rest) (omega arith) refl).0 (λ k. absurd (cc k)) tt more

mark_then : (m : Symbol) (b : ℕ) (rest : List ℕ) (ls : List Lexeme) → symbol_bytes m ≡ b ∷ [] → is_single b ≡ true → Spelled rest ls → Spelled (b ∷ rest) (Mark m ∷ ls)
mark_then m b rest ls e h more = piece_then (OfToken (kinds.Sym m)) (b ∷ []) rest ls (omega arith) (single_stands m (b ∷ rest) (omega arith) e h).0 (λ k. absurd (cc k)) (tt, tt) more

pub open_then : (rest : List ℕ) (ls : List Lexeme) → Spelled rest ls → Spelled (40 ∷ rest) (Mark s.Open ∷ ls)
open_then rest ls more = mark_then s.Open 40 rest ls refl refl more

pub close_then : (rest : List ℕ) (ls : List Lexeme) → Spelled rest ls → Spelled (41 ∷ rest) (Mark s.Close ∷ ls)
close_then rest ls more = mark_then s.Close 41 rest ls refl refl more

pub comma_then : (rest : List ℕ) (ls : List Lexeme) → Spelled rest ls → Spelled (44 ∷ rest) (Mark s.Comma ∷ ls)
comma_then rest ls more = mark_then s.Comma 44 rest ls refl refl more

pub dot_then : (rest : List ℕ) (ls : List Lexeme) → Spelled rest ls → Spelled (46 ∷ rest) (Mark s.Dot ∷ ls)
dot_then rest ls more = mark_then s.Dot 46 rest ls refl refl more

equal_then : (rest : List ℕ) (ls : List Lexeme) → Spelled rest ls → Spelled (61 ∷ rest) (Mark s.Eq ∷ ls)
equal_then rest ls more = mark_then s.Eq 61 rest ls refl refl more

short_then : (m : Symbol) (a : ℕ) (rest : List ℕ) (ls : List Lexeme) → a ∷ [] ≡ symbol_bytes m → IsLongest (OfToken (kinds.Sym m)) 1 (a ∷ 32 ∷ rest) → Spelled rest ls → Spelled (a ∷ 32 ∷ rest) (Mark m ∷ ls)
short_then m a rest ls e first more = piece_then (OfToken (kinds.Sym m)) (a ∷ []) (32 ∷ rest) ls (omega arith) first (λ k. absurd (cc k)) (tt, tt) (blank_then rest ls more)

double_then : (m : Symbol) (a b : ℕ) (rest : List ℕ) (ls : List Lexeme) → a ∷ b ∷ [] ≡ symbol_bytes m → IsLongest (OfToken (kinds.Sym m)) 2 (a ∷ b ∷ 32 ∷ rest) → Spelled rest ls
    → Spelled (a ∷ b ∷ 32 ∷ rest) (Mark m ∷ ls)
double_then m a b rest ls e first more = piece_then (OfToken (kinds.Sym m)) (a ∷ b ∷ []) (32 ∷ rest) ls (omega arith) first (λ k. absurd (cc k)) (tt, tt) (blank_then rest ls more)

-- an operator, and a space
pub operator_then : (op : Op) (rest : List ℕ) (ls : List Lexeme) → Spelled rest ls → Spelled (symbol_bytes (op_symbol op) ++ (32 ∷ rest)) (Mark (op_symbol op) ∷ ls)
operator_then ops.Eq rest ls more = equal_then (32 ∷ rest) ls (blank_then rest ls more)
operator_then ops.Ne rest ls more = double_then s.Ne 60 62 rest ls refl (double_first s.Ne 60 62 rest refl refl) more
operator_then ops.Lt rest ls more = short_then s.Lt 60 rest ls refl (short_first s.Lt 60 rest refl refl) more
operator_then ops.Le rest ls more = double_then s.Le 60 61 rest ls refl (double_first s.Le 60 61 rest refl refl) more
operator_then ops.Gt rest ls more = short_then s.Gt 62 rest ls refl (short_first s.Gt 62 rest refl refl) more
operator_then ops.Ge rest ls more = double_then s.Ge 62 61 rest ls refl (double_first s.Ge 62 61 rest refl refl) more

int_then : (bytes rest : List ℕ) (ls : List Lexeme) → IsWritten bytes → AllByRecursion (Fits false) (of_piece (OfToken kinds.Int) bytes) → Stops rest → Spelled rest ls → Spelled (bytes ++ rest) (of_piece (OfToken kinds.Int) bytes ++ ls)
int_then bytes rest ls w fit stops more = piece_then (OfToken kinds.Int) bytes rest ls (some w.is) (first w.is) (λ k. absurd (cc k)) fit more
  where
    some : ((bytes ≡ w.digit ∷ w.digits) ⊎ (bytes ≡ 45 ∷ w.digit ∷ w.digits)) → 0 < length bytes
    some (inl e) = omega (arith, ap length e)
    some (inr e) = omega (arith, ap length e)

    first : ((bytes ≡ w.digit ∷ w.digits) ⊎ (bytes ≡ 45 ∷ w.digit ∷ w.digits)) → IsLongest (OfToken kinds.Int) (length bytes) (bytes ++ rest)
    first (inl e) = subst (λ z. IsLongest (OfToken kinds.Int) (length z) (z ++ rest)) (sym e) (digits_first w.digit w.digits rest w.each stops)
    first (inr e) = subst (λ z. IsLongest (OfToken kinds.Int) (length z) (z ++ rest)) (sym e) (minus_first w.digit w.digits rest w.each stops)

pub literal_then : (v : Value) (rest : List ℕ) (ls : List Lexeme) → IsValidValue v → Stops rest → Spelled rest ls → Spelled (literal_bytes v ++ rest) (literal_tokens v ++ ls)
literal_then (values.Int n) rest ls valid stops more =
    let e = fits_to n valid in
    let is = integer_again n e in
    subst (λ z. Spelled (literal_bytes (values.Int n) ++ rest) (Number z ∷ ls)) is
    (int_then (literal_bytes (values.Int n)) rest ls (is_written n e) (subst (λ z. IsTrue (is_in_range z)) (sym is) e, tt) stops more)
literal_then (values.Text v) rest ls valid stops more =
    let is : undoubled (inside (quoted v)) ≡ v = ap undoubled (inside_is v) ∙ undoubled_is v in
    subst (λ z. Spelled (quoted v ++ rest) (Quoted z ∷ ls)) is
    (piece_then (OfToken kinds.Text) (quoted v) rest ls (omega arith) (text_first v rest stops) (λ k. subst IsUtf8 (sym (inside_is v)) (doubled_utf8 v valid.utf8)) (subst (λ z. length z ≤ 1024) (sym is) valid.short, tt) more)

-- a word of the model is one of the script
letter_same : (b : ℕ) → is_name_letter b ≡ true → is_letter b ≡ true
letter_same b h = grind (arith, nat_tests)

byte_same : (b : ℕ) → is_letter_or_digit b ≡ true → is_word_byte b ≡ true
byte_same b h = grind (arith, nat_tests)

bytes_same : (bs : List ℕ) → list_all is_letter_or_digit bs ≡ true → AllPass is_word_byte bs
bytes_same [] e = tt
bytes_same (b ∷ bs) e = let h = and_parts (is_letter_or_digit b) (list_all is_letter_or_digit bs) e in (byte_same b h.0, bytes_same bs h.1)

pub word_is : (w : List ℕ) → is_word w ≡ true → IsToken kinds.Word w
word_is [] e = absurd (cc e)
word_is (b ∷ bs) e = let h = and_parts (is_name_letter b) (list_all is_letter_or_digit bs) e in (letter_same b h.0, bytes_same bs h.1)

-- a list with something between two, which a token stands for
module _ {A : Type 0} (bytes : A → List ℕ) (tokens : A → List Lexeme) (Valid : A → Type 0)
    (item : (x : A) (rest : List ℕ) (ls : List Lexeme) → Valid x → Stops rest → Spelled rest ls → Spelled (bytes x ++ rest) (tokens x ++ ls))
    (sep : List ℕ) (l : Lexeme) (stops_first : (rest : List ℕ) → Stops (sep ++ rest)) (sep_then : (rest : List ℕ) (ls : List Lexeme) → Spelled rest ls → Spelled (sep ++ rest) (l ∷ ls)) where
  stops_behind : (xs : List A) (rest : List ℕ) → Stops rest → Stops (flat_map (λ y. sep ++ bytes y) xs ++ rest)
  stops_behind [] rest h = h
  stops_behind (x ∷ xs) rest h =
      let tail = flat_map (λ y. sep ++ bytes y) xs in
      subst Stops (sym (append_assoc (sep ++ bytes x) tail rest ∙ append_assoc sep (bytes x) (tail ++ rest))) (stops_first (bytes x ++ (tail ++ rest)))

  behind_then : (xs : List A) (rest : List ℕ) (ls : List Lexeme) → AllByRecursion Valid xs → Stops rest → Spelled rest ls → Spelled (flat_map (λ y. sep ++ bytes y) xs ++ rest) (each_after l tokens xs ++ ls)
  behind_then [] rest ls valid stops more = more
  behind_then (x ∷ xs) rest ls valid stops more =
      let tail = flat_map (λ y. sep ++ bytes y) xs in
      let h = item x (tail ++ rest) (each_after l tokens xs ++ ls) valid.0 (stops_behind xs rest stops) (behind_then xs rest ls valid.1 stops more) in
      let text : sep ++ (bytes x ++ (tail ++ rest)) ≡ ((sep ++ bytes x) ++ tail) ++ rest = sym (append_assoc (sep ++ bytes x) tail rest ∙ append_assoc sep (bytes x) (tail ++ rest)) in
      let is : l ∷ (tokens x ++ (each_after l tokens xs ++ ls)) ≡ (l ∷ (tokens x ++ each_after l tokens xs)) ++ ls = ap (λ z. l ∷ z) (sym (append_assoc (tokens x) (each_after l tokens xs) ls)) in
      subst (λ z. Spelled z ((l ∷ (tokens x ++ each_after l tokens xs)) ++ ls)) text (subst (λ z. Spelled (sep ++ (bytes x ++ (tail ++ rest))) z) is (sep_then _ _ h))

  between_then : (xs : List A) (rest : List ℕ) (ls : List Lexeme) → AllByRecursion Valid xs → Stops rest → Spelled rest ls → Spelled (join_by bytes sep xs ++ rest) (between l tokens xs ++ ls)
  between_then [] rest ls valid stops more = more
  between_then (x ∷ xs) rest ls valid stops more =
      let tail = flat_map (λ y. sep ++ bytes y) xs in
      let h = item x (tail ++ rest) (each_after l tokens xs ++ ls) valid.0 (stops_behind xs rest stops) (behind_then xs rest ls valid.1 stops more) in
      subst (λ z. Spelled z ((tokens x ++ each_after l tokens xs) ++ ls)) (sym (append_assoc (bytes x) tail rest))
      (subst (λ z. Spelled (bytes x ++ (tail ++ rest)) z) (sym (append_assoc (tokens x) (each_after l tokens xs) ls)) h)

module _ {A : Type 0} (bytes : A → List ℕ) (tokens : A → List Lexeme) (Valid : A → Type 0)
    (item : (x : A) (rest : List ℕ) (ls : List Lexeme) → Valid x → Stops rest → Spelled rest ls → Spelled (bytes x ++ rest) (tokens x ++ ls)) where
  -- with a comma and a space between two
  pub list_then : (xs : List A) (rest : List ℕ) (ls : List Lexeme) → AllByRecursion Valid xs → Stops rest → Spelled rest ls → Spelled (join_by bytes (codes ", ") xs ++ rest) (listed_tokens tokens xs ++ ls)
  list_then xs rest ls valid stops more =
      between_then bytes tokens Valid item (codes ", ") (Mark s.Comma) (λ rest. refl) (λ rest ls more. comma_then (32 ∷ rest) ls (blank_then rest ls more)) xs rest ls valid stops more

  -- with the word `and` between two
  pub ands_then : (xs : List A) (rest : List ℕ) (ls : List Lexeme) → AllByRecursion Valid xs → Stops rest → Spelled rest ls → Spelled (join_by bytes (codes " and ") xs ++ rest) (anded_tokens tokens xs ++ ls)
  ands_then xs rest ls valid stops more = between_then bytes tokens Valid item (codes " and ") (Word (codes "and")) (λ rest. refl)
      (λ rest ls more. blank_then (codes "and " ++ rest) (Word (codes "and") ∷ ls) (word_then (codes "and") (32 ∷ rest) ls (word_is (codes "and") refl) (lit≤ tt) refl (blank_then rest ls more))) xs rest ls valid stops more
