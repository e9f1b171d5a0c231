-- How tokens spell a text.
use Rattle.std.specs.Prelude.{◌≡◌, ◌⊎◌, ◌+◌, ◌-◌, ◌<◌, ◌≤◌, ℕ, true, List, [], ◌∷◌, ◌++◌, length, take, drop, slice_range, codes, IsUtf8}
use Rattle.std.specs.List.{AllByRecursion}
use Rattle.std.specs.Str.{IsValidUpTo}
use Rattle.cqa_value.specs.Literals.{doubled}
use Rattle.cqa_value.specs.declared.memory.Fail.{Fail}
use Rattle.cqa_value.specs.declared.memory.Fail.TheVariants.{NoMemory, Refused}
use Rattle.script_lex.specs.declared.lexer.TheConstants.{LONGEST_TEXT}
use Rattle.script_lex.specs.declared.kinds.Span.{Span}
use Rattle.script_lex.specs.declared.kinds.Symbol.{Symbol}
use Rattle.script_lex.specs.declared.kinds.Symbol.TheVariants.{Open, Close, Comma, Dot, Eq, Ne, Lt, Le, Gt, Ge}
use Rattle.script_lex.specs.declared.kinds.TokenKind.{TokenKind}
use Rattle.script_lex.specs.declared.kinds.TokenKind.TheVariants.{Word, Int, Text, Sym}
use Rattle.script_lex.specs.declared.kinds.Token.{Token}
use Rattle.script_lex.specs.declared.kinds.LexFault.{LexFault}
use Rattle.script_lex.specs.declared.kinds.LexFault.TheVariants.{TooLong, BadByte}
use Rattle.script_lex.specs.declared.pieces.PieceKind.{PieceKind}
use Rattle.script_lex.specs.declared.pieces.PieceKind.TheVariants.{Blank, Comment, Token as OfToken}
use Rattle.script_lex.specs.declared.pieces.Piece.{Piece}
use Rattle.script_lex.specs.Bytes.{quote, dash, is_blank, is_letter, is_digit, is_word_byte, is_not_line_feed, AllPass}

-- how each symbol is spelled
abbrev pub symbol_bytes : Symbol → List ℕ
symbol_bytes Open = codes "("
symbol_bytes Close = codes ")"
symbol_bytes Comma = codes ","
symbol_bytes Dot = codes "."
symbol_bytes Eq = codes "="
symbol_bytes Ne = codes "<>"
symbol_bytes Lt = codes "<"
symbol_bytes Le = codes "<="
symbol_bytes Gt = codes ">"
symbol_bytes Ge = codes ">="

-- one or more digits
abbrev pub IsNumber : List ℕ → Type 0
IsNumber [] = ⊥
IsNumber (b ∷ bs) = AllPass is_digit (b ∷ bs)

-- what follows the first quote of a text: its value with each quote doubled, and a quote
abbrev pub IsQuoted : List ℕ → Type 0
IsQuoted bytes = (value : List ℕ) × (bytes ≡ doubled value ++ quote ∷ [])

-- how each kind of token is spelled
abbrev pub IsToken : TokenKind → List ℕ → Type 0
IsToken Word [] = ⊥
IsToken Word (b ∷ bs) = (is_letter b ≡ true) × AllPass is_word_byte bs
IsToken Int [] = ⊥
IsToken Int (b ∷ bs) = ((b ≡ dash) × IsNumber bs) ⊎ IsNumber (b ∷ bs)
IsToken Text [] = ⊥
IsToken Text (b ∷ bs) = (b ≡ quote) × IsQuoted bs
IsToken (Sym s) bytes = bytes ≡ symbol_bytes s

-- a token, a blank, or two dashes and bytes that end no line
abbrev pub IsPiece : PieceKind → List ℕ → Type 0
IsPiece Blank [] = ⊥
IsPiece Blank (b ∷ bs) = (is_blank b ≡ true) × (bs ≡ [])
IsPiece Comment [] = ⊥
IsPiece Comment (a ∷ []) = ⊥
IsPiece Comment (a ∷ b ∷ bs) = (a ≡ dash) × (b ≡ dash) × AllPass is_not_line_feed bs
IsPiece (OfToken kind) bytes = IsToken kind bytes

-- Of the fronts of these bytes that are some piece, the longest is this one, of n bytes.
pub record IsLongest (kind : PieceKind) (n : ℕ) (bytes : List ℕ) : Type 0 where
  pub within : n ≤ length bytes
  pub piece : IsPiece kind (take n bytes)
  pub longest : (m : ℕ) (other : PieceKind) → n < m → m ≤ length bytes → IsPiece other (take m bytes) → ⊥

-- no front of these bytes is a piece
abbrev pub NoPiece : List ℕ → Type 0
NoPiece bytes = (m : ℕ) (other : PieceKind) → IsPiece other (take m bytes) → ⊥

-- From one offset to another the text is these pieces, each as long as it can be.
abbrev pub Splits : List ℕ → ℕ → List Piece → ℕ → Type 0
Splits text at [] end = at ≡ end
Splits text at (p ∷ ps) end = (p.span.from ≡ at) × (at < p.span.to) × IsLongest p.kind (p.span.to - at) (drop at text) × Splits text p.span.to ps end

-- what stands between the quotes of a text
abbrev pub inside : List ℕ → List ℕ
inside bytes = slice_range bytes 1 (length bytes - 1)

abbrev pub inside_of : List ℕ → Piece → List ℕ
inside_of text p = inside (slice_range text p.span.from p.span.to)

-- where it is a text, it is UTF-8 between its quotes
pub record IsClean (text : List ℕ) (p : Piece) : Type 0 where
  pub utf8 : p.kind ≡ OfToken Text → IsUtf8 (inside_of text p)

-- a text that isn't UTF-8: the offset is that of the first byte after the longest front of it that is
pub record IsUnclean (text : List ℕ) (p : Piece) (at : ℕ) : Type 0 where
  pub is_text : p.kind ≡ OfToken Text
  pub not_utf8 : IsUtf8 (inside_of text p) → ⊥
  pub count : ℕ
  pub valid : IsValidUpTo (inside_of text p) count
  pub place : at ≡ (p.span.from + 1) + count

-- the token that a piece is, if it is one
abbrev pub kept : PieceKind → Span → List Token
kept Blank span = []
kept Comment span = []
kept (OfToken kind) span = record { kind = kind; span = span } ∷ []

-- the tokens among the pieces
abbrev pub tokens_of : List Piece → List Token
tokens_of [] = []
tokens_of (p ∷ ps) = kept p.kind p.span ++ tokens_of ps

-- The tokens spell the text: with blanks and comments between them they are all of it, each as long as it can be.
pub record Spells (text : List ℕ) (tokens : List Token) : Type 0 where
  pub pieces : List Piece
  pub splits : Splits text 0 pieces (length text)
  pub clean : AllByRecursion (IsClean text) pieces
  pub tokens_are : tokens ≡ tokens_of pieces

-- the token is some bytes of the text
pub record LiesIn (text : List ℕ) (token : Token) : Type 0 where
  pub some : token.span.from < token.span.to
  pub within : token.span.to ≤ length text

-- its bytes are spelled as its kind
pub record IsSpelled (text : List ℕ) (token : Token) : Type 0 where
  pub spelled : IsToken token.kind (slice_range text token.span.from token.span.to)

-- from an offset on the tokens rise, and no two meet
abbrev pub Rise : ℕ → List Token → Type 0
Rise at [] = Unit {0}
Rise at (token ∷ tokens) = (at ≤ token.span.from) × Rise token.span.to tokens

-- no piece stands at the offset, or a text that isn't UTF-8
abbrev pub IsBadAt : List ℕ → ℕ → ℕ → Type 0
IsBadAt text end at = ((at ≡ end) × (end < length text) × NoPiece (drop end text)) ⊎ ((p : Piece) × Splits text end (p ∷ []) p.span.to × IsUnclean text p at)

-- Up to an offset the text is pieces, and there it goes wrong: the first bad byte.
pub record IsBadByte (text : List ℕ) (at : ℕ) : Type 0 where
  pub pieces : List Piece
  pub end : ℕ
  pub splits : Splits text 0 pieces end
  pub clean : AllByRecursion (IsClean text) pieces
  pub bad : IsBadAt text end at

-- the most bytes of a statement's text
abbrev pub longest_text : ℕ
longest_text = LONGEST_TEXT

-- why a text has no tokens
abbrev pub IsFault : List ℕ → LexFault → Type 0
IsFault text (TooLong size) = (size ≡ length text) × (longest_text < length text)
IsFault text (BadByte at) = (length text ≤ longest_text) × IsBadByte text at

-- a fault of the text, or want of memory, which is free
abbrev pub RefusesText : List ℕ → Fail LexFault → Type 0
RefusesText text NoMemory = Unit {0}
RefusesText text (Refused fault) = IsFault text fault
