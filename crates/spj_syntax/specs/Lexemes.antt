-- What a token stands for.
use Rattle.std.specs.Prelude.{List, [], ◌∷◌, ◌&&◌, ℕ, ℤ, nat_eq, if◌then◌else◌}
use Rattle.std.specs.List.{slice_range}
use Rattle.cqa_value.specs.Literals.{integer_of}
use Rattle.script_lex.specs.declared.kinds.Token.{Token}
use Rattle.script_lex.specs.declared.kinds.TokenKind.{TokenKind}
use Rattle.script_lex.specs.declared.kinds.TokenKind.TheVariants as kinds
use Rattle.script_lex.specs.declared.kinds.Symbol.{Symbol}
use Rattle.script_lex.specs.Tokens.{inside}

-- a word, a number, the value of a text, a symbol
pub data Lexeme : Type 0 where
  Word : List ℕ → Lexeme
  Number : ℤ → Lexeme
  Quoted : List ℕ → Lexeme
  Mark : Symbol → Lexeme

-- each two quotes side by side taken as one
abbrev pub undoubled : List ℕ → List ℕ
undoubled [] = []
undoubled (b ∷ []) = b ∷ []
undoubled (b ∷ c ∷ bytes) = (if nat_eq 39 b && nat_eq 39 c then 39 ∷ undoubled bytes else b ∷ undoubled (c ∷ bytes))

-- what bytes stand for as a token of a kind
abbrev pub of_kind : TokenKind → List ℕ → Lexeme
of_kind kinds.Word bytes = Word bytes
of_kind kinds.Int bytes = Number (integer_of bytes)
of_kind kinds.Text bytes = Quoted (undoubled (inside bytes))
of_kind (kinds.Sym s) bytes = Mark s

abbrev pub lexeme : List ℕ → Token → Lexeme
lexeme text token = of_kind token.kind (slice_range text token.span.from token.span.to)
