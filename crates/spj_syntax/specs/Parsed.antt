-- When tokens are a statement, and what is wrong where they aren't.
use Rattle.std.specs.Prelude.{◌≡◌, ◌≤◌, ◌≤ℤ◌, pos, ◌∷◌, ◌++◌, List, [], ℕ, ℤ, Bool, true, false, nat_eq, length, drop, map, IsTrue, codes}
use Rattle.std.specs.List.{AllByRecursion}
use Rattle.std.specs.Cmp.Lexicographic.{pointwise}
use Rattle.cqa_value.specs.Literals.{is_in_range}
use Rattle.script_lex.specs.declared.kinds.Token.{Token}
use Rattle.spj_syntax.specs.declared.fault.SyntaxFault.{SyntaxFault}
use Rattle.spj_syntax.specs.declared.fault.SyntaxFault.TheVariants.{At, OutOfRange, TextTooLong, LongName}
use Rattle.cqa_value.specs.declared.name.TheConstants.{LONGEST_TEXT_VALUE}
use Rattle.cqa_model.specs.declared.limits.TheConstants.{LONGEST_NAME}
use Rattle.spj_syntax.specs.Limits.{most_conflicts}
use Rattle.spj_syntax.specs.Lexemes.{Lexeme, Word, Number, Quoted, Mark, lexeme}
use Rattle.spj_syntax.specs.Shapes.{Shape, Generates, FirstFault}
use Rattle.spj_syntax.specs.Grammar.{statement}

-- what the tokens of a text stand for
abbrev pub lexemes : List ℕ → List Token → List Lexeme
lexemes text tokens = map (lexeme text) tokens

-- The grammar allows the tokens.
pub record IsStatement (ls : List Lexeme) : Type 0 where
  pub generated : Generates statement ls

-- where the first of these tokens stands, or the text's length
abbrev pub place_of : List ℕ → List Token → ℕ
place_of text [] = length text
place_of text (token ∷ tokens) = token.span.from

-- The first fault of a shape stands at an offset: the tokens before it begin what the shape generates, and with the token there they
-- begin nothing.
pub record IsFaultOf (p : Shape) (text : List ℕ) (tokens : List Token) (at : ℕ) : Type 0 where
  pub count : ℕ
  pub place : at ≡ place_of text (drop count tokens)
  pub first : FirstFault p (lexemes text tokens) (drop count (lexemes text tokens))

-- the first fault of syntax stands at an offset
abbrev pub IsSyntaxFault : List ℕ → List Token → ℕ → Type 0
IsSyntaxFault text tokens at = IsFaultOf statement text tokens at

-- whether the tokens begin with `set`
abbrev pub is_set : List Lexeme → Bool
is_set (Word w ∷ ls) = pointwise nat_eq (codes "set") w
is_set _ = false

-- The int of a `set` is a number of conflicts, any other is one of 64 bits.
abbrev pub IsIntInRange : Bool → ℤ → Type 0
IsIntInRange true z = (pos 0 ≤ℤ z) × (z ≤ℤ pos most_conflicts)
IsIntInRange false z = IsTrue (is_in_range z)

-- Neither a name nor a text is too long.
abbrev pub Fits : Bool → Lexeme → Type 0
Fits set (Word w) = length w ≤ LONGEST_NAME
Fits set (Number z) = IsIntInRange set z
Fits set (Quoted t) = length t ≤ LONGEST_TEXT_VALUE
Fits set (Mark s) = Unit {0}

-- All fit, where the tokens are no `set`.
abbrev pub PlainFit : List Lexeme → Type 0
PlainFit = AllByRecursion (Fits false)

abbrev pub AllLexemesFit : List Lexeme → Type 0
AllLexemesFit ls = AllByRecursion (Fits (is_set ls)) ls

-- what a token that doesn't fit is refused by
abbrev pub fault_of : Lexeme → ℕ → SyntaxFault
fault_of (Word w) at = LongName at
fault_of (Number z) at = OutOfRange at
fault_of (Quoted t) at = TextTooLong at
fault_of (Mark s) at = At at

-- the first token that doesn't fit
pub record IsFirstUnfit (set : Bool) (text : List ℕ) (tokens : List Token) (fault : SyntaxFault) : Type 0 where
  pub front : List Token
  pub token : Token
  pub rest : List Token
  pub split : tokens ≡ front ++ token ∷ rest
  pub fit : AllByRecursion (Fits set) (lexemes text front)
  pub unfit : ¬ Fits set (lexeme text token)
  pub fault_is : fault ≡ fault_of (lexeme text token) token.span.from

-- why the tokens of a text are refused: the first fault of syntax, else the first token that doesn't fit
abbrev pub RefusesTokens : List ℕ → List Token → SyntaxFault → Type 0
RefusesTokens text tokens (At at) = IsSyntaxFault text tokens at
RefusesTokens text tokens fault = IsStatement (lexemes text tokens) × IsFirstUnfit (is_set (lexemes text tokens)) text tokens fault

-- why the tokens of a text are refused as a form that is no statement: the first fault of its shape, else the first token that
-- doesn't fit
abbrev pub RefusesForm : Shape → List ℕ → List Token → SyntaxFault → Type 0
RefusesForm p text tokens (At at) = IsFaultOf p text tokens at
RefusesForm p text tokens fault = Generates p (lexemes text tokens) × IsFirstUnfit false text tokens fault
