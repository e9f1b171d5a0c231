-- What a grammar is, and the lists of tokens that it generates.
use Rattle.std.specs.Prelude.{◌≡◌, ◌⊎◌, ℕ, Bool, true, false, not, nat_eq, List, [], ◌∷◌, ◌++◌, codes}
use Rattle.std.specs.List.{AllByRecursion}
use Rattle.std.specs.Cmp.Lexicographic.{pointwise}
use Rattle.script_lex.specs.declared.kinds.Symbol.{Symbol}
use Rattle.script_lex.specs.declared.kinds.Symbol.TheVariants.{Open, Close, Comma, Dot, Eq, Ne, Lt, Le, Gt, Ge}
use Rattle.spj_syntax.specs.Lexemes.{Lexeme, Word, Number, Quoted, Mark}

infixr 40 ◌⨾◌
infixr 30 ◌∣◌
-- what one place of the grammar wants: a word, any name, an int, a text, a symbol
pub data Terminal : Type 0 where
  word : List ℕ → Terminal
  name : Terminal
  int : Terminal
  text : Terminal
  mark : Symbol → Terminal

-- the one word that is no name
abbrev pub primary : List ℕ
primary = codes "primary"

-- the place of a symbol in their list
abbrev pub code : Symbol → ℕ
code Open = 0
code Close = 1
code Comma = 2
code Dot = 3
code Eq = 4
code Ne = 5
code Lt = 6
code Le = 7
code Gt = 8
code Ge = 9

-- A name is any word but `primary`.
abbrev pub matches : Terminal → Lexeme → Bool
matches (word w) (Word v) = pointwise nat_eq w v
matches name (Word v) = not (pointwise nat_eq primary v)
matches int (Number z) = true
matches text (Quoted t) = true
matches (mark s) (Mark r) = nat_eq (code s) (code r)
matches _ _ = false

-- one token, one shape after another, one of two, any number of times, and nothing
pub data Shape : Type 0 where
  one : Terminal → Shape
  ◌⨾◌ : Shape → Shape → Shape
  ◌∣◌ : Shape → Shape → Shape
  many : Shape → Shape
  nothing : Shape

abbrev pub joined : List (List Lexeme) → List Lexeme
joined [] = []
joined (part ∷ parts) = part ++ joined parts

-- the language of a regular expression (Kleene, 1956)
abbrev pub Generates : Shape → List Lexeme → Type 0
Generates (one x) ls = (l : Lexeme) × (matches x l ≡ true) × (ls ≡ l ∷ [])
Generates (p ⨾ q) ls = (a b : List Lexeme) × Generates p a × Generates q b × (ls ≡ a ++ b)
Generates (p ∣ q) ls = Generates p ls ⊎ Generates q ls
Generates (many p) ls = (parts : List (List Lexeme)) × AllByRecursion (Generates p) parts × (ls ≡ joined parts)
Generates nothing ls = ls ≡ []

-- They begin what the shape generates.
abbrev pub BeginsShape : Shape → List Lexeme → Type 0
BeginsShape p front = (more : List Lexeme) × Generates p (front ++ more)

-- With the next token they begin nothing, or they end too early.
abbrev pub Stuck : Shape → List Lexeme → List Lexeme → Type 0
Stuck p front [] = ¬ Generates p front
Stuck p front (t ∷ rest) = ¬ BeginsShape p (front ++ t ∷ [])

-- The first fault stands before the rest: the tokens before it begin what the shape generates, and with it they begin nothing.
pub record FirstFault (p : Shape) (ls rest : List Lexeme) : Type 0 where
  pub front : List Lexeme
  pub split : ls ≡ front ++ rest
  pub begins : BeginsShape p front
  pub stuck : Stuck p front rest
