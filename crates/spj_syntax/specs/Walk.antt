-- Reading a shape from left to right with one token ahead.
use Rattle.std.specs.Prelude.{◌≡◌, Bool, true, false, ◌&&◌, ◌||◌, List, [], ◌∷◌, ◌++◌, Option, Some, None}
use Rattle.spj_syntax.specs.Lexemes.{Lexeme}
use Rattle.spj_syntax.specs.Shapes.{matches, Shape, one, ◌⨾◌, ◌∣◌, many, nothing}

abbrev pub nullable : Shape → Bool
nullable (one x) = false
nullable (p ⨾ q) = nullable p && nullable q
nullable (p ∣ q) = nullable p || nullable q
nullable (many p) = true
nullable nothing = true

abbrev pub followed_by : Option (List Shape) → List Shape → Option (List Shape)
followed_by None k = None
followed_by (Some l) k = Some (l ++ k)

abbrev pub or_else : Option (List Shape) → Option (List Shape) → Option (List Shape)
or_else None o = o
or_else (Some l) o = Some l

abbrev pub only_if : Bool → Option (List Shape) → Option (List Shape)
only_if true o = o
only_if false o = None

-- what is still wanted after a first token, if the shape may begin with it: the shape's derivative (Brzozowski, 1964)
abbrev pub after : Shape → Lexeme → Option (List Shape)
after (one x) t = only_if (matches x t) (Some [])
after (p ⨾ q) t = or_else (followed_by (after p t) (q ∷ [])) (only_if (nullable p) (after q t))
after (p ∣ q) t = or_else (after p t) (after q t)
after (many p) t = followed_by (after p t) (many p ∷ [])
after nothing t = None

abbrev pub after_all : List Shape → Lexeme → Option (List Shape)
after_all [] t = None
after_all (p ∷ k) t = or_else (followed_by (after p t) k) (only_if (nullable p) (after_all k t))

abbrev pub nullable_all : List Shape → Bool
nullable_all [] = true
nullable_all (p ∷ k) = nullable p && nullable_all k

-- Read to its end, with what is left; or stopped before what is left.
pub data Outcome : Type 0 where
  Past : List Lexeme → Outcome
  Stopped : List Lexeme → Outcome

abbrev pub ended : Bool → List Lexeme → Outcome
ended true rest = Past rest
ended false rest = Stopped rest

abbrev pub next : Option (List Shape) → (List Shape → Outcome) → Outcome → Outcome
next None f o = o
next (Some l) f o = f l

unfoldable pub walk : List Shape → List Lexeme → Outcome
walk k [] = ended (nullable_all k) []
walk k (t ∷ ts) = next (after_all k t) (λ l. walk l ts) (ended (nullable_all k) (t ∷ ts))

-- on with what is left
abbrev pub on : Outcome → (List Lexeme → Outcome) → Outcome
on (Past rest) f = f rest
on (Stopped rest) f = Stopped rest

unfoldable pub read : Shape → List Lexeme → Outcome
read p ts = walk (p ∷ []) ts

abbrev pub has : Option (List Shape) → Bool
has None = false
has (Some l) = true

-- whether a shape may begin with a token
abbrev pub starts : Shape → Lexeme → Bool
starts p t = has (after p t)

abbrev pub opens : Shape → List Lexeme → Bool
opens p [] = false
opens p (t ∷ ts) = starts p t

-- whether the shape may begin with the first token
pub record Opens (b : Bool) (p : Shape) (s : List Lexeme) : Type 0 where
  pub is : b ≡ opens p s
