-- Bytes as lines.
use Rattle.std.specs.Prelude.{◌≡◌, ℕ, List, [], ◌∷◌, ◌++◌}
use Rattle.std.specs.List.{AllByRecursion, flat_map}
use Rattle.cnf_form.specs.Lines.{line_of, lines}

-- no LF stands in it
abbrev pub IsLine : List ℕ → Type 0
IsLine l = line_of l ≡ l

-- a line with an LF (10) behind it
abbrev pub ended_line : List ℕ → List ℕ
ended_line l = l ++ 10 ∷ []

-- The bytes are these lines, an LF behind each, and a rest behind the last LF.
pub record AreCut (bytes : List ℕ) (done : List (List ℕ)) (rest : List ℕ) : Type 0 where
  pub bytes_are : bytes ≡ flat_map ended_line done ++ rest
  pub each : AllByRecursion IsLine done
  pub rest_is : IsLine rest

-- what stands behind the last LF is a line, unless it is empty
abbrev pub last_line : List ℕ → List (List ℕ)
last_line [] = []
last_line (b ∷ bs) = (b ∷ bs) ∷ []

-- The law: these are the lines of the text.
abbrev pub CutsAreLines : Type 0
CutsAreLines = (bytes : List ℕ) (done : List (List ℕ)) (rest : List ℕ) → AreCut bytes done rest → lines bytes ≡ done ++ last_line rest
