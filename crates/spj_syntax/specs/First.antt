-- Whether one token ahead decides each step (Lewis and Stearns, 1968).
use Rattle.std.specs.Prelude.{Bool, true, false, not, ◌&&◌, ◌||◌, nat_eq, List, [], ◌∷◌, ◌++◌}
use Rattle.std.specs.Cmp.Lexicographic.{pointwise}
use Rattle.spj_syntax.specs.Shapes.{Terminal, word, name, int, text, mark, primary, code, Shape, one, ◌⨾◌, ◌∣◌, many, nothing}
use Rattle.spj_syntax.specs.Walk.{nullable}

abbrev pub only : Bool → List Terminal → List Terminal
only true xs = xs
only false xs = []

-- with what a shape may begin
abbrev pub first : Shape → List Terminal
first (one x) = x ∷ []
first (p ⨾ q) = first p ++ only (nullable p) (first q)
first (p ∣ q) = first p ++ first q
first (many p) = first p
first nothing = []

-- what may go on a shape that is whole
abbrev pub ends : Shape → List Terminal
ends (one x) = []
ends (p ⨾ q) = ends q ++ only (nullable q) (ends p)
ends (p ∣ q) = (ends p ++ ends q) ++ only (nullable p || nullable q) (first p ++ first q)
ends (many p) = ends p ++ first p
ends nothing = []

-- no token matches both
abbrev pub differ : Terminal → Terminal → Bool
differ (word w) (word v) = not (pointwise nat_eq w v)
differ (word w) name = pointwise nat_eq primary w
differ name (word w) = pointwise nat_eq primary w
differ name name = false
differ int int = false
differ text text = false
differ (mark s) (mark r) = not (nat_eq (code s) (code r))
differ _ _ = true

abbrev pub differs_from_all : Terminal → List Terminal → Bool
differs_from_all x [] = true
differs_from_all x (y ∷ ys) = differ x y && differs_from_all x ys

abbrev pub apart : List Terminal → List Terminal → Bool
apart [] ys = true
apart (x ∷ xs) ys = differs_from_all x ys && apart xs ys

abbrev pub decided : Shape → Bool
decided (one x) = true
decided (p ⨾ q) = (decided p && decided q) && apart (ends p) (first q)
decided (p ∣ q) = (decided p && decided q) && apart (first p) (first q)
decided (many p) = (decided p && not (nullable p)) && apart (ends p) (first p)
decided nothing = true
