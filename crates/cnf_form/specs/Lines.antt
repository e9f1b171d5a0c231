-- The lines of a text, and the tokens of a line.
use Rattle.std.specs.Prelude.{ℕ, Bool, true, false, cond, ◌==◌, ◌||◌, List, [], ◌∷◌}

-- a byte before the first part
abbrev pub front : ℕ → List (List ℕ) → List (List ℕ)
front b [] = (b ∷ []) ∷ []
front b (part ∷ parts) = (b ∷ part) ∷ parts

-- the parts that an LF (10) ends, and what follows the last LF, unless it is empty
abbrev pub lines : List ℕ → List (List ℕ)
lines [] = []
lines (b ∷ bs) = cond (b == 10) ([] ∷ lines bs) (front b (lines bs))

-- a space, a tab or a CR
abbrev pub is_blank : ℕ → Bool
is_blank b = b == 32 || b == 9 || b == 13

abbrev pub begins_blank : List ℕ → Bool
begins_blank [] = true
begins_blank (b ∷ bs) = is_blank b

-- the longest parts of a line without blanks
abbrev pub tokens : List ℕ → List (List ℕ)
tokens [] = []
tokens (b ∷ bs) = cond (is_blank b) (tokens bs) (cond (begins_blank bs) ((b ∷ []) ∷ tokens bs) (front b (tokens bs)))

-- a `c` (99) stands first
abbrev pub is_comment : List ℕ → Bool
is_comment [] = false
is_comment (b ∷ bs) = b == 99

abbrev pub is_nil : {X : Type 0} → List X → Bool
is_nil [] = true
is_nil (x ∷ xs) = false

-- comments and lines of blanks are skipped
abbrev pub is_skipped : List ℕ → Bool
is_skipped l = is_comment l || is_nil (tokens l)

-- the bytes up to the first LF, and those after it
abbrev pub line_of : List ℕ → List ℕ
line_of [] = []
line_of (b ∷ bs) = cond (b == 10) [] (b ∷ line_of bs)

abbrev pub after_line : List ℕ → List ℕ
after_line [] = []
after_line (b ∷ bs) = cond (b == 10) bs (after_line bs)

-- a token ends before a blank or an LF
abbrev pub ends_token : ℕ → Bool
ends_token b = is_blank b || b == 10

-- the bytes from the first that is no blank
abbrev pub after_blanks : List ℕ → List ℕ
after_blanks [] = []
after_blanks (b ∷ bs) = cond (is_blank b) (after_blanks bs) (b ∷ bs)

-- the bytes up to the first that ends a token, and those from it on
abbrev pub token_of : List ℕ → List ℕ
token_of [] = []
token_of (b ∷ bs) = cond (ends_token b) [] (b ∷ token_of bs)

abbrev pub after_token : List ℕ → List ℕ
after_token [] = []
after_token (b ∷ bs) = cond (ends_token b) (b ∷ bs) (after_token bs)
