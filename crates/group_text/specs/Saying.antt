-- What a line of the input says by itself.
use Rattle.std.specs.Prelude.{ℕ, Bool, false, cond, nat_eq, nat_lt, List, [], ◌∷◌, length, take, Result, Err}
use Rattle.std.specs.Cmp.Lexicographic.{pointwise}
use Rattle.cnf_form.specs.Lines.{is_comment, tokens}
use Rattle.group_text.specs.declared.fault.Fault.{Fault}
use Rattle.group_text.specs.declared.fault.Fault.TheVariants.{BadLine, LongLine}
use Rattle.group_text.specs.declared.limits.TheConstants.{LONGEST_LINE}
use Rattle.group_text.specs.Sizes.{sizes_of}

-- nothing; a group's first line, with its sizes or their first fault; a list, with its tokens; a group's end; or a fault of the line itself
pub data Said : Type 0 where
  Skipped : Said
  Begins : Result (List ℕ) Fault → Said
  Lists : List (List ℕ) → Said
  Ends : Said
  Faulty : Fault → Said

-- the token is this byte
abbrev pub is_word : ℕ → List ℕ → Bool
is_word b t = pointwise nat_eq t (b ∷ [])

-- nothing stands behind the end of a group
abbrev pub ends : List (List ℕ) → Said
ends [] = Ends
ends (t ∷ ts) = Faulty BadLine

-- what tokens say: `g` (103) and sizes, `l` (108) and rows, or `e` (101)
abbrev pub said_by : List (List ℕ) → Said
said_by [] = Skipped
said_by (t ∷ ts) = cond (is_word 103 t) (Begins (sizes_of ts)) (cond (is_word 108 t) (Lists ts) (cond (is_word 101 t) (ends ts) (Faulty BadLine)))

abbrev pub begins_group : List (List ℕ) → Bool
begins_group [] = false
begins_group (t ∷ ts) = is_word 103 t

-- what a line says that is too long, by its bytes within the limit: it begins a group where their first token is `g`
abbrev pub said_within : List ℕ → Said
said_within front = cond (begins_group (tokens front)) (Begins (Err LongLine)) (Faulty LongLine)

-- what a line says
abbrev pub said : List ℕ → Said
said l = cond (is_comment l) Skipped (cond (nat_lt LONGEST_LINE (length l)) (said_within (take LONGEST_LINE l)) (said_by (tokens l)))
