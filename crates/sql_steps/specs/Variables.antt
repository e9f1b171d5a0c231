-- Lists of variables, each by the number of its least column.
use Rattle.std.specs.Prelude.{ℕ, Bool, not, ◌==◌, List, map, slice_index}
use Rattle.std.specs.List.{filter, list_any, list_all, range_with_len}
use Rattle.cqa_model.specs.declared.limits.TheConstants.{COLUMN_NUMBERS}
use Rattle.cqa_model.specs.declared.query.Query.{Query}
use Rattle.cqa_model.specs.Query.{atom_at, atom_key}
use Rattle.cqa_model.specs.Labels.{label}

-- a variable is in a list
abbrev pub has : List ℕ → ℕ → Bool
has vs v = list_any (λ u. u == v) vs

-- two lists have a variable in common
abbrev pub meets : List ℕ → List ℕ → Bool
meets us vs = list_any (λ u. has vs u) us

-- each of a list is in another
abbrev pub covers : List ℕ → List ℕ → Bool
covers vs us = list_all (λ u. has vs u) us

-- those of a list that are in another
abbrev pub within : List ℕ → List ℕ → List ℕ
within us vs = filter (λ u. has vs u) us

-- those of a list that aren't in another
abbrev pub without : List ℕ → List ℕ → List ℕ
without us vs = filter (λ u. not (has vs u)) us

-- the numbers below n
unfoldable pub all_below : ℕ → List ℕ
all_below n = range_with_len 0 n

-- a list in ascending order, each once
abbrev pub ascending : List ℕ → List ℕ
ascending vs = within (all_below COLUMN_NUMBERS) vs

-- the variables of F's columns
abbrev pub variables_of : Query → ℕ → List ℕ
variables_of q F = map (λ i. label q.conds (record { atom = F; col = i })) (range_with_len 0 (atom_at q F).width)

-- the variables of F's key
abbrev pub key_variables : Query → ℕ → List ℕ
key_variables q F = map (λ i. slice_index (variables_of q F) i) (atom_key q F)

-- the variables of the answer columns
abbrev pub answer_variables : Query → List ℕ
answer_variables q = map (λ c. slice_index (variables_of q c.atom) c.col) q.answer
