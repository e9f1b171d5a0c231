-- Parts of a step, and what was read before the rest.
use Rattle.std.specs.Prelude.{◌≡◌, ℕ, ℤ, List, [], ◌++◌, ◌⊎◌, Option, Some, None, option_map}
use Rattle.cnf_form.specs.declared.formula.Lit.{Lit}
use Rattle.cnf_form.specs.Lines.{line_of, tokens}
use Rattle.cnf_form.specs.Numbers.{unsigned_of}
use Rattle.cnf_form.specs.Scans.{IsNextToken}
use Rattle.lrat_check.specs.declared.reading.TheConstants.{GREATEST_ID}

abbrev pub after_ids : List ℕ → Option (List ℕ) → Option (List ℕ)
after_ids xs o = option_map (λ ys. xs ++ ys) o

abbrev pub after_lits : List Lit → Option (List Lit × List ℤ) → Option (List Lit × List ℤ)
after_lits xs o = option_map (λ p. (xs ++ p.0, p.1)) o

abbrev pub after_hints : List ℤ → Option (List ℤ) → Option (List ℤ)
after_hints xs o = option_map (λ ys. xs ++ ys) o

-- the next token is an id, or zero
abbrev pub IdIsNext : List ℕ → ℕ → List ℕ → Type 0
IdIsNext text n rest = (token : List ℕ) × IsNextToken text token rest × (unsigned_of GREATEST_ID token ≡ Some n)

-- the line has ended, or its next token is no id
abbrev pub NoIdNext : List ℕ → Type 0
NoIdNext text = (tokens (line_of text) ≡ []) ⊎ ((token rest : List ℕ) × IsNextToken text token rest × (unsigned_of GREATEST_ID token ≡ None))
