-- What the parts of reading a formula come to.
use Rattle.std.specs.Prelude.{◌≡◌, ℕ, ◌≤◌, Bool, true, false, List, [], ◌++◌, ◌+◌, length, Result, Ok, Err}
use Rattle.cnf_form.specs.declared.formula.Lit.{Lit}
use Rattle.cnf_form.specs.declared.body.Body.{Body}
use Rattle.cnf_form.specs.declared.body.Read.{Read}
use Rattle.cnf_form.specs.declared.body.Read.TheVariants as read
use Rattle.cnf_form.specs.declared.header.Find.{Find}
use Rattle.cnf_form.specs.declared.header.Find.TheVariants as find
use Rattle.cnf_form.specs.Literals.{literals}
use Rattle.cnf_form.specs.Lines.{lines}
use Rattle.cnf_form.specs.Formulas.{Token, after_lrat, body_tokens, clauses_from, ended, formula_of, has_lrat, lrat_line, numbers, with_vars}

-- what the tokens that are left make of what was read so far
abbrev pub outcome : ℕ → ℕ → Body → List Token → Result (List (List Lit)) ℕ
outcome limit missing b ts = clauses_from (literals b.clauses.items) b.partial.items (numbers limit missing b.todo ts)

-- the outcome is that of what follows, or a fault in the line
abbrev pub Goes : Result (List (List Lit)) ℕ → ℕ → Result (List (List Lit)) ℕ → Bool → Type 0
Goes whole n rest true = whole ≡ rest
Goes whole n rest false = whole ≡ Err n

-- the text ends with the rest
abbrev pub IsEndOf : List ℕ → List ℕ → Type 0
IsEndOf rest text = (before : List ℕ) × (text ≡ before ++ rest)

-- What the lines make of a body: its clauses, and the text after the `lrat` line, or the first faulty line.
abbrev pub ReadIs : ℕ → Body → Body → ℕ → List ℕ → Read → Type 0
ReadIs vars old new n text (read.Done rest) =
    (outcome vars (lrat_line n (lines text)) old (body_tokens n (lines text)) ≡ Ok (literals new.clauses.items)) × (has_lrat (lines text) ≡ true)
    × (lines rest.now ≡ after_lrat (lines text)) × IsEndOf rest.now text
ReadIs vars old new n text (read.Bad line) =
    ended (has_lrat (lines text)) (lrat_line n (lines text)) (outcome vars (lrat_line n (lines text)) old (body_tokens n (lines text))) ≡ Err line

-- the lines before the rest are past, and the `lrat` line is none of them
pub record IsPast (first n : ℕ) (text rest : List ℕ) : Type 0 where
  pub line : lrat_line first (lines text) ≡ lrat_line n (lines rest)
  pub has : has_lrat (lines text) ≡ has_lrat (lines rest)
  pub after : after_lrat (lines text) ≡ after_lrat (lines rest)
  pub end : IsEndOf rest text
  pub small : n + length rest ≤ first + length text

-- A header, the text after its line, and the number of the next line; or the first faulty line.
abbrev pub FindIs : List ℕ → Find → Type 0
FindIs text (find.Found h rest n) =
    ((missing : ℕ) → formula_of missing 1 (lines text) ≡ with_vars h.vars (clauses_from (literals []) [] (numbers h.vars missing h.count (body_tokens n (lines rest.now)))))
    × IsPast 1 n text rest.now
FindIs text (find.Bad line) = formula_of (lrat_line 1 (lines text)) 1 (lines text) ≡ Err line
