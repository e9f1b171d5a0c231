-- The text of a log, and what it says (LRAT: Cruz-Filipe and others, 2017).
use Rattle.std.specs.Prelude.{◌≡◌, ℕ, ◌-◌, ◌+◌, ℤ, pos, negsuc, Bool, true, false, cond, ◌==◌, nat_eq, List, [], ◌∷◌, ◌++◌, Option, Some, None, option_map, Result, Ok, Err}
use Rattle.std.specs.Cmp.Lexicographic.{pointwise}
use Rattle.cqa_value.specs.declared.memory.Fail.{Fail}
use Rattle.cqa_value.specs.declared.memory.Fail.TheVariants.{NoMemory, Refused}
use Rattle.cnf_form.specs.declared.formula.Lit.{Lit}
use Rattle.cnf_form.specs.declared.log.Log.{Log}
use Rattle.cnf_form.specs.declared.log.Step.{Step}
use Rattle.cnf_form.specs.declared.log.Step.TheVariants.{Add, Delete}
use Rattle.cnf_form.specs.declared.fault.FormatFault.{FormatFault}
use Rattle.cnf_form.specs.declared.fault.Part.TheVariants as part
use Rattle.lrat_check.specs.declared.reading.TheConstants.{GREATEST_ID}
use Rattle.cnf_form.specs.Lines.{is_skipped, lines, tokens}
use Rattle.cnf_form.specs.Numbers.{signed_of, unsigned_of}
use Rattle.cnf_form.specs.Formulas.{literal}

-- nothing follows
abbrev pub ended : {X : Type 0} → List (List ℕ) → Option (List X)
ended [] = Some []
ended (t ∷ ts) = None

abbrev pub by_id : Option ℕ → Option (List ℕ) → Option (List ℕ) → Option (List ℕ)
by_id None at_zero more = None
by_id (Some n) at_zero more = cond (n == 0) at_zero (option_map (λ ns. n ∷ ns) more)

-- ids, and a last zero
abbrev pub ids_of : List (List ℕ) → Option (List ℕ)
ids_of [] = None
ids_of (t ∷ ts) = by_id (unsigned_of GREATEST_ID t) (ended ts) (ids_of ts)

-- the number of a hint
abbrev pub hint_value : Bool × ℕ → ℤ
hint_value (false, n) = pos n
hint_value (true, n) = negsuc (n - 1)

abbrev pub by_hint : Option (Bool × ℕ) → Option (List ℤ) → Option (List ℤ) → Option (List ℤ)
by_hint None at_zero more = None
by_hint (Some z) at_zero more = cond (z.1 == 0) at_zero (option_map (λ hs. hint_value z ∷ hs) more)

-- hints, and a last zero
abbrev pub hints_of : List (List ℕ) → Option (List ℤ)
hints_of [] = None
hints_of (t ∷ ts) = by_hint (signed_of GREATEST_ID t) (ended ts) (hints_of ts)

abbrev pub by_lit : Option (Bool × ℕ) → Option (List ℤ) → Option (List Lit × List ℤ) → Option (List Lit × List ℤ)
by_lit None hints more = None
by_lit (Some z) hints more = cond (z.1 == 0) (option_map (λ hs. ([], hs)) hints) (option_map (λ p. (literal z ∷ p.0, p.1)) more)

-- literals, a zero, hints, and a last zero
abbrev pub addition_of : ℕ → List (List ℕ) → Option (List Lit × List ℤ)
addition_of vars [] = None
addition_of vars (t ∷ ts) = by_lit (signed_of vars t) (hints_of ts) (addition_of vars ts)

abbrev pub add_step : ℕ → List Lit × List ℤ → Step
add_step n p = Add n (record { lits = p.0 }) p.1

abbrev pub delete_step : List ℕ → Step
delete_step ids = Delete ids

-- What follows the first number of a step: `d` (100) and ids, or literals and hints.
abbrev pub step_after : ℕ → ℕ → List (List ℕ) → Option Step
step_after vars n [] = None
step_after vars n (t ∷ ts) = cond (pointwise nat_eq t (100 ∷ [])) (option_map delete_step (ids_of ts)) (option_map (add_step n) (addition_of vars (t ∷ ts)))

abbrev pub by_first : ℕ → Option ℕ → List (List ℕ) → Option Step
by_first vars None ts = None
by_first vars (Some n) ts = cond (n == 0) None (step_after vars n ts)

-- a first number from 1 to the greatest id, and what follows it
abbrev pub step_of : ℕ → List (List ℕ) → Option Step
step_of vars [] = None
step_of vars (t ∷ ts) = by_first vars (unsigned_of GREATEST_ID t) ts

abbrev pub one_step : Step → List Step
one_step s = s ∷ []

-- the step of a line, if it has one
abbrev pub said_steps : Option Step → List Step
said_steps None = []
said_steps (Some s) = one_step s

-- the step that a line is, or none where it is skipped
abbrev pub line_steps : ℕ → List ℕ → Option (List Step)
line_steps vars l = cond (is_skipped l) (Some []) (option_map one_step (step_of vars (tokens l)))

-- steps and those that follow them, or the first faulty line
abbrev pub then_steps : List Step → Result (List Step) ℕ → Result (List Step) ℕ
then_steps ss (Ok more) = Ok (ss ++ more)
then_steps ss (Err n) = Err n

abbrev pub by_line : ℕ → Option (List Step) → Result (List Step) ℕ → Result (List Step) ℕ
by_line n None more = Err n
by_line n (Some ss) more = then_steps ss more

-- the steps of lines, the first of which has the number n, or the first faulty line
abbrev pub log_of : ℕ → ℕ → List (List ℕ) → Result (List Step) ℕ
log_of vars n [] = Ok []
log_of vars n (l ∷ ls) = by_line n (line_steps vars l) (log_of vars (n + 1) ls)

-- The log over so many variables, or its first faulty line.
abbrev pub LogIs : ℕ → List ℕ → Result Log (Fail FormatFault) → Type 0
LogIs vars text (Ok log) = log_of vars 1 (lines text) ≡ Ok log.steps
LogIs vars text (Err (Refused fault)) = (log_of vars 1 (lines text) ≡ Err fault.line) × (fault.part ≡ part.Log)
LogIs vars text (Err NoMemory) = Unit {0}
