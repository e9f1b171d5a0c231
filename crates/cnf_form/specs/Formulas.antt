-- The text of a formula, and what it says (the DIMACS format of the second implementation challenge, 1993).
use Rattle.std.specs.Prelude.{◌≡◌, ℕ, zero, suc, ◌≤◌, Bool, true, false, cond, ◌==◌, ◌&&◌, ◌||◌, nat_eq, List, [], ◌∷◌, ◌++◌, ◌+◌, length, drop, map, Option, Some, None, Result, Ok, Err}
use Rattle.std.specs.Cmp.Lexicographic.{pointwise}
use Rattle.cqa_value.specs.declared.memory.Fail.{Fail}
use Rattle.cqa_value.specs.declared.memory.Fail.TheVariants.{NoMemory, Refused}
use Rattle.cnf_form.specs.declared.formula.Lit.{Lit}
use Rattle.cnf_form.specs.declared.formula.Cnf.{Cnf}
use Rattle.cnf_form.specs.declared.fault.FormatFault.{FormatFault}
use Rattle.cnf_form.specs.declared.fault.Part.TheVariants as part
use Rattle.cnf_form.specs.declared.header.TheConstants.{MOST_CLAUSES, MOST_VARIABLES}
use Rattle.cnf_form.specs.Literals.{literals, negated}
use Rattle.cnf_form.specs.Lines.{is_comment, is_nil, is_skipped, lines, tokens}
use Rattle.cnf_form.specs.Numbers.{signed_of, unsigned_of}

-- the line `lrat`, which a CR may follow
abbrev pub is_lrat : List ℕ → Bool
is_lrat l = pointwise nat_eq l (108 ∷ 114 ∷ 97 ∷ 116 ∷ []) || pointwise nat_eq l (108 ∷ 114 ∷ 97 ∷ 116 ∷ 13 ∷ [])

-- the number of the first `lrat` line, or of the line after the last
abbrev pub lrat_line : ℕ → List (List ℕ) → ℕ
lrat_line n [] = n
lrat_line n (l ∷ ls) = cond (is_lrat l) n (lrat_line (n + 1) ls)

abbrev pub has_lrat : List (List ℕ) → Bool
has_lrat [] = false
has_lrat (l ∷ ls) = is_lrat l || has_lrat ls

-- the lines after the first `lrat` line: the log
abbrev pub after_lrat : List (List ℕ) → List (List ℕ)
after_lrat [] = []
after_lrat (l ∷ ls) = cond (is_lrat l) ls (after_lrat ls)

-- a token, after the number of its line
abbrev pub Token : Type 0
Token = ℕ × List ℕ

abbrev pub tagged : ℕ → List (List ℕ) → List Token
tagged n ts = map (λ t. (n, t)) ts

-- the tokens of a line, unless it is a comment
abbrev pub content : ℕ → List ℕ → List Token
content n l = cond (is_comment l) [] (tagged n (tokens l))

-- the tokens of the lines before the `lrat` line, the first of which has the number n
abbrev pub body_tokens : ℕ → List (List ℕ) → List Token
body_tokens n [] = []
body_tokens n (l ∷ ls) = cond (is_lrat l) [] (content n l ++ body_tokens (n + 1) ls)

-- a number and those that follow it, or the line of the first fault
abbrev pub number_then : Bool × ℕ → Result (List (Bool × ℕ)) ℕ → Result (List (Bool × ℕ)) ℕ
number_then z (Ok zs) = Ok (z ∷ zs)
number_then z (Err n) = Err n

abbrev pub by_number : ℕ → Option (Bool × ℕ) → Result (List (Bool × ℕ)) ℕ → Result (List (Bool × ℕ)) ℕ → Result (List (Bool × ℕ)) ℕ
by_number n None after_zero after_other = Err n
by_number n (Some z) after_zero after_other = number_then z (cond (z.1 == 0) after_zero after_other)

-- The tokens are numbers up to the limit, so many of which are zero, and the last is one of these. Else the line of the
-- first token that is no such number or comes after the last zero; or `missing`, where zeros are missing.
abbrev pub numbers : ℕ → ℕ → ℕ → List Token → Result (List (Bool × ℕ)) ℕ
numbers limit missing zero [] = Ok []
numbers limit missing (suc m) [] = Err missing
numbers limit missing zero (t ∷ ts) = Err t.0
numbers limit missing (suc m) (t ∷ ts) = by_number t.0 (signed_of limit t.1) (numbers limit missing m ts) (numbers limit missing (suc m) ts)

-- a number other than zero is a literal, negative after a `-`
abbrev pub literal : Bool × ℕ → Lit
literal z = record { var = z.1; positive = negated z.0 }

-- the clauses of numbers, each ended by a zero, where some literals of the first are there already
abbrev pub clauses_after : List Lit → List (Bool × ℕ) → List (List Lit)
clauses_after partial [] = []
clauses_after partial (z ∷ zs) = cond (z.1 == 0) (partial ∷ clauses_after [] zs) (clauses_after (partial ++ literal z ∷ []) zs)

-- the same, where some clauses are there already
abbrev pub clauses_from : List (List Lit) → List Lit → Result (List (Bool × ℕ)) ℕ → Result (List (List Lit)) ℕ
clauses_from done partial (Ok zs) = Ok (done ++ clauses_after partial zs)
clauses_from done partial (Err n) = Err n

abbrev pub both : Option ℕ → Option ℕ → Option (ℕ × ℕ)
both None b = None
both (Some a) None = None
both (Some a) (Some b) = Some (a, b)

-- `p`, `cnf`, how many variables, and how many clauses
abbrev pub header_by : List ℕ → List ℕ → List ℕ → List ℕ → List ℕ → Option (ℕ × ℕ)
header_by p cnf v m rest =
    cond (pointwise nat_eq p (112 ∷ []) && pointwise nat_eq cnf (99 ∷ 110 ∷ 102 ∷ []) && is_nil rest) (both (unsigned_of MOST_VARIABLES v) (unsigned_of MOST_CLAUSES m)) None

-- the four tokens of a header, and no more
abbrev pub header : List (List ℕ) → Option (ℕ × ℕ)
header (p ∷ cnf ∷ v ∷ m ∷ []) = header_by p cnf v m []
header ts = None

-- how many variables, and the clauses; or the line of the first fault
abbrev pub Reading : Type 0
Reading = Result (ℕ × List (List Lit)) ℕ

abbrev pub with_vars : ℕ → Result (List (List Lit)) ℕ → Reading
with_vars v (Ok cs) = Ok (v, cs)
with_vars v (Err n) = Err n

abbrev pub by_header : ℕ → ℕ → Option (ℕ × ℕ) → List (List ℕ) → Reading
by_header missing n None ls = Err n
by_header missing n (Some h) ls = with_vars h.0 (clauses_from [] [] (numbers h.0 missing h.1 (body_tokens (n + 1) ls)))

-- The formula of lines, the first of which has the number n: the first that is not skipped is the header, and the
-- tokens of the others are the clauses.
abbrev pub formula_of : ℕ → ℕ → List (List ℕ) → Reading
formula_of missing n [] = Err missing
formula_of missing n (l ∷ ls) = cond (is_lrat l) (Err missing) (cond (is_skipped l) (formula_of missing (n + 1) ls) (by_header missing n (header (tokens l)) ls))

-- what no `lrat` line ends has its first fault there, unless it has one before
abbrev pub ended : {X : Type 0} → Bool → ℕ → Result X ℕ → Result X ℕ
ended true missing r = r
ended false missing (Ok x) = Err missing
ended false missing (Err n) = Err n

-- The formula of a text's lines, or the first faulty line. What is missing counts as missing at the `lrat` line, or at
-- the line after the last.
abbrev pub formula_in : List (List ℕ) → Reading
formula_in ls = ended (has_lrat ls) (lrat_line 1 ls) (formula_of (lrat_line 1 ls) 1 ls)

-- The formula, and the place from which the lines after the `lrat` line stand; or the first faulty line.
abbrev pub FormulaIs : List ℕ → Result (Cnf × ℕ) (Fail FormatFault) → Type 0
FormulaIs bytes (Ok r) =
    (formula_in (lines bytes) ≡ Ok (r.0.vars, literals r.0.clauses)) × (lines (drop r.1 bytes) ≡ after_lrat (lines bytes)) × (r.1 ≤ length bytes)
FormulaIs bytes (Err (Refused fault)) = (formula_in (lines bytes) ≡ Err fault.line) × (fault.part ≡ part.Formula)
FormulaIs bytes (Err NoMemory) = Unit {0}
