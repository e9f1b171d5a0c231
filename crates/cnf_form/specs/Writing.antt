-- How a formula is written (DIMACS).
use Rattle.std.specs.Prelude.{◌≡◌, ℕ, ◌≤◌, cond, List, [], ◌∷◌, ◌++◌, length, drop, codes, Result, Ok, Err}
use Rattle.std.specs.Fmt.{decimal}
use Rattle.std.specs.List.{flat_map}
use Rattle.cnf_form.specs.declared.formula.Lit.{Lit}
use Rattle.cnf_form.specs.declared.formula.Clause.{Clause}
use Rattle.cnf_form.specs.declared.formula.Cnf.{Cnf}
use Rattle.cqa_value.specs.declared.memory.Fail.{Fail}
use Rattle.cqa_value.specs.declared.memory.Fail.TheVariants.{NoMemory, Refused}
use Rattle.cnf_form.specs.declared.fault.FormatFault.{FormatFault}
use Rattle.cnf_form.specs.declared.header.TheConstants.{MOST_CLAUSES, MOST_VARIABLES}
use Rattle.cnf_form.specs.Literals.{AreVarsInRange}
use Rattle.cnf_form.specs.Lines.{lines}

-- a variable's number, after a `-` (45) where the literal is negative, and a space (32)
abbrev pub lit_bytes : Lit → List ℕ
lit_bytes l = cond l.positive [] (45 ∷ []) ++ decimal l.var ++ 32 ∷ []

-- the literals of a clause, and `0` (48)
abbrev pub clause_bytes : List Lit → List ℕ
clause_bytes c = flat_map lit_bytes c ++ 48 ∷ []

abbrev pub clause_line : Clause → List ℕ
clause_line c = clause_bytes c.lits ++ 10 ∷ []

-- `p cnf`, how many variables, and how many clauses
abbrev pub header_line : Cnf → List ℕ
header_line cnf = codes "p cnf " ++ decimal cnf.vars ++ 32 ∷ decimal (length cnf.clauses)

-- the line of the header, and a line for each clause
abbrev pub formula_bytes : Cnf → List ℕ
formula_bytes cnf = header_line cnf ++ 10 ∷ flat_map clause_line cnf.clauses

-- What the text of a formula allows: its numbers are in range, and each literal's variable is from 1 to that of the variables.
pub record IsWritable (cnf : Cnf) : Type 0 where
  pub vars : cnf.vars ≤ MOST_VARIABLES
  pub clauses : length cnf.clauses ≤ MOST_CLAUSES
  pub literals : AreVarsInRange cnf

-- the text of a formula, the line `lrat`, and what follows
abbrev pub proof_bytes : Cnf → List ℕ → List ℕ
proof_bytes cnf log = formula_bytes cnf ++ (codes "lrat" ++ 10 ∷ log)

-- The answer is the formula with the place of the log's lines, unless memory runs out.
abbrev pub ReadsBack : Cnf → List ℕ → List ℕ → Result (Cnf × ℕ) (Fail FormatFault) → Type 0
ReadsBack cnf log bytes (Ok r) = (r.0 ≡ cnf) × (lines (drop r.1 bytes) ≡ lines log)
ReadsBack cnf log bytes (Err (Refused fault)) = ⊥
ReadsBack cnf log bytes (Err NoMemory) = Unit {0}
