-- What is said of an input that is a formula, the line `lrat` and a log.
use Rattle.std.specs.Prelude.{◌≡◌, ℕ, Bool, true, false, List, ◌++◌, codes, Result, Ok, Err}
use Rattle.std.specs.Fmt.{decimal}
use Rattle.cnf_form.specs.declared.formula.Cnf.{Cnf}
use Rattle.cnf_form.specs.declared.log.Step.{Step}
use Rattle.cnf_form.specs.declared.fault.FormatFault.{FormatFault}
use Rattle.cnf_form.specs.declared.fault.Part.{Part}
use Rattle.cnf_form.specs.declared.fault.Part.TheVariants.{Formula, Log}
use Rattle.cnf_form.specs.Literals.{literals, SatisfiesAll}
use Rattle.cnf_form.specs.Lines.{lines}
use Rattle.cnf_form.specs.Formulas.{after_lrat, formula_in}
use Rattle.cnf_form.specs.Logs.{Refutes}
use Rattle.cnf_form.specs.Writing.{IsWritable, proof_bytes}
use Rattle.lrat_check.specs.declared.fault.LogFault.{LogFault}
use Rattle.lrat_check.specs.declared.fault.LogCause.{LogCause}
use Rattle.lrat_check.specs.declared.fault.LogCause.TheVariants.{UnknownId, IdNotRising, HintNotUnit, NoConflict, RatHint, NoEmptyClause}
use Rattle.lrat_check.specs.LogTexts.{log_of}
use Rattle.lrat_check.specs.Failing.{Refused}
use Rattle.lrat_check.specs.Writing.{IsWritableLog, log_bytes}
use Rattle.proof_check.specs.declared.reply.ProofReply.{ProofReply}
use Rattle.proof_check.specs.declared.reply.ProofReply.TheVariants.{Verified, BadText, BadLog}

-- ---- what is right

-- The formula's part of the bytes is this formula.
abbrev pub HasFormula : List ℕ → Cnf → Type 0
HasFormula bytes cnf = formula_in (lines bytes) ≡ Ok (cnf.vars, literals cnf.clauses)

-- what the lines after the `lrat` line are, over so many variables: steps, or the first line that breaks a rule
abbrev pub log_in : List ℕ → ℕ → Result (List Step) ℕ
log_in bytes vars = log_of vars 1 (after_lrat (lines bytes))

-- The bytes are this formula with this log.
pub record ReadsAs (bytes : List ℕ) (cnf : Cnf) (steps : List Step) : Type 0 where
  pub formula : HasFormula bytes cnf
  pub log : log_in bytes cnf.vars ≡ Ok steps

-- A line of this part is the first that breaks a rule; the log is read where the formula breaks none.
abbrev pub IsFaulty : List ℕ → Part → ℕ → Type 0
IsFaulty bytes Formula line = formula_in (lines bytes) ≡ Err line
IsFaulty bytes Log line = (cnf : Cnf) × HasFormula bytes cnf × (log_in bytes cnf.vars ≡ Err line)

-- the reply to an input
abbrev pub Checks : List ℕ → ProofReply → Type 0
Checks bytes Verified = (cnf : Cnf) × (steps : List Step) × ReadsAs bytes cnf steps × Refutes cnf steps
Checks bytes (BadText fault) = IsFaulty bytes fault.part fault.line
Checks bytes (BadLog fault) = (cnf : Cnf) × (steps : List Step) × ReadsAs bytes cnf steps × Refused cnf steps fault

-- no assignment satisfies the formula
abbrev pub IsUnsatisfiable : List ℕ → Type 0
IsUnsatisfiable bytes = (cnf : Cnf) → HasFormula bytes cnf → (v : ℕ → Bool) → SatisfiesAll v (literals cnf.clauses) → ⊥

-- the reply to a log over a formula
abbrev pub ChecksLog : Cnf → Result (List Step) ℕ → ProofReply → Type 0
ChecksLog cnf (Ok steps) Verified = Refutes cnf steps
ChecksLog cnf (Ok steps) (BadText fault) = ⊥
ChecksLog cnf (Ok steps) (BadLog fault) = Refused cnf steps fault
ChecksLog cnf (Err line) reply = reply ≡ BadText (record { line = line; part = Log })

-- The law: an input has at most one reply.
abbrev pub OneReply : Type 0
OneReply = (bytes : List ℕ) (a b : ProofReply) → Checks bytes a → Checks bytes b → a ≡ b

-- The law: what is written of a formula, the line `lrat` and a log of additions that refutes it is verified, where all
-- numbers are in the ranges of the formats.
abbrev pub PrintedIsVerified : Type 0
PrintedIsVerified =
    (cnf : Cnf) (steps : List Step) → IsWritable cnf → IsWritableLog cnf.vars steps → Refutes cnf steps → Checks (proof_bytes cnf (log_bytes steps)) Verified

-- ---- the line

-- the name of a fault in a part of the input
abbrev pub part_word : Part → List ℕ
part_word Formula = codes "BadFormula"
part_word Log = codes "BadLog"

-- the name of the cause that a step fails by
abbrev pub cause_word : LogCause → List ℕ
cause_word UnknownId = codes "UnknownId"
cause_word IdNotRising = codes "IdNotRising"
cause_word HintNotUnit = codes "HintNotUnit"
cause_word NoConflict = codes "NoConflict"
cause_word RatHint = codes "RatHint"
cause_word NoEmptyClause = codes "NoEmptyClause"

-- refused line L PART
abbrev pub text_line : FormatFault → List ℕ
text_line fault = codes "refused line " ++ (decimal fault.line ++ (codes " " ++ (part_word fault.part ++ codes "\n")))

-- refused step S CAUSE
abbrev pub log_line : LogFault → List ℕ
log_line fault = codes "refused step " ++ (decimal fault.step ++ (codes " " ++ (cause_word fault.cause ++ codes "\n")))

-- the line of a reply
abbrev pub line_of : ProofReply → List ℕ
line_of Verified = codes "verified\n"
line_of (BadText fault) = text_line fault
line_of (BadLog fault) = log_line fault

-- the log refutes the formula
abbrev pub is_verified : ProofReply → Bool
is_verified Verified = true
is_verified (BadText fault) = false
is_verified (BadLog fault) = false
