-- An input has one reply, and what is verified is true.
use Rattle.std.proofs.Common.{◌≡◌, ◌⊎◌, inl, inr, ℕ, ◌<◌, ◌≤◌, ◌^◌, List, [], ◌∷◌, map, Result, Ok, Err, IfOk, refl, sym, ap, ◌∙◌, subst, arith}
use Rattle.cqa_value.specs.declared.memory.NoMemory.{NoMemory}
use Rattle.cnf_form.specs.declared.formula.Lit.{Lit}
use Rattle.cnf_form.specs.declared.formula.Clause.{Clause}
use Rattle.cnf_form.specs.declared.formula.Cnf.{Cnf}
use Rattle.cnf_form.specs.declared.log.Step.{Step}
use Rattle.cnf_form.specs.declared.fault.FormatFault.{FormatFault}
use Rattle.cnf_form.specs.declared.fault.Part.{Part}
use Rattle.cnf_form.specs.declared.fault.Part.TheVariants as part
use Rattle.cnf_form.specs.Literals.{literals}
use Rattle.cnf_form.specs.Lines.{lines}
use Rattle.cnf_form.specs.Formulas.{after_lrat, formula_in}
use Rattle.cnf_form.specs.Logs.{Refutes}
use Rattle.cnf_form.specs.declared.header.TheConstants.{MOST_VARIABLES}
use Rattle.cnf_form.proofs.Sound.{refutation_sound}
use Rattle.cnf_form.proofs.RoundTrip as formulas
use Rattle.lrat_check.specs.declared.fault.LogFault.{LogFault}
use Rattle.lrat_check.specs.LogTexts.{log_of}
use Rattle.lrat_check.specs.Failing.{Refused}
use Rattle.lrat_check.specs.Writing.{log_bytes}
use Rattle.lrat_check.proofs.Exact.{not_both, one_first}
use Rattle.lrat_check.proofs.RoundTrip as logs
use Rattle.proof_check.specs.declared.reply.ProofReply.{ProofReply}
use Rattle.proof_check.specs.declared.reply.ProofReply.TheVariants.{Verified, BadText, BadLog}
use Rattle.proof_check.specs.Verdicts.{Checks, ChecksLog, HasFormula, IsFaulty, IsUnsatisfiable, OneReply, PrintedIsVerified, log_in}

same_ok : {A B : Type 0} (r : Result A B) (a b : A) → r ≡ Ok a → r ≡ Ok b → a ≡ b
same_ok r a b x y = (cc)

ok_not_err : {A B : Type 0} (r : Result A B) (a : A) (e : B) → r ≡ Ok a → r ≡ Err e → ⊥
ok_not_err r a e x y = (cc)

-- ---- a formula is known by its clauses

abbrev clauses_of : List (List Lit) → List Clause
clauses_of cs = map (λ c. record { lits = c }) cs

back : (a : List Clause) → clauses_of (literals a) ≡ a
back [] = refl
back (c ∷ a) = ap (λ l. c ∷ l) (back a)

same_formula : (bytes : List ℕ) (a b : Cnf) → HasFormula bytes a → HasFormula bytes b → a ≡ b
same_formula bytes a b x y =
    let same = same_ok (formula_in (lines bytes)) (a.vars, literals a.clauses) (b.vars, literals b.clauses) x y in
    let clauses : a.clauses ≡ b.clauses = sym (back a.clauses) ∙ ap (λ p. clauses_of p.1) same ∙ back b.clauses in
    λ i. record { vars = ap (λ p. p.0) same i; clauses = clauses i }

-- ---- one reply

-- the reply to a log over a formula is the reply to the bytes
pub as_read : (bytes : List ℕ) (cnf : Cnf) (log : Result (List Step) ℕ) → HasFormula bytes cnf → log_in bytes cnf.vars ≡ log → (reply : ProofReply) → ChecksLog cnf log reply → Checks bytes reply
as_read bytes cnf (Ok steps) formula is Verified h = (cnf, steps, record { formula = formula; log = is }, h)
as_read bytes cnf (Ok steps) formula is (BadText fault) h = absurd h
as_read bytes cnf (Ok steps) formula is (BadLog fault) h = (cnf, steps, record { formula = formula; log = is }, h)
as_read bytes cnf (Err line) formula is reply h = subst (λ r. Checks bytes r) (sym h) (cnf, formula, is)

by_part : (bytes : List ℕ) (cnf : Cnf) → HasFormula bytes cnf → (line : ℕ) (p : Part) → IsFaulty bytes p line → ChecksLog cnf (log_in bytes cnf.vars) (BadText (record { line = line; part = p }))
by_part bytes cnf formula line part.Formula h = absurd (ok_not_err (formula_in (lines bytes)) _ line formula h)
by_part bytes cnf formula line part.Log (a, f, e) =
    subst (λ log. ChecksLog cnf log (BadText (record { line = line; part = part.Log }))) (sym (subst (λ f. log_in bytes f.vars ≡ Err line) (same_formula bytes a cnf f formula) e)) refl

-- the reply to the bytes is the reply to their log over their formula
by_log : (bytes : List ℕ) (cnf : Cnf) → HasFormula bytes cnf → (reply : ProofReply) → Checks bytes reply → ChecksLog cnf (log_in bytes cnf.vars) reply
by_log bytes cnf formula Verified (a, steps, reads, done) =
    let same = same_formula bytes a cnf reads.formula formula in
    subst (λ log. ChecksLog cnf log Verified) (sym (subst (λ f. log_in bytes f.vars ≡ Ok steps) same reads.log)) (subst (λ f. Refutes f steps) same done)
by_log bytes cnf formula (BadText fault) h = by_part bytes cnf formula fault.line fault.part h
by_log bytes cnf formula (BadLog fault) (a, steps, reads, done) =
    let same = same_formula bytes a cnf reads.formula formula in
    subst (λ log. ChecksLog cnf log (BadLog fault)) (sym (subst (λ f. log_in bytes f.vars ≡ Ok steps) same reads.log)) (subst (λ f. Refused f steps fault) same done)

log_reply : (cnf : Cnf) (log : Result (List Step) ℕ) (a b : ProofReply) → ChecksLog cnf log a → ChecksLog cnf log b → a ≡ b
log_reply cnf (Ok steps) Verified Verified x y = refl
log_reply cnf (Ok steps) Verified (BadText fault) x y = absurd y
log_reply cnf (Ok steps) Verified (BadLog fault) x y = absurd (not_both cnf steps fault x y)
log_reply cnf (Ok steps) (BadText fault) b x y = absurd x
log_reply cnf (Ok steps) (BadLog fault) Verified x y = absurd (not_both cnf steps fault y x)
log_reply cnf (Ok steps) (BadLog fault) (BadText other) x y = absurd y
log_reply cnf (Ok steps) (BadLog fault) (BadLog other) x y = ap BadLog (one_first cnf steps fault other x y)
log_reply cnf (Err line) a b x y = x ∙ sym y

-- the formula that was read, or the line at fault in it
abbrev FormulaOr : List ℕ → ProofReply → Type 0
FormulaOr bytes reply = ((cnf : Cnf) × HasFormula bytes cnf) ⊎ ((line : ℕ) × (reply ≡ BadText (record { line = line; part = part.Formula })) × (formula_in (lines bytes) ≡ Err line))

fault_or : (bytes : List ℕ) (line : ℕ) (p : Part) → IsFaulty bytes p line → FormulaOr bytes (BadText (record { line = line; part = p }))
fault_or bytes line part.Formula h = inr (line, refl, h)
fault_or bytes line part.Log h = inl (h.0, h.1)

formula_or : (bytes : List ℕ) (reply : ProofReply) → Checks bytes reply → FormulaOr bytes reply
formula_or bytes Verified h = inl (h.0, h.2.formula)
formula_or bytes (BadText fault) h = fault_or bytes fault.line fault.part h
formula_or bytes (BadLog fault) h = inl (h.0, h.2.formula)

same_line : {A B : Type 0} (r : Result A B) (m n : B) → r ≡ Err m → r ≡ Err n → m ≡ n
same_line r m n x y = (cc)

pub one_reply : OneReply
one_reply bytes a b x y = elim (formula_or bytes a x) [
  | inl f ↦ log_reply f.0 (log_in bytes f.0.vars) a b (by_log bytes f.0 f.1 a x) (by_log bytes f.0 f.1 b y)
  | inr e ↦ elim (formula_or bytes b y) [
    | inl f ↦ absurd (ok_not_err (formula_in (lines bytes)) _ e.0 f.1 e.2)
    | inr d ↦ e.1 ∙ ap (λ line. BadText (record { line = line; part = part.Formula })) (same_line (formula_in (lines bytes)) e.0 d.0 e.2 d.2) ∙ sym d.1
  ]
]

-- the reply of a call that has read the formula
pub from_log : (bytes rest : List ℕ) (cnf : Cnf) → HasFormula bytes cnf → lines rest ≡ after_lrat (lines bytes) → (result : Result ProofReply NoMemory) → IfOk result (ChecksLog cnf (log_of cnf.vars 1 (lines rest))) → IfOk result (Checks bytes)
from_log bytes rest cnf formula same (Ok reply) h = as_read bytes cnf (log_in bytes cnf.vars) formula refl reply (subst (λ ls. ChecksLog cnf (log_of cnf.vars 1 ls) reply) same h)
from_log bytes rest cnf formula same (Err e) h = h

-- whatever the reply of the bytes is, this is it
pub only_reply : (bytes : List ℕ) (result : Result ProofReply NoMemory) → IfOk result (Checks bytes) → (reply : ProofReply) → Checks bytes reply → IfOk result (λ r. r ≡ reply)
only_reply bytes (Ok a) h reply c = one_reply bytes a reply h c
only_reply bytes (Err e) h reply c = h

text_not_verified : (fault : FormatFault) → BadText fault ≡ Verified → ⊥
text_not_verified fault is = (cc)

log_not_verified : (fault : LogFault) → BadLog fault ≡ Verified → ⊥
log_not_verified fault is = (cc)

verified_sound : (bytes : List ℕ) (reply : ProofReply) → Checks bytes reply → reply ≡ Verified → IsUnsatisfiable bytes
verified_sound bytes Verified (cnf, steps, reads, done) is other formula =
    refutation_sound other steps (subst (λ f. Refutes f steps) (same_formula bytes cnf other reads.formula formula) done)
verified_sound bytes (BadText fault) h is other formula = absurd (text_not_verified fault is)
verified_sound bytes (BadLog fault) h is other formula = absurd (log_not_verified fault is)

pub sound_reply : (bytes : List ℕ) (result : Result ProofReply NoMemory) → IfOk result (Checks bytes) → IfOk result (λ reply. reply ≡ Verified → IsUnsatisfiable bytes)
sound_reply bytes (Ok reply) h = verified_sound bytes reply h
sound_reply bytes (Err e) h = h

in_range : (n : ℕ) → n ≤ MOST_VARIABLES → n < 2 ^ 64
in_range n l = omega arith

pub printed_is_verified : PrintedIsVerified
printed_is_verified cnf steps w wl refutes =
    let s = formulas.says_written cnf (log_bytes steps) w in (
      cnf,
      steps,
      record {
        formula = s.0;
        log = ap (log_of cnf.vars 1) s.1 ∙ logs.says_written cnf.vars steps (log_bytes steps) (in_range cnf.vars w.vars) wl refl;
      },
      refutes,
    )
