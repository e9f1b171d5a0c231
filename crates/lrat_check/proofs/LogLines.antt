-- The lines of a log, one by one.
use Rattle.std.proofs.Common.{◌≡◌, ◌≢◌, ℕ, ◌+◌, List, [], ◌∷◌, ◌++◌, arith, refl, sym, ◌∙◌, ap, subst, length, append_assoc, append-nil, Option, Some, None, Ok, Err}
use Rattle.std.specs.Prelude.{Result}
use Rattle.cqa_value.specs.declared.memory.Fail.{Fail}
use Rattle.cqa_value.specs.declared.memory.Fail.TheVariants.{Refused}
use Rattle.cnf_form.specs.declared.fault.FormatFault.{FormatFault}
use Rattle.cnf_form.specs.declared.fault.Part.TheVariants as part
use Rattle.cnf_form.specs.declared.formula.Cnf.{Cnf}
use Rattle.cnf_form.specs.declared.log.Step.{Step}
use Rattle.cnf_form.specs.Literals.{literals}
use Rattle.cnf_form.specs.Logs.{numbered}
use Rattle.cnf_form.specs.Lines.{after_line, line_of, lines}
use Rattle.cnf_form.proofs.ReadLines.{lines_cons}
use Rattle.lrat_check.specs.declared.fault.LogFault.{LogFault}
use Rattle.lrat_check.specs.Checked.{RunIs, TextChecked}
use Rattle.lrat_check.specs.LogTexts.{LogIs, by_line, line_steps, log_of, then_steps}

join : (xs ss : List Step) (r : Result (List Step) ℕ) → then_steps xs (then_steps ss r) ≡ then_steps (xs ++ ss) r
join xs ss (Ok ys) = ap (λ (r : List Step). Ok r) (sym (append_assoc xs ss ys))
join xs ss (Err n) = refl

at_line : (vars n : ℕ) (xs : List Step) (rest : List ℕ) (o : Option (List Step)) (all : Result (List Step) ℕ) → length rest ≢ 0 → line_steps vars (line_of rest) ≡ o
    → all ≡ then_steps xs (log_of vars n (lines rest)) → all ≡ then_steps xs (by_line n o (log_of vars (n + 1) (lines (after_line rest))))
at_line vars n xs rest o all h s a = a ∙ ap (λ (ls : List (List ℕ)). then_steps xs (log_of vars n ls)) (lines_cons rest h)
    ∙ ap (λ (p : Option (List Step)). then_steps xs (by_line n p (log_of vars (n + 1) (lines (after_line rest))))) s

pub log_more : (vars n : ℕ) (xs new ss : List Step) (rest after : List ℕ) (all : Result (List Step) ℕ) → length rest ≢ 0 → line_steps vars (line_of rest) ≡ Some ss → after ≡ after_line rest → new ≡ xs ++ ss
    → all ≡ then_steps xs (log_of vars n (lines rest)) → all ≡ then_steps new (log_of vars (n + 1) (lines after))
log_more vars n xs new ss rest after all h s e w a =
    at_line vars n xs rest (Some ss) all h s a ∙ join xs ss (log_of vars (n + 1) (lines (after_line rest)))
    ∙ ap (λ (ys : List Step). then_steps ys (log_of vars (n + 1) (lines (after_line rest)))) (sym w)
    ∙ ap (λ (t : List ℕ). then_steps new (log_of vars (n + 1) (lines t))) (sym e)

pub log_bad : (vars n : ℕ) (xs : List Step) (rest : List ℕ) (all : Result (List Step) ℕ) → length rest ≢ 0 → line_steps vars (line_of rest) ≡ None → all ≡ then_steps xs (log_of vars n (lines rest)) → all ≡ Err n
log_bad vars n xs rest all h s a = at_line vars n xs rest None all h s a

-- the fault of a line is what is read
pub line_bad : (vars n : ℕ) (xs : List Step) (rest bytes : List ℕ) (f : Fail FormatFault) → length rest ≢ 0 → line_steps vars (line_of rest) ≡ None
    → f ≡ Refused (record { line = n; part = part.Log }) → log_of vars 1 (lines bytes) ≡ then_steps xs (log_of vars n (lines rest)) → LogIs vars bytes (Err f)
line_bad vars n xs rest bytes f h s e a = subst (λ (g : Fail FormatFault). LogIs vars bytes (Err g)) (sym e) (log_bad vars n xs rest (log_of vars 1 (lines bytes)) h s a, refl)

-- and what is checked
pub line_checked : (cnf : Cnf) (said : Result (List Step) ℕ) (line : ℕ) (f : Fail FormatFault) → said ≡ Err line → f ≡ Refused (record { line = line; part = part.Log }) → TextChecked cnf said (Err f)
line_checked cnf said line f bad e = subst (λ (g : Fail FormatFault). TextChecked cnf said (Err g)) (sym e) (subst (λ (r : Result (List Step) ℕ). TextChecked cnf r (Err (Refused (record { line = line; part = part.Log })))) (sym bad) refl)

-- what a run over all steps comes to
pub run_checked : (cnf : Cnf) (steps : List Step) (said : Result (List Step) ℕ) (end : Option LogFault) → said ≡ Ok steps
    → RunIs (numbered (literals cnf.clauses)) (length cnf.clauses) steps end → TextChecked cnf said (Ok end)
run_checked cnf steps said None e r = subst (λ (s : Result (List Step) ℕ). TextChecked cnf s (Ok None)) (sym e) r
run_checked cnf steps said (Some fault) e r = subst (λ (s : Result (List Step) ℕ). TextChecked cnf s (Ok (Some fault))) (sym e) r

pub log_end : (vars n : ℕ) (xs : List Step) (rest : List ℕ) (all : Result (List Step) ℕ) → length rest ≡ 0 → all ≡ then_steps xs (log_of vars n (lines rest)) → all ≡ Ok xs
log_end vars n xs [] all e a = a ∙ ap (λ (r : List Step). Ok r) (append-nil xs)
log_end vars n xs (b ∷ bs) all e a = absurd (omega (arith, e))

pub log_start : (r : Result (List Step) ℕ) → r ≡ then_steps [] r
log_start (Ok ss) = refl
log_start (Err n) = refl
