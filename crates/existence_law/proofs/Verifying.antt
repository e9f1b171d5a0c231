-- Whether a log refutes a formula is decided, and so is whether a text is verified.
use Rattle.std.proofs.Common.{◌≡◌, ◌≢◌, ◌∙◌, ◌⊎◌, inl, inr, ℕ, ℤ, pos, negsuc, List, [], ◌∷◌, map, length, Contains, Option, Some, None, Result, Ok, Err, refl, sym, ap, subst}
use native.Mathlib.Decide.{dec_lt}
use Rattle.cqa_value.proofs.Words.{mem-head, mem-tail, mem-nil, mem-cases, dec_both}
use Rattle.cqa_model.proofs.Classic.{dec_or, dec_some}
use Rattle.cqa_model.proofs.Values.{dec_by}
use Rattle.cnf_form.specs.declared.formula.Lit.{Lit}
use Rattle.cnf_form.specs.declared.formula.Clause.{Clause}
use Rattle.cnf_form.specs.declared.formula.Cnf.{Cnf}
use Rattle.cnf_form.specs.declared.log.Step.{Step}
use Rattle.cnf_form.specs.declared.log.Step.TheVariants.{Add, Delete}
use Rattle.cnf_form.specs.Literals.{literals, opposite, AllDenied, Denied, IsUnit}
use Rattle.cnf_form.specs.Formulas.{formula_in}
use Rattle.cnf_form.specs.Lines.{lines}
use Rattle.cnf_form.specs.Logs.{Live, AdditionPasses, DeletionPasses, HintsPass, Refutes, StepPasses, StepsPass, added, live_after, numbered, top_after, without}
use Rattle.proof_check.specs.declared.reply.ProofReply.TheVariants.{Verified, BadText}
use Rattle.proof_check.specs.Verdicts.{Checks, HasFormula, log_in}
use Rattle.proof_check.proofs.Replies.{as_read, one_reply}
use Rattle.cnf_form.specs.declared.fault.Part.TheVariants.{Log}
use Rattle.existence_law.proofs.Closing.{dec_all_denied, dec_has, dec_others}

-- ---- logs

abbrev Follows : Live → List Lit → List ℤ → List Lit → Type 0
Follows live held hints c = AllDenied held c ⊎ ((l : Lit) × IsUnit held c l × HintsPass live (l ∷ held) hints)

dec_unit : (held c : List Lit) (l : Lit) → Contains c l → Dec (IsUnit held c l)
dec_unit held c l m = go (dec_has held (opposite l)) (dec_others held c l)
  where
    go : Dec (Denied held l) → Dec ((o : Lit) → Contains c o → o ≢ l → Denied held o) → Dec (IsUnit held c l)
    go (yes d) e = no (λ u. u.free d)
    go (no f) (no g) = no (λ u. g u.others)
    go (no f) (yes o) = yes (record { inside = m; free = f; others = o })

dec_follows : (live : Live) (held : List Lit) (hints : List ℤ) (c : List Lit) → ((l : Lit) → Dec (HintsPass live (l ∷ held) hints)) → Dec (Follows live held hints c)
dec_follows live held hints c next = dec_or (dec_all_denied held c) (dec_by (λ h. (h.0, h.2.0, h.2.1)) (λ h. (h.0, h.1.inside, (h.1, h.2))) (dec_some (λ l. IsUnit held c l × HintsPass live (l ∷ held) hints) each c))
  where
    each : (l : Lit) → Dec (IsUnit held c l × HintsPass live (l ∷ held) hints)
    each l = go (dec_has c l)
      where
        go : Dec (Contains c l) → Dec (IsUnit held c l × HintsPass live (l ∷ held) hints)
        go (yes m) = dec_both (dec_unit held c l m) (next l)
        go (no f) = no (λ p. f p.0.inside)

dec_named : (o : Option (List Lit)) (P : List Lit → Type 0) → ((c : List Lit) → Dec (P c)) → Dec ((c : List Lit) × (o ≡ Some c) × P c)
dec_named None P d = no (λ h. let e = h.1 in cc e)
dec_named (Some c) P d = dec_by (λ p. (c, refl, p)) (λ h. subst P (same h.0 h.1) h.2) (d c)
  where
    same : (b : List Lit) → Some c ≡ Some b → b ≡ c
    same b e = cc e

dec_hints : (live : Live) (held : List Lit) (hints : List ℤ) → Dec (HintsPass live held hints)
dec_hints live held [] = no (λ h. h)
dec_hints live held (negsuc n ∷ hints) = no (λ h. h)
dec_hints live held (pos id ∷ hints) = dec_named (live id) (Follows live held hints) (λ c. dec_follows live held hints c (λ l. dec_hints live (l ∷ held) hints))

dec_addition : (live : Live) (c : List Lit) (hints : List ℤ) → Dec (AdditionPasses live c hints)
dec_addition live c hints = dec_or (dec_some (λ l. Contains c (opposite l)) (λ l. dec_has c (opposite l)) c) (dec_hints live (map opposite c) hints)

dec_live : (o : Option (List Lit)) → Dec (o ≢ None)
dec_live None = no (λ f. f refl)
dec_live (Some c) = yes (λ e. cc e)

dec_deletion : (live : Live) (ids : List ℕ) → Dec (DeletionPasses live ids)
dec_deletion live [] = yes tt
dec_deletion live (id ∷ ids) = dec_both (dec_live (live id)) (dec_deletion (without live id) ids)

dec_step : (live : Live) (top : ℕ) (step : Step) → Dec (StepPasses live top step)
dec_step live top (Add id clause hints) = dec_both (dec_lt top id) (dec_addition live clause.lits hints)
dec_step live top (Delete ids) = dec_deletion live ids

dec_steps : (live : Live) (top : ℕ) (steps : List Step) → Dec (StepsPass live top steps)
dec_steps live top [] = yes tt
dec_steps live top (step ∷ steps) = dec_both (dec_step live top step) (dec_steps (live_after live step) (top_after top step) steps)

has_empty : (cs : List (List Lit)) → Dec (Contains cs [])
has_empty [] = no (λ m. mem-nil [] m)
has_empty ([] ∷ cs) = yes (mem-head [] cs)
has_empty ((l ∷ c) ∷ cs) = go (has_empty cs)
  where
    go : Dec (Contains cs []) → Dec (Contains ((l ∷ c) ∷ cs) [])
    go (yes m) = yes (mem-tail [] (l ∷ c) cs m)
    go (no f) = no (λ m. elim (mem-cases [] (l ∷ c) cs m) [ inl e ↦ cc e | inr k ↦ f k ])

dec_refutes : (cnf : Cnf) (steps : List Step) → Dec (Refutes cnf steps)
dec_refutes cnf steps = dec_both (dec_steps (numbered (literals cnf.clauses)) (length cnf.clauses) steps) (has_empty (added steps))

-- ---- texts

abbrev clauses_of : List (List Lit) → List Clause
clauses_of cs = map (λ c. record { lits = c }) cs

pub literals_back : (cs : List (List Lit)) → literals (clauses_of cs) ≡ cs
literals_back [] = refl
literals_back (c ∷ cs) = ap (λ (ds : List (List Lit)). c ∷ ds) (literals_back cs)

clauses_back : (a : List Clause) → clauses_of (literals a) ≡ a
clauses_back [] = refl
clauses_back (c ∷ a) = ap (λ (l : List Clause). c ∷ l) (clauses_back a)

one_ok : {A B : Type 0} (r : Result A B) (a b : A) → r ≡ Ok a → r ≡ Ok b → a ≡ b
one_ok r a b x y = (cc)

err_or_ok : {A B : Type 0} (r : Result A B) (a : A) (e : B) → r ≡ Err e → r ≡ Ok a → ⊥
err_or_ok r a e x y = (cc)

same_formula : (text : List ℕ) (p : ℕ × List (List Lit)) (b : Cnf) → formula_in (lines text) ≡ Ok p → HasFormula text b → b ≡ record { vars = p.0; clauses = clauses_of p.1 }
same_formula text p b x y =
    let same : p ≡ (b.vars, literals b.clauses) = one_ok (formula_in (lines text)) p (b.vars, literals b.clauses) x y in
    let clauses : b.clauses ≡ clauses_of p.1 = sym (clauses_back b.clauses) ∙ ap (λ (q : ℕ × List (List Lit)). clauses_of q.1) (sym same) in
    λ i. record { vars = ap (λ (q : ℕ × List (List Lit)). q.0) (sym same) i; clauses = clauses i }

pub dec_verified : (text : List ℕ) → Dec (Checks text Verified)
dec_verified text = by_formula (formula_in (lines text)) refl
  where
    by_log : (cnf : Cnf) → HasFormula text cnf → ((b : Cnf) → HasFormula text b → b ≡ cnf) → (log : Result (List Step) ℕ) → log_in text cnf.vars ≡ log → Dec (Checks text Verified)
    by_log cnf f only (Err line) e = no (λ h. let same = one_reply text Verified (BadText (record { line = line; part = Log })) h (as_read text cnf (Err line) f e (BadText (record { line = line; part = Log })) refl) in cc same)
    by_log cnf f only (Ok steps) e = dec_by (as_read text cnf (Ok steps) f e Verified) (λ h. refuted h.0 h.1 h.2.formula h.2.log h.3) (dec_refutes cnf steps)
      where
        refuted : (b : Cnf) (others : List Step) → HasFormula text b → log_in text b.vars ≡ Ok others → Refutes b others → Refutes cnf steps
        refuted b others g l r =
            let log : log_in text cnf.vars ≡ Ok others = subst (λ (a : Cnf). log_in text a.vars ≡ Ok others) (only b g) l in
            let same : others ≡ steps = one_ok (log_in text cnf.vars) others steps log e in
            subst (Refutes cnf) same (subst (λ (a : Cnf). Refutes a others) (only b g) r)

    by_formula : (read : Result (ℕ × List (List Lit)) ℕ) → formula_in (lines text) ≡ read → Dec (Checks text Verified)
    by_formula (Err line) e = no (λ h. err_or_ok (formula_in (lines text)) (h.0.vars, literals h.0.clauses) line e h.2.formula)
    by_formula (Ok p) e =
        let read : List (List Lit) → Result (ℕ × List (List Lit)) ℕ = λ cs. Ok (p.0, cs) in
        by_log (record { vars = p.0; clauses = clauses_of p.1 }) (e ∙ ap read (sym (literals_back p.1))) (λ b g. same_formula text p b e g) (log_in text p.0) refl
