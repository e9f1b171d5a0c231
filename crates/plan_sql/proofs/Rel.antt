-- What the steps of a query have, one step at a time.
use Rattle.std.proofs.Common.{◌≡◌, ℕ, suc, ◌<◌, ◌≤◌, ◌+◌, inl, inr, List, [], ◌∷◌, ◌++◌, length, ap, sym, ◌∙◌, subst, arith}
use Rattle.std.proofs.lemmas.List.{length_push}
use Rattle.cqa_value.specs.declared.value.Value.{Value}
use Rattle.sql_text.specs.declared.syntax.Step.{Step}
use Rattle.sql_text.specs.Meaning.{Gives, with_step, StepHas}

module _ (tables : ℕ → List (List Value)) where
  has-append : (before : ℕ → List Value → Type 0) (n : ℕ) (ss ts : List Step) →
      StepHas tables before n (ss ++ ts) ≡ StepHas tables (StepHas tables before n ss) (n + length ss) ts
  has-append before n [] ts = ap (λ z. StepHas tables before z ts) (omega arith)
  has-append before n (s ∷ ss) ts =
      has-append (with_step before n (Gives tables before s.body)) (suc n) ss ts
      ∙ ap (λ z. StepHas tables (StepHas tables (with_step before n (Gives tables before s.body)) (suc n) ss) z ts) (omega arith)

  -- what these steps have
  abbrev pub Rel : List Step → ℕ → List Value → Type 0
  Rel ss = StepHas tables (λ m x. ⊥) 0 ss

  pushed : (ss : List Step) (s : Step) → Rel (ss ++ s ∷ []) ≡ with_step (Rel ss) (length ss) (Gives tables (Rel ss) s.body)
  pushed ss s = has-append (λ m x. ⊥) 0 ss (s ∷ []) ∙ ap (λ z. with_step (Rel ss) z (Gives tables (Rel ss) s.body)) (omega arith)

  pub new-into : (ss : List Step) (s : Step) (m : ℕ) (row : List Value) → m ≡ length ss → Gives tables (Rel ss) s.body row → Rel (ss ++ s ∷ []) m row
  new-into ss s m row e g = subst (λ R. R m row) (sym (pushed ss s)) (inl (e, g))

  pub new-from : (ss : List Step) (s : Step) (m : ℕ) (row : List Value) → m ≡ length ss → Rel (ss ++ s ∷ []) m row → Gives tables (Rel ss) s.body row
  new-from ss s m row e h = elim (subst (λ R. R m row) (pushed ss s) h) [ inl p ↦ p.1 | inr p ↦ absurd (p.0 e) ]

  pub old-into : (ss : List Step) (s : Step) (m : ℕ) (row : List Value) → m < length ss → Rel ss m row → Rel (ss ++ s ∷ []) m row
  old-into ss s m row l h = subst (λ R. R m row) (sym (pushed ss s)) (inr ((λ e. let f : m ≡ length ss = e in omega arith), h))

  pub old-from : (ss : List Step) (s : Step) (m : ℕ) (row : List Value) → m < length ss → Rel (ss ++ s ∷ []) m row → Rel ss m row
  old-from ss s m row l h = elim (subst (λ R. R m row) (pushed ss s) h) [ inl p ↦ absurd (let e : m ≡ length ss = p.0 in omega arith) | inr p ↦ p.1 ]

  -- later steps leave the earlier ones as they are
  pub record Stays (ss ts : List Step) : Type 0 where
    pub longer : length ss ≤ length ts
    pub into : (m : ℕ) → m < length ss → (row : List Value) → Rel ss m row → Rel ts m row
    pub back : (m : ℕ) → m < length ss → (row : List Value) → Rel ts m row → Rel ss m row

  pub stays-self : (ss : List Step) → Stays ss ss
  stays-self ss = record { longer = omega arith; into = λ m l row h. h; back = λ m l row h. h }

  pub stays-push : (ss ts : List Step) (s : Step) → Stays ss ts → Stays ss (ts ++ s ∷ [])
  stays-push ss ts s h = record {
    longer = omega (arith, h.longer, length_push ts s);
    into = λ m l row r. old-into ts s m row (omega (arith, h.longer, l)) (h.into m l row r);
    back = λ m l row r. h.back m l row (old-from ts s m row (omega (arith, h.longer, l)) r);
  }

  pub stays-trans : (ss ts us : List Step) → Stays ss ts → Stays ts us → Stays ss us
  stays-trans ss ts us a b = record {
    longer = omega (arith, a.longer, b.longer);
    into = λ m l row r. b.into m (omega (arith, a.longer, l)) row (a.into m l row r);
    back = λ m l row r. a.back m l row (b.back m (omega (arith, a.longer, l)) row r);
  }
