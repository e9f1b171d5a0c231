-- Links, fits and plans are decided.
use Rattle.std.proofs.Common.{◌≡◌, ℕ, ◌<◌, ◌⊎◌, inl, inr, List, [], ◌∷◌, length, get_or, ap, sym, subst, Contains}
use native.Mathlib.Decide.{ℕ_discrete}
use Rattle.cqa_model.specs.declared.query.Op.{Op}
use Rattle.cqa_model.specs.declared.query.Cond.{Cond}
use Rattle.cqa_model.specs.declared.query.Cond.TheVariants.{Join, Test}
use Rattle.cqa_model.specs.declared.query.ColRef.{ColRef}
use Rattle.cqa_model.specs.declared.query.Query.{Query}
use Rattle.cqa_value.specs.declared.value.Value.{Value}
use Rattle.cqa_model.specs.Query.{atom_at, atom_key, rows_of}
use Rattle.cqa_model.specs.Repairs.{SharesKey}
use Rattle.cqa_model.specs.Database.{nothing}
use Rattle.cqa_model.specs.Variables.{IsChain, IsLinked, AreLinked}
use Rattle.cqa_model.specs.Plan.{Placed, TestHolds, Fits, PlanHolds}
use Rattle.cqa_model.proofs.Classic.{mem-head, mem-tail, mem-nil, mem-cases, dec_both, dec_three, dec_or, dec_if, dec_below, dec_each, dec_some}
use Rattle.cqa_model.proofs.Values.{dec_by, dec_op, value_discrete}
use Rattle.cqa_model.proofs.Links
use Rattle.cqa_model.proofs.Repairs.{dec_shares}

pub column_eq : (c d : ColRef) → c.atom ≡ d.atom → c.col ≡ d.col → c ≡ d
column_eq c d p r = λ i. record { atom = p i; col = r i }

dec_column : (c d : ColRef) → Dec (c ≡ d)
dec_column c d = dec_by (λ p. column_eq c d p.0 p.1) (λ e. (ap (λ z. z.atom) e, ap (λ z. z.col) e)) (dec_both (ℕ_discrete c.atom d.atom) (ℕ_discrete c.col d.col))

module _ (k : Cond) (ks : List Cond) where
  chain-more : (c d : ColRef) (es : List ColRef) → IsChain ks c es d → IsChain (k ∷ ks) c es d
  chain-more c d [] p = p
  chain-more c d (e ∷ es) p = (elim p.0 [ inl m ↦ inl (mem-tail (Join c e) k ks m) | inr m ↦ inr (mem-tail (Join e c) k ks m) ], chain-more e d es p.1)

  pub linked-more : (c d : ColRef) → IsLinked ks c d → IsLinked (k ∷ ks) c d
  linked-more c d l = (l.0, chain-more c d l.0 l.1)

module _ (a b : ColRef) (op : Op) (x : Value) (ks : List Cond) where
  pub chain-test : (c d : ColRef) (es : List ColRef) → IsChain (Test a op x ∷ ks) c es d → IsChain ks c es d
  chain-test c d [] p = p
  chain-test c d (e ∷ es) p = (
    elim p.0 [
      | inl m ↦ elim (mem-cases (Join c e) (Test a op x) ks m) [ inl f ↦ absurd (cc (f)) | inr n ↦ inl n ]
      | inr m ↦ elim (mem-cases (Join e c) (Test a op x) ks m) [ inl f ↦ absurd (cc (f)) | inr n ↦ inr n ]
    ],
    chain-test e d es p.1,
  )

-- with the join of a and b among the conditions
abbrev pub IsThrough : List Cond → ColRef → ColRef → ColRef → ColRef → Type 0
IsThrough ks a b c d = IsLinked ks c d ⊎ ((IsLinked ks c a × IsLinked ks b d) ⊎ (IsLinked ks c b × IsLinked ks a d))

module _ (a b : ColRef) (ks : List Cond) where
  pub through-step : (c e d : ColRef) → IsLinked ks c e → IsThrough ks a b e d → IsThrough ks a b c d
  through-step c e d l (inl m) = inl (Links.trans ks c e d l m)
  through-step c e d l (inr (inl m)) = inr (inl (Links.trans ks c e a l m.0, m.1))
  through-step c e d l (inr (inr m)) = inr (inr (Links.trans ks c e b l m.0, m.1))

  through-ab : (d : ColRef) → IsThrough ks a b b d → IsThrough ks a b a d
  through-ab d (inl m) = inr (inl (Links.self ks a, m))
  through-ab d (inr (inl m)) = inr (inl (Links.self ks a, m.1))
  through-ab d (inr (inr m)) = inl m.1

  through-ba : (d : ColRef) → IsThrough ks a b a d → IsThrough ks a b b d
  through-ba d (inl m) = inr (inr (Links.self ks b, m))
  through-ba d (inr (inl m)) = inl m.1
  through-ba d (inr (inr m)) = inr (inr (Links.self ks b, m.1))

  joined-cases : (c e : ColRef) → Contains (Join a b ∷ ks) (Join c e) → ((a ≡ c) × (b ≡ e)) ⊎ Contains ks (Join c e)
  joined-cases c e m = elim (mem-cases (Join c e) (Join a b) ks m) [ inl f ↦ inl (cc (f), cc (f)) | inr n ↦ inr n ]

  pub through-chain : (c d : ColRef) (es : List ColRef) → IsChain (Join a b ∷ ks) c es d → IsThrough ks a b c d
  through-chain c d [] p = inl ([], p)
  through-chain c d (e ∷ es) p = elim p.0 [
    | inl m ↦ elim (joined-cases c e m) [
      | inl f ↦ subst (λ z. IsThrough ks a b z d) f.0 (through-ab d (subst (λ z. IsThrough ks a b z d) (sym f.1) (through-chain e d es p.1)))
      | inr n ↦ through-step c e d (Links.join ks c e (inl n)) (through-chain e d es p.1)
    ]
    | inr m ↦ elim (joined-cases e c m) [
      | inl f ↦ subst (λ z. IsThrough ks a b z d) f.1 (through-ba d (subst (λ z. IsThrough ks a b z d) (sym f.0) (through-chain e d es p.1)))
      | inr n ↦ through-step c e d (Links.join ks c e (inr n)) (through-chain e d es p.1)
    ]
  ]

  pub through-linked : (c d : ColRef) → IsThrough ks a b c d → IsLinked (Join a b ∷ ks) c d
  through-linked c d (inl m) = linked-more (Join a b) ks c d m
  through-linked c d (inr (inl m)) = Links.trans (Join a b ∷ ks) c a d (linked-more (Join a b) ks c a m.0)
      (Links.trans (Join a b ∷ ks) a b d (Links.join (Join a b ∷ ks) a b (inl (mem-head (Join a b) ks))) (linked-more (Join a b) ks b d m.1))
  through-linked c d (inr (inr m)) = Links.trans (Join a b ∷ ks) c b d (linked-more (Join a b) ks c b m.0)
      (Links.trans (Join a b ∷ ks) b a d (Links.join (Join a b ∷ ks) b a (inr (mem-head (Join a b) ks))) (linked-more (Join a b) ks a d m.1))

dec_of : (ks : List Cond) (c d : ColRef) → Dec (IsLinked ks c d)
dec_of [] c d = dec_by (λ e. ([], e)) (λ l. none l.0 l.1) (dec_column c d)
  where
    none : (es : List ColRef) → IsChain [] c es d → c ≡ d
    none [] p = p
    none (e ∷ es) p = elim p.0 [ inl m ↦ absurd (mem-nil (Join c e) m) | inr m ↦ absurd (mem-nil (Join e c) m) ]
dec_of (Test a op x ∷ ks) c d = dec_by (λ l. linked-more (Test a op x) ks c d l) (λ l. (l.0, chain-test a a op x ks c d l.0 l.1)) (dec_of ks c d)
dec_of (Join a b ∷ ks) c d = dec_by (λ h. through-linked a b ks c d h) (λ l. through-chain a b ks c d l.0 l.1)
    (dec_or (dec_of ks c d) (dec_or (dec_both (dec_of ks c a) (dec_of ks b d)) (dec_both (dec_of ks c b) (dec_of ks a d))))

pub dec_linked : (q : Query) (c d : ColRef) → Dec (AreLinked q c d)
dec_linked q c d = dec_of q.conds c d

dec_test : (F : ℕ) (x : List Value) (k : Cond) → Dec (TestHolds F x k)
dec_test F x (Join c d) = yes tt
dec_test F x (Test c op y) = dec_if (ℕ_discrete c.atom F) (dec_op op (get_or x c.col nothing) y)

pub dec_fits : (q : Query) (row : List Value) (taken : List Placed) (F : ℕ) (x : List Value) → Dec (Fits q row taken F x)
dec_fits q row taken F x = dec_by (λ p. record { agrees = p.0; tests = p.1; answers = p.2 }) (λ f. (f.agrees, f.tests, f.answers)) (dec_three
    (dec_each (λ t. (i : ℕ) → i < (atom_at q F).width → (j : ℕ) → j < (atom_at q t.atom).width → AreLinked q (record { atom = F; col = i }) (record { atom = t.atom; col = j }) → get_or x i nothing ≡ get_or t.row j nothing)
    (λ t. dec_below (λ i. (j : ℕ) → j < (atom_at q t.atom).width → AreLinked q (record { atom = F; col = i }) (record { atom = t.atom; col = j }) → get_or x i nothing ≡ get_or t.row j nothing)
    (λ i. dec_below (λ j. AreLinked q (record { atom = F; col = i }) (record { atom = t.atom; col = j }) → get_or x i nothing ≡ get_or t.row j nothing)
    (λ j. dec_if (dec_linked q (record { atom = F; col = i }) (record { atom = t.atom; col = j })) (value_discrete (get_or x i nothing) (get_or t.row j nothing))) (atom_at q t.atom).width) (atom_at q F).width)
    (record { atom = F; row = x } ∷ taken))
    (dec_each (λ k. TestHolds F x k) (dec_test F x) q.conds)
    (dec_below (λ i. (get_or q.answer i (record { atom = 0; col = 0 })).atom ≡ F → get_or x (get_or q.answer i (record { atom = 0; col = 0 })).col nothing ≡ get_or row i nothing)
    (λ i. dec_if (ℕ_discrete (get_or q.answer i (record { atom = 0; col = 0 })).atom F) (value_discrete (get_or x (get_or q.answer i (record { atom = 0; col = 0 })).col nothing) (get_or row i nothing))) (length q.answer)))

pub dec_plan : (q : Query) (tables : List (List (List Value))) (row : List Value) (taken : List Placed) (plan : List ℕ) → Dec (PlanHolds q tables row taken plan)
dec_plan q tables row taken [] = yes tt
dec_plan q tables row taken (F ∷ plan) =
    dec_some (λ x. (y : List Value) → Contains (rows_of q tables F) y → SharesKey (atom_key q F) x y → Fits q row taken F y × PlanHolds q tables row (record { atom = F; row = y } ∷ taken) plan)
    (λ x. dec_each (λ y. SharesKey (atom_key q F) x y → Fits q row taken F y × PlanHolds q tables row (record { atom = F; row = y } ∷ taken) plan)
    (λ y. dec_if (dec_shares (atom_key q F) x y) (dec_both (dec_fits q row taken F y) (dec_plan q tables row (record { atom = F; row = y } ∷ taken) plan))) (rows_of q tables F))
    (rows_of q tables F)
