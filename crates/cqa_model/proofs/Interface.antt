-- What code that computes closures, reached variables and attacks needs of the definitions.
use Rattle.std.proofs.Common.{◌≡◌, ℕ, zero, suc, ◌<◌, ◌⊎◌, inl, inr, List, [], ◌∷◌, ◌++◌, refl, sym, subst, arith, Contains}
use native.Mathlib.Decide.{ℕ_discrete}
use Rattle.std.proofs.lemmas.List.Elements.{Contains-append_left, Contains-append_right}
use Rattle.cqa_model.specs.declared.query.Op.TheVariants.{Eq, Ne, Lt, Le, Gt, Ge}
use Rattle.cqa_model.specs.declared.query.Op.{Op}
use Rattle.cqa_model.specs.declared.query.Cond.{Cond}
use Rattle.cqa_model.specs.declared.query.Cond.TheVariants.{Join, Test}
use Rattle.cqa_model.specs.declared.query.ColRef.{ColRef}
use Rattle.cqa_model.specs.declared.query.Query.{Query}
use Rattle.cqa_model.specs.Query.{atom_at, atom_key}
use Rattle.cqa_model.specs.Variables.{AreLinked, IsConstantColumn, IsConstant, View, IsFree, IsVar, IsKeyVar, after}
use Rattle.cqa_model.specs.Closures.{HasVariable, IsDerivation, InClosure, InPlus}
use Rattle.cqa_model.specs.Graph.{AreTogether, IsSequence, IsReached}
use Rattle.cqa_model.proofs.Classic.{mem-head, mem-tail, mem-nil, mem-cases, dec_both, dec_or, dec_some}
use Rattle.cqa_model.proofs.Values.{dec_by, dec_not}
use Rattle.cqa_model.proofs.Decisions.{dec_linked}
use Rattle.cqa_model.proofs.Views.{linked-self, linked-sym, has_variable-linked}
use Rattle.cqa_model.proofs.Attacks.{IsClosed, free-linked, derivation-append}

module _ (q : Query) (view : View) (closed : IsClosed q view) (uses : ℕ → Type 0) (start : ColRef → Type 0) where
  -- a set with the start that keeps the rule has the closure
  module _ (P : ColRef → Type 0) (linked : (u v : ColRef) → AreLinked q u v → P u → P v) (starts : (v : ColRef) → start v → P v)
      (rule : (K : ℕ) → uses K → ((u : ColRef) → IsKeyVar q view K u → P u) → (v : ColRef) → IsVar q view K v → P v) where
    within-derivation : (vs : List ColRef) → IsDerivation q view uses start vs → (u : ColRef) → HasVariable q vs u → P u
    within-derivation [] d u h = absurd (mem-nil h.0 h.1)
    within-derivation (v ∷ vs) d u h = elim (mem-cases h.0 v vs h.1) [
      | inl e ↦ linked v u (linked-sym q u v (subst (λ z. AreLinked q u z) (sym e) h.2)) (elim d.0 [
        | inl s ↦ starts v s
        | inr r ↦ rule r.0 r.1 (λ k kk. within-derivation vs d.1 k (r.3 k kk)) v r.2
      ])
      | inr n ↦ within-derivation vs d.1 u (h.0, n, h.2)
    ]

    pub closure-within : (v : ColRef) → InClosure q view uses start v → P v
    closure-within v c = within-derivation c.0 c.1 v c.2

  -- the closure keeps the rule, where it is decided what is free
  module _ (dec_free : (v : ColRef) → Dec (IsFree q view v)) where
    with_keys : (K : ℕ) (ps : List ℕ) → ((p : ℕ) → Contains ps p → IsFree q view (record { atom = K; col = p }) → InClosure q view uses start (record { atom = K; col = p })) →
        (vs : List ColRef) × IsDerivation q view uses start vs × ((p : ℕ) → Contains ps p → IsFree q view (record { atom = K; col = p }) → HasVariable q vs (record { atom = K; col = p }))
    with_keys K [] h = ([], tt, λ p m f. absurd (mem-nil p m))
    with_keys K (p ∷ ps) h = go (dec_free (record { atom = K; col = p })) (with_keys K ps (λ r m. h r (mem-tail r p ps m)))
      where
        go : Dec (IsFree q view (record { atom = K; col = p })) →
            ((vs : List ColRef) × IsDerivation q view uses start vs × ((r : ℕ) → Contains ps r → IsFree q view (record { atom = K; col = r }) → HasVariable q vs (record { atom = K; col = r }))) →
            (vs : List ColRef) × IsDerivation q view uses start vs × ((r : ℕ) → Contains (p ∷ ps) r → IsFree q view (record { atom = K; col = r }) → HasVariable q vs (record { atom = K; col = r }))
        go (no nf) g = (
          g.0,
          g.1,
          λ r m f. elim (mem-cases r p ps m) [
            | inl e ↦ absurd (nf (subst (λ z. IsFree q view (record { atom = K; col = z })) (sym e) f))
            | inr n ↦ g.2 r n f
          ],
        )
        go (yes f0) g =
            let c = h p (mem-head p ps) f0 in (
              c.0 ++ g.0,
              derivation-append q view closed uses start c.0 g.0 c.1 g.1,
              λ r m f. elim (mem-cases r p ps m) [
                | inl e ↦ (c.2.0, Contains-append_left c.0 g.0 c.2.0 c.2.1, subst (λ z. AreLinked q (record { atom = K; col = z }) c.2.0) e c.2.2)
                | inr n ↦ let b = g.2 r n f in (b.0, Contains-append_right c.0 g.0 b.0 b.1, b.2)
              ],
            )

    pub closure-keeps : (K : ℕ) → uses K → ((u : ColRef) → IsKeyVar q view K u → InClosure q view uses start u) → (v : ColRef) → IsVar q view K v → InClosure q view uses start v
    closure-keeps K hK keys v var_v =
        let g = with_keys K (atom_key q K) (λ p m f. keys (record { atom = K; col = p }) (f, (p, m, linked-self q (record { atom = K; col = p })))) in (
          v ∷ g.0,
          (
            inr (
              K,
              hK,
              var_v,
              λ u ku. has_variable-linked q g.0 u (record { atom = K; col = ku.1.0 }) ku.1.2
                  (g.2 ku.1.0 ku.1.1 (free-linked q view closed u (record { atom = K; col = ku.1.0 }) ku.1.2 ku.0)),
            ),
            g.1,
          ),
          (v, mem-head v g.0, linked-self q v),
        )

-- a set with the first variables outside F+ that keeps the step has what is reached
module _ (q : Query) (view : View) (F : ℕ) (P : ColRef → Type 0) (first : (v : ColRef) → (InPlus q view F v → ⊥) → IsVar q view F v → P v)
    (step : (u v : ColRef) → P u → AreTogether q view u v → (InPlus q view F v → ⊥) → P v) where
  within-sequence : (v : ColRef) (us : List ColRef) → IsSequence q view F v us → P v
  within-sequence v [] h = first v h.0 h.1
  within-sequence v (u ∷ us) h = step u v (within-sequence u us h.2) h.1 h.0

  pub reached-within : (v : ColRef) → IsReached q view F v → P v
  reached-within v r = within-sequence v r.0 r.1

-- what is free and what are an atom's variables is decided
module _ (q : Query) where
  pub dec_constant : (v : ColRef) → Dec (IsConstant q v)
  dec_constant v = dec_by (λ s. from s) (λ c. into c.0 c.1 c.2) (dec_or
      (dec_some (λ c. AreLinked q v c) (λ c. dec_linked q v c) q.answer)
      (dec_some (λ k. IsTestOf k) dec_test_of q.conds))
    where
      IsTestOf : Cond → Type 0
      IsTestOf (Join c d) = ⊥
      IsTestOf (Test c op x) = (op ≡ Eq) × AreLinked q v c

      dec_eq : (op : Op) → Dec (op ≡ Eq)
      dec_eq Eq = yes refl
      dec_eq Ne = no (λ e. cc e)
      dec_eq Lt = no (λ e. cc e)
      dec_eq Le = no (λ e. cc e)
      dec_eq Gt = no (λ e. cc e)
      dec_eq Ge = no (λ e. cc e)

      dec_test_of : (k : Cond) → Dec (IsTestOf k)
      dec_test_of (Join c d) = no (λ e. e)
      dec_test_of (Test c op x) = dec_both (dec_eq op) (dec_linked q v c)

      test : (k : Cond) → Contains q.conds k → IsTestOf k → IsConstant q v
      test (Join c d) m h = absurd h
      test (Test c op x) m h = (c, h.1, inr (x, subst (λ z. Contains q.conds (Test c z x)) h.0 m))

      from : ((c : ColRef) × Contains q.answer c × AreLinked q v c) ⊎ ((k : Cond) × Contains q.conds k × IsTestOf k) → IsConstant q v
      from (inl (c, m, l)) = (c, l, inl m)
      from (inr (k, m, h)) = test k m h

      into : (c : ColRef) → AreLinked q v c → IsConstantColumn q c → ((c : ColRef) × Contains q.answer c × AreLinked q v c) ⊎ ((k : Cond) × Contains q.conds k × IsTestOf k)
      into c l (inl m) = inl (c, m, l)
      into c l (inr (x, m)) = inr (Test c Eq x, m, (refl, l))

  module _ (view : View) (dec_fixed : (v : ColRef) → Dec (view.fixed v)) where
    pub dec_free : (v : ColRef) → Dec (IsFree q view v)
    dec_free v = dec_both (dec_not (dec_constant v)) (dec_not (dec_fixed v))

    pub dec_var : (F : ℕ) (v : ColRef) → Dec (IsVar q view F v)
    dec_var F v = dec_both (dec_free v) (dec_place (atom_at q F).width)
      where
        dec_place : (n : ℕ) → Dec ((p : ℕ) × (p < n) × AreLinked q v (record { atom = F; col = p }))
        dec_place zero = no (λ h. let l : h.0 < 0 = h.1 in omega arith)
        dec_place (suc n) = dec_by (λ s. grow s) (λ h. split h.0 h.1 h.2 (ℕ_discrete h.0 n)) (dec_or (dec_linked q v (record { atom = F; col = n })) (dec_place n))
          where
            grow : AreLinked q v (record { atom = F; col = n }) ⊎ ((p : ℕ) × (p < n) × AreLinked q v (record { atom = F; col = p })) → (p : ℕ) × (p < suc n) × AreLinked q v (record { atom = F; col = p })
            grow (inl l) = (n, omega arith, l)
            grow (inr h) = let k : h.0 < n = h.1 in (h.0, omega arith, h.2)

            split : (p : ℕ) → p < suc n → AreLinked q v (record { atom = F; col = p }) → Dec (p ≡ n) → AreLinked q v (record { atom = F; col = n }) ⊎ ((r : ℕ) × (r < n) × AreLinked q v (record { atom = F; col = r }))
            split p k l (yes e) = inl (subst (λ z. AreLinked q v (record { atom = F; col = z })) e l)
            split p k l (no ne) = inr (p, omega arith, l)

    pub dec_fixed_after : (F : ℕ) (v : ColRef) → Dec ((after q view F).fixed v)
    dec_fixed_after F v = dec_or (dec_fixed v) (dec_var F v)
