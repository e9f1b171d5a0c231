-- What an atom that is taken out changes: no attack comes, and none goes if nothing attacks it.
use Rattle.std.proofs.Common.{◌≡◌, ℕ, ◌<◌, ◌≢◌, inl, inr, List, [], ◌∷◌, ◌++◌, sym, subst, Contains}
use native.Mathlib.Decide.{ℕ_discrete}
use Rattle.std.proofs.lemmas.List.Elements.{Contains-append_left, Contains-append_right}
use Rattle.cqa_model.specs.declared.query.ColRef.{ColRef}
use Rattle.cqa_model.specs.declared.query.Query.{Query}
use Rattle.cqa_model.specs.Query.{atom_at, atom_key}
use Rattle.cqa_model.specs.Variables.{AreLinked, View, IsFree, IsVar, IsKeyVar, after}
use Rattle.cqa_model.specs.Closures.{HasVariable, IsDerived, IsDerivation, InClosure, CountsFor, InPlus}
use Rattle.cqa_model.specs.Graph.{IsSequence, IsReached, Attacks}
use Rattle.cqa_model.specs.Plan.{IsUnattacked}
use Rattle.cqa_model.proofs.Classic.{Classically, mem-head, mem-tail, mem-nil, mem-cases}
use Rattle.cqa_model.proofs.Views.{linked-self, linked-sym, linked-trans, has_variable-linked, free-before}

-- what is fixed is whole variables
abbrev pub IsClosed : Query → View → Type 0
IsClosed q view = (u v : ColRef) → AreLinked q u v → view.fixed u → view.fixed v

module _ (q : Query) (view : View) (closed : IsClosed q view) where
  pub free-linked : (u v : ColRef) → AreLinked q u v → IsFree q view u → IsFree q view v
  free-linked u v l f = ((λ c. f.0 (c.0, linked-trans q u v c.0 l c.1, c.2)), (λ h. f.1 (closed v u (linked-sym q u v l) h)))

  pub var-linked : (F : ℕ) (u v : ColRef) → AreLinked q u v → IsVar q view F u → IsVar q view F v
  var-linked F u v l h = (free-linked u v l h.0, (h.1.0, h.1.1, linked-trans q v u (record { atom = F; col = h.1.0 }) (linked-sym q u v l) h.1.2))

  pub after-closed : (F : ℕ) → IsClosed q (after q view F)
  after-closed F u v l (inl h) = inl (closed u v l h)
  after-closed F u v l (inr h) = inr (var-linked F u v l h)

  -- two derivations, one after the other
  module _ (uses : ℕ → Type 0) (start : ColRef → Type 0) where
    pub derivation-append : (us vs : List ColRef) → IsDerivation q view uses start us → IsDerivation q view uses start vs → IsDerivation q view uses start (us ++ vs)
    derivation-append [] vs d e = e
    derivation-append (u ∷ us) vs d e = (
      elim d.0 [
        | inl s ↦ inl s
        | inr h ↦ inr (h.0, h.1, h.2, λ k kv. let m = h.3 k kv in (m.0, Contains-append_left us vs m.0 m.1, m.2))
      ],
      derivation-append us vs d.1 e,
    )

    -- one derivation with all keys at these places of K
    with_keys : (K : ℕ) (ps : List ℕ) → ((p : ℕ) → Contains ps p → IsFree q view (record { atom = K; col = p }) → Classically (InClosure q view uses start (record { atom = K; col = p }))) →
        Classically ((vs : List ColRef) × IsDerivation q view uses start vs × ((p : ℕ) → Contains ps p → IsFree q view (record { atom = K; col = p }) → HasVariable q vs (record { atom = K; col = p })))
    with_keys K [] h k = k ([], tt, λ p m f. absurd (mem-nil p m))
    with_keys K (p ∷ ps) h k = with_keys K ps (λ r m. h r (mem-tail r p ps m)) (λ g.
        k (
          g.0,
          g.1,
          λ r m f. elim (mem-cases r p ps m) [
            | inl e ↦ absurd (h p (mem-head p ps) (subst (λ z. IsFree q view (record { atom = K; col = z })) (sym e) f) (λ c.
                k (
                  c.0 ++ g.0,
                  derivation-append c.0 g.0 c.1 g.1,
                  λ s ms fs. elim (mem-cases s p ps ms) [
                    | inl es ↦ (c.2.0, Contains-append_left c.0 g.0 c.2.0 c.2.1, subst (λ z. AreLinked q (record { atom = K; col = z }) c.2.0) es c.2.2)
                    | inr ns ↦ let b = g.2 s ns fs in (b.0, Contains-append_right c.0 g.0 b.0 b.1, b.2)
                  ],
                )))
            | inr n ↦ g.2 r n f
          ],
        ))

    pub closure-rule : (K : ℕ) → uses K → (v : ColRef) → IsVar q view K v → ((u : ColRef) → IsKeyVar q view K u → Classically (InClosure q view uses start u)) →
        Classically (InClosure q view uses start v)
    closure-rule K hK v var_v keys k =
        with_keys K (atom_key q K) (λ p m f. keys (record { atom = K; col = p }) (f, (p, m, linked-self q (record { atom = K; col = p })))) (λ g.
        k (
          v ∷ g.0,
          (
            inr (
              K,
              hK,
              var_v,
              λ u ku. has_variable-linked q g.0 u (record { atom = K; col = ku.1.0 }) ku.1.2
                  (g.2 ku.1.0 ku.1.1 (free-linked u (record { atom = K; col = ku.1.0 }) ku.1.2 ku.0)),
            ),
            g.1,
          ),
          (v, mem-head v g.0, linked-self q v),
        ))

  pub closure-start : (uses : ℕ → Type 0) (start : ColRef → Type 0) (v : ColRef) → start v → InClosure q view uses start v
  closure-start uses start v s = (v ∷ [], (inl s, tt), (v, mem-head v [], linked-self q v))

  pub closure-linked : (uses : ℕ → Type 0) (start : ColRef → Type 0) (u v : ColRef) → AreLinked q u v → InClosure q view uses start v → InClosure q view uses start u
  closure-linked uses start u v l c = (c.0, c.1, has_variable-linked q c.0 u v l c.2)

  sequence-linked : (G : ℕ) (u v : ColRef) → AreLinked q u v → (us : List ColRef) → IsSequence q view G u us → IsSequence q view G v us
  sequence-linked G u v l [] h = ((λ c. h.0 (closure-linked (CountsFor q view G) (IsKeyVar q view G) u v l c)), var-linked G u v l h.1)
  sequence-linked G u v l (x ∷ xs) h = ((λ c. h.0 (closure-linked (CountsFor q view G) (IsKeyVar q view G) u v l c)), (h.1.0, h.1.1, h.1.2, var-linked h.1.0 u v l h.1.3), h.2)

  reached-linked : (G : ℕ) (u v : ColRef) → AreLinked q u v → IsReached q view G u → IsReached q view G v
  reached-linked G u v l r = (r.0, sequence-linked G u v l r.0 r.1)

  sequence-outside : (G : ℕ) (v : ColRef) (us : List ColRef) → IsSequence q view G v us → InPlus q view G v → ⊥
  sequence-outside G v [] h = h.0
  sequence-outside G v (u ∷ us) h = h.0

module _ (q : Query) (view : View) (closed : IsClosed q view) (F : ℕ) where
  -- a variable that is free still
  free-after : (v : ColRef) → IsFree q view v → (IsVar q view F v → ⊥) → IsFree q (after q view F) v
  free-after v f nv = (f.0, λ s. elim s [ inl h ↦ f.1 h | inr h ↦ nv h ])

  not_var : (v : ColRef) → IsFree q (after q view F) v → IsVar q view F v → ⊥
  not_var v f h = f.1 (inr h)

  module _ (G : ℕ) where
    abbrev old_uses : ℕ → Type 0
    old_uses = CountsFor q view G

    abbrev new_uses : ℕ → Type 0
    new_uses = CountsFor q (after q view F) G

    -- no attack comes: what G+ had and is still free, it has still
    old-derived : (vs : List ColRef) → ((u : ColRef) → HasVariable q vs u → IsFree q (after q view F) u → Classically (InPlus q (after q view F) G u)) → (v : ColRef) →
        IsDerived q view old_uses (IsKeyVar q view G) vs v → IsFree q (after q view F) v → Classically (InPlus q (after q view F) G v)
    old-derived vs ih v (inl s) f k = k (closure-start q (after q view F) (after-closed q view closed F) new_uses (IsKeyVar q (after q view F) G) v (f, s.1))
    old-derived vs ih v (inr (K, (hasK, own), var_v, keys)) f k = go (ℕ_discrete K F)
      where
        go : Dec (K ≡ F) → ⊥
        go (yes e) = not_var v f (subst (λ z. IsVar q view z v) e var_v)
        go (no nf) = closure-rule q (after q view F) (after-closed q view closed F) new_uses (IsKeyVar q (after q view F) G) K ((hasK, nf), own) v (f, var_v.1)
            (λ u ku. ih u (keys u (free-before q view F u ku.0, ku.1)) ku.0) k

    old-derivation : (vs : List ColRef) → IsDerivation q view old_uses (IsKeyVar q view G) vs → (u : ColRef) → HasVariable q vs u → IsFree q (after q view F) u →
        Classically (InPlus q (after q view F) G u)
    old-derivation [] d u h f k = mem-nil h.0 h.1
    old-derivation (v ∷ vs) d u h f k = elim (mem-cases h.0 v vs h.1) [
      | inl e ↦
          let l : AreLinked q u v = subst (λ z. AreLinked q u z) (sym e) h.2 in
          old-derived vs (λ x hx fx. old-derivation vs d.1 x hx fx) v d.0 (free-linked q (after q view F) (after-closed q view closed F) u v l f)
          (λ p. k (closure-linked q (after q view F) (after-closed q view closed F) new_uses (IsKeyVar q (after q view F) G) u v l p))
      | inr n ↦ old-derivation vs d.1 u (h.0, n, h.2) f k
    ]

    old-sequence : (v : ColRef) (us : List ColRef) → IsSequence q (after q view F) G v us → IsSequence q view G v us
    old-sequence v [] h = ((λ p. old-derivation p.0 p.1 v p.2 h.1.0 h.0), (free-before q view F v h.1.0, h.1.1))
    old-sequence v (u ∷ us) h = (
      (λ p. old-derivation p.0 p.1 v p.2 h.1.3.0 h.0),
      (h.1.0, h.1.1.0, (free-before q view F u h.1.2.0, h.1.2.1), (free-before q view F v h.1.3.0, h.1.3.1)),
      old-sequence u us h.2,
    )

  -- the view after an atom has no attack that the view before it had not
  pub rest : (G H : ℕ) → Attacks q (after q view F) G H → Attacks q view G H
  rest G H (hG, hH, ne, (v, (us, s), var_v)) = (hG.0, hH.0, ne, (v, (us, old-sequence G v us s), (free-before q view F v var_v.0, var_v.1)))

  module _ (narrow : (K : ℕ) → view.has K → (p : ℕ) → Contains (atom_key q K) p → p < (atom_at q K).width)
      (hF : view.has F) (free : IsUnattacked q view F) (G : ℕ) (hG : view.has G) (ne_F : G ≢ F) where
    abbrev first_uses : ℕ → Type 0
    first_uses = CountsFor q view G

    abbrev last_uses : ℕ → Type 0
    last_uses = CountsFor q (after q view F) G

    -- no variable of F is reached
    reached-not_var : (v : ColRef) → IsReached q view G v → IsVar q view F v → ⊥
    reached-not_var v r h = free G (hG, hF, ne_F, (v, r, h))

    reached-outside : (v : ColRef) → IsReached q view G v → InPlus q view G v → ⊥
    reached-outside v r p = sequence-outside q view closed G v r.0 r.1 p

    -- no reached variable comes to G+
    new-derived : (vs : List ColRef) → ((u : ColRef) → HasVariable q vs u → IsReached q view G u → ⊥) → (v : ColRef) →
        IsDerived q (after q view F) last_uses (IsKeyVar q (after q view F) G) vs v → IsReached q view G v → ⊥
    new-derived vs ih v (inl s) r = reached-outside v r (closure-start q view closed first_uses (IsKeyVar q view G) v (free-before q view F v s.0, s.1))
    new-derived vs ih v (inr (K, ((hasK, nf), own), var_v, keys)) r =
        closure-rule q view closed first_uses (IsKeyVar q view G) K (hasK, own) v (free-before q view F v var_v.0, var_v.1)
        (λ u ku k.
        let reached : IsReached q view G u = (v ∷ r.0, (k, (K, hasK, (free-before q view F v var_v.0, var_v.1), (ku.0, key-var u ku)), r.1)) in
        ih u (keys u (free-after u ku.0 (reached-not_var u reached), ku.1)) reached)
        (reached-outside v r)
      where
        key-var : (u : ColRef) → IsKeyVar q view K u → (p : ℕ) × (p < (atom_at q K).width) × AreLinked q u (record { atom = K; col = p })
        key-var u ku = (ku.1.0, narrow K hasK ku.1.0 ku.1.1, ku.1.2)

    new-derivation : (vs : List ColRef) → IsDerivation q (after q view F) last_uses (IsKeyVar q (after q view F) G) vs → (u : ColRef) → HasVariable q vs u → IsReached q view G u → ⊥
    new-derivation [] d u h r = mem-nil h.0 h.1
    new-derivation (v ∷ vs) d u h r = elim (mem-cases h.0 v vs h.1) [
      | inl e ↦ new-derived vs (λ x hx rx. new-derivation vs d.1 x hx rx) v d.0 (reached-linked q view closed G u v (subst (λ z. AreLinked q u z) (sym e) h.2) r)
      | inr n ↦ new-derivation vs d.1 u (h.0, n, h.2) r
    ]

    new-outside : (v : ColRef) → IsReached q view G v → InPlus q (after q view F) G v → ⊥
    new-outside v r p = new-derivation p.0 p.1 v p.2 r

    var-after : (K : ℕ) (v : ColRef) → IsReached q view G v → IsVar q view K v → IsVar q (after q view F) K v
    var-after K v r h = (free-after v h.0 (reached-not_var v r), h.1)

    new-sequence : (v : ColRef) (us : List ColRef) → IsSequence q view G v us → IsSequence q (after q view F) G v us
    new-sequence v [] h = (new-outside v ([], h), var-after G v ([], h) h.1)
    new-sequence v (u ∷ us) h = (
      new-outside v (u ∷ us, h),
      (h.1.0, (h.1.1, λ e. reached-not_var u (us, h.2) (subst (λ z. IsVar q view z u) e h.1.2)), var-after h.1.0 u (us, h.2) h.1.2, var-after h.1.0 v (u ∷ us, h) h.1.3),
      new-sequence u us h.2,
    )

    -- if no atom attacks F, the view after F has every attack between two other atoms
    pub kept : (H : ℕ) → H ≢ F → Attacks q view G H → Attacks q (after q view F) G H
    kept H ne_H (h0, hH, ne, (v, (us, s), var_v)) = ((hG, ne_F), (hH, ne_H), ne, (v, (us, new-sequence v us s), var-after H v (us, s) var_v))
