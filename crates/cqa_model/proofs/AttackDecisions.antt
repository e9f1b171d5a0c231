-- Closures and attacks are decided, in views whose atoms and fixed variables are: a list of columns grows by what is
-- derived until it has all of it.
use Rattle.std.proofs.Common.{◌≡◌, true, ℕ, zero, suc, ◌<◌, ◌≤◌, ◌⊎◌, inl, inr, List, [], ◌∷◌, ◌++◌, length, sym, subst, arith, Contains}
use Rattle.std.proofs.lemmas.List.Elements.{All-contains, Contains-append_left, Contains-append_right}
use Rattle.std.proofs.Math.Bool.{Bool-discrete}
use native.Mathlib.Decide.{ℕ_discrete}
use Rattle.cqa_model.specs.declared.query.ColRef.{ColRef}
use Rattle.cqa_model.specs.declared.query.Query.{Query}
use Rattle.cqa_model.specs.Query.{atom_at, atom_key, IsStrict}
use Rattle.cqa_model.specs.Variables.{AreLinked, View, IsFree, IsVar, IsKeyVar}
use Rattle.cqa_model.specs.Closures.{HasVariable, IsDerived, IsDerivation, CountsFor, InPlus}
use Rattle.cqa_model.specs.Graph.{AreTogether, IsReached, Attacks}
use Rattle.cqa_model.specs.Plan.{IsUnattacked}
use Rattle.cqa_model.proofs.Classic.{stable, mem-head, mem-tail, mem-nil, mem-cases, mem-eq, dec_both, dec_three, dec_or, dec_if, dec_each, dec_some}
use Rattle.cqa_model.proofs.Values.{dec_by, dec_not}
use Rattle.cqa_model.proofs.Decisions.{dec_linked}
use Rattle.cqa_model.proofs.Views.{linked-self, linked-sym, has_variable-linked}
use Rattle.cqa_model.proofs.Reification.{remove}
use Rattle.cqa_model.proofs.Attacks.{IsClosed, free-linked, var-linked, closure-linked}
use Rattle.cqa_model.proofs.Interface.{closure-within, reached-within, dec_free, dec_var}

-- the numbers below n
pub below : ℕ → List ℕ
below zero = []
below (suc n) = n ∷ below n

pub below-all : (n F : ℕ) → F < n → Contains (below n) F
unfolding below
below-all zero F l = absurd (omega arith)
below-all (suc n) F l = go (ℕ_discrete n F) (λ k. below-all n F k)
  where
    go : Dec (n ≡ F) → (F < n → Contains (below n) F) → Contains (n ∷ below n) F
    go (yes e) next = mem-eq n F (n ∷ below n) e (mem-head n (below n))
    go (no ne) next = mem-tail F n (below n) (next (omega arith))

-- the columns of the first n atoms
columns : ℕ → ℕ → List ColRef
columns F zero = []
columns F (suc n) = record { atom = F; col = n } ∷ columns F n

columns-all : (F n p : ℕ) → p < n → Contains (columns F n) (record { atom = F; col = p })
unfolding columns
columns-all F zero p l = absurd (omega arith)
columns-all F (suc n) p l = go (ℕ_discrete n p) (λ k. columns-all F n p k)
  where
    go : Dec (n ≡ p) → (p < n → Contains (columns F n) (record { atom = F; col = p })) → Contains (record { atom = F; col = n } ∷ columns F n) (record { atom = F; col = p })
    go (yes e) next = subst (λ z. Contains (record { atom = F; col = n } ∷ columns F n) (record { atom = F; col = z })) e (mem-head (record { atom = F; col = n }) (columns F n))
    go (no ne) next = mem-tail (record { atom = F; col = p }) (record { atom = F; col = n }) (columns F n) (next (omega arith))

every_column : Query → ℕ → List ColRef
every_column q zero = []
every_column q (suc n) = columns n (atom_at q n).width ++ every_column q n

every_column-all : (q : Query) (n F p : ℕ) → F < n → p < (atom_at q F).width → Contains (every_column q n) (record { atom = F; col = p })
unfolding every_column
every_column-all q zero F p l k = absurd (omega arith)
every_column-all q (suc n) F p l k = go (ℕ_discrete n F) (λ m. every_column-all q n F p m k)
  where
    go : Dec (n ≡ F) → (F < n → Contains (every_column q n) (record { atom = F; col = p })) → Contains (columns n (atom_at q n).width ++ every_column q n) (record { atom = F; col = p })
    go (yes e) next = subst (λ z. Contains (columns z (atom_at q z).width ++ every_column q n) (record { atom = F; col = p })) (sym e)
        (Contains-append_left (columns F (atom_at q F).width) (every_column q n) (record { atom = F; col = p }) (columns-all F (atom_at q F).width p k))
    go (no ne) next = Contains-append_right (columns n (atom_at q n).width) (every_column q n) (record { atom = F; col = p }) (next (omega arith))

-- lists of columns that are good, and how one grows
module _ (q : Query) (Good : List ColRef → Type 0) (Step : List ColRef → ColRef → Type 0) (dec_step : (xs : List ColRef) (x : ColRef) → Dec (Step xs x))
    (grow : (xs : List ColRef) (x : ColRef) → Good xs → Step xs x → Good (x ∷ xs)) where
  pub dec_variable : (xs : List ColRef) (v : ColRef) → Dec (HasVariable q xs v)
  dec_variable xs v = dec_some (λ u. AreLinked q v u) (λ u. dec_linked q v u) xs

  -- a good list that has each of these columns for which the step holds
  abbrev pub IsFull : List ColRef → Type 0
  IsFull all = (xs : List ColRef) × Good xs × ((x : ColRef) → Contains all x → Step xs x → HasVariable q xs x)

  abbrev Had : List ColRef → List ColRef → List ColRef → Type 0
  Had all rest xs = (x : ColRef) → Contains all x → HasVariable q xs x ⊎ Contains rest x

  dec_missing : (rest xs : List ColRef) → Dec ((x : ColRef) × Contains rest x × (Step xs x × (HasVariable q xs x → ⊥)))
  dec_missing rest xs = dec_some (λ x. Step xs x × (HasVariable q xs x → ⊥)) (λ x. dec_both (dec_step xs x) (dec_not (dec_variable xs x))) rest

  fill_step : (all rest xs : List ColRef) → Good xs → Had all rest xs →
      ((others ys : List ColRef) → length rest ≡ suc (length others) → Good ys → Had all others ys → IsFull all) → IsFull all
  fill_step all rest xs good had next = go (dec_missing rest xs)
    where
      go : Dec ((x : ColRef) × Contains rest x × (Step xs x × (HasVariable q xs x → ⊥))) → IsFull all
      go (no none) = (
        xs,
        good,
        λ x m s. elim (had x m) [
          | inl h ↦ h
          | inr r ↦ stable (dec_variable xs x) (λ nh. none (x, r, (s, nh)))
        ],
      )
      go (yes (x, m, (s, nh))) = far (remove rest x m)
        where
          far : (ys : List ColRef) × (length rest ≡ suc (length ys)) × ((y : ColRef) → Contains rest y → (x ≡ y) ⊎ Contains ys y) → IsFull all
          far (ys, l, h) = next ys (x ∷ xs) l (grow xs x good s) (λ y my. elim (had y my) [
            | inl v ↦ inl (v.0, mem-tail v.0 x xs v.1, v.2)
            | inr r ↦ elim (h y r) [
              | inl e ↦ inl (x, mem-head x xs, subst (λ z. AreLinked q z x) e (linked-self q x))
              | inr n ↦ inr n
            ]
          ])

  fill : (n : ℕ) (all rest xs : List ColRef) → length rest ≤ n → Good xs → Had all rest xs → IsFull all
  fill zero all rest xs le good had = fill_step all rest xs good had (λ others ys l g h. absurd (omega arith))
  fill (suc n) all rest xs le good had = fill_step all rest xs good had (λ others ys l g h. fill n all others ys (omega arith) g h)

  pub filled : (all : List ColRef) → Good [] → IsFull all
  filled all good = fill (length all) all all [] (omega arith) good (λ x m. inr m)

-- a view of the query's atoms in which they and the fixed variables are decided
module _ (q : Query) (view : View) (closed : IsClosed q view) (within : (K : ℕ) → view.has K → K < length q.atoms)
    (dec_has : (K : ℕ) → Dec (view.has K)) (dec_fixed : (v : ColRef) → Dec (view.fixed v)) where
  atoms : List ℕ
  atoms = below (length q.atoms)

  all : List ColRef
  all = every_column q (length q.atoms)

  all-has : (K p : ℕ) → K < length q.atoms → p < (atom_at q K).width → Contains all (record { atom = K; col = p })
  unfolding all
  all-has K p lK l = every_column-all q (length q.atoms) K p lK l

  in-atoms : (K : ℕ) → view.has K → Contains atoms K
  unfolding atoms
  in-atoms K hK = below-all (length q.atoms) K (within K hK)

  narrow : (K p : ℕ) → K < length q.atoms → Contains (atom_key q K) p → p < (atom_at q K).width
  narrow K p lK m = All-contains (λ p. p < (atom_at q K).width) (atom_key q K) p (q.kept.each K lK).key_in_range m

  dec_key_var : (F : ℕ) (v : ColRef) → Dec (IsKeyVar q view F v)
  dec_key_var F v = dec_both (dec_free q view dec_fixed v) (dec_some (λ p. AreLinked q v (record { atom = F; col = p })) (λ p. dec_linked q v (record { atom = F; col = p })) (atom_key q F))

  module _ (G : ℕ) (lG : G < length q.atoms) where
    abbrev uses : ℕ → Type 0
    uses = CountsFor q view G

    dec_strict : Dec (IsStrict q G)
    dec_strict = Bool-discrete (atom_at q G).strict true

    abbrev derived : List ColRef → ColRef → Type 0
    derived = IsDerived q view uses (IsKeyVar q view G)

    dec_variables : (vs : List ColRef) (v : ColRef) → Dec (HasVariable q vs v)
    dec_variables vs v = dec_some (λ u. AreLinked q v u) (λ u. dec_linked q v u) vs

    dec_keys : (vs : List ColRef) (K : ℕ) → Dec ((u : ColRef) → IsKeyVar q view K u → HasVariable q vs u)
    dec_keys vs K = dec_by
        (λ h u ku. has_variable-linked q vs u (record { atom = K; col = ku.1.0 }) ku.1.2 (h ku.1.0 ku.1.1 (free-linked q view closed u (record { atom = K; col = ku.1.0 }) ku.1.2 ku.0)))
        (λ h p m f. h (record { atom = K; col = p }) (f, (p, m, linked-self q (record { atom = K; col = p }))))
        (dec_each (λ p. IsFree q view (record { atom = K; col = p }) → HasVariable q vs (record { atom = K; col = p }))
        (λ p. dec_if (dec_free q view dec_fixed (record { atom = K; col = p })) (dec_variables vs (record { atom = K; col = p }))) (atom_key q K))

    dec_derived : (vs : List ColRef) (v : ColRef) → Dec (derived vs v)
    dec_derived vs v = dec_or (dec_key_var G v) (dec_by (λ h. (h.0, h.2.0, h.2.1, h.2.2)) (λ h. (h.0, in-atoms h.0 h.1.0, (h.1, h.2, h.3)))
        (dec_some (λ K. uses K × IsVar q view K v × ((u : ColRef) → IsKeyVar q view K u → HasVariable q vs u))
        (λ K. dec_three (dec_both (dec_has K) (dec_or (dec_not (ℕ_discrete K G)) dec_strict)) (dec_var q view dec_fixed K v) (dec_keys vs K)) atoms))

    plus_list : IsFull q (IsDerivation q view uses (IsKeyVar q view G)) derived dec_derived (λ xs x good s. (s, good)) all
    plus_list = filled q (IsDerivation q view uses (IsKeyVar q view G)) derived dec_derived (λ xs x good s. (s, good)) all tt

    plus-complete : (v : ColRef) → InPlus q view G v → HasVariable q plus_list.0 v
    plus-complete v c = closure-within q view closed uses (IsKeyVar q view G) (HasVariable q plus_list.0)
        (λ u w l h. has_variable-linked q plus_list.0 w u (linked-sym q u w l) h)
        (λ u s.
        let rep : ColRef = record { atom = G; col = s.1.0 } in
        has_variable-linked q plus_list.0 u rep s.1.2 (plus_list.2 rep (all-has G s.1.0 lG (narrow G s.1.0 lG s.1.1))
        (inl (free-linked q view closed u rep s.1.2 s.0, (s.1.0, s.1.1, linked-self q rep)))))
        (λ K hK keys u hu.
        let rep : ColRef = record { atom = K; col = hu.1.0 } in
        has_variable-linked q plus_list.0 u rep hu.1.2 (plus_list.2 rep (all-has K hu.1.0 (within K hK.0) hu.1.1)
        (inr (K, hK, var-linked q view closed K u rep hu.1.2 hu, keys)))) v c

    pub dec_plus : (v : ColRef) → Dec (InPlus q view G v)
    dec_plus v = dec_by (λ h. (plus_list.0, plus_list.1, h)) (λ c. plus-complete v c) (dec_variables plus_list.0 v)

    dec_together : (u v : ColRef) → Dec (AreTogether q view u v)
    dec_together u v = dec_by (λ h. (h.0, h.2.0, h.2.1, h.2.2)) (λ h. (h.0, in-atoms h.0 h.1, (h.1, h.2, h.3)))
        (dec_some (λ H. view.has H × IsVar q view H u × IsVar q view H v) (λ H. dec_three (dec_has H) (dec_var q view dec_fixed H u) (dec_var q view dec_fixed H v)) atoms)

    abbrev next : List ColRef → ColRef → Type 0
    next us v = (InPlus q view G v → ⊥) × (IsVar q view G v ⊎ ((u : ColRef) × Contains us u × AreTogether q view u v))

    abbrev AreReached : List ColRef → Type 0
    AreReached us = (u : ColRef) → Contains us u → IsReached q view G u

    dec_next : (us : List ColRef) (v : ColRef) → Dec (next us v)
    dec_next us v = dec_both (dec_not (dec_plus v)) (dec_or (dec_var q view dec_fixed G v) (dec_some (λ u. AreTogether q view u v) (λ u. dec_together u v) us))

    reaches : (us : List ColRef) (v : ColRef) → AreReached us → next us v → IsReached q view G v
    reaches us v good (np, inl h) = ([], (np, h))
    reaches us v good (np, inr (u, m, t)) = let r = good u m in (u ∷ r.0, (np, t, r.1))

    more : (us : List ColRef) (v : ColRef) → AreReached us → next us v → AreReached (v ∷ us)
    more us v good s u m = elim (mem-cases u v us m) [ inl e ↦ subst (λ z. IsReached q view G z) e (reaches us v good s) | inr n ↦ good u n ]

    reached_list : IsFull q AreReached next dec_next more all
    reached_list = filled q AreReached next dec_next more all (λ u m. absurd (mem-nil u m))

    reached-complete : (v : ColRef) → IsReached q view G v → HasVariable q reached_list.0 v
    reached-complete v r = reached-within q view G (HasVariable q reached_list.0)
        (λ u np hu.
        let rep : ColRef = record { atom = G; col = hu.1.0 } in
        has_variable-linked q reached_list.0 u rep hu.1.2 (reached_list.2 rep (all-has G hu.1.0 lG hu.1.1)
        ((λ c. np (closure-linked q view closed uses (IsKeyVar q view G) u rep hu.1.2 c)), inl (var-linked q view closed G u rep hu.1.2 hu))))
        (λ u w h t np.
        let rep : ColRef = record { atom = t.0; col = t.3.1.0 } in
        has_variable-linked q reached_list.0 w rep t.3.1.2 (reached_list.2 rep (all-has t.0 t.3.1.0 (within t.0 t.1) t.3.1.1) (
          (λ c. np (closure-linked q view closed uses (IsKeyVar q view G) w rep t.3.1.2 c)),
          inr (h.0, h.1, (t.0, t.1, var-linked q view closed t.0 u h.0 h.2 t.2, var-linked q view closed t.0 w rep t.3.1.2 t.3)),
        ))) v r

    dec_meets : (F : ℕ) → Dec ((v : ColRef) × IsReached q view G v × IsVar q view F v)
    dec_meets F = dec_by (λ h. (h.0, reached_list.1 h.0 h.1, h.2))
        (λ h. let m = reached-complete h.0 h.1 in (m.0, m.1, var-linked q view closed F h.0 m.0 m.2 h.2))
        (dec_some (λ v. IsVar q view F v) (λ v. dec_var q view dec_fixed F v) reached_list.0)

  pub dec_attacks : (G F : ℕ) → Dec (Attacks q view G F)
  dec_attacks G F = go (dec_has G)
    where
      go : Dec (view.has G) → Dec (Attacks q view G F)
      go (no nG) = no (λ a. nG a.0)
      go (yes hG) = dec_by (λ h. (hG, h.0, h.1, h.2)) (λ a. (a.1, a.2, a.3)) (dec_three (dec_has F) (dec_not (ℕ_discrete G F)) (dec_meets G (within G hG) F))

  -- an atom has an attacker, or none attacks it
  pub attacked : (F : ℕ) → ((G : ℕ) × Attacks q view G F) ⊎ IsUnattacked q view F
  attacked F = go (dec_some (λ G. Attacks q view G F) (λ G. dec_attacks G F) atoms)
    where
      go : Dec ((G : ℕ) × Contains atoms G × Attacks q view G F) → ((G : ℕ) × Attacks q view G F) ⊎ IsUnattacked q view F
      go (yes (G, m, a)) = inl (G, a)
      go (no none) = inr (λ G a. none (G, in-atoms G a.0, a))
