-- The attacks of a query are decided: a closure grows until it has each column that is derived.
use Rattle.std.proofs.Common.{◌≡◌, ◌≢◌, ◌<◌, inl, inr, ℕ, List, length, map, flat_map, arith, Contains}
use Rattle.std.specs.List.{range_with_len}
use Rattle.std.proofs.lemmas.List.Elements.{All-contains}
use native.Mathlib.Decide.{ℕ_discrete, dec_lt}
use Rattle.cqa_value.proofs.Words.{Contains-map, Contains-flat_map, Contains-range, dec_both}
use Rattle.cqa_model.specs.declared.query.ColRef.{ColRef}
use Rattle.cqa_model.specs.declared.query.Query.{Query}
use Rattle.cqa_model.specs.Query.{atom_at, atom_key}
use Rattle.cqa_model.specs.Variables.{AreLinked, IsFree, IsVar, IsKeyVar, whole}
use Rattle.cqa_model.specs.Closures.{HasVariable, IsDerived, IsDerivation, InClosure}
use Rattle.cqa_model.specs.Graph.{Attacks, IsWeak, HasCycle, HasStrongCycle, IsPair}
use Rattle.cqa_model.proofs.Classic.{dec_three, dec_or, dec_if, dec_below, dec_each, dec_some}
use Rattle.cqa_model.proofs.Values.{dec_by, dec_not}
use Rattle.cqa_model.proofs.Decisions.{dec_linked}
use Rattle.cqa_model.proofs.Views.{linked-self, linked-sym, has_variable-linked}
use Rattle.cqa_model.proofs.Attacks.{IsClosed, free-linked, var-linked, closure-linked}
use Rattle.cqa_model.proofs.Interface.{closure-within, dec_free, dec_var}
use Rattle.cqa_model.proofs.AttackDecisions.{IsFull, filled, dec_attacks}
use Rattle.cqa_model.proofs.Cycles.{plan_or_cycle}
use Rattle.cqa_model.proofs.Elimination.{plan-eliminates}
use Rattle.existence_law.specs.Graphs.{AttacksAreDecided, MethodsAreDecided}
use Rattle.existence_law.proofs.Reaching.{dec_strongly_cyclic}

abbrev column : ℕ → ℕ → ColRef
column F p = record { atom = F; col = p }

module _ (q : Query) where
  closed : IsClosed q (whole q)
  closed u v l f = f

  dec_fixed : (v : ColRef) → Dec ((whole q).fixed v)
  dec_fixed v = no (λ f. f)

  columns : List ColRef
  columns = flat_map (λ F. map (column F) (range_with_len 0 (atom_at q F).width)) (range_with_len 0 (length q.atoms))

  columns-all : (F p : ℕ) → F < length q.atoms → p < (atom_at q F).width → Contains columns (column F p)
  unfolding columns
  columns-all F p l w =
      Contains-flat_map (λ G. map (column G) (range_with_len 0 (atom_at q G).width)) (range_with_len 0 (length q.atoms)) F (column F p)
      (Contains-range 0 (length q.atoms) F (omega arith) (omega (arith, l)))
      (Contains-map (column F) (range_with_len 0 (atom_at q F).width) p (Contains-range 0 (atom_at q F).width p (omega arith) (omega (arith, w))))

  narrow : (K p : ℕ) → K < length q.atoms → Contains (atom_key q K) p → p < (atom_at q K).width
  narrow K p l m = All-contains (λ p. p < (atom_at q K).width) (atom_key q K) p (q.kept.each K l).key_in_range m

  dec_is_free : (v : ColRef) → Dec (IsFree q (whole q) v)
  dec_is_free v = dec_free q (whole q) dec_fixed v

  dec_is_var : (F : ℕ) (v : ColRef) → Dec (IsVar q (whole q) F v)
  dec_is_var F v = dec_var q (whole q) dec_fixed F v

  dec_key_var : (F : ℕ) (v : ColRef) → Dec (IsKeyVar q (whole q) F v)
  dec_key_var F v = dec_both (dec_is_free v) (dec_some (λ p. AreLinked q v (column F p)) (λ p. dec_linked q v (column F p)) (atom_key q F))

  dec_attack : (F G : ℕ) → Dec (Attacks q (whole q) F G)
  dec_attack F G = dec_attacks q (whole q) closed (λ K h. h) (λ K. dec_lt K (length q.atoms)) dec_fixed F G

  -- ---- the closure of the key of an atom

  module _ (F : ℕ) (there : F < length q.atoms) where
    abbrev derived : List ColRef → ColRef → Type 0
    derived = IsDerived q (whole q) (whole q).has (IsKeyVar q (whole q) F)

    dec_variables : (vs : List ColRef) (v : ColRef) → Dec (HasVariable q vs v)
    dec_variables vs v = dec_some (λ u. AreLinked q v u) (λ u. dec_linked q v u) vs

    dec_keys : (vs : List ColRef) (K : ℕ) → Dec ((u : ColRef) → IsKeyVar q (whole q) K u → HasVariable q vs u)
    dec_keys vs K = dec_by
        (λ h u ku. has_variable-linked q vs u (column K ku.1.0) ku.1.2 (h ku.1.0 ku.1.1 (free-linked q (whole q) closed u (column K ku.1.0) ku.1.2 ku.0)))
        (λ h p m f. h (column K p) (f, (p, m, linked-self q (column K p))))
        (dec_each (λ p. IsFree q (whole q) (column K p) → HasVariable q vs (column K p)) (λ p. dec_if (dec_is_free (column K p)) (dec_variables vs (column K p))) (atom_key q K))

    dec_derived : (vs : List ColRef) (v : ColRef) → Dec (derived vs v)
    dec_derived vs v = dec_or (dec_key_var F v) (dec_by (λ h. (h.0, h.2.0, h.2.1, h.2.2)) (λ h. (h.0, Contains-range 0 (length q.atoms) h.0 (omega arith) (let l = h.1 in omega (arith, l)), (h.1, h.2, h.3)))
        (dec_some (λ K. (K < length q.atoms) × IsVar q (whole q) K v × ((u : ColRef) → IsKeyVar q (whole q) K u → HasVariable q vs u))
        (λ K. dec_three (dec_lt K (length q.atoms)) (dec_is_var K v) (dec_keys vs K)) (range_with_len 0 (length q.atoms))))

    found : IsFull q (IsDerivation q (whole q) (whole q).has (IsKeyVar q (whole q) F)) derived dec_derived (λ xs x good s. (s, good)) columns
    found = filled q (IsDerivation q (whole q) (whole q).has (IsKeyVar q (whole q) F)) derived dec_derived (λ xs x good s. (s, good)) columns tt

    complete : (v : ColRef) → InClosure q (whole q) (whole q).has (IsKeyVar q (whole q) F) v → HasVariable q found.0 v
    complete v c = closure-within q (whole q) closed (whole q).has (IsKeyVar q (whole q) F) (HasVariable q found.0)
        (λ u w l h. has_variable-linked q found.0 w u (linked-sym q u w l) h)
        (λ u s. has_variable-linked q found.0 u (column F s.1.0) s.1.2 (found.2 (column F s.1.0) (columns-all F s.1.0 there (narrow F s.1.0 there s.1.1))
        (inl (free-linked q (whole q) closed u (column F s.1.0) s.1.2 s.0, (s.1.0, s.1.1, linked-self q (column F s.1.0))))))
        (λ K inside keys u hu. has_variable-linked q found.0 u (column K hu.1.0) hu.1.2 (found.2 (column K hu.1.0) (columns-all K hu.1.0 inside hu.1.1)
        (inr (K, inside, var-linked q (whole q) closed K u (column K hu.1.0) hu.1.2 hu, keys)))) v c

    dec_in_closure : (v : ColRef) → Dec (InClosure q (whole q) (whole q).has (IsKeyVar q (whole q) F) v)
    dec_in_closure v = dec_by (λ h. (found.0, found.1, h)) (λ c. complete v c) (dec_variables found.0 v)

    dec_weak : (G : ℕ) → Dec (IsWeak q (whole q) F G)
    dec_weak G = dec_by
        (λ h v kv. closure-linked q (whole q) closed (whole q).has (IsKeyVar q (whole q) F) v (column G kv.1.0) kv.1.2 (h kv.1.0 kv.1.1 (free-linked q (whole q) closed v (column G kv.1.0) kv.1.2 kv.0)))
        (λ h p m f. h (column G p) (f, (p, m, linked-self q (column G p))))
        (dec_each (λ p. IsFree q (whole q) (column G p) → InClosure q (whole q) (whole q).has (IsKeyVar q (whole q) F) (column G p)) (λ p. dec_if (dec_is_free (column G p)) (dec_in_closure (column G p))) (atom_key q G))

  dec_strong_cycle : Dec (HasStrongCycle q (whole q))
  dec_strong_cycle = dec_strongly_cyclic (Attacks q (whole q)) dec_attack (IsWeak q (whole q)) (λ F G a. dec_weak F a.0 G) (length q.atoms) (λ F G a. a.0) (λ F G a. a.1) (λ F a. a.2 (λ i. F))

  dec_cycle : Dec (HasCycle q (whole q))
  dec_cycle = elim (plan_or_cycle.either q) [ inl p ↦ no (λ c. plan_or_cycle.not_both q p.0 (plan-eliminates q (whole q) p.0 p.1) c) | inr c ↦ yes c ]

  dec_pair : Dec (IsPair q)
  dec_pair = go (ℕ_discrete (length q.atoms) 2)
    where
      go : Dec (length q.atoms ≡ 2) → Dec (IsPair q)
      go (no f) = no (λ p. f p.two)
      go (yes two) = dec_by (λ h. record { two = two; weakly = λ F G lF lG n. h F lF G lG n }) (λ p F lF G lG n. p.weakly F G lF lG n)
          (dec_below (λ F. (G : ℕ) → G < 2 → F ≢ G → Attacks q (whole q) F G × IsWeak q (whole q) F G)
          (λ F. dec_below (λ G. F ≢ G → Attacks q (whole q) F G × IsWeak q (whole q) F G) (λ G. dec_if (dec_not (ℕ_discrete F G)) (weakly F G (dec_attack F G))) 2) 2)
        where
          weakly : (F G : ℕ) → Dec (Attacks q (whole q) F G) → Dec (Attacks q (whole q) F G × IsWeak q (whole q) F G)
          weakly F G (no f) = no (λ h. f h.0)
          weakly F G (yes a) = dec_by (λ w. (a, w)) (λ h. h.1) (dec_weak F a.0 G)

pub attacks_are_decided : AttacksAreDecided
attacks_are_decided = record {
  attacks = λ q F G. elim (dec_attack q F G) [ yes a ↦ inl a | no f ↦ inr f ];
  weak = λ q F G there. elim (dec_weak q F there G) [ yes a ↦ inl a | no f ↦ inr f ];
  strong_cycle = λ q. elim (dec_strong_cycle q) [ yes a ↦ inl a | no f ↦ inr f ];
}

pub methods_are_decided : MethodsAreDecided
methods_are_decided = record {
  pair = λ q. elim (dec_pair q) [ yes a ↦ inl a | no f ↦ inr f ];
  search = λ q. elim (dec_both (dec_cycle q) (dec_not (dec_pair q))) [ yes a ↦ inl a | no f ↦ inr f ];
}
