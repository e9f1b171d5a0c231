-- Exchange: where B stands for A in G's block, each row of another atom that G doesn't attack was there before, and each key of G.
use Rattle.std.proofs.Common.{◌≡◌, ℕ, ◌<◌, ◌⊎◌, inl, inr, List, [], ◌∷◌, length, get_or, map, refl, ap, sym, ◌∙◌, subst, Contains}
use native.Mathlib.Decide.{ℕ_discrete}
use Rattle.cqa_model.specs.declared.query.Cond.{Cond}
use Rattle.cqa_model.specs.declared.query.Cond.TheVariants.{Join, Test}
use Rattle.cqa_model.specs.declared.query.ColRef.{ColRef}
use Rattle.cqa_model.specs.declared.query.Query.{Query}
use Rattle.cqa_value.specs.declared.value.Value.{Value}
use Rattle.cqa_value.proofs.Words.{map_alike}
use Rattle.cqa_model.specs.Shape.{IsInRange, columns_of}
use Rattle.cqa_model.specs.Query.{OpHolds, atom_key, rows_of, row_at, value, CondHolds}
use Rattle.cqa_model.specs.Repairs.{SharesKey, IsRepairBy}
use Rattle.cqa_model.proofs.Fitting.{FitsTables}
use Rattle.cqa_model.specs.Database.{nothing}
use Rattle.cqa_model.specs.Variables.{AreLinked, IsJoined, IsVar}
use Rattle.cqa_model.specs.Closures.{CountsFor, InPlus}
use Rattle.cqa_model.specs.Graph.{IsReached, Attacks}
use Rattle.cqa_model.specs.Plan.{Placed, IsUnattacked}
use Rattle.cqa_model.specs.Partial.{view_of, AllFit, IsPartial}
use Rattle.cqa_model.proofs.Classic.{Classically, choice, same_value, mem-head, mem-tail, map_agree}
use Rattle.cqa_model.proofs.Repairs.{shares-sym, shares-eq}
use Rattle.cqa_model.proofs.Views.{linked-self, linked-join, view-in_range, taken-in_range, free-left, agree-not_free}
use Rattle.cqa_model.proofs.Agreement.{agreement}

module _ (q : Query) (keys : List (List ℕ)) (tables : List (List (List Value))) (fits : FitsTables q keys tables)
    (row : List Value) (taken : List Placed) (all : AllFit q row taken) (r s : List (List (List Value))) (hr : IsRepairBy keys tables r)
    (S T : List (List Value)) (hS : IsPartial q row taken r S) (hT : IsPartial q row taken s T) (G : ℕ) (hG : (view_of q taken).has G)
    (elsewhere : (K : ℕ) → CountsFor q (view_of q taken) G K → (x : List Value) → Contains (rows_of q s K) x → Contains (rows_of q r K) x)
    (shares : SharesKey (atom_key q G) (row_at S G) (row_at T G)) where
  -- the atoms whose row S gives
  abbrev IsFirst : ℕ → Type 0
  IsFirst F = (view_of q taken).has F × ((F ≡ G) ⊎ ((v : ColRef) × IsReached q (view_of q taken) G v × IsVar q (view_of q taken) F v))

  abbrev IsMixed : List (List Value) → Type 0
  IsMixed U = (F : ℕ) → F < length q.atoms → (IsFirst F × (row_at U F ≡ row_at S F)) ⊎ ((IsFirst F → ⊥) × (row_at U F ≡ row_at T F))

  -- a column of an atom of S and one of an atom of T that are joined have one value in S and T
  mixed-agree : (c d : ColRef) → IsJoined q.conds c d → IsInRange q.atoms c → IsInRange q.atoms d → IsFirst c.atom → (IsFirst d.atom → ⊥) → value S c ≡ value T c
  mixed-agree c d j hc hd first second = same_value (value S c) (value T c) (λ k.
      agree-not_free q row taken r s S T hS hT c (λ free.
      let outside : InPlus q (view_of q taken) G c → ⊥ = λ p. k (agreement q keys tables fits row taken r s hr S T hS hT G elsewhere shares c p) in
      let var_c : IsVar q (view_of q taken) c.atom c = (free, (c.col, hc.1, linked-self q c)) in
      let link : AreLinked q c d = linked-join q c d j in
      let has_d : (view_of q taken).has d.atom = free-left q taken d.atom hd.0 c free d.col hd.1 link in
      let var_d : IsVar q (view_of q taken) d.atom c = (free, (d.col, hd.1, link)) in
      second (has_d, inr (c, reached outside var_c first.1, var_d))) k)
    where
      reached : (InPlus q (view_of q taken) G c → ⊥) → IsVar q (view_of q taken) c.atom c →
          (c.atom ≡ G) ⊎ ((v : ColRef) × IsReached q (view_of q taken) G v × IsVar q (view_of q taken) c.atom v) → IsReached q (view_of q taken) G c
      reached outside var_c (inl e) = ([], (outside, subst (λ z. IsVar q (view_of q taken) z c) e var_c))
      reached outside var_c (inr (v, (us, h), var_v)) = (v ∷ us, (outside, (c.atom, first.0, var_v, var_c), h))

  module _ (U : List (List Value)) (size : length U ≡ length q.atoms) (mixed : IsMixed U) where
    mixed-joined : (c d : ColRef) → IsInRange q.atoms c → IsInRange q.atoms d → Contains q.conds (Join c d) → value U c ≡ value U d
    mixed-joined c d hc hd m = go (mixed c.atom hc.0) (mixed d.atom hd.0)
      where
        go : (IsFirst c.atom × (row_at U c.atom ≡ row_at S c.atom)) ⊎ ((IsFirst c.atom → ⊥) × (row_at U c.atom ≡ row_at T c.atom)) →
            (IsFirst d.atom × (row_at U d.atom ≡ row_at S d.atom)) ⊎ ((IsFirst d.atom → ⊥) × (row_at U d.atom ≡ row_at T d.atom)) → value U c ≡ value U d
        go (inl p) (inl o) = ap (λ x. get_or x c.col nothing) p.1 ∙ hS.holds (Join c d) m ∙ sym (ap (λ x. get_or x d.col nothing) o.1)
        go (inr p) (inr o) = ap (λ x. get_or x c.col nothing) p.1 ∙ hT.holds (Join c d) m ∙ sym (ap (λ x. get_or x d.col nothing) o.1)
        go (inl p) (inr o) = ap (λ x. get_or x c.col nothing) p.1 ∙ mixed-agree c d (inl m) hc hd p.0 o.0 ∙ hT.holds (Join c d) m ∙ sym (ap (λ x. get_or x d.col nothing) o.1)
        go (inr p) (inl o) = ap (λ x. get_or x c.col nothing) p.1 ∙ hT.holds (Join c d) m ∙ sym (mixed-agree d c (inr m) hd hc o.0 p.0) ∙ sym (ap (λ x. get_or x d.col nothing) o.1)

    mixed-one : (c : ColRef) → c.atom < length q.atoms → (value U c ≡ value S c) ⊎ (value U c ≡ value T c)
    mixed-one c l = elim (mixed c.atom l) [ inl p ↦ inl (ap (λ x. get_or x c.col nothing) p.1) | inr p ↦ inr (ap (λ x. get_or x c.col nothing) p.1) ]

    mixed-holds : (k : Cond) → Contains q.conds k → ((c : ColRef) → Contains (columns_of k) c → IsInRange q.atoms c) → CondHolds U k
    mixed-holds (Join c d) m h = mixed-joined c d (h c (mem-head c (d ∷ []))) (h d (mem-tail d c (d ∷ []) (mem-head d []))) m
    mixed-holds (Test c op x) m h = elim (mixed-one c (h c (mem-head c [])).0) [
      | inl e ↦ subst (λ z. OpHolds op z x) (sym e) (hS.holds (Test c op x) m)
      | inr e ↦ subst (λ z. OpHolds op z x) (sym e) (hT.holds (Test c op x) m)
    ]

    mixed-answers : map (value U) q.answer ≡ row
    mixed-answers = map_alike (value U) (value S) q.answer (λ c m. elim (mixed-one c (q.kept.answer_in_range c m).0) [
      | inl e ↦ e
      | inr e ↦ e ∙ map_agree (value T) (value S) q.answer (hT.answers ∙ sym hS.answers) c m
    ]) ∙ hS.answers

    mixed-partial : IsPartial q row taken r U
    mixed-partial = record {
      size = size;
      keeps = λ F has. keeps F has (mixed F (view-in_range q taken F has));
      holds = λ k m. mixed-holds k m (q.kept.conds_in_range k m);
      answers = mixed-answers;
      extends = λ t m. extends t m (mixed t.atom (taken-in_range q row taken all t m));
    }
      where
        keeps : (F : ℕ) → (view_of q taken).has F → (IsFirst F × (row_at U F ≡ row_at S F)) ⊎ ((IsFirst F → ⊥) × (row_at U F ≡ row_at T F)) → Contains (rows_of q r F) (row_at U F)
        keeps F has (inl p) = subst (λ x. Contains (rows_of q r F) x) (sym p.1) (hS.keeps F has)
        keeps F has (inr p) = subst (λ x. Contains (rows_of q r F) x) (sym p.1) (elsewhere F (has, inl (λ e. p.0 (has, inl e))) (row_at T F) (hT.keeps F has))

        extends : (t : Placed) → Contains taken t → (IsFirst t.atom × (row_at U t.atom ≡ row_at S t.atom)) ⊎ ((IsFirst t.atom → ⊥) × (row_at U t.atom ≡ row_at T t.atom)) → row_at U t.atom ≡ t.row
        extends t m (inl p) = p.1 ∙ hS.extends t m
        extends t m (inr p) = p.1 ∙ hT.extends t m

    mixed-shares : (F : ℕ) → (view_of q taken).has F → (Attacks q (view_of q taken) G F → ⊥) → SharesKey (atom_key q F) (row_at T F) (row_at U F)
    mixed-shares F has free = go (mixed F (view-in_range q taken F has)) (ℕ_discrete G F)
      where
        go : (IsFirst F × (row_at U F ≡ row_at S F)) ⊎ ((IsFirst F → ⊥) × (row_at U F ≡ row_at T F)) → Dec (G ≡ F) → SharesKey (atom_key q F) (row_at T F) (row_at U F)
        go (inr p) d = shares-eq (atom_key q F) (row_at T F) (row_at U F) (sym p.1)
        go (inl p) (yes e) = subst (λ x. SharesKey (atom_key q F) (row_at T F) x) (sym p.1) (subst (λ z. SharesKey (atom_key q z) (row_at T z) (row_at S z)) e (shares-sym (atom_key q G) (row_at S G) (row_at T G) shares))
        go (inl p) (no ne) = absurd (attacked p.0.1)
          where
            attacked : (F ≡ G) ⊎ ((v : ColRef) × IsReached q (view_of q taken) G v × IsVar q (view_of q taken) F v) → ⊥
            attacked (inl e) = ne (sym e)
            attacked (inr h) = free (hG, has, ne, h)

  -- of an atom that G doesn't attack
  pub exchanged_by : (F : ℕ) → (view_of q taken).has F → (Attacks q (view_of q taken) G F → ⊥) →
      Classically ((U : List (List Value)) × IsPartial q row taken r U × SharesKey (atom_key q F) (row_at T F) (row_at U F))
  exchanged_by F has free k =
      choice [] (length q.atoms) (λ i x. (IsFirst i × (x ≡ row_at S i)) ⊎ ((IsFirst i → ⊥) × (x ≡ row_at T i)))
      (λ i l out. out (row_at T i, inr ((λ first. out (row_at S i, inl (first, refl))), refl)))
      (λ p. k (p.0, mixed-partial p.0 p.1 p.2, mixed-shares p.0 p.1 p.2 F has free))

  -- and so of one that no atom attacks
  pub exchanged : (F : ℕ) → (view_of q taken).has F → IsUnattacked q (view_of q taken) F →
      Classically ((U : List (List Value)) × IsPartial q row taken r U × SharesKey (atom_key q F) (row_at T F) (row_at U F))
  exchanged F has free = exchanged_by F has (free G)
