-- Agreement: two witnesses whose rows of G share a key agree on G+, where all else is of one repair.
use Rattle.std.proofs.Common.{◌≡◌, ℕ, ◌<◌, inl, inr, List, [], ◌∷◌, length, get_or, ap, sym, ◌∙◌, subst, Contains}
use Rattle.cqa_model.specs.declared.query.ColRef.{ColRef}
use Rattle.cqa_model.specs.declared.query.Query.{Query}
use Rattle.cqa_value.specs.declared.value.Value.{Value}
use Rattle.cqa_model.specs.Query.{atom_at, atom_key, rows_of, row_at, value}
use Rattle.cqa_model.specs.Repairs.{SharesKey, IsRepairBy}
use Rattle.cqa_model.proofs.Fitting.{FitsTables}
use Rattle.cqa_model.specs.Database.{nothing}
use Rattle.cqa_model.specs.Variables.{IsKeyVar}
use Rattle.cqa_model.specs.Closures.{HasVariable, IsDerived, IsDerivation, CountsFor, InPlus}
use Rattle.cqa_model.specs.Plan.{Placed}
use Rattle.cqa_model.specs.Partial.{view_of, IsPartial}
use Rattle.cqa_model.proofs.Classic.{same_value, mem-nil, mem-cases}
use Rattle.cqa_model.proofs.Repairs.{one_of_block}
use Rattle.cqa_model.proofs.Views.{linked-self, value-linked, view-in_range, agree-not_free}

module _ (q : Query) (keys : List (List ℕ)) (tables : List (List (List Value))) (fits : FitsTables q keys tables) where
  -- two kept rows of one atom that share a key are one
  pub one_of_atom : (r : List (List (List Value))) → IsRepairBy keys tables r → (F : ℕ) → F < length q.atoms → (x y : List Value) →
      Contains (rows_of q r F) x → Contains (rows_of q r F) y → SharesKey (atom_key q F) x y → x ≡ y
  one_of_atom r h F l x y mx my s =
      one_of_block (get_or keys (atom_at q F).table []) (get_or tables (atom_at q F).table []) (rows_of q r F) (h.each (atom_at q F).table (fits.in_tables F l)) x y mx my
      (subst (λ k. SharesKey k x y) (fits.keyed F l) s)

  module _ (row : List Value) (taken : List Placed) (r s : List (List (List Value))) (hr : IsRepairBy keys tables r)
      (S T : List (List Value)) (hS : IsPartial q row taken r S) (hT : IsPartial q row taken s T) (G : ℕ)
      (elsewhere : (K : ℕ) → CountsFor q (view_of q taken) G K → (x : List Value) → Contains (rows_of q s K) x → Contains (rows_of q r K) x)
      (shares : SharesKey (atom_key q G) (row_at S G) (row_at T G)) where
    agree-derived : (vs : List ColRef) → ((u : ColRef) → HasVariable q vs u → value S u ≡ value T u) → (v : ColRef) →
        IsDerived q (view_of q taken) (CountsFor q (view_of q taken) G) (IsKeyVar q (view_of q taken) G) vs v → value S v ≡ value T v
    agree-derived vs ih v (inl (free, (p, m, l))) =
        value-linked q S hS.holds v (record { atom = G; col = p }) l ∙ shares p m ∙ sym (value-linked q T hT.holds v (record { atom = G; col = p }) l)
    agree-derived vs ih v (inr (K, counts, (free, (p, lp, l)), all)) =
        value-linked q S hS.holds v (record { atom = K; col = p }) l ∙ ap (λ x. get_or x p nothing) same ∙ sym (value-linked q T hT.holds v (record { atom = K; col = p }) l)
      where
        same_key : SharesKey (atom_key q K) (row_at S K) (row_at T K)
        same_key p m = same_value (value S (record { atom = K; col = p })) (value T (record { atom = K; col = p }))
            (λ k. agree-not_free q row taken r s S T hS hT (record { atom = K; col = p })
            (λ free. k (ih (record { atom = K; col = p }) (all (record { atom = K; col = p }) (free, (p, m, linked-self q (record { atom = K; col = p })))))) k)

        same : row_at S K ≡ row_at T K
        same = one_of_atom r hr K (view-in_range q taken K counts.0) (row_at S K) (row_at T K) (hS.keeps K counts.0) (elsewhere K counts (row_at T K) (hT.keeps K counts.0)) same_key

    agree-derivation : (vs : List ColRef) → IsDerivation q (view_of q taken) (CountsFor q (view_of q taken) G) (IsKeyVar q (view_of q taken) G) vs →
        (u : ColRef) → Contains vs u → value S u ≡ value T u
    agree-derivation [] d u m = absurd (mem-nil u m)
    agree-derivation (v ∷ vs) d u m = elim (mem-cases u v vs m) [
      | inl e ↦ ap (λ z. value S z) (sym e) ∙ agree-derived vs (λ x h. value-linked q S hS.holds x h.0 h.2 ∙ agree-derivation vs d.1 h.0 h.1 ∙ sym (value-linked q T hT.holds x h.0 h.2)) v d.0 ∙ ap (λ z. value T z) e
      | inr n ↦ agree-derivation vs d.1 u n
    ]

    pub agreement : (v : ColRef) → InPlus q (view_of q taken) G v → value S v ≡ value T v
    agreement v (vs, d, (u, m, l)) = value-linked q S hS.holds v u l ∙ agree-derivation vs d u m ∙ sym (value-linked q T hT.holds v u l)
