-- Whether each repair has a decided property is decided, by looking at all lists of rows that may be kept.
use Rattle.std.proofs.Common.{◌≡◌, ℕ, ◌<◌, ◌⊎◌, inl, inr, List, [], ◌∷◌, ◌++◌, length, get_or, map, sym, subst, Contains}
use native.Mathlib.Decide.{ℕ_discrete}
use Rattle.std.proofs.lemmas.List.Elements.{Contains-append_left, Contains-append_right}
use Rattle.cqa_value.specs.declared.value.Value.{Value}
use Rattle.cqa_value.proofs.Words.{Contains-map}
use Rattle.cqa_model.specs.Repairs.{SharesKey, IsSublist, HasOne, IsTableRepair, IsRepairBy}
use Rattle.cqa_model.proofs.Values.{dec_by, dec_not, row_discrete}
use Rattle.cqa_model.proofs.Classic.{stable, mem-head, dec_both, dec_or, dec_if, dec_below, dec_each, dec_some}
use Rattle.cqa_model.proofs.Repairs.{dec_shares}
use Rattle.cqa_model.proofs.Witnesses.{dec_lists}

-- all lists of some of these rows, in their order
pub sublists : List (List Value) → List (List (List Value))
sublists [] = [] ∷ []
sublists (y ∷ ys) = map (λ xs. y ∷ xs) (sublists ys) ++ sublists ys

pub sublists-all : (xs ys : List (List Value)) → IsSublist xs ys → Contains (sublists ys) xs
unfolding sublists
sublists-all [] [] s = mem-head [] []
sublists-all (x ∷ xs) [] s = absurd s
sublists-all [] (y ∷ ys) s = Contains-append_right (map (λ zs. y ∷ zs) (sublists ys)) (sublists ys) [] (sublists-all [] ys tt)
sublists-all (x ∷ xs) (y ∷ ys) (inl p) =
    Contains-append_left (map (λ zs. y ∷ zs) (sublists ys)) (sublists ys) (x ∷ xs)
    (subst (λ z. Contains (map (λ zs. y ∷ zs) (sublists ys)) (z ∷ xs)) (sym p.0)
    (Contains-map (λ zs. y ∷ zs) (sublists ys) xs (sublists-all xs ys p.1)))
sublists-all (x ∷ xs) (y ∷ ys) (inr s) =
    Contains-append_right (map (λ zs. y ∷ zs) (sublists ys)) (sublists ys) (x ∷ xs) (sublists-all (x ∷ xs) ys s)

pub dec_sublist : (xs ys : List (List Value)) → Dec (IsSublist xs ys)
dec_sublist [] ys = yes tt
dec_sublist (x ∷ xs) [] = no (λ f. f)
dec_sublist (x ∷ xs) (y ∷ ys) = dec_or (dec_both (row_discrete x y) (dec_sublist xs ys)) (dec_sublist (x ∷ xs) ys)

pub dec_one : (key : List ℕ) (rows : List (List Value)) (x : List Value) → Dec (HasOne key rows x)
dec_one key rows x = dec_by (λ h. record { row = h.0; is_kept = h.1; shares = h.2.0; only = h.2.1 }) (λ o. (o.row, o.is_kept, (o.shares, o.only)))
    (dec_some (λ z. SharesKey key x z × ((y : List Value) → Contains rows y → SharesKey key x y → y ≡ z))
    (λ z. dec_both (dec_shares key x z) (dec_each (λ y. SharesKey key x y → y ≡ z) (λ y. dec_if (dec_shares key x y) (row_discrete y z)) rows)) rows)

pub dec_table : (key : List ℕ) (rows kept : List (List Value)) → Dec (IsTableRepair key rows kept)
dec_table key rows kept = dec_by (λ p. record { stored = p.0; one = p.1 }) (λ r. (r.stored, r.one))
    (dec_both (dec_sublist kept rows) (dec_each (λ x. HasOne key kept x) (λ x. dec_one key kept x) rows))

module _ (keys : List (List ℕ)) (tables : List (List (List Value))) where
  dec_repair : (r : List (List (List Value))) → Dec (IsRepairBy keys tables r)
  dec_repair r = dec_by (λ p. record { size = p.0; each = p.1 }) (λ h. (h.size, h.each))
      (dec_both (ℕ_discrete (length r) (length tables))
      (dec_below (λ t. IsTableRepair (get_or keys t []) (get_or tables t []) (get_or r t [])) (λ t. dec_table (get_or keys t []) (get_or tables t []) (get_or r t [])) (length tables)))

  -- each repair has the property, or one hasn't
  pub each_repair : (P : List (List (List Value)) → Type 0) → ((r : List (List (List Value))) → Dec (P r)) →
      ((r : List (List (List Value))) → IsRepairBy keys tables r → P r) ⊎ ((r : List (List (List Value))) × IsRepairBy keys tables r × (P r → ⊥))
  each_repair P d = go (dec_lists [] (length tables) (λ t. sublists (get_or tables t [])) (λ r. IsRepairBy keys tables r × (P r → ⊥)) (λ r. dec_both (dec_repair r) (dec_not (d r))))
    where
      go : Dec ((r : List (List (List Value))) × (length r ≡ length tables) × ((t : ℕ) → t < length tables → Contains (sublists (get_or tables t [])) (get_or r t [])) × (IsRepairBy keys tables r × (P r → ⊥))) →
          ((r : List (List (List Value))) → IsRepairBy keys tables r → P r) ⊎ ((r : List (List (List Value))) × IsRepairBy keys tables r × (P r → ⊥))
      go (yes h) = inr (h.0, h.3.0, h.3.1)
      go (no f) = inl (λ r h. stable (d r) (λ n. f (r, h.size, (λ t l. sublists-all (get_or r t []) (get_or tables t []) (h.each t l).stored), (h, n))))
