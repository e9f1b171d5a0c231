-- A row of a query of one atom is certain exactly where all rows of some block fit it.
use Rattle.std.proofs.Common.{◌≡◌, ℕ, zero, suc, ◌<◌, ◌⊎◌, ◌↔◌, inl, inr, List, [], ◌∷◌, length, get_or, slice_index_or, map, refl, ap, sym, ◌∙◌, subst, arith, Contains}
use Rattle.cqa_value.specs.declared.value.Value.{Value}
use Rattle.cqa_model.specs.declared.query.Cond.{Cond}
use Rattle.cqa_model.specs.declared.query.Cond.TheVariants.{Join, Test}
use Rattle.cqa_model.specs.declared.query.ColRef.{ColRef}
use Rattle.cqa_model.specs.declared.query.Query.{Query}
use Rattle.cqa_model.specs.Shape.{IsInRange}
use Rattle.cqa_model.specs.Database.{nothing}
use Rattle.cqa_model.specs.Repairs.{SharesKey, IsSublist, HasOne, IsRepairBy}
use Rattle.cqa_model.specs.Query.{atom_at, atom_key, rows_of, row_at, value, OpHolds, CondHolds, IsWitness}
use Rattle.cqa_model.specs.OneTable.{value_in, RowMeets, answer_of, FitsRow, SomeBlockFits}
use Rattle.cqa_model.proofs.Fitting.{IsCertainBy, FitsTables}
use Rattle.cqa_model.proofs.Classic.{mem-head, mem-tail, dec_both, dec_if, dec_each, dec_some, find_in}
use Rattle.cqa_model.proofs.Values.{dec_by, dec_not, dec_op, value_discrete, row_discrete}
use Rattle.cqa_model.proofs.Repairs.{sublist-stored, dec_shares}
use Rattle.cqa_model.proofs.Witnesses.{at_table}
use Rattle.cqa_model.proofs.Preferring.{preferring}

dec_meets : (x : List Value) (k : Cond) → Dec (RowMeets x k)
dec_meets x (Join c d) = value_discrete (value_in x c) (value_in x d)
dec_meets x (Test c op y) = dec_op op (value_in x c) y

pub dec_fits_row : (q : Query) (answer x : List Value) → Dec (FitsRow q answer x)
dec_fits_row q answer x =
    dec_by (λ h. record { meets = h.0; gives = h.1 }) (λ h. (h.meets, h.gives))
    (dec_both (dec_each (RowMeets x) (dec_meets x) q.conds) (row_discrete (answer_of q x) answer))

pub first_atom : (q : Query) → length q.atoms ≡ 1 → (c : ColRef) → IsInRange q.atoms c → c.atom ≡ 0
first_atom q one c (l, w) = omega arith

-- a row alone is a witness where it fits
module _ (q : Query) (one : length q.atoms ≡ 1) (x : List Value) where
  value-alone : (c : ColRef) → IsInRange q.atoms c → value (x ∷ []) c ≡ value_in x c
  value-alone c r = ap (λ F. slice_index_or (row_at (x ∷ []) F) c.col nothing) (first_atom q one c r)

  pub cond-alone : (k : Cond) → Contains q.conds k → CondHolds (x ∷ []) k ↔ RowMeets x k
  cond-alone (Join c d) m =
      let ec : value (x ∷ []) c ≡ value_in x c = value-alone c (q.kept.conds_in_range (Join c d) m c (mem-head c (d ∷ []))) in
      let ed : value (x ∷ []) d ≡ value_in x d = value-alone d (q.kept.conds_in_range (Join c d) m d (mem-tail d c (d ∷ []) (mem-head d []))) in
      (λ e. sym ec ∙ e ∙ ed, λ e. ec ∙ e ∙ sym ed)
  cond-alone (Test c op y) m =
      let ec : value (x ∷ []) c ≡ value_in x c = value-alone c (q.kept.conds_in_range (Test c op y) m c (mem-head c [])) in
      (λ h. subst (λ v. OpHolds op v y) ec h, λ h. subst (λ v. OpHolds op v y) (sym ec) h)

  pub answer-alone : map (value (x ∷ [])) q.answer ≡ answer_of q x
  answer-alone = same q.answer q.kept.answer_in_range
    where
      same : (cs : List ColRef) → ((c : ColRef) → Contains cs c → IsInRange q.atoms c) → map (value (x ∷ [])) cs ≡ map (value_in x) cs
      same [] h = refl
      same (c ∷ cs) h =
          let e : value (x ∷ []) c ≡ value_in x c = value-alone c (h c (mem-head c cs)) in
          let es : map (value (x ∷ [])) cs ≡ map (value_in x) cs = same cs (λ d m. h d (mem-tail d c cs m)) in
          cc

module _ (q : Query) (keys : List (List ℕ)) (tables : List (List (List Value))) (fits : FitsTables q keys tables) (row : List Value) (one : length q.atoms ≡ 1) where
  abbrev AllFitIn : List Value → Type 0
  AllFitIn x = (y : List Value) → Contains (rows_of q tables 0) y → SharesKey (atom_key q 0) x y → FitsRow q row y

  -- each repair keeps a row of the block, and this row is a witness
  pub certain-from_block : SomeBlockFits (atom_key q 0) (rows_of q tables 0) (FitsRow q row) → IsCertainBy keys q tables row
  certain-from_block (x, mx, h) r hr = witness (at_table q keys tables fits r hr 0 (omega arith)).stored ((at_table q keys tables fits r hr 0 (omega arith)).one x mx)
    where
      witness : IsSublist (rows_of q r 0) (rows_of q tables 0) → HasOne (atom_key q 0) (rows_of q r 0) x → (w : List (List Value)) × IsWitness q r row w
      witness s o = (o.row ∷ [], record { size = sym one; kept = kept; holds = λ k m. (cond-alone q one o.row k m).1 (f.meets k m); answers = answer-alone q one o.row ∙ f.gives })
        where
          f : FitsRow q row o.row
          f = h o.row (sublist-stored (rows_of q r 0) (rows_of q tables 0) s o.row o.is_kept) o.shares

          kept : (F : ℕ) → F < length q.atoms → Contains (rows_of q r F) (row_at (o.row ∷ []) F)
          kept zero l = o.is_kept
          kept (suc F) l = absurd (omega arith)

  -- where each block has a row that doesn't fit, the repair that keeps such rows has no witness
  pub block-from_certain : IsCertainBy keys q tables row → SomeBlockFits (atom_key q 0) (rows_of q tables 0) (FitsRow q row)
  block-from_certain certain =
      decide (dec_some AllFitIn (λ x. dec_each (λ y. SharesKey (atom_key q 0) x y → FitsRow q row y) (λ y. dec_if (dec_shares (atom_key q 0) x y) (dec_fits_row q row y)) (rows_of q tables 0)) (rows_of q tables 0))
    where
      Bad : ℕ → List Value → Type 0
      Bad t x = FitsRow q row x → ⊥

      decide : Dec ((x : List Value) × Contains (rows_of q tables 0) x × AllFitIn x) → SomeBlockFits (atom_key q 0) (rows_of q tables 0) (FitsRow q row)
      decide (yes h) = h
      decide (no none) = absurd (clash (preferring keys tables Bad (λ t x. dec_not (dec_fits_row q row x))))
        where
          clash : (r : List (List (List Value))) × IsRepairBy keys tables r × ((t : ℕ) → t < length tables → (x z : List Value) → Contains (get_or tables t []) x → Bad t x →
              Contains (get_or r t []) z → SharesKey (get_or keys t []) z x → Bad t z) → ⊥
          clash (r, hr, prefers) = of_witness (certain r hr)
            where
              bad_row : (x : List Value) → Contains (rows_of q r 0) x → FitsRow q row x →
                  ((y : List Value) → Contains (rows_of q tables 0) y → SharesKey (atom_key q 0) x y → FitsRow q row y) ⊎ ((y : List Value) × Contains (rows_of q tables 0) y × ((SharesKey (atom_key q 0) x y → FitsRow q row y) → ⊥)) → ⊥
              bad_row x m f (inl h) = none (x, sublist-stored (rows_of q r 0) (rows_of q tables 0) (at_table q keys tables fits r hr 0 (omega arith)).stored x m, h)
              bad_row x m f (inr (y, my, bad)) = shared (dec_shares (atom_key q 0) x y)
                where
                  shared : Dec (SharesKey (atom_key q 0) x y) → ⊥
                  shared (no ns) = bad (λ s. absurd (ns s))
                  shared (yes s) = prefers (atom_at q 0).table (fits.in_tables 0 (omega arith)) y x my (λ fy. bad (λ t. fy)) m (subst (λ k. SharesKey k x y) (fits.keyed 0 (omega arith)) s) f

              of_witness : (w : List (List Value)) × IsWitness q r row w → ⊥
              of_witness ([], hw) = let e : 0 ≡ length q.atoms = hw.size in omega arith
              of_witness (x ∷ [], hw) = bad_row x (hw.kept 0 (omega arith)) (record { meets = λ k m. (cond-alone q one x k m).0 (hw.holds k m); gives = sym (answer-alone q one x) ∙ hw.answers })
                  (find_in (λ y. SharesKey (atom_key q 0) x y → FitsRow q row y) (λ y. dec_if (dec_shares (atom_key q 0) x y) (dec_fits_row q row y)) (rows_of q tables 0))
              of_witness (x ∷ y ∷ w, hw) = let e : length (x ∷ y ∷ w) ≡ length q.atoms = hw.size in omega arith
