-- One row of each block, block by block.
use Rattle.std.proofs.Common.{◌≡◌, ℕ, ◌<◌, ◌≤◌, ◌↔◌, ◌⊎◌, inl, inr, Bool, true, false, List, [], length, get_or, sym, ◌∙◌, subst, arith}
use Rattle.std.proofs.lemmas.Bool.{false≢true, cases_order}
use Rattle.cqa_value.specs.declared.value.Value.{Value}
use Rattle.cqa_value.proofs.Words.{cases_le}
use Rattle.cqa_model.specs.Repairs.{SharesKey}
use Rattle.cqa_model.proofs.Repairs.{shares-sym, shares-trans}
use Rattle.repair_back.specs.Flags.{IsFlagged, HasOneFlagEach}
use Rattle.cqa_model.specs.Blocks.{IsPick}
use Rattle.repair_back.specs.Walking.{BeginsBlock, IsBlockBetween}
use Rattle.repair_back.proofs.Choosing.{flag-there}

-- two picks of one block are one
pick_apart : (key : List ℕ) (rows : List (List Value)) (P : ℕ → Type 0) (p r : ℕ) → IsPick key rows P p → IsPick key rows P r → SharesKey key (get_or rows p []) (get_or rows r []) → p < r → ⊥
pick_apart key rows P p r hp hr s l =
    let f = hr.first p l (shares-sym key (get_or rows p []) (get_or rows r []) s) in
    f.1 (hp.best r hr.there s f.0)

pub one_of_picks : (key : List ℕ) (rows : List (List Value)) (P : ℕ → Type 0) (p r : ℕ) → IsPick key rows P p → IsPick key rows P r → SharesKey key (get_or rows p []) (get_or rows r []) → p ≡ r
one_of_picks key rows P p r hp hr s = elim (cases_order p r) [
  | inl q ↦ q
  | inr d ↦ elim d [ inl l ↦ absurd (pick_apart key rows P p r hp hr s l) | inr l ↦ absurd (pick_apart key rows P r p hr hp (shares-sym key (get_or rows p []) (get_or rows r []) s) l) ]
]

-- the blocks before a place have their picks, and the flags from there on are as before
pub record SettledTo (key : List ℕ) (rows : List (List Value)) (old flags : List Bool) (at : ℕ) : Type 0 where
  pub size : length flags ≡ length rows
  pub within : at ≤ length rows
  pub begins : BeginsBlock key rows at
  pub picks : (p : ℕ) → p < at → IsFlagged flags p → IsPick key rows (IsFlagged old) p
  pub some : (i : ℕ) → i < at → (p : ℕ) × (p < at) × IsFlagged flags p × SharesKey key (get_or rows i []) (get_or rows p [])
  pub later : (p : ℕ) → at ≤ p → IsFlagged flags p ↔ IsFlagged old p

pub settled-none : (key : List ℕ) (rows : List (List Value)) (old : List Bool) → length old ≡ length rows → SettledTo key rows old old 0
settled-none key rows old size = record {
  size = size;
  within = omega arith;
  begins = λ i l. absurd (omega (arith, l));
  picks = λ p l. absurd (omega (arith, l));
  some = λ i l. absurd (omega (arith, l));
  later = λ p l. ((λ f. f), (λ f. f));
}

module _ (key : List ℕ) (rows : List (List Value)) (old flags : List Bool) (at : ℕ) (h : SettledTo key rows old flags at) where
  pub settled-picks : length rows ≤ at → (p : ℕ) → IsFlagged flags p → IsPick key rows (IsFlagged old) p
  settled-picks l p f = h.picks p (let t = flag-there flags p f in let size = h.size in omega (arith, t, size, l)) f

  pub settled-choice : length rows ≤ at → HasOneFlagEach key rows flags
  settled-choice l = record {
    size = h.size;
    some = λ i li. let s = h.some i (omega (arith, li, l)) in (s.0, s.2, s.3);
    one = λ p r fp fr s. one_of_picks key rows (IsFlagged old) p r (settled-picks l p fp) (settled-picks l r fr) s;
  }

  module _ (new : List Bool) (end first : ℕ) (block : IsBlockBetween key rows at end) (begins : BeginsBlock key rows end) (after : at ≤ first) (before : first < end)
      (best : (i : ℕ) → at ≤ i → i < end → IsFlagged flags i → IsFlagged flags first)
      (lead : (i : ℕ) → at ≤ i → i < first → IsFlagged flags first × (get_or flags i false ≡ false))
      (size : length new ≡ length flags) (is : (p : ℕ) → IsFlagged new p ↔ ((p ≡ first) ⊎ (IsFlagged flags p × ((p < at) ⊎ (end ≤ p))))) where
    -- rows of the block share a key
    inside : (i j : ℕ) → at ≤ i → i < end → at ≤ j → j < end → SharesKey key (get_or rows i []) (get_or rows j [])
    inside i j li ui lj uj = let within = block.within in
        shares-trans key (get_or rows i []) (get_or rows at []) (get_or rows j [])
        (shares-sym key (get_or rows at []) (get_or rows i []) ((block.exactly i (omega (arith, ui, within))).1 (li, ui))) ((block.exactly j (omega (arith, uj, within))).1 (lj, uj))

    -- and no others share it
    only : (i j : ℕ) → at ≤ i → i < end → j < length rows → SharesKey key (get_or rows i []) (get_or rows j []) → (at ≤ j) × (j < end)
    only i j li ui lj s = let within = block.within in
        (block.exactly j lj).0 (shares-trans key (get_or rows at []) (get_or rows i []) (get_or rows j []) ((block.exactly i (omega (arith, ui, within))).1 (li, ui)) s)

    is_pick : IsPick key rows (IsFlagged old) first
    is_pick = record {
      there = let within = block.within in omega (arith, before, within);
      best = λ i l s f. let o = only first i after before l s in (h.later first after).0 (best i o.0 o.1 ((h.later i o.0).1 f));
      first = λ i l s.
          let within = block.within in
          let o = only first i after before (omega (arith, l, before, within)) s in
          let f = lead i o.0 l in
          ((h.later first after).0 f.0, λ t. false≢true (sym f.1 ∙ (h.later i o.0).1 t));
    }

    pub settled-more : SettledTo key rows old new end
    settled-more = record {
      size = size ∙ h.size;
      within = block.within;
      begins = begins;
      picks = λ p l f. picked p l ((is p).0 f);
      some = λ i l. some i l (cases_le at i);
      later = λ p l. let some = block.some in (
        λ f. elim ((is p).0 f) [ inl e ↦ absurd (omega (arith, e, l, before)) | inr g ↦ (h.later p (omega (arith, l, some))).0 g.0 ],
        λ f. (is p).1 (inr ((h.later p (omega (arith, l, some))).1 f, inr l)),
      );
    }
      where
        picked : (p : ℕ) → p < end → (p ≡ first) ⊎ (IsFlagged flags p × ((p < at) ⊎ (end ≤ p))) → IsPick key rows (IsFlagged old) p
        picked p l (inl e) = subst (IsPick key rows (IsFlagged old)) (sym e) is_pick
        picked p l (inr (f, inl b)) = h.picks p b f
        picked p l (inr (f, inr b)) = absurd (omega (arith, b, l))

        some : (i : ℕ) → i < end → (at ≤ i) ⊎ (i < at) → (p : ℕ) × (p < end) × IsFlagged new p × SharesKey key (get_or rows i []) (get_or rows p [])
        some i l (inl b) = (first, before, (is first).1 (inl Rattle.std.proofs.Common.refl), inside i first b l after before)
        some i l (inr b) = let m = h.some i b in let lm = m.1 in let some = block.some in (m.0, omega (arith, lm, some), (is m.0).1 (inr (m.2, inl m.1)), m.3)
