-- Flags: what they keep is a repair of the table, and one row exchanged for another of its block leaves it one.
use Rattle.std.proofs.Common.{◌≡◌, ℕ, zero, suc, ◌<◌, ◌≢◌, ◌⊎◌, ◌↔◌, inl, inr, Bool, true, false, List, [], ◌∷◌, length, get_or, refl, ap, sym, ◌∙◌, subst, arith, Contains, le_of_suc-le-suc, suc-le-suc}
use native.Mathlib.Decide.{ℕ_discrete}
use Rattle.std.proofs.lemmas.Bool.{false≢true}
use Rattle.std.proofs.lemmas.List.{get_or_default}
use Rattle.cqa_value.specs.declared.value.Value.{Value}
use Rattle.cqa_model.specs.Repairs.{SharesKey, IsTableRepair, HasOne, IsSublist}
use Rattle.cqa_model.proofs.Classic.{mem-head, mem-tail, mem-nil, mem-cases}
use Rattle.cqa_model.proofs.Repairs.{sublist-drop, shares-sym, shares-trans}
use Rattle.repair_back.specs.Flags.{IsFlagged, kept_of, HasOneFlagEach}

kept_of-sublist : (rows : List (List Value)) (flags : List Bool) → IsSublist (kept_of rows flags) rows
kept_of-sublist [] flags = tt
kept_of-sublist (x ∷ xs) [] = tt
kept_of-sublist (x ∷ xs) (true ∷ bs) = inl (refl, kept_of-sublist xs bs)
kept_of-sublist (x ∷ xs) (false ∷ bs) = sublist-drop (kept_of xs bs) xs x (kept_of-sublist xs bs)

-- a flag that is set is one of the list's
pub flag-there : (flags : List Bool) (p : ℕ) → IsFlagged flags p → p < length flags
flag-there [] p f = absurd (false≢true f)
flag-there (b ∷ bs) zero f = omega arith
flag-there (b ∷ bs) (suc p) f = suc-le-suc (flag-there bs p f)

pub kept_of-into : (rows : List (List Value)) (flags : List Bool) (p : ℕ) → p < length rows → IsFlagged flags p → Contains (kept_of rows flags) (get_or rows p [])
kept_of-into [] flags p l f = absurd (omega arith)
kept_of-into (x ∷ xs) [] p l f = absurd (false≢true f)
kept_of-into (x ∷ xs) (true ∷ bs) zero l f = mem-head x (kept_of xs bs)
kept_of-into (x ∷ xs) (false ∷ bs) zero l f = absurd (false≢true f)
kept_of-into (x ∷ xs) (true ∷ bs) (suc p) l f = mem-tail (get_or xs p []) x (kept_of xs bs) (kept_of-into xs bs p (le_of_suc-le-suc l) f)
kept_of-into (x ∷ xs) (false ∷ bs) (suc p) l f = kept_of-into xs bs p (le_of_suc-le-suc l) f

abbrev pub Flagged : List (List Value) → List Bool → List Value → Type 0
Flagged rows flags x = (p : ℕ) × (p < length rows) × IsFlagged flags p × (get_or rows p [] ≡ x)

later : (y : List Value) (xs : List (List Value)) (b : Bool) (bs : List Bool) (x : List Value) → Flagged xs bs x → Flagged (y ∷ xs) (b ∷ bs) x
later y xs b bs x h = (suc h.0, suc-le-suc h.1, h.2, h.3)

pub kept_of-out : (rows : List (List Value)) (flags : List Bool) (x : List Value) → Contains (kept_of rows flags) x → Flagged rows flags x
kept_of-out [] flags x m = absurd (mem-nil x m)
kept_of-out (y ∷ xs) [] x m = absurd (mem-nil x m)
kept_of-out (y ∷ xs) (true ∷ bs) x m = elim (mem-cases x y (kept_of xs bs) m) [ inl e ↦ (0, omega arith, refl, e) | inr n ↦ later y xs true bs x (kept_of-out xs bs x n) ]
kept_of-out (y ∷ xs) (false ∷ bs) x m = later y xs false bs x (kept_of-out xs bs x m)

pub choice-repair : (key : List ℕ) (rows : List (List Value)) (flags : List Bool) → HasOneFlagEach key rows flags → IsTableRepair key rows (kept_of rows flags)
choice-repair key rows flags h = record { stored = kept_of-sublist rows flags; one = one }
  where
    one : (x : List Value) → Contains rows x → HasOne key (kept_of rows flags) x
    one x m =
        let c = h.some m.0 m.1 in
        let l : c.0 < length rows = subst (λ n. c.0 < n) h.size (flag-there flags c.0 c.1) in
        let e : get_or rows m.0 [] ≡ x = get_or_default rows m.0 [] x m.1 ∙ m.2 in
        let s : SharesKey key x (get_or rows c.0 []) = subst (λ z. SharesKey key z (get_or rows c.0 [])) e c.2 in
        record {
          row = get_or rows c.0 [];
          is_kept = kept_of-into rows flags c.0 l c.1;
          shares = s;
          only = λ y my xy.
              let f = kept_of-out rows flags y my in
              let same : f.0 ≡ c.0 = h.one f.0 c.0 f.2 c.1 (subst (λ z. SharesKey key z (get_or rows c.0 [])) (sym f.3) (shares-trans key y x (get_or rows c.0 []) (shares-sym key x y xy) s)) in
              sym f.3 ∙ ap (λ z. get_or rows z []) same;
        }

-- the flags of a choice with one row exchanged
module _ (key : List ℕ) (rows : List (List Value)) (old new : List Bool) (a b : ℕ) (size : length new ≡ length old) (fa : IsFlagged old a)
    (ab : SharesKey key (get_or rows a []) (get_or rows b [])) (h : HasOneFlagEach key rows old) (is : (p : ℕ) → IsFlagged new p ↔ ((p ≡ b) ⊎ (IsFlagged old p × (p ≢ a)))) where
  some : (i : ℕ) → i < length rows → (p : ℕ) × IsFlagged new p × SharesKey key (get_or rows i []) (get_or rows p [])
  some i l = let c = h.some i l in go c.0 c.1 c.2 (ℕ_discrete c.0 a)
    where
      go : (p : ℕ) → IsFlagged old p → SharesKey key (get_or rows i []) (get_or rows p []) → Dec (p ≡ a) → (p : ℕ) × IsFlagged new p × SharesKey key (get_or rows i []) (get_or rows p [])
      go p f s (yes e) = (b, (is b).1 (inl refl), shares-trans key (get_or rows i []) (get_or rows a []) (get_or rows b []) (subst (λ z. SharesKey key (get_or rows i []) (get_or rows z [])) e s) ab)
      go p f s (no n) = (p, (is p).1 (inr (f, n)), s)

  -- of a's block, only b is flagged now
  only_b : (r : ℕ) → IsFlagged old r → r ≢ a → SharesKey key (get_or rows b []) (get_or rows r []) → ⊥
  only_b r f n s = n (sym (h.one a r fa f (shares-trans key (get_or rows a []) (get_or rows b []) (get_or rows r []) ab s)))

  one : (p r : ℕ) → IsFlagged new p → IsFlagged new r → SharesKey key (get_or rows p []) (get_or rows r []) → p ≡ r
  one p r fp fr s = elim ((is p).0 fp) [
    | inl e ↦ elim ((is r).0 fr) [ inl f ↦ e ∙ sym f | inr g ↦ absurd (only_b r g.0 g.1 (subst (λ z. SharesKey key (get_or rows z []) (get_or rows r [])) e s)) ]
    | inr g ↦ elim ((is r).0 fr) [
      | inl f ↦ absurd (only_b p g.0 g.1 (shares-sym key (get_or rows p []) (get_or rows b []) (subst (λ z. SharesKey key (get_or rows p []) (get_or rows z [])) f s)))
      | inr k ↦ h.one p r g.0 k.0 s
    ]
  ]

  pub exchanged-choice : HasOneFlagEach key rows new
  exchanged-choice = record { size = size ∙ h.size; some = some; one = one }

  -- what is kept then is b's row, or was kept
  pub exchanged-here : (x : List Value) → Contains (kept_of rows new) x → (x ≡ get_or rows b []) ⊎ Contains (kept_of rows old) x
  exchanged-here x m = let f = kept_of-out rows new x m in elim ((is f.0).0 f.2) [
    | inl e ↦ inl (sym f.3 ∙ ap (λ z. get_or rows z []) e)
    | inr g ↦ inr (subst (λ z. Contains (kept_of rows old) z) f.3 (kept_of-into rows old f.0 f.1 g.0))
  ]
