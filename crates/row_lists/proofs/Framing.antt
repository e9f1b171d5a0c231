-- Frames: their slots, and rising tables.
use Rattle.std.proofs.Common.{◌≡◌, ℕ, zero, suc, ◌<◌, ◌≤◌, ◌⊎◌, inl, inr, List, [], ◌∷◌, length, get_or, sym, ◌∙◌, ap, subst, arith, Contains}
use Rattle.std.proofs.lemmas.Bool.{cases_order}
use Rattle.std.proofs.lemmas.List.Elements.{Contains-get_or}
use Rattle.std.proofs.lemmas.Map.Keys.{Less-from_sorted}
use Rattle.std.specs.Ordering.{nat_cmp}
use Rattle.std.specs.List.Sorted.{IsStrictlySortedBy}
use Rattle.cqa_model.specs.declared.query.RowId.{RowId}
use Rattle.cqa_model.specs.Database.{Table}
use Rattle.row_lists.specs.Formulas.{table_at, IsFrame, AreWithin}
use Rattle.row_lists.specs.Frames.{AreSlots, AreInFrame}
use Rattle.row_lists.proofs.Order.{from_less}

abbrev pub AreApart : List ℕ → Type 0
AreApart tables = (r s : ℕ) → r < length tables → s < length tables → get_or tables r 0 ≡ get_or tables s 0 → r ≡ s

-- the first n tables have their slots
abbrev pub HaveSlotsTo : List ℕ → List ℕ → ℕ → Type 0
HaveSlotsTo tables slots n = (s : ℕ) → s < n → get_or slots (get_or tables s 0) 0 ≡ s

-- ---- numbers that rise

-- rising numbers below a number are at most so many
rises_above : (xs : List ℕ) → ((i j : ℕ) → i < j → j < length xs → get_or xs i 0 < get_or xs j 0) → (i : ℕ) → i < length xs → i ≤ get_or xs i 0
rises_above xs s zero l = omega arith
rises_above xs s (suc i) l =
    let ih = rises_above xs s i (omega (arith, l)) in
    let less = s i (suc i) (omega arith) l in
    omega (arith, ih, less)

pub few_below : (xs : List ℕ) (n : ℕ) → ((i j : ℕ) → i < j → j < length xs → get_or xs i 0 < get_or xs j 0) → ((p : ℕ) → Contains xs p → p < n) → length xs ≤ n
few_below [] n s below = omega arith
few_below (x ∷ xs) n s below =
    let l : length xs < length (x ∷ xs) = omega arith in
    let high = below (get_or (x ∷ xs) (length xs) 0) (Contains-get_or (x ∷ xs) (length xs) 0 l) in
    let low = rises_above (x ∷ xs) s (length xs) l in
    omega (arith, high, low)

module _ (tables : List ℕ) (rises : IsStrictlySortedBy nat_cmp tables) where
  pub later : (i j : ℕ) → i < j → j < length tables → get_or tables i 0 < get_or tables j 0
  later i j l lj = from_less (get_or tables i 0) (get_or tables j 0) (Less-from_sorted nat_cmp tables i j 0 rises l lj)

  pub rising_apart : AreApart tables
  rising_apart r s lr ls e = go (cases_order r s)
    where
      go : (r ≡ s) ⊎ ((r < s) ⊎ (s < r)) → r ≡ s
      go (inl same) = same
      go (inr (inl l)) = let m = later r s l ls in absurd (omega (arith, m, e))
      go (inr (inr l)) = let m = later s r l lr in absurd (omega (arith, m, e))

-- ---- frames of a database

module _ (db : List Table) (frame slots : List ℕ) (h : AreSlots frame slots) (wide : length slots ≡ length db) where
  pub is_frame : IsFrame db frame
  is_frame = record {
    there = λ s l. subst (λ n. table_at frame s < n) wide (h.there s l);
    apart = λ s t ls lt e. sym (h.slot s ls) ∙ (ap (λ u. get_or slots u 0) e ∙ h.slot t lt);
  }

  pub in_frame : (lists : List (List RowId)) → AreWithin frame lists → AreInFrame frame slots lists
  in_frame lists w id i =
      let s = w id i in
      let e : get_or slots id.table 0 ≡ s.0 = ap (λ u. get_or slots u 0) (sym s.2) ∙ h.slot s.0 s.1 in
      (subst (λ k. k < length frame) (sym e) s.1, ap (table_at frame) e ∙ s.2)

pub within_frame : (frame slots : List ℕ) (lists : List (List RowId)) → AreInFrame frame slots lists → AreWithin frame lists
within_frame frame slots lists h id i = (get_or slots id.table 0, (h id i).0, (h id i).1)
