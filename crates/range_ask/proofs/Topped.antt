-- The row of greatest value, with one block more; and the repair in which it alone meets the tests.
use Rattle.std.proofs.Common.{◌≡◌, ◌⊎◌, inl, inr, ℕ, ◌+◌, ◌<◌, List, [], ◌∷◌, ◌++◌, length, set, Option, Some, None, Contains, Bool, true, false, sym, ◌∙◌, ap, subst, arith, length-append}
use Rattle.std.proofs.lemmas.List.{append-nil, set-append_left}
use Rattle.std.proofs.Math.Seq.{set-append_seam}
use Rattle.std.proofs.lemmas.List.Elements.{Contains-append_cases}
use Rattle.std.proofs.lemmas.Grind.{flat_map-append}
use Rattle.cqa_value.specs.declared.value.Value.{Value}
use Rattle.cqa_value.proofs.Words.{clash}
use Rattle.range_ask.specs.declared.way.Way.{Way}
use Rattle.range_ask.specs.declared.found.Spot.{Spot}
use Rattle.range_ask.specs.declared.top.Top.{Top}
use Rattle.range_ask.specs.Ranges.{cell}
use Rattle.range_ask.specs.Picks.{Before}
use Rattle.range_ask.specs.Finding.{IsFurthest}
use Rattle.range_ask.specs.Walking.{rows_of_blocks, IsNextBlock, AreChosenSoFar}
use Rattle.range_ask.specs.Reaching.{IsTop}
use Rattle.range_ask.proofs.Ordered.{before-trans}
use Rattle.range_ask.proofs.Chosen.{place}
use Rattle.range_ask.proofs.Walked.{row-here, chosen-more}
use Rattle.std.proofs.lemmas.List.Elements.{Contains-get_or}

abbrev pub Kept : List (List Value) → List (List (List Value)) → List ℕ → Type 0
Kept rows front places = AreChosenSoFar (λ (b : List (List Value)) x. Contains b x) rows front places

module _ (way : Way) (p : List Value → Bool) (col : ℕ) (rows : List (List Value)) (front : List (List (List Value))) (block : List (List Value)) (later : List (List (List Value))) (start : ℕ) (next : IsNextBlock rows front block later start) where
  more-cases : (y : List Value) → Contains (rows_of_blocks (front ++ block ∷ [])) y → Contains (rows_of_blocks front) y ⊎ Contains block y
  more-cases y m = Contains-append_cases (rows_of_blocks front) block y
      (subst (λ xs. Contains xs y) (flat_map-append (λ (c : List (List Value)). c) front (block ∷ []) ∙ ap (λ xs. rows_of_blocks front ++ xs) (append-nil block)) m)

  -- no row of the block meets the tests
  unmet : IsFurthest way p col block (length block) None → (y : List Value) → Contains block y → p y ≡ false
  unmet none y m = let i = place block y m in subst (λ z. p z ≡ false) i.2 (none i.0 i.1)

  -- a row of the block lies no further than the one that was found
  beaten : (spot : Spot) → IsFurthest way p col block (length block) (Some spot) → (y : List Value) → Contains block y → p y ≡ true → Before way (cell y col) (cell spot.row.now col)
  beaten spot (l, e, is, far) y m t = let i = place block y m in subst (λ z. Before way (cell z col) (cell spot.row.now col)) i.2 (far i.0 i.1 (subst (λ z. p z ≡ true) (sym i.2) t))

  module _ (places new : List ℕ) (at : ℕ) (kept : Kept rows front places) (l : at < length block) (is : new ≡ places ++ (start + at) ∷ []) where
    set-old : (number m : ℕ) → number < length places → Kept rows front (set places number m) → Kept rows (front ++ block ∷ []) (set new number m)
    set-old number m within k =
        chosen-more rows front block later start next at l (λ (b : List (List Value)) x. Contains b x) (set places number m) (set new number m) k (Contains-get_or block at [] l)
        (ap (λ xs. set xs number m) is ∙ set-append_left places ((start + at) ∷ []) number m within)

    set-new : (number k : ℕ) → number ≡ length places → k < length block → Kept rows (front ++ block ∷ []) (set new number (start + k))
    set-new number k e lk =
        chosen-more rows front block later start next k lk (λ (b : List (List Value)) x. Contains b x) places (set new number (start + k)) kept (Contains-get_or block k [] lk)
        (ap (λ xs. set xs number (start + k)) is ∙ (ap (λ n. set (places ++ (start + at) ∷ []) n (start + k)) e ∙ set-append_seam places (start + at) [] (start + k)))

    longer : (number : ℕ) → number < length places → number < length new
    longer number within = let e = ap length is ∙ length-append places ((start + at) ∷ []) in omega (arith, within, e)

    long : (number : ℕ) → number ≡ length places → number < length new
    long number same = let e = ap length is ∙ length-append places ((start + at) ∷ []) in omega (arith, same, e)

    -- the row so far stays, where no row of the block lies further
    pub top-stays : (top : Top) → IsTop way p col rows front places (Some top) → ((y : List Value) → Contains block y → p y ≡ true → Before way (cell y col) (cell top.row.now col)) →
        IsTop way p col rows (front ++ block ∷ []) new (Some top)
    top-stays top h behind = record {
      there = longer top.number h.there;
      meets = h.meets;
      is = h.is;
      best = λ y m t. elim (more-cases y m) [ inl k ↦ h.best y k t | inr k ↦ behind y k t ];
      kept = set-old top.number top.place h.there h.kept;
    }

    pub top-unmet : (top : Option Top) → IsTop way p col rows front places top → IsFurthest way p col block (length block) None → IsTop way p col rows (front ++ block ∷ []) new top
    top-unmet None h none = λ y m. elim (more-cases y m) [ inl k ↦ h y k | inr k ↦ unmet none y k ]
    top-unmet (Some top) h none = top-stays top h (λ y m t. absurd (clash (p y) t (unmet none y m)))

    pub top-beaten : (spot : Spot) → IsFurthest way p col block (length block) (Some spot) → (top : Top) → IsTop way p col rows front places (Some top) → Before way (cell spot.row.now col) (cell top.row.now col) →
        IsTop way p col rows (front ++ block ∷ []) new (Some top)
    top-beaten spot far top h b = top-stays top h (λ y m t. before-trans way (cell y col) (cell spot.row.now col) (cell top.row.now col) (beaten spot far y m t) b)

    -- the row of the block is the one
    pub top-fresh : (spot : Spot) → IsFurthest way p col block (length block) (Some spot) → (number : ℕ) → number ≡ length places →
        ((y : List Value) → Contains (rows_of_blocks front) y → p y ≡ true → Before way (cell y col) (cell spot.row.now col)) →
        IsTop way p col rows (front ++ block ∷ []) new (Some (record { number = number; place = start + spot.at; row = spot.row }))
    top-fresh spot far number e behind =
        let here = row-here rows front block later start next spot.at far.0 in record {
          there = long number e;
          meets = subst (λ z. p z ≡ true) (sym here) far.1;
          is = here ∙ far.2;
          best = λ y m t. elim (more-cases y m) [ inl k ↦ behind y k t | inr k ↦ beaten spot far y k t ];
          kept = set-new number spot.at e far.0;
        }

    pub top-first : (spot : Spot) → IsFurthest way p col block (length block) (Some spot) → (number : ℕ) → number ≡ length places → IsTop way p col rows front places None →
        IsTop way p col rows (front ++ block ∷ []) new (Some (record { number = number; place = start + spot.at; row = spot.row }))
    top-first spot far number e none = top-fresh spot far number e (λ y m t. absurd (clash (p y) t (none y m)))

    pub top-further : (spot : Spot) → IsFurthest way p col block (length block) (Some spot) → (number : ℕ) → number ≡ length places → (top : Top) → IsTop way p col rows front places (Some top) →
        Before way (cell top.row.now col) (cell spot.row.now col) → IsTop way p col rows (front ++ block ∷ []) new (Some (record { number = number; place = start + spot.at; row = spot.row }))
    top-further spot far number e top h b = top-fresh spot far number e (λ y m t. before-trans way (cell y col) (cell top.row.now col) (cell spot.row.now col) (h.best y m t) b)
