-- One place of each block of a table: they rise, and the rows at them are those of a repair; and each repair has such places.
use Rattle.std.proofs.Common.{◌≡◌, ◌⊎◌, inl, inr, ℕ, Bool, ◌+◌, ◌-◌, ◌<◌, ◌≤◌, List, [], ◌∷◌, ◌++◌, length, Contains, refl, sym, ◌∙◌, ap, subst, arith, length-append, append_assoc}
use Rattle.std.specs.List.{AllZip}
use Rattle.std.specs.List.Sorted.{IsStrictlySortedBy}
use Rattle.std.specs.Ordering.{nat_cmp}
use Rattle.std.proofs.lemmas.List.{get_or_append_left, get_or-append-add}
use Rattle.std.proofs.lemmas.List.Elements.{Contains-get_or}
use Rattle.cqa_value.specs.declared.value.Value.{Value}
use Rattle.cqa_value.proofs.Words.{nat_cmp_less, sorted_join}
use Rattle.cqa_model.specs.Database.{Table}
use Rattle.cqa_model.specs.Repairs.{IsTableRepair}
use Rattle.cqa_model.proofs.Classic.{mem-head, mem-tail, mem-nil, mem-cases}
use Rattle.table_blocks.specs.Tables.{rows_at, key_at, rows_in}
use Rattle.range_ask.specs.Picks.{ArePicked, IsInBlocks}
use Rattle.range_ask.specs.Finding.{row_in_block}
use Rattle.range_ask.specs.Walking.{rows_of_blocks}
use Rattle.range_ask.proofs.Chosen.{place}
use Rattle.range_ask.proofs.Lists.{single-sorted, none-sorted, zip-map}
use Rattle.range_ask.proofs.Picked.{picks_are_repairs}
use Rattle.range_join.specs.declared.spans.Span.{Span}
use Rattle.range_join.specs.Firsts.{StandsIn, spans_from, spans_at, blocks_at, AreSpots, AreFirsts, IsFirst}

-- one block more
pub spans-push : (n : ℕ) (front : List (List (List Value))) (block : List (List Value)) →
    spans_from n (front ++ block ∷ []) ≡ spans_from n front ++ record { from = n + length (rows_of_blocks front); behind = n + length (rows_of_blocks front) + length block } ∷ []
spans-push n [] block = ap (λ m. record { from = m; behind = m + length block } ∷ []) (omega arith)
spans-push n (b ∷ front) block =
    let e = length-append b (rows_of_blocks front) in
    let same : n + length b + length (rows_of_blocks front) ≡ n + length (b ++ rows_of_blocks front) = omega (arith, e) in
    ap (λ s. record { from = n; behind = n + length b } ∷ s)
    (spans-push (n + length b) front block ∙ ap (λ m. spans_from (n + length b) front ++ record { from = m; behind = m + length block } ∷ []) same)

-- ---- places that stand in blocks

-- each stands behind those before, so they rise
spots-from : (n : ℕ) (blocks : List (List (List Value))) (places : List ℕ) → AllZip StandsIn (spans_from n blocks) places → (p : ℕ) → Contains places p → (n ≤ p) × (p < n + length (rows_of_blocks blocks))
spots-from n [] [] h p m = absurd (mem-nil p m)
spots-from n [] (q ∷ places) h p m = absurd h
spots-from n (b ∷ blocks) [] h p m = absurd h
spots-from n (b ∷ blocks) (q ∷ places) (here, h) p m =
    let e = length-append b (rows_of_blocks blocks) in
    let low = here.0 in
    let high = here.1 in
    elim (mem-cases p q places m) [
      | inl same ↦ (omega (arith, low, same), omega (arith, high, same, e))
      | inr k ↦ (let z = spots-from (n + length b) blocks places h p k in let l = z.0 in let g = z.1 in (omega (arith, l), omega (arith, g, e)))
    ]

pub spots-rise : (n : ℕ) (blocks : List (List (List Value))) (places : List ℕ) → AllZip StandsIn (spans_from n blocks) places → IsStrictlySortedBy nat_cmp places
spots-rise n [] [] h = none-sorted
spots-rise n [] (q ∷ places) h = absurd h
spots-rise n (b ∷ blocks) [] h = absurd h
spots-rise n (b ∷ blocks) (q ∷ places) (here, h) =
    sorted_join nat_cmp (q ∷ []) places (single-sorted q) (spots-rise (n + length b) blocks places h) (λ u v mu mv. elim (mem-cases u q [] mu) [
      | inl same ↦ nat_cmp_less u v (let z = (spots-from (n + length b) blocks places h v mv).0 in let g = here.1 in omega (arith, z, g, same))
      | inr none ↦ absurd (mem-nil u none)
    ])

below : (i j : ℕ) → (i < j) ⊎ (j ≤ i)
below i j = grind arith

-- a place of some block, for each row
pub span-of : (n : ℕ) (blocks : List (List (List Value))) (p : ℕ) → n ≤ p → p < n + length (rows_of_blocks blocks) → (span : Span) × Contains (spans_from n blocks) span × StandsIn span p
span-of n [] p l g = absurd (omega (arith, l, g))
span-of n (b ∷ blocks) p l g = elim (below p (n + length b)) [
  | inl s ↦ (record { from = n; behind = n + length b }, mem-head (record { from = n; behind = n + length b }) (spans_from (n + length b) blocks), (l, s))
  | inr s ↦ (
      let e = length-append b (rows_of_blocks blocks) in
      let r = span-of (n + length b) blocks p s (omega (arith, g, e)) in
      (r.0, mem-tail r.0 (record { from = n; behind = n + length b }) (spans_from (n + length b) blocks) r.1, r.2)
      )
]

-- ---- the rows at them

module _ (rows : List (List Value)) where
  block-row : (front : List (List Value)) (b : List (List Value)) (rest : List (List Value)) → rows ≡ front ++ (b ++ rest) → (k : ℕ) → k < length b → row_in_block rows (length front + k) ≡ row_in_block b k
  block-row front b rest e k l = ap (λ xs. row_in_block xs (length front + k)) e ∙ (get_or-append-add front (b ++ rest) k [] ∙ get_or_append_left b rest [] k l)

  picked-at : (front : List (List Value)) (blocks : List (List (List Value))) (places : List ℕ) → rows ≡ front ++ rows_of_blocks blocks → AllZip StandsIn (spans_from (length front) blocks) places → ArePicked blocks (rows_in rows places)
  picked-at front [] [] e h = tt
  picked-at front [] (q ∷ places) e h = absurd h
  picked-at front (b ∷ blocks) [] e h = absurd h
  picked-at front (b ∷ blocks) (q ∷ places) e ((low, high), h) = (
    subst (Contains b) (sym here) (Contains-get_or b k [] within),
    picked-at (front ++ b) blocks places (e ∙ sym (append_assoc front b (rows_of_blocks blocks))) (subst (λ m. AllZip StandsIn (spans_from m blocks) places) (sym (length-append front b)) h),
  )
    where
      k : ℕ
      k = q - length front

      within : k < length b
      within = omega (arith, low, high)

      at : length front + k ≡ q
      at = omega (arith, low)

      here : row_in_block rows q ≡ row_in_block b k
      here = ap (row_in_block rows) (sym at) ∙ block-row front b (rows_of_blocks blocks) e k within

  spots-at : (front : List (List Value)) (blocks : List (List (List Value))) (xs : List (List Value)) → rows ≡ front ++ rows_of_blocks blocks → ArePicked blocks xs →
      (places : List ℕ) × AllZip StandsIn (spans_from (length front) blocks) places × (rows_in rows places ≡ xs)
  spots-at front [] [] e p = ([], tt, refl)
  spots-at front [] (x ∷ xs) e p = absurd p
  spots-at front (b ∷ blocks) [] e p = absurd p
  spots-at front (b ∷ blocks) (x ∷ xs) e (m, p) =
      let at = place b x m in
      let l = at.1 in
      let r = spots-at (front ++ b) blocks xs (e ∙ sym (append_assoc front b (rows_of_blocks blocks))) p in (
        (length front + at.0) ∷ r.0,
        ((omega arith, omega (arith, l)), subst (λ n. AllZip StandsIn (spans_from n blocks) r.0) (length-append front b) r.1),
        ap (λ y. y ∷ rows_in rows r.0) (block-row front b (rows_of_blocks blocks) e at.0 l ∙ at.2) ∙ ap (λ ys. x ∷ ys) r.2,
      )

-- ---- the repairs of a table

module _ (db : List Table) (table : ℕ) (parted : IsInBlocks db table (blocks_at db table)) where
  -- each list of one place of each block gives the rows of one
  pub repair-at : (places : List ℕ) → AreSpots db table places → IsTableRepair (key_at db table) (rows_at db table) (rows_in (rows_at db table) places)
  repair-at places h =
      (picks_are_repairs (key_at db table) (rows_at db table) (blocks_at db table) (rows_in (rows_at db table) places) parted.blocks_are parted.in_order).1
      (picked-at (rows_at db table) [] (blocks_at db table) places (sym parted.blocks_are.joined) h)

  -- each has the rows of one
  pub spots-of : (kept : List (List Value)) → IsTableRepair (key_at db table) (rows_at db table) kept → (places : List ℕ) × AreSpots db table places × (rows_in (rows_at db table) places ≡ kept)
  spots-of kept r =
      spots-at (rows_at db table) [] (blocks_at db table) kept (sym parted.blocks_are.joined)
      ((picks_are_repairs (key_at db table) (rows_at db table) (blocks_at db table) kept parted.blocks_are parted.in_order).0 r)

  -- the places rise, and are of rows
  pub spots-in_order : (places : List ℕ) → AreSpots db table places → IsStrictlySortedBy nat_cmp places
  spots-in_order places h = spots-rise 0 (blocks_at db table) places h

  pub spots-below : (places : List ℕ) → AreSpots db table places → (p : ℕ) → Contains places p → p < length (rows_at db table)
  spots-below places h p m = let z = (spots-from 0 (blocks_at db table) places h p m).1 in let e = ap length parted.blocks_are.joined in omega (arith, z, e)

  -- each row is of some block
  pub span-at : (p : ℕ) → p < length (rows_at db table) → (span : Span) × Contains (spans_at db table) span × StandsIn span p
  span-at p l = let e = ap length parted.blocks_are.joined in span-of 0 (blocks_at db table) p (omega arith) (omega (arith, l, e))

-- places that come first are places of their blocks
pub firsts-spots : (before : ℕ → ℕ → Bool) (db : List Table) (table : ℕ) (places : List ℕ) → AreFirsts before db table places → AreSpots db table places
firsts-spots before db table places h = zip-map (IsFirst before) StandsIn (λ span p f. f.there) (spans_at db table) places h.firsts

pub firsts-below : (before : ℕ → ℕ → Bool) (db : List Table) (table : ℕ) (places : List ℕ) → AreFirsts before db table places → (p : ℕ) → Contains places p → p < length (rows_at db table)
firsts-below before db table places h p m = spots-below db table h.parted places (firsts-spots before db table places h) p m
