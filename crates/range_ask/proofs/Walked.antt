-- One block more.
use Rattle.std.proofs.Common.{◌≡◌, inl, inr, ℕ, ◌+◌, ◌<◌, ◌≤◌, List, [], ◌∷◌, ◌++◌, length, sym, ◌∙◌, ap, subst, arith, length-append}
use Rattle.std.specs.Prelude.{ℤ, pos, ◌+ℤ◌}
use Rattle.std.specs.List.{AllZip}
use Rattle.std.proofs.lemmas.Int.{ints}
use Rattle.std.proofs.lemmas.List.{get_or_append_left, get_or-append-add, map_push, append-nil, length-map}
use mir.Val.{SFits}
use mir.Syntax.{w64}
use Rattle.std.proofs.lemmas.List.Elements.{Contains-push_cases}
use Rattle.std.proofs.lemmas.Grind.{flat_map-append}
use Rattle.std.specs.Ordering.{nat_cmp}
use Rattle.cqa_value.specs.declared.value.Value.{Value}
use Rattle.cqa_value.proofs.Words.{all_zip_push, nat_cmp_less, sorted_join}
use Rattle.cqa_model.proofs.Classic.{mem-nil, mem-cases}
use Rattle.range_ask.specs.declared.sums.Side.{Side}
use Rattle.range_ask.specs.declared.sums.Sides.{Sides}
use Rattle.range_ask.specs.Ranges.{total}
use Rattle.range_ask.specs.Picks.{IsCheapest, IsDearest}
use Rattle.range_ask.specs.Finding.{row_in_block}
use Rattle.range_ask.specs.Walking.{rows_of_blocks, IsNextBlock, AreChosenSoFar, IsWithinBlocks, IsSide, AreSides}
use Rattle.join_access.proofs.Naming.{zip-length}
use Rattle.range_ask.proofs.Lists.{single-sorted, none-sorted}
use Rattle.table_blocks.specs.Tables.{rows_in}

pub total-push : (f : List Value → ℤ) (xs : List (List Value)) (x : List Value) → total f (xs ++ x ∷ []) ≡ total f xs +ℤ f x
total-push f [] x = omega (arith, ints)
total-push f (y ∷ xs) x = ap (λ n. f y +ℤ n) (total-push f xs x) ∙ omega (arith, ints)

pub chosen-none : (R : List (List Value) → List Value → Type 0) (rows : List (List Value)) (places : List ℕ) → places ≡ [] → AreChosenSoFar R rows [] places
chosen-none R rows places e = subst (AreChosenSoFar R rows []) (sym e) (record { rises = none-sorted; below = λ p m. absurd (mem-nil p m); chosen = tt })

-- one place for each block
pub chosen-length : (R : List (List Value) → List Value → Type 0) (rows : List (List Value)) (front : List (List (List Value))) (places : List ℕ) → AreChosenSoFar R rows front places → length places ≡ length front
chosen-length R rows front places h = sym (zip-length R front (rows_in rows places) h.chosen ∙ length-map places (λ p. row_in_block rows p))

module _ (rows : List (List Value)) (front : List (List (List Value))) (block : List (List Value)) (later : List (List (List Value))) (start : ℕ) (next : IsNextBlock rows front block later start) (k : ℕ) (l : k < length block) where
  -- the row at its place is that of the block
  pub row-here : row_in_block rows (start + k) ≡ row_in_block block k
  row-here =
      ap (λ n. row_in_block rows (n + k)) next.start_is
      ∙ (ap (λ xs. row_in_block xs (length (rows_of_blocks front) + k)) (next.rows_are ∙ flat_map-append (λ c. c) front (block ∷ later))
      ∙ (get_or-append-add (rows_of_blocks front) (block ++ rows_of_blocks later) k [] ∙ get_or_append_left block (rows_of_blocks later) [] k l))

  front-more : length (rows_of_blocks (front ++ block ∷ [])) ≡ length (rows_of_blocks front) + length block
  front-more =
      let e = ap length (flat_map-append (λ (c : List (List Value)). c) front (block ∷ [])) in
      let f = length-append (rows_of_blocks front) (block ++ []) in
      let g = ap length (append-nil block) in
      omega (arith, e, f, g)

  pub chosen-more : (R : List (List Value) → List Value → Type 0) (places new : List ℕ) → AreChosenSoFar R rows front places → R block (row_in_block block k) → new ≡ places ++ (start + k) ∷ [] → AreChosenSoFar R rows (front ++ block ∷ []) new
  chosen-more R places new h r e = subst (AreChosenSoFar R rows (front ++ block ∷ [])) (sym e) (record {
    rises = sorted_join nat_cmp places (m ∷ []) h.rises (single-sorted m) (λ u v mu mv. elim (mem-cases v m [] mv) [
      | inl same ↦ nat_cmp_less u v (let z = h.below u mu in let s = next.start_is in omega (arith, z, same, s))
      | inr none ↦ absurd (mem-nil v none)
    ]);
    below = λ p mp. elim (Contains-push_cases places m p mp) [
      | inl old ↦ (let z = h.below p old in let w = front-more in omega (arith, z, w))
      | inr same ↦ (let w = front-more in let s = next.start_is in omega (arith, w, same, l, s))
    ];
    chosen = subst (AllZip R (front ++ block ∷ [])) (sym (map_push (λ p. row_in_block rows p) places m)) (all_zip_push R front (rows_in rows places) block (row_in_block rows m) h.chosen (subst (R block) (sym row-here) r));
  })
    where
      m : ℕ
      m = start + k

pub within-more : (n : ℕ) (s w t : ℤ) → IsWithinBlocks n s → IsWithinBlocks 1 w → t ≡ s +ℤ w → IsWithinBlocks (n + 1) t
within-more n s w t h g e =
    let a = h.above in let b = h.below in let c = g.above in let d = g.below in
    record { above = omega (arith, ints, a, c, e); below = omega (arith, ints, b, d, e) }

pub within-most : (n m : ℕ) (s : ℤ) → IsWithinBlocks n s → n ≤ m → IsWithinBlocks m s
within-most n m s h l = let a = h.above in let b = h.below in record { above = omega (arith, ints, a, l); below = omega (arith, ints, b, l) }

-- what a row adds to a side
pub within-one : (w : ℤ) → SFits w64 w → IsWithinBlocks 1 w
within-one w s = record { above = omega (arith, ints, s); below = omega (arith, ints, s) }

module _ (R : List (List Value) → List Value → Type 0) (f : List Value → ℤ) (rows : List (List Value)) where
  pub side-none : (side : Side) → side.places.items ≡ [] → side.total ≡ pos 0 → IsSide R f rows [] side
  side-none side e z = record {
    chosen = chosen-none R rows side.places.items e;
    total_is = z ∙ ap (λ ps. total f (rows_in rows ps)) (sym e);
    within = record { above = omega (arith, ints, z); below = omega (arith, ints, z) };
  }

  pub side-more : (front : List (List (List Value))) (block : List (List Value)) (later : List (List (List Value))) (start : ℕ) → IsNextBlock rows front block later start → (k : ℕ) → k < length block → (old new : Side) →
      IsSide R f rows front old → R block (row_in_block block k) → IsWithinBlocks 1 (f (row_in_block block k)) → new.places.items ≡ old.places.items ++ (start + k) ∷ [] → new.total ≡ old.total +ℤ f (row_in_block block k) →
      IsSide R f rows (front ++ block ∷ []) new
  side-more front block later start next k l old new h r small place sum = record {
    chosen = chosen-more rows front block later start next k l R old.places.items new.places.items h.chosen r place;
    total_is = sum ∙ (ap (λ n. n +ℤ f (row_in_block block k)) h.total_is ∙ (ap (λ x. total f (rows_in rows old.places.items) +ℤ f x) (sym here)
        ∙ (sym (total-push f (rows_in rows old.places.items) (row_in_block rows m)) ∙ ap (total f) (sym (map_push (λ p. row_in_block rows p) old.places.items m) ∙ ap (rows_in rows) (sym place)))));
    within = subst (λ n. IsWithinBlocks n new.total) (sym (length-append front (block ∷ []))) (within-more (length front) old.total (f (row_in_block block k)) new.total h.within small sum);
  }
    where
      m : ℕ
      m = start + k

      here : row_in_block rows m ≡ row_in_block block k
      here = row-here rows front block later start next k l

pub sides-none : (f : List Value → ℤ) (rows : List (List Value)) (sides : Sides) → sides.low.places.items ≡ [] → sides.low.total ≡ pos 0 → sides.high.places.items ≡ [] → sides.high.total ≡ pos 0 → sides.wide.items ≡ [] →
    AreSides f rows [] sides
sides-none f rows sides a b c d w = (side-none (IsCheapest f) f rows sides.low a b, side-none (IsDearest f) f rows sides.high c d, w)

-- so many blocks add up within the bounds
pub sides-within : (f : List Value → ℤ) (rows : List (List Value)) (front : List (List (List Value))) (sides : Sides) (n : ℕ) → length front ≤ n → AreSides f rows front sides → IsWithinBlocks n sides.low.total × IsWithinBlocks n sides.high.total
sides-within f rows front sides n l h = (within-most (length front) n sides.low.total h.0.within l, within-most (length front) n sides.high.total h.1.within l)
