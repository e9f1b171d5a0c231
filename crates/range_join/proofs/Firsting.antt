-- What comes first of the rows of a block that were read, and of the blocks so far.
use Rattle.std.proofs.Common.{◌≡◌, inl, inr, ℕ, ◌+◌, ◌-◌, ◌<◌, Bool, true, false, cond, List, [], ◌∷◌, ◌++◌, length, length-append, length-drop, drop, refl, sym, ◌∙◌, ap, subst, arith}
use Rattle.std.specs.List.{AllZip}
use Rattle.cqa_value.specs.declared.value.Value.{Value}
use Rattle.cqa_value.proofs.Words.{all_zip_push, cases_next, clash}
use Rattle.std.proofs.lemmas.Grind.{flat_map-append}
use Rattle.cqa_model.specs.Blocks.{AreBlocks}
use Rattle.range_ask.specs.Walking.{rows_of_blocks, IsNextBlock, IsReading}
use Rattle.range_ask.proofs.Read.{next-is}
use Rattle.range_join.specs.declared.spans.Span.{Span}
use Rattle.range_join.specs.Firsts.{spans_from, IsStrictOrder, IsFirst}
use Rattle.range_join.proofs.Spots.{spans-push}

-- of the first n places from one on none goes before that one
pub record IsFirstOf (before : ℕ → ℕ → Bool) (start n at : ℕ) : Type 0 where
  pub there : at < n
  pub first : (i : ℕ) → i < n → before (start + i) (start + at) ≡ false

module _ (before : ℕ → ℕ → Bool) (strict : IsStrictOrder before) where
  pub first-one : (start at : ℕ) → at ≡ 0 → IsFirstOf before start 1 at
  first-one start at e = record {
    there = omega (arith, e);
    first = λ i l. let same : i ≡ at = omega (arith, l, e) in subst (λ k. before (start + k) (start + at) ≡ false) (sym same) (strict.not_itself (start + at));
  }

  pub first-more : (start n at : ℕ) → IsFirstOf before start n at → (goes : Bool) → goes ≡ before (start + n) (start + at) → IsFirstOf before start (n + 1) (cond goes n at)
  first-more start n at h true e = record {
    there = omega arith;
    first = λ i l. elim (cases_next i n l) [
      | inl lt ↦ behind i lt (before (start + i) (start + n)) refl
      | inr same ↦ subst (λ k. before (start + k) (start + n) ≡ false) (sym same) (strict.not_itself (start + n))
    ];
  }
    where
      behind : (i : ℕ) → i < n → (b : Bool) → before (start + i) (start + n) ≡ b → before (start + i) (start + n) ≡ false
      behind i lt false is = is
      behind i lt true is = absurd (clash (before (start + i) (start + at)) (strict.through (start + i) (start + n) (start + at) is (sym e)) (h.first i lt))
  first-more start n at h false e = record {
    there = (let l = h.there in omega (arith, l));
    first = λ i l. elim (cases_next i n l) [
      | inl lt ↦ h.first i lt
      | inr same ↦ subst (λ k. before (start + k) (start + at) ≡ false) (sym same) (sym e)
    ];
  }

  -- a block was read
  pub first-block : (rows : List (List Value)) (front : List (List (List Value))) (block : List (List Value)) (later : List (List (List Value))) (start at : ℕ) (places new : List ℕ) → IsNextBlock rows front block later start →
      IsFirstOf before start (length block) at → new ≡ places ++ (start + at) ∷ [] → AllZip (IsFirst before) (spans_from 0 front) places → AllZip (IsFirst before) (spans_from 0 (front ++ block ∷ [])) new
  first-block rows front block later start at places new next h e are =
      subst (AllZip (IsFirst before) (spans_from 0 (front ++ block ∷ []))) (sym e)
      (subst (λ spans. AllZip (IsFirst before) spans (places ++ (start + at) ∷ [])) (sym (spans-push 0 front block))
      (all_zip_push (IsFirst before) (spans_from 0 front) places span (start + at) are here))
    where
      span : Span
      span = record { from = 0 + length (rows_of_blocks front); behind = 0 + length (rows_of_blocks front) + length block }

      here : IsFirst before span (start + at)
      here = record {
        there = (let s = next.start_is in let l = h.there in (omega (arith, s), omega (arith, s, l)));
        first = λ q m.
            let s = next.start_is in
            let low = m.0 in
            let high = m.1 in
            let same : start + (q - start) ≡ q = omega (arith, s, low) in
            subst (λ k. before k (start + at) ≡ false) same (h.first (q - start) (omega (arith, s, low, high)));
      }

-- ---- one row more

pub more-first : (before : ℕ → ℕ → Bool) → IsStrictOrder before → (start n at start' n' at' : ℕ) → start' ≡ start → n' ≡ n + 1 → (goes : Bool) → at' ≡ cond goes n at → goes ≡ before (start + n) (start + at) → IsFirstOf before start n at → IsFirstOf before start' n' at'
more-first before strict start n at start' n' at' se ne goes ae e h =
    subst (λ s. IsFirstOf before s n' at') (sym se) (subst (λ m. IsFirstOf before start m at') (sym ne) (subst (IsFirstOf before start (n + 1)) (sym ae) (first-more before strict start n at h goes e)))

pub more-below : (n at at' : ℕ) (goes : Bool) → at' ≡ cond goes n at → at < n → at' < n + 1
more-below n at at' true e l = omega (arith, e)
more-below n at at' false e l = omega (arith, e, l)

module _ (key : List ℕ) (rows : List (List Value)) (all : List (List (List Value))) (are : AreBlocks key rows all) (W : List (List (List Value)) → Type 0) (B : List (List Value) → ℕ → Type 0) (left : List (List Value)) (last : List Value) (start read : ℕ)
    (h : IsReading W B all left last start read) where
  -- where rows are left the next place is of a row
  pub next-below : (row : List Value) (rest : List (List Value)) → left ≡ row ∷ rest → start + read < length rows
  next-below row rest next =
      let e = ap length ((next-is key rows all are W B left last start read h).rows_are ∙ flat_map-append (λ (c : List (List Value)). c) h.front (h.block ∷ h.later)) in
      let f = length-append (rows_of_blocks h.front) (h.block ++ rows_of_blocks h.later) in
      let g = length-append h.block (rows_of_blocks h.later) in
      let d = ap length (sym next ∙ h.left_is) ∙ length-append (drop read h.block) (rows_of_blocks h.later) in
      let k = length-drop read h.block in
      let s = h.start_is in
      let r = h.read_in in
      omega (arith, e, f, g, d, k, s, r)
