-- Rows that are taken out of a span of rows.
use Rattle.std.proofs.Common.{◌≡◌, ◌+◌, ◌-◌, ℕ, Bool, true, List, [], ◌∷◌, ◌++◌, length, take, drop, refl, sym, ap, ◌∙◌, arith, append_assoc, length-append, cond}
use Rattle.std.specs.List.{filter, All, AllByRecursion}
use Rattle.std.proofs.lemmas.List.Elements.{filter-append, recursion_from_All}
use Rattle.std.proofs.Math.Seq.{take-append_seam, drop-append_seam}
use Rattle.cqa_value.specs.declared.value.Value.{Value}
use Rattle.row_order.specs.Spans.{first_key, IsSpan}

filter_all : (stays : List Value → Bool) (rows : List (List Value)) → AllByRecursion (λ row. stays row ≡ true) rows → filter stays rows ≡ rows
filter_all stays [] h = refl
filter_all stays (row ∷ rows) h = ap (λ b. cond b (row ∷ filter stays rows) (filter stays rows)) h.0 ∙ ap (λ l. row ∷ l) (filter_all stays rows h.1)

module _ (stays : List Value → Bool) (key : List ℕ) (rows : List (List Value)) (probe : List Value) (start : ℕ) (span : List (List Value)) where
  -- taking rows out of the span takes them out of all rows, where those outside stay
  pub spared_all : IsSpan key rows probe start span → ((row : List Value) → (first_key key probe row ≡ probe → ⊥) → stays row ≡ true)
      → (take start rows ++ filter stays (take (start + length span - start) (drop start rows))) ++ drop (start + length span) rows ≡ filter stays rows
  spared_all s outside =
      let before = s.before in
      let behind = s.behind in
      let all : (xs : List (List Value)) → All (λ row. first_key key probe row ≡ probe → ⊥) xs → filter stays xs ≡ xs = λ xs h. filter_all stays xs (recursion_from_All (λ row. stays row ≡ true) xs (λ k d l. outside _ (h k d l))) in
      let front : take start rows ≡ before = (λ i. take (sym s.place i) (s.parts i)) ∙ take-append_seam before (span ++ behind) in
      let rest : drop start rows ≡ span ++ behind = (λ i. drop (sym s.place i) (s.parts i)) ∙ drop-append_seam before (span ++ behind) in
      let size : start + length span - start ≡ length span = omega arith in
      let middle : take (start + length span - start) (drop start rows) ≡ span = (λ i. take (size i) (rest i)) ∙ take-append_seam span behind in
      let long = length-append before span in
      let place = s.place in
      let seam : start + length span ≡ length (before ++ span) = omega (arith, long, place) in
      let tail : drop (start + length span) rows ≡ behind = (λ i. drop (seam i) ((s.parts ∙ sym (append_assoc before span behind)) i)) ∙ drop-append_seam (before ++ span) behind in
      (λ i. (front i ++ filter stays (middle i)) ++ tail i)
      ∙ append_assoc before (filter stays span) behind
      ∙ (λ i. sym (all before s.none_before) i ++ (filter stays span ++ sym (all behind s.none_behind) i))
      ∙ ap (λ l. filter stays before ++ l) (sym (filter-append stays span behind))
      ∙ sym (filter-append stays before (span ++ behind))
      ∙ ap (filter stays) (sym s.parts)
