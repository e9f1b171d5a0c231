-- The rows with some first key values: whole blocks, among which are all whose rows have these values.
use Rattle.std.proofs.Common.{◌≡◌, ℕ, zero, suc, inl, inr, List, [], ◌∷◌, ◌++◌, length, take, get_or, refl, sym, ◌∙◌, subst, Contains}
use Rattle.std.proofs.lemmas.List.Elements.{All-contains, Contains-append_left, Contains-append_right, Contains-append_cases}
use Rattle.cqa_value.specs.declared.value.Value.{Value}
use Rattle.cqa_value.specs.Values.{nothing}
use Rattle.cqa_model.specs.Database.{key_of}
use Rattle.cqa_model.specs.Repairs.{SharesKey}
use Rattle.cqa_model.proofs.Classic.{mem-head, mem-tail}
use Rattle.row_order.specs.Spans.{first_key, IsSpan}
use Rattle.fo_plan.specs.Enough.{IsEnough}

-- rows of one key have the same first key values
same-first_key : (key : List ℕ) (probe x y : List Value) → SharesKey key x y → first_key key probe x ≡ first_key key probe y
same-first_key key probe x y s = go (length probe) key s
  where
    go : (n : ℕ) (ks : List ℕ) → SharesKey ks x y → key_of (take n ks) x ≡ key_of (take n ks) y
    go zero ks h = refl
    go (suc n) [] h = refl
    go (suc n) (k ∷ ks) h =
        let e : get_or x k nothing ≡ get_or y k nothing = h k (mem-head k ks) in
        let es : key_of (take n ks) x ≡ key_of (take n ks) y = go n ks (λ p m. h p (mem-tail p k ks m)) in
        cc

-- a row that fits lies in the span, where fitting tells the first key values
module _ (key : List ℕ) (rows : List (List Value)) (probe : List Value) (start : ℕ) (span : List (List Value)) (s : IsSpan key rows probe start span) where
  in-rows : (x : List Value) → Contains span x → Contains rows x
  in-rows x m = subst (λ xs. Contains xs x) (sym s.parts) (Contains-append_right s.before (span ++ s.behind) x (Contains-append_left span s.behind x m))

  in-span : (x : List Value) → Contains rows x → first_key key probe x ≡ probe → Contains span x
  in-span x m e = elim (Contains-append_cases s.before (span ++ s.behind) x (subst (λ xs. Contains xs x) s.parts m)) [
    | inl h ↦ absurd (All-contains (λ row. first_key key probe row ≡ probe → ⊥) s.before x s.none_before h e)
    | inr h ↦ elim (Contains-append_cases span s.behind x h) [
      | inl k ↦ k
      | inr k ↦ absurd (All-contains (λ row. first_key key probe row ≡ probe → ⊥) s.behind x s.none_behind k e)
    ]
  ]

  pub span-enough : (fits : List Value → Type 0) → ((y : List Value) → fits y → first_key key probe y ≡ probe) → IsEnough key rows fits span
  span-enough fits told = record {
    stored = in-rows;
    whole = λ x y m n t. in-span y n (sym (same-first_key key probe x y t) ∙ All-contains (λ row. first_key key probe row ≡ probe) span x s.these m);
    enough = λ x m f. in-span x m (told x f);
  }

-- the whole table is enough
pub whole-enough : (key : List ℕ) (rows part : List (List Value)) (fits : List Value → Type 0) → part ≡ rows → IsEnough key rows fits part
whole-enough key rows part fits e = record {
  stored = λ x m. subst (λ xs. Contains xs x) e m;
  whole = λ x y m n t. subst (λ xs. Contains xs y) (sym e) n;
  enough = λ x m f. subst (λ xs. Contains xs x) (sym e) m;
}
