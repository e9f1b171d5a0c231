-- The rows of a group are those that meet one test more.
use Rattle.std.proofs.Common.{◌≡◌, ◌⊎◌, inl, inr, ℕ, suc, ◌<◌, ◌&&◌, Bool, true, false, List, [], ◌∷◌, ◌++◌, length, Contains, refl, sym, ◌∙◌, ap, subst, Some}
use Rattle.std.proofs.lemmas.Bool.{and_parts, and_from}
use Rattle.std.specs.BTreeMap.{BTreeMap, get}
use Rattle.cqa_value.specs.declared.value.Value.{Value}
use Rattle.cqa_value.specs.Values.{value_cmp, value_eq, value_decides}
use Rattle.aggregate_range.specs.declared.aggregate.Goal.{Goal}
use Rattle.cqa_model.specs.declared.query.Op.TheVariants.{Eq}
use Rattle.table_blocks.specs.declared.test.ColumnTest.{ColumnTest}
use Rattle.range_ask.specs.declared.total.Turn.{Turn}
use Rattle.range_ask.specs.declared.tally.Tally.{Tally}
use Rattle.range_ask.specs.Ranges.{cell, op_passes, meets}
use Rattle.range_ask.specs.Groups.{tests_with}
use Rattle.range_ask.specs.Finding.{row_in_block}
use Rattle.range_ask.specs.Tallying.{IsSureOf, IsTallying, AreTallied, HasRowMore}
use Rattle.range_ask.proofs.Tallied.{tallying-begin, tallying-miss, tallying-end}

and-true : (b : Bool) → (b && true) ≡ (true && b)
and-true true = refl
and-true false = refl

and-assoc : (a b c : Bool) → (a && (b && c)) ≡ ((a && b) && c)
and-assoc true b c = refl
and-assoc false b c = refl

meets-with : (tests : List ColumnTest) (test : ColumnTest) (x : List Value) → meets (tests ++ test ∷ []) x ≡ (meets tests x && op_passes test.op (cell x test.col) test.value)
meets-with [] test x = and-true (op_passes test.op (cell x test.col) test.value)
meets-with (first ∷ tests) test x =
    ap (λ b. op_passes first.op (cell x first.col) first.value && b) (meets-with tests test x) ∙ and-assoc (op_passes first.op (cell x first.col) first.value) (meets tests x) (op_passes test.op (cell x test.col) test.value)

not-true : (b : Bool) → (b ≡ true → ⊥) → b ≡ false
not-true true n = absurd (n refl)
not-true false n = refl

module _ (tests : List ColumnTest) (col : ℕ) (v : Value) (x : List Value) where
  with-is : meets (tests_with tests col v) x ≡ (meets tests x && value_eq (cell x col) v)
  with-is = meets-with tests (record { col = col; op = Eq; value = v }) x

  pub is-in : meets tests x ≡ true → cell x col ≡ v → meets (tests_with tests col v) x ≡ true
  is-in m e = with-is ∙ and_from (meets tests x) (value_eq (cell x col) v) m ((value_decides (cell x col) v).1 e)

  pub of-in : meets (tests_with tests col v) x ≡ true → (meets tests x ≡ true) × (cell x col ≡ v)
  of-in t = let b = and_parts (meets tests x) (value_eq (cell x col) v) (sym with-is ∙ t) in (b.0, (value_decides (cell x col) v).0 b.1)

  pub not-met : meets tests x ≡ false → meets (tests_with tests col v) x ≡ false
  not-met e = not-true (meets (tests_with tests col v) x) (λ t. let z = sym (of-in t).0 ∙ e in (cc))

  pub not-has : (cell x col ≡ v → ⊥) → meets (tests_with tests col v) x ≡ false
  not-has n = not-true (meets (tests_with tests col v) x) (λ t. n (of-in t).1)

module _ (goal : Goal) (tests : List ColumnTest) (col : ℕ) (sure : Bool) (front : List (List (List Value))) (block : List (List Value)) (first : List Value) (here : Contains block first)
    (when_sure : sure ≡ true → (y : List Value) → Contains block y → (meets tests y ≡ true) × (cell y col ≡ cell first col))
    (when_not : sure ≡ false → (y : List Value) × Contains block y × ((meets tests y ≡ false) ⊎ (cell y col ≡ cell first col → ⊥))) where
  abbrev of : Value → List Value → Bool
  of v = meets (tests_with tests col v)

  pub sure-of : (v : Value) → IsSureOf sure (of v) block
  sure-of v = record {
    together = λ s x y mx my t. let b = of-in tests col v x t in is-in tests col v y (when_sure s y my).0 ((when_sure s y my).1 ∙ (sym (when_sure s x mx).1 ∙ b.1));
    misses = λ s. let w = when_not s in elim w.2 [
      | inl e ↦ (w.0, w.1, not-met tests col v w.0 e)
      | inr n ↦ other w.0 w.1 n (of v first) refl
    ];
  }
    where
      other : (y : List Value) → Contains block y → (cell y col ≡ cell first col → ⊥) → (b : Bool) → of v first ≡ b → (z : List Value) × Contains block z × (of v z ≡ false)
      other y m n true t = (y, m, not-has tests col v y (λ e. n (e ∙ sym (of-in tests col v first t).1)))
      other y m n false t = (first, here, t)

  abbrev pub AreTallying : ℕ → BTreeMap Value Tally → Type 0
  AreTallying n groups = (v : Value) → IsTallying goal (of v) sure front block n (get value_cmp groups v)

  pub all-begin : (groups : BTreeMap Value Tally) → AreTallied goal tests col front groups → AreTallying 0 groups
  all-begin groups h v = tallying-begin (of v) sure front block (sure-of v) goal (get value_cmp groups v) (h v)

  pub all-end : 0 < length block → (groups : BTreeMap Value Tally) → AreTallying (length block) groups → AreTallied goal tests col (front ++ block ∷ []) groups
  all-end some groups h v = tallying-end (of v) sure front block (sure-of v) goal (get value_cmp groups v) some (h v)

  pub all-miss : (n : ℕ) → n < length block → meets tests (row_in_block block n) ≡ false → (groups : BTreeMap Value Tally) → AreTallying n groups → AreTallying (suc n) groups
  all-miss n l e groups h v = tallying-miss (of v) sure front block (sure-of v) goal n (get value_cmp groups v) l (not-met tests col v (row_in_block block n) e) (h v)

  pub all-more : (n : ℕ) → n < length block → (row : List Value) → row_in_block block n ≡ row → meets tests row ≡ true → (turn : Turn) → turn.number ≡ suc (length front) → turn.sure ≡ sure → (value : Value) → value ≡ cell row col →
      (old new : BTreeMap Value Tally) → HasRowMore goal turn row value old new → AreTallying n old → AreTallying (suc n) new
  all-more n l row e m turn is same value vis old new more h v = at (value_eq value v) refl
    where
      at : (b : Bool) → value_eq value v ≡ b → IsTallying goal (of v) sure front block (suc n) (get value_cmp new v)
      at true q =
          let here : value ≡ v = (value_decides value v).0 q in
          let grown = more.more (of v) front block n is (subst (λ s. IsSureOf s (of v) block) (sym same) (sure-of v)) l e (is-in tests col v row m (sym vis ∙ here))
          (subst (λ s. IsTallying goal (of v) s front block n (get value_cmp old value)) (sym same) (subst (λ w. IsTallying goal (of v) sure front block n (get value_cmp old w)) (sym here) (h v))) in
          subst (λ w. IsTallying goal (of v) sure front block (suc n) (get value_cmp new w)) here
          (subst (λ o. IsTallying goal (of v) sure front block (suc n) o) (sym more.here) (subst (λ s. IsTallying goal (of v) s front block (suc n) (Some more.tally)) same grown))
      at false q =
          let apart : value ≡ v → ⊥ = λ w. let z = sym ((value_decides value v).1 w) ∙ q in (cc) in
          subst (λ o. IsTallying goal (of v) sure front block (suc n) o) (sym (more.others v (λ w. apart (sym w))))
          (tallying-miss (of v) sure front block (sure-of v) goal n (get value_cmp old v) l (not-has tests col v (row_in_block block n) (λ w. apart (vis ∙ (ap (λ r. cell r col) (sym e) ∙ w)))) (h v))
