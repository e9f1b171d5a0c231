-- The groups of the blocks so far.
use Rattle.std.proofs.Common.{◌≡◌, ℕ, suc, ◌+◌, ◌<◌, Bool, List, [], ◌∷◌, ◌++◌, length, Contains, None, refl, sym, ◌∙◌, subst, arith, ap, append_assoc, length-append}
use Rattle.std.proofs.lemmas.List.{append-nil}
use Rattle.std.proofs.lemmas.List.Elements.{Contains-append_right}
use Rattle.cqa_model.proofs.Classic.{mem-head}
use Rattle.std.proofs.lemmas.Int.{ints}
use Rattle.std.specs.BTreeMap.{BTreeMap, is_at}
use Rattle.std.specs.Map.{lookup}
use Rattle.cqa_value.specs.declared.value.Value.{Value}
use Rattle.cqa_value.specs.Values.{value_cmp}
use Rattle.aggregate_range.specs.declared.aggregate.Goal.{Goal}
use Rattle.aggregate_range.specs.declared.aggregate.Goal.TheVariants.{Count, Sum, Min, Max}
use Rattle.table_blocks.specs.declared.test.ColumnTest.{ColumnTest}
use Rattle.range_ask.specs.declared.tally.Tally.{Tally}
use Rattle.range_ask.specs.Ranges.{meets}
use Rattle.range_ask.specs.Groups.{tests_with}
use Rattle.range_ask.specs.Tallying.{IsTallied, AreTallied}

pub record IsFilled (goal : Goal) (tests : List ColumnTest) (col : ℕ) (all left : List (List (List Value))) (number : ℕ) (groups : BTreeMap Value Tally) : Type 0 where
  pub front : List (List (List Value))
  pub cut : all ≡ front ++ left
  pub number_is : number ≡ length front
  pub tallied : AreTallied goal tests col front groups

-- nothing was read
none-tallied : (goal : Goal) (p : List Value → Bool) → IsTallied goal p [] None
none-tallied Count p = (
  refl,
  record {
    low = record { picks = []; picked = tt; is = refl; within = record { above = omega (arith, ints); below = omega (arith, ints) } };
    high = record { picks = []; picked = tt; is = refl; within = record { above = omega (arith, ints); below = omega (arith, ints) } };
    early = omega arith;
  },
)
none-tallied (Sum col) p = (
  refl,
  record {
    low = record { picks = []; picked = tt; is = refl; within = record { above = omega (arith, ints); below = omega (arith, ints) } };
    high = record { picks = []; picked = tt; is = refl; within = record { above = omega (arith, ints); below = omega (arith, ints) } };
    early = omega arith;
  },
)
none-tallied (Min col) p = (refl, (record { sure = record { picks = []; picked = tt; is = refl }; early = omega arith }, record { far = refl; top = refl }))
none-tallied (Max col) p = (refl, (record { sure = record { picks = []; picked = tt; is = refl }; early = omega arith }, record { far = refl; top = refl }))

pub none-filled : (goal : Goal) (tests : List ColumnTest) (col : ℕ) (all : List (List (List Value))) (number : ℕ) (groups : BTreeMap Value Tally) → number ≡ 0 → groups.entries ≡ [] → IsFilled goal tests col all all number groups
none-filled goal tests col all number groups z e = record {
  front = [];
  cut = refl;
  number_is = z;
  tallied = λ v. subst (IsTallied goal (meets (tests_with tests col v)) []) (sym (ap (lookup (is_at (value_cmp v))) e)) (none-tallied goal (meets (tests_with tests col v)));
}

module _ (goal : Goal) (tests : List ColumnTest) (col : ℕ) (all left : List (List (List Value))) (number : ℕ) (groups : BTreeMap Value Tally) (f : IsFilled goal tests col all left number groups) where
  module _ (block : List (List Value)) (rest : List (List (List Value))) (next : left ≡ block ∷ rest) where
    pub filled-next : Contains all block
    filled-next = subst (λ bs. Contains bs block) (sym (f.cut ∙ ap (λ bs. f.front ++ bs) next)) (Contains-append_right f.front (block ∷ rest) block (mem-head block rest))

    pub filled-more : (new : BTreeMap Value Tally) → ((front : List (List (List Value))) → number + 1 ≡ suc (length front) → AreTallied goal tests col front groups → AreTallied goal tests col (front ++ block ∷ []) new) →
        IsFilled goal tests col all rest (number + 1) new
    filled-more new more = record {
      front = f.front ++ block ∷ [];
      cut = f.cut ∙ (ap (λ bs. f.front ++ bs) next ∙ sym (append_assoc f.front (block ∷ []) rest));
      number_is = (let e = f.number_is in let l = length-append f.front (block ∷ []) in omega (arith, e, l));
      tallied = more f.front (let e = f.number_is in omega (arith, e)) f.tallied;
    }

    pub filled-below : number < length all
    filled-below = let e = f.number_is in let l = ap length (f.cut ∙ ap (λ bs. f.front ++ bs) next) ∙ length-append f.front (block ∷ rest) in omega (arith, e, l)

  pub filled-all : left ≡ [] → AreTallied goal tests col all groups
  filled-all none = subst (λ bs. AreTallied goal tests col bs groups) (sym (f.cut ∙ (ap (λ bs. f.front ++ bs) none ∙ append-nil f.front))) f.tallied
