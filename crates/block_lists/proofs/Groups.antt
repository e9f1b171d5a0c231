-- How a group comes to be: blocks first, and then one list after the other.
use Rattle.std.proofs.Common.{ℕ, ◌<◌, ◌≤◌, inl, inr, List, [], ◌∷◌, ◌++◌, length, length-append, sym, subst, arith, Contains}
use Rattle.std.specs.List.{sum}
use Rattle.std.proofs.lemmas.List.Elements.{Contains-push_cases}
use Rattle.cqa_value.proofs.Words.{mem-nil}
use Rattle.block_choices.specs.declared.row.BlockRow.{BlockRow}
use Rattle.block_lists.specs.declared.limits.TheConstants.{MOST_GROUP_LISTS, MOST_GROUP_ROWS}
use Rattle.block_choices.specs.Choices.{IsThere}
use Rattle.block_lists.specs.Groups.{IsGroup}

-- blocks without lists
pub group-begun : (sizes : List ℕ) → ((s : ℕ) → Contains sizes s → 0 < s) → sum sizes ≤ MOST_GROUP_ROWS → IsGroup sizes []
group-begun sizes some few = record { some = some; few = few; short = omega arith; there = λ names m. absurd (mem-nil names m) }

-- one list more
pub group-more : (sizes : List ℕ) (lists : List (List BlockRow)) (names : List BlockRow) → IsGroup sizes lists → length lists < MOST_GROUP_LISTS → ((x : BlockRow) → Contains names x → IsThere sizes x) → IsGroup sizes (lists ++ names ∷ [])
group-more sizes lists names g l there = record {
  some = g.some;
  few = g.few;
  short = let e = length-append lists (names ∷ []) in omega (arith, e, l);
  there = λ ns m x i. elim (Contains-push_cases lists names ns m) [
    | inl k ↦ g.there ns k x i
    | inr e ↦ there x (subst (λ (list : List BlockRow). Contains list x) (sym {A = List BlockRow} e) i)
  ];
}
