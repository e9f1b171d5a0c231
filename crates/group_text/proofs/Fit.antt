-- What keeps a group fit.
use Rattle.std.proofs.Common.{◌≡◌, ℕ, ◌<◌, ◌+◌, List, [], ◌∷◌, ◌++◌, length, sym, ◌∙◌, ap, subst, arith, Bool, true, cond, Ok, Err}
use Rattle.std.specs.Prelude.{nat_lt}
use Rattle.std.proofs.lemmas.Bool.Decides.{nat_tests}
use Rattle.std.specs.List.{sum_by}
use Rattle.std.proofs.lemmas.List.Sums.{sum_by_push}
use Rattle.cqa_value.proofs.Words.{mem-nil}
use Rattle.block_lists.proofs.Groups.{group-begun, group-more}
use Rattle.std.proofs.lemmas.List.{length-map, map_push}
use Rattle.block_lists.specs.Groups.{IsGroup}
use Rattle.choice_values.specs.Values.{AreLists, Weighted}
use Rattle.group_text.specs.Fitting.{IsFit}
use Rattle.group_text.specs.declared.fault.Fault.TheVariants.{ManyLists}
use Rattle.group_text.specs.declared.wanted.Wanted.{Wanted}
use Rattle.group_text.specs.Groups.{list_of, told_list}
use Rattle.group_text.specs.Weights.{before_weight, from_weight, names_in, weighs}
use Rattle.group_text.specs.Names.{AreNamed}
use Rattle.group_text.specs.Sizes.{AreSizes}

pub fit_begun : (sizes : List ℕ) (lists : List Weighted) (named : ℕ) → AreSizes sizes → lists ≡ [] → named ≡ sum_by length (names_in lists) → IsFit sizes lists named
fit_begun sizes lists named are none counted = subst (λ (ls : List Weighted). IsFit sizes ls named) (sym none) (empty (counted ∙ ap (λ (ls : List Weighted). sum_by length (names_in ls)) none))
  where
    empty : named ≡ 0 → IsFit sizes [] named
    empty e = record { group = group-begun sizes are.some are.few; counted = e; few = omega (arith, e) }

-- no blocks
pub no_sizes : AreSizes []
no_sizes = record { some = λ s m. absurd (mem-nil s m); few = omega arith }

-- a list joins
pub fit_more : (sizes : List ℕ) (lists : List Weighted) (named : ℕ) (list : Weighted) → IsFit sizes lists named → AreNamed sizes named list.names → length lists < 1000000 → IsFit sizes (lists ++ list ∷ []) (named + length list.names)
fit_more sizes lists named list fit are room = record {
  group = subst (IsGroup sizes) (sym joined) (group-more sizes (names_in lists) list.names fit.group (omega (arith, length-map lists (λ (l : Weighted). l.names), room)) are.there);
  counted = ap (λ (n : ℕ). n + length list.names) fit.counted ∙ sym (sum_by_push length (names_in lists) list.names) ∙ ap (sum_by length) (sym joined);
  few = are.few;
}
  where
    joined : names_in (lists ++ list ∷ []) ≡ names_in lists ++ list.names ∷ []
    joined = map_push (λ (l : Weighted). l.names) lists list

-- what is fit may be searched
pub fit_lists : (sizes : List ℕ) (lists : List Weighted) (named : ℕ) → IsFit sizes lists named → AreLists sizes lists
fit_lists sizes lists named fit = record { some = fit.group.some; there = fit.group.there }

less : (a b : ℕ) → a < b → nat_lt a b ≡ true
less a b h = grind (arith, nat_tests, h)

-- tokens tell a list where there is room for one
pub list_joins : (wanted : Wanted) (sizes : List ℕ) (lists : List Weighted) (named : ℕ) (ts : List (List ℕ)) (list : Weighted) → IsFit sizes lists named → length lists < 1000000
    → told_list sizes named (before_weight (weighs wanted) ts) (from_weight (weighs wanted) ts) ≡ Ok list → list_of wanted (record { sizes = sizes; lists = lists }) ts ≡ Ok list
list_joins wanted sizes lists named ts list fit room told =
    ap (λ (c : Bool). cond c (told_list sizes (sum_by length (names_in lists)) (before_weight (weighs wanted) ts) (from_weight (weighs wanted) ts)) (Err ManyLists)) (less (length lists) 1000000 room)
    ∙ ap (λ (n : ℕ). told_list sizes n (before_weight (weighs wanted) ts) (from_weight (weighs wanted) ts)) (sym fit.counted) ∙ told
