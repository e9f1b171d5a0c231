use Rattle.std.proofs.Common.{rules, sym}
use Rattle.std.specs.Prelude.{nat_eq}
use Rattle.std.specs.Cmp.Lexicographic.{pointwise, same_text}
use Rattle.std.proofs.lemmas.Fn.{dedup_same}
use Rattle.std.proofs.lemmas.List.Kept.{Contains-dedup, Contains-from_dedup}
use Rattle.std.proofs.lemmas.List.Sorted.{Contains-permutation, IsPermutation-sym}
use Rattle.std.proofs.lemmas.Cmp.{nat_list_eq_equiv}
use Rattle.list_search.proofs.class_lists.each_once.Goals as goal

pub returns : goal.returns
returns c list =
    let moved = c.sort_unstable_by.ensures.permutation in
    rw (dedup_same _ (pointwise nat_eq) _ (λ x y b f' x' y' k. search rules) _ _ c.dedup_by.ensures.filtered) (
      λ h. Contains-permutation _ _ list (IsPermutation-sym _ _ moved) (Contains-from_dedup (pointwise nat_eq) _ list h),
      λ h. Contains-dedup nat_list_eq_equiv (λ xs ys e. same_text xs ys (sym e)) _ list (Contains-permutation _ _ list moved h),
    )
