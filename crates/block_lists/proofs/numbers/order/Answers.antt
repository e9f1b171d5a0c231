use Rattle.std.specs.Prelude.{nat_eq}
use Rattle.std.proofs.lemmas.Cmp.{nat_cmp_total}
use Rattle.std.specs.Cmp.{unsigned_ties}
use Rattle.std.proofs.lemmas.List.Kept.{IsStrictlySortedBy-dedup, Contains-dedup_nat, Contains-from_dedup}
use Rattle.std.proofs.lemmas.List.Filters.{dedup_is}
use Rattle.std.proofs.lemmas.List.Sorted.{Contains-permutation, IsPermutation-sym}
use Rattle.block_lists.proofs.numbers.order.Goals as goal

pub returns-then-not-rise-clause-rises : goal.returns-then-not-rise-clause-rises
returns-then-not-rise-clause-rises c = rw (dedup_is nat_eq _ _ c.dedup.ensures.filtered) (IsStrictlySortedBy-dedup nat_cmp_total unsigned_ties _ c.sort_unstable.ensures.sorted)

pub returns-then-not-rise-clause-same : goal.returns-then-not-rise-clause-same
returns-then-not-rise-clause-same c n =
    let moved = c.sort_unstable.ensures.permutation in
    rw (dedup_is nat_eq _ _ c.dedup.ensures.filtered) (
      λ h. Contains-permutation _ _ n (IsPermutation-sym _ _ moved) (Contains-from_dedup nat_eq _ n h),
      λ h. Contains-dedup_nat _ n (Contains-permutation _ _ n moved h),
    )
