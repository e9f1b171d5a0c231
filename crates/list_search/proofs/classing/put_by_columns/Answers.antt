use Rattle.std.proofs.lemmas.List.Sorted.{Contains-permutation, IsPermutation-sym}
use Rattle.list_search.proofs.classing.put_by_columns.Goals as goal

pub returns : goal.returns
returns c p =
    let moved = c.sort_unstable_by.ensures.permutation in
    (λ h. Contains-permutation _ _ p (IsPermutation-sym _ _ moved) h, λ h. Contains-permutation _ _ p moved h)
