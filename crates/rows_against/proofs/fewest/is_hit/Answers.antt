use Rattle.std.proofs.Common.{◌≡◌, ◌∙◌, [], None, Some, get_or, subst}
use Rattle.std.proofs.lemmas.List.{get_or_default}
use Rattle.rows_against.proofs.fewest.is_hit.Goals as goal

pub bounds-marks-number : goal.bounds-marks-number
bounds-marks-number c =
    let at = c.loop-atom.atom-index in
    let there = c.loop-atom-test.true in
    let read = c.as_slice.ensures ∙ c.atom-item.is ∙ get_or_default c.args.hits.now at c.atom-item.result [] there in
    c.requires.below c.in-Some.number (at, there, subst (λ xs. get_or xs c.args.witness None ≡ Some c.in-Some.number) read c.in-Some.is)
