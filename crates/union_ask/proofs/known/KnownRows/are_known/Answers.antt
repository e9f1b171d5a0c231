use Rattle.std.proofs.Common.{◌≡◌, ◌∙◌, List, None, Some, ap, get_or, sym}
use Rattle.std.proofs.lemmas.List.{get_or_default}
use Rattle.cqa_value.specs.declared.value.Value.{Value}
use Rattle.union_ask.specs.Known.{IsGivenAt}
use Rattle.union_ask.proofs.Looking.{one_more, rows-there}
use Rattle.union_ask.proofs.known.KnownRows.are_known.Goals as goal

pub loop-at-preserved : goal.loop-at-preserved
loop-at-preserved c =
    let known = c.args.self.now in
    let at = c.loop-at.at in
    one_more (λ i. IsGivenAt known c.args.given.now i → (rows : List (List Value)) × (get_or known i None ≡ Some rows)) at
    (λ given.
    let same : c.as_slice-known.result.now ≡ known = c.as_slice-known.ensures ∙ c.self.view_is in
    let item = c.index-known-at.result in
    let there = rows-there item c.if-is_none.ensures in
    (there.0, ap (λ xs. get_or xs at None) (sym same) ∙ get_or_default c.as_slice-known.result.now at None item c.loop-at-test.true ∙ sym c.index-known-at.is ∙ there.1)) c.loop-at.invariant
