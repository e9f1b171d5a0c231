use Rattle.std.proofs.Common.{◌≤◌, ◌⊎◌, inl, inr, sym, ◌∙◌, length, arith}
use Rattle.std.proofs.lemmas.Bool.{cases_lt}
use Rattle.value_numbers.proofs.Ending.{ended}
use Rattle.value_numbers.proofs.order.compare_in.Goals as goal

pub returns : goal.returns
returns c =
    let left = c.args.left.now in
    let right = c.args.right.now in
    let at = c.loop-at.at in
    let past = c.loop-at-test.false in
    let most = c.loop-at.auto.at-end in
    let least = c.min-at-end.ensures in
    let over : (length left ≤ at) ⊎ (length right ≤ at) = elim (cases_lt at (length left)) [ inl l ↦ inr (omega (arith, past, least, l)) | inr g ↦ inl g ] in
    c.cmp.ensures ∙ ended c.args.a.now c.args.b.now left right at (omega (arith, most, least)) (omega (arith, most, least)) over ∙ sym c.loop-at.invariant
