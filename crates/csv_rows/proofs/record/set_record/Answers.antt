use Rattle.std.proofs.Common.{◌≡◌, ◌++◌, ◌∷◌, ◌∙◌, ◌+◌, ◌<◌, [], map, take, length, slice_index_or, sym, ap, subst, arith}
use Rattle.std.proofs.lemmas.List.{map-append, take_all, take_more}
use Rattle.std.proofs.lemmas.List.Elements.{All-nil, All-push}
use Rattle.cqa_value.specs.Valid.{IsValidRow, IsValidValue}
use Rattle.csv_rows.specs.Texts.{value_bytes}
use Rattle.csv_rows.proofs.record.set_record.Goals as goal

pub loop-value-init : goal.loop-value-init
loop-value-init c = (c.clear.ensures.fields, c.clear.ensures.partial, All-nil IsValidValue)

pub push_value-requires : goal.push_value-requires
push_value-requires c = c.loop-value.invariant.1

pub loop-value-preserved : goal.loop-value-preserved
loop-value-preserved c =
    let inv = c.loop-value.invariant in
    let i = c.loop-value.value-index in
    let v = c.value-item.result in
    let row = c.args.row.now in
    let same = c.as_slice-value-items.ensures in
    let within : i < length row = omega (arith, c.loop-value-test.true, ap length same) in
    let at : v ≡ slice_index_or row i v = c.value-item.is ∙ ap (λ l. slice_index_or l i v) same in
    let step : take (i + 1) row ≡ take i row ++ v ∷ [] = take_more row i v within ∙ ap (λ y. take i row ++ y ∷ []) (sym at) in (
      c.in_ok-push_value.ensures.fields ∙ ap (λ l. l ++ value_bytes v ∷ []) inv.0 ∙ sym (map-append value_bytes (take i row) (v ∷ [])) ∙ ap (map value_bytes) (sym step),
      c.in_ok-push_value.ensures.whole,
      subst IsValidRow (sym step) (All-push IsValidValue (take i row) v inv.2 c.in_ok-push_value.ensures.stored),
    )

pub returns-clause-fields : goal.returns-clause-fields
returns-clause-fields c =
    let all = take_all c.loop-value.value-index c.args.row.now (omega (arith, c.loop-value-test.false, ap length c.as_slice-value-items.ensures)) in
    c.loop-value.invariant.0 ∙ ap (map value_bytes) all

pub returns-clause-stored : goal.returns-clause-stored
returns-clause-stored c =
    let all = take_all c.loop-value.value-index c.args.row.now (omega (arith, c.loop-value-test.false, ap length c.as_slice-value-items.ensures)) in
    subst IsValidRow all c.loop-value.invariant.2
