use Rattle.std.proofs.Common.{◌∙◌, ◌⊎◌, ◌↔◌, List, Contains, sym, subst}
use Rattle.std.proofs.lemmas.List.{nil_from_length}
use Rattle.std.specs.Vec.Iter.{into_iter_items}
use Rattle.cqa_value.specs.declared.value.Value.{Value}
use Rattle.union_ask.proofs.Sets.{ArePutTo, put-more, put-all}
use Rattle.union_ask.proofs.candidates.put_rows.Goals as goal

pub loop-row-init : goal.loop-row-init
loop-row-init c row = ((λ x. x), (λ x. x))

pub loop-row-preserved : goal.loop-row-preserved
loop-row-preserved c =
    let all = into_iter_items c.into_iter-row-iterator.result in
    let later = into_iter_items c.next.new.self in
    put-more c.args.rows.now.items all c.loop-row.rows.items c.put_row.new.rows.items c.in-Some.row later
    (subst (ArePutTo c.args.rows.now.items all c.loop-row.rows.items) c.in-Some.ensures.steps.0 c.loop-row.invariant) c.in_ok-at.ensures

pub returns : goal.returns
returns c row =
    let all = into_iter_items c.into_iter-row-iterator.result in
    subst (λ (more : List (List Value)). Contains c.loop-row.rows.items row ↔ (Contains c.args.rows.now.items row ⊎ Contains more row)) c.into_iter-row-iterator.ensures.into_iter_gives.0
    (put-all c.args.rows.now.items all c.loop-row.rows.items (into_iter_items c.loop-row.row-iterator) c.loop-row.invariant
    (nil_from_length (into_iter_items c.loop-row.row-iterator) (sym c.loop-row.row-iterator.rest.ok.0 ∙ c.in-None.ensures.steps.0)) row)
