use Rattle.std.proofs.Common.{◌≡◌, refl, sym, ◌∙◌, ap, subst, Some, None}
use Rattle.std.specs.Option.{IsSome, option_copied_mut}
use Rattle.std.specs.BTreeMap.{get, UpdatesBy}
use Rattle.cqa_value.specs.contracts.value.ValueOrd.TheImpl.{cmp-value as derived_cmp}
use Rattle.range_ask.specs.Tallying.{IsMore, HasRowMore}
use Rattle.range_ask.proofs.Keyed.{more-updates}
use Rattle.range_ask.proofs.groups.add_row.Goals as goal

pub returns-in-Some : goal.returns-in-Some
returns-in-Some c =
    let old = c.args.groups.now in
    let value = c.args.value.now in
    let found : get derived_cmp.it old value ≡ Some c.in-Some.tally.now = sym c.get_mut.ensures.value ∙ ap option_copied_mut c.in-Some.is in
    more-updates c.args.goal.now c.args.turn c.args.row.now value old (c.get_mut.follows.lender c.more.result) c.more.result
    (subst (λ o. IsMore c.args.goal.now c.args.turn c.args.row.now o c.more.result) (sym found) c.more.ensures)
    ((c.get_mut.follows.holds c.more.result).3 (subst IsSome (sym found) refl))

pub returns : goal.returns
returns c =
    let old = c.get_mut.follows.lender-at-none in
    let value = c.args.value.now in
    let key = c.in_ok-copy.field-0 in
    let tally = c.more-2.result in
    let new = c.insert.new.self in
    let same : key ≡ value = c.in_ok-copy.ensures in
    let updates : UpdatesBy derived_cmp.it (derived_cmp.it key) old new (Some tally) = c.in_ok-insert.ensures.updates in
    let none : get derived_cmp.it c.args.groups.now value ≡ None = sym c.get_mut.ensures.value ∙ ap option_copied_mut c.in_default.is in
    subst (λ m. HasRowMore c.args.goal.now c.args.turn c.args.row.now value m new) c.get_mut.follows.holds-at-none
    (more-updates c.args.goal.now c.args.turn c.args.row.now value old new tally
    (subst (λ o. IsMore c.args.goal.now c.args.turn c.args.row.now o tally) (sym (ap (λ m. get derived_cmp.it m value) c.get_mut.follows.holds-at-none ∙ none)) c.more-2.ensures)
    (subst (λ k. UpdatesBy derived_cmp.it (derived_cmp.it k) old new (Some tally)) same updates))
