use Rattle.std.proofs.Common.{◌∙◌, sym, ap, Some}
use Rattle.std.proofs.lemmas.Option.{get_or_from_slice_get, same_Some}
use Rattle.row_order.proofs.Taken.{taken-get}
use Rattle.row_order.proofs.short_list.value_at.Goals as goal

pub unreachable-requires : goal.unreachable-requires
unreachable-requires g c =
    let t = taken-get (λ x. x.now) c.args.slots.now c.args.at c.requires.taken c.requires.within in
    let e = get_or_from_slice_get c.args.slots.now c.args.at (Some t.0) _ t.1 in
    cc (sym e ∙ c.in-None.is)

pub returns : goal.returns
returns g c =
    let t = taken-get (λ x. x.now) c.args.slots.now c.args.at c.requires.taken c.requires.within in
    let e = get_or_from_slice_get c.args.slots.now c.args.at (Some t.0) _ t.1 in
    t.2 ∙ ap (λ r. Some r.now) (same_Some _ _ (sym e ∙ c.in-Some.is))
