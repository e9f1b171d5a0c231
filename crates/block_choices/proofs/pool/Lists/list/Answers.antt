use Rattle.std.proofs.Common.{◌≡◌, ◌<◌, ◌≤◌, ◌∙◌, Some, ap, sym, subst, List, length, slice_get}
use Rattle.std.specs.List.{slice_range}
use Rattle.block_choices.specs.declared.row.BlockRow.{BlockRow}
use Rattle.block_choices.proofs.Stretches.{list-at, within-at}
use Rattle.block_choices.proofs.pool.Lists.list.Goals as goal

pub part-requires-clause-order : goal.part-requires-clause-order
part-requires-clause-order c =
    (within-at c.self.inside.pool.items c.self.inside.stretches.items c.args.at c.index.result.now c.self.invariant (subst (λ (cs : List (List BlockRow)). c.args.at < length cs) (sym c.self.view_is) c.requires) c.index.ensures).0

pub part-requires-clause-within : goal.part-requires-clause-within
part-requires-clause-within c =
    subst (λ (pool : List BlockRow). c.index.result.now.end ≤ length pool) (sym c.as_slice.ensures.value)
    (within-at c.self.inside.pool.items c.self.inside.stretches.items c.args.at c.index.result.now c.self.invariant (subst (λ (cs : List (List BlockRow)). c.args.at < length cs) (sym c.self.view_is) c.requires) c.index.ensures).1

pub returns : goal.returns
returns c =
    subst (λ (cs : List (List BlockRow)). slice_get cs c.args.at ≡ Some c.part.result.now) c.self.view_is
    (list-at c.self.inside.pool.items c.self.inside.stretches.items c.args.at c.index.result.now (subst (λ (cs : List (List BlockRow)). c.args.at < length cs) (sym c.self.view_is) c.requires) c.index.ensures
    ∙ ap Some (sym (c.part.ensures ∙ ap (λ (pool : List BlockRow). slice_range pool c.index.result.now.start c.index.result.now.end) c.as_slice.ensures.value)))
