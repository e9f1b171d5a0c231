use Rattle.std.proofs.Common.{◌-◌, sym, []}
use Rattle.std.proofs.lemmas.Option.{get_or_from_slice_get}
use Rattle.fo_plan.proofs.Passing.{begins}
use Rattle.fo_plan.proofs.enough.Blocks.begins_block.Goals as goal

pub returns-else-at-eq0 : goal.returns-else-at-eq0
returns-else-at-eq0 c =
    let s = c.args.self.now in
    begins s.key.now s.rows c.args.at s.in_order c.requires c.if-at-eq0.false c.get.result.now c.get-else-at-eq0.result.now c.same_key.result
    (sym (get_or_from_slice_get s.rows (c.args.at - 1) c.get.result.now [] c.get.ensures))
    (sym (get_or_from_slice_get s.rows c.args.at c.get-else-at-eq0.result.now [] c.get-else-at-eq0.ensures))
    c.same_key.ensures
