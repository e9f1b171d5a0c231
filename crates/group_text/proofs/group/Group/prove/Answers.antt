use Rattle.std.proofs.Common.{ℕ, List, subst, IfOk}
use Rattle.block_choices.specs.declared.row.BlockRow.{BlockRow}
use Rattle.block_lists.specs.Judging.{IsProved}
use Rattle.group_text.specs.Groups.{Draft}
use Rattle.group_text.specs.Weights.{names_in}
use Rattle.group_text.proofs.group.Group.prove.Goals as goal

pub returns : goal.returns
returns c =
    subst (λ (d : Draft). IfOk c.prove.result (IsProved d.sizes (names_in d.lists) c.args.budget c.prove.new.room.choice.items)) c.self.view_is
    (subst (λ (xs : List ℕ). IfOk c.prove.result (IsProved xs (names_in c.self.inside.lists) c.args.budget c.prove.new.room.choice.items)) c.as_slice.ensures.value
    (subst (λ (ls : List (List BlockRow)). IfOk c.prove.result (IsProved c.as_slice.result.now ls c.args.budget c.prove.new.room.choice.items)) c.lists.ensures c.prove.ensures))
