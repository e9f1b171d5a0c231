use Rattle.std.proofs.Common.{ℕ, List, subst, IfOk}
use Rattle.block_choices.specs.declared.row.BlockRow.{BlockRow}
use Rattle.block_lists.specs.Judging.{IsJudged}
use Rattle.group_text.specs.Groups.{Draft}
use Rattle.group_text.specs.Weights.{names_in}
use Rattle.group_text.proofs.group.Group.judge.Goals as goal

pub returns : goal.returns
returns c =
    subst (λ (d : Draft). IfOk c.judge.result (IsJudged d.sizes (names_in d.lists) c.args.budget c.judge.new.room.choice.items)) c.self.view_is
    (subst (λ (xs : List ℕ). IfOk c.judge.result (IsJudged xs (names_in c.self.inside.lists) c.args.budget c.judge.new.room.choice.items)) c.as_slice.ensures.value
    (subst (λ (ls : List (List BlockRow)). IfOk c.judge.result (IsJudged c.as_slice.result.now ls c.args.budget c.judge.new.room.choice.items)) c.lists.ensures c.judge.ensures))
