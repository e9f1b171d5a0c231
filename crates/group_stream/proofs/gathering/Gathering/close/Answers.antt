use Rattle.std.proofs.Common.{◌+◌, ◌||◌, ap, subst}
use Rattle.group_text.specs.Groups.{left_open}
use Rattle.group_text.specs.Replies.{Appends}
use Rattle.group_stream.specs.Steps.{Gathered}
use Rattle.group_stream.proofs.Between.{closed}
use Rattle.group_stream.proofs.gathering.Gathering.close.Goals as goal

pub returns : goal.returns
returns c =
    let mid : Gathered = c.judge_last.new.self in
    let new : Gathered = record { machine = mid.machine; held = mid.held; out = c.end.new.out.items; refused = c.self.inside.refused || c.in_ok-refused.refused } in
    let end = subst (λ (g : Gathered). Appends g.machine.wanted g.machine.budget (left_open (g.machine.number + 1) g.machine.underway) c.in_ok-refused.refused g.out c.end.new.out.items) c.self.view_is c.in_ok-refused.ensures in
    closed c.args.self.now mid new c.in_ok-refused.refused c.in_ok-judge_last.ensures.closes end (ap (λ (g : Gathered). g.refused || c.in_ok-refused.refused) c.self.view_is)
