use Rattle.std.proofs.Common.{◌||◌, List, ℕ, refl, subst}
use Rattle.group_text.specs.Machines.{Steps, numbered}
use Rattle.group_text.specs.Saying.{said}
use Rattle.group_stream.specs.Steps.{Gathered}
use Rattle.group_stream.specs.Steps.{Judges as JudgesLine}
use Rattle.group_stream.proofs.gathering.Gathering.judge_held.Goals as goal

pub returns-clause-judged : goal.returns-clause-judged
returns-clause-judged c =
    let new : Gathered = record { machine = c.line.new.self; held = c.clear.new.self.items; out = c.line.new.out.items; refused = c.self.inside.refused || c.in_ok-refused.refused } in
    let steps = subst (λ (xs : List ℕ). Steps (said xs) (numbered c.self.inside.machine) c.line.new.self c.in_ok-refused.refused c.self.inside.out.items c.line.new.out.items) c.as_slice.ensures.value c.in_ok-refused.ensures in
    subst (λ (g : Gathered). JudgesLine g.held g new) c.self.view_is (record { refused = c.in_ok-refused.refused; steps = steps; refused_is = refl })
