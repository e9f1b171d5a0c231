use Rattle.std.proofs.Common.{sym, ◌∙◌, refl}
use Rattle.group_text.proofs.Replying.{on_ok}
use Rattle.group_stream.specs.Steps.{Closes}
use Rattle.group_stream.specs.Steps.{Judges as JudgesLine}
use Rattle.group_stream.proofs.Between.{last_judged, nil_of, none_judged, some_of}
use Rattle.group_stream.proofs.gathering.Gathering.judge_last.Goals as goal

pub returns-then-is_between-clause-closes : goal.returns-then-is_between-clause-closes
returns-then-is_between-clause-closes c = none_judged c.args.self.now (nil_of c.args.self.now.held (sym c.is_between.ensures ∙ c.if-is_between.true))

pub returns-clause-closes : goal.returns-clause-closes
returns-clause-closes c =
    on_ok (λ (u : Unit {0}). JudgesLine c.args.self.now.held c.args.self.now c.judge_held.new.self) (λ (u : Unit {0}). Closes c.args.self.now c.judge_held.new.self) c.judge_held.result
    (λ u j. last_judged c.args.self.now c.judge_held.new.self c.args.self.now.held j refl (some_of c.args.self.now.held (sym c.is_between.ensures ∙ c.if-is_between.false)))
    c.judge_held.ensures.judged
