use Rattle.std.proofs.Common.{◌≡◌, [], ◌++◌, ◌-◌, length, take, sym, ◌∙◌, subst}
use Rattle.group_text.proofs.Replying.{on_ok}
use Rattle.group_stream.specs.Cuts.{ended_line}
use Rattle.group_stream.specs.Steps.{Gathered, Gathers}
use Rattle.group_stream.specs.Steps.{Judges as JudgesLine}
use Rattle.group_stream.proofs.Between.{judged, nil_of, on_both, same_but_held, says_held, says_whole}
use Rattle.group_stream.proofs.gathering.Gathering.end_line.Goals as goal

pub returns-then-is_between-clause-gathers : goal.returns-then-is_between-clause-gathers
returns-then-is_between-clause-gathers c =
    let none = nil_of c.args.self.now.held (sym c.is_between.ensures ∙ c.if-is_between.true) in
    on_ok (λ (u : Unit {0}). JudgesLine c.args.bytes.now c.args.self.now c.judge_line.new.self) (λ (u : Unit {0}). Gathers c.args.self.now c.judge_line.new.self (ended_line c.args.bytes.now)) c.judge_line.result
    (λ u j. judged c.args.self.now c.judge_line.new.self c.args.bytes.now c.args.bytes.now c.requires.whole j (c.judge_line.ensures.held ∙ none) (says_whole c.args.self.now c.args.bytes.now none))
    c.judge_line.ensures.judged

pub returns-clause-gathers : goal.returns-clause-gathers
returns-clause-gathers c =
    let held = c.args.self.now.held ++ take (16777217 - length c.args.self.now.held) c.args.bytes.now in
    on_both (λ (u : Unit {0}). JudgesLine c.hold.new.self.held c.hold.new.self c.judge_held.new.self) (λ (u : Unit {0}). c.judge_held.new.self.held ≡ []) (λ (u : Unit {0}). Gathers c.args.self.now c.judge_held.new.self (ended_line c.args.bytes.now)) c.judge_held.result
    (λ u j none. judged c.args.self.now c.judge_held.new.self held c.args.bytes.now c.requires.whole
    (same_but_held c.args.self.now held held c.judge_held.new.self (subst (λ (g : Gathered). JudgesLine g.held g c.judge_held.new.self) c.in_ok-hold.ensures j)) none (says_held c.args.self.now c.args.bytes.now))
    c.judge_held.ensures.judged c.judge_held.ensures.held
