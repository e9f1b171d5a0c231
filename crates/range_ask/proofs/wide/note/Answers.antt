use Rattle.std.proofs.Common.{◌≤◌, ◌<◌, length, arith, ◌∙◌}
use Rattle.range_ask.proofs.Numbered.{note-narrow, note-wide}
use Rattle.range_ask.proofs.wide.note.Goals as goal

pub returns-in_ok-push : goal.returns-in_ok-push
returns-in_ok-push c = λ front block is e l.
    let more : 1 < length block = omega (arith, l) in
    c.in_ok-push.ensures.items ∙ note-wide front block c.args.wide.now.items is more c.args.number e

pub returns-else-rows-gt1 : goal.returns-else-rows-gt1
returns-else-rows-gt1 c = λ front block is e l.
    let few : length block ≤ 1 = omega (arith, l) in
    note-narrow front block c.args.wide.now.items is few
