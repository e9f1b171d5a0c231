use Rattle.std.proofs.Common.{◌≡◌, ◌++◌, take}
use Rattle.reply_text.specs.Texts.{steps_text}
use Rattle.reply_text.proofs.planned.append_steps.Given as goal

-- the steps so far are written
abbrev pub invariant-loop-before : goal.invariant-loop-before
invariant-loop-before l = l.out.items ≡ l.fn.out.items ++ steps_text (take l.before l.names)
