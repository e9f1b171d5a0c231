use Rattle.std.proofs.Common.{◌≡◌, ◌++◌, take}
use Rattle.reply_text.specs.Texts.{parts_text}
use Rattle.reply_text.proofs.united.append_parts.Given as goal

-- the parts so far are written
abbrev pub invariant-loop-before : goal.invariant-loop-before
invariant-loop-before l = l.out.items ≡ l.fn.out.items ++ parts_text (take l.before l.parts)
