use Rattle.std.proofs.Common.{◌≡◌, ◌++◌, take}
use Rattle.reply_text.specs.Texts.{numbered_pieces, sql_part_text}
use Rattle.reply_text.proofs.united.append_sql_parts.Given as goal

-- the parts so far are written
abbrev pub invariant-loop-before : goal.invariant-loop-before
invariant-loop-before l = l.out.items ≡ l.fn.out.items ++ numbered_pieces sql_part_text 0 (take l.before l.texts)
