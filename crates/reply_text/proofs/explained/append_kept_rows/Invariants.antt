use Rattle.std.proofs.Common.{◌≡◌, ◌++◌, codes, take}
use Rattle.std.specs.List.{flat_map}
use Rattle.reply_text.specs.Texts.{kept_text}
use Rattle.reply_text.proofs.explained.append_kept_rows.Given as goal

-- the rows so far are written
abbrev pub invariant-loop-line : goal.invariant-loop-line
invariant-loop-line l = l.out.items ≡ l.fn.out.items ++ flat_map (λ line. codes "\n" ++ kept_text line) (take l.line-index l.lines)
