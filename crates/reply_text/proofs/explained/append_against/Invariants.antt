use Rattle.std.proofs.Common.{◌≡◌, ◌++◌, codes, take}
use Rattle.std.specs.List.{flat_map}
use Rattle.reply_text.specs.Texts.{kept_text}
use Rattle.reply_text.proofs.explained.append_against.Given as goal

-- the rows so far are written
abbrev pub invariant-loop-line : goal.invariant-loop-line
invariant-loop-line l = l.out.items ≡ l.fn.out.items ++ flat_map (λ line. kept_text line ++ codes "\n") (take l.line-index l.lines)
