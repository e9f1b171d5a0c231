use Rattle.std.proofs.Common.{◌≡◌, ◌++◌, codes, take}
use Rattle.std.specs.List.{flat_map}
use Rattle.reply_text.specs.Texts.{conflict_text}
use Rattle.reply_text.proofs.contested.append_contested.Given as goal

-- the tables so far are written
abbrev pub invariant-loop-line : goal.invariant-loop-line
invariant-loop-line l = l.out.items ≡ l.fn.out.items ++ flat_map (λ line. conflict_text line ++ codes "\n") (take l.line-index l.lines)
