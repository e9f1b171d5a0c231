use Rattle.std.proofs.Common.{◌≡◌, map, take}
use Rattle.query_replies.specs.Kept.{kept_line}
use Rattle.query_replies.proofs.kept.kept_rows.Given as goal

-- the lines so far
abbrev pub invariant-loop-name : goal.invariant-loop-name
invariant-loop-name l = l.lines ≡ map (kept_line l.db) (take l.name-index l.names)
