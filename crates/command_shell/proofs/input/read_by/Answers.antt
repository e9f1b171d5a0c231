use Rattle.std.proofs.Common.{arith, ◌-◌, ◌≤◌, ◌++◌, ℕ, List, length, take}
use Rattle.std.proofs.lemmas.List.{length-append, length-take}
use Rattle.std.proofs.KnownBytes.{Consumes-trans}
use Rattle.command_shell.proofs.input.read_by.Goals as goal

-- what came stays within one byte past the limit
within_more : (came piece : List ℕ) (count : ℕ) → count ≤ 268_435_457 - length came → length came ≤ 268_435_457 → length (came ++ take count piece) ≤ 268_435_457
within_more came piece count fits room = omega (arith, length-append came (take count piece), length-take count piece, fits, room)

-- what came last was not kept
pub returns-then-is_err-clause-took : goal.returns-then-is_err-clause-took
returns-then-is_err-clause-took g c = (_, Consumes-trans _ (g.S.Source.left c.loop-source.source) _ _ _ c.loop-source.invariant.took c.in-Ok.ensures.came.0, within_more c.loop-source.input.items c.read_piece.new.piece c.in-Ok.count (search arith) c.loop-source.invariant.within)
