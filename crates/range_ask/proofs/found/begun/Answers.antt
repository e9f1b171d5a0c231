use Rattle.std.proofs.Common.{◌≡◌, ◌+◌, sym, subst}
use Rattle.range_ask.specs.Ranges.{meets}
use Rattle.range_ask.specs.Finding.{row_in_block, IsMetSoFar}
use Rattle.range_ask.proofs.found.begun.Goals as goal

pub returns-clause-met : goal.returns-clause-met
returns-clause-met c =
    let look = c.args.look.now in
    let p = meets look.tests.now in
    let none = c.unread.ensures.read in
    λ block e. subst (λ n. IsMetSoFar look.way p look.col block (n + 1) c.read_row.result) none
    (c.read_row.ensures.met block (subst (λ n. IsMetSoFar look.way p look.col block n c.unread.result) (sym none) (c.unread.ensures.met look.way p look.col block)) (subst (λ n. c.args.row.now ≡ row_in_block block n) (sym none) e))
