use Rattle.std.proofs.Common.{rules, ◌≢◌, ◌<◌, length, sym, subst}
use Rattle.choice_values.specs.Choosing.{IsFree}
use Rattle.choice_values.proofs.Worths.{are-in-at}
use Rattle.choice_values.proofs.solving.is_named.Goals as goal

pub returns-then-names_block : goal.returns-then-names_block
returns-then-names_block c =
    let lists = c.args.lists.now in
    let l : c.loop-at.at < length lists = search rules in
    λ t f. c.names_block.ensures c.if-names_block.true (subst (IsFree c.args.block) (sym c.names.ensures) (are-in-at (λ x. x ≢ c.args.block) lists c.loop-at.at l f))
