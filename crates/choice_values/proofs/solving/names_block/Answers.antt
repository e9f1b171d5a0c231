use Rattle.std.proofs.Common.{◌≢◌}
use Rattle.choice_values.proofs.Worths.{in-at}
use Rattle.choice_values.proofs.solving.names_block.Goals as goal

pub returns-then-name-block : goal.returns-then-name-block
returns-then-name-block c =
    λ t f. in-at (λ x. x ≢ c.args.block) c.args.names.now c.loop-name.name-index (record { block = 0; row = 0 }) c.loop-name-test.true f c.if-name-block.true
