use Rattle.std.proofs.Common.{◌∙◌, sym}
use Rattle.std.proofs.lemmas.Bool.{false≢true}
use Rattle.fo_plan.specs.Holding.{AllHoldWith}
use Rattle.fo_plan.proofs.Gathered.{one-put, none-added}
use Rattle.fo_plan.proofs.giving.keep_one.Goals as goal

pub returns-in_ok-put-clause-added : goal.returns-in_ok-put-clause-added
returns-in_ok-put-clause-added c = one-put (λ r. AllHoldWith c.args.step.now r c.args.block.now) c.args.found.now c.put.new.self c.args.row (c.all_hold.ensures.holds.0 c.if-all_hold.true) c.in_ok-put.ensures

pub returns-else-all_hold-clause-added : goal.returns-else-all_hold-clause-added
returns-else-all_hold-clause-added c =
    none-added (λ r. AllHoldWith c.args.step.now r c.args.block.now) c.args.found.now c.args.row (λ p. false≢true (sym c.if-all_hold.false ∙ c.all_hold.ensures.holds.1 p))
