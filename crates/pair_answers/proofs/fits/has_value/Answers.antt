use Rattle.cqa_model.proofs.ClassNames.{untold}
use Rattle.pair_answers.proofs.fits.has_value.Goals as goal

pub are_linked-requires-clause-variables : goal.are_linked-requires-clause-variables
are_linked-requires-clause-variables c = let bound = c.args.side.now.bound.now in untold bound.query.now bound.variables bound.named
