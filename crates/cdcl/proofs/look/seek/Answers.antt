use Rattle.std.proofs.Common.{refl}
use Rattle.search_trail.specs.Trail.{held}
use Rattle.cdcl.proofs.TrailLemmas.{all_denied}
use Rattle.cdcl.proofs.look.seek.Goals as goal

pub returns-in-None-free_lit : goal.returns-in-None-free_lit
returns-in-None-free_lit c = all_denied (held c.args.trail.now) c.args.clause.now c.args.other (c.in-False.ensures.no refl) c.in-None-free_lit.ensures
