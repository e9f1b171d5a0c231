use Rattle.search_trail.proofs.Works.{At-get_or}
use Rattle.search_trail.proofs.Reasons.{reason_in}
use Rattle.search_trail.proofs.Walking.{no_entry}
use Rattle.search_trail.proofs.implications.Implications.implied_by.Goals as goal

pub is_implied-requires-clause-reason : goal.is_implied-requires-clause-reason
is_implied-requires-clause-reason c =
    let g = c.args.self.now in
    reason_in g.clauses.now g.trail.now c.args.at _ g.reasons (At-get_or g.trail.now c.args.at no_entry c.requires.at) _ c.in-Some.is
