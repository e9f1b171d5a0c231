use Rattle.search_trail.proofs.implications.Implications.+is_implied.Given as goal

abbrev pub decreases-is_implied : goal.decreases-is_implied
decreases-is_implied l = l.steps
