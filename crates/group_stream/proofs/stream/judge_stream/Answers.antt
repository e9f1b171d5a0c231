use Rattle.group_stream.proofs.stream.judge_stream.Goals as goal

pub returns-clause-row : goal.returns-clause-row
returns-clause-row g c = c.judge_pieces-ending.ensures.row c.args.wanted c.args.budget c.new-gathering.ensures.stands
