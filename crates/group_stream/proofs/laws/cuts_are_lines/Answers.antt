use Rattle.group_stream.proofs.Cutting.{cuts_are_lines}
use Rattle.group_stream.proofs.laws.cuts_are_lines.Goals as goal

pub returns : goal.returns
returns c = cuts_are_lines
