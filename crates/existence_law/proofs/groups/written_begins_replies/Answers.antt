use Rattle.existence_law.proofs.Continuing.{written_begins_replies}
use Rattle.existence_law.proofs.groups.written_begins_replies.Goals as goal

pub returns : goal.returns
returns c = written_begins_replies
