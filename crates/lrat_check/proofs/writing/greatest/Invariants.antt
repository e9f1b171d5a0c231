use Rattle.std.proofs.Common.{◌≡◌, drop}
use Rattle.lrat_check.specs.Writing.{with_ids}
use Rattle.lrat_check.proofs.writing.greatest.Given as goal

abbrev pub invariant-loop-id : goal.invariant-loop-id
invariant-loop-id l = with_ids l.top (drop l.id-index l.ids) ≡ with_ids l.fn.top l.ids
