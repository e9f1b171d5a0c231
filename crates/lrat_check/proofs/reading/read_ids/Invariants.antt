use Rattle.std.proofs.Common.{◌≡◌, length}
use Rattle.cnf_form.specs.Lines.{after_line, line_of, tokens}
use Rattle.lrat_check.specs.LogTexts.{ids_of}
use Rattle.lrat_check.specs.LogParts.{after_ids}
use Rattle.lrat_check.proofs.reading.read_ids.Given as goal

abbrev pub invariant-loop-ids : goal.invariant-loop-ids
invariant-loop-ids l = record {
  line : after_line l.text ≡ after_line l.rest;
  so_far : ids_of (tokens (line_of l.text)) ≡ after_ids l.ids.items (ids_of (tokens (line_of l.rest)));
}

abbrev pub decreases-loop-ids : goal.decreases-loop-ids
decreases-loop-ids l = length l.rest
