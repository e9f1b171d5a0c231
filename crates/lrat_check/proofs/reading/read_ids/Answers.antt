use Rattle.std.proofs.Common.{◌∙◌}
use Rattle.lrat_check.proofs.StepLines.{ids_more}
use Rattle.lrat_check.proofs.reading.read_ids.Goals as goal

pub loop-ids-preserved : goal.loop-ids-preserved
loop-ids-preserved c = let e = c.in-Some.ensures in record {
  line = c.loop-ids.invariant.line ∙ e.1.same_line;
  so_far = ids_more c.loop-ids.ids.items c.push.new.self.items e.0 _ _ c.in-Some.id _ e.1.token_is e.2 c.if-id-eq0.false c.loop-ids.invariant.so_far c.in_ok-push-in-Some.ensures.items;
}
