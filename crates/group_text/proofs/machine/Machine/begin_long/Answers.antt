use Rattle.std.proofs.Common.{◌∷◌, []}
use Rattle.group_text.specs.declared.fault.Fault.TheVariants.{LongLine}
use Rattle.group_text.specs.Groups.{left_open}
use Rattle.group_text.specs.Groups.Event.{Refuse}
use Rattle.group_text.proofs.Replying.{appends_both}
use Rattle.group_text.proofs.machine.Machine.begin_long.Goals as goal

pub returns : goal.returns
returns c = (
  c.in_ok-refused.ensures.0,
  appends_both c.args.self.now.wanted c.args.self.now.budget (left_open c.args.self.now.number c.args.self.now.underway) (Refuse c.args.self.now.number LongLine ∷ []) c.in_ok-open.open c.in_ok-refused.refused c.args.out.now.items
      c.leave_open.new.out.items c.refuse.new.out.items c.in_ok-open.ensures c.in_ok-refused.ensures.1,
)
