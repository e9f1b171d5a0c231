use Rattle.std.proofs.Common.{true, refl, sym, subst}
use Rattle.group_text.specs.declared.fault.Fault.TheVariants.{Unfinished}
use Rattle.group_text.specs.declared.machine.Place.{Place}
use Rattle.group_text.specs.Groups.{left_open}
use Rattle.group_text.specs.Groups.Event.{Refuse}
use Rattle.group_text.specs.Machines.{Standing, underway_at}
use Rattle.group_text.specs.Replies.{Appends}
use Rattle.group_text.specs.Replies.GroupReply.{Refused}
use Rattle.group_text.proofs.Replying.{appends_one}
use Rattle.group_text.proofs.machine.Machine.leave_open.Goals as goal

pub returns-in_ok-append_refused-in-Within : goal.returns-in_ok-append_refused-in-Within
returns-in_ok-append_refused-in-Within c =
    subst (λ (m : Standing). Appends m.wanted m.budget (left_open m.number m.underway) true c.args.out.now.items c.append_refused.new.out.items) c.self.view_is
    (subst (λ (p : Place). Appends c.self.inside.wanted c.self.inside.budget (left_open c.self.inside.number (underway_at p c.self.inside.group)) true c.args.out.now.items c.append_refused.new.out.items) (sym c.in-Within.is)
    (appends_one c.self.inside.wanted c.self.inside.budget (Refuse c.self.inside.number Unfinished) (Refused c.self.inside.number Unfinished) c.args.out.now.items c.append_refused.new.out.items refl c.in_ok-append_refused-in-Within.ensures))
