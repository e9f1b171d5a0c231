use Rattle.std.proofs.Common.{refl}
use Rattle.group_text.specs.declared.fault.Fault.TheVariants.{Overworked}
use Rattle.group_text.specs.declared.wanted.Wanted.TheVariants.{Ranges}
use Rattle.group_text.specs.Groups.Event.{Judge}
use Rattle.group_text.specs.Replies.GroupReply.{Refused}
use Rattle.group_text.proofs.Replying.{appends_one}
use Rattle.group_text.proofs.ranging.reply_fault.Goals as goal

pub returns-in_ok-append_refused-in-Spent : goal.returns-in_ok-append_refused-in-Spent
returns-in_ok-append_refused-in-Spent c = λ d.
    appends_one Ranges c.args.budget (Judge c.args.line d) (Refused c.args.line (Overworked c.args.budget)) c.args.out.now.items c.append_refused.new.out.items (refl, refl) c.in_ok-append_refused-in-Spent.ensures
