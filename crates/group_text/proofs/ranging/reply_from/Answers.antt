use Rattle.group_text.specs.declared.wanted.Wanted.TheVariants.{Ranges}
use Rattle.group_text.specs.Groups.Event.{Judge}
use Rattle.group_text.specs.Replies.GroupReply.{Between}
use Rattle.group_text.proofs.Replying.{appends_one}
use Rattle.group_text.proofs.ranging.reply_from.Goals as goal

pub returns-in_ok-appended-in-Ok : goal.returns-in_ok-appended-in-Ok
returns-in_ok-appended-in-Ok c =
    appends_one Ranges c.args.budget (Judge c.args.line c.args.group.now) (Between c.args.least.now c.in-Ok.greatest) c.args.out.now.items c.append_between-appended.new.out.items (c.requires, c.in-Ok.ensures) c.in_ok-appended-in-Ok.ensures
