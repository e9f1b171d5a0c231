use Rattle.std.proofs.Common.{◌∷◌, [], ◌++◌, ℕ, List, true, refl, ap, ◌∙◌}
use Rattle.group_text.specs.declared.fault.Fault.TheVariants.{Spent}
use Rattle.group_text.specs.declared.wanted.Wanted.TheVariants.{Reasons}
use Rattle.group_text.specs.Groups.Event.{Judge}
use Rattle.group_text.specs.Replies.{Appends, IsShown, reply_text}
use Rattle.group_text.specs.Replies.GroupReply.{Open, Refused}
use Rattle.group_text.proofs.Replying.{appends_one, on_ok, shown_is_reply}
use Rattle.group_text.proofs.judging.reply_proved.Goals as goal

pub returns-in-Refuted : goal.returns-in-Refuted
returns-in-Refuted c =
    let found = rw c.in-Refuted.is at c.in_ok-cnf.ensures in
    on_ok (λ refused. IsShown c.args.line (record { cnf = c.in-Refuted.cnf; log = c.in-Refuted.log }) refused c.args.out.now.items c.reply_refuted-replied.new.out.items)
    (λ refused. Appends Reasons c.args.budget (Judge c.args.line c.args.group.now ∷ []) refused c.args.out.now.items c.reply_refuted-replied.new.out.items) c.reply_refuted-replied.result
    (λ refused shown. shown_is_reply c.args.budget c.args.line c.args.group.now (record { cnf = c.in-Refuted.cnf; log = c.in-Refuted.log }) refused c.args.out.now.items c.reply_refuted-replied.new.out.items found shown)
    c.reply_refuted-replied.ensures

pub returns-in_ok-append_open-in-Open : goal.returns-in_ok-append_open-in-Open
returns-in_ok-append_open-in-Open c =
    let found = rw c.in-Open.is at c.in_ok-cnf.ensures in
    appends_one Reasons c.args.budget (Judge c.args.line c.args.group.now) (Open c.prove.new.room.choice.items) c.args.out.now.items c.append_open.new.out.items found
    (c.in_ok-append_open-in-Open.ensures ∙ ap (λ (rows : List ℕ). c.args.out.now.items ++ reply_text (Open rows)) c.as_slice.ensures.value)

pub returns-in_ok-append_refused-in-Spent : goal.returns-in_ok-append_refused-in-Spent
returns-in_ok-append_refused-in-Spent c =
    let found = rw c.in-Spent.is at c.in_ok-cnf.ensures in
    appends_one Reasons c.args.budget (Judge c.args.line c.args.group.now) (Refused c.args.line (Spent c.args.budget)) c.args.out.now.items c.append_refused.new.out.items (refl, (refl, found))
    c.in_ok-append_refused-in-Spent.ensures
