use Rattle.std.proofs.Common.{◌++◌, ℕ, List, false, None, refl, ap, ◌∙◌}
use Rattle.group_text.specs.declared.fault.Fault.TheVariants.{Spent}
use Rattle.group_text.specs.declared.wanted.Wanted.TheVariants.{Verdicts}
use Rattle.group_text.specs.Groups.Event.{Judge}
use Rattle.group_text.specs.Replies.{reply_text}
use Rattle.group_text.specs.Replies.GroupReply.{Certain, Open, Refused}
use Rattle.group_text.proofs.Replying.{appends_one}
use Rattle.group_text.proofs.judging.reply_judged.Goals as goal

pub returns-in_ok-extend_from_slice-in-Certain : goal.returns-in_ok-extend_from_slice-in-Certain
returns-in_ok-extend_from_slice-in-Certain c =
    let found = rw c.in-Certain.is at c.in_ok-judge.ensures in
    appends_one Verdicts c.args.budget (Judge c.args.line c.args.group.now) (Certain None) c.args.out.now.items c.extend_from_slice.new.self.items (found, tt) c.in_ok-extend_from_slice-in-Certain.ensures.items

pub returns-in_ok-append_open-in-Open : goal.returns-in_ok-append_open-in-Open
returns-in_ok-append_open-in-Open c =
    let found = rw c.in-Open.is at c.in_ok-judge.ensures in
    appends_one Verdicts c.args.budget (Judge c.args.line c.args.group.now) (Open c.judge.new.room.choice.items) c.args.out.now.items c.append_open.new.out.items found
    (c.in_ok-append_open-in-Open.ensures ∙ ap (λ (rows : List ℕ). c.args.out.now.items ++ reply_text (Open rows)) c.as_slice.ensures.value)

pub returns-in_ok-append_refused-in-Spent : goal.returns-in_ok-append_refused-in-Spent
returns-in_ok-append_refused-in-Spent c =
    let found = rw c.in-Spent.is at c.in_ok-judge.ensures in
    appends_one Verdicts c.args.budget (Judge c.args.line c.args.group.now) (Refused c.args.line (Spent c.args.budget)) c.args.out.now.items c.append_refused.new.out.items (refl, (refl, found))
    c.in_ok-append_refused-in-Spent.ensures
