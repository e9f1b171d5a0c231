use Rattle.std.proofs.Common.{◌≡◌, ◌∷◌, [], true, refl, subst}
use Rattle.group_text.specs.Groups.Event.{Refuse}
use Rattle.group_text.specs.Groups.Underway.{Passing}
use Rattle.group_text.specs.Machines.{Standing}
use Rattle.group_text.specs.Replies.{Appends}
use Rattle.group_text.specs.Replies.GroupReply.{Refused}
use Rattle.group_text.proofs.Replying.{appends_one}
use Rattle.group_text.proofs.machine.Machine.refuse.Goals as goal

pub returns : goal.returns
returns c =
    let now : Standing = record { wanted = c.self.inside.wanted; budget = c.self.inside.budget; number = c.self.inside.number; underway = Passing } in
    subst (λ (m : Standing). (now ≡ record m { underway = Passing }) × Appends m.wanted m.budget (Refuse m.number c.args.fault ∷ []) true c.args.out.now.items c.append_refused.new.out.items) c.self.view_is
    (refl, appends_one c.self.inside.wanted c.self.inside.budget (Refuse c.self.inside.number c.args.fault) (Refused c.self.inside.number c.args.fault) c.args.out.now.items c.append_refused.new.out.items refl c.in_ok-append_refused.ensures)
