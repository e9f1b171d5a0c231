use Rattle.std.proofs.Common.{◌≡◌, ◌∷◌, [], ◌++◌, ◌||◌, ℕ, List, Result, Err, sym, subst}
use Rattle.cnf_form.specs.Lines.{line_of, tokens}
use Rattle.group_text.specs.declared.fault.Fault.{Fault}
use Rattle.group_text.specs.Groups.{begun, fault_in, left_open}
use Rattle.group_text.specs.Groups.Event.{Refuse}
use Rattle.group_text.specs.Groups.Underway.{Passing}
use Rattle.group_text.specs.Machines.{Standing}
use Rattle.group_text.specs.Replies.{Appends}
use Rattle.group_text.specs.Sizes.{sizes_of}
use Rattle.group_text.proofs.Replying.{appends_both}
use Rattle.group_text.proofs.machine.Machine.begin.Goals as goal

pub returns-in_ok-refused-in-Err : goal.returns-in_ok-refused-in-Err
returns-in_ok-refused-in-Err c =
    let fault : sizes_of (tokens (line_of c.args.line.now)) ≡ Err c.in-Err.fault = rw c.in-Err.is at c.in_ok-begin.ensures in
    let refused = subst (λ (m : Standing). (c.refuse.new.self ≡ record m { underway = Passing }) × Appends m.wanted m.budget (Refuse m.number c.in-Err.fault ∷ []) c.in_ok-refused-in-Err.refused c.leave_open.new.out.items c.refuse.new.out.items) c.self.view_is c.in_ok-refused-in-Err.ensures in
    let m = c.args.self.now in
    subst (λ (s : Result (List ℕ) Fault). (c.refuse.new.self ≡ record m { underway = begun s }) × Appends m.wanted m.budget (left_open m.number m.underway ++ fault_in m.number s) (c.in_ok-open.open || c.in_ok-refused-in-Err.refused) c.args.out.now.items c.refuse.new.out.items) (sym fault)
    (refused.0, appends_both m.wanted m.budget (left_open m.number m.underway) (Refuse m.number c.in-Err.fault ∷ []) c.in_ok-open.open c.in_ok-refused-in-Err.refused c.args.out.now.items c.leave_open.new.out.items c.refuse.new.out.items c.in_ok-open.ensures refused.1)
