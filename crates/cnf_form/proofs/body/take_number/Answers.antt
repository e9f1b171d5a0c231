use Rattle.std.proofs.Common.{sym}
use Rattle.cnf_form.proofs.ReadTokens.{zero_body}
use Rattle.cnf_form.proofs.body.take_number.Goals as goal

pub returns-then-number-eq0 : goal.returns-then-number-eq0
returns-then-number-eq0 c vars missing n token later s =
    zero_body vars missing c.args.body.now.todo n c.args.body.now.clauses.items c.push.new.self.items (record { lits = c.from_vec.result }) c.args.body.now.partial.items c.replace-lits.new.dest.items token later
    (c.args.number.negative, c.args.number.size) c.if-body-eq0.false
    (sym s)
    c.if-number-eq0.true
    c.in_ok-push.ensures.items
    (cc (c.from_vec.ensures, c.replace-lits.ensures.value))
    (cc (c.replace-lits.ensures.after, c.new.ensures.items))
