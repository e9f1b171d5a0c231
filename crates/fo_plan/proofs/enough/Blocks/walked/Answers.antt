use Rattle.std.proofs.Common.{ℕ, ◌<◌, Option, IfSome, subst, sym, arith}
use Rattle.fo_plan.proofs.Walked.{rest-there, spot-behind, last-before}
use Rattle.fo_plan.proofs.enough.Blocks.walked.Goals as goal

pub taken_at-requires-clause-there : goal.taken_at-requires-clause-there
taken_at-requires-clause-there c = rest-there c.args.self.now.rows c.args.spot.now.place c.args.spot.now.rest c.is_empty.result c.requires.spot.rest c.is_empty.ensures c.if-is_empty.false

pub taken_at-requires-clause-begins : goal.taken_at-requires-clause-begins
taken_at-requires-clause-begins c =
    c.requires.spot.begins c.requires.all
    (rest-there c.args.self.now.rows c.args.spot.now.place c.args.spot.now.rest c.is_empty.result c.requires.spot.rest c.is_empty.ensures c.if-is_empty.false)

pub returns-clause-spot : goal.returns-clause-spot
returns-clause-spot c =
    let t = c.taken_at.ensures in
    spot-behind c.args.self.now c.args.spot.now.place c.taken_at.new.spot c.taken_at.result t.next t.within
    (subst (λ (o : Option ℕ). IfSome o (λ at. at < c.taken_at.new.spot.place)) (sym t.last) (last-before c.args.spot.now.last c.args.self.now.rows c.args.spot.now.place c.taken_at.new.spot.place c.requires.spot.last (let low = t.next.low in let high = t.next.high in omega (arith, low, high))))
    t.rest t.begins
