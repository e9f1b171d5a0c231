use Rattle.std.proofs.Common.{ℕ, ◌<◌, ◌≤◌, Option, IfSome, subst, length, sym}
use Rattle.fo_plan.proofs.enough.Blocks.on.Goals as goal

pub resume-requires-clause-behind : goal.resume-requires-clause-behind
resume-requires-clause-behind c =
    (subst (λ (o : Option ℕ). IfSome o (λ at. (at < c.args.spot.now.place) × (c.args.spot.now.place ≤ length c.args.self.now.rows))) c.in-Some.is c.requires.last).0

pub resume-requires-clause-within : goal.resume-requires-clause-within
resume-requires-clause-within c =
    subst (λ n. c.args.spot.now.place ≤ n) (sym c.len.ensures) (subst (λ (o : Option ℕ). IfSome o (λ at. (at < c.args.spot.now.place) × (c.args.spot.now.place ≤ length c.args.self.now.rows))) c.in-Some.is c.requires.last).1

pub returns-clause-passed : goal.returns-clause-passed
returns-clause-passed c = λ at low high first. c.resume.ensures.none at low high
