use Rattle.std.proofs.Common.{inl, inr}
use Rattle.plan_rows.proofs.Keeping.{kept-or-key}
use Rattle.plan_rows.proofs.memo.Memo.keep.Goals as goal

pub returns : goal.returns
returns c = λ k b g.
    elim (kept-or-key c.make_room.new.self.known c.insert.new.self c.args.key c.args.held c.insert.result c.insert.ensures.updates c.insert.ensures.err k b g) [
      | inl old ↦ inl (c.make_room.ensures k b old)
      | inr is ↦ inr is
    ]
