use Rattle.std.proofs.Common.{List, ℕ, set, subst, sym}
use Rattle.lrat_check.specs.Marks.{IsValid}
use Rattle.lrat_check.proofs.MarkLemmas.{grown_valid, push_valid}
use Rattle.lrat_check.proofs.marks.Marks.make_true.Goals as goal

pub invariant_of-self : goal.invariant_of-self
invariant_of-self c = grown_valid _ _ _ c.self.invariant c.grow.ensures.same c.grow.ensures.more

pub invariant_of-self-in_err-push : goal.invariant_of-self-in_err-push
invariant_of-self-in_err-push c = subst (λ (t : List ℕ). IsValid c.grow.new.truths.items t) (sym c.in_err-push.ensures.items)
    (grown_valid _ _ _ c.self.invariant c.grow.ensures.same c.grow.ensures.more)

pub invariant_of-self-2 : goal.invariant_of-self-2
invariant_of-self-2 c = subst (λ (t : List ℕ). IsValid (set c.grow.new.truths.items c.args.lit.var c.sign_of.result) t) (sym c.in_ok-push.ensures.items)
    (push_valid _ _ _ c.args.lit.var c.sign_of.result c.self.invariant c.grow.ensures.same c.in_ok-grow.ensures.room c.grow.ensures.more)
