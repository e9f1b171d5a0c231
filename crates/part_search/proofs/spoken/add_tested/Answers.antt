use Rattle.std.proofs.Common.{inl, inr, subst, sym, arith, Contains}
use Rattle.std.proofs.lemmas.List.{take_all}
use Rattle.cqa_model.specs.declared.query.Cond.{Cond}
use Rattle.cqa_model.specs.Shape.{columns_of}
use Rattle.list_search.proofs.ClassLists.{taken}
use Rattle.part_search.proofs.spoken.add_tested.Goals as goal

pub loop-cond-init : goal.loop-cond-init
loop-cond-init c k m = absurd (Rattle.cqa_model.proofs.Classic.mem-nil k m)

pub loop-cond-preserved : goal.loop-cond-preserved
loop-cond-preserved c k m col mc e = elim (taken c.args.conds.now c.loop-cond.cond-index c.cond-item.result k (omega arith) c.cond-item.is m) [
  | inl o ↦ c.in_ok-add_columns.ensures.kept col.col (c.loop-cond.invariant k o col mc e)
  | inr s ↦ c.in_ok-add_columns.ensures.added col (subst (λ (z : Cond). Contains (columns_of z) col) (sym s) mc) e
]

pub returns : goal.returns
returns c k m = c.loop-cond.invariant k (subst (λ ks. Contains ks k) (sym (take_all c.loop-cond.cond-index c.args.conds.now (omega arith))) m)
