use Rattle.std.proofs.Common.{◌≡◌, ◌+◌, length, length-append, ap, refl, sym, ◌∙◌, subst, arith}
use Rattle.std.specs.List.{All}
use Rattle.cqa_model.specs.Query.{atom_at}
use Rattle.plan_rows.specs.Joining.{LeavesOut, AreJoinedFirst}
use Rattle.plan_rows.proofs.Joining.{joined-skip, joined-more}
use Rattle.plan_rows.proofs.joined.joined_columns.Goals as goal

pub loop-col-preserved-then-is_alone : goal.loop-col-preserved-then-is_alone
loop-col-preserved-then-is_alone c = record {
  few = (let few = c.loop-col.invariant.few in omega (arith, few));
  found = joined-skip c.args.bound.now.query.now c.args.bound.now.variables c.args.atom c.loop-col.col c.loop-col.joined c.loop-col.invariant.found
      (subst (All (LeavesOut (record { atom = c.args.atom; col = c.loop-col.col }))) c.as_slice-conds.ensures (c.is_alone.ensures.0 c.if-is_alone.true));
}

pub loop-col-preserved : goal.loop-col-preserved
loop-col-preserved c =
    let q = c.args.bound.now.query.now in
    let v = c.args.bound.now.variables in record {
      few = (let few = c.loop-col.invariant.few in let more = ap length c.push.ensures ∙ length-append c.loop-col.joined _ in omega (arith, few, more));
      found = subst (AreJoinedFirst q v c.args.atom (c.loop-col.col + 1)) (sym c.push.ensures)
          (joined-more q v c.args.atom c.loop-col.col c.loop-col.joined c.loop-col.invariant.found _ refl c.class_of.ensures.is);
    }

pub returns : goal.returns
returns c =
    let q = c.args.bound.now.query.now in
    let e : c.loop-col.col ≡ (atom_at q c.args.atom).width = omega (arith, c.loop-col-test.false, c.width_of-col-end.ensures, c.loop-col.auto.col-end) in
    subst (λ n. AreJoinedFirst q c.args.bound.now.variables c.args.atom n c.loop-col.joined) e c.loop-col.invariant.found
