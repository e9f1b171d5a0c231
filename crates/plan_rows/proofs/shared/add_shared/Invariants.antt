use Rattle.std.proofs.Common.{ℕ, ◌<◌, Contains}
use Rattle.cqa_model.specs.declared.query.ColRef.{ColRef}
use Rattle.plan_rows.specs.Left.{IsTold}
use Rattle.plan_rows.proofs.shared.add_shared.Given as goal

-- the columns so far that are linked to the others' were added
abbrev pub invariant-loop-col : goal.invariant-loop-col
invariant-loop-col l = record {
  kept : (c : ColRef) → Contains l.fn.columns.items c → Contains l.columns.items c;
  added : (j : ℕ) → j < l.col → IsTold l.bound.query.now l.others (record { atom = l.atom; col = j }) → Contains l.columns.items (record { atom = l.atom; col = j });
}
