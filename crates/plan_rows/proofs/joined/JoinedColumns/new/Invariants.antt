use Rattle.std.proofs.Common.{◌≡◌, ℕ, ◌<◌, [], length, get_or}
use Rattle.plan_rows.specs.Joining.{AreJoinedIn}
use Rattle.plan_rows.proofs.joined.JoinedColumns.new.Given as goal

-- those of the atoms so far
abbrev pub invariant-loop-atom : goal.invariant-loop-atom
invariant-loop-atom l = record {
  size : length l.atoms ≡ l.atom;
  found : (F : ℕ) → F < l.atom → AreJoinedIn l.bound.query.now l.bound.variables F (get_or l.atoms F []);
}
