use Rattle.std.proofs.Common.{◌≡◌, ◌-◌, ◌≤◌, ℕ, List, ◌∙◌, ap, length, take, arith, get_or}
use Rattle.search_trail.specs.declared.trail.Entry.{Entry}
use Rattle.search_trail.specs.Trail.{held}
use Rattle.cdcl.proofs.States.{take_cut, prefix_more, last_is}
use Rattle.cdcl.proofs.Visiting.{formula_more}
use Rattle.cdcl.proofs.solver.Solver.backjump.Goals as goal

pub loop-self-preserved : goal.loop-self-preserved
loop-self-preserved c =
    let old = c.loop-self.self in
    let l = c.leave_level.ensures.leave in
    let s : ℕ = l.0 in
    let at : c.index.result.now ≡ get_or old.level_starts.items (c.len.result - 1) c.index.result.now = c.index.ensures in
    let len : c.len.result ≡ length old.level_starts.items = omega (arith, c.len.ensures, old.level_starts.ok) in
    let last : c.index.result.now ≡ s = last_is old.level_starts.items c.leave_level.new.self.level_starts.items s c.len.result c.index.result.now l.1 len at in
    let h : c.args.end ≤ s = omega (arith, last, c.if-index-end.true) in
    record {
      ready = c.leave_level.ensures.ready;
      same = formula_more c.args.self.now old c.leave_level.new.self c.loop-self.invariant.same c.leave_level.ensures.same;
      kept = ap (λ (es : List Entry). take c.args.end (held es)) l.2 ∙ take_cut c.args.end s old.trail.items h ∙ c.loop-self.invariant.kept;
      fewer = prefix_more c.leave_level.new.self.trail.items old.trail.items c.args.self.now.trail.items s l.2 c.loop-self.invariant.fewer;
    }
