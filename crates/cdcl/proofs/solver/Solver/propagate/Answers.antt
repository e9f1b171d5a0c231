use Rattle.std.proofs.Common.{◌≤◌, ◌+◌, ℕ, Option, None, List, sym, ◌∙◌, ap, subst, refl, length, arith}
use Rattle.cnf_form.specs.declared.formula.Lit.{Lit}
use Rattle.cnf_form.specs.Literals.{opposite}
use Rattle.cnf_form.proofs.Lits.{opposite-opposite}
use Rattle.search_trail.specs.declared.trail.Entry.{Entry}
use Rattle.search_trail.specs.Trail.{At, held}
use Rattle.cdcl.specs.Looking.{LookedIs}
use Rattle.cdcl.proofs.Visiting.{formula_more, grown_at, grown_long, next_at, still_at, fits_at}
use Rattle.cdcl.proofs.solver.Solver.propagate.Goals as goal

pub look_through-requires-clause-next : goal.look_through-requires-clause-next
look_through-requires-clause-next c =
    let s = c.loop-self.self in
    let x = c.lit_at.result in
    let at : At (held s.trail.items) s.head x = subst (λ (es : List Entry). At (held es) s.head x) c.as_slice.ensures.value c.lit_at.ensures in
    subst (λ (y : Lit). At (held s.trail.items) s.head y) (sym (opposite-opposite x) ∙ ap opposite (sym c.opposite-lit.ensures)) at

pub loop-self-preserved : goal.loop-self-preserved
loop-self-preserved c =
    let s = c.loop-self.self in
    let s' = c.look_through.new.self in
    let x = c.lit_at.result in
    let lit = c.opposite-lit.result in
    let at : At (held s.trail.items) s.head x = subst (λ (es : List Entry). At (held es) s.head x) c.as_slice.ensures.value c.lit_at.ensures in
    let next : At (held s.trail.items) s.head (opposite lit) =
    subst (λ (y : Lit). At (held s.trail.items) s.head y) (sym (opposite-opposite x) ∙ ap opposite (sym c.opposite-lit.ensures)) at in
    let stays = c.look_through.ensures.stays in
    let done = c.in_ok-look_through.ensures in
    let grows = done.grows in
    let pending : LookedIs s' lit None = subst (λ (r : Option ℕ). LookedIs s' lit r) c.in-None.is done.conflict in
    let there = grown_at (held s.trail.items) (held s'.trail.items) s.head s'.head (opposite lit) grows stays.head next in
    let i = c.loop-self.invariant in
    let same = formula_more c.args.self.now s s' i.same stays.formula in
    let longer = grown_long s.trail.items s'.trail.items grows in
    record {
      ready = next_at s' (s'.head + 1) lit refl there pending done.ready;
      grows = omega (arith, longer, i.grows);
      same = record { clauses = same.clauses; permanent = same.permanent; len = same.len };
      level_starts = stays.level_starts ∙ i.level_starts;
    }

pub loop-self-smaller : goal.loop-self-smaller
loop-self-smaller c =
    let f = fits_at c.loop-self.self c.loop-self.invariant.ready in
    let stays = c.look_through.ensures.stays in
    omega (arith, f, c.loop-self-test.true, c.len.ensures, c.loop-self.self.trail.ok, stays.formula.len, stays.head)

pub returns-clause-conflict : goal.returns-clause-conflict
returns-clause-conflict c =
    let whole : length c.loop-self.self.trail.items ≤ c.loop-self.self.head = omega (arith, c.loop-self-test.false, c.len.ensures, c.loop-self.self.trail.ok) in
    (still_at c.loop-self.self c.loop-self.invariant.ready whole, whole)
