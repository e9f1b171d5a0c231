use Rattle.std.proofs.Common.{◌≡◌, ℕ, Option, List, refl, sym, ap, subst, length, arith}
use Rattle.cnf_form.specs.declared.formula.Clause.{Clause}
use Rattle.cnf_form.specs.Literals.{literals, Denied}
use Rattle.search_trail.specs.declared.trail.Entry.{Entry}
use Rattle.cdcl.specs.declared.solver.Solver.{Solver}
use Rattle.std.specs.Prelude.{Contains}
use Rattle.search_trail.specs.Trail.{IsUnassigned, At, held}
use Rattle.cdcl.specs.Watching.{IsBase}
use Rattle.cdcl.specs.Looking.{IsWatchful, CanWatch}
use Rattle.search_trail.proofs.Works.{At-contains}
use Rattle.cdcl.proofs.Attaching.{conflict_none, conflict_one, forced_one, forced_base, base_one, forced_watchful}
use Rattle.cdcl.proofs.solver.Solver.attach_next.Goals.{in-True, in-Open+in_ok-force-in-Open}
use Rattle.cdcl.proofs.solver.Solver.attach_next.Goals as goal

pub truth_of-requires-clause-range : goal.truth_of-requires-clause-range
truth_of-requires-clause-range c =
    let s = c.args.self.now in
    let k = c.len-index.result in
    let xs = c.literals_at.result.now in
    let at : At (literals s.clauses.items) k xs = subst (λ (cs : List Clause). At (literals cs) k xs) c.as_slice.ensures.value c.literals_at.ensures in
    let r = c.requires.watchful.sound.db_in xs (At-contains (literals s.clauses.items) k xs at) c.in-One.lit c.in-One.ensures.0 in
    let e : length c.as_slice-in-One-2.result.now ≡ length s.places.items = ap (λ (ps : List (Option ℕ)). length ps) c.as_slice-in-One-2.ensures.value in
    omega (arith, r, e)

pub returns-in-False-clause-conflict : goal.returns-in-False-clause-conflict
returns-in-False-clause-conflict c =
    let s = c.args.self.now in
    let k = c.len-index.result in
    let xs = c.literals_at.result.now in
    let at : At (literals s.clauses.items) k xs = subst (λ (cs : List Clause). At (literals cs) k xs) c.as_slice.ensures.value c.literals_at.ensures in
    let d : Denied (held s.trail.items) c.in-One.lit = subst (λ (es : List Entry). Denied (held es) c.in-One.lit) c.as_slice-in-One.ensures.value (c.in-False.ensures.no refl) in
    conflict_one s k xs c.in-One.lit at c.in-One.ensures.1 d

pub force-requires-clause-forced : goal.force-requires-clause-forced
force-requires-clause-forced c =
    let s = c.args.self.now in
    let k = c.len-index.result in
    let xs = c.literals_at.result.now in
    let at : At (literals s.clauses.items) k xs = subst (λ (cs : List Clause). At (literals cs) k xs) c.as_slice.ensures.value c.literals_at.ensures in
    let o : IsUnassigned (held s.trail.items) c.in-One.lit.var = subst (λ (es : List Entry). IsUnassigned (held es) c.in-One.lit.var) c.as_slice-in-One.ensures.value (c.in-Open.ensures.open refl) in
    forced_one s k xs c.in-One.lit at c.in-One.ensures.0 c.in-One.ensures.1 o

pub attach_none-requires-clause-watchful : goal.attach_none-requires-clause-watchful
attach_none-requires-clause-watchful c = elim c.match-truth_of.branch [
  | in-True w ↦ subst (λ (s : Solver). IsWatchful s) (sym w.self-is) c.requires.watchful
  | in-Open+in_ok-force-in-Open w ↦
      subst (λ (s : Solver). IsWatchful s) (sym w.self-is)
      (forced_watchful c.args.self.now w.force.new.self c.in-One.lit c.requires.watchful w.force.ensures.same w.in_ok-force-in-Open.ensures.trail w.in_ok-force-in-Open.ensures.sound)
]

pub attach_none-requires-clause-base : goal.attach_none-requires-clause-base
attach_none-requires-clause-base c =
    let s = c.args.self.now in
    let k = c.len-index.result in
    let xs = c.literals_at.result.now in
    let at : At (literals s.clauses.items) k xs = subst (λ (cs : List Clause). At (literals cs) k xs) c.as_slice.ensures.value c.literals_at.ensures in
    let l = c.in-One.lit in
    let place : k ≡ length s.pairs.items = omega (arith, c.len-index.ensures, s.pairs.ok) in
    elim c.match-truth_of.branch [
      | in-True w ↦
          let holds : Contains (held s.trail.items) l = subst (λ (es : List Entry). Contains (held es) l) c.as_slice-in-One.ensures.value (w.in-True.ensures.yes refl) in
          subst (λ (x : Solver). CanWatch x (IsBase (held x.trail.items) x.level_starts.items) l l) (sym w.self-is)
          (base_one s k xs l c.requires.first place at c.in-One.ensures.0 holds)
      | in-Open+in_ok-force-in-Open w ↦
          subst (λ (x : Solver). CanWatch x (IsBase (held x.trail.items) x.level_starts.items) l l) (sym w.self-is)
          (forced_base s w.force.new.self k xs l c.requires.first place at c.in-One.ensures.0 w.force.ensures.same w.in_ok-force-in-Open.ensures.trail)
    ]

pub returns-in-None-clause-conflict : goal.returns-in-None-clause-conflict
returns-in-None-clause-conflict c =
    let s = c.args.self.now in
    let k = c.len-index.result in
    let xs = c.literals_at.result.now in
    let at : At (literals s.clauses.items) k xs = subst (λ (cs : List Clause). At (literals cs) k xs) c.as_slice.ensures.value c.literals_at.ensures in
    conflict_none s k xs at c.in-None.ensures
