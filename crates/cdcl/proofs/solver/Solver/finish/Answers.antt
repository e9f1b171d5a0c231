use Rattle.std.proofs.Common.{◌∙◌, ◌<◌, ℕ, Option, None, subst, ap, length, arith, refl}
use Rattle.std.specs.Prelude.{Vec, ◌≤◌}
use Rattle.std.specs.declared.alloc.Global.{Global}
use Rattle.cnf_form.specs.declared.formula.Clause.{Clause}
use Rattle.cnf_form.specs.Literals.{literals}
use Rattle.cdcl.specs.Visits.{ConflictIs}
use Rattle.cdcl.specs.Lines.{learnt}
use Rattle.cdcl.proofs.Ends.{modelled, refuted_end, spent_end, none_below}
use Rattle.cdcl.proofs.solver.Solver.finish.Goals as goal

pub end-requires-clause-level : goal.end-requires-clause-level
end-requires-clause-level c =
    ap (λ (v : Vec ℕ Global). length v.items) c.propagate.ensures.level_starts ∙ none_below c.backjump.new.self.level_starts.items c.backjump.ensures.below

pub returns-in_ok-end-in-Some : goal.returns-in_ok-end-in-Some
returns-in_ok-end-in-Some c first has permanent =
    let count : length c.args.log.now.items ≤ length c.args.log.now.items = omega arith in
    refuted_end first.permanent (literals first.clauses.items) (length first.places.items) (length c.args.log.now.items) c.args.log.now.items c.end.new.log.items
    (literals c.propagate.new.self.clauses.items) c.in_ok-end-in-Some.ensures has.lines
    (ap (λ (v : Vec Clause Global). literals v.items) (c.propagate.ensures.same.clauses ∙ c.backjump.ensures.same.clauses) ∙ has.db) count

pub returns-in-None-open_var : goal.returns-in-None-open_var
returns-in-None-open_var c first has permanent = (
  c.in_ok-conflict.ensures.ready.watchful.sound,
  c.propagate.ensures.same.len ∙ c.backjump.ensures.same.len ∙ has.len,
  modelled (literals first.clauses.items) (learnt c.args.log.now.items) c.propagate.new.self c.in_ok-conflict.ensures.ready.watchful.sound
      (let f : ConflictIs c.propagate.new.self None = subst (λ (r : Option ℕ). ConflictIs c.propagate.new.self r) c.in-None.is c.in_ok-conflict.ensures.conflict in f.0) c.in-None-open_var.ensures
      (omega (arith, permanent, c.propagate.ensures.same.permanent, c.backjump.ensures.same.permanent, has.permanent))
      (ap (λ (v : Vec Clause Global). literals v.items) (c.propagate.ensures.same.clauses ∙ c.backjump.ensures.same.clauses) ∙ has.db),
)

pub returns-in-Some-open_var : goal.returns-in-Some-open_var
returns-in-Some-open_var c first has permanent whole =
    let open' = c.in-Some-open_var.ensures in
    let range : c.in-Some-open_var.field-0 < length first.places.items =
    omega (arith, open'.1, c.propagate.ensures.same.len, c.backjump.ensures.same.len, has.len) in
    spent_end first.permanent (literals first.clauses.items) (length first.places.items) (length c.args.log.now.items) c.in-Some-open_var.field-0 c.args.log.now.items c.propagate.new.self
    (c.propagate.ensures.same.permanent ∙ c.backjump.ensures.same.permanent ∙ has.permanent) has.lines refl
    (ap (λ (v : Vec Clause Global). literals v.items) (c.propagate.ensures.same.clauses ∙ c.backjump.ensures.same.clauses) ∙ has.db)
    (let f : ConflictIs c.propagate.new.self None = subst (λ (r : Option ℕ). ConflictIs c.propagate.new.self r) c.in-None.is c.in_ok-conflict.ensures.conflict in f.0) open'.0 range open'.2 whole
