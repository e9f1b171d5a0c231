use Rattle.std.proofs.Common.{◌≡◌, ◌≤◌, ℕ, IfOk, Option, None, ◌∙◌, subst, ap, length, arith}
use Rattle.std.specs.Prelude.{Vec}
use Rattle.std.specs.declared.alloc.Global.{Global}
use Rattle.cnf_form.specs.declared.formula.Clause.{Clause}
use Rattle.cnf_form.specs.Literals.{literals}
use Rattle.cdcl.specs.Visits.{SearchIs}
use Rattle.cdcl.specs.Lines.{HasLearnt, VerdictIs, learnt}
use Rattle.cdcl.proofs.Ends.{modelled, refuted_end}
use Rattle.cdcl.proofs.solver.Solver.search_and_learn.Goals as goal

pub returns-in-None : goal.returns-in-None
returns-in-None c =
    let f : SearchIs c.search.new.self None = subst (λ (r : Option ℕ). SearchIs c.search.new.self r) c.in-None.is c.in_ok-search.ensures.found in (
      c.in_ok-search.ensures.ready.watchful.sound,
      c.search.ensures.same.len ∙ c.loop-round.invariant.len,
      modelled (literals c.args.self.now.clauses.items) (learnt c.loop-round.log.items) c.search.new.self c.in_ok-search.ensures.ready.watchful.sound f.0 f.1
          (omega (arith, c.requires.permanent, c.search.ensures.same.permanent, c.loop-round.invariant.permanent))
          (ap (λ (v : Vec Clause Global). literals v.items) c.search.ensures.same.clauses ∙ c.loop-round.invariant.db),
    )

pub returns-then-is_empty : goal.returns-then-is_empty
returns-then-is_empty c =
    let count : length c.loop-round.log.items ≤ c.args.budget = omega (arith, c.loop-round.invariant.count, c.loop-round-test.true) in
    refuted_end c.args.self.now.permanent (literals c.args.self.now.clauses.items) (length c.args.self.now.places.items) c.args.budget c.loop-round.log.items c.end.new.log.items
    (literals c.search.new.self.clauses.items) c.in_ok-end-in-Some.ensures c.loop-round.invariant.lines
    (ap (λ (v : Vec Clause Global). literals v.items) c.search.ensures.same.clauses ∙ c.loop-round.invariant.db) count

pub loop-round-preserved : goal.loop-round-preserved
loop-round-preserved c =
    let before : HasLearnt c.args.self.now c.search.new.self c.loop-round.log.items = record {
      permanent = c.search.ensures.same.permanent ∙ c.loop-round.invariant.permanent;
      len = c.search.ensures.same.len ∙ c.loop-round.invariant.len;
      db = ap (λ (v : Vec Clause Global). literals v.items) c.search.ensures.same.clauses ∙ c.loop-round.invariant.db;
      lines = c.loop-round.invariant.lines;
    } in
    let after = c.in_ok-add_line-in-Some.ensures.learnt c.args.self.now before in
    record {
      ready = c.in_ok-add_line-in-Some.ensures.ready;
      permanent = after.permanent;
      len = after.len;
      db = after.db;
      lines = after.lines;
      count = omega (arith, c.in_ok-add_line-in-Some.ensures.count, c.loop-round.invariant.count);
    }

pub returns : goal.returns
returns c =
    let first = c.args.self.now in
    let count : length c.loop-round.log.items ≡ c.args.budget = omega (arith, c.loop-round.invariant.count, c.loop-round.auto._round-end, c.loop-round-test.false) in
    subst (λ (n : ℕ). IfOk c.finish.result (λ verdict. VerdictIs first.permanent (literals first.clauses.items) (length first.places.items) n c.finish.new.self c.finish.new.log.items verdict)) count
    (c.finish.ensures first record {
      permanent = c.loop-round.invariant.permanent;
      len = c.loop-round.invariant.len;
      db = c.loop-round.invariant.db;
      lines = c.loop-round.invariant.lines;
    } c.requires.permanent)
