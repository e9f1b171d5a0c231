use Rattle.std.proofs.Common.{◌≡◌, ℕ, List, [], ◌∷◌, ◌++◌, ◌∙◌, subst, ap, length, arith}
use Rattle.std.proofs.lemmas.List.{length_push}
use Rattle.cnf_form.specs.Literals.{literals}
use Rattle.cdcl.specs.Lines.{IsLineStep}
use Rattle.cdcl.proofs.Ends.{log_push, db_push}
use Rattle.cdcl.proofs.solver.Solver.add_line.Goals as goal

pub returns-clause-learnt : goal.returns-clause-learnt
returns-clause-learnt c first has =
    let db = literals first.clauses.items in
    let log = c.args.log.now.items in
    let d = literals c.args.self.now.clauses.items in
    let step = c.in_ok-step.step in
    let p : c.push.new.self.items ≡ log ++ step ∷ [] = c.in_ok-push.ensures.items in
    record {
      permanent = c.learn.ensures.permanent ∙ has.permanent;
      len = c.learn.ensures.len ∙ has.len;
      db = db_push db log c.push.new.self.items step d (literals c.learn.new.self.clauses.items) has.db c.in_ok-step.ensures.added p;
      lines = log_push first.permanent db (length first.places.items) log c.push.new.self.items step d (length c.args.self.now.places.items)
          has.lines has.db has.len
          (subst (λ (n : ℕ). IsLineStep n d (length c.args.self.now.places.items) step) has.permanent c.in_ok-step.ensures.line) p;
    }

pub returns-clause-count : goal.returns-clause-count
returns-clause-count c =
    let log = c.args.log.now.items in
    let e = ap (λ (xs : List _). length xs) c.in_ok-push.ensures.items in
    let l = length_push log c.in_ok-step.step in
    omega (arith, e, l)
