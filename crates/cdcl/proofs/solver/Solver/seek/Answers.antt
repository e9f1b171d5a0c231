use Rattle.std.proofs.Common.{List, subst, ap, length, arith}
use Rattle.std.specs.Prelude.{Contains}
use Rattle.cnf_form.specs.declared.formula.Lit.{Lit}
use Rattle.cnf_form.specs.declared.formula.Clause.{Clause}
use Rattle.cnf_form.specs.Literals.{literals}
use Rattle.search_trail.specs.declared.trail.Entry.{Entry}
use Rattle.search_trail.specs.Trail.{At, held}
use Rattle.cdcl.specs.Looks.{LookFinds}
use Rattle.search_trail.proofs.Works.{At-contains, At-same}
use Rattle.cdcl.proofs.solver.Solver.seek.Goals as goal

pub seek-requires-clause-range : goal.seek-requires-clause-range
seek-requires-clause-range c l i =
    let a : At (literals c.args.self.now.clauses.items) c.args.index c.literals_at.result.now =
    subst (λ (cs : List Clause). At (literals cs) c.args.index c.literals_at.result.now) c.as_slice-3.ensures.value c.literals_at.ensures in
    let r = c.requires.sound.db_in _ (At-contains _ _ _ a) l i in
    let e = ap length c.as_slice-2.ensures.value in omega (arith, r, e)

pub seek-requires-clause-inside : goal.seek-requires-clause-inside
seek-requires-clause-inside c =
    let a : At (literals c.args.self.now.clauses.items) c.args.index c.literals_at.result.now =
    subst (λ (cs : List Clause). At (literals cs) c.args.index c.literals_at.result.now) c.as_slice-3.ensures.value c.literals_at.ensures in
    let d = c.requires.inside in
    subst (λ (xs : List Lit). Contains xs c.args.other) (At-same _ _ _ _ d.1 a) d.2

pub returns : goal.returns
returns c d a =
    let b : At (literals c.args.self.now.clauses.items) c.args.index c.literals_at.result.now =
    subst (λ (cs : List Clause). At (literals cs) c.args.index c.literals_at.result.now) c.as_slice-3.ensures.value c.literals_at.ensures in
    subst (λ (xs : List Lit). LookFinds (held c.args.self.now.trail.items) xs c.args.other c.seek.result) (At-same _ _ _ _ b a)
    (subst (λ (es : List Entry). LookFinds (held es) c.literals_at.result.now c.args.other c.seek.result) c.as_slice.ensures.value c.seek.ensures)
