use Rattle.std.proofs.Common.{arith, false}
use Rattle.std.proofs.lemmas.List.Elements.{Contains-get_or}
use Rattle.cnf_form.specs.declared.formula.Lit.{Lit}
use Rattle.search_trail.proofs.Works.{At-contains}
use Rattle.search_trail.proofs.implications.Implications.+is_implied.Goals as goal

abbrev none : Lit
none = record { var = 0; positive = false }

pub index-requires : goal.index-requires
index-requires t c =
    let r = c.args.self.now.clauses_in _ (At-contains _ _ _ c.literals_at-lit-items.ensures) _ (Contains-get_or c.literals_at-lit-items.result.now c.loop-lit.lit-index none c.loop-lit-test.true) in
    omega (arith, r, c.requires.marks.room, c.args.marks.now.seen.ok)

pub reason_of-requires : goal.reason_of-requires
reason_of-requires t c =
    c.args.self.now.clauses_in _ (At-contains _ _ _ c.literals_at-lit-items.ensures) _ (Contains-get_or c.literals_at-lit-items.result.now c.loop-lit.lit-index none c.loop-lit-test.true)
