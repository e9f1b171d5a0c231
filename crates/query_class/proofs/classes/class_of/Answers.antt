use Rattle.std.proofs.Common.{◌≡◌, true}
use Rattle.cqa_model.specs.Variables.{whole}
use Rattle.key_closure.specs.Members.{seen}
use Rattle.complexity_class.specs.declared.class.Class.TheVariants.{FirstOrder, Polynomial, CoNp}
use Rattle.query_class.proofs.Rounds.{class-of_query}
use Rattle.query_class.proofs.classes.class_of.Goals as goal

pub returns-then-has_strong_cycle-clause-query : goal.returns-then-has_strong_cycle-clause-query
returns-then-has_strong_cycle-clause-query c = λ q are. class-of_query c.args.graph.now q (whole q) are CoNp (c.has_strong_cycle.ensures.0 c.if-has_strong_cycle.true)

pub returns-then-has_strong_cycle-clause-view : goal.returns-then-has_strong_cycle-clause-view
returns-then-has_strong_cycle-clause-view c = λ q v are. class-of_query c.args.graph.now q (seen q v) are CoNp (c.has_strong_cycle.ensures.0 c.if-has_strong_cycle.true)

pub returns-then-has_cycle-clause-query : goal.returns-then-has_cycle-clause-query
returns-then-has_cycle-clause-query c = λ q are. class-of_query c.args.graph.now q (whole q) are Polynomial
    (c.has_cycle.ensures.0 c.if-has_cycle.true, (λ s. let e : c.has_strong_cycle.result ≡ true = c.has_strong_cycle.ensures.1 s in cc))

pub returns-then-has_cycle-clause-view : goal.returns-then-has_cycle-clause-view
returns-then-has_cycle-clause-view c = λ q v are. class-of_query c.args.graph.now q (seen q v) are Polynomial
    (c.has_cycle.ensures.0 c.if-has_cycle.true, (λ s. let e : c.has_strong_cycle.result ≡ true = c.has_strong_cycle.ensures.1 s in cc))

pub returns-else-has_cycle-clause-query : goal.returns-else-has_cycle-clause-query
returns-else-has_cycle-clause-query c = λ q are. class-of_query c.args.graph.now q (whole q) are FirstOrder (λ s. let e : c.has_cycle.result ≡ true = c.has_cycle.ensures.1 s in cc)

pub returns-else-has_cycle-clause-view : goal.returns-else-has_cycle-clause-view
returns-else-has_cycle-clause-view c = λ q v are. class-of_query c.args.graph.now q (seen q v) are FirstOrder (λ s. let e : c.has_cycle.result ≡ true = c.has_cycle.ensures.1 s in cc)
