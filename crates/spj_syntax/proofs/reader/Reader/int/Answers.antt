use Rattle.std.proofs.Common.{refl}
use Rattle.spj_syntax.specs.Shapes.{int}
use Rattle.spj_syntax.proofs.Steps.{one_takes, front_cons}
use Rattle.spj_syntax.proofs.reader.Reader.int.Goals as goal

pub returns-in-Int-clause-reads : goal.returns-in-Int-clause-reads
returns-in-Int-clause-reads c = rw c.advance.ensures (one_takes int _ _ _ c.in-Int.ensures.front refl (λ f. refl))

pub returns-in-Int-clause-first : goal.returns-in-Int-clause-first
returns-in-Int-clause-first c = rw c.advance.ensures (front_cons c.args.self.now _ c.in-Int.ensures.front)
