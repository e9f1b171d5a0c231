use Rattle.std.proofs.Common.{IsTrue, ◌∙◌, sym}
use Rattle.cqa_model.specs.Database.{AreConsistent}
use Rattle.cqa_model.proofs.Places.{mark-at}
use Rattle.table_blocks.proofs.Naming.{at_place}
use Rattle.table_blocks.proofs.database.Database.is_strict.Goals as goal

pub returns-clause-is : goal.returns-clause-is
returns-clause-is c = c.is_strict.ensures.is ∙ sym (mark-at c.args.self.now c.args.table c.table.result.now c.table.ensures.found)

pub returns-clause-consistent : goal.returns-clause-consistent
returns-clause-consistent c = at_place (λ key rows. IsTrue c.is_strict.result → AreConsistent key rows) c.args.self.now c.args.table c.table.result.now c.table.ensures.found c.is_strict.ensures.consistent
