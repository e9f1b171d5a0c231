use Rattle.std.proofs.Common.{arith, drop, sym, ap, ◌∙◌}
use Rattle.std.proofs.lemmas.Grind.{common_steps}
use Rattle.cqa_io.proofs.Pieces.{piece_taken}
use Rattle.cqa_io.proofs.calm.CalmSourceSource.read.Goals as goal

pub returns-clause-bytes : goal.returns-clause-bytes
returns-clause-bytes c = (
  sym (ap (λ s. s.left) c.self.view_is) ∙ piece_taken c.self.inside.bytes.items c.copy_from_slice.new.self (drop c.min-count.result c.args.into.now) c.self.inside.place c.min-count.result
      (grind (arith, common_steps)) (grind (arith, common_steps)),
  grind (arith, common_steps),
)
