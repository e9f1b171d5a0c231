use Rattle.std.proofs.Common.{◌≡◌, rules, arith, drop, ap, ◌∙◌, subst, sym, ◌≤◌}
use Rattle.std.proofs.lemmas.Grind.{common_steps}
use Rattle.cqa_io.specs.Memory.{Numbered, after_call, faults_of}
use Rattle.cqa_io.proofs.Counts.{later}
use Rattle.cqa_io.proofs.Pieces.{piece_taken}
use Rattle.cqa_io.proofs.memory.MemSourceSource.read.Goals as goal

pub returns-clause-bytes : goal.returns-clause-bytes
returns-clause-bytes c = (
  sym (ap (λ s. s.left) c.self.view_is) ∙ piece_taken c.self.inside.bytes.items c.copy_from_slice.new.self (drop c.min-count.result c.args.into.now) c.self.inside.place c.min-count.result
      (grind (arith, common_steps)) (grind (arith, common_steps)),
  grind (arith, common_steps),
)

pub returns-clause-cause : goal.returns-clause-cause
returns-clause-cause c =
    let calls = c.args.self.now.calls in
    let counted : c.count.new.self ≡ after_call calls = search rules in
    record {
      later = subst (λ (now : Numbered). faults_of calls ≤ faults_of now) (sym counted) (later calls);
      failed = tt;
    }
