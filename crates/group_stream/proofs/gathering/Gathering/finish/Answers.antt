use Rattle.std.proofs.Common.{◌++◌, ◌∙◌, Bool, true, List, ℕ, ap, subst, sym, take}
use Rattle.std.specs.Io.KnownBytes.{Appends}
use Rattle.cqa_io.specs.Causes.{Rose}
use Rattle.group_stream.specs.Judges.{Judges}
use Rattle.group_stream.specs.Steps.{Gathered, Stands}
use Rattle.group_stream.proofs.Going.{end_breaks, end_failed, end_handed, end_refused}
use Rattle.group_text.specs.declared.wanted.Wanted.{Wanted}
use Rattle.group_stream.proofs.gathering.Gathering.finish.Goals as goal

pub returns-in_err-close-clause-row : goal.returns-in_err-close-clause-row
returns-in_err-close-clause-row g c = end_refused c.from_residual.result c.from_residual.ensures.1 (Rose (g.K.Sink.faults c.args.sink.now) (g.K.Sink.faults c.args.sink.now)) c.args.self.now (g.K.Sink.held c.args.sink.now)

pub returns-in_err-write_all-clause-row : goal.returns-in_err-write_all-clause-row
returns-in_err-write_all-clause-row g c =
    let out = c.as_slice.ensures.value ∙ ap (λ (m : Gathered). m.out) c.self.view_is in
    let k = c.in_err-write_all.ensures.bytes in
    let put = subst (λ (xs : List ℕ). Appends (g.K.Sink.held c.args.sink.now) (g.K.Sink.held c.write_all.new.sink) (take k.0 xs)) out k.2 in
    end_failed c.from_residual-in_err-write_all.result c.from_residual-in_err-write_all.ensures.1 (Rose (g.K.Sink.faults c.args.sink.now) (g.K.Sink.faults c.write_all.new.sink)) c.in_err-write_all.ensures.cause.failed c.args.self.now (g.K.Sink.held c.args.sink.now) (g.K.Sink.held c.write_all.new.sink)
    (end_breaks c.args.self.now c.close.new.self (g.K.Sink.held c.args.sink.now) (g.K.Sink.held c.write_all.new.sink) k.0 c.in_ok-close.ensures put)

pub returns-clause-row : goal.returns-clause-row
returns-clause-row g c =
    let out = c.as_slice.ensures.value ∙ ap (λ (m : Gathered). m.out) c.self.view_is in
    let put = subst (λ (xs : List ℕ). Appends (g.K.Sink.held c.args.sink.now) (g.K.Sink.held c.write_all.new.sink) xs) out c.in_ok-write_all.ensures.bytes in
    subst (λ (b : Bool). (wanted : Wanted) (budget : ℕ) (came written : List ℕ) → Stands wanted budget came written c.args.self.now → (more : List ℕ) × Appends (g.K.Sink.held c.args.sink.now) (g.K.Sink.held c.write_all.new.sink) more × Judges wanted budget came true (written ++ more) b)
    (sym (ap (λ (m : Gathered). m.refused) c.self.view_is)) (end_handed c.args.self.now c.close.new.self (g.K.Sink.held c.args.sink.now) (g.K.Sink.held c.write_all.new.sink) c.in_ok-close.ensures put)
