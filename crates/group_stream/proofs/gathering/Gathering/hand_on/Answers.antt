use Rattle.std.proofs.Common.{[], ◌∙◌, List, ℕ, ap, subst, sym, take}
use Rattle.std.specs.Io.KnownBytes.{Appends}
use Rattle.cqa_io.specs.Causes.{Rose}
use Rattle.group_stream.specs.Steps.{Gathered, GoesOn}
use Rattle.group_stream.proofs.Going.{failed_row, hand_breaks, handed}
use Rattle.group_stream.proofs.gathering.Gathering.hand_on.Goals as goal

pub returns-in_err-write_all-clause-row : goal.returns-in_err-write_all-clause-row
returns-in_err-write_all-clause-row g c =
    let out = c.as_slice.ensures.value ∙ ap (λ (m : Gathered). m.out) c.self.view_is in
    let k = c.in_err-write_all.ensures.bytes in
    let put = subst (λ (xs : List ℕ). Appends (g.K.Sink.held c.args.sink.now) (g.K.Sink.held c.write_all.new.sink) (take k.0 xs)) out k.2 in
    failed_row c.from_residual.result c.from_residual.ensures.1 (Rose (g.K.Sink.faults c.args.sink.now) (g.K.Sink.faults c.write_all.new.sink)) c.in_err-write_all.ensures.cause.failed c.args.self.now c.args.self.now (g.K.Sink.held c.args.sink.now) (g.K.Sink.held c.write_all.new.sink) []
    (hand_breaks c.args.self.now (g.K.Sink.held c.args.sink.now) (g.K.Sink.held c.write_all.new.sink) k.0 put)

pub returns-clause-row : goal.returns-clause-row
returns-clause-row g c =
    let out = c.as_slice.ensures.value ∙ ap (λ (m : Gathered). m.out) c.self.view_is in
    let put = subst (λ (xs : List ℕ). Appends (g.K.Sink.held c.args.sink.now) (g.K.Sink.held c.write_all.new.sink) xs) out c.in_ok-write_all.ensures.bytes in
    subst (λ (xs : List ℕ). GoesOn c.args.self.now (record { machine = c.self.inside.machine; held = c.self.inside.held.items; out = xs; refused = c.self.inside.refused }) (g.K.Sink.held c.args.sink.now) (g.K.Sink.held c.write_all.new.sink) []) (sym c.clear.ensures.items)
    (subst (λ (m : Gathered). GoesOn c.args.self.now (record m { out = [] }) (g.K.Sink.held c.args.sink.now) (g.K.Sink.held c.write_all.new.sink) []) (sym c.self.view_is) (handed c.args.self.now (g.K.Sink.held c.args.sink.now) (g.K.Sink.held c.write_all.new.sink) put))
