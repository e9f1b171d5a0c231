use Rattle.std.proofs.Common.{ap, sym, subst, arith, Contains}
use Rattle.row_lists.specs.declared.span.Span.{Span}
use Rattle.row_lists.proofs.Halving.{found_in, found_is}
use Rattle.row_lists.proofs.numbering.number.Goals as goal

pub overflow_add-result : goal.overflow_add-result
overflow_add-result c =
    let blocks = c.args.numbering.now in
    let r = found_in blocks.spans c.as_slice-spans.result.now blocks.vars c.as_slice-spans.ensures blocks.kept c.args.slot c.args.place c.last_begun.result c.last_begun.ensures c.requires in
    let low = r.0 in
    let high = r.1 in
    let small = r.2 in
    omega (arith, low, high, small)

pub overflow_sub-result : goal.overflow_sub-result
overflow_sub-result c =
    let blocks = c.args.numbering.now in
    (found_in blocks.spans c.as_slice-spans.result.now blocks.vars c.as_slice-spans.ensures blocks.kept c.args.slot c.args.place c.last_begun.result c.last_begun.ensures c.requires).0

pub overflow_add-result-2 : goal.overflow_add-result-2
overflow_add-result-2 c =
    let blocks = c.args.numbering.now in
    let r = found_in blocks.spans c.as_slice-spans.result.now blocks.vars c.as_slice-spans.ensures blocks.kept c.args.slot c.args.place c.last_begun.result c.last_begun.ensures c.requires in
    let low = r.0 in
    let high = r.1 in
    let small = r.2 in
    omega (arith, low, high, small)

pub returns : goal.returns
returns c = λ s m i.
    let is = (found_is c.as_slice-spans.result.now c.args.slot c.args.place c.last_begun.result c.last_begun.ensures s (subst (λ ss. Contains ss s) (sym c.as_slice-spans.ensures) m) i).1 in
    let base = ap (λ (u : Span). u.base) is in
    let start = ap (λ (u : Span). u.start) is in
    omega (arith, base, start)
