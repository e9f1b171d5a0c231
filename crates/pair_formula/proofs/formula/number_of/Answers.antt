use Rattle.std.proofs.Common.{◌≡◌, ◌<◌, ℕ, None, Some, length, get_or, Contains, sym, subst, ◌∙◌, arith}
use Rattle.row_lists.specs.Spans.{IsInSpan, at}
use Rattle.row_lists.proofs.Reading.{no_span, numbers-small, span_read}
use Rattle.pair_formula.proofs.Pairing.{number-none}
use Rattle.pair_formula.proofs.formula.number_of.Goals as goal

-- the span that is read has the place
read : (c : goal.In-Some) → (c.in-Some.found < length c.as_slice-spans.result.now) × Contains c.args.blocks.now.spans (get_or c.as_slice-spans.result.now c.in-Some.found no_span) ×
    IsInSpan (get_or c.as_slice-spans.result.now c.in-Some.found no_span) (at c.args.atom c.args.place)
read c =
    let spans = c.args.blocks.now.spans in
    let k = c.in-Some.found in
    subst (λ ss. (k < length ss) × Contains spans (get_or ss k no_span) × IsInSpan (get_or ss k no_span) (at c.args.atom c.args.place)) (sym c.as_slice-spans.ensures)
    (span_read spans c.args.atom c.args.place k ((c.find_span.ensures k).0 c.in-Some.is))

pub offset_bounds-spans-found : goal.offset_bounds-spans-found
offset_bounds-spans-found c = let l = (read c).0 in omega (arith, l)

pub bounds-spans-found : goal.bounds-spans-found
bounds-spans-found c = (read c).0

pub number_in-requires-clause-from : goal.number_in-requires-clause-from
number_in-requires-clause-from c = (read c).2.1

pub number_in-requires-clause-before : goal.number_in-requires-clause-before
number_in-requires-clause-before c = (read c).2.2

pub number_in-requires-clause-small : goal.number_in-requires-clause-small
number_in-requires-clause-small c =
    let blocks = c.args.blocks.now in
    numbers-small blocks.spans blocks.vars blocks.kept (get_or c.as_slice-spans.result.now c.in-Some.found no_span) (read c).1

pub returns-in-Some : goal.returns-in-Some
returns-in-Some c =
    let spans = c.args.blocks.now.spans in
    let k = c.in-Some.found in
    let r = subst (λ ss. (k < length ss) × Contains spans (get_or ss k no_span) × IsInSpan (get_or ss k no_span) (at c.args.atom c.args.place)) (sym c.as_slice-spans.ensures)
    (span_read spans c.args.atom c.args.place k ((c.find_span.ensures k).0 c.in-Some.is)) in
    (get_or c.as_slice-spans.result.now k no_span, r.1, r.2, c.number_in.ensures)

no_index : (k : ℕ) → None ≡ Some k → ⊥
no_index k e = cc

pub returns-in-None : goal.returns-in-None
returns-in-None c = number-none c.args.blocks.now.spans c.args.atom c.args.place (λ k h. no_index k (sym c.in-None.is ∙ (c.find_span.ensures k).1 h))
