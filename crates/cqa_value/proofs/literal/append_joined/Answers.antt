use Rattle.std.proofs.Common.{◌++◌, take, ap, ◌∙◌, codes, rules}
use Rattle.std.specs.List.{flat_map}
use Rattle.cqa_value.specs.Literals.{literal_bytes}
use Rattle.cqa_value.proofs.Written.{begins_over, joined, separated}
use Rattle.cqa_value.proofs.Words.{on_err}
use Rattle.cqa_value.proofs.literal.append_joined.Goals as goal

pub returns-in_err-append_literal-2-clause-err : goal.returns-in_err-append_literal-2-clause-err
returns-in_err-append_literal-2-clause-err c = on_err c.from_residual-in_err-append_literal-2.result
    (begins_over c.args.out.now.items (literal_bytes c.in-Some.first.now) (flat_map separated (take c.loop-value.value-index c.in-Some.rest.now)) (codes ", ") c.extend_from_slice.new.self.items c.append_literal-in-loop-value.new.out.items
    (c.in_ok-extend_from_slice.ensures.items ∙ ap (λ l. l ++ codes ", ") (c.loop-value.invariant ∙ ap (λ l. l ++ flat_map separated (take c.loop-value.value-index c.in-Some.rest.now)) c.in_ok-append_literal.ensures.ok))
    c.in_err-append_literal-2.ensures.err)

pub returns-clause-ok : goal.returns-clause-ok
returns-clause-ok c = joined c.args.out.now.items c.append_literal.new.out.items c.loop-value.out.items c.in-Some.first.now c.in-Some.rest.now c.args.values.now c.loop-value.value-index (search rules) c.loop-value-test.false (search rules) c.loop-value.invariant
