use Rattle.std.proofs.Common.{◌≡◌, ◌∷◌, [], arith, refl, sym, ◌∙◌, ap, length-append, ◌++◌}
use Rattle.std.proofs.lemmas.List.{append-nil}
use Rattle.script_lex.specs.declared.kinds.Symbol.TheVariants.{Comma}
use Rattle.spj_syntax.specs.Lexemes.{Mark}
use Rattle.spj_syntax.specs.Written.{column_tokens}
use Rattle.cqa_model.specs.Valid.{IsName}
use Rattle.cqa_model.specs.declared.schema.Column.{Column}
use Rattle.std.proofs.lemmas.List.Elements.{All-cons, All-nil, All-push}
use Rattle.spj_syntax.specs.Reading.{each_before}
use Rattle.spj_syntax.proofs.Steps.{rest_after, rest_took, rest_fails, rest_more, many_nothing, many_failed, opens_then, fails_first, exit, each_before-push, took_fewer}
use Rattle.spj_syntax.proofs.lists.columns.Goals as goal

abbrev named : Column → Type 0
named c = IsName c.name

pub returns-in_err-first-clause-reads : goal.returns-in_err-first-clause-reads
returns-in_err-first-clause-reads c = exit _ _ c.from_residual.ensures.1 (fails_first c.in_err-first.ensures.reads)

pub items-init : goal.items-init
items-init c =
    let one : c.push.new.self ≡ c.in_ok-first.first ∷ [] = c.in_ok-push.ensures.ok ∙ ap (λ z. z ++ c.in_ok-first.first ∷ []) c.new-items.ensures in
    record {
      rest = rw (one, append-nil) (rest_after c.in_ok-first.ensures.reads);
      started = rw one (omega arith);
      each = rw one (All-cons named c.in_ok-first.first [] c.in_ok-first.ensures.named (All-nil named));
    }

pub returns-in_err-item-clause-reads : goal.returns-in_err-item-clause-reads
returns-in_err-item-clause-reads c =
    exit _ _ c.from_residual-in_err-item.ensures.1 (rest_fails c.items.invariant.rest
    (many_failed (opens_then refl (opens_then refl c.items-test.ensures)) c.in_err-item.ensures.reads))

pub items-smaller : goal.items-smaller
items-smaller c = omega (arith, took_fewer refl c.in_ok-item.ensures.reads)

pub items-preserved : goal.items-preserved
items-preserved c = record {
  rest = rest_more c.items.invariant.rest (opens_then refl (opens_then refl c.items-test.ensures)) c.in_ok-item.ensures.reads
      (ap (λ z. each_before (Mark Comma) column_tokens z) c.in_ok-push-2.ensures.ok ∙ each_before-push (Mark Comma) column_tokens c.items.items c.in_ok-item.item);
  started = rw c.in_ok-push-2.ensures.ok (omega (arith, length-append c.items.items (c.in_ok-item.item ∷ [])));
  each = rw c.in_ok-push-2.ensures.ok (All-push named c.items.items c.in_ok-item.item c.items.invariant.each c.in_ok-item.ensures.named);
}

pub returns-clause-reads : goal.returns-clause-reads
returns-clause-reads c = rest_took c.items.invariant.rest (many_nothing (opens_then refl (opens_then refl c.items-test.ensures))) (sym (append-nil _))

pub returns-clause-named : goal.returns-clause-named
returns-clause-named c = c.items.invariant.each
