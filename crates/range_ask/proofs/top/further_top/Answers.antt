use Rattle.std.proofs.Common.{length, subst}
use Rattle.range_ask.specs.Finding.{IsFurthest}
use Rattle.range_ask.specs.Reaching.{IsTop}
use Rattle.range_ask.proofs.Topped.{top-unmet, top-first, top-further, top-beaten}
use Rattle.range_ask.proofs.top.further_top.Goals as goal

pub returns-in_default : goal.returns-in_default
returns-in_default c = λ p rows front block later places new at next far kept e l is h.
    top-unmet c.args.way p c.args.col rows front block later c.args.start next places new at kept l is c.args.top h (subst (IsFurthest c.args.way p c.args.col block (length block)) c.in_default.is far)

pub returns-in_default-top : goal.returns-in_default-top
returns-in_default-top c = λ p rows front block later places new at next far kept e l is h.
    top-first c.args.way p c.args.col rows front block later c.args.start next places new at kept l is c.in-Some.spot (subst (IsFurthest c.args.way p c.args.col block (length block)) c.in-Some.is far) c.args.number e
    (subst (IsTop c.args.way p c.args.col rows front places) c.in_default-top.is h)

pub returns-then-is_further : goal.returns-then-is_further
returns-then-is_further c = λ p rows front block later places new at next far kept e l is h.
    top-further c.args.way p c.args.col rows front block later c.args.start next places new at kept l is c.in-Some.spot (subst (IsFurthest c.args.way p c.args.col block (length block)) c.in-Some.is far) c.args.number e
    c.in-Some-top.old (subst (IsTop c.args.way p c.args.col rows front places) c.in-Some-top.is h) (c.is_further.ensures.further c.if-is_further.true)

pub returns-else-is_further : goal.returns-else-is_further
returns-else-is_further c = λ p rows front block later places new at next far kept e l is h.
    top-beaten c.args.way p c.args.col rows front block later c.args.start next places new at kept l is c.in-Some.spot (subst (IsFurthest c.args.way p c.args.col block (length block)) c.in-Some.is far)
    c.in-Some-top.old (subst (IsTop c.args.way p c.args.col rows front places) c.in-Some-top.is h) (c.is_further.ensures.behind c.if-is_further.false)
