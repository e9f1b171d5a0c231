use Rattle.std.proofs.Common.{sym, subst, drop}
use Rattle.std.proofs.lemmas.List.{take_rest}
use Rattle.script_lex.specs.TokenParts.{EndsQuoted}
use Rattle.script_lex.proofs.Longest.{not_empty, blank_stands, word_stands, int_stands, single_stands, nothing_stands, unclosed, text_stands}
use Rattle.script_lex.proofs.pieces.first_piece.Goals as goal

pub returns-then-is_in : goal.returns-then-is_in
returns-then-is_in c = int_stands c.args.bytes.now _ (not_empty c.args.bytes.now c.if-is_empty.ensures) (sym c.if-is_in.ensures) (rw take_rest at c.run_length-more.ensures)

pub returns-in-Some : goal.returns-in-Some
returns-in-Some c = single_stands c.in-Some.symbol c.args.bytes.now (not_empty c.args.bytes.now c.if-is_empty.ensures) c.in-Some.ensures.0 c.in-Some.ensures.1

pub returns-then-is_in-2 : goal.returns-then-is_in-2
returns-then-is_in-2 c = blank_stands c.args.bytes.now (not_empty c.args.bytes.now c.if-is_empty.ensures) (sym c.if-is_in-2.ensures)

pub returns-then-is_in-3 : goal.returns-then-is_in-3
returns-then-is_in-3 c = word_stands c.args.bytes.now _ (not_empty c.args.bytes.now c.if-is_empty.ensures) (sym c.if-is_in-3.ensures) (rw take_rest at c.run_length-more-then-is_in-3.ensures)

pub returns-then-first-ne39 : goal.returns-then-first-ne39
returns-then-first-ne39 c =
    nothing_stands c.args.bytes.now (not_empty c.args.bytes.now c.if-is_empty.ensures) (sym c.if-is_in-2.ensures) (sym c.if-is_in-3.ensures) (sym c.if-is_in.ensures) c.if-first-eq45.false c.if-first-eq60.false c.if-first-eq62.false c.if-first-ne39.true c.in_default.ensures

pub returns-then-count-eq0 : goal.returns-then-count-eq0
returns-then-count-eq0 c =
    let e = rw take_rest at c.quoted_length-count.ensures in
    unclosed c.args.bytes.now (not_empty c.args.bytes.now c.if-is_empty.ensures) c.if-first-ne39.false (subst (λ z. EndsQuoted (drop 1 c.args.bytes.now) z) c.if-count-eq0.true e)

pub returns : goal.returns
returns c =
    let e = rw take_rest at c.quoted_length-count.ensures in
    text_stands c.args.bytes.now _ (not_empty c.args.bytes.now c.if-is_empty.ensures) c.if-first-ne39.false e c.if-count-eq0.false
