use Rattle.std.proofs.Common.{[], refl, arith}
use Rattle.script_lex.proofs.Spelling.{SoFar-piece, SoFar-bad, SoFar-none, SoFar-whole, text_wide, not_kept}
use Rattle.script_lex.proofs.lexer.tokens_of_short.Goals as goal

pub returns-in-Some-unclean : goal.returns-in-Some-unclean
returns-in-Some-unclean c =
    rw c.bad_byte-in-Some-unclean.ensures (SoFar-bad c.args.text.now c.pieces.at c.in-Some-unclean.place c.pieces.found c.in-Some.kind c.in-Some.count c.pieces.invariant c.in-Some.ensures c.in-Some-unclean.ensures.0)

pub returns : goal.returns
returns c = SoFar-whole c.args.text.now c.pieces.at c.pieces.found c.pieces.invariant c.pieces-test.false

pub returns-in_default : goal.returns-in_default
returns-in_default c = rw c.bad_byte.ensures (SoFar-none c.args.text.now c.pieces.at c.pieces.found c.pieces.invariant c.pieces-test.true c.in_default.ensures)

pub unclean-requires : goal.unclean-requires
unclean-requires c = text_wide c.args.text.now c.pieces.at c.in-Some.kind c.in-Some.count c.pieces.invariant.within c.in-Some.ensures

pub pieces-init : goal.pieces-init
pieces-init c = record { pieces = []; splits = refl; clean = tt; within = omega arith; tokens_are = c.in_ok-found.ensures }

pub bad_byte-requires : goal.bad_byte-requires
bad_byte-requires c = omega (arith, c.requires, c.pieces-test.true)

pub pieces-preserved-in_ok-push : goal.pieces-preserved-in_ok-push
pieces-preserved-in_ok-push c =
    SoFar-piece c.args.text.now c.pieces.at c.pieces.found _ c.in-Some.kind c.in-Some.count c.pieces.invariant c.in-Some.ensures c.in_default-unclean.ensures (rw c.in-Token.is c.in_ok-push.ensures.ok)

pub pieces-preserved : goal.pieces-preserved
pieces-preserved c =
    SoFar-piece c.args.text.now c.pieces.at c.pieces.found c.pieces.found c.in-Some.kind c.in-Some.count c.pieces.invariant c.in-Some.ensures c.in_default-unclean.ensures (not_kept c.pieces.found c.in-Some.kind _ c.in_default-kind.not-Token)
