use Rattle.std.proofs.Common.{◌≡◌, length, arith, subst}
use Rattle.script_lex.specs.ScriptParts.{LinesSoFar}
use Rattle.script_lex.proofs.BlockLines.{block_found, block_at_end, no_block}
use Rattle.script_lex.proofs.blocks.block_end.Goals.{else-at_end-via-then-at_end+else-is_ending_line, else-at_end-via-else-at_end}
use Rattle.script_lex.proofs.blocks.block_end.Goals as goal

pub returns-then-lines-bytes : goal.returns-then-lines-bytes
returns-then-lines-bytes c =
    let so_far = c.requires.so_far in
    let order = so_far.order in
    let lt = c.if-lines-bytes.true in
    record {
      order = omega arith;
      within = omega arith;
      block = block_found c.args.at_end c.args.bytes.now c.args.lines.line c.args.lines.seen so_far lt (c.requires.feed lt) (c.requires.ends lt);
    }

pub returns-then-is_ending_line : goal.returns-then-is_ending_line
returns-then-is_ending_line c =
    let within = c.requires.so_far.within in
    let e : c.args.lines.seen ≡ length c.args.bytes.now = omega arith in
    let so_far = subst (λ z. LinesSoFar c.args.bytes.now c.args.lines.line z) e c.requires.so_far in
    let order = so_far.order in
    record {
      order = omega arith;
      within = omega arith;
      block = rw c.if-at_end.true (block_at_end c.args.bytes.now c.args.lines.line so_far (c.is_ending_line.ensures.0 c.if-is_ending_line.true));
    }

pub returns : goal.returns
returns c =
    let within = c.requires.so_far.within in
    let e : c.args.lines.seen ≡ length c.args.bytes.now = omega arith in
    let so_far = subst (λ z. LinesSoFar c.args.bytes.now c.args.lines.line z) e c.requires.so_far in
    no_block c.args.at_end c.args.bytes.now c.args.lines.line so_far (λ ended ends. elim c.else-at_end.branch [
      | else-at_end-via-then-at_end+else-is_ending_line w ↦ absurd (cc (w.is_ending_line.ensures.1 ends, w.if-is_ending_line.false))
      | else-at_end-via-else-at_end w ↦ absurd (cc (ended, w.if-at_end.false))
    ])
