use Rattle.std.proofs.Common.{◌+◌, arith, length-drop}
use Rattle.std.proofs.lemmas.List.{take_rest}
use Rattle.script_lex.proofs.FirstCuts.{cut_unended, head_of, cut_plain, cut_block, cut_no_block}
use Rattle.script_lex.proofs.Progressing.{reached, knows_text, knows_blanks, knows_lines}
use Rattle.script_lex.proofs.scan.cut_on.Goals as goal

pub returns-in_default-text_end-clause-first : goal.returns-in_default-text_end-clause-first
returns-in_default-text_end-clause-first c = cut_unended c.args.at_end c.args.bytes.now c.in-Some.from c.in-Some.ensures (rw take_rest at c.in_default-text_end.ensures)

pub returns-then-not-is_copy-clause-first : goal.returns-then-not-is_copy-clause-first
returns-then-not-is_copy-clause-first c =
    let head = head_of c.args.bytes.now c.in-Some.from c.in-Some-text_end.count c.in-Some.ensures (rw take_rest at c.in-Some-text_end.ensures) in
    cut_plain c.args.at_end c.args.bytes.now c.in-Some.from _ head (λ k. absurd (cc (c.is_copy.ensures.1 k, c.if-not-is_copy.true)))

pub returns-in-Some-block_end-clause-first : goal.returns-in-Some-block_end-clause-first
returns-in-Some-block_end-clause-first c =
    let head = head_of c.args.bytes.now c.in-Some.from c.in-Some-text_end.count c.in-Some.ensures (rw take_rest at c.in-Some-text_end.ensures) in
    cut_block c.args.at_end c.args.bytes.now c.in-Some.from _ c.skipped_length.result c.in-Some-block_end.end head (c.is_copy.ensures.0 c.if-not-is_copy.false) (rw take_rest at c.skipped_length.ensures) (rw take_rest at c.in-Some-block_end.ensures)

pub returns-in-None-clause-first : goal.returns-in-None-clause-first
returns-in-None-clause-first c =
    let head = head_of c.args.bytes.now c.in-Some.from c.in-Some-text_end.count c.in-Some.ensures (rw take_rest at c.in-Some-text_end.ensures) in
    cut_no_block c.args.at_end c.args.bytes.now c.in-Some.from _ c.skipped_length.result c.in-Some.ensures head (c.is_copy.ensures.0 c.if-not-is_copy.false) (rw take_rest at c.skipped_length.ensures) (rw take_rest at c.in-None.ensures)

pub returns-in-Some-block_end-clause-holds : goal.returns-in-Some-block_end-clause-holds
returns-in-Some-block_end-clause-holds c =
    let begun = c.in-Some.ensures.within in
    let head = head_of c.args.bytes.now c.in-Some.from c.in-Some-text_end.count c.in-Some.ensures (rw take_rest at c.in-Some-text_end.ensures) in
    let ended = head.within in
    let skips = rw take_rest at c.skipped_length.ensures in
    let skipped = skips.within in
    record {
      gap = reached c.region_on-known.ensures;
      text = knows_text c.args.bytes.now c.in-Some.from c.text_on-known.result c.text_on-known.ensures.from (omega arith) c.text_on-known.ensures.stands;
      blanks = knows_blanks c.args.bytes.now _ c.blanks_on-known.result c.blanks_on-known.ensures.from (omega arith) c.blanks_on-known.ensures.runs;
      lines = knows_lines c.args.bytes.now _ c.block_on-known.result c.block_on-known.ensures.from (omega (arith, skipped, ended, length-drop ((c.in-Some.from + c.in-Some-text_end.count) + 1) c.args.bytes.now)) c.block_on-known.ensures.stand;
    }

pub returns-in-None-clause-holds : goal.returns-in-None-clause-holds
returns-in-None-clause-holds c =
    let begun = c.in-Some.ensures.within in
    let head = head_of c.args.bytes.now c.in-Some.from c.in-Some-text_end.count c.in-Some.ensures (rw take_rest at c.in-Some-text_end.ensures) in
    let ended = head.within in
    let skips = rw take_rest at c.skipped_length.ensures in
    let skipped = skips.within in
    record {
      gap = reached c.region_on-known.ensures;
      text = knows_text c.args.bytes.now c.in-Some.from c.text_on-known.result c.text_on-known.ensures.from (omega arith) c.text_on-known.ensures.stands;
      blanks = knows_blanks c.args.bytes.now _ c.blanks_on-known.result c.blanks_on-known.ensures.from (omega arith) c.blanks_on-known.ensures.runs;
      lines = knows_lines c.args.bytes.now _ c.block_on-known.result c.block_on-known.ensures.from (omega (arith, skipped, ended, length-drop ((c.in-Some.from + c.in-Some-text_end.count) + 1) c.args.bytes.now)) c.block_on-known.ensures.stand;
    }

pub returns-in_default-clause-holds : goal.returns-in_default-clause-holds
returns-in_default-clause-holds c = record { gap = reached c.region_on-known.ensures; text = c.requires.text; blanks = c.requires.blanks; lines = c.requires.lines }

pub returns-in_default-text_end-clause-holds : goal.returns-in_default-text_end-clause-holds
returns-in_default-text_end-clause-holds c =
    let begun = c.in-Some.ensures.within in
    record {
      gap = reached c.region_on-known.ensures;
      text = knows_text c.args.bytes.now c.in-Some.from c.text_on-known.result c.text_on-known.ensures.from (omega arith) c.text_on-known.ensures.stands;
      blanks = c.requires.blanks;
      lines = c.requires.lines;
    }

pub returns-then-not-is_copy-clause-holds : goal.returns-then-not-is_copy-clause-holds
returns-then-not-is_copy-clause-holds c =
    let begun = c.in-Some.ensures.within in
    record {
      gap = reached c.region_on-known.ensures;
      text = knows_text c.args.bytes.now c.in-Some.from c.text_on-known.result c.text_on-known.ensures.from (omega arith) c.text_on-known.ensures.stands;
      blanks = c.requires.blanks;
      lines = c.requires.lines;
    }

pub text_end-requires : goal.text_end-requires
text_end-requires c = rw take_rest c.text_on-known.ensures.stands

pub skipped_length-requires : goal.skipped_length-requires
skipped_length-requires c = rw take_rest c.blanks_on-known.ensures.runs

pub block_end-requires : goal.block_end-requires
block_end-requires c = rw take_rest c.block_on-known.ensures.stand

pub blanks_on-known-requires-clause-within : goal.blanks_on-known-requires-clause-within
blanks_on-known-requires-clause-within c =
    let head = head_of c.args.bytes.now c.in-Some.from c.in-Some-text_end.count c.in-Some.ensures (rw take_rest at c.in-Some-text_end.ensures) in
    omega (arith, head.within)

pub block_on-known-requires-clause-within : goal.block_on-known-requires-clause-within
block_on-known-requires-clause-within c =
    let head = head_of c.args.bytes.now c.in-Some.from c.in-Some-text_end.count c.in-Some.ensures (rw take_rest at c.in-Some-text_end.ensures) in
    let skips = rw take_rest at c.skipped_length.ensures in
    omega (arith, head.within, skips.within, length-drop ((c.in-Some.from + c.in-Some-text_end.count) + 1) c.args.bytes.now)
