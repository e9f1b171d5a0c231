use Rattle.std.proofs.Common.{◌≤◌, ◌∙◌, length, arith}
use Rattle.spj_syntax.proofs.Steps.{name_left, name_takes}
use Rattle.spj_syntax.proofs.reader.Reader.name.Goals as goal

pub returns-then-eq-clause-reads : goal.returns-then-eq-clause-reads
returns-then-eq-clause-reads c = record { way = name_left c.args.self.now c.in-Word.bytes.now c.in-Word.ensures.front (cc (c.if-eq.true, c.eq.ensures, c.as_slice.ensures)) }

pub returns-in_ok-name-in-Word-clause-reads : goal.returns-in_ok-name-in-Word-clause-reads
returns-in_ok-name-in-Word-clause-reads c =
    let kept = c.kept_word.ensures in
    let short : length c.kept_word.result.now ≤ 64 = kept.named.short in
    rw c.advance.ensures (name_takes c.args.self.now c.in-Word.bytes.now c.in_ok-name-in-Word.name c.in-Word.ensures.front (cc (c.if-eq.false, c.eq.ensures, c.as_slice.ensures))
    (λ le. c.in_ok-name-in-Word.ensures (omega arith) ∙ kept.same le))
