use Rattle.std.proofs.Common.{refl}
use Rattle.cnf_form.specs.Lines.{after_token, token_of}
use Rattle.cnf_form.proofs.Scanned.{ended, newline, next_is}
use Rattle.cnf_form.proofs.scan.next_number.Goals as goal

pub returns-then-first-eq10 : goal.returns-then-first-eq10
returns-then-first-eq10 c = newline c.args.text.now c.skip_blanks-text.result.now c.skip_blanks-text.ensures c.in-len1-up.len_at_least c.if-first-eq10.true

pub returns-in-empty : goal.returns-in-empty
returns-in-empty c = ended c.args.text.now c.skip_blanks-text.result.now c.skip_blanks-text.ensures c.in-empty.len_below

pub returns-in-Some : goal.returns-in-Some
returns-in-Some c = (
  token_of c.skip_blanks-text.result.now,
  next_is c.args.text.now c.skip_blanks-text.result.now c.in-Some.rest.now c.skip_blanks-text.ensures c.in-len1-up.len_at_least c.if-first-eq10.false c.in-Some.ensures.1,
  c.in-Some.ensures.0,
  c.in-Some.ensures.2,
)

pub returns-in-None : goal.returns-in-None
returns-in-None c = (
  token_of c.skip_blanks-text.result.now,
  after_token c.skip_blanks-text.result.now,
  next_is c.args.text.now c.skip_blanks-text.result.now (after_token c.skip_blanks-text.result.now) c.skip_blanks-text.ensures c.in-len1-up.len_at_least c.if-first-eq10.false refl,
  c.in-None.ensures,
)
