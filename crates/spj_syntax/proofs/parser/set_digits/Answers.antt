use Rattle.std.proofs.Common.{◌≡◌, length, arith, sym, ◌∙◌, ap, true}
use Rattle.std.proofs.lemmas.List.{length-map}
use Rattle.spj_syntax.specs.declared.reader.Stop.TheVariants.{Syntax}
use Rattle.spj_syntax.specs.Lexemes.{lexeme}
use Rattle.spj_syntax.specs.Shapes.{FirstFault}
use Rattle.spj_syntax.specs.Factored.{statement}
use Rattle.spj_syntax.specs.Parsed.{is_set}
use Rattle.spj_syntax.proofs.Whole.{set_took, set_failed, is_statement, more_is_fault, stop_is_fault, fault_shorter, stop_refused, set_ended}
use Rattle.spj_syntax.proofs.parser.set_digits.Goals as goal

pub stopped-requires-clause-there : goal.stopped-requires-clause-there
stopped-requires-clause-there c = λ e.
    let begins : is_set c.new-reader.result ≡ true = ap is_set c.new-reader.ensures ∙ c.requires.set in
    let f = fault_shorter (stop_is_fault (set_failed begins (rw e at c.in-Err.ensures.reads))) in
    omega (arith, f, c.count.ensures.left, ap length c.new-reader.ensures, length-map c.args.tokens.now (lexeme c.args.text.now))

pub returns-in-Err-clause-failed : goal.returns-in-Err-clause-failed
returns-in-Err-clause-failed c =
    let begins : is_set c.new-reader.result ≡ true = ap is_set c.new-reader.ensures ∙ c.requires.set in
    let f : c.in-Err.stop ≡ Syntax → FirstFault statement c.new-reader.result c.set.new.reader = λ e. stop_is_fault (set_failed begins (rw e at c.in-Err.ensures.reads)) in
    rw c.stopped.ensures (stop_refused c.args.text.now c.args.tokens.now c.in-Err.stop _ _ (rw c.new-reader.ensures at f) c.count.ensures.left)

pub stopped-requires-then-behind-gt0-clause-there : goal.stopped-requires-then-behind-gt0-clause-there
stopped-requires-then-behind-gt0-clause-there c = λ _.
    let begins : is_set c.new-reader.result ≡ true = ap is_set c.new-reader.ensures ∙ c.requires.set in
    let f = fault_shorter (more_is_fault (set_took begins c.in-Ok.ensures.reads) (λ e. absurd (omega (arith, c.if-behind-gt0.true, c.count-behind.ensures.left, e)))) in
    omega (arith, f, c.count-behind.ensures.left, ap length c.new-reader.ensures, length-map c.args.tokens.now (lexeme c.args.text.now))

pub returns-then-behind-gt0-clause-failed : goal.returns-then-behind-gt0-clause-failed
returns-then-behind-gt0-clause-failed c =
    let begins : is_set c.new-reader.result ≡ true = ap is_set c.new-reader.ensures ∙ c.requires.set in
    let f : FirstFault statement c.new-reader.result c.set.new.reader = more_is_fault (set_took begins c.in-Ok.ensures.reads) (λ e. absurd (omega (arith, c.if-behind-gt0.true, c.count-behind.ensures.left, e))) in
    rw c.stopped-then-behind-gt0.ensures (stop_refused c.args.text.now c.args.tokens.now Syntax _ _ (λ _. rw c.new-reader.ensures at f) c.count-behind.ensures.left)

pub returns-clause-statement : goal.returns-clause-statement
returns-clause-statement c =
    let begins : is_set c.new-reader.result ≡ true = ap is_set c.new-reader.ensures ∙ c.requires.set in
    let ended : length c.set.new.reader ≡ 0 = sym c.count-behind.ensures.left ∙ omega arith in
    let h = is_statement (set_took begins c.in-Ok.ensures.reads) ended in
    rw c.new-reader.ensures at h.0

pub returns-clause-whole : goal.returns-clause-whole
returns-clause-whole c =
    let ended : length c.set.new.reader ≡ 0 = sym c.count-behind.ensures.left ∙ omega arith in
    sym c.new-reader.ensures ∙ set_ended _ _ _ c.in-Ok.ensures.whole ended
