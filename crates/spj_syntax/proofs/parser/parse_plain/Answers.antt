use Rattle.std.proofs.Common.{◌≡◌, length, arith, sym, ◌∙◌, ap, false}
use Rattle.std.proofs.lemmas.List.{length-map}
use Rattle.spj_syntax.specs.declared.reader.Stop.TheVariants.{Syntax}
use Rattle.spj_syntax.specs.Lexemes.{lexeme}
use Rattle.spj_syntax.specs.Shapes.{FirstFault}
use Rattle.spj_syntax.specs.Factored.{statement}
use Rattle.spj_syntax.specs.Parsed.{is_set}
use Rattle.spj_syntax.proofs.Whole.{plain_took, plain_failed, is_statement, more_is_fault, stop_is_fault, fault_shorter, stop_refused, refused, accepted}
use Rattle.spj_syntax.proofs.parser.parse_plain.Goals as goal

pub stopped-requires-clause-there : goal.stopped-requires-clause-there
stopped-requires-clause-there c = λ e.
    let plain : is_set c.new-reader.result ≡ false = ap is_set c.new-reader.ensures ∙ c.requires.no_set in
    let f = fault_shorter (stop_is_fault (plain_failed plain (rw e at c.in-Err.ensures.reads))) in
    omega (arith, f, c.count.ensures.left, ap length c.new-reader.ensures, length-map c.args.tokens.now (lexeme c.args.text.now))

pub returns-in-Err-clause-exact : goal.returns-in-Err-clause-exact
returns-in-Err-clause-exact c =
    let plain : is_set c.new-reader.result ≡ false = ap is_set c.new-reader.ensures ∙ c.requires.no_set in
    let f : c.in-Err.stop ≡ Syntax → FirstFault statement c.new-reader.result c.plain.new.reader = λ e. stop_is_fault (plain_failed plain (rw e at c.in-Err.ensures.reads)) in
    rw c.stopped.ensures (stop_refused c.args.text.now c.args.tokens.now c.in-Err.stop _ _ (rw c.new-reader.ensures at f) c.count.ensures.left)

pub stopped-requires-then-left-gt0-clause-there : goal.stopped-requires-then-left-gt0-clause-there
stopped-requires-then-left-gt0-clause-there c = λ _.
    let plain : is_set c.new-reader.result ≡ false = ap is_set c.new-reader.ensures ∙ c.requires.no_set in
    let f = fault_shorter (more_is_fault (plain_took plain c.in-Ok.ensures.reads) (λ e. absurd (omega (arith, c.if-left-gt0.true, c.count-left.ensures.left, e)))) in
    omega (arith, f, c.count-left.ensures.left, ap length c.new-reader.ensures, length-map c.args.tokens.now (lexeme c.args.text.now))

pub returns-then-left-gt0-clause-exact : goal.returns-then-left-gt0-clause-exact
returns-then-left-gt0-clause-exact c =
    let plain : is_set c.new-reader.result ≡ false = ap is_set c.new-reader.ensures ∙ c.requires.no_set in
    let f : FirstFault statement c.new-reader.result c.plain.new.reader = more_is_fault (plain_took plain c.in-Ok.ensures.reads) (λ e. absurd (omega (arith, c.if-left-gt0.true, c.count-left.ensures.left, e))) in
    rw c.stopped-then-left-gt0.ensures (stop_refused c.args.text.now c.args.tokens.now Syntax _ _ (λ _. rw c.new-reader.ensures at f) c.count-left.ensures.left)

pub returns-in-Some-clause-exact : goal.returns-in-Some-clause-exact
returns-in-Some-clause-exact c =
    let plain : is_set c.new-reader.result ≡ false = ap is_set c.new-reader.ensures ∙ c.requires.no_set in
    let h = is_statement (plain_took plain c.in-Ok.ensures.reads) (sym c.count-left.ensures.left ∙ omega arith) in
    refused _ _ c.in-Some.fault c.requires.no_set c.in-Some.ensures (rw c.new-reader.ensures at h.0)

pub returns-in-None-clause-exact : goal.returns-in-None-clause-exact
returns-in-None-clause-exact c =
    let plain : is_set c.new-reader.result ≡ false = ap is_set c.new-reader.ensures ∙ c.requires.no_set in
    let h = is_statement (plain_took plain c.in-Ok.ensures.reads) (sym c.count-left.ensures.left ∙ omega arith) in
    accepted _ _ _ c.requires.no_set c.in-None.ensures (rw c.new-reader.ensures at h)
