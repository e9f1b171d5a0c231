use Rattle.std.proofs.Common.{◌≡◌, length, arith, sym, ◌∙◌, ap}
use Rattle.std.proofs.lemmas.List.{length-map}
use Rattle.spj_syntax.specs.declared.reader.Stop.TheVariants.{Syntax}
use Rattle.spj_syntax.specs.Lexemes.{lexeme}
use Rattle.spj_syntax.specs.Shapes.{FirstFault}
use Rattle.spj_syntax.proofs.Whole.{form_whole, more_than_form, form_stops, form_stopped, form_refused, fault_shorter}
use Rattle.spj_syntax.proofs.forms.parse_form.Goals as goal

pub stopped-requires-clause-there : goal.stopped-requires-clause-there
stopped-requires-clause-there g c = λ e.
    let f = fault_shorter (form_stops g.F.Form.is_decided (rw e at c.in-Err.ensures.reads)) in
    omega (arith, f, c.count.ensures.left, ap length c.new-reader.ensures, length-map c.args.tokens.now (lexeme c.args.text.now))

pub returns-in-Err-clause-exact : goal.returns-in-Err-clause-exact
returns-in-Err-clause-exact g c =
    let f : c.in-Err.stop ≡ Syntax → FirstFault g.F.Form.shape c.new-reader.result c.form.new.reader = λ e. form_stops g.F.Form.is_decided (rw e at c.in-Err.ensures.reads) in
    rw c.stopped.ensures (form_stopped g.F.Form.shape g.F.Form.tokens c.args.text.now c.args.tokens.now c.in-Err.stop _ _ (rw c.new-reader.ensures at f) c.count.ensures.left)

pub stopped-requires-then-left-gt0-clause-there : goal.stopped-requires-then-left-gt0-clause-there
stopped-requires-then-left-gt0-clause-there g c = λ _.
    let f = fault_shorter (more_than_form g.F.Form.is_decided c.in-Ok.ensures.reads (λ e. absurd (omega (arith, c.if-left-gt0.true, c.count-left.ensures.left, e)))) in
    omega (arith, f, c.count-left.ensures.left, ap length c.new-reader.ensures, length-map c.args.tokens.now (lexeme c.args.text.now))

pub returns-then-left-gt0-clause-exact : goal.returns-then-left-gt0-clause-exact
returns-then-left-gt0-clause-exact g c =
    let f : FirstFault g.F.Form.shape c.new-reader.result c.form.new.reader = more_than_form g.F.Form.is_decided c.in-Ok.ensures.reads (λ e. absurd (omega (arith, c.if-left-gt0.true, c.count-left.ensures.left, e))) in
    rw c.stopped-then-left-gt0.ensures (form_stopped g.F.Form.shape g.F.Form.tokens c.args.text.now c.args.tokens.now Syntax _ _ (λ _. rw c.new-reader.ensures at f) c.count-left.ensures.left)

pub returns-in-Some-clause-exact : goal.returns-in-Some-clause-exact
returns-in-Some-clause-exact g c =
    let h = form_whole g.F.Form.is_decided c.in-Ok.ensures.reads (sym c.count-left.ensures.left ∙ omega arith) in
    form_refused g.F.Form.shape g.F.Form.tokens c.args.text.now c.args.tokens.now c.in-Some.fault c.in-Some.ensures (rw c.new-reader.ensures at h.0)

pub returns-in-None-clause-exact : goal.returns-in-None-clause-exact
returns-in-None-clause-exact g c =
    let h = form_whole g.F.Form.is_decided c.in-Ok.ensures.reads (sym c.count-left.ensures.left ∙ omega arith) in
    let is = rw c.new-reader.ensures at h in
    (is.0, c.in-None.ensures, is.1 c.in-None.ensures)
