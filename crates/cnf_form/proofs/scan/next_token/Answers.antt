use Rattle.std.proofs.Common.{◌∙◌, List, ℕ, ap, sym, arith, length}
use Rattle.cnf_form.specs.Lines.{after_line, line_of, tokens}
use Rattle.cnf_form.specs.Scans.{cons_token}
use Rattle.cnf_form.proofs.Scanned.{blanks_line, blanks_shorter, cut_out, cut_whole, token_cons, token_line, token_shorter}
use Rattle.cnf_form.proofs.scan.next_token.Goals as goal

pub slice_bounds-result-count : goal.slice_bounds-result-count
slice_bounds-result-count c = let r = token_shorter c.skip_blanks-text.result.now in let e = ap length c.skip_token-rest.ensures in omega (arith, r, e)

pub returns-clause-tokens : goal.returns-clause-tokens
returns-clause-tokens c = token_cons c.args.text.now c.skip_blanks-text.result.now c.skip_token-rest.result.now c.skip_blanks-text.ensures c.skip_token-rest.ensures
    ∙ ap (λ (t : List ℕ). cons_token t (tokens (line_of c.skip_token-rest.result.now))) (sym (cut_out c.skip_blanks-text.result.now c.skip_token-rest.result.now c.skip_token-rest.ensures))

pub returns-clause-line : goal.returns-clause-line
returns-clause-line c = blanks_line c.args.text.now ∙ ap after_line (sym c.skip_blanks-text.ensures) ∙ token_line c.skip_blanks-text.result.now ∙ ap after_line (sym c.skip_token-rest.ensures)

pub returns-clause-shorter : goal.returns-clause-shorter
returns-clause-shorter c =
    let r = token_shorter c.skip_blanks-text.result.now in let e = ap length c.skip_token-rest.ensures in
    let s = blanks_shorter c.args.text.now in let f = ap length c.skip_blanks-text.ensures in
    omega (arith, r, e, s, f)

pub returns-clause-whole : goal.returns-clause-whole
returns-clause-whole c = cut_whole c.skip_blanks-text.result.now c.skip_token-rest.result.now c.skip_token-rest.ensures
