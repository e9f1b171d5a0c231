use Rattle.std.proofs.Common.{◌∙◌, sym, ap}
use Rattle.std.specs.Prelude.{option_map}
use Rattle.cnf_form.specs.declared.header.Header.{Header}
use Rattle.cnf_form.proofs.Headers.{header_tokens}
use Rattle.cnf_form.proofs.header.read_header.Goals as goal

pub returns : goal.returns
returns c = (
  header_tokens c.next_token.result.0.now c.next_token-2.result.0.now c.next_token-3.result.0.now c.next_token-4.result.0.now c.next_token-5.result.0.now
      _ _ _ _ _ _ c.next_token.ensures.tokens c.next_token-2.ensures.tokens c.next_token-3.ensures.tokens c.next_token-4.ensures.tokens c.next_token-5.ensures.tokens
      ∙ sym c.header_from.ensures ∙ ap (option_map (λ (h : Header). (h.vars, h.count))) c.in_ok-header.was,
  c.skip_line.ensures ∙ sym (c.next_token.ensures.line ∙ c.next_token-2.ensures.line ∙ c.next_token-3.ensures.line ∙ c.next_token-4.ensures.line),
)
