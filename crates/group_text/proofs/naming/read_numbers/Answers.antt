use Rattle.std.proofs.Common.{◌≡◌, ℕ, List, sym, subst}
use Rattle.cnf_form.specs.Lines.{token_of}
use Rattle.group_text.proofs.Colons.{after_whole, before_whole}
use Rattle.group_text.proofs.naming.read_numbers.Goals as goal

-- both halves of a token are tokens
pub read_unsigned-requires-clause-whole : goal.read_unsigned-requires-clause-whole
read_unsigned-requires-clause-whole c = subst (λ (x : List ℕ). token_of x ≡ x) (sym c.in_ok-front.ensures.0) (before_whole c.args.token.now c.requires)

pub read_unsigned-requires-2-clause-whole : goal.read_unsigned-requires-2-clause-whole
read_unsigned-requires-2-clause-whole c = after_whole c.args.token.now c.in_ok-front.rest.now c.requires c.in_ok-front.ensures.1
