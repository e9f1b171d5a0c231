-- What is read next of a text, within a line.
use Rattle.std.specs.Prelude.{◌≡◌, ℕ, ◌<◌, ◌≤◌, List, [], ◌∷◌, length, Some, None}
use Rattle.cnf_form.specs.declared.scan.Next.{Next}
use Rattle.cnf_form.specs.declared.scan.Next.TheVariants.{End, Number, Other}
use Rattle.cnf_form.specs.Lines.{after_line, line_of, tokens}
use Rattle.cnf_form.specs.Numbers.{signed_of}

-- the token is the next of the line that is begun, and the rest follows it
pub record IsNextToken (text token rest : List ℕ) : Type 0 where
  pub token_is : tokens (line_of text) ≡ token ∷ tokens (line_of rest)
  pub same_line : after_line text ≡ after_line rest
  pub shorter : length rest < length text

-- The next number up to a limit and what follows it; or the line has ended, and what follows is the next line; or the
-- next token is no such number.
abbrev pub NextIs : ℕ → List ℕ → Next → Type 0
NextIs limit text (End rest) = (tokens (line_of text) ≡ []) × (after_line text ≡ rest.now) × (length rest.now ≤ length text)
NextIs limit text (Number z rest) = (token : List ℕ) × IsNextToken text token rest.now × (signed_of limit token ≡ Some (z.negative, z.size)) × (z.size ≤ limit)
NextIs limit text Other = (token rest : List ℕ) × IsNextToken text token rest × (signed_of limit token ≡ None)

-- a token, unless it is empty, and those that follow
abbrev pub cons_token : List ℕ → List (List ℕ) → List (List ℕ)
cons_token [] ts = []
cons_token (b ∷ bs) ts = (b ∷ bs) ∷ ts
