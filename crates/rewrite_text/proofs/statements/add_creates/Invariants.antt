use Rattle.std.proofs.Common.{take}
use Rattle.rewrite_text.specs.Texts.{certificate_creates}
use Rattle.rewrite_text.specs.Drafts.{AddsStatements}
use Rattle.rewrite_text.proofs.statements.add_creates.Given as goal

-- the tables so far are made
abbrev pub invariant-loop-atom : goal.invariant-loop-atom
invariant-loop-atom l = AddsStatements (certificate_creates l.db (take l.atom-index l.atoms)) l.fn.draft l.draft
