-- The laws of the text of a certificate.
use Rattle.std.specs.Prelude.{◌≡◌, ℕ, List}
use Rattle.cqa_model.specs.declared.query.Query.{Query}
use Rattle.cqa_model.specs.Database.{Table, stored}
use Rattle.cqa_model.specs.Certain.{IsCertain}
use Rattle.query_resolve.specs.Resolved.{IsQueryOf}
use Rattle.block_tree.specs.declared.cause.RewriteCheck.{RewriteCheck}
use Rattle.block_tree.specs.declared.cause.RewriteCheck.TheVariants.{Verified}
use Rattle.block_tree.specs.Trees.{HasListedBlocks}
use Rattle.rewrite_check.specs.declared.certificate.Certificate.{Certificate}
use Rattle.rewrite_check.specs.Queries.{SameSchemas}
use Rattle.rewrite_check.specs.Spelling.{Stage, LeadsOn, SpellsCertificate, ChecksRewriting}

-- A statement leads on to one stage at most.
abbrev pub LeadsOnce : Type 0
LeadsOnce = (stage : Stage) (text : List ℕ) (x y : Stage) → LeadsOn stage text x → LeadsOn stage text y → x ≡ y

-- At most one thing is said of bytes.
abbrev pub ChecksOnce : Type 0
ChecksOnce = (bytes : List ℕ) (a b : RewriteCheck) → ChecksRewriting bytes a → ChecksRewriting bytes b → a ≡ b

-- The bytes show that a row is certain: in every database whose tables have the schemas that are written, wherever they stand,
-- and that has the blocks.
abbrev pub ShowsCertain : List ℕ → Type 0
ShowsCertain bytes = (c : Certificate) (db : List Table) (q : Query) → SpellsCertificate bytes c → SameSchemas c.select.tables c.tables db → IsQueryOf db c.select q → HasListedBlocks q (stored db) c.nodes → IsCertain db q c.row

-- Bytes that are verified do.
abbrev pub VerifiedProves : Type 0
VerifiedProves = (bytes : List ℕ) → ChecksRewriting bytes Verified → ShowsCertain bytes
