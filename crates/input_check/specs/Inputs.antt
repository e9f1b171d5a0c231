-- What the checker says of an input: of a formula with a log, or of a certificate of rewriting.
use Rattle.std.specs.Prelude.{◌≡◌, ◌⊎◌, ℕ, List, ◌++◌, codes}
use Rattle.block_tree.specs.declared.cause.RewriteCheck.{RewriteCheck}
use Rattle.block_tree.specs.declared.cause.RewriteCheck.TheVariants as certificates
use Rattle.proof_check.specs.declared.reply.ProofReply.{ProofReply}
use Rattle.proof_check.specs.declared.reply.ProofReply.TheVariants as proofs
use Rattle.proof_check.specs.Verdicts.{Checks, IsUnsatisfiable}
use Rattle.rewrite_check.specs.Spelling.{ChecksRewriting}
use Rattle.rewrite_check.specs.Laws.{ShowsCertain}
use Rattle.input_check.specs.declared.reply.CheckReply.{CheckReply}
use Rattle.input_check.specs.declared.reply.CheckReply.TheVariants.{Verified, BadText, BadLog, BadStatement, BadBlock}

-- an input is a certificate, of which this is the text: it stands behind a first line `rewriting`, or that and a carriage return
abbrev pub IsCertificateText : List ℕ → List ℕ → Type 0
IsCertificateText bytes text = (bytes ≡ codes "rewriting\n" ++ text) ⊎ (bytes ≡ codes "rewriting\r\n" ++ text)

-- an input has another first line, or none
abbrev pub IsProofText : List ℕ → Type 0
IsProofText bytes = (text : List ℕ) → IsCertificateText bytes text → ⊥

-- what is said of a formula with a log, as a reply
abbrev pub of_proof : ProofReply → CheckReply
of_proof proofs.Verified = Verified
of_proof (proofs.BadText fault) = BadText fault
of_proof (proofs.BadLog fault) = BadLog fault

-- what is said of a certificate, as a reply
abbrev pub of_certificate : RewriteCheck → CheckReply
of_certificate certificates.Verified = Verified
of_certificate (certificates.BadText statement) = BadStatement statement
of_certificate (certificates.BadBlock number cause) = BadBlock number cause

-- The reply to an input: what is said of the certificate whose text it has, or, where it has none, of a formula with a log.
abbrev pub ChecksInput : List ℕ → CheckReply → Type 0
ChecksInput bytes reply =
    ((text : List ℕ) × (check : RewriteCheck) × IsCertificateText bytes text × ChecksRewriting text check × (reply ≡ of_certificate check)) ⊎
    ((found : ProofReply) × IsProofText bytes × Checks bytes found × (reply ≡ of_proof found))

-- what an input shows that is verified: of a certificate, that its row is certain in every database that has its blocks; else that
-- nothing satisfies its formula
pub record IsShown (bytes : List ℕ) : Type 0 where
  pub certain : (text : List ℕ) → IsCertificateText bytes text → ShowsCertain text
  pub unsatisfiable : IsProofText bytes → IsUnsatisfiable bytes

-- The law: an input has at most one reply.
abbrev pub OneInputReply : Type 0
OneInputReply = (bytes : List ℕ) (a b : CheckReply) → ChecksInput bytes a → ChecksInput bytes b → a ≡ b
