-- An input has one reply, and what is verified is shown.
use Rattle.std.proofs.Common.{◌≡◌, inl, inr, ℕ, List, ◌++◌, codes, get_or, Ok, refl, ap, sym, ◌∙◌, subst, arith}
use Rattle.std.proofs.lemmas.List.{append_cancel_left}
use Rattle.block_tree.specs.declared.cause.RewriteCheck.{RewriteCheck}
use Rattle.block_tree.specs.declared.cause.RewriteCheck.TheVariants as certificates
use Rattle.proof_check.specs.declared.reply.ProofReply.{ProofReply}
use Rattle.proof_check.specs.declared.reply.ProofReply.TheVariants as proofs
use Rattle.proof_check.proofs.Replies.{one_reply, sound_reply}
use Rattle.rewrite_check.specs.Spelling.{ChecksRewriting}
use Rattle.rewrite_check.specs.Laws.{ShowsCertain}
use Rattle.rewrite_check.proofs.Unique.{checks_once}
use Rattle.rewrite_check.proofs.Proving.{verified_proves}
use Rattle.input_check.specs.declared.reply.CheckReply.{CheckReply}
use Rattle.input_check.specs.declared.reply.CheckReply.TheVariants.{Verified}
use Rattle.input_check.specs.Inputs.{IsCertificateText, of_proof, of_certificate, ChecksInput, IsShown, OneInputReply}

-- ---- the text of a certificate

apart : (a b : List ℕ) → codes "rewriting\n" ++ a ≡ codes "rewriting\r\n" ++ b → ⊥
apart a b e = let k : 10 ≡ 13 = ap (λ z. get_or z 9 0) e in omega (arith, k)

same_text : (bytes a b : List ℕ) → IsCertificateText bytes a → IsCertificateText bytes b → a ≡ b
same_text bytes a b (inl e) (inl f) = append_cancel_left (codes "rewriting\n") a b (sym e ∙ f)
same_text bytes a b (inl e) (inr f) = absurd (apart a b (sym e ∙ f))
same_text bytes a b (inr e) (inl f) = absurd (apart b a (sym f ∙ e))
same_text bytes a b (inr e) (inr f) = append_cancel_left (codes "rewriting\r\n") a b (sym e ∙ f)

-- ---- one reply

pub one_input_reply : OneInputReply
one_input_reply bytes a b (inl (text, check, is, checks, e)) (inl (other, found, was, finds, f)) =
    let same : check ≡ found = checks_once other check found (subst (λ t. ChecksRewriting t check) (same_text bytes text other is was) checks) finds in
    e ∙ ap of_certificate same ∙ sym f
one_input_reply bytes a b (inl (text, check, is, checks, e)) (inr (found, other, finds, f)) = absurd (other text is)
one_input_reply bytes a b (inr (found, other, finds, f)) (inl (text, check, is, checks, e)) = absurd (other text is)
one_input_reply bytes a b (inr (found, other, finds, e)) (inr (again, others, are, f)) = e ∙ ap of_proof (one_reply bytes found again finds are) ∙ sym f

-- ---- what is verified is shown

verified_certificate : (check : RewriteCheck) → of_certificate check ≡ Verified → check ≡ certificates.Verified
verified_certificate certificates.Verified e = refl
verified_certificate (certificates.BadText statement) e = absurd (cc e)
verified_certificate (certificates.BadBlock number cause) e = absurd (cc e)

verified_proof : (found : ProofReply) → of_proof found ≡ Verified → found ≡ proofs.Verified
verified_proof proofs.Verified e = refl
verified_proof (proofs.BadText fault) e = absurd (cc e)
verified_proof (proofs.BadLog fault) e = absurd (cc e)

pub shown : (bytes : List ℕ) (reply : CheckReply) → ChecksInput bytes reply → reply ≡ Verified → IsShown bytes
shown bytes reply (inl (text, check, is, checks, e)) v = record {
  certain = λ other was. subst ShowsCertain (same_text bytes text other is was) (verified_proves text (subst (ChecksRewriting text) (verified_certificate check (sym e ∙ v)) checks));
  unsatisfiable = λ none. absurd (none text is);
}
shown bytes reply (inr (found, other, finds, e)) v = record {
  certain = λ text is. absurd (other text is);
  unsatisfiable = λ none. sound_reply bytes (Ok found) finds (verified_proof found (sym e ∙ v));
}
