use Rattle.std.proofs.Common.{inl, inr}
use Rattle.input_check.specs.Inputs.{ChecksInput}
use Rattle.input_check.proofs.Replies.{one_input_reply, shown}
use Rattle.input_check.proofs.checking.check_bytes.Goals as goal

-- what is said of a certificate
certificate_said : (c : goal.After-of_certificate) → ChecksInput c.args.bytes.now c.of_certificate.result
certificate_said c = inl (c.in-Some.text.now, c.in_ok-check_rewriting-in-Some.field-0, c.in-Some.ensures, c.in_ok-check_rewriting-in-Some.ensures.exact, c.of_certificate.ensures)

pub returns-in_ok-check_rewriting-in-Some-clause-only : goal.returns-in_ok-check_rewriting-in-Some-clause-only
returns-in_ok-check_rewriting-in-Some-clause-only c reply said = one_input_reply c.args.bytes.now c.of_certificate.result reply (certificate_said c) said

pub returns-in_ok-check_rewriting-in-Some-clause-sound : goal.returns-in_ok-check_rewriting-in-Some-clause-sound
returns-in_ok-check_rewriting-in-Some-clause-sound c verified = shown c.args.bytes.now c.of_certificate.result (certificate_said c) verified

-- what is said of a formula with a log
proof_said : (c : goal.After-of_proof) → ChecksInput c.args.bytes.now c.of_proof.result
proof_said c = inr (c.in_ok-check_proof-in-None.field-0, c.in-None.ensures, c.in_ok-check_proof-in-None.ensures.exact, c.of_proof.ensures)

pub returns-in_ok-check_proof-in-None-clause-only : goal.returns-in_ok-check_proof-in-None-clause-only
returns-in_ok-check_proof-in-None-clause-only c reply said = one_input_reply c.args.bytes.now c.of_proof.result reply (proof_said c) said

pub returns-in_ok-check_proof-in-None-clause-sound : goal.returns-in_ok-check_proof-in-None-clause-sound
returns-in_ok-check_proof-in-None-clause-sound c verified = shown c.args.bytes.now c.of_proof.result (proof_said c) verified
