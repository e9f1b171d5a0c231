-- What is said of a certificate that is spelled, by what is said of its blocks.
use Rattle.std.proofs.Common.{◌≡◌, inl, inr, ℕ, List, [], ◌∷◌, ◌++◌, Result, IfOk, subst}
use Rattle.std.proofs.lemmas.Result.{IfOk-weaker}
use Rattle.cqa_value.specs.declared.value.Value.{Value}
use Rattle.cqa_model.specs.declared.query.Query.{Query}
use Rattle.block_tree.specs.declared.node.Node.{Node}
use Rattle.block_tree.specs.declared.cause.RewriteCheck.{RewriteCheck}
use Rattle.block_tree.specs.declared.cause.RewriteCheck.TheVariants.{Verified, BadText, BadBlock}
use Rattle.block_tree.specs.Judging.{Due, JudgesBlocks, Judged, dues_below, due_first}
use Rattle.block_tree.proofs.Judging.{verified_is_passing}
use Rattle.rewrite_check.specs.declared.certificate.Certificate.{Certificate}
use Rattle.rewrite_check.specs.Spelling.{SpellsCertificate, ChecksRewriting}
use Rattle.rewrite_check.proofs.Kept.{spelled_claim, spelled_order, answer_long}

-- blocks are no text
no_text : (q : Query) (row : List Value) (before : List Node) (dues : List Due) (nodes : List Node) (n : ℕ) → JudgesBlocks q row before dues nodes (BadText n) → ⊥
no_text q row before [] [] n e = absurd (cc e)
no_text q row before (d ∷ ds) [] n e = absurd (cc e)
no_text q row before [] (b ∷ bs) n e = absurd (cc e)
no_text q row before (d ∷ ds) (b ∷ bs) n (inl (cause, fails, e)) = absurd (cc e)
no_text q row before (d ∷ ds) (b ∷ bs) n (inr (stands, more)) = no_text q row (before ++ b ∷ []) (dues_below d b.rows ++ ds) bs n more

pub judged_is : (bytes : List ℕ) (c : Certificate) (reply : RewriteCheck) → SpellsCertificate bytes c → Judged c.query c.row c.order c.nodes reply → ChecksRewriting bytes reply
judged_is bytes c Verified spells judged =
    let passing = (verified_is_passing c.query c.row c.order c.nodes).0 judged in
    (c, spells, record { long = answer_long c.tables c.query c.row (spelled_claim bytes c spells).2; once = spelled_order bytes c spells; tree = passing.0; alike = passing.1 })
judged_is bytes c (BadBlock n cause) spells judged = (c, spells, judged)
judged_is bytes c (BadText n) spells judged = absurd (no_text c.query c.row [] (due_first [] c.order) c.nodes n judged)

-- what is said of blocks along the same order, of a query that stands in another value
pub judged_here : {E : Type 0} (q p : Query) (row : List Value) (order o : List ℕ) (nodes n : List Node) (result : Result RewriteCheck E) → p ≡ q → o ≡ order → n ≡ nodes → IfOk result (Judged p row o n) → IfOk result (Judged q row order nodes)
judged_here q p row order o nodes n result a b d h =
    subst (λ z. IfOk result (Judged z row order nodes)) a (subst (λ z. IfOk result (Judged p row z nodes)) b (subst (λ z. IfOk result (Judged p row o z)) d h))

pub text_or_judged : {E : Type 0} (bytes : List ℕ) (c : Certificate) (result : Result RewriteCheck E) → SpellsCertificate bytes c → IfOk result (Judged c.query c.row c.order c.nodes) → IfOk result (ChecksRewriting bytes)
text_or_judged bytes c result spells h = IfOk-weaker result (Judged c.query c.row c.order c.nodes) (ChecksRewriting bytes) (λ reply j. judged_is bytes c reply spells j) h
