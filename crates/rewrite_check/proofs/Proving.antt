-- Bytes that are verified show that their row is certain.
use Rattle.std.proofs.Common.{subst}
use Rattle.block_tree.specs.Trees.{PassesFor}
use Rattle.block_tree.proofs.Certain.{passing_is_certain}
use Rattle.block_tree.proofs.Elsewhere.{passing_elsewhere}
use Rattle.rewrite_check.proofs.Same.{same_queries}
use Rattle.rewrite_check.specs.Laws.{VerifiedProves}
use Rattle.rewrite_check.proofs.Unique.{spelled_once}
use Rattle.rewrite_check.proofs.Kept.{spelled_claim}

pub verified_proves : VerifiedProves
verified_proves bytes verified c db q spells schemas is_query has =
    let e = spelled_once bytes verified.0 c verified.1 spells in
    let passes = subst (λ z. PassesFor z.query z.row z.order z.nodes) e verified.2 in
    let own = (spelled_claim bytes c spells).1 in
    let same = same_queries c.tables db c.select c.query q schemas own is_query in
    passing_is_certain db q c.row c.order c.nodes is_query.fits (passing_elsewhere c.query q c.row c.order c.nodes same passes) has
