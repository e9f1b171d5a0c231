-- What is known of the members of a group.
use Rattle.std.proofs.Common.{◌<◌, ◌≤◌, List, [], length, Contains, subst, arith}
use Rattle.cqa_value.specs.declared.value.Value.{Value}
use Rattle.aggregate_range.specs.declared.aggregate.End.TheVariants.{Number}
use Rattle.cqa_model.specs.Database.{stored}
use Rattle.cqa_model.specs.Query.{atom_at, rows_of}
use Rattle.join_access.specs.Listing.{names_of, AreAllNames}
use Rattle.row_witnesses.proofs.Told.{all_names}
use Rattle.range_ask.specs.Walking.{IsTotal, IsWithinBlocks}
use Rattle.range_ask.proofs.Walked.{within-most}
use Rattle.range_join.specs.Worths.{adds, AreListed, IsNameAt}
use Rattle.range_join.proofs.Bounding.{rows-few}
use Rattle.range_join.proofs.Listed.{listed}
use Rattle.range_groups.specs.declared.ask.GroupAsk.{GroupAsk}
use Rattle.range_groups.specs.declared.block_sums.Sums.{Sums}
use Rattle.range_groups.specs.declared.members.Member.{Member}
use Rattle.range_groups.specs.declared.shares.Share.{Share}
use Rattle.range_groups.specs.Asked.{asked_query, asked_tables, AreEndsOf, AreGroupsAsked, AreMembersOf}
use Rattle.range_groups.specs.Members.{names_by}
use Rattle.range_groups.specs.Shares.{share_at, AreBlockSums, AreShares}
use Rattle.range_groups.proofs.Grouped.{summed-group}

module _ (ask : GroupAsk) (asked : AreGroupsAsked ask) where
  pub asked-names : AreAllNames (asked_query ask) (asked_tables ask) [] (names_of ask.found.now.list)
  asked-names = subst (λ row. AreAllNames (asked_query ask) (asked_tables ask) row (names_of ask.found.now.list)) asked.row (all_names ask.found.now)

  pub asked-listed : AreListed (asked_tables ask) ask.sought.now.atom ask.lax (length (rows_of (asked_query ask) (stored (asked_tables ask)) ask.lax)) (names_of ask.found.now.list)
  asked-listed = listed (asked_tables ask) (asked_query ask) ask.found.now.bound.now.fits [] (names_of ask.found.now.list) asked-names ask.sought.now.atom ask.lax asked.atom asked.lax

  pub spans-few : length ask.spans.now ≤ 1_000_000
  spans-few =
      let size = asked.spans.size in
      let few = rows-few (asked_tables ask) (atom_at (asked_query ask) ask.lax).table in
      let most = ask.found.now.bound.now.database.few_rows in
      omega (arith, size, few, most)

  module _ (members : List Member) (of : AreMembersOf ask members) where
    pub member-named : (m : Member) → Contains members m → IsNameAt (asked_tables ask) ask.sought.now.atom (names_by m)
    member-named m k = asked-listed.named (names_by m) (of m k).1

    pub member-place : (m : Member) → Contains members m → m.place < length ask.spans.now
    member-place m k =
        let at = (of m k).0.place in
        let l = asked-listed.below (names_by m) (of m k).1 in
        let size = asked.spans.size in
        omega (arith, at, l, size)

    module _ (shares : List Share) (are : AreShares (adds (asked_tables ask) ask.sought.now) members shares) where
      pub share-place : (s : Share) → Contains shares s → s.place < length ask.spans.now
      share-place s k =
          let m = are.from s k in
          let l = member-place m.0 m.1 in
          let e = m.2 in
          omega (arith, l, e)

      pub share-small : length members ≤ 1_000_000 → (s : Share) → Contains shares s → IsWithinBlocks 1_000_000 s.worth
      share-small few s k = within-most (length members) 1_000_000 s.worth (are.within s k) few

      pub sums-ends : IsTotal ask.sought.now.goal → (sums : Sums) → AreBlockSums (share_at shares) (asked_tables ask) (atom_at (asked_query ask) ask.lax).table sums → (value : Value) → AreEndsOf ask value members (Number sums.least, Number sums.most)
      sums-ends adding sums ends value part =
          summed-group (asked_tables ask) (asked_query ask) ask.found.now.bound.now.fits ask.found.now.bound.now.database ask.lax asked.strict asked.lax asked.spans.parted ask.sought.now asked.atom adding ask.column members (λ m k. (of m k).0) shares are sums ends value part
