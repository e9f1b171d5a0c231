-- Both ends of a count or a sum of a group, by what its members add at each place.
use Rattle.std.proofs.Common.{◌≡◌, ℕ, ◌<◌, ◌==◌, cond, List, length, map, Contains, refl, sym, ◌∙◌, ap}
use Rattle.std.specs.Prelude.{ℤ, pos}
use Rattle.cqa_value.specs.declared.value.Value.{Value}
use Rattle.aggregate_range.specs.declared.aggregate.End.TheVariants.{Number}
use Rattle.cqa_model.specs.declared.query.ColRef.{ColRef}
use Rattle.cqa_model.specs.declared.query.Query.{Query}
use Rattle.cqa_model.specs.declared.query.RowId.{RowId}
use Rattle.cqa_model.specs.Database.{Table, IsDatabase}
use Rattle.cqa_model.specs.Query.{atom_at, FitsDatabase}
use Rattle.row_witnesses.specs.Columns.{place_at}
use Rattle.range_ask.specs.Walking.{IsTotal}
use Rattle.range_ask.specs.Picks.{IsInBlocks}
use Rattle.range_join.specs.declared.sought.Sought.{Sought}
use Rattle.range_join.specs.Firsts.{blocks_at}
use Rattle.range_join.specs.Parts.{AreNamesIn}
use Rattle.range_join.specs.Worths.{adds, worth_at, AreOthersStrict}
use Rattle.range_join.proofs.Adding.{sum-map, sum-alike}
use Rattle.range_join.proofs.Ranged.{ranged}
use Rattle.range_groups.specs.declared.block_sums.Sums.{Sums}
use Rattle.range_groups.specs.declared.members.Member.{Member}
use Rattle.range_groups.specs.declared.shares.Share.{Share}
use Rattle.range_groups.specs.JoinGroups.{HasThere, IsJoinGroup}
use Rattle.range_groups.specs.Members.{names_by, worth_by, IsMemberOf}
use Rattle.range_groups.specs.Shares.{share_at, AreShares, AreBlockSums}
use Rattle.table_blocks.specs.Tables.{names_in}

module _ (db : List Table) (column : ColRef) (lax : ℕ) (f : List RowId → ℤ) (members : List Member) (of : (m : Member) → Contains members m → IsMemberOf db column lax m) where
  -- what members add is what their witnesses add
  pub worth-names : (p : ℕ) → worth_by f members p ≡ worth_at f lax (map names_by members) p
  worth-names p =
      sum-alike (λ (m : Member). cond (m.place == p) (f (names_by m)) (pos 0)) (λ (m : Member). cond (place_at (names_by m) lax == p) (f (names_by m)) (pos 0)) members
      (λ m k. ap (λ n. cond (n == p) (f (names_by m)) (pos 0)) (of m k).place)
      ∙ sym (sum-map (λ names. cond (place_at names lax == p) (f names) (pos 0)) names_by members)

module _ (db : List Table) (q : Query) (fits : FitsDatabase q db) (base : IsDatabase db) (lax : ℕ) (strict : AreOthersStrict q lax) (in_q : lax < length q.atoms) (parted : IsInBlocks db (atom_at q lax).table (blocks_at db (atom_at q lax).table)) (sought : Sought)
    (of_q : sought.atom < length q.atoms) (adding : IsTotal sought.goal) (column : ColRef) (members : List Member) (of : (m : Member) → Contains members m → IsMemberOf db column lax m) where
  pub summed-group : (shares : List Share) → AreShares (adds db sought) members shares → (sums : Sums) → AreBlockSums (share_at shares) db (atom_at q lax).table sums → (value : Value) → AreNamesIn db q (HasThere column value) (map names_by members) →
      IsJoinGroup db q lax sought column (record { value = value; least = Number sums.least; greatest = Number sums.most })
  summed-group shares are sums ends value part = record {
    low = names_in (atom_at q lax).table ends.low;
    high = names_in (atom_at q lax).table ends.high;
    is = ranged db q fits base lax strict in_q parted (HasThere column value) (map names_by members) part sought of_q adding (share_at shares) (λ p l. are.each p ∙ worth-names db column lax (adds db sought) members of p)
        ends.low ends.high ends.low_are ends.high_are
        (record { least = Number sums.least; low = names_in (atom_at q lax).table ends.low; greatest = Number sums.most; high = names_in (atom_at q lax).table ends.high })
        (record { least = ap Number ends.least_is; low_is = refl; greatest = ap Number ends.most_is; high_is = refl });
  }
