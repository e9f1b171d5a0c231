use Rattle.std.proofs.Common.{◌≡◌, ◌∷◌, ◌<◌, ◌≤◌, ◌↔◌, ℕ, List, [], length, take, drop, slice_index_or, sym, ap, subst, rules, arith}
use Rattle.std.specs.List.Sorted.{IsStrictlySortedBy}
use Rattle.cqa_value.specs.declared.value.Value.{Value}
use Rattle.cqa_model.specs.Database.{block_cmp}
use Rattle.cqa_model.specs.Repairs.{SharesKey}
use Rattle.table_blocks.proofs.Spanning.{sorted-drop}
use Rattle.row_blocks.specs.Blocks.{blocks_of}
use Rattle.row_blocks.proofs.Parting.{first_block-is}
use Rattle.row_cursor.proofs.blocks.BlockCursorIterator.next.Goals as goal

-- the rows behind a block are in block order, too
pub invariant_of-self-2 : goal.invariant_of-self-2
invariant_of-self-2 c =
    let s = c.args.self.now in
    record { ordered = subst (IsStrictlySortedBy (block_cmp s.key.now)) (sym c.split_at-block.ensures.rest) (sorted-drop s.key.now s.rows c.block_end.result s.ordered) }

-- the first block ends where its first row's block does
parted : (key : List ℕ) (rows front rest : List (List Value)) (end : ℕ) → 0 < end → end ≤ length rows →
    ((i : ℕ) → 0 ≤ i → i < length rows → SharesKey key (slice_index_or rows 0 []) (slice_index_or rows i []) ↔ (i < end)) →
    front ≡ take end rows → rest ≡ drop end rows → blocks_of key rows ≡ front ∷ blocks_of key rest
parted key rows front rest end some within block front_is rest_is =
    subst (λ xs. blocks_of key rows ≡ xs ∷ blocks_of key rest) (sym front_is) (subst (λ ys. blocks_of key rows ≡ take end rows ∷ blocks_of key ys) (sym rest_is)
    (first_block-is key rows end some within (λ i l. (block i (omega arith) (omega (arith, l, within))).1 l)
    (λ l s. let h = (block end (omega arith) l).0 s in omega (arith, h))))

pub returns-clause-steps : goal.returns-clause-steps
returns-clause-steps c =
    let s = c.args.self.now in
    let e = c.block_end.ensures in
    parted s.key.now s.rows c.split_at-block.result.0 c.split_at-block.result.1 c.block_end.result e.behind e.within e.block c.split_at-block.ensures.front c.split_at-block.ensures.rest

pub returns-clause-goes : goal.returns-clause-goes
returns-clause-goes c =
    let s = c.args.self.now in
    let e = c.block_end.ensures in
    let steps = parted s.key.now s.rows c.split_at-block.result.0 c.split_at-block.result.1 c.block_end.result e.behind e.within e.block c.split_at-block.ensures.front c.split_at-block.ensures.rest in
    let fewer = ap length steps in
    search (rules, fewer)
