-- Lines of a reply, one for each of some things.
use Rattle.std.proofs.Common.{List, [], ◌∷◌, length, Contains, refl}
use Rattle.std.specs.List.{AllZip, count_by}
use Rattle.cqa_value.proofs.Words.{mem-head, mem-tail}
use Rattle.cqa_model.specs.Database.{Table, IsDatabase}
use Rattle.cqa_model.specs.Blocks.{AreBlocks}
use Rattle.row_blocks.specs.Blocks.{blocks_of}
use Rattle.row_blocks.specs.Conflicts.{is_conflict}
use Rattle.row_blocks.proofs.Parting.{blocks-are, side_by_side}
use Rattle.reply_text.specs.declared.reply.ConflictLine.{ConflictLine}
use Rattle.reply_text.specs.declared.reply.TableLine.{TableLine}
use Rattle.session_state.specs.ShowTables.{IsTableLine}
use Rattle.session_state.specs.ShowConflicts.{IsConflictLine}

-- where each member has a line, a list has its lines
pub all_lines : {A B : Type 0} (Is : A → B → Type 0) (xs : List A) → ((x : A) → Contains xs x → (y : B) × Is x y) → (ys : List B) × AllZip Is xs ys
all_lines Is [] one = ([], tt)
all_lines Is (x ∷ xs) one =
    let here = one x (mem-head x xs) in
    let rest = all_lines Is xs (λ z m. one z (mem-tail z x xs m)) in
    (here.0 ∷ rest.0, (here.1, rest.1))

module _ (db : List Table) (valid : IsDatabase db) (t : Table) (inside : Contains db t) where
  blocks : AreBlocks t.schema.key t.rows (blocks_of t.schema.key t.rows)
  blocks = blocks-are t.schema.key t.rows (side_by_side t.schema.key t.rows (valid.each t inside).in_order)

pub tables_are_shown : (db : List Table) → IsDatabase db → (lines : List TableLine) × AllZip IsTableLine db lines
tables_are_shown db valid = all_lines IsTableLine db (λ t m. (
  record { schema = t.schema; rows = length t.rows; blocks = length (blocks_of t.schema.key t.rows) },
  record { schema = refl; rows = refl; blocks = (blocks_of t.schema.key t.rows, blocks db valid t m, refl) },
))

pub conflicts_are_shown : (db : List Table) → IsDatabase db → (lines : List ConflictLine) × AllZip IsConflictLine db lines
conflicts_are_shown db valid = all_lines IsConflictLine db (λ t m. (
  record { name = t.schema.name; rows = length t.rows; blocks = length (blocks_of t.schema.key t.rows); conflicts = count_by is_conflict (blocks_of t.schema.key t.rows) },
  record { name = refl; rows = refl; blocks = (blocks_of t.schema.key t.rows, blocks db valid t m, refl); conflicts = (blocks_of t.schema.key t.rows, blocks db valid t m, refl) },
))
