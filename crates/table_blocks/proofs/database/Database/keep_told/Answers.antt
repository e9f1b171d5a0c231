use Rattle.std.proofs.Common.{◌≡◌, ◌+◌, ◌++◌, ◌∙◌, sym, ap, subst, length, map, take, drop, Some, slice_get, slice_set}
use Rattle.std.specs.List.{filter}
use Rattle.cqa_model.specs.declared.schema.Schema.{Schema}
use Rattle.cqa_model.proofs.Places.{rows-at}
use Rattle.table_blocks.specs.Tables.{with_rows}
use Rattle.table_blocks.proofs.Changing.{set_with_rows}
use Rattle.table_blocks.proofs.Naming.{named_less, values_set}
use Rattle.table_blocks.proofs.database.Database.keep_told.Goals as goal

pub invariant_of-self : goal.invariant_of-self
invariant_of-self c =
    named_less c.self.inside.tables.entries c.args.table c.in-Some.found.now c.keep_told.new.self c.self.invariant (sym c.in-Some.ensures.value) (ap (λ (s : Schema). s.name) c.keep_told.ensures.schema) c.keep_told.ensures.table c.keep_told.ensures.valid c.keep_told.ensures.fewer

pub returns-clause-kept : goal.returns-clause-kept
returns-clause-kept c p k =
    let db = c.args.self.now in
    let at = c.args.table in
    let from = c.args.from in
    let count = length c.args.stays.now in
    let found = subst (λ tables. slice_get tables at ≡ Some c.in-Some.found.now) c.self.view_is (sym c.in-Some.ensures.value) in
    let same = rows-at db at c.in-Some.found.now found in
    let w = c.keep_told.new.self in
    values_set c.self.inside.tables.entries at w
    ∙ ap (λ tables. slice_set tables at w) c.self.view_is
    ∙ set_with_rows c.in-Some.found.now w c.keep_told.ensures.schema db at found
    ∙ ap (with_rows db at) (c.keep_told.ensures.kept p (subst (λ rows. c.args.stays.now ≡ map p (take count (drop from rows))) same k))
    ∙ ap (λ rows. with_rows db at ((take from rows ++ filter p (take count (drop from rows))) ++ drop (from + count) rows)) (sym same)

pub returns-clause-stored : goal.returns-clause-stored
returns-clause-stored c = (invariant_of-self c).1
