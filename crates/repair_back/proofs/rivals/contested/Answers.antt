use Rattle.std.proofs.Common.{get_or, subst, Contains}
use Rattle.std.proofs.lemmas.List.Elements.{Contains-get_or}
use Rattle.cqa_model.specs.declared.query.RowId.{RowId}
use Rattle.repair_back.proofs.rivals.contested.Goals as goal

abbrev none : RowId
none = record { table = 0; place = 0 }

pub is_rivalled-requires-clause-table : goal.is_rivalled-requires-clause-table
is_rivalled-requires-clause-table c =
    let items = c.as_slice-name-items.result.now in
    let name : RowId = get_or items c.loop-name.name-index none in
    (c.requires name (subst (λ (names : _). Contains names name) c.as_slice-name-items.ensures (Contains-get_or items c.loop-name.name-index none c.loop-name-test.true))).0
