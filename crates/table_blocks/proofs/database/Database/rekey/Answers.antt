use Rattle.std.proofs.Common.{◌≡◌, ◌∙◌, ap, sym, subst, slice_set}
use Rattle.std.specs.Prelude.{if◌then◌else◌, None, IfOk, IfSome}
use Rattle.std.proofs.lemmas.Result.{on_err_weaker, IfOk-weaker}
use Rattle.cqa_model.proofs.Places.{rows-at, mark-at}
use Rattle.row_order.specs.Ordered.{block_order}
use Rattle.table_blocks.specs.Keys.{first_clash}
use Rattle.table_blocks.specs.Tables.{rows_at, IsRekeyed}
use Rattle.table_blocks.proofs.Changing.{set_same}
use Rattle.table_blocks.proofs.Naming.{found_in, named_less, values_set, match_weaker}
use Rattle.table_blocks.proofs.database.Database.rekey.Goals as goal

pub invariant_of-self : goal.invariant_of-self
invariant_of-self c =
    named_less c.self.inside.tables.entries c.args.table c.in-Some.found.now c.rekey.new.self c.self.invariant (sym c.in-Some.ensures.value) c.rekey.ensures.name c.rekey.ensures.table c.rekey.ensures.valid c.rekey.ensures.no_more

pub returns-clause-stored : goal.returns-clause-stored
returns-clause-stored c = (invariant_of-self c).1

pub returns-clause-err : goal.returns-clause-err
returns-clause-err c =
    on_err_weaker c.rekey.result (λ same.
    values_set c.self.inside.tables.entries c.args.table c.rekey.new.self ∙ ap (λ db. slice_set db c.args.table c.rekey.new.self) c.self.view_is
    ∙ ap (λ t. slice_set c.args.self.now c.args.table t) same ∙ set_same c.args.self.now c.args.table c.in-Some.found.now (found_in _ c.args.self.now c.args.table c.in-Some.found.now c.self.view_is c.in-Some.ensures.value)) c.rekey.ensures.err

pub returns-clause-clash : goal.returns-clause-clash
returns-clause-clash c =
    let found = c.in-Some.found.now in
    let db = c.args.self.now in
    let table = c.args.table in
    let key = c.args.key in
    let r = c.rekey.result in
    let here = found_in _ db table found c.self.view_is c.in-Some.ensures.value in
    subst (λ strict. IfOk r (λ clash. clash ≡ (if strict then first_clash key (block_order key (rows_at db table)) else None))) (sym (mark-at db table found here))
    (subst (λ rows. IfOk r (λ clash. clash ≡ (if found.schema.strict then first_clash key (block_order key rows) else None))) (sym (rows-at db table found here)) c.rekey.ensures.clash)

pub returns-clause-changed : goal.returns-clause-changed
returns-clause-changed c =
    let w = c.rekey.new.self in
    let found = c.in-Some.found.now in
    let db = c.args.self.now in
    let table = c.args.table in
    let key = c.args.key in
    let here = found_in _ db table found c.self.view_is c.in-Some.ensures.value in
    let put = values_set c.self.inside.tables.entries table w ∙ ap (λ db. slice_set db table w) c.self.view_is in
    IfOk-weaker c.rekey.result _ _ (λ clash. match_weaker clash
    (λ rekeyed. record { changed = w; rekeyed = subst (λ o. IfSome o (λ was. IsRekeyed was key w)) (sym here) rekeyed; others = put })
    (λ same. put ∙ ap (λ t. slice_set db table t) same ∙ set_same db table found here)) c.rekey.ensures.changed
