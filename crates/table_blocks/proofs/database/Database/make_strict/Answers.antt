use Rattle.std.proofs.Common.{◌≡◌, ◌∙◌, ap, sym, length, arith, true, slice_set}
use Rattle.std.specs.Prelude.{IfOk}
use Rattle.std.proofs.lemmas.Result.{on_err_weaker, IfOk-weaker}
use Rattle.table_blocks.specs.Keys.{first_clash}
use Rattle.table_blocks.proofs.Changing.{set_with_mark, set_same}
use Rattle.table_blocks.proofs.Naming.{found_in, named_less, at_place, values_set, match_weaker}
use Rattle.table_blocks.proofs.database.Database.make_strict.Goals as goal

pub invariant_of-self : goal.invariant_of-self
invariant_of-self c =
    named_less c.self.inside.tables.entries c.args.table c.in-Some.found.now c.make_strict.new.self c.self.invariant (sym c.in-Some.ensures.value) c.make_strict.ensures.name c.make_strict.ensures.table c.make_strict.ensures.valid (let same = ap length c.make_strict.ensures.rows in omega (arith, same))

pub returns-clause-stored : goal.returns-clause-stored
returns-clause-stored c = (invariant_of-self c).1

pub returns-clause-err : goal.returns-clause-err
returns-clause-err c =
    on_err_weaker c.make_strict.result (λ same.
    values_set c.self.inside.tables.entries c.args.table c.make_strict.new.self ∙ ap (λ db. slice_set db c.args.table c.make_strict.new.self) c.self.view_is
    ∙ ap (λ t. slice_set c.args.self.now c.args.table t) same ∙ set_same c.args.self.now c.args.table c.in-Some.found.now (found_in _ c.args.self.now c.args.table c.in-Some.found.now c.self.view_is c.in-Some.ensures.value)) c.make_strict.ensures.err

pub returns-clause-clash : goal.returns-clause-clash
returns-clause-clash c =
    at_place (λ key rows. IfOk c.make_strict.result (λ clash. clash ≡ first_clash key rows)) c.args.self.now c.args.table c.in-Some.found.now
    (found_in _ c.args.self.now c.args.table c.in-Some.found.now c.self.view_is c.in-Some.ensures.value) c.make_strict.ensures.clash

pub returns-clause-changed : goal.returns-clause-changed
returns-clause-changed c =
    let w = c.make_strict.new.self in
    let found = c.in-Some.found.now in
    let db = c.args.self.now in
    let table = c.args.table in
    let here = found_in _ db table found c.self.view_is c.in-Some.ensures.value in
    let put = values_set c.self.inside.tables.entries table w ∙ ap (λ db. slice_set db table w) c.self.view_is in
    IfOk-weaker c.make_strict.result _ _ (λ clash. match_weaker clash
    (λ same. put ∙ ap (λ t. slice_set db table t) same ∙ set_with_mark found true db table here)
    (λ same. put ∙ ap (λ t. slice_set db table t) same ∙ set_same db table found here)) c.make_strict.ensures.changed
