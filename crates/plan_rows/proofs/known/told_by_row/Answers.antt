use Rattle.std.proofs.Common.{◌≡◌, ◌<◌, ◌∙◌, sym, subst, get_or, List, Contains}
use Rattle.std.proofs.lemmas.List.Elements.{Contains-get_or}
use Rattle.cqa_value.specs.declared.value.Value.{Value as Cell}
use Rattle.cqa_value.specs.Values.{nothing}
use Rattle.cqa_model.specs.declared.query.ColRef.{ColRef}
use Rattle.cqa_model.specs.Query.{atom_at}
use Rattle.cqa_model.specs.Variables.{AreLinked}
use Rattle.cqa_model.proofs.Columns.{class-linked}
use Rattle.cqa_model.proofs.Views.{linked-self}
use Rattle.cqa_model.proofs.ClassNames.{untold}
use Rattle.table_blocks.proofs.Binding.{in-range}
use Rattle.plan_rows.specs.declared.joined.JoinedColumn.{JoinedColumn}
use Rattle.plan_rows.specs.Fitting.{ColumnAgrees}
use Rattle.plan_rows.proofs.Telling.{told-cell}
use Rattle.plan_rows.proofs.known.told_by_row.Goals as goal

pub returns-then-other-column : goal.returns-then-other-column
returns-then-other-column c =
    let q = c.args.setting.now.bound.now.query.now in
    let other = c.args.other in
    let column = c.args.column in
    let e : column.atom ≡ other = sym c.if-other-column.true in
    told-cell (λ value. (y : List Cell) → ColumnAgrees q y column c.args.row.now other (atom_at q other).width → get_or y column.col nothing ≡ value) c.args.row.now column.col c.cell.result c.cell.ensures
    (λ v is y agree. agree column.col (subst (λ F. column.col < (atom_at q F).width) e c.requires.1) (subst (λ F. AreLinked q column (record { atom = F; col = column.col })) e (linked-self q column)) ∙ is)

pub returns-then-joined-class : goal.returns-then-joined-class
returns-then-joined-class c =
    let setting = c.args.setting.now in
    let q = setting.bound.now.query.now in
    let v = setting.bound.now.variables in
    let other = c.args.other in
    let column = c.args.column in
    let items = c.of_atom-joined-items.result.now in
    let at = c.loop-joined.joined-index in
    let joined : JoinedColumn = get_or items at (record { col = 0; class = 0 }) in
    let found = setting.found other in
    let here = subst (λ js. Contains js joined) c.of_atom-joined-items.ensures (Contains-get_or items at (record { col = 0; class = 0 }) c.loop-joined-test.true) in
    let own : ColRef = record { atom = other; col = joined.col } in
    let linked = class-linked q v (untold q v setting.bound.now.named) column own c.requires (in-range q other joined.col (found.within joined here)) (sym c.class_of-class.ensures.is ∙ sym c.if-joined-class.true ∙ found.named joined here) in
    told-cell (λ value. (y : List Cell) → ColumnAgrees q y column c.args.row.now other (atom_at q other).width → get_or y column.col nothing ≡ value) c.args.row.now joined.col c.cell-then-joined-class.result c.cell-then-joined-class.ensures
    (λ v is y agree. agree joined.col (found.within joined here) linked ∙ is)
