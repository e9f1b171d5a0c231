use Rattle.std.proofs.Common.{◌≡◌, ℕ, ◌<◌, Option, Some, None, IfSome, List, length, get_or}
use Rattle.std.specs.Borrow.{Bor}
use Rattle.cqa_model.specs.declared.query.Query.{Query}
use Rattle.cqa_model.specs.Database.{Table, stored}
use Rattle.cqa_model.specs.Query.{rows_of}
use Rattle.join_access.specs.Chains.{Indexed}
use Rattle.join_access.specs.Spots.{ArePaths}
use Rattle.plan_rows.proofs.setting.Setting.index_of.Goals as goal

found : (q : Query) (db : List Table) (paths : List (Option Indexed)) (atom : ℕ) (r : Option (Bor Indexed)) → ArePaths q db paths → IfSome r (λ x. (atom < length paths) × (get_or paths atom None ≡ Some x.now)) →
    IfSome r (λ x. x.now.rows ≡ rows_of q (stored db) atom)
found q db paths atom None are e = tt
found q db paths atom (Some x) are e = are atom x.now e.0 e.1

pub returns : goal.returns
returns c =
    let setting = c.args.self.now in
    found setting.bound.now.query.now setting.bound.now.db.now setting.paths.now c.args.atom c.path_of.result setting.indexed c.path_of.ensures
