-- Parts of a union have one proof at most that they are, so that a type may keep it.
use Rattle.std.specs.Prelude.{List}
use Rattle.std.proofs.Props.{props}
use Rattle.cqa_model.specs.declared.query.Query.{Query}
use Rattle.cqa_model.specs.Database.{Table}
use Rattle.cqa_model.specs.Unions.{AreParts}
use Rattle.table_blocks.specs.Once.{fits_once}

pub parts_once : (parts : List Query) (db : List Table) → IsProp (AreParts parts db)
parts_once parts db = hlevel (fits_once, props)
