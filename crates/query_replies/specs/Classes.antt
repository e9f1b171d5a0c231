-- What `classify` tells of a query and of the parts of a union.
use Rattle.std.specs.Prelude.{◌≡◌, ℕ, List, Option, Some, None}
use Rattle.std.specs.List.{AllZip}
use Rattle.cqa_model.specs.declared.query.Query.{Query}
use Rattle.cqa_model.specs.Database.{Table}
use Rattle.cqa_model.specs.Variables.{whole}
use Rattle.query_class.specs.Cycles.{IsClass}
use Rattle.spj_syntax.specs.declared.tree.Select.{Select}
use Rattle.query_resolve.specs.Resolved.{IsQueryOf}
use Rattle.query_strategy.specs.declared.shared.Shared.{Shared}
use Rattle.query_strategy.specs.Apart.{AreApart, IsFirstShared}
use Rattle.reply_text.specs.declared.reply.PartClass.{PartClass}
use Rattle.reply_text.specs.declared.reply.Reply.{Reply}
use Rattle.reply_text.specs.declared.reply.Reply.TheVariants.{ClassifiedParts}
use Rattle.query_replies.specs.AttackLines.{AreAttackLines}
use Rattle.query_replies.specs.Names.{table_name_at}

-- the class of the whole query, with a line for each attack
pub record IsClassWith (q : Query) (names : List (List ℕ)) (part : PartClass) : Type 0 where
  pub classed : IsClass q (whole q) part.class
  pub attacks : AreAttackLines q names part.lines

-- the same of the query that is written
pub record IsPartClassOf (db : List Table) (select : Select) (part : PartClass) : Type 0 where
  pub query : Query
  pub resolved : IsQueryOf db select query
  pub told : IsClassWith query select.tables part

-- one for each part
abbrev pub AreClassesOf : List Table → List Select → List PartClass → Type 0
AreClassesOf db selects classes = AllZip (IsPartClassOf db) selects classes

-- the name of the first table that isn't strict and stands in two parts, or none where the parts are apart
abbrev pub IsSharedName : List Table → List Query → Option (List ℕ) → Type 0
IsSharedName db parts None = AreApart parts
IsSharedName db parts (Some name) = (s : Shared) × IsFirstShared parts s × (name ≡ table_name_at db s.table)

-- the class of each part, and whether the parts are apart
abbrev pub TellsClasses : List Table → List Select → List Query → Reply → Type 0
TellsClasses db selects parts (ClassifiedParts classes shared) = AreClassesOf db selects classes × IsSharedName db parts shared
TellsClasses db selects parts _ = ⊥
