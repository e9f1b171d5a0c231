-- What two parts of a union share.
use Rattle.std.proofs.Common.{◌<◌, List, length, Contains, subst}
use Rattle.cqa_model.specs.declared.query.Query.{Query}
use Rattle.cqa_model.specs.Database.{Table}
use Rattle.cqa_model.specs.Unions.{AreParts}
use Rattle.spj_syntax.specs.declared.tree.Select.{Select}
use Rattle.query_strategy.specs.declared.shared.Shared.{Shared}
use Rattle.query_strategy.specs.Apart.{IsFirstShared}
use Rattle.reply_text.specs.declared.reply.Reply.{Reply}
use Rattle.reply_text.specs.declared.reply.Reply.TheVariants as replies
use Rattle.query_replies.specs.Parts.{HasPlan, TellsShared, TellsSqlOfParts}

-- the table is one of the database
pub table_there : (db : List Table) (parts : List Query) (s : Shared) → AreParts parts db → IsFirstShared parts s → s.table < length db
table_there db parts s are is = let f = is.of_first.shared.first in subst (λ t. t < length db) f.2.1 ((are.fits f.0 (s.first, f.1.0, f.1.1)).there s.atom f.2.0)

-- where each part has a plan, what two parts share is what is told
pub shared_told : (db : List Table) (selects : List Select) (parts : List Query) → ((q : Query) → Contains parts q → HasPlan q) → (reply : Reply) → TellsShared db parts reply → TellsSqlOfParts db selects parts reply
shared_told db selects parts planned (replies.Shares first second table) told = (planned, told)
shared_told db selects parts planned _ told = absurd told
