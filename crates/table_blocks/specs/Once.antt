-- Facts that have one proof at most, so that a type may keep them.
use Rattle.std.proofs.Common.{◌≡◌, List, refl}
use Rattle.std.proofs.Props.{props}
use mathlib.Core.HLevel.{hedberg}
use Rattle.cqa_value.specs.declared.value.Kind.{Kind}
use Rattle.cqa_value.specs.declared.value.Kind.TheVariants.{Int, Text}
use Rattle.cqa_value.specs.declared.value.Value.{Value}
use Rattle.cqa_value.specs.Values.{kind_of}
use Rattle.cqa_model.specs.declared.query.Cond.{Cond}
use Rattle.cqa_model.specs.declared.query.Cond.TheVariants.{Join, Test}
use Rattle.cqa_model.specs.declared.query.Query.{Query}
use Rattle.cqa_model.specs.Database.{Table, IsDatabase}
use Rattle.cqa_model.specs.Query.{kind_at, KindsAgree, FitsDatabase}
use Rattle.cqa_model.proofs.Values.{value_discrete}

kind_discrete : (x y : Kind) → Dec (x ≡ y)
kind_discrete Int Int = yes refl
kind_discrete Int Text = no (λ e. cc e)
kind_discrete Text Int = no (λ e. cc e)
kind_discrete Text Text = yes refl

-- two values are equal in one way at most
pub value_set : IsSet Value
value_set = hedberg value_discrete

kinds_once : (q : Query) (db : List Table) (k : Cond) → IsProp (KindsAgree q db k)
kinds_once q db (Join c d) = hedberg kind_discrete (kind_at q db c) (kind_at q db d)
kinds_once q db (Test c op x) = hedberg kind_discrete (kind_at q db c) (kind_of x)

-- a query fits a database in one way at most
pub fits_once : (q : Query) (db : List Table) → IsProp (FitsDatabase q db)
fits_once q db = hlevel (kinds_once q db, value_set, props)

kind_set : IsSet Kind
kind_set = hedberg kind_discrete

-- tables are a database in one way at most
pub database_once : (db : List Table) → IsProp (IsDatabase db)
database_once db = hlevel (value_set, kind_set, props)
