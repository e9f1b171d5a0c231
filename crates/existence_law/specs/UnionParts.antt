-- Whether the parts of a union share a table that isn't strict.
use Rattle.std.specs.Prelude.{◌⊎◌, List}
use Rattle.cqa_model.specs.declared.query.Query.{Query}
use Rattle.query_strategy.specs.declared.shared.Shared.{Shared}
use Rattle.query_strategy.specs.Apart.{AreApart, IsFirstShared}

-- They are apart, or there is a first table that two of them share.
abbrev pub PartsAreDecided : Type 0
PartsAreDecided = (parts : List Query) → AreApart parts ⊎ ((s : Shared) × IsFirstShared parts s)
