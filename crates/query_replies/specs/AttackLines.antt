-- The lines of attacks that `classify` answers (Koutris and Wijsen, ACM TODS 2017).
use Rattle.std.specs.Prelude.{◌≡◌, ℕ, ◌<◌, ◌⊎◌, ◌↔◌, IsTrue, AllPairs, List, [], Contains, slice_index_or}
use Rattle.std.specs.List.{AllZip}
use Rattle.cqa_model.specs.declared.query.Query.{Query}
use Rattle.cqa_model.specs.Variables.{whole}
use Rattle.cqa_model.specs.Graph.{Attacks, IsWeak}
use Rattle.reply_text.specs.declared.reply.AttackLine.{AttackLine}

-- an attack of one of a query's atoms on another
pub record Attack : Type 0 where
  pub from : ℕ
  pub to : ℕ

-- by the attacker, and then by the attacked
abbrev pub IsEarlierAttack : Attack → Attack → Type 0
IsEarlierAttack a b = (a.from < b.from) ⊎ ((a.from ≡ b.from) × (a.to < b.to))

-- the attacks of the whole query, each once, in this order
pub record AreAttacksOf (q : Query) (attacks : List Attack) : Type 0 where
  pub in_order : AllPairs IsEarlierAttack attacks
  pub exactly : (a : Attack) → Contains attacks a ↔ Attacks q (whole q) a.from a.to

-- the line of an attack: the names of its two tables, and whether it is among the weak ones
pub record IsLineOf (Weak : ℕ → ℕ → Type 0) (names : List (List ℕ)) (a : Attack) (line : AttackLine) : Type 0 where
  pub from : line.from ≡ slice_index_or names a.from []
  pub to : line.to ≡ slice_index_or names a.to []
  pub weak : IsTrue line.weak ↔ Weak a.from a.to

-- a line for each attack of the query, in order
abbrev pub AreAttackLines : Query → List (List ℕ) → List AttackLine → Type 0
AreAttackLines q names lines = (attacks : List Attack) × AreAttacksOf q attacks × AllZip (IsLineOf (IsWeak q (whole q)) names) attacks lines
