-- The laws of lists of rows of blocks, over the definitions alone.
use Rattle.std.specs.Prelude.{ℕ, ◌⊎◌, ◌↔◌, ◌++◌, ◌∷◌, Bool, List, Contains}
use Rattle.cnf_form.specs.declared.formula.Cnf.{Cnf}
use Rattle.cnf_form.specs.Literals.{literals, SatisfiesAll}
use Rattle.cnf_form.specs.Writing.{IsWritable}
use Rattle.cdcl.specs.Outcomes.{IsModel}
use Rattle.block_choices.specs.declared.row.BlockRow.{BlockRow}
use Rattle.block_choices.specs.Choices.{AreThere, HoldsSome, IsAvoidedBy, IsForcedBy}
use Rattle.block_lists.specs.Groups.{IsGroup}
use Rattle.block_lists.specs.Formulas.{IsGroupFormula}
use Rattle.block_lists.specs.Picks.{first_trues}

-- Each choice holds some list whole exactly where no assignment satisfies the formula.
abbrev pub GroupDecides : Type 0
GroupDecides =
    (sizes : List ℕ) (lists : List (List BlockRow)) (cnf : Cnf) → AreThere sizes lists → IsGroupFormula sizes lists cnf → IsForcedBy sizes lists ↔ ((v : ℕ → Bool) → SatisfiesAll v (literals cnf.clauses) → ⊥)

-- The first true rows of a model of the formula are a choice that holds no list whole.
abbrev pub PicksAvoid : Type 0
PicksAvoid = (sizes : List ℕ) (lists : List (List BlockRow)) (cnf : Cnf) (values : List Bool) → IsGroupFormula sizes lists cnf → IsModel cnf values → IsAvoidedBy sizes lists (first_trues sizes values)

-- The formula of a group can be written: its numbers are in the ranges of the format.
abbrev pub GroupFormulaIsWritable : Type 0
GroupFormulaIsWritable = (sizes : List ℕ) (lists : List (List BlockRow)) (cnf : Cnf) → IsGroup sizes lists → IsGroupFormula sizes lists cnf → IsWritable cnf

-- Each choice holds some list whole, or some choice holds none.
abbrev pub EachGroupDecides : Type 0
EachGroupDecides = (sizes : List ℕ) (lists : List (List BlockRow)) → IsForcedBy sizes lists ⊎ ((c : List ℕ) × IsAvoidedBy sizes lists c)

-- A list that has all rows of another may be left out: each choice holds some list whole with it exactly where it does without.
abbrev pub WiderMayBeLeftOut : Type 0
WiderMayBeLeftOut =
    (before after : List (List BlockRow)) (wider names : List BlockRow) → Contains (before ++ after) names → ((x : BlockRow) → Contains names x → Contains wider x) →
    (c : List ℕ) → HoldsSome c (before ++ wider ∷ after) ↔ HoldsSome c (before ++ after)
