-- The state of the machine.
use Rattle.std.specs.Prelude.{◌≡◌, ◌≤◌, ℕ, List, [], Option, None}
use Rattle.cqa_model.specs.Database.{Table, IsDatabase}
use Rattle.cqa_model.specs.Valid.{AreValid}
use Rattle.reply_text.specs.declared.reply.Proof.{Proof}

-- the tables in order of creation, how many conflicts a search may take, and the log that was kept last with its formula, where one was
pub record State : Type 0 where
  pub tables : List Table
  pub budget : ℕ
  pub last_log : Option Proof

-- Which states there can be: the tables are a database of valid names and values, and the budget has 32 bits.
pub record IsState (s : State) : Type 0 where
  pub database : IsDatabase s.tables
  pub valid : AreValid s.tables
  pub budget : s.budget ≤ 4_294_967_295

-- no tables and no log
abbrev pub opening_with : ℕ → State
opening_with budget = record { tables = []; budget = budget; last_log = None }

-- the state in which a run begins
abbrev pub opening : State
opening = opening_with 200_000

-- nothing has changed but the tables
abbrev pub ChangesOnlyTables : State → State → Type 0
ChangesOnlyTables old new = new ≡ record old { tables = new.tables }
