-- What may be replied, and its text.
use Rattle.std.specs.Prelude.{◌≡◌, ℕ, ◌+◌, Bool, true, false, List, [], ◌∷◌, ◌++◌, Option, Some, None, codes}
use Rattle.std.specs.Fmt.{decimal, signed_decimal}
use Rattle.std.specs.List.{AllZip, flat_map, list_any}
use Rattle.block_choices.specs.Choices.{IsAvoidedBy, IsForcedBy}
use Rattle.choice_values.specs.declared.best.Best.{Best}
use Rattle.choice_values.specs.Values.{IsGreatest, IsLeast}
use Rattle.block_lists.specs.Judging.{IsRefutedBy, IsSpentFor}
use Rattle.cnf_form.specs.declared.formula.Cnf.{Cnf}
use Rattle.cnf_form.specs.declared.log.Log.{Log}
use Rattle.cnf_form.specs.Writing.{proof_bytes}
use Rattle.lrat_check.specs.Writing.{log_bytes}
use Rattle.proof_check.specs.declared.reply.ProofReply.TheVariants.{Verified}
use Rattle.proof_check.specs.Verdicts.{Checks}
use Rattle.group_text.specs.declared.fault.Fault.{Fault}
use Rattle.group_text.specs.declared.fault.Fault.TheVariants.{LongLine, BadLine, NoGroup, Unfinished, BadSize, ManyRows, ManyLists, BadRow, ManyNames, UnknownRow, BadWeight, Spent, Overworked, Unverified}
use Rattle.group_text.specs.declared.wanted.Wanted.{Wanted}
use Rattle.group_text.specs.declared.wanted.Wanted.TheVariants.{Verdicts, Reasons, Ranges}
use Rattle.group_text.specs.Groups.{Draft, Event}
use Rattle.group_text.specs.Groups.Event.{Judge, Refuse}
use Rattle.group_text.specs.Weights.{names_in}

-- a formula, and a log that refutes it
pub record Proof : Type 0 where
  pub cnf : Cnf
  pub log : Log

-- each choice holds some list whole; these rows are a choice that holds none; a least and a greatest value, with a choice that has each; or a line is refused
pub data GroupReply : Type 0 where
  Certain : Option Proof → GroupReply
  Open : List ℕ → GroupReply
  Between : Best → Best → GroupReply
  Refused : ℕ → Fault → GroupReply

-- ---- the text

-- the name of a fault
abbrev pub fault_word : Fault → List ℕ
fault_word LongLine = codes "LongLine 16777216"
fault_word BadLine = codes "BadLine"
fault_word NoGroup = codes "NoGroup"
fault_word Unfinished = codes "Unfinished"
fault_word BadSize = codes "BadSize"
fault_word ManyRows = codes "Limit rows 1000000"
fault_word ManyLists = codes "Limit lists 1000000"
fault_word BadRow = codes "BadRow"
fault_word ManyNames = codes "Limit names 16000000"
fault_word UnknownRow = codes "UnknownRow"
fault_word BadWeight = codes "BadWeight"
fault_word (Spent n) = codes "Spent conflicts "
fault_word (Overworked n) = codes "Spent work "
fault_word Unverified = codes "Unverified"

-- the conflicts or the work of a spent search stand behind its name
abbrev pub fault_number : Fault → List ℕ
fault_number (Spent n) = decimal n
fault_number (Overworked n) = decimal n
fault_number LongLine = []
fault_number BadLine = []
fault_number NoGroup = []
fault_number Unfinished = []
fault_number BadSize = []
fault_number ManyRows = []
fault_number ManyLists = []
fault_number BadRow = []
fault_number ManyNames = []
fault_number UnknownRow = []
fault_number BadWeight = []
fault_number Unverified = []

abbrev pub fault_text : Fault → List ℕ
fault_text fault = fault_word fault ++ fault_number fault

-- a space (32), and the number of a row from 1
abbrev pub row_text : ℕ → List ℕ
row_text r = 32 ∷ decimal (r + 1)

-- the formula in DIMACS, the line `lrat`, the log in LRAT, and a last line
abbrev pub proof_text : Option Proof → List ℕ
proof_text None = []
proof_text (Some p) = proof_bytes p.cnf (log_bytes p.log.steps) ++ codes "c end\n"

-- a word, the value, and the rows of the choice that has it
abbrev pub end_text : List ℕ → Best → List ℕ
end_text word best = word ++ (signed_decimal best.value ++ flat_map row_text best.rows.items)

abbrev pub reply_text : GroupReply → List ℕ
reply_text (Certain proof) = codes "certain\n" ++ proof_text proof
reply_text (Open rows) = codes "open" ++ (flat_map row_text rows ++ codes "\n")
reply_text (Between least greatest) = end_text (codes "least ") least ++ (end_text (codes " greatest ") greatest ++ codes "\n")
reply_text (Refused n fault) = codes "refused line " ++ (decimal n ++ (codes " " ++ (fault_text fault ++ codes "\n")))

abbrev pub is_refused : GroupReply → Bool
is_refused (Certain proof) = false
is_refused (Open rows) = false
is_refused (Between least greatest) = false
is_refused (Refused n fault) = true

-- ---- what is right

-- The group's formula with a refutation of it; and what is written of them, from the word to the last line, is verified as it stands.
pub record IsProofOf (d : Draft) (budget : ℕ) (p : Proof) : Type 0 where
  pub refuted : IsRefutedBy d.sizes (names_in d.lists) budget p.cnf p.log
  pub verified : Checks (reply_text (Certain (Some p))) Verified

-- with reasons a proof is shown, and else none
abbrev pub HasReasons : Bool → ℕ → Draft → Option Proof → Type 0
HasReasons true budget d (Some p) = IsProofOf d budget p
HasReasons true budget d None = ⊥
HasReasons false budget d (Some p) = ⊥
HasReasons false budget d None = Unit {0}

-- a refutation of the group's formula that isn't verified as it is written
pub record IsUnverified (d : Draft) (budget : ℕ) : Type 0 where
  pub proof : Proof
  pub refuted : IsRefutedBy d.sizes (names_in d.lists) budget proof.cnf proof.log
  pub unverified : Checks (reply_text (Certain (Some proof))) Verified → ⊥

-- The group isn't decided: its formula has a spent log for the budget; or, where reasons are wanted, its refutation can't be shown.
abbrev pub IsUndecided : Bool → ℕ → Draft → Fault → Type 0
IsUndecided reasons budget d (Spent n) = (n ≡ budget) × IsSpentFor d.sizes (names_in d.lists) budget
IsUndecided reasons budget d Unverified = (reasons ≡ true) × IsUnverified d budget
IsUndecided reasons budget d LongLine = ⊥
IsUndecided reasons budget d BadLine = ⊥
IsUndecided reasons budget d NoGroup = ⊥
IsUndecided reasons budget d Unfinished = ⊥
IsUndecided reasons budget d BadSize = ⊥
IsUndecided reasons budget d ManyRows = ⊥
IsUndecided reasons budget d ManyLists = ⊥
IsUndecided reasons budget d BadRow = ⊥
IsUndecided reasons budget d ManyNames = ⊥
IsUndecided reasons budget d UnknownRow = ⊥
IsUndecided reasons budget d BadWeight = ⊥
IsUndecided reasons budget d (Overworked n) = ⊥

-- what may be said of a group whose last line has this number: with reasons or without, by searches of at most so many conflicts
abbrev pub IsVerdict : Bool → ℕ → ℕ → Draft → GroupReply → Type 0
IsVerdict reasons budget n d (Certain proof) = IsForcedBy d.sizes (names_in d.lists) × HasReasons reasons budget d proof
IsVerdict reasons budget n d (Open rows) = IsAvoidedBy d.sizes (names_in d.lists) rows
IsVerdict reasons budget n d (Between least greatest) = ⊥
IsVerdict reasons budget n d (Refused m fault) = (m ≡ n) × IsUndecided reasons budget d fault

-- the least and the greatest value of all choices, each with a choice that has it; or that so much work didn't do
abbrev pub IsRange : ℕ → ℕ → Draft → GroupReply → Type 0
IsRange budget n d (Certain proof) = ⊥
IsRange budget n d (Open rows) = ⊥
IsRange budget n d (Between least greatest) = IsLeast d.sizes d.lists least × IsGreatest d.sizes d.lists greatest
IsRange budget n d (Refused m fault) = (m ≡ n) × (fault ≡ Overworked budget)

abbrev pub MaySay : Wanted → ℕ → ℕ → Draft → GroupReply → Type 0
MaySay Verdicts budget n d reply = IsVerdict false budget n d reply
MaySay Reasons budget n d reply = IsVerdict true budget n d reply
MaySay Ranges budget n d reply = IsRange budget n d reply

-- what may be replied, by a budget for each search
abbrev pub MayReply : Wanted → ℕ → Event → GroupReply → Type 0
MayReply wanted budget (Refuse n fault) reply = reply ≡ Refused n fault
MayReply wanted budget (Judge n d) reply = MaySay wanted budget n d reply

-- Replies to events are the text, one for each in their order; and whether one of them is a refusal.
pub record Replies (wanted : Wanted) (budget : ℕ) (events : List Event) (text : List ℕ) (refused : Bool) : Type 0 where
  pub replies : List GroupReply
  pub each : AllZip (MayReply wanted budget) events replies
  pub text_is : text ≡ flat_map reply_text replies
  pub refused_is : refused ≡ list_any is_refused replies

-- The same, where the text is appended.
pub record Appends (wanted : Wanted) (budget : ℕ) (events : List Event) (refused : Bool) (old new : List ℕ) : Type 0 where
  pub text : List ℕ
  pub new_is : new ≡ old ++ text
  pub replied : Replies wanted budget events text refused

-- A proof is appended where it is verified as it is written, and else the refusal of a line.
abbrev pub IsShown : ℕ → Proof → Bool → List ℕ → List ℕ → Type 0
IsShown line p false old new = (new ≡ old ++ reply_text (Certain (Some p))) × Checks (reply_text (Certain (Some p))) Verified
IsShown line p true old new = (new ≡ old ++ reply_text (Refused line Unverified)) × (Checks (reply_text (Certain (Some p))) Verified → ⊥)
