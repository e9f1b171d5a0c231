-- The machine over lines: what is asked for and what is refused, line by line.
use Rattle.std.specs.Prelude.{ℕ, ◌+◌, cond, nat_lt, List, [], ◌∷◌, ◌++◌, length, Result, Ok, Err, ℤ}
use Rattle.std.specs.List.{sum_by}
use Rattle.block_choices.specs.declared.row.BlockRow.{BlockRow}
use Rattle.choice_values.specs.Values.{Weighted}
use Rattle.group_text.specs.declared.fault.Fault.{Fault}
use Rattle.group_text.specs.declared.fault.Fault.TheVariants.{ManyLists, NoGroup, Unfinished}
use Rattle.block_lists.specs.declared.limits.TheConstants.{MOST_GROUP_LISTS}
use Rattle.group_text.specs.declared.wanted.Wanted.{Wanted}
use Rattle.group_text.specs.Names.{rows_after}
use Rattle.group_text.specs.Sizes.{going_on}
use Rattle.group_text.specs.Weights.{before_weight, from_weight, names_in, weighs, weight_of}
use Rattle.group_text.specs.Saying.{Said, said}
use Rattle.group_text.specs.Saying.Said.{Skipped, Begins, Lists, Ends, Faulty}

-- a group: the sizes of its blocks, and its lists with their weights
pub record Draft : Type 0 where
  pub sizes : List ℕ
  pub lists : List Weighted

-- outside, within a group, or passing over the rest of one that was refused
pub data Underway : Type 0 where
  Outside : Underway
  Within : Draft → Underway
  Passing : Underway

-- a group is to be judged, or a fault is refused; with the number of the line
pub data Event : Type 0 where
  Judge : ℕ → Draft → Event
  Refuse : ℕ → Fault → Event

-- how many rows are named in the lists, as often as they are named
abbrev pub named : Draft → ℕ
named d = sum_by length (names_in d.lists)

-- the list that the tokens of its rows and those of its weight tell, where so many rows are named before, or the first fault
abbrev pub told_list : List ℕ → ℕ → List (List ℕ) → List (List ℕ) → Result Weighted Fault
told_list sizes before rows weight = going_on (rows_after sizes before [] rows) (λ (names : List BlockRow). going_on (weight_of weight) (λ (w : ℤ). Ok (record { weight = w; names = names })))

-- the list that tokens tell in a group, or the first fault
abbrev pub list_of : Wanted → Draft → List (List ℕ) → Result Weighted Fault
list_of wanted d ts = cond (nat_lt (length d.lists) MOST_GROUP_LISTS) (told_list d.sizes (named d) (before_weight (weighs wanted) ts) (from_weight (weighs wanted) ts)) (Err ManyLists)

-- ---- where a line leads

abbrev pub begun : Result (List ℕ) Fault → Underway
begun (Ok sizes) = Within (record { sizes = sizes; lists = [] })
begun (Err fault) = Passing

abbrev pub with_list : Draft → Result Weighted Fault → Underway
with_list d (Ok list) = Within (record { sizes = d.sizes; lists = d.lists ++ list ∷ [] })
with_list d (Err fault) = Passing

abbrev pub listed : Wanted → Underway → List (List ℕ) → Underway
listed wanted Outside ts = Passing
listed wanted (Within d) ts = with_list d (list_of wanted d ts)
listed wanted Passing ts = Passing

abbrev pub ended : Underway → Underway
ended Outside = Passing
ended (Within d) = Outside
ended Passing = Outside

abbrev pub next : Wanted → Underway → Said → Underway
next wanted u Skipped = u
next wanted u (Begins sizes) = begun sizes
next wanted u (Lists ts) = listed wanted u ts
next wanted u Ends = ended u
next wanted u (Faulty fault) = Passing

-- ---- what a line asks for

-- a group that isn't ended
abbrev pub left_open : ℕ → Underway → List Event
left_open n Outside = []
left_open n (Within d) = Refuse n Unfinished ∷ []
left_open n Passing = []

abbrev pub fault_in : {A : Type 0} → ℕ → Result A Fault → List Event
fault_in n (Ok a) = []
fault_in n (Err fault) = Refuse n fault ∷ []

abbrev pub at_list : Wanted → ℕ → Underway → List (List ℕ) → List Event
at_list wanted n Outside ts = Refuse n NoGroup ∷ []
at_list wanted n (Within d) ts = fault_in n (list_of wanted d ts)
at_list wanted n Passing ts = []

abbrev pub at_end : ℕ → Underway → List Event
at_end n Outside = Refuse n NoGroup ∷ []
at_end n (Within d) = Judge n d ∷ []
at_end n Passing = []

abbrev pub at_fault : ℕ → Underway → Fault → List Event
at_fault n Outside fault = Refuse n fault ∷ []
at_fault n (Within d) fault = Refuse n fault ∷ []
at_fault n Passing fault = []

abbrev pub asked : Wanted → ℕ → Underway → Said → List Event
asked wanted n u Skipped = []
asked wanted n u (Begins sizes) = left_open n u ++ fault_in n sizes
asked wanted n u (Lists ts) = at_list wanted n u ts
asked wanted n u Ends = at_end n u
asked wanted n u (Faulty fault) = at_fault n u fault

-- ---- over lines, the first of which has the number n

abbrev pub after : Wanted → Underway → List (List ℕ) → Underway
after wanted u [] = u
after wanted u (l ∷ ls) = after wanted (next wanted u (said l)) ls

abbrev pub events : Wanted → ℕ → Underway → List (List ℕ) → List Event
events wanted n u [] = []
events wanted n u (l ∷ ls) = asked wanted n u (said l) ++ events wanted (n + 1) (next wanted u (said l)) ls
