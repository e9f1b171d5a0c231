-- What a call of the program over devices in memory does.
use Rattle.std.specs.Prelude.{◌≡◌, ℕ, List, [], Option, Some, map, string_bytes, String}
use Rattle.std.specs.declared.alloc.Global.{Global}
use Rattle.cqa_io.specs.Memory.{SourceView, SinkView, faults_of}
use Rattle.session_state.specs.State.{State, opening}
use Rattle.command_shell.specs.declared.ending.Command.{Command}
use Rattle.command_shell.specs.declared.ending.Ending.{Ending}
use Rattle.command_shell.specs.Top.{code_of, IsAskedBy, Outside, Ended, told}
use Rattle.script_tests.specs.declared.running.Case.{Case}
use Rattle.script_tests.specs.declared.running.End.{End}

-- what a source and a sink in memory tell
abbrev pub outside : SourceView → SinkView → Outside
outside source sink = told (Some source.left) (Some sink.held) (faults_of source.calls) sink.faults

-- a call on these words that begins with no tables: its status, and what the devices tell before and after it
pub record IsCall (words : List (List ℕ)) (before : Outside) (status : ℕ) (after : Outside) : Type 0 where
  pub given : List (String Global)
  pub same : map string_bytes given ≡ words
  pub command : Option Command
  pub asked : IsAskedBy given command
  pub ending : Ending
  pub code : status ≡ code_of ending
  pub new : State
  pub ended : Ended command ending before after opening new

-- a call on a case's words and input ended so: before it nothing was written, and no fault counted
abbrev pub Ends : Case → End → Type 0
Ends case end = IsCall (map (λ word. word.now) case.words.now) (told (Some case.input.now) (Some []) 0 0) end.status (outside end.source end.sink)
