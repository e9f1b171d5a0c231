use Rattle.std.proofs.Common.{◌≡◌, ◌++◌, ◌+◌, drop}
use Rattle.sql_steps.specs.Steps.{children_of, known_of}
use Rattle.sql_steps.proofs.children.Joined.add_all.Given as goal

-- what is left to be added
abbrev pub invariant-loop-before : goal.invariant-loop-before
invariant-loop-before l = record {
  children : l.self.children ++ children_of (l.place + l.before) (drop l.before l.parts) l.self.known ≡ l.fn.self.children ++ children_of l.place l.parts l.fn.self.known;
  known : known_of (l.place + l.before) (drop l.before l.parts) l.self.known ≡ known_of l.place l.parts l.fn.self.known;
}
