use Rattle.std.proofs.Common.{take}
use Rattle.search_trail.specs.Analysis.{AllSeen}
use Rattle.search_trail.specs.Walks.{AreMoreMarks}
use Rattle.search_trail.proofs.implications.Implications.mark_all.Given as goal

abbrev pub invariant-loop-lit : goal.invariant-loop-lit
invariant-loop-lit l = record {
  more : AreMoreMarks l.self l.initial.marks l.marks;
  all : AllSeen l.marks.seen.items (take l.lit-index l.clause);
}
