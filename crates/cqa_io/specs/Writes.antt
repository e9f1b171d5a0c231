-- What writing all bytes asks of a sink, call by call.
use Rattle.std.specs.Prelude.{ℕ, ◌<◌, List, [], length, drop, Result, Ok, Err}
use Rattle.cqa_io.specs.declared.streams.Failed.{Failed}

-- Each call is given all bytes that aren't written yet, until none are left or one fails.
pub data WritesRest {Sink : Type 0} (wrote : Sink → List ℕ → Result ℕ Failed → Sink → Type 0) : Sink → List ℕ → Result (Unit {0}) Failed → Sink → Type 0 where
  all : {sink : Sink} → WritesRest wrote sink [] (Ok tt) sink
  more : {old mid new : Sink} {bytes : List ℕ} {count : ℕ} {result : Result (Unit {0}) Failed} → 0 < length bytes → wrote old bytes (Ok count) mid → WritesRest wrote mid (drop count bytes) result new → WritesRest wrote old bytes result new
  fault : {old new : Sink} {bytes : List ℕ} {failed : Failed} → 0 < length bytes → wrote old bytes (Err failed) new → WritesRest wrote old bytes (Err failed) new
