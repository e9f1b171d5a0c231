-- Writing all bytes, from the start to a call and on.
use Rattle.std.proofs.Common.{ℕ, ◌+◌, ◌-◌, ◌<◌, ◌≤◌, List, length, take, drop, Result, Ok, Err, IsErr, subst, sym, arith, length-drop}
use Rattle.std.proofs.lemmas.List.{drop-drop, drop_all, take_rest}
use Rattle.cqa_io.specs.declared.streams.Failed.{Failed}
use Rattle.cqa_io.specs.Writes.{WritesRest, all, fault, more}

-- whatever comes of the rest from here comes of all from the start
pub record Continues {Sink : Type 0} (wrote : Sink → List ℕ → Result ℕ Failed → Sink → Type 0) (start : Sink) (bytes : List ℕ) (here : Sink) (rest : List ℕ) : Type 0 where
  pub on : (result : Result (Unit {0}) Failed) (new : Sink) → WritesRest wrote here rest result new → WritesRest wrote start bytes result new

-- one more call took some bytes
pub goes_on : {Sink : Type 0} (wrote : Sink → List ℕ → Result ℕ Failed → Sink → Type 0) (start : Sink) (bytes : List ℕ) (here mid : Sink) (done count : ℕ) → done < length bytes
    → Continues wrote start bytes here (drop done bytes) → wrote here (take (length bytes - done) (drop done bytes)) (Ok count) mid → Continues wrote start bytes mid (drop (done + count) bytes)
goes_on wrote start bytes here mid done count left so_far call = record {
  on = λ result new w. so_far.on result new (more (omega (arith, length-drop done bytes)) (subst (λ (rest : List ℕ). wrote here rest (Ok count) mid) (take_rest bytes done) call) (subst (λ (rest : List ℕ). WritesRest wrote mid rest result new) (sym (drop-drop count done bytes)) w));
}

pub stops : {Sink : Type 0} (wrote : Sink → List ℕ → Result ℕ Failed → Sink → Type 0) (start : Sink) (bytes : List ℕ) (here new : Sink) (done : ℕ) (failed : Failed) (result : Result (Unit {0}) Failed) → done < length bytes
    → Continues wrote start bytes here (drop done bytes) → wrote here (take (length bytes - done) (drop done bytes)) (Err failed) new → IsErr result → WritesRest wrote start bytes result new
stops wrote start bytes here new done failed (Ok x) left so_far call is = absurd (cc)
stops wrote start bytes here new done failed (Err e) left so_far call is = so_far.on (Err e) new (fault (omega (arith, length-drop done bytes)) (subst (λ (rest : List ℕ). wrote here rest (Err failed) new) (take_rest bytes done) call))

pub ends : {Sink : Type 0} (wrote : Sink → List ℕ → Result ℕ Failed → Sink → Type 0) (start : Sink) (bytes : List ℕ) (here : Sink) (done : ℕ)
    → Continues wrote start bytes here (drop done bytes) → length bytes ≤ done → WritesRest wrote start bytes (Ok tt) here
ends wrote start bytes here done so_far past = so_far.on (Ok tt) here (subst (λ (rest : List ℕ). WritesRest wrote here rest (Ok tt) here) (sym (drop_all done bytes past)) all)
