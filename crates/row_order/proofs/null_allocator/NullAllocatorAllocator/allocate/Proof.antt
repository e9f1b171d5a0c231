-- `allocate` hands out no block. Assumes `Logic`.
use Rattle.std.proofs.Common.{◌≡◌, false, List, [], ◌∷◌, ◌++◌, refl, lit<, w64, Err}
use mir.Syntax.{Ty, Fn}
use mir.Val.{Val, vint, vptr}
use base.Logic.{SProp}
use prog.Memory.{size, align, capped}
use prog.Wp.{WpFn}
use contract.Monad.{fact}
use contract.Running.{tables}
use types.Kit.{‵, raw, ◌⊛◌, prop, ◌$◌, ◌∵◌, !, qed, by, move, drop, use0, split, regoal, fjoin}
use types.Part.{agg}
use types.Run.{lit, no_more, and_then, returns, enter}
use types.ByLocal.{alloc_all, pass_all, free_all, look_at, get, sets}
use denote.RattleType.{owns}
use denote.Exit.{yes}
use denote.Builtin.{usize, RefOf}
use denote.Signature.{Slot, plain, types_at}
use denote.Steps.{nothing, heard}
use denote.Triple.Entry.{alive}
use denote.Triple.Walked.{Stays, stay_dropped, walk_of, Goes-dropped}
use Rattle.std.proofs.alloc.Calls.{Answer, answer_val, Answer-err}
use Rattle.std.proofs.raw_atomic.Walks.{proved_at, leaves}
use Rattle.row_order.specs.contracts.null_allocator.NullAllocator.{the_row}
use Rattle.row_order.specs.contracts.null_allocator.NullAllocatorAllocator.allocate.{ended, clauses}
use Rattle.row_order.specs.contracts.null_allocator.NullAllocatorAllocator.allocate.Key.{name as #self}
use Rattle.row_order.proofs.null_allocator.NullAllocatorAllocator.allocate.Statement.{statement}
use Rattle.row_order.proofs.null_allocator.NullAllocatorAllocator.allocate.Code as compiled

abbrev self : Slot 1
self = RefOf (0 ∷ []) tt (plain (λ _. the_row)) (λ _. tt)

abbrev number : Slot 1
number = plain (λ _. usize)

abbrev stayed : Stays ended.signature.params ended.kept
stayed = (stay_dropped self yes, (stay_dropped number yes, (stay_dropped number yes, tt)))

pub allocate_spec : {M : Type 1} → statement M
allocate_spec 𝓤 𝓛 𝓜 𝓡 wired =
    let c = clauses 𝓛 𝓜.mem 𝓡.returns in
    let fn : Fn = compiled.function in
    let C = (tables 𝓤 𝓛.H 𝓜 𝓡 𝓡.env).C in
    let Λ = (tables 𝓤 𝓛.H 𝓜 𝓡 𝓡.env).Λ in
    proved_at 𝓛 ended stayed c 𝓜 𝓡 (Goes-dropped 𝓛 1 self yes (λ κs x f. refl), (Goes-dropped 𝓛 1 number yes (λ κs x f. refl), (Goes-dropped 𝓛 1 number yes (λ κs x f. refl), tt)))
    #self fn (compiled.unfolded 𝓤 𝓛.H 𝓜 𝓡 wired) (λ z are.
    let Post : Val → SProp 𝓤 = (walk_of 𝓛 ended stayed c).post z in
    let a = z.0.3 in
    let τ : Ty = z.1 in
    let vs : List Val = vptr a.0.ref_ptr.0 a.0.ref_ptr.1 ∷ vint w64 a.1.0 ∷ vint w64 a.1.1.0 ∷ [] in
    qed 𝓛 ((raw (alive 𝓛 ended.signature z.0.0 z.0.1) ⊛ ‵ (owns (types_at ended.signature.params z.0.0) a z.0.4)) ∷ raw (fact 𝓤 ((capped (size τ) ≡ a.1.0) × (capped (align τ) ≡ a.1.1.0))) ∷ []) ∵
    move ! (1 ∷ []) $ heard ! _ (λ _. split ! $ move ! (1 ∷ []) $ drop ! $
    regoal ! (λ (us : List Val). prop (WpFn 𝓤 𝓛.H C Λ fn us Post)) (λ i. are.0.0 i ++ (are.1.0.0 i ++ (are.1.1.0.0 i ++ []))) refl $
    enter ! C Λ fn vs Post $
    alloc_all ! (λ l. pass_all ! refl ((tt, tt), ((tt, record { fits = are.1.0.1 }), ((tt, record { fits = are.1.1.0.1 }), tt))) $
    sets ! (agg ! (no_more !)) refl (tt, tt) $
    sets ! (agg ! (and_then ! (lit ! tt) (and_then ! (get ! refl) (no_more !)))) refl (tt, (record { fits = lit< tt }, (tt, tt))) $
    returns ! (look_at ! 0 refl) $ free_all ! refl $
    nothing ! $ use0 𝓛 (‵ (Answer.own_val (Err (record {})) (answer_val false 0 0 ∷ []))) (Answer-err 𝓛) $ nothing ! $ nothing ! $ fjoin ! $ nothing ! $ fjoin ! $ nothing ! $ fjoin ! $ move ! (3 ∷ 0 ∷ 1 ∷ 2 ∷ []) $
    by ! (leaves 𝓛 ended stayed c z (answer_val false 0 0) (Err (record {})) (tt, (tt, (tt, tt))) (tt, (tt, (tt, tt)))))))
