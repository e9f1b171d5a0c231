-- `deallocate` is never called, since no block was handed out. Assumes `Logic`.
use Rattle.std.proofs.Common.{◌≡◌, [], ◌∷◌, refl}
use mir.Syntax.{Ty}
use base.Fml.{ffalse}
use base.Logic.{never_e}
use prog.Memory.{size, align, capped}
use contract.Monad.{fact}
use types.Kit.{‵, raw, ◌⊛◌, ◌$◌, ◌∵◌, !, qed, by, move, keep, split3}
use denote.RattleType.{owns}
use denote.RawPtr.{room_for, RawPtr}
use denote.Exit.{yes}
use denote.Builtin.{usize, RefOf}
use denote.Signature.{Slot, plain, types_at}
use denote.Steps.{heard}
use denote.Triple.Entry.{alive}
use denote.Triple.Walked.{Stays, stay_dropped, Goes-dropped}
use Rattle.std.proofs.raw_atomic.Walks.{proved_at}
use Rattle.row_order.specs.contracts.null_allocator.NullAllocator.{the_row}
use Rattle.row_order.specs.contracts.null_allocator.NullAllocatorAllocator.deallocate.{ended, clauses}
use Rattle.row_order.specs.contracts.null_allocator.NullAllocatorAllocator.deallocate.Key.{name as #self}
use Rattle.row_order.proofs.null_allocator.NullAllocatorAllocator.deallocate.Statement.{statement}
use Rattle.row_order.proofs.null_allocator.NullAllocatorAllocator.deallocate.Code as compiled

abbrev self : Slot 1
self = RefOf (0 ∷ []) tt (plain (λ _. the_row)) (λ _. tt)

abbrev pointer : Slot 1
pointer = plain (λ _. RawPtr)

abbrev number : Slot 1
number = plain (λ _. usize)

abbrev stayed : Stays ended.signature.params ended.kept
stayed = (stay_dropped self yes, (stay_dropped pointer yes, (stay_dropped number yes, (stay_dropped number yes, tt))))

pub deallocate_spec : {M : Type 1} → statement M
deallocate_spec 𝓤 𝓛 𝓜 𝓡 wired =
    proved_at 𝓛 ended stayed (clauses 𝓛 𝓜.mem 𝓡.returns) 𝓜 𝓡
    (Goes-dropped 𝓛 1 self yes (λ κs x f. refl), (Goes-dropped 𝓛 1 pointer yes (λ κs x f. refl), (Goes-dropped 𝓛 1 number yes (λ κs x f. refl), (Goes-dropped 𝓛 1 number yes (λ κs x f. refl), tt))))
    #self compiled.function (compiled.unfolded 𝓤 𝓛.H 𝓜 𝓡 wired) (λ z are.
    let a = z.0.3 in
    let τ : Ty = z.1 in
    qed 𝓛 ((raw (alive 𝓛 ended.signature z.0.0 z.0.1) ⊛ ‵ (owns (types_at ended.signature.params z.0.0) a z.0.4)) ∷ (raw (fact 𝓤 ((capped (size τ) ≡ a.1.1.0) × (capped (align τ) ≡ a.1.1.1.0))) ⊛ ‵ (room_for τ a.1.0) ⊛ ‵ ffalse) ∷ []) ∵
    move ! (1 ∷ []) $ split3 ! $ heard ! _ (λ _. move ! (1 ∷ []) $ keep ! (0 ∷ []) $ by ! (never_e 𝓤 _)))
