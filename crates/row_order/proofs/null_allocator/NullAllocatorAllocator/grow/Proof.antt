-- `grow` is never called, since no block was handed out. Assumes `Logic`.
use Rattle.std.proofs.Common.{◌≤◌, ℕ, [], ◌∷◌, refl}
use mir.Syntax.{Args, a_type}
use mir.MapTy.{inst_fn}
use base.Logic.{never_e}
use contract.Monad.{fact}
use contract.BorrowLft.{◌⊑◌}
use types.Kit.{‵, raw, ◌⊛◌, ◌$◌, ◌∵◌, !, qed, by, move, keep, split3, fsplit3}
use denote.Param.{layouts, param}
use denote.RattleType.{RattleType, owns}
use denote.RawPtr.{RawPtr}
use denote.Exit.{yes}
use denote.Builtin.{usize, RefOf}
use denote.Signature.{Slot, plain, types_at}
use denote.Steps.{heard}
use denote.Triple.Entry.{alive}
use denote.Triple.Walked.{Stays, stay_dropped, Goes-dropped}
use Rattle.std.specs.Allocator.{block_with_items, FitsBlock}
use Rattle.std.proofs.raw_atomic.Walks.{proved_at}
use Rattle.row_order.specs.NoBlock.{no_block}
use Rattle.row_order.specs.contracts.null_allocator.NullAllocator.{the_row}
use Rattle.row_order.specs.contracts.null_allocator.NullAllocatorAllocator.grow as F
use Rattle.row_order.specs.contracts.null_allocator.NullAllocatorAllocator.grow.Key.{name as #self}
use Rattle.row_order.proofs.null_allocator.NullAllocatorAllocator.grow.Statement.{statement}
use Rattle.row_order.proofs.null_allocator.NullAllocatorAllocator.grow.Code as compiled

abbrev self : Slot 2
self = RefOf (0 ∷ []) tt (plain (λ _. the_row)) (λ _. tt)

abbrev pointer : Slot 2
pointer = plain (λ _. RawPtr)

abbrev number : Slot 2
number = plain (λ _. usize)

abbrev stayed : (T : RattleType) → Stays (F.ended T).signature.params (F.ended T).kept
stayed T = (stay_dropped self yes, (stay_dropped pointer yes, (stay_dropped number yes, (stay_dropped number yes, (stay_dropped number yes, tt)))))

pub grow_spec : {M : Type 1} → statement M
grow_spec 𝓤 𝓛 𝓜 𝓡 wired T laws =
    let args : Args = layouts (a_type ∷ []) (T, tt) in
    proved_at 𝓛 (F.ended T) (stayed T) (F.clauses T 𝓛 𝓜.mem 𝓡.returns) 𝓜 𝓡
    (Goes-dropped 𝓛 2 self yes (λ κs x f. refl), (Goes-dropped 𝓛 2 pointer yes (λ κs x f. refl), (Goes-dropped 𝓛 2 number yes (λ κs x f. refl), (Goes-dropped 𝓛 2 number yes (λ κs x f. refl), (Goes-dropped 𝓛 2 number yes (λ κs x f. refl), tt)))))
    (#self args) (inst_fn args compiled.function) (compiled.unfolded 𝓤 𝓛.H 𝓜 𝓡 wired (T, tt)) (λ z are.
    let a = z.0.3 in
    let len : ℕ = a.1.1.0 in
    let old : ℕ = a.1.1.1.0 in
    let new : ℕ = a.1.1.1.1.0 in
    qed 𝓛 ((raw (alive 𝓛 (F.ended T).signature z.0.0 z.0.1) ⊛ ‵ (owns (types_at (F.ended T).signature.params z.0.0) a z.0.4)) ∷ (raw (fact 𝓤 (z.0.0.1.0 ⊑ T.lives)) ⊛ raw (fact 𝓤 ((len ≤ old) × (old ≤ new) × FitsBlock (param 0 T) new)) ⊛ ‵ (block_with_items (no_block a.0.now) (param 0 T) a.1.0 len old z.1)) ∷ []) ∵
    move ! (1 ∷ []) $ split3 ! $ heard ! _ (λ _. heard ! _ (λ _. fsplit3 ! $ move ! (2 ∷ []) $ keep ! (0 ∷ []) $ by ! (never_e 𝓤 _))))
