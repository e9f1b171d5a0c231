use Rattle.std.proofs.Common.{◌∙◌, List, ℕ, sym, subst}
use Rattle.block_lists.specs.Numbers.{IsBasedOver}
use Rattle.block_lists.proofs.Bases.{is-based}
use Rattle.block_lists.proofs.guess.free_avoids.Goals as goal

pub mark_lists-requires : goal.mark_lists-requires
mark_lists-requires c = λ names m x i.
    subst (λ (bs : List ℕ). IsBasedOver bs x) (sym (c.as_slice.ensures.value ∙ c.in_ok-fill_bases.ensures))
    (is-based c.args.sizes.now x c.requires.few (c.requires.there names m x i))
