use Rattle.std.proofs.Common.{◌≡◌, ◌<◌, ◌↔◌, [], ◌∷◌, ◌++◌, length, List, Option, Some, None, MatchOption, IsSome, refl, arith}
use Rattle.std.specs.Option.{option_to_list}
use Rattle.row_order.proofs.inline_vec.InlineVec.pop.Goals as goal

-- where nothing is taken nothing was there
told : {T : Type 0} (found : Option T) (old new : List T) → old ≡ new ++ option_to_list found → IsSome found ↔ (0 < length old) → MatchOption found ((old ≡ []) × (new ≡ [])) (λ value. old ≡ new ++ value ∷ [])
told (Some value) old new items some = items
told None [] [] items some = (refl, refl)
told None [] (value ∷ more) items some = cc
told None (value ∷ more) new items some = cc (some.1 (omega arith))

pub returns : goal.returns
returns g c = rw (← c.self.view_is) (told c.pop.result c.self.inside.values.items c.pop.new.self.items c.pop.ensures.items c.pop.ensures.variant)
