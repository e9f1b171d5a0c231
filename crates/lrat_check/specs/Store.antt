-- The live clauses that a store holds.
use Rattle.std.specs.Prelude.{List, option_map, slice_range}
use Rattle.cnf_form.specs.declared.formula.Lit.{Lit}
use Rattle.cnf_form.specs.Logs.{Live}
use Rattle.lrat_check.specs.declared.places.Places.{Places}
use Rattle.lrat_check.specs.declared.store.Store.{Store}
use Rattle.lrat_check.specs.Places.{place_of}

-- the literals of each id that has a place in the pool
abbrev pub live_in : List Lit → Places → Live
live_in pool places id = option_map (λ p. slice_range pool p.from p.to) (place_of places id)

abbrev pub live_of : Store → Live
live_of store = live_in store.pool.items store.places
