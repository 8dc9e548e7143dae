-- Names in scope (C99 6.2.1).
use Rattle.std.specs.Prelude.{ℕ, nat_lt, Bool, false, not, List, ◌∷◌, Option, Some, None, length}
use Rattle.std.specs.Option.{option_map}
use Rattle.c_typing_scopes.specs.Names.{find, oldest}
use Rattle.c_typing_state.specs.declared.meanings.NameMeaning.{NameMeaning}
use Rattle.c_typing_state.specs.declared.env.Env.{Env}

-- all names stand outside a scope that is entered
abbrev pub enter : Env → Env
enter env = record { names = env.names; outside = length env.names }

abbrev pub with_meaning : List ℕ → NameMeaning → Env → Env
with_meaning name meaning env =
    record { names = record { name = name; value = meaning } ∷ env.names; outside = env.outside }

-- the names that were there when the scope was entered
abbrev pub leave : (outside : ℕ) → Env → Env
leave outside env = record { names = oldest env.outside env.names; outside = outside }

abbrev pub meaning_of : Env → List ℕ → Option NameMeaning
meaning_of env name = option_map (λ r. r.1) (find name env.names)

-- whether the newest declaration of a name stands in the present scope
abbrev pub stands_here : Env → Option (ℕ × NameMeaning) → Bool
stands_here env None = false
stands_here env (Some r) = not (nat_lt r.0 env.outside)
