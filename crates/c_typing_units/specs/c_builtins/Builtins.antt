-- What is declared before the first declaration of a unit: the built-in functions (C99 7.19.7.9, 7.19.7.6, 7.20.4.1,
-- 7.20.4.3).
use Rattle.std.specs.Prelude.{ℕ, true, false, List, [], ◌∷◌, codes}
use Rattle.c_typing_rules.specs.declared.c_typing_declared_types.declared.DeclaredType.TheVariants as d
use Rattle.c_typed_tree.specs.declared.types.CType as t
use Rattle.c_typed_tree.specs.declared.expressions.Builtin.{Builtin}
use Rattle.c_typed_tree.specs.declared.expressions.Builtin.TheVariants as b
use Rattle.c_typed_tree.specs.declared.expressions.Callee.TheVariants as c
use Rattle.c_typing_rules.specs.Values.{int}
use Rattle.c_typing_state.specs.declared.env.Env.{Env}
use Rattle.c_typing_state.specs.declared.meanings.NameMeaning.TheVariants as m
use Rattle.c_typing_state.specs.Scopes.{with_meaning}
use Rattle.c_typing_unit_names.specs.declared.names.UnitNames.{UnitNames}
use Rattle.c_typing_unit_names.specs.UnitNames.{with_declared}

abbrev pub no_names : UnitNames
no_names = record { declared = []; functions = 0; objects = 0; undefined = 0 }

-- the built-in functions are declared, and count as defined
abbrev pub builtin_declared : List ℕ → Builtin → t.CType → List t.CType → UnitNames × Env → UnitNames × Env
builtin_declared name builtin ty parameters r = (
  with_declared name (record { is_typedef = false; ty = d.Function ty parameters; has_value = true }) r.0,
  with_meaning name (m.Function (c.Builtin builtin) ty parameters) r.1,
)

abbrev pub with_builtins : UnitNames × Env → UnitNames × Env
with_builtins r =
    builtin_declared (codes "exit") b.Exit t.Void (int ∷ []) (builtin_declared (codes "abort") b.Abort t.Void []
    (builtin_declared (codes "getchar") b.Getchar int []
    (builtin_declared (codes "putchar") b.Putchar int (int ∷ []) r)))

abbrev pub builtins : UnitNames × Env
builtins = with_builtins (no_names, record { names = []; outside = 0 })
