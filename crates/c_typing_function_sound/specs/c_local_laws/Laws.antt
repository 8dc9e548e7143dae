-- What locals a function has: its parameters, and those that its body declares (C99 6.7, 6.9.1).
use Rattle.std.specs.Prelude.{◌≡◌, ◌≤◌, ℕ, length}
use Rattle.c_typed_tree.specs.declared.units.TypedFn.{TypedFn}
use Rattle.c_typed_tree.specs.Declarations.{declarations, due_declarations}
use Rattle.c_typed_tree.specs.View.{stmt_view}

-- the parameters are locals, and the body declares each other local once
pub record DeclaresItsLocals (f : TypedFn) : Type 0 where
  pub params : f.params ≤ length f.locals
  pub declares : (number : ℕ) →
      declarations number (stmt_view f.body) ≡ due_declarations f.params (length f.locals) number
