-- Calls, by the signatures of what is called.
use Rattle.std.proofs.Common.{◌≡◌, ℕ, ◌&&◌, IsTrue, List, [], ◌∷◌, Option, Some, None, refl, sym, subst}
use Rattle.std.specs.Prelude.{slice_get}
use Rattle.std.specs.List.{list_all}
use Rattle.c_typed_tree.specs.declared.expressions.Builtin.TheVariants.{Putchar, Getchar, Abort, Exit}
use Rattle.c_typed_tree.specs.declared.expressions.Callee.{Callee}
use Rattle.c_typed_tree.specs.declared.expressions.Callee.TheVariants.{Function, Builtin}
use Rattle.c_typed_tree.specs.Types.{PlainType, Void}
use Rattle.c_typed_tree.specs.Expressions.{Call, Exprs, no_exprs, more_exprs}
use Rattle.c_typed_tree.specs.Typing.{Context, Signature, int, is_same_type, is_void, is_scalar, are_arguments, callee_signature, is_call}
use Rattle.c_typed_tree.specs.Lawful.{is_object_type, is_result}
use Rattle.lowering_expression_laws.specs.Parts.{Setting, ExprMeets}
use Rattle.lowering_expression_laws.specs.lowering_call_laws.Laws.{ArgumentsMeet, FunctionMeets}
use Rattle.lowering_expression_laws.proofs.LoweringCallLaws.Calls.{calls_meet, calls_without_results_meet}
use Rattle.c_typing_struct_layout.proofs.CLayoutLaws.Truth.{no_true, front, back, either}
use Rattle.lowering_bounds.proofs.Typing.{same}
use Rattle.lowering_expression_laws.proofs.LoweringExpressionTheorem.Types.{scalar_known, void_known}
use Rattle.lowering_expression_laws.proofs.LoweringExpressionTheorem.Known.{builtins}

-- a function with a signature does what it means one level down
pub record IsCallable (c : Setting) (k : ℕ) (f : Signature) : Type 0 where
  pub meets : FunctionMeets c k f.params f.result
  pub result : IsTrue (is_result c.structs f.result)
  pub scalars : IsTrue (list_all is_scalar f.params)

module _ (c : Setting) (found : slice_get c.functions c.number ≡ Some c.code) where
  -- arguments of any types that parameters may have
  abbrev AllArguments : Exprs → Type 0
  AllArguments xs = (types : List PlainType) → IsTrue (are_arguments types xs) → IsTrue (list_all is_scalar types) → ArgumentsMeet c types xs

  function_meets : (k : ℕ) (f : Signature) → IsCallable c k f → (xs : Exprs) → AllArguments xs → IsTrue (are_arguments f.params xs) → ExprMeets c (Call f.result (Function k) xs)
  function_meets k f callable xs all h =
      either (is_void f.result) (is_scalar f.result && is_object_type c.structs f.result)
      (λ g. let e = void_known f.result g in
      subst (λ z. ExprMeets c (Call z (Function k) xs)) (sym e) (calls_without_results_meet c found k f.params xs (subst (λ z. FunctionMeets c k f.params z) e callable.meets) (all f.params h callable.scalars)))
      (λ g. calls_meet c found f.result k f.params xs (scalar_known f.result (front (is_scalar f.result) (is_object_type c.structs f.result) g)) callable.meets (all f.params h callable.scalars)) callable.result

  -- ---- built-in functions

  getchar_meets : (xs : Exprs) → IsTrue (are_arguments [] xs) → ExprMeets c (Call int (Builtin Getchar) xs)
  getchar_meets no_exprs h = (builtins c found).getchar
  getchar_meets (more_exprs x xs) h = no_true h

  putchar_meets : (xs : Exprs) → ArgumentsMeet c (int ∷ []) xs → ExprMeets c (Call int (Builtin Putchar) xs)
  putchar_meets no_exprs all = absurd all
  putchar_meets (more_exprs x no_exprs) all = (builtins c found).putchar x all.0 all.2
  putchar_meets (more_exprs x (more_exprs y ys)) all = absurd all.3

  abort_meets : (xs : Exprs) → IsTrue (are_arguments [] xs) → ExprMeets c (Call Void (Builtin Abort) xs)
  abort_meets no_exprs h = (builtins c found).abort
  abort_meets (more_exprs x xs) h = no_true h

  exit_meets : (xs : Exprs) → ArgumentsMeet c (int ∷ []) xs → ExprMeets c (Call Void (Builtin Exit) xs)
  exit_meets no_exprs all = absurd all
  exit_meets (more_exprs x no_exprs) all = (builtins c found).exits x all.0 all.2
  exit_meets (more_exprs x (more_exprs y ys)) all = absurd all.3

  -- ---- calls

  -- a call of what has a signature
  called : (f : Signature) (ty : PlainType) (callee : Callee) (xs : Exprs) → IsTrue (is_same_type f.result ty && are_arguments f.params xs) → (IsTrue (are_arguments f.params xs) → ExprMeets c (Call f.result callee xs)) → ExprMeets c (Call ty callee xs)
  called f ty callee xs h g =
      subst (λ z. ExprMeets c (Call z callee xs)) (same f.result ty (front (is_same_type f.result ty) (are_arguments f.params xs) h)) (g (back (is_same_type f.result ty) (are_arguments f.params xs) h))

  module _ (k : Context) (functions : (n : ℕ) (f : Signature) → slice_get k.functions n ≡ Some f → IsCallable c n f) where
    pub call_meets : (ty : PlainType) (callee : Callee) (xs : Exprs) → AllArguments xs → IsTrue (is_call (callee_signature k callee) ty xs) → ExprMeets c (Call ty callee xs)
    call_meets ty (Function n) xs all h = by (slice_get k.functions n) refl h
      where
        by : (o : Option Signature) → slice_get k.functions n ≡ o → IsTrue (is_call o ty xs) → ExprMeets c (Call ty (Function n) xs)
        by None e h = no_true h
        by (Some f) e h = called f ty (Function n) xs h (λ g. function_meets n f (functions n f e) xs all g)
    call_meets ty (Builtin Putchar) xs all h = called (record { result = int; params = int ∷ [] }) ty (Builtin Putchar) xs h (λ g. putchar_meets xs (all (int ∷ []) g refl))
    call_meets ty (Builtin Getchar) xs all h = called (record { result = int; params = [] }) ty (Builtin Getchar) xs h (λ g. getchar_meets xs g)
    call_meets ty (Builtin Abort) xs all h = called (record { result = Void; params = [] }) ty (Builtin Abort) xs h (λ g. abort_meets xs g)
    call_meets ty (Builtin Exit) xs all h = called (record { result = Void; params = int ∷ [] }) ty (Builtin Exit) xs h (λ g. exit_meets xs (all (int ∷ []) g refl))
