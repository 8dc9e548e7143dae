-- The parts of statements, by the rules of their expressions.
use Rattle.std.proofs.Common.{◌≡◌, ℕ, Bool, true, false, not, ◌||◌, IsTrue, IsFalse, List, slice_get, Option, Some, None, Ok, Err, IfOk, IfSome, refl, sym, ap, ◌∙◌, if◌then◌else◌, option_map}
use Rattle.c_typed_tree.specs.declared.types.CType.{CType}
use Rattle.c_typed_tree.specs.declared.types.StructDef.{StructDef}
use Rattle.c_typed_tree.specs.declared.units.Local.{Local}
use Rattle.c_typed_tree.specs.declared.expressions.TExpr.{TExpr}
use Rattle.c_typed_tree.specs.declared.statements.TStmt.{TStmt}
use Rattle.c_typed_tree.specs.declared.statements.TStmt as s
use Rattle.c_typed_tree.specs.Types.{PlainType, Void, Int, Pointer, Array, Struct}
use Rattle.c_typed_tree.specs.Expressions.{type_of}
use Rattle.c_typed_tree.specs.View.{type_view, expr_view, stmt_view, local_view}
use Rattle.c_typed_tree.specs.model.View.{opens}
use Rattle.c_typed_tree.specs.Layout.{is_object}
use Rattle.c_typed_tree.specs.Typing.{Context, is_same_type, is_void, is_array, is_scalar, is_struct, is_valid_type, is_fit, has_local_type, is_typed}
use Rattle.c_typed_tree.specs.TypingStatements.{Jumps, is_condition, is_value, is_declared, is_typed_stmt, has_initialised_type}
use Rattle.c_typing_rules.specs.declared.typed.TypedExpression.{TypedExpression}
use Rattle.c_typing_rules.specs.Rulings.{Ruling}
use Rattle.c_typing_rules.specs.Conversions.{decay}
use Rattle.c_typing_rules.specs.Comparisons as rule
use Rattle.c_typing_primary_rules.specs.Switches as w
use Rattle.c_typing_judgements.specs.c_typing_operators.Null.{take_value}
use Rattle.c_typing_state.specs.declared.notes.Notes.{Notes}
use Rattle.c_typing_state.specs.Checks.{pure, and_then, note_fault}
use Rattle.c_typing_statement_parts.specs.declared.c_typing_local_rules.locals.NewLocal.{NewLocal}
use Rattle.c_typing_statement_rules.specs.Values.{condition_check, switch_check, full_expression, return_of, bad_return, return_value, return_nothing}
use Rattle.c_typing_statement_parts.specs.c_typing_local_rules.Locals.{no_initialiser, with_initialiser, local_with_value}
use Rattle.c_typing_expression_sound.specs.c_type_laws.Typed.{IsTypedIn, IsOfType, IsTested, IsSwitched}
use Rattle.c_typing_expression_sound.proofs.CTypeLaws.Truth.{no_true, also, three, along}
use Rattle.c_typing_expression_sound.proofs.CTypeLaws.Types.{same, equal, fit_type}
use Rattle.c_typing_expression_sound.proofs.CTypeLaws.Values.{decay_typed}
use Rattle.c_typing_expression_sound.proofs.CTypeLaws.Conversions.{condition_typed}
use Rattle.c_typing_expression_sound.proofs.CTypeLaws.Primary.{switch_typed}
use Rattle.c_typing_expression_sound.proofs.CTypeLaws.Operators.{take_typed}

-- what is found where a rule gives it
found_of : {A : Type 0} (P Q : A → Type 0) (r : Ruling A) (n : Notes) → IfOk r P → ((a : A) → P a → Q a) → IfSome (note_fault r n).0 Q
found_of P Q (Ok a) n h f = f a h
found_of P Q (Err e) n h f = tt

mapped : {A B : Type 0} (P : A → Type 0) (Q : B → Type 0) (f : A → B) (o : Option A) → IfSome o P → ((a : A) → P a → Q (f a)) → IfSome (option_map f o) Q
mapped P Q f None h g = tt
mapped P Q f (Some a) h g = g a h

pub condition_typed_in : (c : Context) (a : TypedExpression) (n : Notes) → IsTypedIn c a → IfSome (condition_check a n).0 (λ x. IsTrue (is_condition c (expr_view x)))
condition_typed_in c a n h =
    found_of (IsTested c) (λ x. IsTrue (is_condition c (expr_view x))) (rule.condition (decay a)) n (condition_typed c (decay a) (decay_typed c a h).typed)
    (λ x t. also (is_scalar (type_of (expr_view x))) (is_typed c (expr_view x)) t.scalar t.typed)

pub switch_typed_in : (c : Context) (a : TypedExpression) (n : Notes) → IsTypedIn c a → IfSome (switch_check a n).0 (IsSwitched c)
switch_typed_in c a n h = found_of (IsSwitched c) (IsSwitched c) (w.switch_operand (decay a)) n (switch_typed c (decay a) (decay_typed c a h).typed) (λ x t. t)

pub expression_value : (c : Context) (a : TypedExpression) → IsTypedIn c a → IsTrue (is_value c (expr_view (full_expression a)))
expression_value c a h =
    let v = decay_typed c a h in
    also (not (is_array (type_of (expr_view (decay a).tree)))) (is_typed c (expr_view (decay a).tree)) (ap (λ ty. not (is_array ty)) v.typed.type ∙ ap not v.value) v.typed.tree

-- ---- `return`

module _ (c : Context) (j : Jumps) (result : CType) where
  abbrev IsReturn : TStmt → Type 0
  IsReturn x = IsTrue (is_typed_stmt c (type_view result) j (stmt_view x))

  return_made : (x : TExpr) → is_void (type_view result) ≡ false → IsOfType c (type_view result) x → IsReturn (s.Return (Some x))
  unfolding opens
  return_made x v h =
      three (is_same_type (type_of (expr_view x)) (type_view result)) (not (is_void (type_view result))) (is_typed c (expr_view x))
      (equal (type_of (expr_view x)) (type_view result) h.type) (ap not v) h.typed

  empty_made : IsTrue (is_void (type_view result)) → IsReturn (s.Return None)
  unfolding opens
  empty_made h = h

pub return_typed : (c : Context) (j : Jumps) (at : ℕ) (result : CType) (a : TypedExpression) (n : Notes) → IsTrue (is_fit c.structs (type_view result)) → IsTypedIn c a
    → IfSome (return_value at result a n).0 (λ x. IsTrue (is_typed_stmt c (type_view result) j (stmt_view x)))
return_typed c j at result a n fit h = choose (is_void (type_view result)) refl
  where
    choose : (b : Bool) → is_void (type_view result) ≡ b → IfSome (if b then bad_return at n else and_then (note_fault (take_value result a) n) (λ value. pure (return_of value))).0 (IsReturn c j result)
    choose true e = tt
    choose false e =
        mapped (IsOfType c (type_view result)) (IsReturn c j result) (λ x. s.Return (Some x)) (note_fault (take_value result a) n).0
        (found_of (IsOfType c (type_view result)) (IsOfType c (type_view result)) (take_value result a) n (take_typed c result a fit h) (λ x t. t)) (λ x t. return_made c j result x e t)

pub empty_typed : (c : Context) (j : Jumps) (at : ℕ) (result : CType) (n : Notes) → IfSome (return_nothing at result n).0 (λ x. IsTrue (is_typed_stmt c (type_view result) j (stmt_view x)))
empty_typed c j at result n = choose (is_void (type_view result)) refl
  where
    choose : (b : Bool) → is_void (type_view result) ≡ b → IfSome (if b then (Some (s.Return None), n) else bad_return at n).0 (IsReturn c j result)
    choose true e = empty_made c j result e
    choose false e = tt

-- ---- initialisers

-- a type of objects that is no array is one of values
object_kind : (ds : List StructDef) (ty : PlainType) → IsTrue (is_valid_type ds ty) → IsTrue (is_object ds ty) → IsFalse (is_array ty) → IsTrue (is_scalar ty || is_struct ty)
object_kind ds Void h o n = no_true o
object_kind ds (Int b g) h o n = ap (λ i. i || false || false) h
object_kind ds (Pointer x) h o n = refl
object_kind ds (Array x m) h o n = no_true (sym n)
object_kind ds (Struct m) h o n = refl

initialised : (o : Option Local) (ty own : PlainType) → IsTrue (has_local_type o ty) → own ≡ ty → IsTrue (is_scalar ty || is_struct ty) → IsTrue (has_initialised_type o own)
initialised None ty own h e k = no_true h
initialised (Some l) ty own h e k =
    also (is_same_type own (type_view l.ty)) (is_scalar own || is_struct own) (equal own (type_view l.ty) (e ∙ sym (same (type_view l.ty) ty h)))
    (along (λ t. is_scalar t || is_struct t) e k)

pub initialiser_typed : (c : Context) (new : NewLocal) (a : TypedExpression) (n : Notes) → IsTrue (has_local_type (slice_get c.locals new.number) (type_view new.ty)) → IsTrue (is_fit c.structs (type_view new.ty))
    → IsTrue (is_object c.structs (type_view new.ty)) → IsTypedIn c a → IfSome (local_with_value new a n).0 (λ l. IsTrue (is_declared c (local_view l)))
initialiser_typed c new a n there fit object h = choose (is_array (type_view new.ty)) refl
  where
    choose : (b : Bool) → is_array (type_view new.ty) ≡ b
        → IfSome (and_then (if b then no_initialiser a.at n else note_fault (take_value new.ty a) n) (λ r. pure (option_map (with_initialiser new.number) r))).0 (λ l. IsTrue (is_declared c (local_view l)))
    choose true e = tt
    choose false e =
        mapped (IsOfType c (type_view new.ty)) (λ l. IsTrue (is_declared c (local_view l))) (with_initialiser new.number) (note_fault (take_value new.ty a) n).0
        (found_of (IsOfType c (type_view new.ty)) (IsOfType c (type_view new.ty)) (take_value new.ty a) n (take_typed c new.ty a fit h) (λ x t. t))
        (λ x t. also (has_initialised_type (slice_get c.locals new.number) (type_of (expr_view x))) (is_typed c (expr_view x))
        (initialised (slice_get c.locals new.number) (type_view new.ty) (type_of (expr_view x)) there t.type (object_kind c.structs (type_view new.ty) (fit_type c.structs (type_view new.ty) fit) object e)) t.typed)
