-- Locals and objects, and where a well typed place stands: in memory, or in the register of a local.
use Rattle.std.proofs.Common.{◌≡◌, ◌<◌, ℕ, Bool, true, false, ◌&&◌, ◌||◌, IsTrue, List, Option, Some, None, length, refl, sym, ap, ◌∙◌, subst, if◌then◌else◌, inl, inr}
use Rattle.std.specs.Prelude.{◌⊎◌, ◌==◌, nat_le, All, slice_get}
use Rattle.std.specs.List.{list_all}
use Rattle.std.proofs.lemmas.Option.{slice_get_within}
use Rattle.mem_objects.specs.declared.DataObject.{DataObject}
use Rattle.c_tree.specs.declared.expressions.UnaryOp.TheVariants as u
use Rattle.c_typed_tree.specs.declared.units.Local as l
use Rattle.c_typed_tree.specs.Types.{PlainType}
use Rattle.c_typed_tree.specs.View.{type_view}
use Rattle.c_typed_tree.specs.Layout.{is_object, size_of}
use Rattle.c_typed_tree.specs.Constants.{is_integer}
use Rattle.c_typed_tree.specs.Expressions.{Expr, Number, Local, Global, Call, Unary, Binary, Assign, Conditional, Cast, Convert, Index, Field, Arrow, Postfix, Comma, type_of}
use Rattle.c_typed_tree.specs.Typing.{Context, Signature, depth_of, is_fit, is_valid_type, is_scalar, has_local_type, has_global_type, points_to, is_element, is_member, target_of, is_place, is_memory_local, is_in_memory, has_rule, is_typed}
use Rattle.c_typed_tree.specs.Lawful.{IsLawfulStruct, is_lawful_local, is_object_type, type_of_local}
use Rattle.lowering_code.specs.Expressions.{register_if, register_of}
use Rattle.lowering_expression_laws.specs.Parts.{Setting, first_depth, ExprMeets}
use Rattle.lowering_expression_laws.specs.lowering_place_laws.Places.{PlaceMeets}
use Rattle.c_typing_struct_layout.proofs.CLayoutLaws.Truth.{no_true, front, back, either}
use Rattle.lowering_bounds.proofs.Typing.{one, two, same}
use Rattle.lowering_expression_laws.proofs.LoweringExpressionTheorem.Types.{all_pass, scalar_known, pointer_to_known, whole_known}
use Rattle.lowering_expression_laws.proofs.LoweringExpressionTheorem.Known.{locals, places, accesses, fit_type, member_object}

-- what expressions name in a call
abbrev pub context_in : Setting → List DataObject → List Signature → Context
context_in c globals signatures = record { structs = c.structs; globals = globals; functions = signatures; locals = c.locals }

-- the local whose register holds a place
abbrev pub in_register_of : Setting → Expr → Option ℕ
in_register_of c x = register_of (first_depth c) c.structs c.locals x

or_first : (a b : Bool) → b ≡ false → IsTrue (a || b) → IsTrue a
or_first true b e h = refl
or_first false true e h = no_true (sym e)
or_first false false e h = h

-- a place is a local that a register holds
pub record IsRegister (c : Setting) (x : Expr) : Type 0 where
  pub ty : PlainType
  pub number : ℕ
  pub local : l.Local
  pub is : x ≡ Local ty number
  pub is_there : slice_get c.locals number ≡ Some local
  pub in_register : local.in_memory ≡ false
  pub is_of_type : type_view local.ty ≡ ty

module _ (c : Setting) (found : slice_get c.functions c.number ≡ Some c.code) (globals : List DataObject) (signatures : List Signature)
    (structs : All (IsLawfulStruct c.structs) c.structs) (lawful : IsTrue (list_all (is_lawful_local c.structs) c.locals)) (statics : c.statics ≡ length globals) where
  abbrev K : Context
  K = context_in c globals signatures

  abbrev IsTypedHere : Expr → Type 0
  IsTypedHere x = IsTrue (is_typed K x)

  -- ---- locals

  -- a local in a register has a scalar type
  register_scalar : (k : ℕ) (x : l.Local) → slice_get c.locals k ≡ Some x → x.in_memory ≡ false → IsTrue (is_scalar (type_view x.ty))
  register_scalar k x e m =
      or_first (is_scalar (type_of_local x)) x.in_memory m
      (back (is_object_type c.structs (type_of_local x)) (is_scalar (type_of_local x) || x.in_memory) (all_pass (is_lawful_local c.structs) c.locals k x lawful e))

  local_rule : (ty : PlainType) (k : ℕ) → IsTypedHere (Local ty k) → IsTrue (has_local_type (slice_get c.locals k) ty)
  local_rule ty k h = back (is_fit c.structs ty) (has_rule K (Local ty k)) h

  local_type : (ty : PlainType) (k : ℕ) → IsTypedHere (Local ty k) → IsTrue (is_valid_type c.structs ty)
  local_type ty k h = fit_type K ty (front (is_fit c.structs ty) (has_rule K (Local ty k)) h)

  pub local_meets : (ty : PlainType) (k : ℕ) → IsTypedHere (Local ty k) → ExprMeets c (Local ty k)
  local_meets ty k h = by (slice_get c.locals k) refl (local_rule ty k h)
    where
      known : (x : l.Local) (m : Bool) → slice_get c.locals k ≡ Some x → x.in_memory ≡ m → type_view x.ty ≡ ty → ExprMeets c (Local ty k)
      known x true e m is = (locals c found).objects ty k x e m (whole_known c.structs ty (local_type ty k h))
      known x false e m is = (locals c found).registers ty k x e m is (scalar_known ty (subst (λ z. IsTrue (is_scalar z)) is (register_scalar k x e m)))

      by : (o : Option l.Local) → slice_get c.locals k ≡ o → IsTrue (has_local_type o ty) → ExprMeets c (Local ty k)
      by None e h = no_true h
      by (Some x) e h = known x x.in_memory e refl (same (type_view x.ty) ty h)

  pub local_place_meets : (ty : PlainType) (k : ℕ) → IsTrue (is_memory_local (slice_get c.locals k)) → PlaceMeets c (Local ty k)
  local_place_meets ty k h = by (slice_get c.locals k) refl h
    where
      by : (o : Option l.Local) → slice_get c.locals k ≡ o → IsTrue (is_memory_local o) → PlaceMeets c (Local ty k)
      by None e h = no_true h
      by (Some x) e h = (places c found).locals ty k x e h

  -- ---- objects of static storage

  global_number : (ty : PlainType) (k : ℕ) → IsTypedHere (Global ty k) → k < c.statics
  global_number ty k h = subst (λ z. k < z) (sym statics) (by (slice_get globals k) refl (back (is_fit c.structs ty) (has_rule K (Global ty k)) h))
    where
      by : (o : Option DataObject) → slice_get globals k ≡ o → IsTrue (has_global_type c.structs o ty) → k < length globals
      by None e h = no_true h
      by (Some o) e h = slice_get_within globals k o e

  pub global_meets : (ty : PlainType) (k : ℕ) → IsTypedHere (Global ty k) → ExprMeets c (Global ty k)
  global_meets ty k h = (accesses c found).statics ty k (whole_known c.structs ty (fit_type K ty (front (is_fit c.structs ty) (has_rule K (Global ty k)) h))) (global_number ty k h)

  pub global_place_meets : (ty : PlainType) (k : ℕ) → IsTypedHere (Global ty k) → PlaceMeets c (Global ty k)
  global_place_meets ty k h = (places c found).statics ty k (global_number ty k h)

  -- ---- places

  -- what stands in memory stands in no register
  pub unregistered_place : (x : Expr) → IsTrue (is_in_memory c.locals x) → in_register_of c x ≡ None
  unregistered_place (Local ty k) h = by (slice_get c.locals k) h
    where
      by : (o : Option l.Local) → IsTrue (is_memory_local o) → register_if (first_depth c) c.structs c.locals k o ≡ None
      by None h = refl
      by (Some x) h = ap (λ z. if◌then◌else◌ {A = Option ℕ} z None (Some k)) h
  unregistered_place (Number ty n) h = refl
  unregistered_place (Global ty k) h = refl
  unregistered_place (Call ty callee xs) h = refl
  unregistered_place (Unary ty op x) h = refl
  unregistered_place (Binary ty op x y) h = refl
  unregistered_place (Assign ty op x y) h = refl
  unregistered_place (Conditional ty x y z) h = refl
  unregistered_place (Cast ty x) h = refl
  unregistered_place (Convert ty x) h = refl
  unregistered_place (Index ty x y) h = refl
  unregistered_place (Field ty x member) h = refl
  unregistered_place (Arrow ty x member) h = refl
  unregistered_place (Postfix ty op x) h = refl
  unregistered_place (Comma ty xs) h = refl

  -- a place is a local in a register, or in none
  pub place_kind : (x : Expr) → IsTypedHere x → (in_register_of c x ≡ None) ⊎ IsRegister c x
  place_kind (Local ty k) h = by (slice_get c.locals k) refl (local_rule ty k h)
    where
      known : (x : l.Local) (m : Bool) → slice_get c.locals k ≡ Some x → x.in_memory ≡ m → type_view x.ty ≡ ty → (in_register_of c (Local ty k) ≡ None) ⊎ IsRegister c (Local ty k)
      known x true e m is = inl (unregistered_place (Local ty k) (ap is_memory_local e ∙ m))
      known x false e m is = inr (record { ty = ty; number = k; local = x; is = refl; is_there = e; in_register = m; is_of_type = is })

      by : (o : Option l.Local) → slice_get c.locals k ≡ o → IsTrue (has_local_type o ty) → (in_register_of c (Local ty k) ≡ None) ⊎ IsRegister c (Local ty k)
      by None e h = no_true h
      by (Some x) e h = known x x.in_memory e refl (same (type_view x.ty) ty h)
  place_kind (Number ty n) h = inl refl
  place_kind (Global ty k) h = inl refl
  place_kind (Call ty callee xs) h = inl refl
  place_kind (Unary ty op x) h = inl refl
  place_kind (Binary ty op x y) h = inl refl
  place_kind (Assign ty op x y) h = inl refl
  place_kind (Conditional ty x y z) h = inl refl
  place_kind (Cast ty x) h = inl refl
  place_kind (Convert ty x) h = inl refl
  place_kind (Index ty x y) h = inl refl
  place_kind (Field ty x member) h = inl refl
  place_kind (Arrow ty x member) h = inl refl
  place_kind (Postfix ty op x) h = inl refl
  place_kind (Comma ty xs) h = inl refl

  -- a place has a type of objects

  local_object : (ty : PlainType) (o : Option l.Local) (k : ℕ) → slice_get c.locals k ≡ o → IsTrue (has_local_type o ty) → IsTrue (is_object c.structs ty)
  local_object ty None k e h = no_true h
  local_object ty (Some x) k e h =
      let own = type_of_local x in
      let all = front (is_object_type c.structs own) (is_scalar own || x.in_memory) (all_pass (is_lawful_local c.structs) c.locals k x lawful e) in
      subst (λ z. IsTrue (is_object c.structs z)) (same own ty h) (back (is_valid_type c.structs own) (is_object c.structs own) (front (is_valid_type c.structs own && is_object c.structs own) (nat_le (depth_of c.structs own) 256) all))

  global_object : (ty : PlainType) (o : Option DataObject) → IsTrue (has_global_type c.structs o ty) → IsTrue (is_object c.structs ty)
  global_object ty None h = no_true h
  global_object ty (Some o) h = front (is_object c.structs ty) (size_of c.structs ty == o.size) h

  element_object : (ty left right : PlainType) → IsTrue (is_element c.structs ty left right) → IsTrue (is_object c.structs ty)
  element_object ty left right h =
      either (points_to c.structs ty left && is_integer right) (is_integer left && points_to c.structs ty right)
      (λ g. (pointer_to_known c.structs ty left (front (points_to c.structs ty left) (is_integer right) g)).object)
      (λ g. (pointer_to_known c.structs ty right (back (is_integer left) (points_to c.structs ty right) g)).object) h

  pub place_object : (x : Expr) → IsTypedHere x → IsTrue (is_place x) → IsTrue (is_object c.structs (type_of x))
  place_object (Local ty k) h p = local_object ty (slice_get c.locals k) k refl (local_rule ty k h)
  place_object (Global ty k) h p = global_object ty (slice_get globals k) (back (is_fit c.structs ty) (has_rule K (Global ty k)) h)
  place_object (Unary ty u.Dereference x) h p = let o = one (is_fit c.structs ty) (has_rule K (Unary ty u.Dereference x)) (is_typed K x) h in (pointer_to_known c.structs ty (type_of x) o.0).object
  place_object (Unary ty u.Increment x) h p = no_true p
  place_object (Unary ty u.Decrement x) h p = no_true p
  place_object (Unary ty u.Address x) h p = no_true p
  place_object (Unary ty u.Plus x) h p = no_true p
  place_object (Unary ty u.Minus x) h p = no_true p
  place_object (Unary ty u.Invert x) h p = no_true p
  place_object (Unary ty u.Not x) h p = no_true p
  place_object (Index ty x y) h p = let o = two (is_fit c.structs ty) (has_rule K (Index ty x y)) (is_typed K x) (is_typed K y) h in element_object ty (type_of x) (type_of y) o.0
  place_object (Field ty x member) h p =
      let o = one (is_fit c.structs ty) (has_rule K (Field ty x member)) (is_typed K x) h in
      member_object c.structs structs ty (type_of x) member (back (is_place x) (is_member c.structs ty (type_of x) member) o.0)
  place_object (Arrow ty x member) h p =
      let o = one (is_fit c.structs ty) (has_rule K (Arrow ty x member)) (is_typed K x) h in
      member_object c.structs structs ty (target_of (type_of x)) member o.0
  place_object (Number ty n) h p = no_true p
  place_object (Call ty callee xs) h p = no_true p
  place_object (Binary ty op x y) h p = no_true p
  place_object (Assign ty op x y) h p = no_true p
  place_object (Conditional ty x y z) h p = no_true p
  place_object (Cast ty x) h p = no_true p
  place_object (Convert ty x) h p = no_true p
  place_object (Postfix ty op x) h p = no_true p
  place_object (Comma ty xs) h p = no_true p
