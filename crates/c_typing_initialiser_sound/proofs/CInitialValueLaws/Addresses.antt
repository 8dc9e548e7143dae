-- Address constants of well typed expressions.
use Rattle.std.proofs.Common.{◌≤◌, ℕ, ◌+◌, ◌*◌, ◌-◌, ◌==◌, nat_le, Bool, false, ◌&&◌, IsTrue, List, slice_get, Option, Some, None, IfOk, IfSome, sym, ◌∙◌, arith, leb-true}
use Rattle.std.proofs.lemmas.Bool.{eqb-true}
use Rattle.bk_arithmetic.specs.declared.integer_type.IntegerType.{IntegerType}
use Rattle.c_tree.specs.declared.expressions.UnaryOp.{UnaryOp}
use Rattle.c_tree.specs.declared.expressions.UnaryOp.TheVariants as u
use Rattle.c_typed_tree.specs.declared.types.StructDef.{StructDef}
use Rattle.c_typed_tree.specs.Types.{PlainType, Void, Int, Pointer, Array, Struct}
use Rattle.c_typed_tree.specs.Expressions.{Expr, Number, Local, Global, Call, Unary, Binary, Assign, Conditional, Cast, Convert, Index, Field, Arrow, Postfix, Comma, type_of}
use Rattle.c_typed_tree.specs.View.{expr_view}
use Rattle.c_typed_tree.specs.Layout.{is_object, size_of, offset_of, integer_of}
use Rattle.c_typed_tree.specs.Constants.{constant}
use Rattle.c_typed_tree.specs.Typing.{Context, is_array, is_pointer, target_of, is_fit, has_global_type, has_rule, is_typed}
use Rattle.c_typing_constants.specs.Null.{is_null_pointer}
use Rattle.c_typing_constants.specs.declared.c_constant_rules.addresses.Address.{Address}
use Rattle.c_typing_constants.specs.c_constant_rules.Addresses.{start_address, address_of_lvalue, lvalue_of_pointer, address_after, address_before, goes_back, magnitude, target_size, move_pointer, direction, moved_either, constant_member, address_constant, constant_lvalue}
use Rattle.c_typing_rules.specs.declared.typed.TypedExpression.{TypedExpression}
use Rattle.c_typing_rules.specs.Values.{integer}
use Rattle.mem_objects.specs.declared.DataObject.{DataObject}
use Rattle.c_typing_initial_values.specs.declared.values.InitialValue.{InitialValue}
use Rattle.c_typing_initial_values.specs.Values.{word_value, address_value, value_by, initial_or_fault, initial_value}
use Rattle.c_typing_expression_sound.specs.c_type_laws.Typed.{AreKnown, IsTypedIn}
use Rattle.c_typing_expression_sound.proofs.CTypeLaws.Truth.{no_true, front, back, given_some}
use Rattle.c_typing_expression_sound.proofs.CTypeLaws.Types.{known_size}
use Rattle.c_typing_initialiser_sound.specs.c_initial_value_laws.Cells.{ObjectHasSize, IsAddressIn, IsValueIn}

module _ (c : Context) (ds : List StructDef) (known : AreKnown ds c.structs) where
  abbrev Is : Address → Type 0
  Is a = IsAddressIn c.globals a

  size_there : (o : Option DataObject) (ty : PlainType) → IsTrue (has_global_type c.structs o ty) → IsTrue (is_object ds ty) → ObjectHasSize (size_of ds ty) o
  size_there None ty h k = no_true h
  size_there (Some o) ty h k = sym (eqb-true (size_of c.structs ty) o.size (back (is_object c.structs ty) (size_of c.structs ty == o.size) h)) ∙ known_size ds c.structs known ty k

  start_there : (ty : PlainType) (number : ℕ) → IsTrue (is_typed c (Global ty number)) → IfSome (start_address ds ty number) Is
  start_there ty number h =
      given_some Is (is_object ds ty) (Some (record { global = number; size = size_of ds ty; plus = 0 })) None
      (λ k. record { there = size_there (slice_get c.globals number) ty (back (is_fit c.structs ty) (has_rule c (Global ty number)) h) k; within = omega arith }) (λ k. tt)

  address_of_there : (op : UnaryOp) (a : Option Address) → IfSome a Is → IfSome (address_of_lvalue op a) Is
  address_of_there u.Address a h = h
  address_of_there u.Increment a h = tt
  address_of_there u.Decrement a h = tt
  address_of_there u.Dereference a h = tt
  address_of_there u.Plus a h = tt
  address_of_there u.Minus a h = tt
  address_of_there u.Invert a h = tt
  address_of_there u.Not a h = tt

  lvalue_of_there : (op : UnaryOp) (a : Option Address) → IfSome a Is → IfSome (lvalue_of_pointer op a) Is
  lvalue_of_there u.Dereference a h = h
  lvalue_of_there u.Increment a h = tt
  lvalue_of_there u.Decrement a h = tt
  lvalue_of_there u.Address a h = tt
  lvalue_of_there u.Plus a h = tt
  lvalue_of_there u.Minus a h = tt
  lvalue_of_there u.Invert a h = tt
  lvalue_of_there u.Not a h = tt

  -- ---- steps

  forward_there : (a : Address) (n : ℕ) → Is a → IfSome (address_after a n) Is
  forward_there a n h =
      given_some Is (nat_le n (a.size - a.plus)) (Some (record { global = a.global; size = a.size; plus = a.plus + n })) None
      (λ k. let room : n ≤ a.size - a.plus = leb-true n (a.size - a.plus) k in let low : a.plus ≤ a.size = h.within in record { there = h.there; within = omega arith }) (λ k. tt)

  backward_there : (a : Address) (n : ℕ) → Is a → IfSome (address_before a n) Is
  backward_there a n h =
      given_some Is (nat_le n a.plus) (Some (record { global = a.global; size = a.size; plus = a.plus - n })) None
      (λ k. let low : a.plus ≤ a.size = h.within in record { there = h.there; within = omega arith }) (λ k. tt)

  moved_there : (a : Option Address) (size : Option ℕ) (turned : Bool) (t : Option IntegerType) (word : Option ℕ) → IfSome a Is → IfSome (move_pointer a size turned t word) Is
  moved_there None size turned t word h = tt
  moved_there (Some a) None turned t word h = tt
  moved_there (Some a) (Some size) turned None word h = tt
  moved_there (Some a) (Some size) turned (Some t) None h = tt
  moved_there (Some a) (Some size) turned (Some t) (Some word) h =
      given_some Is (goes_back turned t word) (address_before a (size * magnitude t word)) (address_after a (size * magnitude t word)) (λ k. backward_there a (size * magnitude t word) h) (λ k. forward_there a (size * magnitude t word) h)

  either_there : (d : Option Bool) (x y : Expr) (a b : Option Address) → IfSome a Is → IfSome b Is → IfSome (moved_either ds d x y a b) Is
  either_there None x y a b h g = tt
  either_there (Some turned) x y a b h g =
      given_some Is (is_pointer (type_of x)) (move_pointer a (target_size ds (type_of x)) turned (integer_of (type_of y)) (constant y)) (move_pointer b (target_size ds (type_of y)) turned (integer_of (type_of x)) (constant x))
      (λ k. moved_there a (target_size ds (type_of x)) turned (integer_of (type_of y)) (constant y) h) (λ k. moved_there b (target_size ds (type_of y)) turned (integer_of (type_of x)) (constant x) g)

  member_there : (ty : PlainType) (member : ℕ) (a : Option Address) → IfSome a Is → IfSome (constant_member ds ty member a) Is
  member_there (Struct number) member None h = tt
  member_there (Struct number) member (Some a) h = forward_there a (offset_of ds number member) h
  member_there Void member a h = tt
  member_there (Int n s) member a h = tt
  member_there (Pointer t) member a h = tt
  member_there (Array t n) member a h = tt

  -- ---- address constants

  mutual
    constant_there : (x : Expr) → IsTrue (is_typed c x) → IfSome (address_constant ds x) Is
    constant_there (Unary ty op x) h = address_of_there op (constant_lvalue ds x) (lvalue_there x (back (is_fit c.structs ty && has_rule c (Unary ty op x)) (is_typed c x) h))
    constant_there (Convert ty x) h =
        let whole : IsTrue (is_typed c x) = back (is_fit c.structs ty && has_rule c (Convert ty x)) (is_typed c x) h in
        given_some Is (is_array (type_of x)) (constant_lvalue ds x) (address_constant ds x) (λ k. lvalue_there x whole) (λ k. constant_there x whole)
    constant_there (Cast ty x) h =
        given_some Is (is_pointer ty) (address_constant ds x) None (λ k. constant_there x (back (is_fit c.structs ty && has_rule c (Cast ty x)) (is_typed c x) h)) (λ k. tt)
    constant_there (Binary ty op x y) h =
        let own = is_fit c.structs ty && has_rule c (Binary ty op x y) in
        either_there (direction op) x y (address_constant ds x) (address_constant ds y) (constant_there x (back own (is_typed c x) (front (own && is_typed c x) (is_typed c y) h))) (constant_there y (back (own && is_typed c x) (is_typed c y) h))
    constant_there (Global ty number) h = tt
    constant_there (Number ty n) h = tt
    constant_there (Local ty k) h = tt
    constant_there (Call ty callee xs) h = tt
    constant_there (Assign ty op x y) h = tt
    constant_there (Conditional ty x y z) h = tt
    constant_there (Index ty x y) h = tt
    constant_there (Field ty x member) h = tt
    constant_there (Arrow ty x member) h = tt
    constant_there (Postfix ty op x) h = tt
    constant_there (Comma ty xs) h = tt

    lvalue_there : (x : Expr) → IsTrue (is_typed c x) → IfSome (constant_lvalue ds x) Is
    lvalue_there (Global ty number) h = start_there ty number h
    lvalue_there (Unary ty op x) h = lvalue_of_there op (address_constant ds x) (constant_there x (back (is_fit c.structs ty && has_rule c (Unary ty op x)) (is_typed c x) h))
    lvalue_there (Index ty x y) h =
        let own = is_fit c.structs ty && has_rule c (Index ty x y) in
        either_there (Some false) x y (address_constant ds x) (address_constant ds y) (constant_there x (back own (is_typed c x) (front (own && is_typed c x) (is_typed c y) h))) (constant_there y (back (own && is_typed c x) (is_typed c y) h))
    lvalue_there (Field ty x member) h = member_there (type_of x) member (constant_lvalue ds x) (lvalue_there x (back (is_fit c.structs ty && has_rule c (Field ty x member)) (is_typed c x) h))
    lvalue_there (Arrow ty x member) h = member_there (target_of (type_of x)) member (address_constant ds x) (constant_there x (back (is_fit c.structs ty && has_rule c (Arrow ty x member)) (is_typed c x) h))
    lvalue_there (Number ty n) h = tt
    lvalue_there (Local ty k) h = tt
    lvalue_there (Call ty callee xs) h = tt
    lvalue_there (Binary ty op x y) h = tt
    lvalue_there (Assign ty op x y) h = tt
    lvalue_there (Conditional ty x y z) h = tt
    lvalue_there (Cast ty x) h = tt
    lvalue_there (Convert ty x) h = tt
    lvalue_there (Postfix ty op x) h = tt
    lvalue_there (Comma ty xs) h = tt

  -- ---- values

  abbrev IsValue : InitialValue → Type 0
  IsValue v = IsValueIn c.globals v

  address_value_there : (o : Option Address) → IfSome o Is → IfSome (address_value o) IsValue
  address_value_there None h = tt
  address_value_there (Some a) h = h

  word_value_there : (t : IntegerType) (o : Option ℕ) → IfSome (word_value t o) IsValue
  word_value_there t None = tt
  word_value_there t (Some w) = tt

  by_there : (t : Option IntegerType) (x : Expr) → IsTrue (is_typed c x) → IfSome (value_by ds t x) IsValue
  by_there None x h = given_some IsValue (is_null_pointer x) _ (address_value (address_constant ds x)) (λ k. tt) (λ k. address_value_there (address_constant ds x) (constant_there x h))
  by_there (Some t) x h = word_value_there t (constant x)

  or_fault : (at : ℕ) (o : Option InitialValue) → IfSome o IsValue → IfOk (initial_or_fault at o) IsValue
  or_fault at None h = tt
  or_fault at (Some v) h = h

pub address_there : (c : Context) (ds : List StructDef) (x : Expr) → AreKnown ds c.structs → IsTrue (is_typed c x) → IfSome (address_constant ds x) (IsAddressIn c.globals)
address_there c ds x known h = constant_there c ds known x h

pub value_there : (c : Context) (ds : List StructDef) (a : TypedExpression) → AreKnown ds c.structs → IsTypedIn c a → IfOk (initial_value ds a) (IsValueIn c.globals)
value_there c ds a known h = or_fault c ds known a.at (value_by ds (integer a) (expr_view a.tree)) (by_there c ds known (integer a) (expr_view a.tree) h.tree)
