-- The code of every well typed expression does what the expression means: one induction, a line for each form.
use Rattle.std.proofs.Common.{◌≡◌, ℕ, ◌&&◌, not, IsTrue, List, [], ◌∷◌, Option, Some, None, length, map, refl, sym, ap, ◌∙◌, subst}
use Rattle.std.specs.Prelude.{All, slice_get, option_map}
use Rattle.std.specs.List.{list_all}
use Rattle.std.proofs.lemmas.Option.{slice_get-map}
use Rattle.mem_objects.specs.declared.DataObject.{DataObject}
use Rattle.c_tree.specs.declared.expressions.UnaryOp.TheVariants as u
use Rattle.c_typed_tree.specs.declared.types.StructDef.{StructDef}
use Rattle.c_typed_tree.specs.declared.units.Local as l
use Rattle.c_typed_tree.specs.declared.units.TypedFn.{TypedFn}
use Rattle.c_typed_tree.specs.declared.units.TypedUnit.{TypedUnit}
use Rattle.c_typed_tree.specs.Types.{PlainType, Void, Int, Pointer, Array, Struct}
use Rattle.c_typed_tree.specs.View.{type_view}
use Rattle.c_typed_tree.specs.Expressions.{Expr, Number, Local, Global, Call, Unary, Binary, Assign, Conditional, Cast, Convert, Index, Field, Arrow, Postfix, Comma, Exprs, no_exprs, more_exprs, type_of}
use Rattle.c_typed_tree.specs.Typing.{Context, Signature, is_same_type, is_fit, is_valid_type, is_scalar, is_array, has_step_type, has_assigned_type, points_to, is_member, target_of, are_arguments, is_place, is_in_memory, has_last_type, are_operands, has_rule, is_typed, are_typed}
use Rattle.c_typed_tree.specs.Lawful.{IsLawfulStruct, IsTypedUnit, IsTypedFn, is_lawful_local, is_result, context_of, signature_of}
use Rattle.lowering_expression_laws.specs.Parts.{Setting, ExprMeets}
use Rattle.lowering_expression_laws.specs.lowering_place_laws.Places.{PlaceMeets}
use Rattle.lowering_expression_laws.specs.lowering_operand_laws.Laws.{last_type, AllOperandsMeet}
use Rattle.lowering_expression_laws.specs.lowering_call_laws.Laws.{ArgumentsMeet}
use Rattle.c_typing_struct_layout.proofs.CLayoutLaws.Truth.{no_true, front, back, all_at}
use Rattle.lowering_bounds.proofs.Typing.{one, two, three, same, large_memory, member_struct}
use Rattle.lowering_expression_laws.specs.lowering_expression_theorem.Laws.{IsSetting, ExpressionsMeet, MemoryPlacesMeet}
use Rattle.lowering_expression_laws.proofs.LoweringExpressionTheorem.Types.{number_known, pointer_to_known, scalar_known, whole_known}
use Rattle.lowering_expression_laws.proofs.LoweringExpressionTheorem.Known.{forms, places, accesses, operands, types, within}
use Rattle.lowering_expression_laws.proofs.LoweringExpressionTheorem.Places.{context_in, local_meets, local_place_meets, global_meets, global_place_meets}
use Rattle.lowering_expression_laws.proofs.LoweringExpressionTheorem.Operators.{plus_meets, minus_meets, invert_meets, not_meets, binary_meets, element_meets, element_place_meets, choice_meets}
use Rattle.lowering_expression_laws.proofs.LoweringExpressionTheorem.Changes.{steps_meet, assign_meets}
use Rattle.lowering_expression_laws.proofs.LoweringExpressionTheorem.Conversions.{cast_meets, conversion_meets}
use Rattle.lowering_expression_laws.proofs.LoweringExpressionTheorem.Calls.{IsCallable, call_meets}

-- the type of the last operand of commas
last_is : (ty : PlainType) (x : Expr) (xs : Exprs) → IsTrue (has_last_type ty (type_of x) xs) → last_type x xs ≡ ty
last_is ty x no_exprs h = same (type_of x) ty (front (is_same_type (type_of x) ty) (not (is_array (type_of x))) h)
last_is ty x (more_exprs y ys) h = last_is ty y ys (back (not (is_array (type_of x))) (has_last_type ty (type_of y) ys) h)

module _ (c : Setting) (found : slice_get c.functions c.number ≡ Some c.code) (globals : List DataObject) (signatures : List Signature)
    (structs : All (IsLawfulStruct c.structs) c.structs) (lawful : IsTrue (list_all (is_lawful_local c.structs) c.locals)) (statics : c.statics ≡ length globals)
    (functions : (n : ℕ) (f : Signature) → slice_get signatures n ≡ Some f → IsCallable c n f) where
  abbrev K : Context
  K = context_in c globals signatures

  abbrev T : Expr → Type 0
  T x = IsTrue (is_typed K x)

  -- what is well typed: the rule of its form holds, and its parts are well typed

  one_part : (ty : PlainType) (z x : Expr) → IsTrue (is_fit c.structs ty && has_rule K z && is_typed K x) → IsTrue (has_rule K z) × T x
  one_part ty z x h = one (is_fit c.structs ty) (has_rule K z) (is_typed K x) h

  two_parts : (ty : PlainType) (z x y : Expr) → IsTrue (is_fit c.structs ty && has_rule K z && is_typed K x && is_typed K y) → IsTrue (has_rule K z) × T x × T y
  two_parts ty z x y h = two (is_fit c.structs ty) (has_rule K z) (is_typed K x) (is_typed K y) h

  -- ---- forms that are short

  number_meets : (ty : PlainType) (n : ℕ) → T (Number ty n) → ExprMeets c (Number ty n)
  number_meets ty n h =
      let k = number_known ty n (back (is_fit c.structs ty) (has_rule K (Number ty n)) h) in
      subst (λ z. ExprMeets c (Number z n)) (sym k.is) ((forms c found).numbers k.type n k.word)

  address_meets : (ty : PlainType) (x : Expr) → IsTrue (is_same_type ty (Pointer (type_of x))) → PlaceMeets c x → ExprMeets c (Unary ty u.Address x)
  address_meets ty x h hx = subst (λ z. ExprMeets c (Unary z u.Address x)) (sym (same ty (Pointer (type_of x)) h)) ((accesses c found).addresses (type_of x) x hx)

  whole : (x : Expr) → T x → IsTrue (is_valid_type c.structs (type_of x))
  whole x h = types K x h

  target_meets : (ty : PlainType) (x : Expr) → IsTrue (is_valid_type c.structs ty) → IsTrue (points_to c.structs ty (type_of x)) → ExprMeets c x → ExprMeets c (Unary ty u.Dereference x)
  target_meets ty x t h hx = (accesses c found).targets ty ty x (whole_known c.structs ty t) (pointer_to_known c.structs ty (type_of x) h).is hx

  target_place_meets : (ty : PlainType) (x : Expr) → IsTrue (points_to c.structs ty (type_of x)) → ExprMeets c x → PlaceMeets c (Unary ty u.Dereference x)
  target_place_meets ty x h hx = (places c found).targets ty ty x (pointer_to_known c.structs ty (type_of x) h).is hx

  field_meets : (ty : PlainType) (x : Expr) (member : ℕ) → IsTrue (is_valid_type c.structs ty) → IsTrue (is_member c.structs ty (type_of x) member) → PlaceMeets c x → ExprMeets c (Field ty x member)
  field_meets ty x member t h hx = (accesses c found).members ty x member (whole_known c.structs ty t) (within c K refl structs ty (type_of x) member h) hx

  field_place_meets : (ty : PlainType) (x : Expr) (member : ℕ) → IsTrue (is_member c.structs ty (type_of x) member) → PlaceMeets c x → PlaceMeets c (Field ty x member)
  field_place_meets ty x member h hx = (places c found).members ty x member (within c K refl structs ty (type_of x) member h) hx

  -- what has a member is behind a pointer
  behind : (ty : PlainType) (z : PlainType) (member : ℕ) → IsTrue (is_member c.structs ty (target_of z) member) → z ≡ Pointer (target_of z)
  behind ty (Pointer t) member h = refl
  behind ty Void member h = no_true h
  behind ty (Int n s) member h = no_true h
  behind ty (Array t n) member h = no_true h
  behind ty (Struct n) member h = no_true h

  arrow_meets : (ty : PlainType) (x : Expr) (member : ℕ) → IsTrue (is_valid_type c.structs ty) → IsTrue (is_member c.structs ty (target_of (type_of x)) member) → ExprMeets c x → ExprMeets c (Arrow ty x member)
  arrow_meets ty x member t h hx =
      (accesses c found).arrows ty (target_of (type_of x)) x member (whole_known c.structs ty t) (behind ty (type_of x) member h) (within c K refl structs ty (target_of (type_of x)) member h) hx

  arrow_place_meets : (ty : PlainType) (x : Expr) (member : ℕ) → IsTrue (is_member c.structs ty (target_of (type_of x)) member) → ExprMeets c x → PlaceMeets c (Arrow ty x member)
  arrow_place_meets ty x member h hx = (places c found).arrows ty (target_of (type_of x)) x member (behind ty (type_of x) member h) (within c K refl structs ty (target_of (type_of x)) member h) hx

  -- the struct of a member is a place in memory
  struct_memory : (ty : PlainType) (x : Expr) (member : ℕ) → T x → IsTrue (is_place x && is_member c.structs ty (type_of x) member) → IsTrue (is_in_memory c.locals x)
  struct_memory ty x member t h =
      large_memory K lawful x t (front (is_place x) (is_member c.structs ty (type_of x) member) h) (member_struct K ty (type_of x) member (back (is_place x) (is_member c.structs ty (type_of x) member) h))

  -- ---- all forms

  mutual
    pub expr_meets : (x : Expr) → T x → ExprMeets c x
    expr_meets (Number ty n) h = number_meets ty n h
    expr_meets (Local ty k) h = local_meets c found globals signatures structs lawful statics ty k h
    expr_meets (Global ty k) h = global_meets c found globals signatures structs lawful statics ty k h
    expr_meets (Call ty callee xs) h =
        let all = back (is_fit c.structs ty && has_rule K (Call ty callee xs)) (are_typed K xs) h in
        let rule = back (is_fit c.structs ty) (has_rule K (Call ty callee xs)) (front (is_fit c.structs ty && has_rule K (Call ty callee xs)) (are_typed K xs) h) in
        call_meets c found K functions ty callee xs (λ ts g s. arguments_meet ts xs all g s) rule
    expr_meets (Unary ty u.Address x) h =
        let o = one_part ty (Unary ty u.Address x) x h in
        address_meets ty x (front (is_same_type ty (Pointer (type_of x))) (is_in_memory c.locals x) o.0) (place_meets x o.1 (back (is_same_type ty (Pointer (type_of x))) (is_in_memory c.locals x) o.0))
    expr_meets (Unary ty u.Dereference x) h = let o = one_part ty (Unary ty u.Dereference x) x h in target_meets ty x (whole (Unary ty u.Dereference x) h) o.0 (expr_meets x o.1)
    expr_meets (Unary ty u.Increment x) h =
        let o = one_part ty (Unary ty u.Increment x) x h in
        let r = front (has_step_type c.structs ty (type_of x)) (is_place x) o.0 in
        (steps_meet c found globals signatures structs lawful statics x o.1 (back (has_step_type c.structs ty (type_of x)) (is_place x) o.0) (λ m. place_meets x o.1 m) ty r).increments
    expr_meets (Unary ty u.Decrement x) h =
        let o = one_part ty (Unary ty u.Decrement x) x h in
        let r = front (has_step_type c.structs ty (type_of x)) (is_place x) o.0 in
        (steps_meet c found globals signatures structs lawful statics x o.1 (back (has_step_type c.structs ty (type_of x)) (is_place x) o.0) (λ m. place_meets x o.1 m) ty r).decrements
    expr_meets (Unary ty u.Not x) h = let o = one_part ty (Unary ty u.Not x) x h in not_meets c found structs ty x o.0 (expr_meets x o.1)
    expr_meets (Unary ty u.Plus x) h = let o = one_part ty (Unary ty u.Plus x) x h in plus_meets c found structs ty x o.0 (expr_meets x o.1)
    expr_meets (Unary ty u.Minus x) h = let o = one_part ty (Unary ty u.Minus x) x h in minus_meets c found structs ty x o.0 (expr_meets x o.1)
    expr_meets (Unary ty u.Invert x) h = let o = one_part ty (Unary ty u.Invert x) x h in invert_meets c found structs ty x o.0 (expr_meets x o.1)
    expr_meets (Binary ty op x y) h =
        let o = two_parts ty (Binary ty op x y) x y h in
        binary_meets c found structs x y (whole x o.1) (whole y o.2) (expr_meets x o.1) (expr_meets y o.2) op ty o.0
    expr_meets (Assign ty op x y) h =
        let o = two_parts ty (Assign ty op x y) x y h in
        let p = is_place x in
        let s = is_same_type (type_of x) ty in
        let r = has_assigned_type c.structs op (type_of x) (type_of y) in
        assign_meets c found globals signatures structs lawful statics x o.1 (front p s (front (p && s) r o.0)) (λ m. place_meets x o.1 m) ty y (same (type_of x) ty (back p s (front (p && s) r o.0))) (expr_meets y o.2) op (back (p && s) r o.0)
    expr_meets (Conditional ty x y z) h =
        let o = three (is_fit c.structs ty) (has_rule K (Conditional ty x y z)) (is_typed K x) (is_typed K y) (is_typed K z) h in
        choice_meets c found structs ty x y z o.0 (expr_meets x o.1) (expr_meets y o.2) (expr_meets z o.3)
    expr_meets (Cast ty x) h = let o = one_part ty (Cast ty x) x h in cast_meets c found globals signatures lawful ty x o.1 (expr_meets x o.1) o.0
    expr_meets (Convert ty x) h = let o = one_part ty (Convert ty x) x h in conversion_meets c found globals signatures lawful ty x o.1 (expr_meets x o.1) (λ m. place_meets x o.1 m) o.0
    expr_meets (Index ty x y) h =
        let o = two_parts ty (Index ty x y) x y h in
        element_meets c found structs x y (whole x o.1) (whole y o.2) (expr_meets x o.1) (expr_meets y o.2) ty (whole (Index ty x y) h) o.0
    expr_meets (Field ty x member) h =
        let o = one_part ty (Field ty x member) x h in
        field_meets ty x member (whole (Field ty x member) h) (back (is_place x) (is_member c.structs ty (type_of x) member) o.0) (place_meets x o.1 (struct_memory ty x member o.1 o.0))
    expr_meets (Arrow ty x member) h = let o = one_part ty (Arrow ty x member) x h in arrow_meets ty x member (whole (Arrow ty x member) h) o.0 (expr_meets x o.1)
    expr_meets (Postfix ty op x) h =
        let o = one_part ty (Postfix ty op x) x h in
        let r = front (has_step_type c.structs ty (type_of x)) (is_place x) o.0 in
        (steps_meet c found globals signatures structs lawful statics x o.1 (back (has_step_type c.structs ty (type_of x)) (is_place x) o.0) (λ m. place_meets x o.1 m) ty r).postfixes op
    expr_meets (Comma ty no_exprs) h = no_true (back (is_fit c.structs ty) (are_operands ty no_exprs) (front (is_fit c.structs ty && are_operands ty no_exprs) (are_typed K no_exprs) h))
    expr_meets (Comma ty (more_exprs x no_exprs)) h =
        no_true (back (is_fit c.structs ty) (are_operands ty (more_exprs x no_exprs)) (front (is_fit c.structs ty && are_operands ty (more_exprs x no_exprs)) (are_typed K (more_exprs x no_exprs)) h))
    expr_meets (Comma ty (more_exprs x (more_exprs y ys))) h =
        let xs = more_exprs x (more_exprs y ys) in
        let all = back (is_fit c.structs ty && are_operands ty xs) (are_typed K xs) h in
        let rule = back (is_fit c.structs ty) (are_operands ty xs) (front (is_fit c.structs ty && are_operands ty xs) (are_typed K xs) h) in
        (operands c found).commas ty x (more_exprs y ys) (last_is ty x (more_exprs y ys) rule) (expr_meets x (front (is_typed K x) (are_typed K (more_exprs y ys)) all)) (all_meet (more_exprs y ys) (back (is_typed K x) (are_typed K (more_exprs y ys)) all))

    pub place_meets : (x : Expr) → T x → IsTrue (is_in_memory c.locals x) → PlaceMeets c x
    place_meets (Local ty k) h m = local_place_meets c found globals signatures structs lawful statics ty k m
    place_meets (Global ty k) h m = global_place_meets c found globals signatures structs lawful statics ty k h
    place_meets (Unary ty u.Dereference x) h m = let o = one_part ty (Unary ty u.Dereference x) x h in target_place_meets ty x o.0 (expr_meets x o.1)
    place_meets (Unary ty u.Address x) h m = no_true m
    place_meets (Unary ty u.Increment x) h m = no_true m
    place_meets (Unary ty u.Decrement x) h m = no_true m
    place_meets (Unary ty u.Not x) h m = no_true m
    place_meets (Unary ty u.Plus x) h m = no_true m
    place_meets (Unary ty u.Minus x) h m = no_true m
    place_meets (Unary ty u.Invert x) h m = no_true m
    place_meets (Index ty x y) h m =
        let o = two_parts ty (Index ty x y) x y h in
        element_place_meets c found structs x y (whole x o.1) (whole y o.2) (expr_meets x o.1) (expr_meets y o.2) ty (whole (Index ty x y) h) o.0
    place_meets (Field ty x member) h m =
        let o = one_part ty (Field ty x member) x h in
        field_place_meets ty x member (back (is_place x) (is_member c.structs ty (type_of x) member) o.0) (place_meets x o.1 m)
    place_meets (Arrow ty x member) h m = let o = one_part ty (Arrow ty x member) x h in arrow_place_meets ty x member o.0 (expr_meets x o.1)
    place_meets (Number ty n) h m = no_true m
    place_meets (Call ty callee xs) h m = no_true m
    place_meets (Binary ty op x y) h m = no_true m
    place_meets (Assign ty op x y) h m = no_true m
    place_meets (Conditional ty x y z) h m = no_true m
    place_meets (Cast ty x) h m = no_true m
    place_meets (Convert ty x) h m = no_true m
    place_meets (Postfix ty op x) h m = no_true m
    place_meets (Comma ty xs) h m = no_true m

    arguments_meet : (ts : List PlainType) (xs : Exprs) → IsTrue (are_typed K xs) → IsTrue (are_arguments ts xs) → IsTrue (list_all is_scalar ts) → ArgumentsMeet c ts xs
    arguments_meet [] no_exprs h g s = tt
    arguments_meet [] (more_exprs x xs) h g s = no_true g
    arguments_meet (t ∷ ts) no_exprs h g s = no_true g
    arguments_meet (t ∷ ts) (more_exprs x xs) h g s = (
      same (type_of x) t (front (is_same_type (type_of x) t) (are_arguments ts xs) g),
      scalar_known t (front (is_scalar t) (list_all is_scalar ts) s),
      expr_meets x (front (is_typed K x) (are_typed K xs) h),
      arguments_meet ts xs (back (is_typed K x) (are_typed K xs) h) (back (is_same_type (type_of x) t) (are_arguments ts xs) g) (back (is_scalar t) (list_all is_scalar ts) s),
    )

    all_meet : (xs : Exprs) → IsTrue (are_typed K xs) → AllOperandsMeet c xs
    all_meet no_exprs h = tt
    all_meet (more_exprs x xs) h = (expr_meets x (front (is_typed K x) (are_typed K xs) h), all_meet xs (back (is_typed K x) (are_typed K xs) h))

-- ---- a function of a unit

signature_found : (u : TypedUnit) (n : ℕ) (f : Signature) (o : Option TypedFn) → slice_get u.functions n ≡ o → option_map signature_of o ≡ Some f → (g : TypedFn) × (slice_get u.functions n ≡ Some g) × (signature_of g ≡ f)
signature_found u n f None e h = let clash : ⊥ = cc in absurd clash
signature_found u n f (Some g) e h = (g, e, cc)

callable : (u : TypedUnit) (f : TypedFn) (c : Setting) → IsTypedUnit u → IsSetting u f c → (n : ℕ) (s : Signature) → slice_get (map signature_of u.functions) n ≡ Some s → IsCallable c n s
callable u f c typed setting n s e =
    let g = signature_found u n s (slice_get u.functions n) refl (sym (slice_get-map signature_of u.functions n) ∙ e) in
    let well : IsTypedFn u g.0 = all_at (IsTypedFn u) u.functions n g.0 typed.functions g.1 in
    subst (λ z. IsCallable c n z) g.2
    (record {
      meets = setting.calls n g.0 g.1;
      result = subst (λ ds. IsTrue (is_result ds (type_view g.0.result))) (sym setting.structs) well.result;
      scalars = well.scalars;
    })

-- what the names of a function name, by its setting
abbrev names_of : TypedUnit → List StructDef → List l.Local → Context
names_of u ds ls = record { structs = ds; globals = u.globals; functions = map signature_of u.functions; locals = ls }

context_is : (u : TypedUnit) (f : TypedFn) (c : Setting) → IsSetting u f c → context_of u f ≡ context_in c u.globals (map signature_of u.functions)
context_is u f c setting = ap (λ ds. names_of u ds f.locals) (sym setting.structs) ∙ ap (λ ls. names_of u c.structs ls) (sym setting.locals)

structs_lawful : (u : TypedUnit) (f : TypedFn) (c : Setting) → IsTypedUnit u → IsSetting u f c → All (IsLawfulStruct c.structs) c.structs
structs_lawful u f c typed setting = subst (λ ds. All (IsLawfulStruct ds) ds) (sym setting.structs) typed.structs

locals_lawful : (u : TypedUnit) (f : TypedFn) (c : Setting) → IsTypedFn u f → IsSetting u f c → IsTrue (list_all (is_lawful_local c.structs) c.locals)
locals_lawful u f c well setting =
    subst (λ ls. IsTrue (list_all (is_lawful_local c.structs) ls)) (sym setting.locals) (subst (λ ds. IsTrue (list_all (is_lawful_local ds) f.locals)) (sym setting.structs) well.locals)

pub expressions_meet : ExpressionsMeet
expressions_meet u f c typed well setting x h =
    expr_meets c setting.code u.globals (map signature_of u.functions) (structs_lawful u f c typed setting) (locals_lawful u f c well setting) setting.statics (callable u f c typed setting) x
    (subst (λ k. IsTrue (is_typed k x)) (context_is u f c setting) h)

pub places_meet : MemoryPlacesMeet
places_meet u f c typed well setting x h m =
    place_meets c setting.code u.globals (map signature_of u.functions) (structs_lawful u f c typed setting) (locals_lawful u f c well setting) setting.statics (callable u f c typed setting) x
    (subst (λ k. IsTrue (is_typed k x)) (context_is u f c setting) h) (subst (λ ls. IsTrue (is_in_memory ls x)) (sym setting.locals) m)
