-- The laws of the forms at one setting, and facts on the parts of well typed expressions.
use Rattle.std.proofs.Common.{◌≡◌, ◌+◌, ◌≤◌, ℕ, nat_le, Bool, ◌&&◌, IsTrue, List, Option, Some, None, refl, subst, arith}
use Rattle.std.specs.Prelude.{All, slice_get}
use Rattle.mem_objects.specs.declared.TheConstants.{MOST_DATA}
use Rattle.c_typed_tree.specs.declared.types.StructDef.{StructDef}
use Rattle.c_typed_tree.specs.declared.types.Member.{Member}
use Rattle.c_typed_tree.specs.Types.{PlainType, Void, Int, Pointer, Array, Struct}
use Rattle.c_typed_tree.specs.View.{type_view}
use Rattle.c_typed_tree.specs.Layout.{is_complete, is_object, size_of, align_of, struct_member}
use Rattle.c_typed_tree.specs.Expressions.{Expr, Number, Local, Global, Call, Unary, Binary, Assign, Conditional, Cast, Convert, Index, Field, Arrow, Postfix, Comma, type_of}
use Rattle.c_typed_tree.specs.Typing.{Context, depth_behind, depth_of, is_fit, is_valid_type, has_member_type, is_member, has_rule, is_typed, are_typed}
use Rattle.c_typed_tree.specs.Lawful.{IsLawfulStruct, is_object_type}
use Rattle.c_semantics.specs.Objects.{offset_of}
use Rattle.lowering_expression_laws.specs.Parts.{Setting}
use Rattle.lowering_expression_laws.specs.Laws.{Forms}
use Rattle.lowering_expression_laws.proofs.Forms as form
use Rattle.lowering_expression_laws.proofs.Choices as choice
use Rattle.lowering_expression_laws.specs.lowering_place_laws.Laws.{MemberIsWithin, EachPlaceMeets, Accesses}
use Rattle.lowering_expression_laws.proofs.LoweringPlaceLaws.Places as place
use Rattle.lowering_expression_laws.proofs.LoweringPlaceLaws.Accesses as access
use Rattle.lowering_expression_laws.specs.lowering_access_laws.Laws.{IsWholeStruct}
use Rattle.lowering_expression_laws.specs.lowering_assignment_laws.Laws.{Locals, Assignments}
use Rattle.lowering_expression_laws.proofs.LoweringAssignmentLaws.Locals as local
use Rattle.lowering_expression_laws.proofs.LoweringAssignmentLaws.Assignments as assignment
use Rattle.lowering_expression_laws.specs.lowering_operand_laws.Laws.{OperandForms}
use Rattle.lowering_expression_laws.proofs.LoweringOperandLaws.Operands as operand
use Rattle.lowering_expression_laws.specs.lowering_builtin_laws.Laws.{Builtins}
use Rattle.lowering_expression_laws.proofs.LoweringBuiltinLaws.Builtins as builtin
use Rattle.c_typing_struct_layout.proofs.CLayoutLaws.Truth.{no_true, front, back}
use Rattle.c_typing_struct_layout.proofs.CLayoutLaws.Layouts.{aligned_type, complete_at}
use Rattle.lowering_bounds.proofs.Typing.{same, member_fits}
use Rattle.lowering_expression_laws.proofs.LoweringExpressionTheorem.Types.{all_pass, struct_small, alignment_known}

-- ---- laws

module _ (c : Setting) (found : slice_get c.functions c.number ≡ Some c.code) where
  pub forms : Forms c
  forms = record {
    numbers = form.numbers c found;
    pluses = form.pluses c found;
    negations = form.negations c found;
    complements = form.complements c found;
    operators = λ op t o x y h p same ex ey hx hy. form.operators c found op h t o p same x y ex ey hx hy;
    conversions = λ t o x ex hx. form.conversions c found t o x ex hx;
    casts = λ t o x ex hx. form.casts c found t o x ex hx;
    conjunctions = choice.conjunctions c found;
    disjunctions = choice.disjunctions c found;
    choices = λ ty x y z sx ey ez hx hy hz. choice.choices c found ty x y z sx ey ez hx hy hz;
  }

  pub places : EachPlaceMeets c
  places = record {
    statics = place.statics c found;
    locals = place.locals c found;
    targets = place.targets c found;
    members = place.members c found;
    arrows = place.arrows c found;
  }

  pub accesses : Accesses c
  accesses = record {
    statics = access.statics c found;
    targets = access.targets c found;
    members = access.members c found;
    arrows = access.arrows c found;
    addresses = access.addresses c found;
  }

  pub locals : Locals c
  locals = record { registers = local.registers c found; objects = local.objects c found }

  pub assignments : Assignments c
  assignments = record { registers = assignment.registers c found; objects = assignment.objects c found }

  pub operands : OperandForms c
  operands = record {
    commas = operand.commas c found;
    nots = operand.nots c found;
    drops = operand.drops c found;
    pointers = operand.pointers c found;
    pointer_casts = operand.pointer_casts c found;
  }

  pub builtins : Builtins c
  builtins = record { getchar = builtin.getchar c found; putchar = builtin.putchar c found; abort = builtin.abort c found; exits = builtin.exits c found }

-- ---- types of expressions

module _ (k : Context) where
  first_of_two : (a b : Bool) → IsTrue (a && b) → IsTrue a
  first_of_two a b h = front a b h

  first_of_three : (a b c : Bool) → IsTrue (a && b && c) → IsTrue a
  first_of_three a b c h = front a b (front (a && b) c h)

  first_of_four : (a b c d : Bool) → IsTrue (a && b && c && d) → IsTrue a
  first_of_four a b c d h = first_of_three a b c (front (a && b && c) d h)

  -- the type of an expression is one of the unit
  pub fits : (x : Expr) → IsTrue (is_typed k x) → IsTrue (is_fit k.structs (type_of x))
  fits (Number ty n) h = first_of_two (is_fit k.structs ty) (has_rule k (Number ty n)) h
  fits (Local ty n) h = first_of_two (is_fit k.structs ty) (has_rule k (Local ty n)) h
  fits (Global ty n) h = first_of_two (is_fit k.structs ty) (has_rule k (Global ty n)) h
  fits (Call ty callee xs) h = first_of_three (is_fit k.structs ty) (has_rule k (Call ty callee xs)) (are_typed k xs) h
  fits (Unary ty op x) h = first_of_three (is_fit k.structs ty) (has_rule k (Unary ty op x)) (is_typed k x) h
  fits (Binary ty op x y) h = first_of_four (is_fit k.structs ty) (has_rule k (Binary ty op x y)) (is_typed k x) (is_typed k y) h
  fits (Assign ty op x y) h = first_of_four (is_fit k.structs ty) (has_rule k (Assign ty op x y)) (is_typed k x) (is_typed k y) h
  fits (Conditional ty x y z) h =
      first_of_four (is_fit k.structs ty) (has_rule k (Conditional ty x y z)) (is_typed k x) (is_typed k y) (front (is_fit k.structs ty && has_rule k (Conditional ty x y z) && is_typed k x && is_typed k y) (is_typed k z) h)
  fits (Cast ty x) h = first_of_three (is_fit k.structs ty) (has_rule k (Cast ty x)) (is_typed k x) h
  fits (Convert ty x) h = first_of_three (is_fit k.structs ty) (has_rule k (Convert ty x)) (is_typed k x) h
  fits (Index ty x y) h = first_of_four (is_fit k.structs ty) (has_rule k (Index ty x y)) (is_typed k x) (is_typed k y) h
  fits (Field ty x n) h = first_of_three (is_fit k.structs ty) (has_rule k (Field ty x n)) (is_typed k x) h
  fits (Arrow ty x n) h = first_of_three (is_fit k.structs ty) (has_rule k (Arrow ty x n)) (is_typed k x) h
  fits (Postfix ty op x) h = first_of_three (is_fit k.structs ty) (has_rule k (Postfix ty op x)) (is_typed k x) h
  fits (Comma ty xs) h = first_of_three (is_fit k.structs ty) (has_rule k (Comma ty xs)) (are_typed k xs) h

  pub fit_type : (ty : PlainType) → IsTrue (is_fit k.structs ty) → IsTrue (is_valid_type k.structs ty)
  fit_type ty h = front (is_valid_type k.structs ty) (nat_le (depth_behind ty) 257) h

  pub types : (x : Expr) → IsTrue (is_typed k x) → IsTrue (is_valid_type k.structs (type_of x))
  types x h = fit_type (type_of x) (fits x h)

-- ---- members

-- a member of a struct has a type of objects
pub member_object : (ds : List StructDef) → All (IsLawfulStruct ds) ds → (ty t : PlainType) (member : ℕ) → IsTrue (is_member ds ty t member) → IsTrue (is_object ds ty)
member_object ds lawful ty Void member h = no_true h
member_object ds lawful ty (Int n s) member h = no_true h
member_object ds lawful ty (Pointer t) member h = no_true h
member_object ds lawful ty (Array t n) member h = no_true h
member_object ds lawful ty (Struct n) member h = by (slice_get ds n) refl h
  where
    typed : (d : StructDef) (m : Member) → IsTrue (is_object_type ds (type_view m.ty)) → IsTrue (has_member_type (Some m) ty) → IsTrue (is_object ds ty)
    typed d m h g =
        let own = type_view m.ty in
        let both = front (is_valid_type ds own && is_object ds own) (nat_le (depth_of ds own) 256) h in
        subst (λ z. IsTrue (is_object ds z)) (same own ty g) (back (is_valid_type ds own) (is_object ds own) both)

    found : (d : StructDef) (o : Option Member) → slice_get d.members member ≡ o → slice_get ds n ≡ Some d → IsTrue d.complete → IsTrue (has_member_type o ty) → IsTrue (is_object ds ty)
    found d None e f h g = no_true g
    found d (Some m) e f h g = typed d m (all_pass (λ (z : Member). is_object_type ds (type_view z.ty)) d.members member m (complete_at ds lawful n d f h).types e) g

    by : (o : Option StructDef) → slice_get ds n ≡ o → IsTrue (is_complete o && has_member_type (struct_member o member) ty) → IsTrue (is_object ds ty)
    by None e h = no_true h
    by (Some d) e h = found d (slice_get d.members member) refl e (front d.complete (has_member_type (slice_get d.members member) ty) h) (back d.complete (has_member_type (slice_get d.members member) ty) h)

-- the struct of a member is no larger than the data may be
struct_of_member_small : (ds : List StructDef) → All (IsLawfulStruct ds) ds → (ty t : PlainType) (member : ℕ) → IsTrue (is_member ds ty t member) → size_of ds t ≤ MOST_DATA
struct_of_member_small ds lawful ty Void member h = no_true h
struct_of_member_small ds lawful ty (Int n s) member h = no_true h
struct_of_member_small ds lawful ty (Pointer t) member h = no_true h
struct_of_member_small ds lawful ty (Array t n) member h = no_true h
struct_of_member_small ds lawful ty (Struct n) member h = struct_small ds lawful n (front (is_complete (slice_get ds n)) (has_member_type (struct_member (slice_get ds n) member) ty) h)

-- a member lies within its struct
pub within : (c : Setting) (k : Context) → k.structs ≡ c.structs → All (IsLawfulStruct k.structs) k.structs → (ty t : PlainType) (member : ℕ) → IsTrue (is_member k.structs ty t member) → MemberIsWithin c t member ty
within c k e lawful ty t member h = record {
  lies = subst (λ ds. offset_of ds t member + size_of ds ty ≤ size_of ds t) e
      (omega (arith, member_fits k lawful ty t member (size_of k.structs ty) h (omega arith), struct_of_member_small k.structs lawful ty t member h));
  size = subst (λ ds. size_of ds t ≤ MOST_DATA) e (struct_of_member_small k.structs lawful ty t member h);
}

-- a complete struct is copied whole
pub whole_struct : (c : Setting) → All (IsLawfulStruct c.structs) c.structs → (n : ℕ) → IsTrue (is_valid_type c.structs (Struct n)) → IsTrue (is_object c.structs (Struct n)) → IsWholeStruct c n
whole_struct c lawful n t h = record {
  size = struct_small c.structs lawful n h;
  align = alignment_known (align_of c.structs (Struct n)) (aligned_type c.structs lawful (Struct n) t h);
}
