-- Assignments, `++` and `--`, by the rules of their types and by where the place stands.
use Rattle.std.proofs.Common.{◌≡◌, ◌≤◌, ◌&&◌, ◌||◌, IsTrue, List, Some, None, length, refl, sym, ap, ◌∙◌, subst, inl, inr}
use Rattle.std.specs.Prelude.{◌⊎◌, All, slice_get}
use Rattle.std.specs.List.{list_all}
use Rattle.mem_objects.specs.declared.TheConstants.{MOST_DATA}
use Rattle.mem_objects.specs.declared.DataObject.{DataObject}
use Rattle.bk_arithmetic.specs.declared.integer_type.IntegerType.{IntegerType}
use Rattle.bk_arithmetic.specs.IntegerTypes.{promote}
use Rattle.c_tree.specs.declared.expressions.AssignOp.{AssignOp}
use Rattle.c_tree.specs.declared.expressions.AssignOp.TheVariants as a
use Rattle.c_tree.specs.declared.expressions.BinaryOp.{BinaryOp}
use Rattle.c_tree.specs.declared.expressions.BinaryOp.TheVariants as b
use Rattle.c_tree.specs.declared.expressions.StepOp.{StepOp}
use Rattle.c_tree.specs.declared.expressions.StepOp.TheVariants as step
use Rattle.c_typed_tree.specs.Types.{PlainType, Void, Int, Pointer, Array, Struct}
use Rattle.c_typed_tree.specs.Layout.{is_object, size_of}
use Rattle.c_typed_tree.specs.Constants.{is_integer}
use Rattle.c_typed_tree.specs.Expressions.{Expr, Assign, type_of}
use Rattle.c_typed_tree.specs.Typing.{Context, Signature, is_same_type, is_scalar, is_struct, is_promoted, is_common, is_compound, is_compound_sum, is_compound_shift, has_assigned_type, has_step_type, points_to_object, is_place, is_in_memory, is_valid_type, is_typed}
use Rattle.c_typed_tree.specs.Lawful.{IsLawfulStruct, is_lawful_local}
use Rattle.c_semantics.specs.Operators.{operator_of, operation_type}
use Rattle.lowering_expression_laws.specs.Parts.{Setting, ExprMeets}
use Rattle.lowering_expression_laws.specs.Laws.{IsScalarType}
use Rattle.lowering_expression_laws.specs.lowering_place_laws.Places.{PlaceMeets}
use Rattle.lowering_expression_laws.proofs.LoweringStructLaws.Structs.{structs_and_arrays_meet}
use Rattle.lowering_expression_laws.proofs.LoweringOperandLaws.Operands.{promoted_again}
use Rattle.lowering_expression_laws.specs.lowering_change_laws.Laws.{change_operator, StepsMeet, ChangesMeet}
use Rattle.lowering_expression_laws.proofs.LoweringChangeLaws.Changes.{registers_are_changed, memory_is_changed}
use Rattle.c_typing_struct_layout.proofs.CLayoutLaws.Truth.{no_true, front, back, either}
use Rattle.lowering_bounds.proofs.Typing.{same, large_memory, place_memory}
use Rattle.lowering_expression_laws.proofs.LoweringExpressionTheorem.Types.{integer_known, promoted_known, common_known, object_pointer_known, scalar_known, object_small}
use Rattle.lowering_expression_laws.proofs.LoweringExpressionTheorem.Known.{assignments, whole_struct, types}
use Rattle.lowering_expression_laws.proofs.LoweringExpressionTheorem.Places.{context_in, IsRegister, in_register_of, unregistered_place, place_kind, place_object}

module _ (c : Setting) (found : slice_get c.functions c.number ≡ Some c.code) (globals : List DataObject) (signatures : List Signature)
    (structs : All (IsLawfulStruct c.structs) c.structs) (lawful : IsTrue (list_all (is_lawful_local c.structs) c.locals)) (statics : c.statics ≡ length globals) where
  abbrev K : Context
  K = context_in c globals signatures

  abbrev IsTypedHere : Expr → Type 0
  IsTypedHere x = IsTrue (is_typed K x)

  -- ---- one place

  module _ (x : Expr) (tx : IsTypedHere x) (px : IsTrue (is_place x)) (place : IsTrue (is_in_memory c.locals x) → PlaceMeets c x) where
    abbrev X : PlainType
    X = type_of x

    kind : (in_register_of c x ≡ None) ⊎ IsRegister c x
    kind = place_kind c found globals signatures structs lawful statics x tx

    in_memory : in_register_of c x ≡ None → PlaceMeets c x
    in_memory none = place (place_memory K lawful x tx px none)

    changes : ChangesMeet c x X
    changes = by kind
      where
        by : (in_register_of c x ≡ None) ⊎ IsRegister c x → ChangesMeet c x X
        by (inl none) = memory_is_changed c found X x none (in_memory none)
        by (inr r) =
            subst (λ z. ChangesMeet c z (type_of z)) (sym r.is)
            (registers_are_changed c found r.ty r.number (record { local = r.local; is_there = r.is_there; in_register = r.in_register; is_of_type = r.is_of_type }))

    pointer_small : (target : PlainType) → X ≡ Pointer target → IsTrue (is_object c.structs target) → size_of c.structs target ≤ MOST_DATA
    pointer_small target e h = object_small c.structs structs target (subst (λ z. IsTrue (is_valid_type c.structs z)) e (types K x tx)) h

    -- ---- `++` and `--`

    pub steps_meet : (ty : PlainType) → IsTrue (has_step_type c.structs ty X) → StepsMeet c ty x
    steps_meet ty h =
        subst (λ z. StepsMeet c z x) (same X ty (front (is_same_type X ty) (is_integer X || points_to_object c.structs X) h))
        (either (is_integer X) (points_to_object c.structs X) (λ g. let n = integer_known X g in changes.integer_steps n.type n.is)
        (λ g. let p = object_pointer_known c.structs X g in changes.pointer_steps p.target p.is (pointer_small p.target p.is p.object))
        (back (is_same_type X ty) (is_integer X || points_to_object c.structs X) h))

    -- ---- compound assignments

    module _ (ty : PlainType) (y : Expr) (e : X ≡ ty) (hy : ExprMeets c y) where
      abbrev Y : PlainType
      Y = type_of y

      compound_meets : (op : AssignOp) (o : BinaryOp) → operator_of op ≡ Some o → ((left right : IntegerType) → operation_type o left right ≡ right) → IsTrue (is_compound X Y) → ExprMeets c (Assign ty op x y)
      compound_meets op o is result h =
          let left = integer_known X (front (is_integer X) (is_common X Y) h) in
          let right = common_known X Y (back (is_integer X) (is_common X Y) h) in
          subst (λ z. ExprMeets c (Assign z op x y)) e
          (changes.integers left.type left.is op o right.type y is right.is (subst (λ z. promote z ≡ z) (sym (result left.type right.type)) right.stays) hy)

      shift_meets : (op : AssignOp) (o : BinaryOp) → operator_of op ≡ Some o → ((left right : IntegerType) → operation_type o left right ≡ promote left) → IsTrue (is_compound_shift X Y) → ExprMeets c (Assign ty op x y)
      shift_meets op o is result h =
          let left = integer_known X (front (is_integer X) (is_promoted Y) h) in
          let right = promoted_known Y (back (is_integer X) (is_promoted Y) h) in
          subst (λ z. ExprMeets c (Assign z op x y)) e
          (changes.integers left.type left.is op o right.type y is right.is (subst (λ z. promote z ≡ z) (sym (result left.type right.type)) (promoted_again left.type)) hy)

      sum_meets : (s : StepOp) (o : BinaryOp) → operator_of (change_operator s) ≡ Some o → ((left right : IntegerType) → operation_type o left right ≡ right) → IsTrue (is_compound_sum c.structs X Y) → ExprMeets c (Assign ty (change_operator s) x y)
      sum_meets s o is result h =
          either (is_compound X Y) (points_to_object c.structs X && is_integer Y) (λ g. compound_meets (change_operator s) o is result g)
          (λ g. let p = object_pointer_known c.structs X (front (points_to_object c.structs X) (is_integer Y) g) in
          let n = integer_known Y (back (points_to_object c.structs X) (is_integer Y) g) in
          subst (λ z. ExprMeets c (Assign z (change_operator s) x y)) e (changes.pointers p.target p.is (pointer_small p.target p.is p.object) s n.type y n.is hy)) h

      -- ---- assignments

      set_scalar : IsTrue (is_scalar X) → Y ≡ X → ExprMeets c (Assign ty a.Set x y)
      set_scalar scalar same_type = subst (λ z. ExprMeets c (Assign z a.Set x y)) e (by kind)
        where
          in_register : (r : IsRegister c x) → X ≡ r.ty → ExprMeets c (Assign X a.Set x y)
          in_register r is =
              subst (λ z. ExprMeets c (Assign (type_of z) a.Set z y)) (sym r.is)
              ((assignments c found).registers r.ty r.number r.local y r.is_there r.in_register r.is_of_type (subst IsScalarType is (scalar_known X scalar)) (same_type ∙ is) hy)

          by : (in_register_of c x ≡ None) ⊎ IsRegister c x → ExprMeets c (Assign X a.Set x y)
          by (inl none) = (assignments c found).objects X x y none (scalar_known X scalar) same_type (in_memory none) hy
          by (inr r) = in_register r (ap type_of r.is)

      set_struct : (z : PlainType) → X ≡ z → IsTrue (is_struct z) → Y ≡ X → ExprMeets c (Assign ty a.Set x y)
      set_struct Void is h same_type = no_true h
      set_struct (Int n s) is h same_type = no_true h
      set_struct (Pointer t) is h same_type = no_true h
      set_struct (Array t n) is h same_type = no_true h
      set_struct (Struct n) is h same_type =
          let inside = large_memory K lawful x tx px (ap is_scalar is) in
          let none = unregistered_place c found globals signatures structs lawful statics x inside in
          let whole = whole_struct c structs n (subst (λ z. IsTrue (is_valid_type c.structs z)) is (types K x tx)) (subst (λ z. IsTrue (is_object c.structs z)) is (place_object c found globals signatures structs lawful statics x tx px)) in
          subst (λ z. ExprMeets c (Assign z a.Set x y)) (sym is ∙ e) ((structs_and_arrays_meet c found).structs n x y none (same_type ∙ is) whole (place inside) hy)

      set_meets : IsTrue (is_same_type Y X && (is_scalar X || is_struct X)) → ExprMeets c (Assign ty a.Set x y)
      set_meets h =
          let same_type = same Y X (front (is_same_type Y X) (is_scalar X || is_struct X) h) in
          either (is_scalar X) (is_struct X) (λ g. set_scalar g same_type) (λ g. set_struct X refl g same_type) (back (is_same_type Y X) (is_scalar X || is_struct X) h)

      pub assign_meets : (op : AssignOp) → IsTrue (has_assigned_type c.structs op X Y) → ExprMeets c (Assign ty op x y)
      assign_meets a.Set h = set_meets h
      assign_meets a.Multiply h = compound_meets a.Multiply b.Multiply refl (λ l r. refl) h
      assign_meets a.Divide h = compound_meets a.Divide b.Divide refl (λ l r. refl) h
      assign_meets a.Remainder h = compound_meets a.Remainder b.Remainder refl (λ l r. refl) h
      assign_meets a.Add h = sum_meets step.Increment b.Add refl (λ l r. refl) h
      assign_meets a.Subtract h = sum_meets step.Decrement b.Subtract refl (λ l r. refl) h
      assign_meets a.ShiftLeft h = shift_meets a.ShiftLeft b.ShiftLeft refl (λ l r. refl) h
      assign_meets a.ShiftRight h = shift_meets a.ShiftRight b.ShiftRight refl (λ l r. refl) h
      assign_meets a.And h = compound_meets a.And b.And refl (λ l r. refl) h
      assign_meets a.Xor h = compound_meets a.Xor b.Xor refl (λ l r. refl) h
      assign_meets a.Or h = compound_meets a.Or b.Or refl (λ l r. refl) h
