-- Places: what pointers lead to, addresses, steps and members.
use Rattle.std.proofs.Common.{◌≡◌, ℕ, ◌<◌, ◌^◌, nat_le, false, ◌&&◌, ◌||◌, IsTrue, IsFalse, List, Option, Some, None, IfOk, IfSome, refl, sym, ap, ◌∙◌, eq-eqb, mod-eq_of_lt}
use Rattle.bk_arithmetic.specs.declared.integer_type.IntegerType.{IntegerType}
use Rattle.bk_arithmetic.specs.declared.integer_type.IntegerType.TheVariants.{UnsignedLong}
use Rattle.bk_arithmetic.specs.Words.{is_word}
use Rattle.c_tree.specs.declared.expressions.UnaryOp.{UnaryOp}
use Rattle.c_tree.specs.declared.expressions.UnaryOp.TheVariants.{Address, Dereference}
use Rattle.c_tree.specs.declared.expressions.StepOp.{StepOp}
use Rattle.c_typed_tree.specs.declared.types.CType as t
use Rattle.c_typed_tree.specs.declared.types.StructDef.{StructDef}
use Rattle.c_typed_tree.specs.declared.expressions.TExpr as e
use Rattle.c_typed_tree.specs.declared.units.Local as l
use Rattle.c_typed_tree.specs.Types.{PlainType, Pointer}
use Rattle.c_typed_tree.specs.Expressions as form
use Rattle.c_typed_tree.specs.Expressions.{Expr, Unary, Index, Field, Arrow, Postfix, type_of}
use Rattle.c_typed_tree.specs.View.{type_view, expr_view}
use Rattle.c_typed_tree.specs.model.View.{opens}
use Rattle.c_typed_tree.specs.Layout.{is_object, size_of}
use Rattle.c_typed_tree.specs.Constants.{is_integer}
use Rattle.c_typed_tree.specs.Typing.{Context, is_same_type, is_array, is_struct, is_scalar, is_fit, points_to, points_to_object, is_element, is_member, target_of, has_step_type, has_unary_type, is_place, is_in_memory, is_number_of, has_rule, is_typed, depth_behind, most_depth}
use Rattle.c_typing_rules.specs.declared.typed.LvalueKind.{LvalueKind}
use Rattle.c_typing_rules.specs.declared.typed.LvalueKind.TheVariants as p
use Rattle.c_typing_rules.specs.declared.typed.TypedExpression.{TypedExpression}
use Rattle.c_typing_rules.specs.Types.{points_to_struct}
use Rattle.c_typing_rules.specs.Values.{type_of_integer}
use Rattle.c_typing_place_rules.specs.declared.members.FoundMember.{FoundMember}
use Rattle.c_typing_place_rules.specs.Places.{target, pointed_place, object_of, dereference_of, dereference, element_at, element_by_index, index, is_somewhere, address, is_assignable, is_steppable, step_before, postfix_rvalue, step_behind}
use Rattle.c_typing_place_rules.specs.Members.{place_of_member, field_found, is_struct_place, field, arrow_found, arrow, number_rvalue, size}
use Rattle.c_typing_expression_sound.specs.c_type_laws.Typed.{is_memory, IsTypedIn, AreKnown, IsMemberOf}
use Rattle.c_typing_expression_sound.proofs.CTypeLaws.Truth.{no_true, also, three, four, along, either, either_left, either_right, given_true, given_some, if_true}
use Rattle.c_typing_expression_sound.proofs.CTypeLaws.Types.{alike, equal, integer_known, integer_fits, fit_type, pointer_fits, target_depth, target_fits, scalar_no_array, struct_no_array, known_object, known_pointer}
use Rattle.c_typing_expression_sound.proofs.CTypeLaws.Values.{fit_in, value_typed, unary_made}
use Rattle.c_typing_expression_sound.proofs.CTypeLaws.Arithmetic.{plain_integer}

-- ---- what a pointer leads to

abbrev pub TargetIs : Option t.CType → PlainType → Type 0
TargetIs None ty = Unit {0}
TargetIs (Some x) ty = ty ≡ Pointer (type_view x)

target_says : (ty : t.CType) → TargetIs (target ty) (type_view ty)
unfolding target type_view
target_says t.Void = tt
target_says (t.Int n s) = tt
target_says (t.Pointer' _ (t.more_of-CType x t.end_of-CType)) = refl
target_says (t.Array' _ (t.more_of-CType x t.end_of-CType) n) = tt
target_says (t.Struct n) = tt

pub record Leads (ds : List StructDef) (pointer : PlainType) (x : t.CType) : Type 0 where
  pub leads : pointer ≡ Pointer (type_view x)
  pub object : IsTrue (points_to_object ds pointer)

leads_some : (ds : List StructDef) (pointer : PlainType) (o : Option t.CType) → TargetIs o pointer → IsTrue (points_to_object ds pointer) → IfSome o (Leads ds pointer)
leads_some ds pointer None h g = tt
leads_some ds pointer (Some x) h g = record { leads = h; object = g }

pub object_says : (ds : List StructDef) (ty : t.CType) → IfSome (object_of ds ty) (Leads ds (type_view ty))
object_says ds ty =
    given_some (Leads ds (type_view ty)) (points_to_object ds (type_view ty)) _ _ (λ h. leads_some ds (type_view ty) (target ty) (target_says ty) h) (λ h. tt)

-- ---- which rule an operator has

abbrev pub Steps : UnaryOp → Type 0
Steps op = (ds : List StructDef) (ls : List l.Local) (ty : PlainType) (x : Expr) → IsTrue (has_step_type ds ty (type_of x) && is_place x) → IsTrue (has_unary_type ds ls op ty x)

-- ---- members

member_somewhere : (stands : LvalueKind) → IsTrue (is_somewhere (place_of_member stands)) → IsTrue (is_somewhere stands)
member_somewhere p.Nowhere h = h
member_somewhere (p.Local n) h = h
member_somewhere (p.Global n) h = refl
member_somewhere p.Elsewhere h = h

somewhere_member : (stands : LvalueKind) → IsTrue (is_somewhere stands) → IsTrue (is_somewhere (place_of_member stands))
somewhere_member p.Nowhere h = h
somewhere_member (p.Local n) h = h
somewhere_member (p.Global n) h = refl
somewhere_member p.Elsewhere h = h

member_memory : (ls : List l.Local) (stands : LvalueKind) → IsTrue (is_memory ls (place_of_member stands)) → IsTrue (is_memory ls stands)
member_memory ls p.Nowhere h = h
member_memory ls (p.Local n) h = h
member_memory ls (p.Global n) h = refl
member_memory ls p.Elsewhere h = h

-- ---- assignable places

pub assignable_place : (a : TypedExpression) → IsTrue (is_assignable a) → IsTrue (is_somewhere a.place)
assignable_place a h = if_true (is_somewhere a.place) (is_scalar (type_view a.ty) || is_struct (type_view a.ty)) false (λ s w. s) (λ s w. no_true w) h

pub assignable_kind : (a : TypedExpression) → IsTrue (is_assignable a) → IsTrue (is_scalar (type_view a.ty) || is_struct (type_view a.ty))
assignable_kind a h = if_true (is_somewhere a.place) (is_scalar (type_view a.ty) || is_struct (type_view a.ty)) false (λ s w. w) (λ s w. no_true w) h

pub assignable_plain : (a : TypedExpression) → IsTrue (is_assignable a) → IsFalse (is_array (type_view a.ty))
assignable_plain a h = either (is_scalar (type_view a.ty)) (is_struct (type_view a.ty)) (scalar_no_array (type_view a.ty)) (struct_no_array (type_view a.ty)) (assignable_kind a h)

-- ---- in a context

module _ (c : Context) where
  led_typed : (at : ℕ) (ty : t.CType) (x : e.TExpr) → IsTrue (is_typed c (expr_view x)) → type_of (expr_view x) ≡ type_view ty → IsTrue (is_place (expr_view x)) → IsTrue (is_in_memory c.locals (expr_view x))
      → IsTrue (nat_le (depth_behind (type_view ty)) most_depth) → IsTypedIn c (pointed_place at ty x)
  led_typed at ty x h g stands memory depth = record {
    tree = h;
    type = g;
    place = λ s. record { place = stands; memory = λ m. memory; depth = along (λ o. nat_le (depth_behind o) most_depth) g depth };
    array = λ y. refl;
  }

  -- what an operand leads to
  led_object : (ds : List StructDef) (a : TypedExpression) (x : t.CType) → AreKnown ds c.structs → Leads ds (type_view a.ty) x → IsTrue (is_object c.structs (type_view x))
  led_object ds a x known h = known_object ds c.structs known (type_view x) (along (points_to_object ds) (sym h.leads) h.object)

  led_pointer : (ds : List StructDef) (a : TypedExpression) (x : t.CType) → IsTypedIn c a → Leads ds (type_view a.ty) x → IsTrue (is_fit c.structs (Pointer (type_view x)))
  led_pointer ds a x g h = along (is_fit c.structs) (sym h.leads) (fit_in c a g)

  led_points : (ds : List StructDef) (a : TypedExpression) (x : t.CType) → AreKnown ds c.structs → Leads ds (type_view a.ty) x → IsTrue (points_to c.structs (type_view x) (type_view a.ty))
  led_points ds a x known h =
      along (points_to c.structs (type_view x)) h.leads
      (also (is_same_type (type_view x) (type_view x)) (is_object c.structs (type_view x)) (alike (type_view x)) (led_object ds a x known h))

  dereference_of_typed : (ds : List StructDef) (at : ℕ) (a : TypedExpression) (o : Option t.CType) → AreKnown ds c.structs → IsTypedIn c a → IfSome o (Leads ds (type_view a.ty))
      → IfOk (dereference_of at a o) (IsTypedIn c)
  unfolding opens
  dereference_of_typed ds at a None known h k = tt
  dereference_of_typed ds at a (Some x) known h k =
      led_typed at x (e.Unary x Dereference a.tree)
      (three (is_fit c.structs (type_view x)) (has_rule c (Unary (type_view x) Dereference (expr_view a.tree))) (is_typed c (expr_view a.tree))
      (target_fits c.structs (type_view x) (led_pointer ds a x h k)) (along (points_to c.structs (type_view x)) h.type (led_points ds a x known k)) h.tree)
      refl refl refl (target_depth c.structs (type_view x) (led_pointer ds a x h k))

  pub dereference_typed : (ds : List StructDef) (at : ℕ) (a : TypedExpression) → AreKnown ds c.structs → IsTypedIn c a → IfOk (dereference ds at a) (IsTypedIn c)
  dereference_typed ds at a known h = dereference_of_typed ds at a (object_of ds a.ty) known h (object_says ds a.ty)

  -- an element, by either operand
  element_made : (at : ℕ) (x : t.CType) (a b : TypedExpression) → IsTypedIn c a → IsTypedIn c b → IsTrue (is_element c.structs (type_view x) (type_view a.ty) (type_view b.ty))
      → IsTrue (is_fit c.structs (type_view x)) → IsTrue (nat_le (depth_behind (type_view x)) most_depth) → IsTypedIn c (element_at at x a.tree b.tree)
  unfolding opens
  element_made at x a b h g rule fit depth =
      led_typed at x (e.Index x a.tree b.tree)
      (four (is_fit c.structs (type_view x)) (has_rule c (Index (type_view x) (expr_view a.tree) (expr_view b.tree))) (is_typed c (expr_view a.tree)) (is_typed c (expr_view b.tree)) fit
      (along (λ o. is_element c.structs (type_view x) o (type_of (expr_view b.tree))) h.type (along (is_element c.structs (type_view x) (type_view a.ty)) g.type rule)) h.tree g.tree)
      refl refl refl depth

  element_left : (ds : List StructDef) (at : ℕ) (a b : TypedExpression) (o : Option t.CType) → AreKnown ds c.structs → IsTypedIn c a → IsTypedIn c b → IfSome o (Leads ds (type_view a.ty))
      → IfOk (element_by_index at a b (is_integer (type_view b.ty)) o) (IsTypedIn c)
  element_left ds at a b None known h g k = tt
  element_left ds at a b (Some x) known h g k =
      let left = type_view a.ty in
      let right = type_view b.ty in
      given_true (IsTypedIn c) (is_integer right) _ _
      (λ n. element_made at x a b h g
      (either_left (points_to c.structs (type_view x) left && is_integer right) (is_integer left && points_to c.structs (type_view x) right)
      (also (points_to c.structs (type_view x) left) (is_integer right) (led_points ds a x known k) n))
      (target_fits c.structs (type_view x) (led_pointer ds a x h k)) (target_depth c.structs (type_view x) (led_pointer ds a x h k)))
      (λ n. tt)

  element_right : (ds : List StructDef) (at : ℕ) (a b : TypedExpression) (o : Option t.CType) → AreKnown ds c.structs → IsTypedIn c a → IsTypedIn c b → IfSome o (Leads ds (type_view b.ty))
      → IfOk (element_by_index at a b (is_integer (type_view a.ty)) o) (IsTypedIn c)
  element_right ds at a b None known h g k = tt
  element_right ds at a b (Some x) known h g k =
      let left = type_view a.ty in
      let right = type_view b.ty in
      given_true (IsTypedIn c) (is_integer left) _ _
      (λ n. element_made at x a b h g
      (either_right (points_to c.structs (type_view x) left && is_integer right) (is_integer left && points_to c.structs (type_view x) right)
      (also (is_integer left) (points_to c.structs (type_view x) right) n (led_points ds b x known k)))
      (target_fits c.structs (type_view x) (led_pointer ds b x g k)) (target_depth c.structs (type_view x) (led_pointer ds b x g k)))
      (λ n. tt)

  pub index_typed : (ds : List StructDef) (at : ℕ) (a b : TypedExpression) → AreKnown ds c.structs → IsTypedIn c a → IsTypedIn c b → IfOk (index ds at a b) (IsTypedIn c)
  index_typed ds at a b known h g =
      given_true (IsTypedIn c) (points_to_object ds (type_view a.ty)) _ _
      (λ s. element_left ds at a b (object_of ds a.ty) known h g (object_says ds a.ty))
      (λ s. element_right ds at a b (object_of ds b.ty) known h g (object_says ds b.ty))

  -- ---- addresses, of places in memory

  pub address_typed : (at : ℕ) (a : TypedExpression) → IsTypedIn c a → (IsTrue (is_somewhere a.place) → IsTrue (is_memory c.locals a.place)) → IfOk (address at a) (IsTypedIn c)
  unfolding opens
  address_typed at a h memory =
      let own = type_view a.ty in
      given_true (IsTypedIn c) (is_somewhere a.place) _ _
      (λ s. let placed = h.place s in
      unary_made c at (t.Pointer a.ty) Address a.tree h.tree
      (pointer_fits c.structs own (fit_type c.structs own (fit_in c a h)) (along (λ o. nat_le (depth_behind o) most_depth) (sym h.type) placed.depth))
      (also (is_same_type (Pointer own) (Pointer (type_of (expr_view a.tree)))) (is_in_memory c.locals (expr_view a.tree))
      (equal (Pointer own) (Pointer (type_of (expr_view a.tree))) (ap Pointer (sym h.type))) (placed.memory (memory s))) refl)
      (λ s. tt)

  -- ---- steps

  step_rule : (ds : List StructDef) (a : TypedExpression) → AreKnown ds c.structs → IsTypedIn c a → IsTrue (is_assignable a) → IsTrue (is_steppable ds a)
      → IsTrue (has_step_type c.structs (type_view a.ty) (type_of (expr_view a.tree)) && is_place (expr_view a.tree))
  step_rule ds a known h s k =
      let own = type_view a.ty in
      also (has_step_type c.structs own (type_of (expr_view a.tree))) (is_place (expr_view a.tree))
      (along (has_step_type c.structs own) h.type
      (also (is_same_type own own) (is_integer own || points_to_object c.structs own) (alike own)
      (either (is_integer own) (points_to_object ds own) (λ i. either_left (is_integer own) (points_to_object c.structs own) i)
      (λ q. either_right (is_integer own) (points_to_object c.structs own) (known_pointer ds c.structs known own q)) k)))
      (h.place (assignable_place a s)).place

  pub step_before_typed : (ds : List StructDef) (at : ℕ) (op : UnaryOp) (a : TypedExpression) → Steps op → AreKnown ds c.structs → IsTypedIn c a → IfOk (step_before ds at op a) (IsTypedIn c)
  step_before_typed ds at op a steps known h =
      given_true (IsTypedIn c) (is_assignable a) _ _
      (λ s. given_true (IsTypedIn c) (is_steppable ds a) _ _
      (λ k. unary_made c at a.ty op a.tree h.tree (fit_in c a h) (steps c.structs c.locals (type_view a.ty) (expr_view a.tree) (step_rule ds a known h s k)) (assignable_plain a s))
      (λ k. tt))
      (λ s. tt)

  postfix_made : (at : ℕ) (ty : t.CType) (op : StepOp) (x : e.TExpr) → IsTrue (is_typed c (expr_view x)) → IsTrue (is_fit c.structs (type_view ty))
      → IsTrue (has_step_type c.structs (type_view ty) (type_of (expr_view x)) && is_place (expr_view x)) → IsFalse (is_array (type_view ty)) → IsTypedIn c (postfix_rvalue at ty op x)
  unfolding opens
  postfix_made at ty op x h fit rule n =
      value_typed c at ty (e.Postfix ty op x) (three (is_fit c.structs (type_view ty)) (has_rule c (Postfix (type_view ty) op (expr_view x))) (is_typed c (expr_view x)) fit rule h) refl n

  pub step_behind_typed : (ds : List StructDef) (at : ℕ) (op : StepOp) (a : TypedExpression) → AreKnown ds c.structs → IsTypedIn c a → IfOk (step_behind ds at op a) (IsTypedIn c)
  step_behind_typed ds at op a known h =
      given_true (IsTypedIn c) (is_assignable a) _ _
      (λ s. given_true (IsTypedIn c) (is_steppable ds a) _ _
      (λ k. postfix_made at a.ty op a.tree h.tree (fit_in c a h) (step_rule ds a known h s k) (assignable_plain a s))
      (λ k. tt))
      (λ s. tt)

  -- ---- members

  field_made : (at : ℕ) (a : TypedExpression) (m : FoundMember) → IsTypedIn c a → IsMemberOf c (type_view a.ty) m → IsTrue (is_somewhere a.place) → IfOk (field_found at a (Some m)) (IsTypedIn c)
  unfolding opens
  field_made at a m h found s =
      let placed = h.place s in
      let own = type_view m.ty in
      let x = expr_view a.tree in
      record {
        tree = three (is_fit c.structs own) (has_rule c (Field own x m.number)) (is_typed c x) found.fit
            (also (is_place x) (is_member c.structs own (type_of x) m.number) placed.place (along (λ o. is_member c.structs own o m.number) h.type found.member)) h.tree;
        type = refl;
        place = λ q. record { place = placed.place; memory = λ r. placed.memory (member_memory c.locals a.place r); depth = found.depth };
        array = λ y. somewhere_member a.place s;
      }

  pub field_typed : (at : ℕ) (a : TypedExpression) (o : Option FoundMember) → IsTypedIn c a → IfSome o (IsMemberOf c (type_view a.ty)) → IfOk (field at a o) (IsTypedIn c)
  field_typed at a None h found = given_true (IsTypedIn c) (is_struct_place a) _ _ (λ s. tt) (λ s. tt)
  field_typed at a (Some m) h found =
      given_true (IsTypedIn c) (is_struct_place a) _ _
      (λ s. field_made at a m h found (if_true (is_somewhere a.place) (is_struct (type_view a.ty)) false (λ q w. q) (λ q w. no_true w) s))
      (λ s. tt)

  arrow_made : (at : ℕ) (a : TypedExpression) (m : FoundMember) → IsTypedIn c a → IsMemberOf c (target_of (type_view a.ty)) m → IfOk (arrow_found at a (Some m)) (IsTypedIn c)
  unfolding opens
  arrow_made at a m h found =
      let own = type_view m.ty in
      let x = expr_view a.tree in
      led_typed at m.ty (e.Arrow m.ty a.tree m.number)
      (three (is_fit c.structs own) (has_rule c (Arrow own x m.number)) (is_typed c x) found.fit (along (λ o. is_member c.structs own (target_of o) m.number) h.type found.member) h.tree)
      refl refl refl found.depth

  pub arrow_typed : (ds : List StructDef) (at : ℕ) (a : TypedExpression) (o : Option FoundMember) → IsTypedIn c a → IfSome o (IsMemberOf c (target_of (type_view a.ty))) → IfOk (arrow ds at a o) (IsTypedIn c)
  arrow_typed ds at a None h found = given_true (IsTypedIn c) (points_to_struct ds (type_view a.ty)) _ _ (λ s. tt) (λ s. tt)
  arrow_typed ds at a (Some m) h found = given_true (IsTypedIn c) (points_to_struct ds (type_view a.ty)) _ _ (λ s. arrow_made at a m h found) (λ s. tt)

  -- ---- numbers, and sizes

  pub number_typed : (at : ℕ) (u : IntegerType) (word : ℕ) → IsTrue (is_word u word) → IsTypedIn c (number_rvalue at u word)
  unfolding opens
  number_typed at u word h =
      value_typed c at (type_of_integer u) (e.Number (type_of_integer u) word)
      (also (is_fit c.structs (type_view (type_of_integer u))) (has_rule c (form.Number (type_view (type_of_integer u)) word)) (integer_fits c.structs u) (ap (λ o. is_number_of o word) (integer_known u) ∙ h)) refl (plain_integer u)

  pub size_typed : (ds : List StructDef) (at : ℕ) (ty : t.CType) → (IsTrue (is_object ds (type_view ty)) → size_of ds (type_view ty) < 2 ^ 64) → IfOk (size ds at ty) (IsTypedIn c)
  size_typed ds at ty small =
      given_true (IsTypedIn c) (is_object ds (type_view ty)) _ _
      (λ s. number_typed at UnsignedLong (size_of ds (type_view ty)) (eq-eqb _ _ (mod-eq_of_lt (small s)))) (λ s. tt)
