-- The code of places, and of what stands there.
use Rattle.std.proofs.Common.{◌≡◌, ℕ, ◌+◌, ◌-◌, ◌<◌, ◌≤◌, ◌^◌, ◌%◌, min, ℤ, pos, ◌+ℤ◌, List, [], ◌∷◌, true, ◌&&◌, Some, refl, sym, ap, ◌∙◌, subst, arith, inl, inr}
use Rattle.std.specs.Prelude.{if◌then◌else◌, slice_get}
use Rattle.std.proofs.lemmas.Int.{ints}
use Rattle.mem_model.specs.declared.value.Ptr.{Ptr}
use Rattle.mem_model.specs.declared.value.Value.{Value}
use Rattle.mem_model.specs.declared.value.Value.TheVariants.{Word, Address, Unset}
use Rattle.mem_model.specs.Memory.{Memory}
use Rattle.mem_model.specs.World.{World}
use Rattle.mem_model.specs.Pointers.{ptr_plus, is_live, is_offset, size_at, pointer_plus}
use Rattle.mem_model.specs.Related.{Names, IsValueOf}
use Rattle.mem_model.proofs.Pointers.{when-some, plus_twice}
use Rattle.mem_objects.specs.declared.TheConstants.{MOST_DATA}
use Rattle.c_tree.specs.declared.expressions.UnaryOp.TheVariants as u
use Rattle.c_typed_tree.specs.declared.units.Local.{Local}
use Rattle.c_typed_tree.specs.Types.{PlainType, Void, Pointer}
use Rattle.c_typed_tree.specs.Expressions.{Expr, Global, Unary, Field, Arrow, type_of}
use Rattle.c_typed_tree.specs.Expressions as e
use Rattle.c_semantics.specs.Reasons.{UsesNoValue, UsesDeadObject}
use Rattle.c_semantics.specs.Runs.{CallState, Run, and_then, use_value, pure, or_undefined}
use Rattle.c_semantics.specs.Objects as objects
use Rattle.c_semantics.specs.Objects.{Scope, start_pointer, access, integer_value, read_at, place_pointer, move, move_reason, offset_of, local_place}
use Rattle.c_semantics.specs.Evaluates.{eval, place, member_pointer, target_of}
use Rattle.suifvm_ir.specs.declared.types.VmType.TheVariants.{P64}
use Rattle.suifvm_ir.specs.declared.insn.VmObject as vp
use Rattle.suifvm_ir.specs.declared.insn.VmObject.TheVariants as p
use Rattle.suifvm_ir.specs.declared.insn.VmInsn.TheVariants as n
use Rattle.suifvm_meaning.specs.Operations as vm
use Rattle.suifvm_meaning.specs.Behave.{Registers, set_register}
use Rattle.lowering_code.specs.declared.item.CodeItem.{CodeItem}
use Rattle.lowering_code.specs.Registers.{value_register, address_register, object_index}
use Rattle.lowering_code.specs.Expressions.{address_code, member_plus, place_code}
use Rattle.lowering_states.specs.Places.{CodePlace, next_place}
use Rattle.lowering_states.specs.Runs.{CodeObservation, finish}
use Rattle.lowering_states.specs.model.Opens.{opens}
use Rattle.lowering_states.specs.States.{IsHeld, IsInRegister}
use Rattle.lowering_states.proofs.Steps.{meets_same, used_meets, known_meets}
use Rattle.lowering_states.proofs.States.{kept_all, kept_temporary, value_at, after_same, fits_temporary}
use Rattle.lowering_states.specs.lowering_values.Laws.{IsMoved}
use Rattle.lowering_states.proofs.LoweringExpressionPlaces.Behind.{at_plain}
use Rattle.lowering_expression_laws.specs.Parts.{Setting, first_depth, EndsSo, Stands, ExprMeets}
use Rattle.lowering_expression_laws.proofs.Forms.{insn_on, bound_run}
use Rattle.lowering_expression_laws.specs.lowering_place_laws.Places.{IsBase, left_of, PlaceMeets}
use Rattle.lowering_expression_laws.specs.lowering_place_laws.Laws.{MemberIsWithin}

-- ---- pointers

pub held_pointer : (t o : PlainType) (v : Value) → IsHeld (Pointer t) v → IsHeld (Pointer o) v
held_pointer t o (Word k) h = h
held_pointer t o (Address q) h = h
held_pointer t o Unset h = h

-- a pointer that is moved is an address
pub moved_held : (m : Memory) (b u : Value) (z : ℤ) (t : PlainType) → pointer_plus m b z ≡ Some u → IsHeld (Pointer t) u
moved_held m (Word k) u z t e = absurd (cc)
moved_held m Unset u z t e = absurd (cc)
moved_held m (Address q) u z t e = subst (λ v. IsHeld (Pointer t) v) (when-some (is_live m q && is_offset (q.offset +ℤ z) (size_at m q)) (Address (ptr_plus q z)) u e).1 tt

plus_nothing : (z : ℤ) → z +ℤ pos 0 ≡ z
plus_nothing z = omega (arith, ints)

-- moved by nothing a pointer is itself
pub same_moved : (m : Memory) (b u : Value) → pointer_plus m b (pos 0) ≡ Some u → u ≡ b
same_moved m (Word k) u e = absurd (cc)
same_moved m Unset u e = absurd (cc)
same_moved m (Address q) u e =
    sym (when-some (is_live m q && is_offset (q.offset +ℤ pos 0) (size_at m q)) (Address (ptr_plus q (pos 0))) u e).1
    ∙ ap (λ z. Address (record { object = q.object; offset = z })) (plus_nothing q.offset)

-- the first byte of an object moved by so many bytes
abbrev pub byte_of : (object plus : ℕ) → Value
byte_of o plus = Address (record { object = o; offset = pos plus })

byte_moved : (m : Memory) (o plus : ℕ) (u : Value) → IsMoved m (start_pointer o) plus u → u ≡ byte_of o plus
byte_moved m o plus u (inl h) = h.1 ∙ ap (byte_of o) (sym h.0)
byte_moved m o plus u (inr h) =
    let q : Ptr = record { object = o; offset = pos 0 } in
    let sum : 0 + plus ≡ plus = omega arith in
    sym (when-some (is_live m q && is_offset (q.offset +ℤ pos plus) (size_at m q)) (Address (ptr_plus q (pos plus))) u h).1 ∙ ap (λ k. byte_of o k) sum

pub byte_base : (m : Memory) (o plus : ℕ) → IsBase m (byte_of o plus) 0 (start_pointer o) plus
byte_base m o plus u h = inl (refl, byte_moved m o plus u h)

-- a place moved to a member
member_base : (m : Memory) (base at : Value) (left off plus : ℕ) (moved : Value) → IsBase m base left at (off + plus) → pointer_plus m at (pos off) ≡ Some moved → IsBase m base left moved plus
member_base m base at left off plus moved h e u (inl k) =
    h u (inr (subst (λ z. pointer_plus m at (pos z) ≡ Some u) (sym (sum k.0)) (e ∙ ap Some (sym k.1))))
  where
    sum : plus ≡ 0 → off + plus ≡ off
    sum z = omega (arith, z)
member_base m base at left off plus moved h e u (inr k) = h u (inr (plus_twice m at moved u (pos off) (pos plus) e k))

pub own_base : (m : Memory) (at : Value) (plus : ℕ) → IsBase m at plus at plus
own_base m at plus u h = h

-- the bytes to a member are exact
pub exact : (n : ℕ) → n ≤ MOST_DATA → min n (2 ^ 63 - 1) ≡ n
exact n le = omega (arith, le)

pub long_word : (n : ℕ) → n ≤ MOST_DATA → n % 2 ^ 64 ≡ n
long_word n le = omega (arith, le)

module _ (c : Setting) (found : slice_get c.functions c.number ≡ Some c.code) where
  abbrev L : ℕ
  L = first_depth c

  -- the address of an object comes into the register of pointers at a depth
  pub address_meets : {o : CodeObservation} (d : ℕ) (to : vp.VmObject) (plus : ℕ) (rest : List CodeItem) (heads : List ℕ) (q : CodePlace) (r : Registers) (w : World) (m : Memory) → Stands c heads q (address_code L d to plus rest)
      → EndsSo c o (next_place q) (set_register (address_register L d) (vm.place_address c.own to plus) r) w m → EndsSo c o q r w m
  address_meets d to plus rest heads q r w m at next =
      insn_on c found (n.LoadAddress (address_register L d) to plus) q r w m (vm.place_address c.own to plus ∷ []) at.has.0 refl refl next

  pub address_of : (f : Names) (o name plus : ℕ) → f o ≡ Some name → IsValueOf f (byte_of o plus) (byte_of name plus)
  address_of f o name plus e = (record { object = name; offset = pos plus }, refl, record { object = e; offset = refl })

  -- ---- places

  pub statics : (ty : PlainType) (k : ℕ) → k < c.statics → PlaceMeets c (Global ty k)
  unfolding opens
  statics ty k lt = record {
    by = λ d plus rest heads place f scope r s m K le fits at fit low next.
        let w = byte_of k plus in
        let reg = address_register L d in
        address_meets d (p.Global k) plus rest heads place r s.world m at
        (next (next_place place) w (start_pointer k) f s (set_register reg w r) m (at_plain c.code.blocks c.last c.end _ at) after_same (fits_temporary d P64 w fit) (kept_temporary d P64 w (omega arith) kept_all) tt
        (value_at f w w r reg (address_of f k k plus (fit.statics k lt))) (omega arith) (byte_base s.world.outer.memory k plus));
  }

  pub locals : (ty : PlainType) (k : ℕ) (l : Local) → slice_get c.locals k ≡ Some l → l.in_memory ≡ true → PlaceMeets c (e.Local ty k)
  unfolding opens
  locals ty k l found_local in_memory = record {
    by = λ d plus rest heads place f scope r s m K le fits at fit low next.
        let reg = address_register L d in
        let name = c.own + object_index c.locals k in
        meets_same c.rooms c.functions
        (ap (λ z. finish (local_place scope k z s) K) found_local
        ∙ ap (λ z. finish (if◌then◌else◌ {A = Run objects.ValuePlace} z (λ t. and_then (or_undefined UsesDeadObject (scope k) t) (λ o. pure (objects.At (start_pointer o)))) (pure (objects.Register k)) s) K) in_memory)
        (bound_run c found (or_undefined UsesDeadObject (scope k) s) (λ o. pure (objects.At (start_pointer o))) K place r s.world m
        (known_meets c.rooms c.functions UsesDeadObject (scope k) s (λ o t. K (objects.At (start_pointer o)) t) _ (λ o here.
        let w = byte_of name plus in
        address_meets d (p.Local (object_index c.locals k)) plus rest heads place r s.world m at
        (next (next_place place) (byte_of o plus) (start_pointer o) f s (set_register reg w r) m (at_plain c.code.blocks c.last c.end _ at) after_same (fits_temporary d P64 w fit) (kept_temporary d P64 w (omega arith) kept_all) tt
        (value_at f (byte_of o plus) w r reg (address_of f o name plus (fit.scopes k o here))) (omega arith) (byte_base s.world.outer.memory o plus)))));
  }

  -- the value of a pointer stands in the register of pointers
  pub pointer_in : (f : Names) (d : ℕ) (ty target : PlainType) (v : Value) (q : Registers) → ty ≡ Pointer target → IsInRegister f ty v (q (value_register L d ty)) → IsValueOf f v (q (address_register L d))
  pointer_in f d ty target v q e h = subst (λ z. IsInRegister f z v (q (value_register L d z))) e h

  pub targets : (ty target : PlainType) (x : Expr) → type_of x ≡ Pointer target → ExprMeets c x → PlaceMeets c (Unary ty u.Dereference x)
  unfolding opens
  targets ty target x ex hx = record {
    by = λ d plus rest heads place f scope r s m K le fits at fit low next.
        let run : Value → Run objects.ValuePlace = λ v. pure (objects.At v) in
        bound_run c found (and_then (eval c.structs c.locals c.calls scope x s) (use_value UsesNoValue)) run K place r s.world m
        (bound_run c found (eval c.structs c.locals c.calls scope x s) (use_value UsesNoValue) (λ v t. K (objects.At v) t) place r s.world m
        (hx.by d rest heads place f scope r s m (λ v t. finish (use_value UsesNoValue v t) (λ v t. K (objects.At v) t)) at fit low
        (λ q v g t q1 m1 at1 aft fit1 kept held stands.
        used_meets c.rooms c.functions UsesNoValue v t (λ v t. K (objects.At v) t) _ (λ set.
        next q v v g t q1 m1 at1 aft fit1 kept (held_pointer target Void v (subst (λ z. IsHeld z v) ex held)) (pointer_in g d (type_of x) target v q1 ex stands) le (own_base t.world.outer.memory v plus)))));
  }

  -- a pointer is moved to a member
  pub moved_meets : {k : CodePlace} {r : Registers} {m : Memory} (at : Value) (off : ℕ) (s : CallState) (K : Value → CallState → CodeObservation) → ((u : Value) → pointer_plus s.world.outer.memory at (pos off) ≡ Some u → EndsSo c (K u s) k r s.world m)
      → EndsSo c (finish (move at (pos off) s) K) k r s.world m
  unfolding opens
  moved_meets at off s K h =
      known_meets c.rooms c.functions (move_reason s.world.outer.memory at) (pointer_plus s.world.outer.memory at (pos off)) s K _ h

  pub members : (ty : PlainType) (x : Expr) (member : ℕ) → MemberIsWithin c (type_of x) member ty → PlaceMeets c x → PlaceMeets c (Field ty x member)
  unfolding opens
  members ty x member within hx = record {
    by = λ d plus rest heads p1 f scope r s m K le fits at fit low next.
        let off = offset_of c.structs (type_of x) member in
        let sum : member_plus c.structs (type_of x) member plus ≡ off + plus = exact (off + plus) (omega (arith, within.lies, within.size, fits)) in
        let run : Value → Run objects.ValuePlace = λ v. pure (objects.At v) in
        bound_run c found (and_then (and_then (place c.structs c.locals c.calls scope x s) place_pointer) (member_pointer c.structs (type_of x) member)) run K p1 r s.world m
        (bound_run c found (and_then (place c.structs c.locals c.calls scope x s) place_pointer) (member_pointer c.structs (type_of x) member) (λ v t. K (objects.At v) t) p1 r s.world m
        (bound_run c found (place c.structs c.locals c.calls scope x s) place_pointer (λ v t. finish (member_pointer c.structs (type_of x) member v t) (λ v t. K (objects.At v) t)) p1 r s.world m
        (hx.by d (off + plus) rest heads p1 f scope r s m (λ z t. finish (place_pointer z t) (λ v t. finish (member_pointer c.structs (type_of x) member v t) (λ v t. K (objects.At v) t)))
        (omega (arith, within.lies, within.size, fits)) (omega (arith, within.lies, fits)) (subst (λ k. Stands c heads p1 (place_code L c.structs c.locals d x k rest)) sum at) fit low
        (λ q base v g t q1 m1 at1 aft fit1 kept held stands small is_base.
        moved_meets v off t (λ v t. K (objects.At v) t) (λ u moved.
        let same : left_of c x (off + plus) ≡ left_of c (Field ty x member) plus = ap (left_of c x) (sym sum) in
        next q base u g t q1 m1 at1 aft fit1 kept (moved_held t.world.outer.memory v u (pos off) Void moved) stands (subst (λ k. k ≤ MOST_DATA) same small)
        (subst (λ k. IsBase t.world.outer.memory base k u plus) same (member_base t.world.outer.memory base v (left_of c x (off + plus)) off plus u is_base moved)))))));
  }

  pub arrows : (ty target : PlainType) (x : Expr) (member : ℕ) → type_of x ≡ Pointer target → MemberIsWithin c target member ty → ExprMeets c x → PlaceMeets c (Arrow ty x member)
  unfolding opens
  arrows ty target x member ex within hx = record {
    by = λ d plus rest heads p1 f scope r s m K le fits at fit low next.
        let off = offset_of c.structs target member in
        let same_target : target_of (type_of x) ≡ target = ap target_of ex in
        let sum : left_of c (Arrow ty x member) plus ≡ off + plus = ap (λ z. member_plus c.structs z member plus) same_target ∙ exact (off + plus) (omega (arith, within.lies, within.size, fits)) in
        let run : Value → Run objects.ValuePlace = λ v. pure (objects.At v) in
        bound_run c found (and_then (eval c.structs c.locals c.calls scope x s) (member_pointer c.structs (target_of (type_of x)) member)) run K p1 r s.world m
        (bound_run c found (eval c.structs c.locals c.calls scope x s) (member_pointer c.structs (target_of (type_of x)) member) (λ v t. K (objects.At v) t) p1 r s.world m
        (hx.by d rest heads p1 f scope r s m (λ v t. finish (member_pointer c.structs (target_of (type_of x)) member v t) (λ v t. K (objects.At v) t)) at fit low
        (λ q v g t q1 m1 at1 aft fit1 kept held stands.
        meets_same c.rooms c.functions (ap (λ z. finish (member_pointer c.structs z member v t) (λ v t. K (objects.At v) t)) same_target)
        (moved_meets v off t (λ v t. K (objects.At v) t) (λ u moved.
        next q v u g t q1 m1 at1 aft fit1 kept (moved_held t.world.outer.memory v u (pos off) Void moved) (pointer_in g d (type_of x) target v q1 ex stands)
        (subst (λ k. k ≤ MOST_DATA) (sym sum) (omega (arith, within.lies, within.size, fits)))
        (subst (λ k. IsBase t.world.outer.memory v k u plus) (sym sum) (member_base t.world.outer.memory v v (off + plus) off plus u (own_base t.world.outer.memory v (off + plus)) moved)))))));
  }
