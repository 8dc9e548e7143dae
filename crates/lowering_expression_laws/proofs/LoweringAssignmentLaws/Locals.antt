-- The code of locals.
use Rattle.std.proofs.Common.{◌≡◌, ℕ, ◌+◌, ◌<◌, [], ◌∷◌, true, false, Option, Some, None, length, refl, sym, ap, ◌∙◌, subst, arith, inl, inr}
use Rattle.std.specs.Prelude.{if◌then◌else◌, slice_get}
use Rattle.std.proofs.lemmas.Option.{slice_get_within}
use Rattle.mem_model.specs.declared.value.Value.{Value}
use Rattle.mem_model.specs.declared.value.Value.TheVariants.{Word, Address, Unset}
use Rattle.mem_model.specs.World.{outer_with_memory}
use Rattle.mem_model.specs.Related.{Names, IsValueOf}
use Rattle.bk_arithmetic.specs.Words.{extension}
use Rattle.c_typed_tree.specs.declared.units.Local.{Local}
use Rattle.c_typed_tree.specs.Types.{PlainType}
use Rattle.c_typed_tree.specs.View.{type_view}
use Rattle.c_typed_tree.specs.Expressions.{Expr, type_of}
use Rattle.c_typed_tree.specs.Expressions as e
use Rattle.c_semantics.specs.Reasons.{ReadsUnwritten, UsesDeadObject}
use Rattle.c_semantics.specs.Runs.{CallState, Run, and_then, use_value, pure, or_undefined}
use Rattle.c_semantics.specs.Objects as obj
use Rattle.c_semantics.specs.Objects.{Scope, start_pointer, as_held, read, read_at, local_place}
use Rattle.suifvm_ir.specs.declared.types.VmType.TheVariants.{P64}
use Rattle.suifvm_ir.specs.declared.insn.VmUnaryOp.TheVariants.{Move}
use Rattle.suifvm_ir.specs.declared.insn.VmObject.TheVariants as p
use Rattle.suifvm_ir.specs.declared.insn.VmInsn.TheVariants as n
use Rattle.suifvm_meaning.specs.declared.answer.Answer.TheVariants.{Gives, Fails}
use Rattle.suifvm_meaning.specs.Operations as vm
use Rattle.suifvm_meaning.specs.Effect.{writes}
use Rattle.suifvm_meaning.specs.Behave.{set_register}
use Rattle.lowering_code.specs.Registers.{register_type, value_register, address_register, object_index}
use Rattle.lowering_code.specs.Expressions.{plain_of, register_if, local_code, load_code}
use Rattle.lowering_states.specs.Places.{next_place}
use Rattle.lowering_states.specs.Runs.{CodeObservation, finish}
use Rattle.lowering_states.specs.model.Opens.{opens}
use Rattle.lowering_states.specs.States.{IsHeld, type_at}
use Rattle.lowering_states.proofs.Steps.{meets_same, used_meets, known_meets}
use Rattle.lowering_states.proofs.States.{kept_all, kept_temporary, is_in, is_at, value_at, after_same, fits_temporary}
use Rattle.lowering_states.proofs.LoweringValues.Integers.{integer_of-plain, word_is}
use Rattle.lowering_states.proofs.LoweringValues.Operators.{unary_is}
use Rattle.lowering_states.proofs.LoweringExpressionPlaces.Behind.{at_plain}
use Rattle.lowering_expression_laws.specs.Parts.{Setting, first_depth, Stands, ExprMeets}
use Rattle.lowering_expression_laws.specs.Laws.{IsScalarType}
use Rattle.lowering_expression_laws.proofs.Forms.{word_held, insn_on, bound_run}
use Rattle.lowering_expression_laws.specs.lowering_place_laws.Laws.{HasWholeIntegers}
use Rattle.lowering_expression_laws.proofs.LoweringPlaceLaws.Places.{byte_of, address_meets, address_of}
use Rattle.lowering_expression_laws.proofs.LoweringPlaceLaws.Accesses.{load_on}

-- a value of a scalar type that is set is moved from register to register
pub moves : (f : Names) (ty : PlainType) (v w : Value) → IsScalarType ty → IsHeld ty v → IsValueOf f v w → vm.is_set v ≡ true → vm.unary_answer Move (register_type ty) w ≡ Gives w
moves f ty v w (inl t) held rel set = subst (λ z. vm.unary_answer Move (register_type z) w ≡ Gives w) (sym t.1) (words v (subst (λ z. IsHeld z v) t.1 held) rel set)
  where
    words : (v : Value) → IsHeld (plain_of t.0) v → IsValueOf f v w → vm.is_set v ≡ true → vm.unary_answer Move (register_type (plain_of t.0)) w ≡ Gives w
    words (Word k) h r x = ap (vm.unary_answer Move (register_type (plain_of t.0))) r ∙ unary_is t.0 Move k (word_held t.0 k h) ∙ ap Gives (sym r)
    words (Address a) h r x = absurd h
    words Unset h r x = absurd (cc)
moves f ty v w (inr t) held rel set = subst (λ z. vm.unary_answer Move (register_type z) w ≡ Gives w) (sym t.1) (ap (λ x. if x then Gives w else Fails) (is_set v rel set))
  where
    is_set : (v : Value) → IsValueOf f v w → vm.is_set v ≡ true → vm.is_set w ≡ true
    is_set (Word k) r s = ap vm.is_set r
    is_set (Address a) r s = ap vm.is_set r.1
    is_set Unset r s = absurd (cc)

-- a value that a register holds is read as it is
pub read_as : (ty : PlainType) (v : Value) (s : CallState) (K : Value → CallState → CodeObservation) → IsScalarType ty → IsHeld ty v → vm.is_set v ≡ true → finish (as_held ty v s) K ≡ K v s
unfolding opens
read_as ty v s K (inl t) held set = subst (λ z. finish (as_held z v s) K ≡ K v s) (sym t.1) (words v (subst (λ z. IsHeld z v) t.1 held) set)
  where
    words : (v : Value) → IsHeld (plain_of t.0) v → vm.is_set v ≡ true → finish (as_held (plain_of t.0) v s) K ≡ K v s
    words (Word k) h x = ap (λ z. K (Word (extension z k)) s) (integer_of-plain t.0) ∙ ap (λ z. K (Word z) s) (word_is t.0 k (word_held t.0 k h))
    words (Address a) h x = absurd h
    words Unset h x = absurd (cc)
read_as ty v s K (inr t) held set = ap (λ z. finish (as_held z v s) K) t.1

module _ (c : Setting) (found : slice_get c.functions c.number ≡ Some c.code) where
  abbrev L : ℕ
  L = first_depth c

  -- where a local stands that a register holds
  pub register_place : (k : ℕ) (l : Local) (scope : Scope) → slice_get c.locals k ≡ Some l → l.in_memory ≡ false → local_place scope k (slice_get c.locals k) ≡ pure (obj.Register k)
  unfolding opens
  register_place k l scope e m =
      ap (local_place scope k) e ∙ ap (λ z. if◌then◌else◌ {A = Run obj.ValuePlace} z (λ t. and_then (or_undefined UsesDeadObject (scope k) t) (λ o. pure (obj.At (start_pointer o)))) (pure (obj.Register k))) m

  pub register_is : (k : ℕ) (l : Local) → slice_get c.locals k ≡ Some l → l.in_memory ≡ false → register_if L c.structs c.locals k (slice_get c.locals k) ≡ Some k
  register_is k l e m = ap (register_if L c.structs c.locals k) e ∙ ap (λ z. if◌then◌else◌ {A = Option ℕ} z None (Some k)) m

  object_is : (k : ℕ) (l : Local) → slice_get c.locals k ≡ Some l → l.in_memory ≡ true → register_if L c.structs c.locals k (slice_get c.locals k) ≡ None
  object_is k l e m = ap (register_if L c.structs c.locals k) e ∙ ap (λ z. if◌then◌else◌ {A = Option ℕ} z None (Some k)) m

  pub registers : (ty : PlainType) (k : ℕ) (l : Local) → slice_get c.locals k ≡ Some l → l.in_memory ≡ false → type_view l.ty ≡ ty → IsScalarType ty → ExprMeets c (e.Local ty k)
  unfolding opens
  registers ty k l el em et scalar = record {
    by = λ d rest heads place f scope r s m K at fit low next.
        let reg = value_register L d ty in
        let within : k < length c.locals = slice_get_within c.locals k l el in
        let held : IsHeld ty (s.registers k) = subst (λ z. IsHeld z (s.registers k)) (ap type_at el ∙ et) (fit.held k) in
        let at2 = subst (λ z. Stands c heads place (local_code L c.structs c.locals d ty k z rest)) (register_is k l el em) at in
        let w = r k in
        meets_same c.rooms c.functions (ap (λ z. finish (and_then (z s) (read ty)) K) (register_place k l scope el em))
        (bound_run c found (use_value ReadsUnwritten (s.registers k) s) (as_held ty) K place r s.world m
        (used_meets c.rooms c.functions ReadsUnwritten (s.registers k) s (λ v t. finish (as_held ty v t) K) _ (λ set.
        meets_same c.rooms c.functions (read_as ty (s.registers k) s K scalar held set)
        (insn_on c found (n.Unary Move (register_type ty) reg k) place r s.world m (w ∷ []) at2.has.0 refl
        (ap (λ z. writes z (outer_with_memory s.world.outer m)) (moves f ty (s.registers k) w scalar held (fit.locals k within) set))
        (next (next_place place) (s.registers k) f s (set_register reg w r) m (at_plain c.code.blocks c.last c.end _ at2) after_same (fits_temporary d (register_type ty) w fit)
        (kept_temporary d (register_type ty) w (omega arith) kept_all) held (is_at f ty (s.registers k) w r reg (is_in f ty (s.registers k) w (fit.locals k within))))))));
  }

  pub objects : (ty : PlainType) (k : ℕ) (l : Local) → slice_get c.locals k ≡ Some l → l.in_memory ≡ true → HasWholeIntegers ty → ExprMeets c (e.Local ty k)
  unfolding opens
  objects ty k l el em whole = record {
    by = λ d rest heads place f scope r s m K at fit low next.
        let reg = address_register L d in
        let name = c.own + object_index c.locals k in
        let at2 = subst (λ z. Stands c heads place (local_code L c.structs c.locals d ty k z rest)) (object_is k l el em) at in
        let run : Value → CallState → CodeObservation = λ v t. finish (read_at ty v t) K in
        meets_same c.rooms c.functions
        (ap (λ z. finish (and_then (local_place scope k z s) (read ty)) K) el
        ∙ ap (λ z. finish (and_then (if◌then◌else◌ {A = Run obj.ValuePlace} z (λ t. and_then (or_undefined UsesDeadObject (scope k) t) (λ o. pure (obj.At (start_pointer o)))) (pure (obj.Register k)) s) (read ty)) K) em)
        (bound_run c found (and_then (or_undefined UsesDeadObject (scope k) s) (λ o. pure (obj.At (start_pointer o)))) (read ty) K place r s.world m
        (bound_run c found (or_undefined UsesDeadObject (scope k) s) (λ o. pure (obj.At (start_pointer o))) (λ z t. finish (read ty z t) K) place r s.world m
        (known_meets c.rooms c.functions UsesDeadObject (scope k) s (λ o t. finish (read_at ty (start_pointer o) t) K) _ (λ o here.
        let w = byte_of name 0 in
        address_meets c found d (p.Local (object_index c.locals k)) 0 (load_code L d ty 0 rest) heads place r s.world m at2
        (load_on c found d 0 rest heads f scope r s m K (next_place place) (byte_of o 0) (start_pointer o) f s (set_register reg w r) m after_same (fits_temporary d P64 w fit) (kept_temporary d P64 w (omega arith) kept_all) tt
        (value_at f (byte_of o 0) w r reg (address_of c found f o name 0 (fit.scopes k o here))) (omega arith) (inl (refl, refl)) ty whole next (at_plain c.code.blocks c.last c.end _ at2))))));
  }
