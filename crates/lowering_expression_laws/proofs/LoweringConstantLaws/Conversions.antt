-- The code of null constants that become pointers: the zero moves into the register of pointers; and casts to void, whose
-- code is that of the operand.
use Rattle.std.proofs.Common.{◌≡◌, ℕ, zero, suc, List, [], ◌∷◌, false, Some, refl, sym, ap, ◌∙◌, subst, arith}
use Rattle.std.specs.Prelude.{slice_get}
use Rattle.mem_model.specs.declared.value.Value.{Value}
use Rattle.mem_model.specs.declared.value.Value.TheVariants.{Word, Address, Unset}
use Rattle.mem_model.specs.Memory.{Memory}
use Rattle.mem_model.specs.World.{outer_with_memory}
use Rattle.mem_model.specs.Related.{Names}
use Rattle.bk_arithmetic.specs.declared.integer_type.IntegerType.{IntegerType}
use Rattle.c_typed_tree.specs.Types.{PlainType, Void, Int, Pointer, Array, Struct}
use Rattle.c_typed_tree.specs.Typing.{is_array}
use Rattle.c_typed_tree.specs.Expressions.{Expr, Cast, Convert, type_of}
use Rattle.c_semantics.specs.Runs.{CallState, Run, and_then}
use Rattle.c_semantics.specs.Objects.{Scope}
use Rattle.c_semantics.specs.Operators.{convert}
use Rattle.c_semantics.specs.Evaluates.{eval, place, converted_from}
use Rattle.suifvm_ir.specs.declared.types.VmType.TheVariants.{P64}
use Rattle.suifvm_ir.specs.declared.insn.VmUnaryOp.TheVariants.{Move}
use Rattle.suifvm_ir.specs.declared.insn.VmInsn.{VmInsn}
use Rattle.suifvm_ir.specs.declared.insn.VmInsn.TheVariants as n
use Rattle.suifvm_meaning.specs.Operations as vm
use Rattle.suifvm_meaning.specs.Effect.{writes}
use Rattle.suifvm_meaning.specs.Behave.{Registers, set_register}
use Rattle.lowering_code.specs.declared.item.CodeItem.{CodeItem}
use Rattle.lowering_code.specs.declared.item.CodeItem.TheVariants.{Plain}
use Rattle.lowering_code.specs.Registers.{value_register, address_register}
use Rattle.lowering_code.specs.Expressions.{plain_of, plus_of, conversion_code, expr_code, place_code}
use Rattle.lowering_states.specs.Places.{next_place}
use Rattle.lowering_states.specs.Runs.{CodeObservation, NotDefined, finish}
use Rattle.lowering_states.specs.model.Opens.{opens}
use Rattle.lowering_states.proofs.Steps.{finish-bind, meets_anything, meets_same}
use Rattle.lowering_states.proofs.States.{kept_temporary, value_at, fits_temporary}
use Rattle.lowering_states.proofs.LoweringExpressionPlaces.Behind.{at_plain}
use Rattle.lowering_expression_laws.specs.Parts.{Setting, first_depth, Stands, Follows, ExprMeets}
use Rattle.lowering_expression_laws.proofs.Forms.{insn_on}
use Rattle.lowering_expression_laws.specs.lowering_constant_laws.Laws.{GivesZero, ConstantsMeet}

-- what follows a zero; another value never comes there
abbrev of_zero : (Value → CallState → CodeObservation) → Value → CallState → CodeObservation
of_zero K (Word zero) t = K (Word 0) t
of_zero K (Word (suc k)) t = NotDefined
of_zero K (Address p) t = NotDefined
of_zero K Unset t = NotDefined

module _ (c : Setting) (found : slice_get c.functions c.number ≡ Some c.code) where
  abbrev L : ℕ
  L = first_depth c

  -- the code of a conversion, and its meaning, by the type of the operand
  abbrev CodeOf : (d : ℕ) (x : Expr) (to : PlainType) (rest : List CodeItem) → PlainType → List CodeItem
  CodeOf d x to rest z = conversion_code L c.structs c.locals d z to (plus_of L c.structs c.locals x 0) (λ is. place_code L c.structs c.locals d x 0 is) (λ is. expr_code L c.structs c.locals d x is) rest

  abbrev RunOf : (scope : Scope) (x : Expr) (to : PlainType) → PlainType → Run Value
  RunOf scope x to z = converted_from z to (eval c.structs c.locals c.calls scope x) (place c.structs c.locals c.calls scope x)

  -- ---- null constants

  module _ (t : IntegerType) (target : PlainType) (x y : Expr) (ex : type_of x ≡ plain_of t) (ey : type_of y ≡ Pointer target) (zeros : GivesZero c x) (hx : ExprMeets c x) where
    -- the zero stands in its register, and comes into that of pointers
    zero_moves : (d : ℕ) (rest : List CodeItem) (heads : List ℕ) (f : Names) (scope : Scope) (r : Registers) (s : CallState) (m : Memory) (K : Value → CallState → CodeObservation) → Follows c d (Pointer target) heads rest f scope r s m K
        → Follows c d (plain_of t) heads (Plain (n.Unary Move P64 (address_register L d) (value_register L d (plain_of t))) ∷ rest) f scope r s m (of_zero K)
    zero_moves d rest heads f scope r s m K next q (Word zero) g u q1 m1 at1 aft fit1 kept held stands =
        let insn : VmInsn = n.Unary Move P64 (address_register L d) (value_register L d (plain_of t)) in
        insn_on c found insn q q1 u.world m1 (Word 0 ∷ []) at1.has.0 refl
        (ap (λ z. writes (vm.unary_answer Move P64 z) (outer_with_memory u.world.outer m1)) stands)
        (next (next_place q) (Word 0) g u (set_register (address_register L d) (Word 0) q1) m1 (at_plain c.code.blocks c.last c.end insn at1) aft (fits_temporary d P64 (Word 0) fit1)
        (kept_temporary d P64 (Word 0) (omega arith) kept) refl (value_at g (Word 0) (Word 0) q1 (address_register L d) refl))
    zero_moves d rest heads f scope r s m K next q (Word (suc k)) g u q1 m1 at1 aft fit1 kept held stands = meets_anything c.rooms c.functions refl
    zero_moves d rest heads f scope r s m K next q (Address p) g u q1 m1 at1 aft fit1 kept held stands = meets_anything c.rooms c.functions refl
    zero_moves d rest heads f scope r s m K next q Unset g u q1 m1 at1 aft fit1 kept held stands = meets_anything c.rooms c.functions refl

    null_meets : ((scope : Scope) (s : CallState) → eval c.structs c.locals c.calls scope y s ≡ RunOf scope x (Pointer target) (type_of x) s) → ((d : ℕ) (rest : List CodeItem) → expr_code L c.structs c.locals d y rest ≡ CodeOf d x (Pointer target) rest (type_of x))
        → ExprMeets c y
    unfolding opens
    null_meets ev co = record {
      by = λ d rest heads p f scope r s m K at fit low next.
          let code_e = co d rest ∙ ap (λ z. CodeOf d x (Pointer target) rest z) ex in
          let next1 : Follows c d (Pointer target) heads rest f scope r s m K = subst (λ z. Follows c d z heads rest f scope r s m K) ey next in
          let rest1 = Plain (n.Unary Move P64 (address_register L d) (value_register L d (plain_of t))) ∷ rest in
          meets_same c.rooms c.functions
          (ap (λ z. finish z K) (ev scope s ∙ ap (λ z. RunOf scope x (Pointer target) z s) ex) ∙ ap (λ z. finish (and_then z (convert (plain_of t) (Pointer target))) K) (zeros scope s) ∙ ap (λ z. finish z (of_zero K)) (sym (zeros scope s)))
          (hx.by d rest1 heads p f scope r s m (of_zero K) (subst (λ z. Stands c heads p z) code_e at) fit low
          (subst (λ z. Follows c d z heads rest1 f scope r s m (of_zero K)) (sym ex) (zero_moves d rest heads f scope r s m K next1)));
    }

  conversions : (t : IntegerType) (target : PlainType) (x : Expr) → type_of x ≡ plain_of t → GivesZero c x → ExprMeets c x → ExprMeets c (Convert (Pointer target) x)
  conversions t target x ex zeros hx = null_meets t target x (Convert (Pointer target) x) ex refl zeros hx (λ scope s. refl) (λ d rest. refl)

  casts : (t : IntegerType) (target : PlainType) (x : Expr) → type_of x ≡ plain_of t → GivesZero c x → ExprMeets c x → ExprMeets c (Cast (Pointer target) x)
  casts t target x ex zeros hx = null_meets t target x (Cast (Pointer target) x) ex refl zeros hx (λ scope s. refl) (λ d rest. refl)

  -- ---- casts to void

  void_is : (ty : PlainType) → is_array ty ≡ false → (scope : Scope) (x : Expr) (s : CallState) (K : Value → CallState → CodeObservation) → finish (RunOf scope x Void ty s) K ≡ finish (eval c.structs c.locals c.calls scope x s) (λ v t. K Unset t)
  unfolding opens
  void_is Void h scope x s K = finish-bind (eval c.structs c.locals c.calls scope x s) (convert Void Void) K
  void_is (Int a b) h scope x s K = finish-bind (eval c.structs c.locals c.calls scope x s) (convert (Int a b) Void) K
  void_is (Pointer t) h scope x s K = finish-bind (eval c.structs c.locals c.calls scope x s) (convert (Pointer t) Void) K
  void_is (Array t k) h scope x s K = absurd (cc)
  void_is (Struct k) h scope x s K = finish-bind (eval c.structs c.locals c.calls scope x s) (convert (Struct k) Void) K

  void_code : (ty : PlainType) → is_array ty ≡ false → (d : ℕ) (x : Expr) (rest : List CodeItem) → CodeOf d x Void rest ty ≡ expr_code L c.structs c.locals d x rest
  void_code Void h d x rest = refl
  void_code (Int a b) h d x rest = refl
  void_code (Pointer t) h d x rest = refl
  void_code (Array t k) h d x rest = absurd (cc)
  void_code (Struct k) h d x rest = refl

  drops : (x : Expr) → is_array (type_of x) ≡ false → ExprMeets c x → ExprMeets c (Cast Void x)
  unfolding opens
  drops x none hx = record {
    by = λ d rest heads p f scope r s m K at fit low next.
        meets_same c.rooms c.functions (void_is (type_of x) none scope x s K)
        (hx.by d rest heads p f scope r s m (λ v t. K Unset t) (subst (λ z. Stands c heads p z) (void_code (type_of x) none d x rest) at) fit low
        (λ q v g t q1 m1 at1 aft fit1 kept held stands. next q Unset g t q1 m1 at1 aft fit1 kept tt tt));
  }

pub constants_meet : ConstantsMeet
constants_meet c found = record { conversions = conversions c found; casts = casts c found; drops = drops c found }
