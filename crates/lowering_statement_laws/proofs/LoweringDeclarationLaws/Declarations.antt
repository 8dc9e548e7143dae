-- The code of blocks and of declarations.
use Rattle.std.proofs.Common.{◌≡◌, ℕ, zero, ◌+◌, ◌<◌, ◌≤◌, List, [], ◌∷◌, Bool, true, false, Option, Some, None, refl, sym, ap, ◌∙◌, subst, arith, inl, inr}
use Rattle.std.specs.Prelude.{if◌then◌else◌, slice_get}
use Rattle.mem_model.specs.declared.value.Value.{Value}
use Rattle.mem_model.specs.declared.value.Value.TheVariants.{Unset}
use Rattle.mem_model.specs.Memory.{Memory}
use Rattle.mem_model.specs.World.{outer_with_memory}
use Rattle.mem_model.specs.Ending.{Gives}
use Rattle.mem_model.specs.Related.{Names, IsValueOf}
use Rattle.c_typed_tree.specs.declared.units.Local.{Local}
use Rattle.c_typed_tree.specs.Types.{PlainType, Struct}
use Rattle.c_typed_tree.specs.View.{type_view}
use Rattle.c_typed_tree.specs.Expressions.{Expr, type_of}
use Rattle.c_typed_tree.specs.Statements.{Stmt, Stmts, Block, Declare}
use Rattle.c_typed_tree.specs.Declarations.{stmts_declarations}
use Rattle.c_semantics.specs.Reasons.{UsesNoValue, UsesDeadObject}
use Rattle.c_semantics.specs.Runs.{CallState, Run, and_then, with_registers, with_local_value, use_value, pure, or_undefined, write_register}
use Rattle.c_semantics.specs.Objects as obj
use Rattle.c_semantics.specs.Objects.{Scope, start_pointer, write, write_at, local_place}
use Rattle.c_semantics.specs.Evaluates.{eval}
use Rattle.c_semantics.specs.Executes.{StatementFlow, Goes, declared_in, initialise_object, execs}
use Rattle.suifvm_ir.specs.declared.types.VmType.TheVariants.{P64}
use Rattle.suifvm_ir.specs.declared.insn.VmObject.TheVariants as vp
use Rattle.suifvm_ir.specs.declared.insn.VmUnaryOp.TheVariants.{Move}
use Rattle.suifvm_ir.specs.declared.insn.VmInsn.TheVariants as n
use Rattle.suifvm_meaning.specs.Effect.{writes}
use Rattle.suifvm_meaning.specs.Behave.{Registers, set_register}
use Rattle.lowering_code.specs.declared.item.CodeItem.{CodeItem}
use Rattle.lowering_code.specs.Registers.{register_type, value_register, address_register, object_index}
use Rattle.lowering_code.specs.Expressions.{move_code, store_code, address_code, copy_code, expr_code}
use Rattle.lowering_code.specs.Statements.{put_code, put_local_code}
use Rattle.lowering_states.specs.Places.{CodePlace, next_place}
use Rattle.lowering_states.specs.Runs.{CodeObservation, finish}
use Rattle.lowering_states.specs.model.Opens.{opens}
use Rattle.lowering_states.specs.States.{IsHeld, IsInRegister, type_at}
use Rattle.lowering_states.proofs.Steps.{meets_same, used_meets, known_meets}
use Rattle.lowering_states.proofs.States.{set_same, set_other, other_depth, after_on, fits_temporary, fits_local}
use Rattle.lowering_states.proofs.LoweringExpressionPlaces.Behind.{at_plain}
use Rattle.lowering_expression_laws.specs.Parts.{Setting, first_depth, EndsSo, Stands, Fit, Aft, ExprMeets}
use Rattle.lowering_expression_laws.specs.Laws.{IsScalarType}
use Rattle.lowering_expression_laws.proofs.Forms.{insn_on, bound_run}
use Rattle.lowering_expression_laws.proofs.LoweringPlaceLaws.Places.{byte_of, address_meets, address_of}
use Rattle.lowering_expression_laws.specs.lowering_access_laws.Laws.{IsWholeStruct}
use Rattle.lowering_expression_laws.proofs.LoweringAccessLaws.Writes.{writes_meet}
use Rattle.lowering_expression_laws.proofs.LoweringAssignmentLaws.Locals.{moves, register_place}
use Rattle.lowering_statement_laws.specs.Parts.{inner_of_all, AreApart, IsApart, Onward, StmtMeets, StmtsMeet}
use Rattle.lowering_statement_laws.specs.lowering_declaration_laws.Laws.{MayDeclareAll, DeclarationsMeet}
use Rattle.lowering_statement_laws.proofs.LoweringDeclarationLaws.Counts.{times, all_declared}
use Rattle.lowering_statement_laws.proofs.LoweringDeclarationLaws.Begun.{BegunLocals, begun_locals, starts, low_enough, onward_begun}

-- a value of a scalar type stands as what it is
scalar_in : (f : Names) (ty : PlainType) (v w : Value) → IsScalarType ty → IsInRegister f ty v w → IsValueOf f v w
scalar_in f ty v w (inl t) h = subst (λ z. IsInRegister f z v w) t.1 h
scalar_in f ty v w (inr t) h = subst (λ z. IsInRegister f z v w) t.1 h

module _ (c : Setting) (found : slice_get c.functions c.number ≡ Some c.code) (again : Scope → Stmt → Run StatementFlow) where
  abbrev L : ℕ
  L = first_depth c

  blocks : (ss : Stmts) → MayDeclareAll c.structs c.locals (declared_in ss) → ((k : ℕ) → stmts_declarations k ss ≤ 1) → StmtsMeet c again ss → StmtMeets c again (Block ss)
  blocks ss may once hss = record {
    by = λ brk con rest heads p f scope r s m K apart at fit low way.
        let each : (j : ℕ) → times j (declared_in ss) ≤ 1 = (λ j. let all = all_declared j ss in let h = once j in omega (arith, all, h)) in
        let kept : (j : ℕ) → 0 < times j (declared_in ss) → scope j ≡ None = (λ j lt. apart j (let all = all_declared j ss in omega (arith, all, lt))) in
        let b : BegunLocals c scope f r s m (declared_in ss) = begun_locals c (declared_in ss) may each scope kept f r s m fit in
        let inside : AreApart b.inner ss =
        (λ j lt. let all = all_declared j ss in let h = once j in b.outside j (omega (arith, all, h, lt)) ∙ apart j (omega (arith, all, lt))) in
        let run : Scope → Run StatementFlow = (λ inner. execs c.structs c.locals c.calls again inner ss) in
        meets_same c.rooms c.functions (ap (λ z. finish z K) (b.is run))
        (bound_run c found (run b.inner b.start) (λ a t. Gives a (b.left t)) K p r s.world m
        (starts c b p (hss.by brk con rest heads p b.names b.inner r b.start m (λ z t. K z (b.left t)) inside at b.fit (low_enough c b c.level low) (onward_begun c b way))));
  }

  without_value : (k : ℕ) (l : Local) → slice_get c.locals k ≡ Some l → StmtMeets c again (Declare (record { number = k; init = None }))
  unfolding opens
  without_value k l here = record {
    by = λ brk con rest heads p f scope r s m K apart at fit low way.
        meets_same c.rooms c.functions (ap (λ z. finish (and_then (initialise_object c.structs c.locals c.calls scope k z None s) (λ _. pure Goes)) K) here)
        (way.goes p f s r m at (record { names = λ o q e. e; lives = λ o. refl; sizes = λ o e. refl; locals = λ q size h. h; turned = omega arith }) fit);
  }

  -- ---- a value

  module _ (k : ℕ) (l : Local) (x : Expr) (here : slice_get c.locals k ≡ Some l) (ex : type_of x ≡ type_view l.ty) (hx : ExprMeets c x) where
    abbrev ty : PlainType
    ty = type_view l.ty

    abbrev reg : ℕ
    reg = value_register L 0 ty

    -- what is done with the value
    abbrev put : Scope → Value → Run (Unit {0})
    put scope v = λ t. and_then (local_place scope k (Some l) t) (λ z. write c.structs ty z v)

    -- the value was computed
    evaluated : (tail : List CodeItem → List CodeItem) (brk con : ℕ) (rest : List CodeItem) (heads : List ℕ) (p : CodePlace) (f : Names) (scope : Scope) (r : Registers) (s : CallState) (m : Memory) (K : StatementFlow → CallState → CodeObservation) → put_local_code L c.structs c.locals k (slice_get c.locals k) rest ≡ tail rest
        → Stands c heads p (expr_code L c.structs c.locals 0 x (put_local_code L c.structs c.locals k (slice_get c.locals k) rest)) → Fit c f scope r s m → s.world.meter.turns ≤ c.level
        → ((q : CodePlace) (v : Value) (g : Names) (t : CallState) (q1 : Registers) (m1 : Memory) → Stands c heads q (tail rest) → Aft c f s m g t m1 → Fit c g scope q1 t m1 → IsHeld ty v → IsInRegister g ty v (q1 reg) → EndsSo c (finish (put scope v t) (λ _ u. K Goes u)) q q1 t.world m1)
        → EndsSo c (finish (and_then (initialise_object c.structs c.locals c.calls scope k (slice_get c.locals k) (Some x) s) (λ _. pure Goes)) K) p r s.world m
    unfolding opens
    evaluated tail brk con rest heads p f scope r s m K code_e at fit low next =
        meets_same c.rooms c.functions (ap (λ z. finish (and_then (initialise_object c.structs c.locals c.calls scope k z (Some x) s) (λ _. pure Goes)) K) here)
        (bound_run c found (and_then (eval c.structs c.locals c.calls scope x s) (put scope)) (λ _. pure Goes) K p r s.world m
        (bound_run c found (eval c.structs c.locals c.calls scope x s) (put scope) (λ _ u. K Goes u) p r s.world m
        (hx.by 0 (tail rest) heads p f scope r s m (λ v t. finish (put scope v t) (λ _ u. K Goes u)) (subst (λ z. Stands c heads p (expr_code L c.structs c.locals 0 x z)) code_e at) fit low
        (λ q v g t q1 m1 at1 aft fit1 kept held stands.
        next q v g t q1 m1 at1 aft fit1 (subst (λ z. IsHeld z v) ex held) (subst (λ z. IsInRegister g z v (q1 (value_register L 0 z))) ex stands)))))

    in_register : IsScalarType ty → l.in_memory ≡ false → StmtMeets c again (Declare (record { number = k; init = Some x }))
    unfolding opens
    in_register scalar em = record {
      by = λ brk con rest heads p f scope r s m K apart at fit low way.
          let code_e : put_local_code L c.structs c.locals k (slice_get c.locals k) rest ≡ move_code ty k reg rest =
          ap (λ z. put_local_code L c.structs c.locals k z rest) here ∙ ap (λ z. if◌then◌else◌ {A = List CodeItem} z (put_code L c.structs c.locals ty k rest) (move_code ty k reg rest)) em in
          let place_e : local_place scope k (Some l) ≡ pure (obj.Register k) = ap (λ z. if◌then◌else◌ {A = Run obj.ValuePlace} z (λ t. and_then (or_undefined UsesDeadObject (scope k) t) (λ o. pure (obj.At (start_pointer o)))) (pure (obj.Register k))) em in
          evaluated (λ is. move_code ty k reg is) brk con rest heads p f scope r s m K code_e at fit low
          (λ q v g t q1 m1 at1 aft fit1 held stands.
          let rel = scalar_in g ty v (q1 reg) scalar stands in
          let t1 : CallState = with_registers t (with_local_value t.registers k v) in
          meets_same c.rooms c.functions (ap (λ z. finish (and_then (z t) (λ a. write c.structs ty a v)) (λ _ u. K Goes u)) place_e)
          (bound_run c found (use_value UsesNoValue v t) (write_register k) (λ _ u. K Goes u) q q1 t.world m1
          (used_meets c.rooms c.functions UsesNoValue v t (λ v1 u. K Goes (with_registers u (with_local_value u.registers k v1))) _ (λ set.
          insn_on c found (n.Unary Move (register_type ty) k reg) q q1 t.world m1 (q1 reg ∷ []) at1.has.0 refl
          (ap (λ z. writes z (outer_with_memory t.world.outer m1)) (moves g ty v (q1 reg) scalar held rel set))
          (way.goes (next_place q) g t1 (set_register k (q1 reg) q1) m1 (at_plain c.code.blocks c.last c.end _ at1) aft
          (fits_local k v (q1 reg) rel (subst (λ z. IsHeld z v) (sym (ap type_at here)) held) fit1))))));
    }

    -- the address of the object stands above the value, which is then put there
    in_object : (tail : List CodeItem → List CodeItem) → l.in_memory ≡ true → ((rest : List CodeItem) → put_code L c.structs c.locals ty k rest ≡ address_code L 1 (vp.Local (object_index c.locals k)) 0 (tail rest))
        → ((rest : List CodeItem) (heads : List ℕ) (q : CodePlace) (o : ℕ) (v : Value) (g : Names) (scope : Scope) (t : CallState) (q1 : Registers) (m1 : Memory) (K1 : Unit {0} → CallState → CodeObservation) → Stands c heads q (tail rest) → Fit c g scope q1 t m1 → IsHeld ty v → IsInRegister g ty v (q1 reg)
        → IsValueOf g (start_pointer o) (q1 (address_register L 1))
        → ((u : CallState) (m2 : Memory) → Stands c heads (next_place q) rest → Aft c g t m1 g u m2 → Fit c g scope q1 u m2 → EndsSo c (K1 tt u) (next_place q) q1 u.world m2) → EndsSo c (finish (write_at c.structs ty (start_pointer o) v t) K1) q q1 t.world m1)
        → StmtMeets c again (Declare (record { number = k; init = Some x }))
    unfolding opens
    in_object tail em put_e done = record {
      by = λ brk con rest heads p f scope r s m K apart at fit low way.
          let name = c.own + object_index c.locals k in
          let code_e : put_local_code L c.structs c.locals k (slice_get c.locals k) rest ≡ address_code L 1 (vp.Local (object_index c.locals k)) 0 (tail rest) =
          ap (λ z. put_local_code L c.structs c.locals k z rest) here ∙ ap (λ z. if◌then◌else◌ {A = List CodeItem} z (put_code L c.structs c.locals ty k rest) (move_code ty k reg rest)) em ∙ put_e rest in
          evaluated (λ is. address_code L 1 (vp.Local (object_index c.locals k)) 0 (tail is)) brk con rest heads p f scope r s m K code_e at fit low
          (λ q v g t q1 m1 at1 aft fit1 held stands.
          meets_same c.rooms c.functions
          (ap (λ z. finish (and_then (if◌then◌else◌ {A = Run obj.ValuePlace} z (λ t1. and_then (or_undefined UsesDeadObject (scope k) t1) (λ o. pure (obj.At (start_pointer o)))) (pure (obj.Register k)) t) (λ a. write c.structs ty a v)) (λ _ u. K Goes u)) em)
          (bound_run c found (and_then (or_undefined UsesDeadObject (scope k) t) (λ o. pure (obj.At (start_pointer o)))) (λ a. write c.structs ty a v) (λ _ u. K Goes u) q q1 t.world m1
          (bound_run c found (or_undefined UsesDeadObject (scope k) t) (λ o. pure (obj.At (start_pointer o))) (λ a u. finish (write c.structs ty a v u) (λ _ u1. K Goes u1)) q q1 t.world m1
          (known_meets c.rooms c.functions UsesDeadObject (scope k) t (λ o u. finish (write_at c.structs ty (start_pointer o) v u) (λ _ u1. K Goes u1)) _ (λ o scoped.
          let w = byte_of name 0 in
          let q2 : Registers = set_register (address_register L 1) w q1 in
          let lower : q2 reg ≡ q1 reg = set_other q1 (address_register L 1) reg w (other_depth L 0 1 (register_type ty) P64 (omega arith)) in
          let base : IsValueOf g (start_pointer o) (q2 (address_register L 1)) = subst (λ z. IsValueOf g (start_pointer o) z) (sym (set_same q1 (address_register L 1) w)) (address_of c found g o name 0 (fit1.scopes k o scoped)) in
          address_meets c found 1 (vp.Local (object_index c.locals k)) 0 (tail rest) heads q q1 t.world m1 at1
          (done rest heads (next_place q) o v g scope t q2 m1 (λ _ u1. K Goes u1) (at_plain c.code.blocks c.last c.end _ at1) (fits_temporary 1 P64 w fit1) held (subst (λ z. IsInRegister g ty v z) (sym lower) stands) base
          (λ u m2 at2 aft2 fit2. way.goes (next_place (next_place q)) g u q2 m2 at2 (after_on aft aft2) fit2)))))));
    }

  -- the code of a scalar that is put into its object
  scalar_code : (ty : PlainType) (k : ℕ) (rest : List CodeItem) → IsScalarType ty → put_code L c.structs c.locals ty k rest ≡ address_code L 1 (vp.Local (object_index c.locals k)) 0 (store_code ty (address_register L 1) 0 (value_register L 0 ty) rest)
  scalar_code ty k rest (inl t) = subst (λ z. put_code L c.structs c.locals z k rest ≡ address_code L 1 (vp.Local (object_index c.locals k)) 0 (store_code z (address_register L 1) 0 (value_register L 0 z) rest)) (sym t.1) refl
  scalar_code ty k rest (inr t) = subst (λ z. put_code L c.structs c.locals z k rest ≡ address_code L 1 (vp.Local (object_index c.locals k)) 0 (store_code z (address_register L 1) 0 (value_register L 0 z) rest)) (sym t.1) refl

  with_scalar : (k : ℕ) (l : Local) (x : Expr) → slice_get c.locals k ≡ Some l → IsScalarType (type_view l.ty) → type_of x ≡ type_view l.ty → ExprMeets c x → StmtMeets c again (Declare (record { number = k; init = Some x }))
  with_scalar k l x here scalar ex hx = by_place l.in_memory refl
    where
      by_place : (b : Bool) → l.in_memory ≡ b → StmtMeets c again (Declare (record { number = k; init = Some x }))
      by_place false e = in_register k l x here ex hx scalar e
      by_place true e =
          in_object k l x here ex hx (λ is. store_code (type_view l.ty) (address_register L 1) 0 (value_register L 0 (type_view l.ty)) is) e (λ rest. scalar_code (type_view l.ty) k rest scalar)
          (λ rest heads q o v g scope t q1 m1 K1 at fit held stands base next.
          (writes_meet c found).scalars (type_view l.ty) scalar (address_register L 1) 0 (value_register L 0 (type_view l.ty)) rest heads q (start_pointer o) (start_pointer o) v g scope q1 t m1 K1 at fit held
          (scalar_in g (type_view l.ty) v (q1 (value_register L 0 (type_view l.ty))) scalar stands) base (inl (refl, refl)) next)

  with_struct : (k : ℕ) (l : Local) (x : Expr) (number : ℕ) → slice_get c.locals k ≡ Some l → l.in_memory ≡ true → type_view l.ty ≡ Struct number → type_of x ≡ type_view l.ty → IsWholeStruct c number → ExprMeets c x → StmtMeets c again (Declare (record { number = k; init = Some x }))
  with_struct k l x number here em et ex whole hx =
      in_object k l x here ex hx (λ is. copy_code c.structs (address_register L 1) (address_register L 0) (Struct number) is) em (λ rest. ap (λ z. put_code L c.structs c.locals z k rest) et)
      (λ rest heads q o v g scope t q1 m1 K1 at fit held stands base next.
      subst (λ z. EndsSo c (finish (write_at c.structs z (start_pointer o) v t) K1) q q1 t.world m1) (sym et)
      ((writes_meet c found).structs number whole (address_register L 1) (address_register L 0) rest heads q (start_pointer o) v g scope q1 t m1 K1 at fit base (subst (λ z. IsInRegister g z v (q1 (value_register L 0 z))) et stands) next))

pub declarations_meet : DeclarationsMeet
declarations_meet c again found = record {
  blocks = blocks c found again;
  without_value = without_value c found again;
  with_scalar = with_scalar c found again;
  with_struct = with_struct c found again;
}
