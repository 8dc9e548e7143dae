-- The code of parameters: one that a register holds has its argument there already, and one in memory is stored.
use Rattle.std.proofs.Common.{◌≡◌, ◌≢◌, ℕ, suc, ◌+◌, ◌<◌, ◌≤◌, List, [], ◌∷◌, map, Bool, true, false, Some, None, length, refl, sym, ap, ◌∙◌, subst, arith, inl, inr, eq-eqb}
use Rattle.std.specs.Prelude.{if◌then◌else◌, slice_get, slice_index_or}
use Rattle.std.proofs.lemmas.Bool.{cases_eq}
use Rattle.std.proofs.lemmas.Option.{slice_get_within}
use Rattle.mem_model.specs.declared.value.Value.{Value}
use Rattle.mem_model.specs.declared.value.Value.TheVariants.{Unset}
use Rattle.mem_model.specs.Memory.{Memory, begin_object, end_object}
use Rattle.mem_model.specs.World.{with_memory}
use Rattle.mem_model.specs.Ending.{Gives}
use Rattle.mem_model.specs.Related.{Names, IsValueOf, with_name}
use Rattle.mem_model.specs.RelatedLaws.{MoreNames}
use Rattle.mem_model.proofs.RelatedRows.{values_stay}
use Rattle.mem_objects.specs.declared.TheConstants.{MOST_DATA}
use Rattle.c_typed_tree.specs.declared.units.Local.{Local}
use Rattle.c_typed_tree.specs.Types.{PlainType}
use Rattle.c_typed_tree.specs.View.{type_view}
use Rattle.c_typed_tree.specs.Layout.{size_of}
use Rattle.c_typed_tree.specs.Lawful.{type_of_local}
use Rattle.c_semantics.specs.Reasons.{UsesDeadObject}
use Rattle.c_semantics.specs.Runs.{CallState, Run, and_then, in_world, with_registers, with_local_value, pure, or_undefined, write_register, ◌>>◌}
use Rattle.c_semantics.specs.Objects as obj
use Rattle.c_semantics.specs.Objects.{Scope, bind_object, with_local_object, local_place, start_pointer, write, write_at}
use Rattle.c_semantics.specs.Executes.{StatementFlow, with_parameters}
use Rattle.suifvm_ir.specs.declared.types.VmType.TheVariants.{P64}
use Rattle.suifvm_ir.specs.declared.insn.VmObject.TheVariants as vp
use Rattle.suifvm_meaning.specs.Behave.{Registers, set_register}
use Rattle.lowering_code.specs.declared.item.CodeItem.{CodeItem}
use Rattle.lowering_code.specs.Registers.{address_register, object_index}
use Rattle.lowering_code.specs.Expressions.{store_code, address_code}
use Rattle.lowering_code.specs.Functions.{parameters_code}
use Rattle.lowering_states.specs.Places.{CodePlace, next_place}
use Rattle.lowering_states.specs.Runs.{CodeObservation, finish}
use Rattle.lowering_states.specs.model.Opens.{opens}
use Rattle.lowering_states.specs.States.{IsHeld, type_at}
use Rattle.lowering_states.proofs.Steps.{meets_same}
use Rattle.lowering_states.proofs.States.{ne_eqb, set_same, set_other, after_on, fits_temporary, fits_local}
use Rattle.lowering_states.proofs.LoweringExpressionPlaces.Behind.{at_plain}
use Rattle.lowering_expression_laws.specs.Parts.{Setting, first_depth, EndsSo, Stands, Fit, Aft}
use Rattle.lowering_expression_laws.specs.Laws.{IsScalarType}
use Rattle.lowering_expression_laws.proofs.Forms.{bound_run}
use Rattle.lowering_expression_laws.proofs.LoweringPlaceLaws.Places.{byte_of, address_meets, address_of}
use Rattle.lowering_expression_laws.proofs.LoweringAccessLaws.Writes.{writes_meet}
use Rattle.lowering_states.proofs.LoweringObjectLaws.Objects.{objects_begin_and_end}
use Rattle.lowering_statement_laws.proofs.LoweringDeclarationLaws.Begun.{Remembers}
use Rattle.lowering_expression_laws.specs.lowering_call_laws.Laws.{AreArguments}

-- arguments correspond under more names
arguments_stay : (f g : Names) → MoreNames f g → (tys : List PlainType) (vs ws : List Value) → AreArguments f tys vs ws → AreArguments g tys vs ws
arguments_stay f g more [] [] [] h = tt
arguments_stay f g more [] [] (w ∷ ws) h = absurd h
arguments_stay f g more [] (v ∷ vs) [] h = absurd h
arguments_stay f g more [] (v ∷ vs) (w ∷ ws) h = absurd h
arguments_stay f g more (ty ∷ tys) [] [] h = absurd h
arguments_stay f g more (ty ∷ tys) [] (w ∷ ws) h = absurd h
arguments_stay f g more (ty ∷ tys) (v ∷ vs) [] h = absurd h
arguments_stay f g more (ty ∷ tys) (v ∷ vs) (w ∷ ws) h = (h.0, h.1, values_stay f g v w more h.2, arguments_stay f g more tys vs ws h.3)

set_back : (r : Registers) (k j : ℕ) → set_register k (r k) r j ≡ r j
set_back r k j = elim (cases_eq j k) [
  | inl e ↦ ap (set_register k (r k) r) e ∙ set_same r k (r k) ∙ ap r (sym e)
  | inr ne ↦ set_other r k j (r k) ne
]

module _ (c : Setting) (found : slice_get c.functions c.number ≡ Some c.code) where
  abbrev L : ℕ
  L = first_depth c

  -- a parameter has its argument in its register
  fits_argument : {f : Names} {scope : Scope} {r : Registers} {m : Memory} (s : CallState) (k : ℕ) (v : Value) → IsValueOf f v (r k) → IsHeld (type_at (slice_get c.locals k)) v → Fit c f scope r s m
      → Fit c f scope r (with_registers s (with_local_value s.registers k v)) m
  fits_argument {f = f} {r = r} s k v rel held a =
      let b = fits_local k v (r k) rel held a in
      record {
        locals = λ j lt. subst (λ z. IsValueOf f (with_local_value s.registers k v j) z) (set_back r k j) (b.locals j lt);
        held = b.held;
        statics = b.statics;
        memory = b.memory;
        small = b.small;
        scopes = b.scopes;
        stands = b.stands;
        owned = b.owned;
        bytes = b.bytes;
      }

  -- the state in which the body begins, and how a state in which it ends is left
  pub record EnteredBody (past : ℕ) (scope : Scope) (f : Names) (s : CallState) (m : Memory) (inner : Scope) (g : Names) (t : CallState) (n : Memory) (left : CallState → CallState) : Type 0 where
    pub low : t.world.meter.turns ≤ s.world.meter.turns
    pub leaves : (u : CallState) → Remembers u.world (left u).world
    pub after : (h : Names) (u : CallState) (q : Memory) → Aft c g t n h u q → Aft c f s m h (left u) q
    pub fits : (h : Names) (u : CallState) (q : Registers) (n1 : Memory) → Fit c h inner q u n1 → Fit c h scope q (left u) n1
    pub outside : (j : ℕ) → past ≤ j → inner j ≡ scope j

  -- these locals from a number on are to have these arguments, which stand in their registers
  pub record PassedArguments (past k : ℕ) (ps : List Local) (vs ws : List Value) (f : Names) (scope : Scope) (r : Registers) : Type 0 where
    pub bounded : k + length ps ≤ past
    pub there : (i : ℕ) (p : Local) → slice_get ps i ≡ Some p → slice_get c.locals (k + i) ≡ Some p
    pub scalars : (i : ℕ) (p : Local) → slice_get ps i ≡ Some p → IsScalarType (type_view p.ty)
    pub free : (j : ℕ) → k ≤ j → scope j ≡ None
    pub given : AreArguments f (map type_of_local ps) vs ws
    pub registers : (i : ℕ) (p : Local) → slice_get ps i ≡ Some p → r (k + i) ≡ slice_index_or ws i Unset

  module _ (past : ℕ) (run : Scope → Run StatementFlow) (heads : List ℕ) (rest : List CodeItem) (small : (k : ℕ) (l : Local) → slice_get c.locals k ≡ Some l → l.in_memory ≡ true → size_of c.structs (type_view l.ty) ≤ MOST_DATA) where
    -- what follows, where the code behind the parameters stands
    abbrev pub Enters : Scope → Names → CallState → Memory → (StatementFlow → CallState → CodeObservation) → Type 0
    Enters scope f s m K =
        (q : CodePlace) (inner : Scope) (g : Names) (r : Registers) (t : CallState) (n : Memory) (left : CallState → CallState) → Stands c heads q rest → Fit c g inner r t n → EnteredBody past scope f s m inner g t n left
        → EndsSo c (finish (run inner t) (λ a u. K a (left u))) q r t.world n

    -- one parameter more
    module _ (p : Local) (ps : List Local) (k : ℕ) (v : Value) (vs : List Value) (w : Value) (ws : List Value) (f : Names) (scope : Scope) (r : Registers) (s : CallState) (m : Memory) (q : CodePlace) (K : StatementFlow → CallState → CodeObservation) (all : PassedArguments past k (p ∷ ps) (v ∷ vs) (w ∷ ws) f scope r) (fit : Fit c f scope r s m)
        (at : Stands c heads q (parameters_code L c.structs c.locals k (p ∷ ps) rest)) (next : Enters scope f s m K)
        (others : (f1 : Names) (scope1 : Scope) (r1 : Registers) (s1 : CallState) (m1 : Memory) (q1 : CodePlace) (K1 : StatementFlow → CallState → CodeObservation) → PassedArguments past (suc k) ps vs ws f1 scope1 r1 → Fit c f1 scope1 r1 s1 m1 → Stands c heads q1 (parameters_code L c.structs c.locals (suc k) ps rest) → Enters scope1 f1 s1 m1 K1
        → EndsSo c (finish (with_parameters c.structs (suc k) ps vs run scope1 s1) K1) q1 r1 s1.world m1) where
      abbrev ty : PlainType
      ty = type_view p.ty

      abbrev size : ℕ
      size = size_of c.structs ty

      abbrev code : List CodeItem
      code = parameters_code L c.structs c.locals (suc k) ps rest

      abbrev body : Scope → Run StatementFlow
      body scope1 = with_parameters c.structs (suc k) ps vs run scope1

      abbrev put : Scope → Run (Unit {0})
      put scope1 = λ t. and_then (local_place scope1 k (Some p) t) (λ a. write c.structs ty a v)

      abbrev tail : List CodeItem
      tail = store_code ty (address_register L 0) 0 k code

      first_here : slice_get c.locals k ≡ Some p
      first_here = let e : k ≡ k + 0 = omega arith in ap (slice_get c.locals) e ∙ all.there 0 p refl

      argument : IsValueOf f v (r k)
      argument = let e : k ≡ k + 0 = omega arith in subst (λ z. IsValueOf f v z) (sym (ap r e ∙ all.registers 0 p refl)) all.given.2

      code_is : (b : Bool) → p.in_memory ≡ b → parameters_code L c.structs c.locals k (p ∷ ps) rest ≡ if◌then◌else◌ {A = List CodeItem} b (address_code L 0 (vp.Local (object_index c.locals k)) 0 tail) code
      code_is b e = ap (λ z. if◌then◌else◌ {A = List CodeItem} z (address_code L 0 (vp.Local (object_index c.locals k)) 0 tail) code) e

      run_is : (b : Bool) → p.in_memory ≡ b → with_parameters c.structs k (p ∷ ps) (v ∷ vs) run scope s ≡ if◌then◌else◌ {A = Run StatementFlow} b (with_local_object size k (λ inner. put inner >> body inner) scope) (write_register k v >> body scope) s
      unfolding opens
      run_is b e = ap (λ z. if◌then◌else◌ {A = Run StatementFlow} z (with_local_object size k (λ inner. put inner >> body inner) scope) (write_register k v >> body scope) s) e

      in_register : p.in_memory ≡ false → EndsSo c (finish (with_parameters c.structs k (p ∷ ps) (v ∷ vs) run scope s) K) q r s.world m
      unfolding opens
      in_register e =
          let s1 : CallState = with_registers s (with_local_value s.registers k v) in
          let all1 : PassedArguments past (suc k) ps vs ws f scope r = record {
            bounded = let h = all.bounded in omega (arith, h);
            there = λ i x h. let n : suc k + i ≡ k + suc i = omega arith in ap (slice_get c.locals) n ∙ all.there (suc i) x h;
            scalars = λ i x h. all.scalars (suc i) x h;
            free = λ j le. all.free j (omega (arith, le));
            given = all.given.3;
            registers = λ i x h. let n : suc k + i ≡ k + suc i = omega arith in ap r n ∙ all.registers (suc i) x h;
          } in
          meets_same c.rooms c.functions (ap (λ z. finish z K) (run_is false e))
          (others f scope r s1 m q K all1 (fits_argument s k v argument (subst (λ z. IsHeld (type_at z) v) (sym first_here) all.given.1) fit) (subst (λ z. Stands c heads q z) (code_is false e) at)
          (λ q2 inner g r1 t n left at2 fit2 b. next q2 inner g r1 t n left at2 fit2 (record { low = b.low; leaves = b.leaves; after = b.after; fits = b.fits; outside = b.outside })))

      in_object : p.in_memory ≡ true → EndsSo c (finish (with_parameters c.structs k (p ∷ ps) (v ∷ vs) run scope s) K) q r s.world m
      unfolding opens
      in_object e =
          let o : ℕ = length s.world.outer.memory in
          let name : ℕ = c.own + object_index c.locals k in
          let scope1 : Scope = bind_object scope k o in
          let f1 : Names = with_name f o name in
          let s1 : CallState = in_world s (with_memory s.world (begin_object s.world.outer.memory size true)) in
          let ended : CallState → CallState = (λ t. in_world t (with_memory t.world (end_object t.world.outer.memory o))) in
          let none : scope k ≡ None = all.free k (omega arith) in
          let fit1 : Fit c f1 scope1 r s1 m =
          (objects_begin_and_end.begin c.statics c.structs c.locals c.own f scope r s.registers s.world.outer.memory m s.world.outer.input k p (record { found = first_here; inside = e; none = none; small = small k p first_here e }) fit).fits in
          let more : MoreNames f f1 =
          (λ x y h. let lt = fit.memory.known x y h in let ne : x ≢ o = (λ same. absurd (omega (arith, lt, same))) in ap (λ b. if b then Some name else f x) (ne_eqb x o ne) ∙ h) in
          let lower : (j : ℕ) → j < L → j ≢ address_register L 0 = (λ j lt same. absurd (omega (arith, lt, same))) in
          let a : Value = byte_of name 0 in
          let r2 : Registers = set_register (address_register L 0) a r in
          let kept : (j : ℕ) → j < L → r2 j ≡ r j = (λ j lt. set_other r (address_register L 0) j a (lower j lt)) in
          let here : scope1 k ≡ Some o = ap (λ b. if b then Some o else scope k) (eq-eqb k k refl) in
          let other : (j : ℕ) → j ≢ k → scope1 j ≡ scope j = (λ j ne. ap (λ z. if z then Some o else scope j) (ne_eqb j k ne)) in
          let all1 : PassedArguments past (suc k) ps vs ws f1 scope1 r2 = record {
            bounded = let h = all.bounded in omega (arith, h);
            there = λ i x h. let n : suc k + i ≡ k + suc i = omega arith in ap (slice_get c.locals) n ∙ all.there (suc i) x h;
            scalars = λ i x h. all.scalars (suc i) x h;
            free = λ j le. other j (λ same. absurd (omega (arith, le, same))) ∙ all.free j (omega (arith, le));
            given = arguments_stay f f1 more (map type_of_local ps) vs ws all.given.3;
            registers = λ i x h. let n : suc k + i ≡ k + suc i = omega arith in kept (suc k + i) (slice_get_within c.locals (suc k + i) x (ap (slice_get c.locals) n ∙ all.there (suc i) x h)) ∙ ap r n ∙ all.registers (suc i) x h;
          } in
          let K1 : StatementFlow → CallState → CodeObservation = (λ z t. K z (ended t)) in
          let base : IsValueOf f1 (start_pointer o) (r2 (address_register L 0)) = subst (λ z. IsValueOf f1 (start_pointer o) z) (sym (set_same r (address_register L 0) a)) (address_of c found f1 o name 0 (fit1.scopes k o here)) in
          let held : IsValueOf f1 v (r2 k) = subst (λ z. IsValueOf f1 v z) (sym (kept k (slice_get_within c.locals k p first_here))) (values_stay f f1 v (r k) more argument) in
          let place_is : local_place scope1 k (Some p) s1 ≡ Gives (obj.At (start_pointer o)) s1 =
          ap (λ b. if◌then◌else◌ {A = Run obj.ValuePlace} b (λ t. and_then (or_undefined UsesDeadObject (scope1 k) t) (λ o. pure (obj.At (start_pointer o)))) (pure (obj.Register k)) s1) e
          ∙ ap (λ z. and_then (or_undefined UsesDeadObject z s1) (λ o. pure (obj.At (start_pointer o)))) here in
          let at1 : Stands c heads q (address_code L 0 (vp.Local (object_index c.locals k)) 0 tail) = subst (λ z. Stands c heads q z) (code_is true e) at in
          meets_same c.rooms c.functions (ap (λ z. finish z K) (run_is true e))
          (bound_run c found (and_then (put scope1 s1) (λ _. body scope1)) (λ z t. Gives z (ended t)) K q r s.world m
          (bound_run c found (put scope1 s1) (λ _. body scope1) K1 q r s.world m
          (meets_same c.rooms c.functions (ap (λ z. finish (and_then z (λ a. write c.structs ty a v)) (λ _ t. finish (body scope1 t) K1)) place_is)
          (address_meets c found 0 (vp.Local (object_index c.locals k)) 0 tail heads q r s.world m at1
          ((writes_meet c found).scalars ty (all.scalars 0 p refl) (address_register L 0) 0 k code heads (next_place q) (start_pointer o) (start_pointer o) v f1 scope1 r2 s1 m (λ _ t. finish (body scope1 t) K1) (at_plain c.code.blocks c.last c.end _ at1) (fits_temporary 0 P64 a fit1) all.given.1 held base (inl (refl, refl))
          (λ t n at2 aft2 fit2.
          others f1 scope1 r2 t n (next_place (next_place q)) K1 all1 fit2 at2
          (λ q2 inner g r1 u n1 left at3 fit3 b.
          next q2 inner g r1 u n1 (λ z. ended (left z)) at3 fit3 (record {
            low = let x = b.low in let y = aft2.turned in omega (arith, x, y);
            leaves = λ z. (end_object (left z).world.outer.memory o, ap (λ y. with_memory y (end_object (left z).world.outer.memory o)) (b.leaves z).1);
            after = λ h z n2 x.
                objects_begin_and_end.parts f h s.world.outer.memory m (left z).world.outer.memory n2 name size s.world.meter.turns (left z).world.meter.turns fit.memory (after_on aft2 (b.after h z n2 x));
            fits = λ h z r3 n2 x.
                objects_begin_and_end.end c.statics c.structs c.locals c.own h scope r3 (left z).registers (left z).world.outer.memory n2 (left z).world.outer.input k o none (b.fits h z r3 n2 x);
            outside = λ j le. b.outside j le ∙ other j (λ same. absurd (let h = all.bounded in omega (arith, h, le, same)));
          }))))))))

      one_more : (b : Bool) → p.in_memory ≡ b → EndsSo c (finish (with_parameters c.structs k (p ∷ ps) (v ∷ vs) run scope s) K) q r s.world m
      one_more false e = in_register e
      one_more true e = in_object e

    pub parameters : (ps : List Local) (k : ℕ) (vs ws : List Value) (f : Names) (scope : Scope) (r : Registers) (s : CallState) (m : Memory) (q : CodePlace) (K : StatementFlow → CallState → CodeObservation) → PassedArguments past k ps vs ws f scope r → Fit c f scope r s m
        → Stands c heads q (parameters_code L c.structs c.locals k ps rest) → Enters scope f s m K → EndsSo c (finish (with_parameters c.structs k ps vs run scope s) K) q r s.world m
    parameters [] k vs ws f scope r s m q K all fit at next =
        next q scope f r s m (λ t. t) at fit (record {
          low = omega arith;
          leaves = λ t. (t.world.outer.memory, refl);
          after = λ h u n x. x;
          fits = λ h u n n1 x. x;
          outside = λ j le. refl;
        })
    parameters (p ∷ ps) k [] [] f scope r s m q K all fit at next = absurd all.given
    parameters (p ∷ ps) k [] (w ∷ ws) f scope r s m q K all fit at next = absurd all.given
    parameters (p ∷ ps) k (v ∷ vs) [] f scope r s m q K all fit at next = absurd all.given
    parameters (p ∷ ps) k (v ∷ vs) (w ∷ ws) f scope r s m q K all fit at next =
        one_more p ps k v vs w ws f scope r s m q K all fit at next
        (λ f1 scope1 r1 s1 m1 q1 K1 all1 fit1 at1 next1. parameters ps (suc k) vs ws f1 scope1 r1 s1 m1 q1 K1 all1 fit1 at1 next1)
        p.in_memory refl
