-- Locals begin: those in registers without a value, those in memory as objects.
use Rattle.std.proofs.Common.{◌≡◌, ◌≢◌, ℕ, zero, suc, ◌+◌, ◌<◌, ◌≤◌, ◌-◌, ◌==◌, List, [], ◌∷◌, Bool, true, false, cond, Some, None, length, refl, sym, ap, ◌∙◌, subst, arith, eq-eqb}
use Rattle.std.specs.Prelude.{if◌then◌else◌, slice_get}
use Rattle.mem_model.specs.declared.value.Value.TheVariants.{Unset}
use Rattle.mem_model.specs.Memory.{Memory, begin_object, end_object}
use Rattle.mem_model.specs.World.{World, with_memory}
use Rattle.mem_model.specs.Ending.{Evaluation, Gives, Ends}
use Rattle.mem_model.specs.Related.{Names, with_name}
use Rattle.c_typed_tree.specs.declared.units.Local.{Local}
use Rattle.c_typed_tree.specs.View.{type_view}
use Rattle.c_typed_tree.specs.Layout.{size_of}
use Rattle.c_semantics.specs.Runs.{CallState, Run, and_then, in_world, with_registers, with_local_value, write_register, ◌>>◌}
use Rattle.c_semantics.specs.Objects.{Scope, bind_object, with_locals, with_local, with_local_object}
use Rattle.c_semantics.specs.Executes.{StatementFlow, Returns}
use Rattle.suifvm_meaning.specs.Behave.{Registers}
use Rattle.lowering_code.specs.declared.item.CodeItem.{CodeItem}
use Rattle.lowering_code.specs.Registers.{object_index}
use Rattle.lowering_states.specs.Places.{CodePlace, start_of_block}
use Rattle.lowering_states.specs.Runs.{CodeObservation, Resumes}
use Rattle.lowering_states.specs.model.Opens.{opens}
use Rattle.lowering_states.proofs.States.{ne_eqb, fits_unset}
use Rattle.lowering_expression_laws.specs.Parts.{Setting, EndsSo, Stands, Fit, Aft}
use Rattle.lowering_states.proofs.LoweringObjectLaws.Objects.{objects_begin_and_end}
use Rattle.lowering_statement_laws.specs.Parts.{world_left, Onward}
use Rattle.lowering_statement_laws.specs.lowering_declaration_laws.Laws.{MayDeclare, MayDeclareAll}
use Rattle.lowering_statement_laws.proofs.LoweringDeclarationLaws.Counts.{times}

-- ---- runs that change a state behind themselves

gives_same : {A : Type 0} (e : Evaluation A CallState) → e ≡ and_then e (λ a t. Gives a t)
gives_same (Gives a t) = refl
gives_same (Ends x) = refl

gives_on : {A : Type 0} (e : Evaluation A CallState) (f g : CallState → CallState) → and_then (and_then e (λ a t. Gives a (f t))) (λ a t. Gives a (g t)) ≡ and_then e (λ a t. Gives a (g (f t)))
gives_on (Gives a t) f g = refl
gives_on (Ends x) f g = refl

-- a world that differs in its memory alone
abbrev pub Remembers : (w v : World) → Type 0
Remembers w v = (x : Memory) × (v ≡ with_memory w x)

-- ---- locals begin

module _ (c : Setting) where
  -- the states in which a run stands whose locals began, and how it leaves them
  pub record BegunLocals (scope : Scope) (f : Names) (r : Registers) (s : CallState) (m : Memory) (ks : List ℕ) : Type 0 where
    pub names : Names
    pub inner : Scope
    pub start : CallState
    pub left : CallState → CallState
    pub is : (run : Scope → Run StatementFlow) → with_locals c.structs c.locals ks run scope s ≡ and_then (run inner start) (λ a t. Gives a (left t))
    pub fit : Fit c names inner r start m
    pub begins : Remembers s.world start.world
    pub leaves : (t : CallState) → Remembers t.world (left t).world
    pub outside : (j : ℕ) → times j ks ≡ zero → inner j ≡ scope j
    pub after : (g : Names) (t : CallState) (n : Memory) → Aft c names start m g t n → Aft c f s m g (left t) n
    pub fits : (g : Names) (t : CallState) (q : Registers) (n : Memory) → Fit c g inner q t n → Fit c g scope q (left t) n

  one_more : (k j : ℕ) (ks : List ℕ) → times j (k ∷ ks) ≡ cond (k == j) 1 0 + times j ks
  one_more k j ks = refl

  this_one : (k j : ℕ) → j ≡ k → cond (k == j) (suc zero) zero ≡ suc zero
  this_one k j same = ap (λ b. cond b (suc zero) zero) (eq-eqb k j (sym same))

  -- one local more, where the others begin in every state
  module _ (k : ℕ) (ks : List ℕ) (may : MayDeclareAll c.structs c.locals (k ∷ ks)) (once : (j : ℕ) → times j (k ∷ ks) ≤ 1) (scope : Scope) (apart : (j : ℕ) → 0 < times j (k ∷ ks) → scope j ≡ None) (f : Names) (r : Registers) (s : CallState) (m : Memory) (fit : Fit c f scope r s m)
      (others : (scope1 : Scope) → ((j : ℕ) → 0 < times j ks → scope1 j ≡ None) → (f1 : Names) (s1 : CallState) → Fit c f1 scope1 r s1 m → BegunLocals scope1 f1 r s1 m ks) where
    abbrev l : Local
    l = may.0.local

    abbrev size : ℕ
    size = size_of c.structs (type_view l.ty)

    here : times k ks ≡ zero
    here = let h = once k in let one = one_more k k ks in let this = this_one k k refl in omega (arith, h, one, this)

    kept : (j : ℕ) → 0 < times j ks → scope j ≡ None
    kept j lt = apart j (let one = one_more k j ks in omega (arith, lt, one))

    no_more : (j : ℕ) → times j (k ∷ ks) ≡ zero → (times j ks ≡ zero) × (j ≢ k)
    no_more j e = let one = one_more k j ks in (omega (arith, e, one), λ same. let this = this_one k j same in absurd (omega (arith, e, one, this)))

    abbrev more : (Scope → Run StatementFlow) → Scope → Run StatementFlow
    more run = with_locals c.structs c.locals ks run

    by_place : (run : Scope → Run StatementFlow) (b : Bool) → l.in_memory ≡ b → with_locals c.structs c.locals (k ∷ ks) run scope s ≡ if◌then◌else◌ {A = Run StatementFlow} b (with_local_object size k (more run) scope) (write_register k Unset >> more run scope) s
    unfolding opens
    by_place run b e =
        ap (λ z. with_local c.structs k z (more run) scope s) may.0.found
        ∙ ap (λ z. if◌then◌else◌ {A = Run StatementFlow} z (with_local_object size k (more run) scope) (write_register k Unset >> more run scope) s) e

    register_begun : l.in_memory ≡ false → BegunLocals scope f r s m (k ∷ ks)
    unfolding opens
    register_begun e =
        let s1 : CallState = with_registers s (with_local_value s.registers k Unset) in
        let b : BegunLocals scope f r s1 m ks = others scope kept f s1 (fits_unset k fit) in
        record {
          names = b.names;
          inner = b.inner;
          start = b.start;
          left = b.left;
          is = λ run. by_place run false e ∙ b.is run;
          fit = b.fit;
          begins = b.begins;
          leaves = b.leaves;
          outside = λ j z. b.outside j (no_more j z).0;
          after = b.after;
          fits = b.fits;
        }

    object_begun : l.in_memory ≡ true → BegunLocals scope f r s m (k ∷ ks)
    unfolding opens
    object_begun e =
        let o : ℕ = length s.world.outer.memory in
        let name : ℕ = c.own + object_index c.locals k in
        let scope1 : Scope = bind_object scope k o in
        let f1 : Names = with_name f o name in
        let s1 : CallState = in_world s (with_memory s.world (begin_object s.world.outer.memory size true)) in
        let none : scope k ≡ None = apart k (let one = one_more k k ks in let this = this_one k k refl in omega (arith, one, this)) in
        let fit1 : Fit c f1 scope1 r s1 m =
        (objects_begin_and_end.begin c.statics c.structs c.locals c.own f scope r s.registers s.world.outer.memory m s.world.outer.input k l (record { found = may.0.found; inside = e; none = none; small = may.0.small e }) fit).fits in
        let other : (j : ℕ) → j ≢ k → scope1 j ≡ scope j = (λ j ne. ap (λ z. if z then Some o else scope j) (ne_eqb j k ne)) in
        let kept1 : (j : ℕ) → 0 < times j ks → scope1 j ≡ None = (λ j lt. other j (λ same. absurd (let z : times j ks ≡ zero = ap (λ i. times i ks) same ∙ here in omega (arith, lt, z))) ∙ kept j lt) in
        let b : BegunLocals scope1 f1 r s1 m ks = others scope1 kept1 f1 s1 fit1 in
        let ended : CallState → CallState = (λ t. in_world t (with_memory t.world (end_object t.world.outer.memory o))) in
        record {
          names = b.names;
          inner = b.inner;
          start = b.start;
          left = λ t. ended (b.left t);
          is = λ run. by_place run true e ∙ ap (λ z. and_then z (λ a t. Gives a (ended t))) (b.is run) ∙ gives_on (run b.inner b.start) b.left ended;
          fit = b.fit;
          begins = b.begins;
          leaves = λ t. (end_object (b.left t).world.outer.memory o, ap (λ z. with_memory z (end_object (b.left t).world.outer.memory o)) (b.leaves t).1);
          outside = λ j z. b.outside j (no_more j z).0 ∙ other j (no_more j z).1;
          after = λ g t n a.
              objects_begin_and_end.parts f g s.world.outer.memory m (b.left t).world.outer.memory n name size s.world.meter.turns (b.left t).world.meter.turns fit.memory (b.after g t n a);
          fits = λ g t q n a.
              objects_begin_and_end.end c.statics c.structs c.locals c.own g scope q (b.left t).registers (b.left t).world.outer.memory n (b.left t).world.outer.input k o none (b.fits g t q n a);
        }

    one_begun : (b : Bool) → l.in_memory ≡ b → BegunLocals scope f r s m (k ∷ ks)
    one_begun false e = register_begun e
    one_begun true e = object_begun e

  pub begun_locals : (ks : List ℕ) → MayDeclareAll c.structs c.locals ks → ((j : ℕ) → times j ks ≤ 1) → (scope : Scope) → ((j : ℕ) → 0 < times j ks → scope j ≡ None) → (f : Names) (r : Registers) (s : CallState) (m : Memory) → Fit c f scope r s m → BegunLocals scope f r s m ks
  begun_locals [] may once scope apart f r s m fit = record {
    names = f;
    inner = scope;
    start = s;
    left = λ t. t;
    is = λ run. gives_same (run scope s);
    fit = fit;
    begins = (s.world.outer.memory, refl);
    leaves = λ t. (t.world.outer.memory, refl);
    outside = λ j e. refl;
    after = λ g t n a. a;
    fits = λ g t q n a. a;
  }
  begun_locals (k ∷ ks) may once scope apart f r s m fit =
      one_begun k ks may once scope apart f r s m fit
      (λ scope1 kept1 f1 s1 fit1. begun_locals ks may.1 (λ j. let h = once j in let one = one_more k j ks in omega (arith, h, one)) scope1 kept1 f1 r s1 m fit1)
      may.0.local.in_memory refl

  -- ---- what follows

  module _ {scope : Scope} {f : Names} {r : Registers} {s : CallState} {m : Memory} {ks : List ℕ} (b : BegunLocals scope f r s m ks) where
    -- the run goes on from the states in which its locals began
    pub starts : {o : CodeObservation} (p : CodePlace) → EndsSo c o p r b.start.world m → EndsSo c o p r s.world m
    starts {o = o} p h = subst (λ w. EndsSo c o p r w m) b.begins.1 h

    pub low_enough : (n : ℕ) → s.world.meter.turns ≤ n → b.start.world.meter.turns ≤ n
    low_enough n low = subst (λ w. w.meter.turns ≤ n) (sym b.begins.1) low

    stays : {o : CodeObservation} (t : CallState) (q : CodePlace) (r1 : Registers) (n : Memory) → EndsSo c o q r1 (b.left t).world n → EndsSo c o q r1 t.world n
    stays {o = o} t q r1 n h = subst (λ w. EndsSo c o q r1 w n) (b.leaves t).1 h

    pub onward_begun : {K : StatementFlow → CallState → CodeObservation} {heads : List ℕ} {rest : List CodeItem} {brk con : ℕ} → Onward c scope f s m K heads rest brk con → Onward c b.inner b.names b.start m (λ z t. K z (b.left t)) heads rest brk con
    onward_begun {K = K} {brk = brk} {con = con} way = record {
      goes = λ q g t r1 n at a fit. stays t q r1 n (way.goes q g (b.left t) r1 n at (b.after g t n a) (b.fits g t r1 n fit));
      breaks = λ g t r1 n a fit. stays t (start_of_block (c.last - brk)) r1 n (way.breaks g (b.left t) r1 n (b.after g t n a) (b.fits g t r1 n fit));
      continues = λ g t r1 n a fit. stays t (start_of_block (c.last - con)) r1 n (way.continues g (b.left t) r1 n (b.after g t n a) (b.fits g t r1 n fit));
      returns = λ v ws g t r1 n a fit ret.
          subst (λ w. Resumes c.rooms c.functions (K (Returns v) (b.left t)) ws (world_left c w n) c.waiting) (b.leaves t).1 (way.returns v ws g (b.left t) r1 n (b.after g t n a) (b.fits g t r1 n fit) ret);
    }
