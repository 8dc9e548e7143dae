-- A run with other functions, which refine the given ones, refines the run; and so refined functions refine a unit.
use Rattle.std.proofs.Common.{◌≡◌, ◌<◌, ◌≤◌, ◌^◌, ◌==◌, ◌&&◌, ℕ, zero, suc, Bool, true, false, cond, IsTrue, List, [], ◌∷◌, Option, Some, None, refl, sym, ap, ◌∙◌, subst, arith, length, map, filter}
use Rattle.std.specs.Prelude.{slice_get, slice_index_or, take, bytes_eq, codes, if◌then◌else◌}
use Rattle.std.specs.List.{list_all}
use Rattle.std.proofs.lemmas.Option.{slice_get-get_or, get_or_from_slice_get, slice_get_within, same_Some, none-some}
use Rattle.mem_model.specs.declared.value.Value.{Value}
use Rattle.mem_model.specs.declared.value.Value.TheVariants.{Word, Address, Unset}
use Rattle.mem_model.specs.World.{World, Rooms}
use Rattle.mem_model.specs.Ending.{Done, Trap, Undefined, More, Evaluation, Gives, Ends}
use Rattle.mem_objects.specs.Start.{start_memory}
use Rattle.c_typed_tree.specs.declared.types.StructDef.{StructDef}
use Rattle.c_typed_tree.specs.declared.units.Local.{Local}
use Rattle.c_typed_tree.specs.declared.units.TypedFn.{TypedFn}
use Rattle.c_typed_tree.specs.declared.units.TypedUnit.{TypedUnit}
use Rattle.c_typed_tree.specs.Statements.{Stmt}
use Rattle.c_typed_tree.specs.View.{type_view, stmt_view}
use Rattle.c_typed_tree.specs.Types.{PlainType}
use Rattle.c_typed_tree.specs.Typing.{Signature, Context, is_same_type, int, is_scalar}
use Rattle.c_typed_tree.specs.TypingStatements.{no_jumps, is_typed_stmt}
use Rattle.c_typed_tree.specs.Lawful.{signature_of, types_of_parameters, is_lawful_local, is_result, is_identifier, IsTypedFn, is_main, is_start, IsTypedUnit}
use Rattle.c_typed_tree.specs.Weight.{function_weight}
use Rattle.c_semantics.specs.Runs.{CallState}
use Rattle.c_semantics.specs.Objects.{Scope, no_scope}
use Rattle.c_semantics.specs.Executes.{StatementFlow, Goes, Breaks, Continues, Returns, with_parameters, enter_function, leave_function, value_of_call, body_of, call_with_turn, calls_of, exec, function_locals, level}
use Rattle.c_semantics.specs.Behaves.{world_of, status_of, ended_by, ending_of, run_of, place_of_main, main_of, run_main}
use Rattle.c_semantics.specs.Refines as r
use Rattle.c_semantics.specs.Refines.{with_peak, lower_peak, GivesBelow, IsBelow, context_at, result_at, IsTypedAt, FnRefines, FnsRefine, EndingRefines, with_functions, WeighNoMore, UnitRefines, UnitsRefine}
use Rattle.c_typed_tree.specs.Declarations.{declarations, due_declarations}
use Rattle.c_semantics.proofs.Facts.{no_true, along}
use Rattle.c_semantics.proofs.Forms as forms
use Rattle.c_semantics.proofs.Below.{below_on, refines_below, onto, BelowOf, kept_below, no_turn_below}
use Rattle.c_semantics.proofs.RefinesStmt.{level_itself}

-- ---- functions by number

-- the same functions are there, and each refines its own, which is well typed
data FunctionsRefine (unit : TypedUnit) (n : ℕ) : Option TypedFn → Option TypedFn → Type 0 where
  absent : FunctionsRefine unit n None None
  related : {f g : TypedFn} → FnRefines f g → IsTypedFn unit g → IsTypedAt unit n no_jumps (stmt_view g.body) → FunctionsRefine unit n (Some f) (Some g)

typed_at : (unit : TypedUnit) → IsTypedUnit unit → (n : ℕ) (g : TypedFn) → slice_get unit.functions n ≡ Some g → IsTypedFn unit g
typed_at unit ok n g e =
    subst (λ x. IsTypedFn unit x) (get_or_from_slice_get unit.functions n g g e) (ok.functions n g (slice_get_within unit.functions n g e))

stmt_at : (unit : TypedUnit) → IsTypedUnit unit → (n : ℕ) (g : TypedFn) → slice_get unit.functions n ≡ Some g → IsTypedAt unit n no_jumps (stmt_view g.body)
stmt_at unit ok n g e =
    subst (λ o. IsTrue (is_typed_stmt (context_at unit o) (result_at o) no_jumps (stmt_view g.body))) (sym e) (typed_at unit ok n g e).body

related_from : (unit : TypedUnit) → IsTypedUnit unit → (n k : ℕ) (fs gs : List TypedFn) → FnsRefine fs gs → slice_get unit.functions n ≡ slice_get gs k
    → FunctionsRefine unit n (slice_get fs k) (slice_get gs k)
related_from unit ok n k [] [] r.no_function e = absent
related_from unit ok n k [] (g ∷ gs) h e = elim h [ ]
related_from unit ok n k (f ∷ fs) [] h e = elim h [ ]
related_from unit ok n zero (f ∷ fs) (g ∷ gs) (r.one_function h j) e = related h (typed_at unit ok n g e) (stmt_at unit ok n g e)
related_from unit ok n (suc k) (f ∷ fs) (g ∷ gs) (r.one_function h j) e = related_from unit ok n k fs gs j e

same_locals : {unit : TypedUnit} {n : ℕ} {f g : Option TypedFn} → FunctionsRefine unit n f g → function_locals f ≡ function_locals g
same_locals absent = refl
same_locals (related h t p) = h.locals

module _ (unit : TypedUnit) (fs : List TypedFn) (rooms : Rooms) (ok : IsTypedUnit unit) (h : FnsRefine fs unit.functions) where
  abbrev ds : List StructDef
  ds = unit.structs

  abbrev one : TypedUnit
  one = with_functions unit fs

  related_at : (n : ℕ) → FunctionsRefine unit n (slice_get fs n) (slice_get unit.functions n)
  related_at n = related_from unit ok n n fs unit.functions h refl

  body_below : (m n : ℕ) → ((scope : Scope) (s : Stmt) → IsBelow (level one rooms m n scope s) (level unit rooms m n scope s))
      → {f g : TypedFn} → FnRefines f g → IsTypedAt unit n no_jumps (stmt_view g.body) → (vs : List Value)
      → IsBelow (body_of ds (level one rooms m) n f vs) (body_of ds (level unit rooms m) n g vs)
  body_below m n l {f = f} {g = g} k p vs =
      subst (λ z. IsBelow (body_of ds (level one rooms m) n f vs) z)
      (ap (λ c. with_parameters ds 0 (take c f.locals) vs (λ scope. level unit rooms m n scope (stmt_view g.body)) no_scope) k.params
      ∙ ap (λ ps. with_parameters ds 0 (take g.params ps) vs (λ scope. level unit rooms m n scope (stmt_view g.body)) no_scope) k.locals)
      (forms.related_parameters BelowOf kept_below ds 0 (take f.params f.locals) vs
      (λ scope. below_on (l scope (stmt_view f.body)) (refines_below (level_itself unit rooms m n scope (stmt_view g.body)) ((k.body unit n no_jumps p).does rooms m scope))) no_scope)

  calls_below : (m n : ℕ) → ((scope : Scope) (s : Stmt) → IsBelow (level one rooms m n scope s) (level unit rooms m n scope s))
      → {f g : Option TypedFn} → FunctionsRefine unit n f g → (vs : List Value) → IsBelow (call_with_turn ds rooms (level one rooms m) n f vs) (call_with_turn ds rooms (level unit rooms m) n g vs)
  calls_below m n l absent vs = kept_below.undefined _
  calls_below m n l (related {f = f} {g = g} k t p) vs =
      kept_below.bind kept_below.turn (λ _. kept_below.call rooms n (kept_below.bind (body_below m n l k p vs)
      (λ flow. onto (ap (λ name. value_of_call (bytes_eq name (codes "main")) flow) k.name) (forms.steady_value BelowOf kept_below (is_main f) flow))))

  levels_below : (m n : ℕ) (scope : Scope) (s : Stmt) → IsBelow (level one rooms m n scope s) (level unit rooms m n scope s)
  levels_below zero n scope s = no_turn_below
  levels_below (suc m) n scope s =
      subst (λ z. IsBelow (level one rooms (suc m) n scope s) z)
      (ap (λ ls. exec ds ls (calls_of unit rooms (level unit rooms m)) (level unit rooms m n) scope s) (same_locals (related_at n)))
      (forms.exec_related BelowOf kept_below ds (function_locals (slice_get fs n)) (calls_of one rooms (level one rooms m)) (calls_of unit rooms (level unit rooms m))
      (λ k vs. calls_below m k (levels_below m k) (related_at k) vs)
      (level one rooms m n) (level unit rooms m n) (levels_below m n) scope s)

  -- ---- whole runs

  status_below : (w : World) (p : ℕ) (v : Value) → p ≤ w.meter.peak → EndingRefines (status_of (with_peak p w) v) (status_of w v)
  status_below w p (Word n) l = record { peak = p; low = l; holds = refl }
  status_below w p (Address a) l = tt
  status_below w p Unset l = tt

  ended_below : (w : World) (p : ℕ) (flow : StatementFlow) → p ≤ w.meter.peak → EndingRefines (ended_by (with_peak p w) flow) (ended_by w flow)
  ended_below w p (Returns (Some v)) l = status_below w p v l
  ended_below w p (Returns None) l = record { peak = p; low = l; holds = refl }
  ended_below w p Goes l = record { peak = p; low = l; holds = refl }
  ended_below w p Breaks l = tt
  ended_below w p Continues l = tt

  ending_below : (n : ℕ) (c d : Evaluation StatementFlow CallState) → GivesBelow c d → EndingRefines (ending_of (leave_function rooms n) c) (ending_of (leave_function rooms n) d)
  ending_below n c (Ends (Undefined w at)) k = tt
  ending_below n c (Ends (Done w status)) k = record { peak = k.peak; low = k.low; holds = ap (ending_of (leave_function rooms n)) k.holds }
  ending_below n c (Ends (Trap w code)) k = record { peak = k.peak; low = k.low; holds = ap (ending_of (leave_function rooms n)) k.holds }
  ending_below n c (Ends (More w)) k = record { peak = k.peak; low = k.low; holds = ap (ending_of (leave_function rooms n)) k.holds }
  ending_below n c (Gives flow t) k =
      subst (λ x. EndingRefines (ending_of (leave_function rooms n) x) (ended_by (leave_function rooms n t.world) flow)) (sym k.holds) (ended_below (leave_function rooms n t.world) k.peak flow k.low)

  run_of_below : (n : ℕ) {f g : Option TypedFn} → FunctionsRefine unit n f g → (w : World) (turns : ℕ) → EndingRefines (run_of one rooms n f w turns) (run_of unit rooms n g w turns)
  run_of_below n absent w turns = tt
  run_of_below n (related k t p) w turns =
      let s : CallState = record { registers = λ j. Unset; world = enter_function rooms n w } in
      ending_below n _ _ ((body_below (suc turns) n (levels_below (suc turns) n) k p []).by s s.world.meter.peak (omega arith))

main_place : (fs gs : List TypedFn) → FnsRefine fs gs → place_of_main fs ≡ place_of_main gs
main_place [] [] r.no_function = refl
main_place [] (g ∷ gs) h = elim h [ ]
main_place (f ∷ fs) [] h = elim h [ ]
main_place (f ∷ fs) (g ∷ gs) (r.one_function h k) =
    ap (λ name. if bytes_eq name (codes "main") then 0 else suc (place_of_main fs)) h.name
    ∙ ap (λ n. if is_main g then 0 else suc n) (main_place fs gs k)

runs_refine : (unit : TypedUnit) (fs : List TypedFn) → IsTypedUnit unit → FnsRefine fs unit.functions → (rooms : Rooms) (input : List ℕ) (turns : ℕ)
    → EndingRefines (run_main (with_functions unit fs) rooms input turns) (run_main unit rooms input turns)
runs_refine unit fs ok h rooms input turns =
    subst
    (λ n. EndingRefines (run_of (with_functions unit fs) rooms n (slice_get fs n) (world_of (start_memory unit.globals) input turns) turns)
    (run_main unit rooms input turns))
    (sym (main_place fs unit.functions h))
    (run_of_below unit fs rooms ok h (main_of unit) (related_at unit fs rooms ok h (main_of unit)) (world_of (start_memory unit.globals) input turns) turns)

-- ---- still well typed

same_parameters : {f g : TypedFn} → FnRefines f g → types_of_parameters f ≡ types_of_parameters g
same_parameters {f = f} {g = g} h = ap (λ n. map (λ l. type_view l.ty) (take n f.locals)) h.params ∙ ap (λ ls. map (λ l. type_view l.ty) (take g.params ls)) h.locals

abbrev signature_by : PlainType → List PlainType → Signature
signature_by t ts = record { result = t; params = ts }

same_signature : {f g : TypedFn} → FnRefines f g → signature_of f ≡ signature_of g
same_signature {f = f} {g = g} h =
    ap (λ t. signature_by (type_view t) (types_of_parameters f)) h.result ∙ ap (λ ts. signature_by (type_view g.result) ts) (same_parameters h)

same_signatures : (fs gs : List TypedFn) → FnsRefine fs gs → map signature_of fs ≡ map signature_of gs
same_signatures [] [] r.no_function = refl
same_signatures [] (g ∷ gs) h = elim h [ ]
same_signatures (f ∷ fs) [] h = elim h [ ]
same_signatures (f ∷ fs) (g ∷ gs) (r.one_function h k) = ap (λ s. s ∷ map signature_of fs) (same_signature h) ∙ ap (λ ss. signature_of g ∷ ss) (same_signatures fs gs k)

-- the context of a function, by the parts that may be spelled differently
abbrev context_by : TypedUnit → List Signature → List Local → Context
context_by unit ss ls = record { structs = unit.structs; globals = unit.globals; functions = ss; locals = ls }

abbrev body_by : TypedUnit → List Signature → List Local → PlainType → Stmt → Type 0
body_by unit ss ls t s = IsTrue (is_typed_stmt (context_by unit ss ls) t no_jumps s)

typed_fn : (unit : TypedUnit) (fs : List TypedFn) (n : ℕ) → FnsRefine fs unit.functions → {f g : TypedFn} → slice_get unit.functions n ≡ Some g → FnRefines f g
    → IsTypedFn unit g → IsTypedAt unit n no_jumps (stmt_view g.body) → IsTypedFn (with_functions unit fs) f
typed_fn unit fs n h {f = f} {g = g} e k t p =
    let body : body_by unit (map signature_of unit.functions) g.locals (type_view g.result) (stmt_view f.body) =
    subst (λ o. IsTrue (is_typed_stmt (context_at unit o) (result_at o) no_jumps (stmt_view f.body))) e (k.body unit n no_jumps p).typed in
    record {
      name = along is_identifier k.name t.name;
      result = along (λ x. is_result unit.structs (type_view x)) k.result t.result;
      params = subst (λ x. x ≤ length f.locals) (sym k.params) (subst (λ ls. g.params ≤ length ls) (sym k.locals) t.params);
      scalars = along (λ ts. list_all is_scalar ts) (same_parameters k) t.scalars;
      count = subst (λ ls. length ls < 2 ^ 32) (sym k.locals) t.count;
      locals = along (λ ls. list_all (is_lawful_local unit.structs) ls) k.locals t.locals;
      block = k.block t.block;
      body = subst (λ ss. body_by unit ss f.locals (type_view f.result) (stmt_view f.body)) (sym (same_signatures fs unit.functions h))
          (subst (λ ls. body_by unit (map signature_of unit.functions) ls (type_view f.result) (stmt_view f.body)) (sym k.locals)
          (subst (λ x. body_by unit (map signature_of unit.functions) g.locals (type_view x) (stmt_view f.body)) (sym k.result) body));
      declares = λ number.
          subst (λ params. declarations number (stmt_view f.body) ≡ due_declarations params (length f.locals) number) (sym k.params)
          (subst (λ ls. declarations number (stmt_view f.body) ≡ due_declarations g.params (length ls) number) (sym k.locals)
          ((k.body unit n no_jumps p).declarations number ∙ t.declares number));
    }

typed_by : (unit : TypedUnit) (fs : List TypedFn) (n : ℕ) → FnsRefine fs unit.functions → (a b : Option TypedFn) → FunctionsRefine unit n a b → slice_get unit.functions n ≡ b
    → (x : TypedFn) → a ≡ Some x → IsTypedFn (with_functions unit fs) x
typed_by unit fs n h None None absent e x i = absurd (none-some x i)
typed_by unit fs n h None (Some g) l e x i = elim l [ ]
typed_by unit fs n h (Some f) None l e x i = elim l [ ]
typed_by unit fs n h (Some f) (Some g) (related k t p) e x i = subst (λ y. IsTypedFn (with_functions unit fs) y) (same_Some f x i) (typed_fn unit fs n h e k t p)

-- `main` is where it was

same_start : {f g : TypedFn} → FnRefines f g → is_start f ≡ is_start g
same_start {f = f} {g = g} h = ap (λ t. is_same_type (type_view t) int && f.params == 0) h.result ∙ ap (λ n. is_same_type (type_view g.result) int && n == 0) h.params

count_on : (t u : Bool) (f g : TypedFn) (xs ys : List TypedFn) → t ≡ u → length xs ≡ length ys → length (cond t (f ∷ xs) xs) ≡ length (cond u (g ∷ ys) ys)
count_on true true f g xs ys e h = ap suc h
count_on false false f g xs ys e h = h
count_on true false f g xs ys e h = no_true (sym e)
count_on false true f g xs ys e h = no_true e

starts_on : (t u : Bool) (f g : TypedFn) (xs ys : List TypedFn) → t ≡ u → is_start f ≡ is_start g → list_all is_start xs ≡ list_all is_start ys
    → list_all is_start (cond t (f ∷ xs) xs) ≡ list_all is_start (cond u (g ∷ ys) ys)
starts_on true true f g xs ys e s h = ap (λ x. x && list_all is_start xs) s ∙ ap (λ x. is_start g && x) h
starts_on false false f g xs ys e s h = h
starts_on true false f g xs ys e s h = no_true (sym e)
starts_on false true f g xs ys e s h = no_true e

same_name : {f g : TypedFn} → FnRefines f g → is_main f ≡ is_main g
same_name h = ap (λ name. bytes_eq name (codes "main")) h.name

mains_count : (fs gs : List TypedFn) → FnsRefine fs gs → length (filter is_main fs) ≡ length (filter is_main gs)
mains_count [] [] r.no_function = refl
mains_count [] (g ∷ gs) h = elim h [ ]
mains_count (f ∷ fs) [] h = elim h [ ]
mains_count (f ∷ fs) (g ∷ gs) (r.one_function h k) = count_on (is_main f) (is_main g) f g (filter is_main fs) (filter is_main gs) (same_name h) (mains_count fs gs k)

mains_start : (fs gs : List TypedFn) → FnsRefine fs gs → list_all is_start (filter is_main fs) ≡ list_all is_start (filter is_main gs)
mains_start [] [] r.no_function = refl
mains_start [] (g ∷ gs) h = elim h [ ]
mains_start (f ∷ fs) [] h = elim h [ ]
mains_start (f ∷ fs) (g ∷ gs) (r.one_function h k) = starts_on (is_main f) (is_main g) f g (filter is_main fs) (filter is_main gs) (same_name h) (same_start h) (mains_start fs gs k)

-- ---- weights

weigh : (unit : TypedUnit) (fs gs : List TypedFn) → FnsRefine fs gs
    → ((n : ℕ) (f g : TypedFn) → slice_get gs n ≡ Some g → FnRefines f g → function_weight unit.structs f ≤ function_weight unit.structs g) → WeighNoMore unit fs gs
weigh unit [] [] r.no_function p = r.none_weighs
weigh unit [] (g ∷ gs) h p = elim h [ ]
weigh unit (f ∷ fs) [] h p = elim h [ ]
weigh unit (f ∷ fs) (g ∷ gs) (r.one_function h k) p = r.one_weighs (p 0 f g refl h) (weigh unit fs gs k (λ n x y e i. p (suc n) x y e i))

pub unit_refines : UnitsRefine
unit_refines unit fs ok h = record {
  typed = record {
    structs = ok.structs;
    globals = ok.globals;
    functions = λ n d lt.
        typed_by unit fs n h (slice_get fs n) (slice_get unit.functions n) (related_at unit fs [] ok h n) refl (slice_index_or fs n d) (slice_get-get_or fs n d lt);
    main = record {
      one = mains_count fs unit.functions h ∙ ok.main.one;
      type = mains_start fs unit.functions h ∙ ok.main.type;
    };
  };
  weight = weigh unit fs unit.functions h
      (λ n f g e k. let s = (k.body unit n no_jumps (stmt_at unit ok n g e)).weight in omega (arith, k.params, s));
  runs = λ rooms input turns. runs_refine unit fs ok h rooms input turns;
}
