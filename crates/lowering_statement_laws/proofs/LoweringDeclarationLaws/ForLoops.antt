-- The code of a `for` that declares.
use Rattle.std.proofs.Common.{◌≡◌, ℕ, zero, ◌<◌, ◌≤◌, List, [], ◌∷◌, Option, Some, None, refl, sym, ap, ◌∙◌, arith}
use Rattle.std.specs.Prelude.{slice_get}
use Rattle.mem_model.specs.Memory.{Memory}
use Rattle.mem_model.specs.Ending.{Evaluation, Gives, Ends}
use Rattle.mem_model.specs.Related.{Names}
use Rattle.c_typed_tree.specs.Expressions.{Expr}
use Rattle.c_typed_tree.specs.Statements.{LocalDeclaration, Stmt, Declare, For, Locals}
use Rattle.c_typed_tree.specs.Statements as q
use Rattle.c_typed_tree.specs.Declarations.{declarations}
use Rattle.c_semantics.specs.Runs.{CallState, Run, and_then, turn, pure, ◌>>◌, ◌>>=◌}
use Rattle.c_semantics.specs.Objects.{Scope}
use Rattle.c_semantics.specs.Evaluates.{choose}
use Rattle.c_semantics.specs.Executes as executes
use Rattle.c_semantics.specs.Executes.{StatementFlow, Goes, Breaks, Continues, Returns, after_body, run_declaration, run_declarations, declared_first, exec}
use Rattle.suifvm_meaning.specs.Behave.{Registers}
use Rattle.lowering_code.specs.declared.item.CodeItem.{CodeItem}
use Rattle.lowering_code.specs.declared.item.CodeItem.TheVariants.{Start, Loop}
use Rattle.lowering_code.specs.Items as items
use Rattle.lowering_code.specs.Statements.{declares_code, after_code, test_code, stmt_code}
use Rattle.lowering_states.specs.Places.{CodePlace}
use Rattle.lowering_states.specs.Runs.{CodeObservation, NotDefined, finish}
use Rattle.lowering_states.specs.model.Opens.{opens}
use Rattle.lowering_states.proofs.Steps.{meets_anything, meets_same}
use Rattle.lowering_states.proofs.States.{after_same, after_on}
use Rattle.lowering_expression_laws.specs.Parts.{Setting, first_depth, EndsSo, Stands, Fit, Aft}
use Rattle.lowering_expression_laws.proofs.Forms.{bound_run}
use Rattle.lowering_statement_laws.specs.Parts.{IsApart, Onward, StmtMeets}
use Rattle.lowering_statement_laws.proofs.Apart.{inner_least}
use Rattle.lowering_statement_laws.proofs.Statements.{onward_on}
use Rattle.lowering_statement_laws.specs.lowering_for_laws.LoweringLoopLaws.{LevelMeanings, at_level, AreLevels}
use Rattle.lowering_statement_laws.specs.lowering_for_laws.Laws.{StepMeets, ConditionMeets}
use Rattle.lowering_statement_laws.proofs.LoweringForLaws.ForLoops.{enters}
use Rattle.lowering_statement_laws.specs.lowering_declaration_laws.Laws.{MayDeclareAll, AllDeclarationsMeet, DeclaringForLoopsMeet}
use Rattle.lowering_statement_laws.proofs.LoweringDeclarationLaws.Counts.{times, first_declared}
use Rattle.lowering_statement_laws.proofs.LoweringDeclarationLaws.Begun.{BegunLocals, begun_locals, starts, low_enough, onward_begun}

-- a declaration goes on
on_going : CodeObservation → StatementFlow → CodeObservation
on_going o Goes = o
on_going o Breaks = NotDefined
on_going o Continues = NotDefined
on_going o (Returns v) = NotDefined

goes_on : (e : Evaluation (Unit {0}) CallState) (next : CallState → CodeObservation) → finish (and_then e (λ _. pure Goes)) (λ z t. on_going (next t) z) ≡ finish e (λ _ t. next t)
unfolding opens on_going
goes_on (Gives a t) next = refl
goes_on (Ends x) next = refl

module _ (c : Setting) (found : slice_get c.functions c.number ≡ Some c.code) (again : Scope → Stmt → Run StatementFlow) where
  abbrev L : ℕ
  L = first_depth c

  -- declarations, one behind the other
  declares_lead : (ds : List LocalDeclaration) → AllDeclarationsMeet c again ds → (is : List CodeItem) (heads : List ℕ) (p : CodePlace) (f : Names) (scope : Scope) (r : Registers) (s : CallState) (m : Memory) (K : Unit {0} → CallState → CodeObservation) → Stands c heads p (declares_code L c.structs c.locals ds is) → Fit c f scope r s m
      → s.world.meter.turns ≤ c.level → ((q1 : CodePlace) (g : Names) (t : CallState) (r1 : Registers) (m1 : Memory) → Stands c heads q1 is → Aft c f s m g t m1 → Fit c g scope r1 t m1 → EndsSo c (K tt t) q1 r1 t.world m1)
      → EndsSo c (finish (run_declarations c.structs c.locals c.calls scope ds s) K) p r s.world m
  unfolding opens on_going
  declares_lead [] h is heads p f scope r s m K at fit low next = next p f s r m at after_same fit
  declares_lead (d ∷ ds) h is heads p f scope r s m K at fit low next =
      let rest : CallState → CodeObservation = (λ t. finish (run_declarations c.structs c.locals c.calls scope ds t) K) in
      bound_run c found (run_declaration c.structs c.locals c.calls scope d s) (λ _. run_declarations c.structs c.locals c.calls scope ds) K p r s.world m
      (meets_same c.rooms c.functions (sym (goes_on (run_declaration c.structs c.locals c.calls scope d s) rest))
      (h.0.by 0 0 (declares_code L c.structs c.locals ds is) heads p f scope r s m (λ z t. on_going (rest t) z) (λ j lt. absurd (omega (arith, lt))) at fit low
      (record {
        goes = λ q1 g t r1 m1 at1 aft fit1.
            declares_lead ds h.1 is heads q1 g scope r1 t m1 K at1 fit1 (omega (arith, aft.turned, low)) (λ q2 h2 u r2 m2 at2 aft2 fit2. next q2 h2 u r2 m2 at2 (after_on aft aft2) fit2);
        breaks = λ g t r1 m1 aft fit1. meets_anything c.rooms c.functions refl;
        continues = λ g t r1 m1 aft fit1. meets_anything c.rooms c.functions refl;
        returns = λ v ws g t r1 m1 aft fit1 ret. record { by = λ ne. absurd (ne refl) };
      })))

module _ (c : Setting) (levels : LevelMeanings) (found : slice_get c.functions c.number ≡ Some c.code) (are : AreLevels c levels) (ds : List LocalDeclaration) (test step : Option Expr) (body : Stmt) (may : MayDeclareAll c.structs c.locals (declared_first (Locals ds)))
    (once : (j : ℕ) → declarations j (For (Locals ds) test step body) ≤ 1) (hd : (k : ℕ) → AllDeclarationsMeet (at_level c levels k) (levels.statements k) ds) (ht : (k : ℕ) → ConditionMeets (at_level c levels k) test) (hs : (k : ℕ) → StepMeets (at_level c levels k) step)
    (hb : (k : ℕ) → StmtMeets (at_level c levels k) (levels.statements k) body) where
  -- what the loop does behind its declarations
  abbrev loop_run : ℕ → Scope → Run StatementFlow
  loop_run k scope =
      executes.loop_condition c.structs c.locals (levels.functions k) scope test
      >>= choose (turn >> (exec c.structs c.locals (levels.functions k) (levels.statements k) scope body >>= after_body (executes.loop_step c.structs c.locals (levels.functions k) scope step >> levels.statements k scope (For q.Nothing test step body)))) (pure Goes)

  abbrev numbers : List ℕ
  numbers = declared_first (Locals ds)

  declares_and_loops : (k : ℕ) → StmtMeets (at_level c levels k) (levels.statements k) (For (Locals ds) test step body)
  unfolding opens
  declares_and_loops k = record {
    by = λ brk con rest heads p f scope r s m K apart at fit low way.
        let c1 : Setting = at_level c levels k in
        let each : (j : ℕ) → times j numbers ≤ 1 = (λ j. let all = first_declared j ds in let h = once j in omega (arith, all, h)) in
        let kept : (j : ℕ) → 0 < times j numbers → scope j ≡ None = (λ j lt. apart j (let all = first_declared j ds in omega (arith, all, lt))) in
        let b : BegunLocals c1 scope f r s m numbers = begun_locals c1 numbers may each scope kept f r s m fit in
        let inside : IsApart b.inner body =
        (λ j lt. let all = first_declared j ds in let h = once j in let least = inner_least j body in b.outside j (omega (arith, all, h, lt, least)) ∙ apart j (omega (arith, lt, least))) in
        let K1 : StatementFlow → CallState → CodeObservation = (λ z t. K z (b.left t)) in
        let way1 : Onward c1 b.inner b.names b.start m K1 heads rest brk con = onward_begun c1 b way in
        let low1 = low_enough c1 b k low in
        let run : Scope → Run StatementFlow = (λ inner. run_declarations c.structs c.locals (levels.functions k) inner ds >> loop_run k inner) in
        meets_same c.rooms c.functions (ap (λ z. finish z K) (b.is run))
        (bound_run c1 found (run b.inner b.start) (λ a t. Gives a (b.left t)) K p r s.world m
        (starts c1 b p
        (bound_run c1 found (run_declarations c.structs c.locals (levels.functions k) b.inner ds b.start) (λ _. loop_run k b.inner) K1 p r b.start.world m
        (declares_lead c1 found (levels.statements k) ds (hd k) _ heads p b.names b.inner r b.start m (λ _ t. finish (loop_run k b.inner t) K1) at b.fit low1
        (λ q1 g t r1 m1 at1 aft fit1.
        enters c levels found are test step body ht hs hb k rest heads q1 g b.inner r1 t m1 K1 brk con inside at1 fit1 (omega (arith, aft.turned, low1)) (let way2 : Onward c1 b.inner g t m1 K1 heads rest brk con = onward_on c1 found (levels.statements k) {s = b.start} {t = t} aft way1 in record { goes = way2.goes; breaks = way2.breaks; continues = way2.continues; returns = way2.returns }))))));
  }

pub declaring_for_loops_meet : DeclaringForLoopsMeet
declaring_for_loops_meet c levels found are ds test step body may once hd ht hs hb k = declares_and_loops c levels found are ds test step body may once hd ht hs hb k
