-- All functions at all levels, by induction on the level.
use Rattle.std.proofs.Common.{◌≡◌, ℕ, zero, suc, ◌+◌, ◌<◌, ◌≤◌, List, [], ◌∷◌, map, Bool, true, false, Option, Some, None, length, refl, sym, ap, ◌∙◌, subst, arith, le-leb}
use Rattle.std.specs.Prelude.{slice_get, nat_le, option_map, if◌then◌else◌}
use Rattle.std.proofs.lemmas.Bool.{leb-true}
use Rattle.std.proofs.lemmas.Option.{slice_get-map}
use Rattle.mem_model.specs.declared.value.Value.{Value}
use Rattle.mem_model.specs.World.{Rooms}
use Rattle.machine_model.specs.Machine.{Frame}
use Rattle.suifvm_meaning.specs.Behave.{FunctionCode, Registers}
use Rattle.c_typed_tree.specs.declared.types.StructDef.{StructDef}
use Rattle.c_typed_tree.specs.declared.units.TypedFn.{TypedFn}
use Rattle.c_typed_tree.specs.declared.units.TypedUnit.{TypedUnit}
use Rattle.c_typed_tree.specs.Types.{Void}
use Rattle.c_typed_tree.specs.View.{type_view, stmt_view}
use Rattle.c_typed_tree.specs.Statements.{Stmt}
use Rattle.c_typed_tree.specs.Lawful.{IsTypedUnit, types_of_parameters}
use Rattle.c_semantics.specs.Reasons.{UsesNoValue}
use Rattle.c_semantics.specs.Runs.{Run, no_turn, undefined_behaviour, turn, ◌>>◌}
use Rattle.c_semantics.specs.Objects.{Scope}
use Rattle.c_semantics.specs.Evaluates.{Functions}
use Rattle.c_semantics.specs.Executes.{StatementFlow, Level, exec, within_call, call_with_turn, calls_of, function_locals, level}
use Rattle.lowering_states.specs.model.Opens.{opens}
use Rattle.lowering_states.proofs.Steps.{meets_anything}
use Rattle.lowering_expression_laws.specs.Parts.{Setting}
use Rattle.lowering_statement_laws.specs.Parts.{StmtMeets}
use Rattle.lowering_statement_laws.specs.lowering_loop_laws.Laws.{LevelMeanings, at_level}
use Rattle.lowering_expression_laws.specs.lowering_call_laws.Laws.{FunctionMeets}
use Rattle.lowering_theorem.specs.lowering_function_laws.Laws.{code_for, callee_setting, IsCalled, IsMet}
use Rattle.lowering_theorem.proofs.LoweringFunctionLaws.Functions.{functions_meet, functions_without_turns_meet}
use Rattle.lowering_statement_laws.specs.lowering_statement_theorem.LoweringExpressionTheoremLaws.{IsSetting}
use Rattle.lowering_statement_laws.specs.lowering_statement_theorem.Laws.{AreSettings}
use Rattle.lowering_statement_laws.proofs.LoweringStatementTheorem.Statements.{bodies_meet}
use Rattle.lowering_theorem.proofs.LoweringUnitTheorem.Called.{typed_at, may_be_called}

module _ (u : TypedUnit) (lawful : IsTypedUnit u) (rooms : Rooms) where
  abbrev ds : List StructDef
  ds = u.structs

  abbrev pub codes : List FunctionCode
  codes = map (code_for ds) u.functions

  -- what functions do above a level
  abbrev pub real : ℕ → Functions
  real m = calls_of u rooms (level u rooms m)

  -- a setting in which functions are called, of no function itself
  abbrev pub top : ℕ → Setting
  top m = record {
    rooms = rooms;
    functions = codes;
    number = 0;
    own = 0;
    code = record { sizes = []; blocks = [] };
    last = 0;
    end = [];
    waiting = [];
    statics = length u.globals;
    structs = ds;
    locals = [];
    result = Void;
    calls = real m;
    level = m;
  }

  code_at : (k : ℕ) (f : TypedFn) → slice_get u.functions k ≡ Some f → slice_get codes k ≡ Some (code_for ds f)
  code_at k f e = slice_get-map (code_for ds) u.functions k ∙ ap (option_map (code_for ds)) e

  called : (m k : ℕ) (f : TypedFn) → slice_get u.functions k ≡ Some f → IsCalled (top m) k f (level u rooms m)
  called m k f e = record {
    found = code_at k f e;
    may = may_be_called u lawful k f e;
    is = λ vs. ap (λ z. call_with_turn ds rooms (level u rooms m) k z vs) e;
  }

  abbrev pub AllMeet : ℕ → Type 0
  AllMeet m = (k : ℕ) (f : TypedFn) → slice_get u.functions k ≡ Some f → IsMet (top m) k f (level u rooms m)

  -- ---- one level more: loops ask for all levels, and above this one nothing is defined

  -- a function that has no meaning
  abbrev stuck : Functions
  stuck k vs = turn >> within_call rooms k (undefined_behaviour UsesNoValue)

  module _ (m : ℕ) where
    abbrev cut : ℕ → Functions
    cut j = if◌then◌else◌ {A = Functions} (nat_le j m) (real j) stuck

    cut_below : (j : ℕ) → j ≤ m → cut j ≡ real j
    cut_below j le = ap (λ b. if◌then◌else◌ {A = Functions} b (real j) stuck) (le-leb j m le)

    cut_above : (j : ℕ) → nat_le j m ≡ false → cut j ≡ stuck
    cut_above j e = ap (λ b. if◌then◌else◌ {A = Functions} b (real j) stuck) e

    module _ (below : (j : ℕ) → j ≤ m → AllMeet j) (k : ℕ) (f : TypedFn) (e : slice_get u.functions k ≡ Some f) where
      abbrev statements : ℕ → Scope → Stmt → Run StatementFlow
      statements zero scope x = no_turn
      statements (suc j) scope x = exec ds f.locals (cut j) (statements j) scope x

      statements_are : (j : ℕ) → j ≤ suc m → statements j ≡ level u rooms j k
      statements_are zero le = refl
      statements_are (suc j) le =
          ap (λ (g : Functions). λ (scope : Scope). λ (x : Stmt). exec ds f.locals g (statements j) scope x) (cut_below j (omega (arith, le)))
          ∙ ap (λ (a : Scope → Stmt → Run StatementFlow). λ (scope : Scope). λ (x : Stmt). exec ds f.locals (real j) a scope x) (statements_are j (omega (arith, le)))
          ∙ ap (λ (o : Option TypedFn). λ (scope : Scope). λ (x : Stmt). exec ds (function_locals o) (real j) (level u rooms j k) scope x) (sym e)

      abbrev levels : LevelMeanings
      levels = record { functions = cut; statements = statements }

      module _ (own : ℕ) (waiting : List (Frame Registers)) where
        abbrev c : Setting
        c = callee_setting (top (suc m)) k f own waiting (real m) m

        -- each function, at a level of those that are there and of those above
        function_meets : (j k1 : ℕ) (g : TypedFn) → slice_get u.functions k1 ≡ Some g → (b : Bool) → nat_le j m ≡ b → FunctionMeets (at_level c levels j) k1 (types_of_parameters g) (type_view g.result)
        unfolding opens
        function_meets j k1 g e1 true le =
            let small = leb-true j m le in
            let x = (below j small k1 g e1).meets in
            record { code = x.code; found = x.found; body = x.body; is = λ vs. ap (λ (h : Functions). h k1 vs) (cut_below j small) ∙ x.is vs; by = x.by }
        function_meets j k1 g e1 false past = record {
          code = code_for ds g;
          found = code_at k1 g e1;
          body = λ vs. undefined_behaviour UsesNoValue;
          is = λ vs. ap (λ (h : Functions). h k1 vs) (cut_above j past);
          by = λ vs ws names s n after K args statics mem small bytes low next. meets_anything rooms codes refl;
        }

        settings : AreSettings u f c levels
        settings = record {
          each = λ j. record {
            code = code_at k f e;
            structs = refl;
            locals = refl;
            statics = refl;
            calls = λ k1 g e1. function_meets j k1 g e1 (nat_le j m) refl;
          };
          result = refl;
          meanings = λ j scope x. refl;
        }

        body_meets : StmtMeets c (level u rooms m k) (stmt_view f.body)
        body_meets =
            subst (λ (a : Scope → Stmt → Run StatementFlow). StmtMeets c a (stmt_view f.body)) (statements_are m (omega arith))
            (subst (λ (g : Functions). StmtMeets (callee_setting (top (suc m)) k f own waiting g m) (statements m) (stmt_view f.body)) (cut_below m (omega arith))
            (bodies_meet u f c levels lawful (typed_at u lawful k f e) settings m))

      next_meets : IsMet (top (suc m)) k f (level u rooms (suc m))
      next_meets =
          functions_meet (top (suc m)) k f (level u rooms (suc m)) (real m) (level u rooms m k) m (called (suc m) k f e) refl
          (λ scope. ap (λ (o : Option TypedFn). exec ds (function_locals o) (real m) (level u rooms m k) scope (stmt_view f.body)) e)
          (λ own waiting. body_meets own waiting)

  pub all_meet : (most m : ℕ) → m ≤ most → AllMeet m
  all_meet most zero le k f e = functions_without_turns_meet (top zero) k f (level u rooms zero) (called zero k f e) refl
  all_meet zero (suc m) le k f e = absurd (omega (arith, le))
  all_meet (suc most) (suc m) le k f e = next_meets m (λ j le1. all_meet most j (omega (arith, le, le1))) k f e
