-- The code of `switch`: comparisons with the labels, a jump behind them, and the sections.
use Rattle.std.proofs.Common.{◌≡◌, ℕ, suc, ◌-◌, ◌<◌, ◌≤◌, List, ◌∷◌, Bool, true, false, Option, Some, None, ap, subst, arith}
use Rattle.std.specs.Prelude.{if◌then◌else◌, slice_get}
use Rattle.mem_model.specs.Memory.{Memory}
use Rattle.mem_model.specs.Related.{Names}
use Rattle.bk_arithmetic.specs.declared.integer_type.IntegerType.{IntegerType}
use Rattle.bk_arithmetic.specs.IntegerTypes.{promote}
use Rattle.c_typed_tree.specs.Expressions.{Expr, type_of}
use Rattle.c_typed_tree.specs.Statements.{Stmt, Switch, Stmts, no_stmts, more_stmts, Sections, no_sections, more_sections}
use Rattle.c_typed_tree.specs.Declarations.{sections_declarations, stmts_declarations}
use Rattle.c_semantics.specs.Runs.{CallState, Run, and_then, use_number}
use Rattle.c_semantics.specs.Objects.{Scope}
use Rattle.c_semantics.specs.Evaluates.{eval}
use Rattle.c_semantics.specs.Executes.{StatementFlow, and_next, after_switch, is_chosen_label, target_in, execs, exec_sections, exec_from}
use Rattle.suifvm_meaning.specs.Behave.{Registers}
use Rattle.lowering_code.specs.declared.item.CodeItem.{CodeItem}
use Rattle.lowering_code.specs.declared.item.CodeItem.TheVariants.{Start, Jump}
use Rattle.lowering_code.specs.Items as items
use Rattle.lowering_code.specs.Expressions.{plain_of}
use Rattle.lowering_code.specs.Statements.{default_name, labels_code, stmts_code, sections_code, switch_targets}
use Rattle.lowering_states.specs.Places.{CodePlace, next_block, start_of_block}
use Rattle.lowering_states.specs.Runs.{CodeObservation, finish}
use Rattle.lowering_states.specs.model.Opens.{opens}
use Rattle.lowering_states.proofs.Steps.{fall, jump, number_meets}
use Rattle.lowering_states.proofs.States.{after_same}
use Rattle.lowering_states.specs.lowering_expression_places.Behind.{Somewhere}
use Rattle.lowering_states.proofs.LoweringExpressionPlaces.Behind.{at_start, at_jump}
use Rattle.lowering_expression_laws.specs.Parts.{Setting, first_depth, EndsSo, Stands, Fit, ExprMeets}
use Rattle.lowering_expression_laws.proofs.Forms.{bound_run, word_in}
use Rattle.lowering_expression_laws.proofs.Choices.{at_block}
use Rattle.lowering_statement_laws.specs.Parts.{AreApart, inner_of_all, Onward, StmtMeets, StmtsMeet}
use Rattle.lowering_statement_laws.proofs.Apart.{inner_least}
use Rattle.lowering_statement_laws.proofs.Behind.{left_labels, left_stmts}
use Rattle.lowering_statement_laws.proofs.Statements.{onward_on}
use Rattle.lowering_statement_laws.specs.lowering_switch_laws.Laws.{SectionsMeet, SwitchesMeet}
use Rattle.lowering_statement_laws.proofs.LoweringSwitchLaws.Names.{section_name, found_name, missing_name}
use Rattle.lowering_statement_laws.proofs.LoweringSwitchLaws.Labels.{AreLabelsOf, labels_lead}

-- a scope has no object of a local that is declared in a section
abbrev SectionsApart : Scope → Sections → Type 0
SectionsApart scope sections = (k : ℕ) → 0 < sections_declarations k sections → scope k ≡ None

inner_all : (k : ℕ) (ss : Stmts) → inner_of_all k ss ≤ stmts_declarations k ss
inner_all k no_stmts = omega arith
inner_all k (more_stmts s ss) = let h = inner_all k ss in let least = inner_least k s in omega (arith, h, least)

module _ (c : Setting) (found : slice_get c.functions c.number ≡ Some c.code) (again : Scope → Stmt → Run StatementFlow) (t : IntegerType) (con : ℕ) (rest : List CodeItem) (heads : List ℕ) where
  abbrev L : ℕ
  L = first_depth c

  abbrev brk : ℕ
  brk = items.block_total rest

  abbrev code : Sections → List CodeItem
  code sections = sections_code L c.structs c.locals brk con sections (Start ∷ rest)

  abbrev from : Stmts → Sections → List CodeItem
  from ss sections = stmts_code L c.structs c.locals brk con ss (code sections)

  abbrev run_all : Scope → Sections → Run StatementFlow
  run_all scope sections = exec_sections c.structs c.locals c.calls again scope sections

  first_apart : (scope : Scope) (ss : Stmts) (k : ℕ) (lt : 0 < inner_of_all k ss) → (0 < stmts_declarations k ss → scope k ≡ None) → scope k ≡ None
  first_apart scope ss k lt h = h (let all = inner_all k ss in omega (arith, lt, all))

  -- the statements of a section, and the sections behind them
  section_leads : (ss : Stmts) (sections : Sections) → StmtsMeet c again ss
      → ((p : CodePlace) (g : Names) (scope : Scope) (r : Registers) (u : CallState) (n : Memory) (K : StatementFlow → CallState → CodeObservation) → SectionsApart scope sections → Stands c heads p (code sections) → Fit c g scope r u n → u.world.meter.turns ≤ c.level → Onward c scope g u n K heads (Start ∷ rest) brk con
      → EndsSo c (finish (run_all scope sections u) K) p r u.world n)
      → (p : CodePlace) (f : Names) (scope : Scope) (r : Registers) (s : CallState) (m : Memory) (K : StatementFlow → CallState → CodeObservation) → AreApart scope ss → SectionsApart scope sections → Stands c heads p (from ss sections) → Fit c f scope r s m → s.world.meter.turns ≤ c.level → Onward c scope f s m K heads (Start ∷ rest) brk con
      → EndsSo c (finish (and_then (execs c.structs c.locals c.calls again scope ss s) (and_next (run_all scope sections))) K) p r s.world m
  unfolding opens
  section_leads ss sections hss others p f scope r s m K apart behind at fit low way =
      bound_run c found (execs c.structs c.locals c.calls again scope ss s) (and_next (run_all scope sections)) K p r s.world m
      (hss.by brk con (code sections) heads p f scope r s m (λ z u. finish (and_next (run_all scope sections) z u) K) apart at fit low
      (record {
        goes = λ q g u r1 n at1 aft fit1. others q g scope r1 u n K behind at1 fit1 (omega (arith, aft.turned, low)) (onward_on c found again {s = s} {t = u} aft way);
        breaks = way.breaks;
        continues = way.continues;
        returns = way.returns;
      }))

  -- the sections, one behind the other
  sections_lead : (sections : Sections) → SectionsMeet c again t sections → (p : CodePlace) (f : Names) (scope : Scope) (r : Registers) (s : CallState) (m : Memory) (K : StatementFlow → CallState → CodeObservation) → SectionsApart scope sections → Stands c heads p (code sections) → Fit c f scope r s m
      → s.world.meter.turns ≤ c.level → Onward c scope f s m K heads (Start ∷ rest) brk con → EndsSo c (finish (run_all scope sections s) K) p r s.world m
  unfolding opens
  sections_lead no_sections h p f scope r s m K apart at fit low way = way.goes p f s r m at after_same fit
  sections_lead (more_sections label ss sections) h p f scope r s m K apart at fit low way =
      fall c.rooms c.functions c.number c.code found c.own c.waiting p r s.world m at.has.0
      (section_leads ss sections h.1 (sections_lead sections h.2) (next_block p) f scope r s m K (λ k lt. first_apart scope ss k lt (λ some. apart k (omega (arith, some)))) (λ k lt. apart k (omega (arith, lt))) (at_start c.code.blocks c.last c.end at) fit low way)

  -- the sections from the one with a label on
  from_leads : (sections : Sections) → SectionsMeet c again t sections → (target : Option ℕ) (p : CodePlace) → Stands c heads p (code sections) → (f : Names) (scope : Scope) (r : Registers) (s : CallState) (m : Memory) (K : StatementFlow → CallState → CodeObservation) → SectionsApart scope sections → Fit c f scope r s m
      → s.world.meter.turns ≤ c.level → Onward c scope f s m K heads rest brk con
      → EndsSo c (finish (exec_from c.structs c.locals c.calls again scope target sections s) K) (start_of_block (c.last - section_name L c.structs c.locals brk con (Start ∷ rest) target brk sections)) r s.world m
  unfolding opens
  from_leads no_sections h target p at f scope r s m K apart fit low way =
      let there = at_start c.code.blocks c.last c.end at in
      let size = there.size in
      at_block c found r s.world m (suc p.block) (c.last - brk) (omega (arith, size)) (way.goes (next_block p) f s r m there after_same fit)
  from_leads (more_sections label ss sections) h target p at f scope r s m K apart fit low way =
      by_label (is_chosen_label target label)
      (let behind : Somewhere c.code.blocks c.last c.end heads (code sections) = left_stmts c.code.blocks c.last c.end L c.structs c.locals ss brk con heads (code sections) (record { place = next_block p; at = there }) in
      from_leads sections h.2 target behind.place behind.at f scope r s m K (λ k lt. apart k (omega (arith, lt))) fit low way)
    where
      there : Stands c heads (next_block p) (from ss sections)
      there = at_start c.code.blocks c.last c.end at

      falls : Onward c scope f s m K heads (Start ∷ rest) brk con
      falls = record {
        goes = λ q g u r1 n at1 aft fit1. fall c.rooms c.functions c.number c.code found c.own c.waiting q r1 u.world n at1.has.0 (way.goes (next_block q) g u r1 n (at_start c.code.blocks c.last c.end at1) aft fit1);
        breaks = way.breaks;
        continues = way.continues;
        returns = way.returns;
      }

      by_label : (x : Bool)
          → EndsSo c (finish (exec_from c.structs c.locals c.calls again scope target sections s) K) (start_of_block (c.last - section_name L c.structs c.locals brk con (Start ∷ rest) target brk sections)) r s.world m
          → EndsSo c
          (finish (if◌then◌else◌ {A = Run StatementFlow} x (λ s1. and_then (execs c.structs c.locals c.calls again scope ss s1) (and_next (run_all scope sections))) (exec_from c.structs c.locals c.calls again scope target sections) s) K)
          (start_of_block (c.last - (if x then items.block_total (from ss sections) else section_name L c.structs c.locals brk con (Start ∷ rest) target brk sections))) r s.world m
      by_label true next =
          at_block c found r s.world m (suc p.block) (c.last - items.block_total (from ss sections)) (let size = there.size in omega (arith, size))
          (section_leads ss sections h.1 (sections_lead sections h.2) (next_block p) f scope r s m K (λ k lt. first_apart scope ss k lt (λ some. apart k (omega (arith, some)))) (λ k lt. apart k (omega (arith, lt))) there fit low falls)
      by_label false next = next

-- the labels of sections
labels_of : (c : Setting) (again : Scope → Stmt → Run StatementFlow) (t : IntegerType) (brk con : ℕ) (sections : Sections) (rest : List CodeItem) → SectionsMeet c again t sections → AreLabelsOf t (switch_targets (first_depth c) c.structs c.locals brk con sections rest)
labels_of c again t brk con no_sections rest h = tt
labels_of c again t brk con (more_sections label ss sections) rest h = (h.0, labels_of c again t brk con sections rest h.2)

module _ (c : Setting) (found : slice_get c.functions c.number ≡ Some c.code) (again : Scope → Stmt → Run StatementFlow) (t : IntegerType) (x : Expr) (sections : Sections) (pt : promote t ≡ t) (ex : type_of x ≡ plain_of t) (hx : ExprMeets c x) (hs : SectionsMeet c again t sections) where
  -- behind a `switch` a `break` goes on
  behind_switch : {scope : Scope} {f : Names} {s : CallState} {m : Memory} {K : StatementFlow → CallState → CodeObservation} {heads : List ℕ} {rest : List CodeItem} {brk con : ℕ} (block : ℕ) → Stands c heads (start_of_block block) rest → Onward c scope f s m K heads rest brk con
      → Onward c scope f s m (λ z u. finish (after_switch z u) K) heads rest (items.block_total rest) con
  unfolding opens
  behind_switch {rest = rest} block at way = record {
    goes = way.goes;
    breaks = λ g u r n aft fit. at_block c found r u.world n block (c.last - items.block_total rest) (let size = at.size in omega (arith, size)) (way.goes (start_of_block block) g u r n at aft fit);
    continues = way.continues;
    returns = way.returns;
  }

  -- behind all sections a block begins with what comes behind
  block_behind : (con : ℕ) (rest : List CodeItem) (heads : List ℕ) (ss : Sections) (p : CodePlace) → Stands c heads p (sections_code (first_depth c) c.structs c.locals (items.block_total rest) con ss (Start ∷ rest)) → (block : ℕ) × Stands c heads (start_of_block block) rest
  block_behind con rest heads no_sections p at = (suc p.block, at_start c.code.blocks c.last c.end at)
  block_behind con rest heads (more_sections label ss others) p at =
      let behind : Somewhere c.code.blocks c.last c.end heads (sections_code (first_depth c) c.structs c.locals (items.block_total rest) con others (Start ∷ rest)) =
      left_stmts c.code.blocks c.last c.end (first_depth c) c.structs c.locals ss (items.block_total rest) con heads (sections_code (first_depth c) c.structs c.locals (items.block_total rest) con others (Start ∷ rest)) (record { place = next_block p; at = at_start c.code.blocks c.last c.end at }) in
      block_behind con rest heads others behind.place behind.at

  switches : StmtMeets c again (Switch x sections)
  unfolding opens
  switches = record {
    by = λ brk con rest heads p f scope r s m K apart at fit low way.
        let bodies = sections_code (first_depth c) c.structs c.locals (items.block_total rest) con sections (Start ∷ rest) in
        let targets = switch_targets (first_depth c) c.structs c.locals (items.block_total rest) con sections (Start ∷ rest) in
        let tail : List CodeItem = Jump (default_name (items.block_total rest) targets) ∷ bodies in
        let chosen : ℕ → Run StatementFlow = (λ k. exec_from c.structs c.locals c.calls again scope (target_in k sections) sections) in
        let K1 : StatementFlow → CallState → CodeObservation = (λ z u. finish (after_switch z u) K) in
        bound_run c found (and_then (and_then (eval c.structs c.locals c.calls scope x s) use_number) chosen) after_switch K p r s.world m
        (bound_run c found (and_then (eval c.structs c.locals c.calls scope x s) use_number) chosen K1 p r s.world m
        (bound_run c found (eval c.structs c.locals c.calls scope x s) use_number (λ k u. finish (chosen k u) K1) p r s.world m
        (hx.by 0 (labels_code (first_depth c) c.structs c.locals (type_of x) targets tail) heads p f scope r s m (λ v u. finish (use_number v u) (λ k u1. finish (chosen k u1) K1)) at fit low
        (λ q v g u q1 m1 at1 aft fit1 kept held stands.
        number_meets c.rooms c.functions v u (λ k u1. finish (chosen k u1) K1) _ (λ k is.
        let word = word_in g (first_depth c) 0 (type_of x) t v k q1 ex is held stands in
        let at2 : Stands c heads q (labels_code (first_depth c) c.structs c.locals (plain_of t) targets tail) = subst (λ z. Stands c heads q (labels_code (first_depth c) c.structs c.locals z targets tail)) ex at1 in
        let jump_at : Somewhere c.code.blocks c.last c.end heads tail = left_labels c.code.blocks c.last c.end (first_depth c) c.structs c.locals (plain_of t) targets heads tail (record { place = q; at = at2 }) in
        let bodies_at : Stands c heads (next_block jump_at.place) bodies = at_jump c.code.blocks c.last c.end (default_name (items.block_total rest) targets) jump_at.at in
        let behind = block_behind con rest heads sections (next_block jump_at.place) bodies_at in
        let way1 : Onward c scope g u m1 K1 heads rest (items.block_total rest) con =
        behind_switch {s = u} behind.0 behind.1 (let w : Onward c scope g u m1 K heads rest brk con = onward_on c found again {s = s} {t = u} aft way in record { goes = w.goes; breaks = w.breaks; continues = w.continues; returns = w.returns }) in
        let there : (q2 : Registers) → Fit c g scope q2 u m1 → EndsSo c (finish (chosen k u) K1) (start_of_block (c.last - section_name (first_depth c) c.structs c.locals (items.block_total rest) con (Start ∷ rest) (target_in k sections) (items.block_total rest) sections)) q2 u.world m1 =
        (λ q2 fit2.
        from_leads c found again t con rest heads sections hs (target_in k sections) (next_block jump_at.place) bodies_at g scope q2 u m1 K1 (λ j lt. apart j (omega (arith, lt))) fit2 (omega (arith, aft.turned, low)) way1) in
        labels_lead c found t pt k word.is_one tail heads g scope u m1 targets (labels_of c again t (items.block_total rest) con sections (Start ∷ rest) hs) q q1 at2 (record { fit = fit1; stands = word.stands })
        (λ name e q2 h.
        at_block c found q2 u.world m1 _ (c.last - name) (ap (λ z. c.last - z) (found_name (first_depth c) c.structs c.locals (items.block_total rest) con (Start ∷ rest) k name (items.block_total rest) sections e)) (there q2 h.fit))
        (λ e p2 q2 at3 h.
        jump c.rooms c.functions c.number c.code found c.own c.waiting (c.last - default_name (items.block_total rest) targets) p2 q2 u.world m1 at3.has.0
        (at_block c found q2 u.world m1 _ (c.last - default_name (items.block_total rest) targets) (ap (λ z. c.last - z) (missing_name (first_depth c) c.structs c.locals (items.block_total rest) con (Start ∷ rest) k (items.block_total rest) sections e)) (there q2 h.fit))))))));
  }

pub switches_meet : SwitchesMeet
switches_meet c again found t x sections pt ex hx hs = switches c found again t x sections pt ex hx hs
