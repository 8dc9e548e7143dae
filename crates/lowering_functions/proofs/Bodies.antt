-- The code of statements is good where that behind it is.
use Rattle.std.proofs.Common.{◌≡◌, ◌≤◌, ◌<◌, ◌-◌, ◌^◌, subst, sym, ap, ℕ, suc, ◌+◌, ◌*◌, max, Bool, true, false, List, [], ◌∷◌, Option, Some, None, length, slice_get, take, if◌then◌else◌, refl, ◌∙◌, arith}
use Rattle.std.proofs.lemmas.Option.{slice_get_within}
use Rattle.std.proofs.lemmas.List.{length-take}
use Rattle.c_typed_tree.specs.declared.types.StructDef.{StructDef}
use Rattle.c_typed_tree.specs.declared.statements.TLabel.{TLabel}
use Rattle.c_typed_tree.specs.declared.statements.TLabel.TheVariants.{Case, Default}
use Rattle.c_typed_tree.specs.declared.units.Local.{Local}
use Rattle.c_typed_tree.specs.Types.{PlainType, Void, Int, Pointer, Array, Struct}
use Rattle.c_typed_tree.specs.View.{type_view, stmt_view}
use Rattle.c_typed_tree.specs.Expressions.{Expr, type_of}
use Rattle.c_typed_tree.specs.Statements.{LocalDeclaration, First, Stmt, Else, no_else, else_stmt, Stmts, no_stmts, more_stmts, Sections, no_sections, more_sections}
use Rattle.c_typed_tree.specs.Statements as q
use Rattle.c_typed_tree.specs.Counts.{expr_nodes, optional_nodes, declared_nodes}
use Rattle.suifvm_ir.specs.declared.types.VmType.TheVariants.{S32}
use Rattle.suifvm_ir.specs.declared.insn.VmBranchOp.TheVariants.{IfTrue, IfFalse}
use Rattle.suifvm_ir.specs.declared.insn.CompareOp.TheVariants.{Equal}
use Rattle.suifvm_ir.specs.declared.insn.VmObject.TheVariants as p
use Rattle.suifvm_ir.specs.declared.insn.VmInsn.TheVariants as n
use Rattle.lowering_code.specs.declared.item.CodeItem.{CodeItem}
use Rattle.lowering_code.specs.declared.item.CodeItem.TheVariants.{Start, Jump, Loop, Enter, Again}
use Rattle.lowering_code.specs.Items.{block_total}
use Rattle.lowering_code.specs.Registers.{register_type, temporary, value_register, address_register, object_index}
use Rattle.lowering_code.specs.Expressions as x
use Rattle.lowering_code.specs.Statements as code
use Rattle.lowering_code.specs.Statements.{Target}
use Rattle.lowering_code.specs.Functions as f
use Rattle.c_typed_tree.specs.declared.units.TypedFn.{TypedFn}
use Rattle.lowering_expressions.specs.Levels.{register_levels}
use Rattle.lowering_statements.specs.Levels.{optional_levels, declared_levels, locals_levels, first_levels, stmt_levels, stmts_levels, sections_levels}
use Rattle.lowering_layout.specs.Good.{IsGood}
use Rattle.lowering_functions.specs.Parts.{locals_parts, first_parts, stmt_parts, stmts_parts, sections_parts}
use Rattle.lowering_functions.proofs.Emits as m
use Rattle.lowering_functions.proofs.Emits.{Emits, Has}
use Rattle.lowering_functions.proofs.Forms.{expr_emits}

module _ (most locals : ℕ) (ds : List StructDef) (ls : List Local) (same : length ls ≡ locals) where
  abbrev E : (k : ℕ) → List CodeItem → List CodeItem → Type 0
  E k rest is = Emits most k rest is

  next : (j k n : ℕ) (rest mid is : List CodeItem) → j + k ≤ n → E j mid is → E k rest mid → E n rest is
  next j k n rest mid is le a b = m.at_most most (j + k) n rest is le (m.joins most j k rest mid is a b)

  abbrev same_code : (n : ℕ) (rest : List CodeItem) → E n rest rest
  same_code n rest = m.at_most most 0 n rest rest (omega arith) (m.none most rest)

  value_emits : (y : Expr) (rest : List CodeItem) → Has most locals 0 (register_levels y) → E (16 * expr_nodes y) rest (code.value_code locals ds ls y rest)
  value_emits y rest h = expr_emits most locals ds ls same 0 y rest h

  -- ---- values come into locals

  put_scalar : (ty : PlainType) (k : ℕ) (rest : List CodeItem) → Has most locals 0 5
      → E 2 rest (x.address_code locals 1 (p.Local (object_index ls k)) 0 (x.store_code ty (address_register locals 1) 0 (value_register locals 0 ty) rest))
  put_scalar ty k rest h =
      m.joins most 1 1 rest _ _ (m.address_emits most locals 1 (p.Local (object_index ls k)) 0 _ (omega (arith, h)))
      (m.store_emits (m.carried most) ty _ 0 _ rest (m.address_there most locals 1 (omega (arith, h))) (m.value_there most locals 0 ty (omega (arith, h))))

  put_emits : (ty : PlainType) (k : ℕ) (rest : List CodeItem) → Has most locals 0 5 → E 2 rest (code.put_code locals ds ls ty k rest)
  put_emits Void k rest h = put_scalar Void k rest h
  put_emits (Int bytes signed) k rest h = put_scalar (Int bytes signed) k rest h
  put_emits (Pointer target) k rest h = put_scalar (Pointer target) k rest h
  put_emits (Array element count) k rest h = put_scalar (Array element count) k rest h
  put_emits (Struct number) k rest h =
      m.joins most 1 1 rest _ _ (m.address_emits most locals 1 (p.Local (object_index ls k)) 0 _ (omega (arith, h)))
      (m.copy_emits most ds _ _ (Struct number) rest (m.address_there most locals 1 (omega (arith, h))) (m.address_there most locals 0 (omega (arith, h))))

  put_local_emits : (k : ℕ) (l : Option Local) → slice_get ls k ≡ l → (rest : List CodeItem) → Has most locals 0 5 → E 2 rest (code.put_local_code locals ds ls k l rest)
  put_local_emits k None is rest h = same_code 2 rest
  put_local_emits k (Some l) is rest h = by l.in_memory
    where
      by : (memory : Bool) → E 2 rest (if memory then code.put_code locals ds ls (type_view l.ty) k rest else x.move_code (type_view l.ty) k (value_register locals 0 (type_view l.ty)) rest)
      by true = put_emits (type_view l.ty) k rest h
      by false = m.at_most most 1 2 rest _ (omega arith) (m.move_emits (m.carried most) (type_view l.ty) k _ rest (omega (arith, slice_get_within ls k l is, same, h)) (m.value_there most locals 0 (type_view l.ty) (omega (arith, h))))

  initialise_emits : (k : ℕ) (init : Option Expr) (rest : List CodeItem) → Has most locals 0 (max 5 (optional_levels init)) → E (2 + 16 * optional_nodes init) rest (code.initialise_code locals ds ls k init rest)
  initialise_emits k None rest h = same_code _ rest
  initialise_emits k (Some y) rest h =
      next (16 * expr_nodes y) 2 _ rest _ _ (omega arith) (value_emits y _ (omega (arith, h))) (put_local_emits k (slice_get ls k) refl rest (omega (arith, h)))

  declare_emits : (d : LocalDeclaration) (rest : List CodeItem) → Has most locals 0 (max 5 (declared_levels d)) → E (16 * (1 + declared_nodes d)) rest (code.declare_code locals ds ls d rest)
  declare_emits d rest h = m.at_most most (2 + 16 * optional_nodes d.init) _ rest _ (omega arith) (initialise_emits d.number d.init rest h)

  declares_emits : (more : List LocalDeclaration) (rest : List CodeItem) → Has most locals 0 (max 5 (locals_levels more)) → E (16 * locals_parts more) rest (code.declares_code locals ds ls more rest)
  declares_emits [] rest h = m.none most rest
  declares_emits (d ∷ more) rest h =
      next (16 * (1 + declared_nodes d)) (16 * locals_parts more) _ rest _ _ (omega arith) (declare_emits d _ (omega (arith, h))) (declares_emits more rest (omega (arith, h)))

  first_emits : (first : First) (rest : List CodeItem) → Has most locals 0 (max 5 (first_levels first)) → E (16 * first_parts first) rest (code.first_code locals ds ls first rest)
  first_emits q.Nothing rest h = m.none most rest
  first_emits (q.Value y) rest h = value_emits y rest (omega (arith, h))
  first_emits (q.Locals more) rest h = declares_emits more rest h

  -- ---- tests of loops: they close one

  record Closes (k : ℕ) (rest is : List CodeItem) : Type 0 where
    good : (loops : ℕ) → IsGood most loops rest → IsGood most (suc loops) is
    grows : block_total rest ≤ block_total is
    size : length is ≤ k + length rest

  again_closes : (y : Expr) (rest : List CodeItem) → Has most locals 0 (max 5 (register_levels y)) → Closes (16 * expr_nodes y + 1) rest (code.again_code locals ds ls y rest)
  again_closes y rest h =
      let over : List CodeItem = Again (register_type (type_of y)) (value_register locals 0 (type_of y)) ∷ rest in
      let e : E (16 * expr_nodes y) over (code.value_code locals ds ls y over) = value_emits y over (omega (arith, h)) in
      record {
        good = λ loops g. e.good (suc loops) (m.value_there most locals 0 (type_of y) (omega (arith, h)), g);
        grows = omega (arith, e.grows);
        size = omega (arith, e.size);
      }

  test_closes : (condition : Option Expr) (rest : List CodeItem) → Has most locals 0 (max 5 (optional_levels condition)) → Closes (16 * optional_nodes condition + 1) rest (code.test_code locals ds ls condition rest)
  test_closes None rest h = record { good = λ loops g. g; grows = omega arith; size = omega arith }
  test_closes (Some y) rest h = again_closes y rest h

  after_emits : (step : Option Expr) (rest : List CodeItem) → Has most locals 0 (max 5 (optional_levels step)) → E (16 * optional_nodes step + 1) rest (code.after_code locals ds ls step rest)
  after_emits None rest h = same_code _ rest
  after_emits (Some y) rest h = m.joins most (16 * expr_nodes y) 1 rest (Start ∷ rest) _ (value_emits y _ (omega (arith, h))) (m.start most rest)

  return_emits : (value : Option Expr) (rest : List CodeItem) → Has most locals 0 (max 5 (optional_levels value)) → E (16 * (1 + optional_nodes value)) rest (code.return_code locals ds ls value rest)
  return_emits None rest h = m.at_most most 1 _ rest _ (omega arith) (m.give most None rest (omega arith))
  return_emits (Some y) rest h =
      next (16 * expr_nodes y) 1 _ rest _ _ (omega arith) (value_emits y _ (omega (arith, h)))
      (m.give most _ rest (omega (arith, m.value_there most locals 0 (type_of y) (omega (arith, h)))))

  -- ---- loops, by what their parts emit

  while_emits : (j k : ℕ) (rest test body : List CodeItem) → Closes j rest test → E k (Start ∷ test) body → E (j + k + 2) rest (Loop (block_total test) ∷ body)
  while_emits j k rest test body c e = record {
    good = λ loops g. (omega (arith, e.grows), e.good (suc loops) (c.good loops g));
    grows = omega (arith, e.grows, c.grows);
    size = omega (arith, e.size, c.size);
  }

  do_emits : (j k : ℕ) (rest test body : List CodeItem) → Closes j rest test → E k (Start ∷ test) body → E (j + k + 2) rest (Enter ∷ body)
  do_emits j k rest test body c e = record {
    good = λ loops g. e.good (suc loops) (c.good loops g);
    grows = omega (arith, e.grows, c.grows);
    size = omega (arith, e.size, c.size);
  }

  for_emits : (i j k : ℕ) (rest test after body : List CodeItem) → Closes i rest test → E j test after → E k (Start ∷ after) body → E (i + j + k + 2) rest (Loop (block_total test) ∷ body)
  for_emits i j k rest test after body c a e = record {
    good = λ loops g. (omega (arith, e.grows, a.grows), e.good (suc loops) (a.good (suc loops) (c.good loops g)));
    grows = omega (arith, e.grows, a.grows, c.grows);
    size = omega (arith, e.size, a.size, c.size);
  }

  -- ---- labels

  abbrev NamesBelow : (most : ℕ) → List Target → Type 0
  NamesBelow top [] = Unit {0}
  NamesBelow top (t ∷ ts) = (t.name ≤ top) × NamesBelow top ts

  below_more : (a b : ℕ) (ts : List Target) → a ≤ b → NamesBelow a ts → NamesBelow b ts
  below_more a b [] le h = tt
  below_more a b (t ∷ ts) le h = (omega (arith, le, h.0), below_more a b ts le h.1)

  either_below : (top : ℕ) (label : TLabel) (name otherwise : ℕ) → name ≤ top → otherwise ≤ top → code.name_if_default label name otherwise ≤ top
  either_below top (Case word) name otherwise h k = k
  either_below top Default name otherwise h k = h

  default_below : (top otherwise : ℕ) (ts : List Target) → otherwise ≤ top → NamesBelow top ts → code.default_name otherwise ts ≤ top
  default_below top otherwise [] le h = le
  default_below top otherwise (t ∷ ts) le h = either_below top t.label t.name (code.default_name otherwise ts) h.0 (default_below top otherwise ts le h.1)

  label_emits : (ty : PlainType) (label : TLabel) (name : ℕ) (rest : List CodeItem) → name ≤ block_total rest → Has most locals 0 5 → E 3 rest (code.label_code locals ds ls ty label name rest)
  label_emits ty Default name rest le h = same_code 3 rest
  label_emits ty (Case word) name rest le h =
      m.joins most 1 2 rest _ _ (m.constant_emits (m.carried most) locals 1 ty word _ (omega (arith, h)))
      (m.joins most 1 1 rest _ _
      (m.plain most (n.Compare Equal (register_type ty) (temporary locals 1 S32) (value_register locals 0 ty) (value_register locals 1 ty)) _ (refl, refl)
      (omega (arith, m.there most locals 1 S32 (omega (arith, h)), m.value_there most locals 0 ty (omega (arith, h)), m.value_there most locals 1 ty (omega (arith, h)))))
      (m.branch_emits most locals IfTrue 1 (Int 4 true) name rest (omega (arith, h)) le))

  labels_emits : (ty : PlainType) (ts : List Target) (rest : List CodeItem) → NamesBelow (block_total rest) ts → Has most locals 0 5 → E (3 * length ts) rest (code.labels_code locals ds ls ty ts rest)
  labels_emits ty [] rest below h = m.none most rest
  labels_emits ty (t ∷ ts) rest below h =
      let e : E (3 * length ts) rest (code.labels_code locals ds ls ty ts rest) = labels_emits ty ts rest below.1 h in
      next 3 (3 * length ts) _ rest _ _ (omega arith) (label_emits ty t.label t.name _ (omega (arith, below.0, e.grows)) h) e

  -- what the sections of a `switch` emit beside their labels
  abbrev bodies_most : Sections → ℕ
  bodies_most no_sections = 0
  bodies_most (more_sections label ss sections) = 1 + (16 * stmts_parts ss + bodies_most sections)

  targets_length : (brk con : ℕ) (sections : Sections) (rest : List CodeItem) → 3 * length (code.switch_targets locals ds ls brk con sections rest) + bodies_most sections ≤ 16 * sections_parts sections
  targets_length brk con no_sections rest = omega arith
  targets_length brk con (more_sections label ss sections) rest = omega (arith, targets_length brk con sections rest)

  -- ---- statements

  if_emits : (i j k : ℕ) (rest : List CodeItem) (condition : Expr) (over body : List CodeItem) (name : ℕ) → Has most locals 0 (max 5 (register_levels condition)) → E j rest over → E k over body → name ≤ block_total over
      → E (16 * expr_nodes condition + (1 + (k + j))) rest (code.value_code locals ds ls condition (x.branch_by_value_code locals IfFalse 0 (type_of condition) name body))
  if_emits i j k rest condition over body name h a e le =
      m.joins most (16 * expr_nodes condition) (1 + (k + j)) rest _ _ (value_emits condition _ (omega (arith, h)))
      (m.joins most 1 (k + j) rest body _ (m.branch_emits most locals IfFalse 0 (type_of condition) name body (omega (arith, h)) (omega (arith, le, e.grows)))
      (m.joins most k j rest over body e a))

  mutual
    pub stmt_emits : (brk con : ℕ) (s : Stmt) (rest : List CodeItem) → brk ≤ block_total rest → con ≤ block_total rest → Has most locals 0 (max 5 (stmt_levels s))
        → E (16 * stmt_parts s) rest (code.stmt_code locals ds ls brk con s rest)
    stmt_emits brk con (q.Block ss) rest b c h = m.at_most most (16 * stmts_parts ss) _ rest _ (omega arith) (stmts_emits brk con ss rest b c h)
    stmt_emits brk con (q.If y s no_else) rest b c h =
        m.at_most most (16 * expr_nodes y + (1 + (16 * stmt_parts s + 1))) _ rest _ (omega arith)
        (if_emits 0 1 (16 * stmt_parts s) rest y (Start ∷ rest) _ (block_total rest) (omega (arith, h)) (m.start most rest)
        (stmt_emits brk con s (Start ∷ rest) (omega (arith, b)) (omega (arith, c)) (omega (arith, h))) (omega arith))
    stmt_emits brk con (q.If y s (else_stmt t)) rest b c h =
        let fails : List CodeItem = code.stmt_code locals ds ls brk con t (Start ∷ rest) in
        let e : E (16 * stmt_parts t) (Start ∷ rest) fails = stmt_emits brk con t (Start ∷ rest) (omega (arith, b)) (omega (arith, c)) (omega (arith, h)) in
        let f : E (16 * stmt_parts t + 1) rest fails = m.joins most (16 * stmt_parts t) 1 rest (Start ∷ rest) fails e (m.start most rest) in
        let over : List CodeItem = Jump (block_total rest) ∷ fails in
        let g : E (1 + (16 * stmt_parts t + 1)) rest over = m.joins most 1 (16 * stmt_parts t + 1) rest fails over (m.jump most (block_total rest) fails (f.grows)) f in
        m.at_most most (16 * expr_nodes y + (1 + (16 * stmt_parts s + (1 + (16 * stmt_parts t + 1))))) _ rest _ (omega arith)
        (if_emits 0 (1 + (16 * stmt_parts t + 1)) (16 * stmt_parts s) rest y over _ (block_total fails) (omega (arith, h)) g
        (stmt_emits brk con s over (omega (arith, b, g.grows)) (omega (arith, c, g.grows)) (omega (arith, h))) (omega arith))
    stmt_emits brk con (q.While y s) rest b c h =
        let test : List CodeItem = code.again_code locals ds ls y rest in
        let k : Closes (16 * expr_nodes y + 1) rest test = again_closes y rest (omega (arith, h)) in
        m.at_most most (16 * expr_nodes y + 1 + 16 * stmt_parts s + 2) _ rest _ (omega arith)
        (while_emits (16 * expr_nodes y + 1) (16 * stmt_parts s) rest test _ k
        (stmt_emits (block_total rest) (block_total test) s (Start ∷ test) (omega (arith, k.grows)) (omega arith) (omega (arith, h))))
    stmt_emits brk con (q.Do s y) rest b c h =
        let test : List CodeItem = code.again_code locals ds ls y rest in
        let k : Closes (16 * expr_nodes y + 1) rest test = again_closes y rest (omega (arith, h)) in
        m.at_most most (16 * expr_nodes y + 1 + 16 * stmt_parts s + 2) _ rest _ (omega arith)
        (do_emits (16 * expr_nodes y + 1) (16 * stmt_parts s) rest test _ k
        (stmt_emits (block_total rest) (block_total test) s (Start ∷ test) (omega (arith, k.grows)) (omega arith) (omega (arith, h))))
    stmt_emits brk con (q.For first condition step s) rest b c h =
        let test : List CodeItem = code.test_code locals ds ls condition rest in
        let after : List CodeItem = code.after_code locals ds ls step test in
        let k : Closes (16 * optional_nodes condition + 1) rest test = test_closes condition rest (omega (arith, h)) in
        let a : E (16 * optional_nodes step + 1) test after = after_emits step test (omega (arith, h)) in
        next (16 * first_parts first) (16 * optional_nodes condition + 1 + (16 * optional_nodes step + 1) + 16 * stmt_parts s + 2) _ rest _ _ (omega arith)
        (first_emits first _ (omega (arith, h)))
        (for_emits (16 * optional_nodes condition + 1) (16 * optional_nodes step + 1) (16 * stmt_parts s) rest test after _ k a
        (stmt_emits (block_total rest) (block_total after) s (Start ∷ after) (omega (arith, k.grows, a.grows)) (omega arith) (omega (arith, h))))
    stmt_emits brk con (q.Switch y sections) rest b c h =
        let bodies : List CodeItem = code.sections_code locals ds ls (block_total rest) con sections (Start ∷ rest) in
        let targets : List Target = code.switch_targets locals ds ls (block_total rest) con sections (Start ∷ rest) in
        let e : E (bodies_most sections) (Start ∷ rest) bodies = sections_emits (block_total rest) con sections (Start ∷ rest) (omega arith) (omega (arith, c)) (omega (arith, h)) in
        let below : NamesBelow (block_total bodies) targets = targets_below (block_total rest) con sections (Start ∷ rest) (omega arith) (omega (arith, c)) (omega (arith, h)) in
        let way : code.default_name (block_total rest) targets ≤ block_total bodies = default_below (block_total bodies) (block_total rest) targets (omega (arith, e.grows)) below in
        let over : List CodeItem = Jump (code.default_name (block_total rest) targets) ∷ bodies in
        let size : 3 * length targets + bodies_most sections ≤ 16 * sections_parts sections = targets_length (block_total rest) con sections (Start ∷ rest) in
        next (16 * expr_nodes y) (3 * length targets + (1 + (bodies_most sections + 1))) _ rest _ _ (omega (arith, size)) (value_emits y _ (omega (arith, h)))
        (m.joins most (3 * length targets) (1 + (bodies_most sections + 1)) rest over _
        (labels_emits (type_of y) targets over (below_more (block_total bodies) (block_total over) targets (omega arith) below) (omega (arith, h)))
        (m.joins most 1 (bodies_most sections + 1) rest bodies over (m.jump most _ bodies way)
        (m.joins most (bodies_most sections) 1 rest (Start ∷ rest) bodies e (m.start most rest))))
    stmt_emits brk con q.Break rest b c h = m.at_most most 1 _ rest _ (omega arith) (m.jump most brk rest b)
    stmt_emits brk con q.Continue rest b c h = m.at_most most 1 _ rest _ (omega arith) (m.jump most con rest c)
    stmt_emits brk con (q.Return value) rest b c h = return_emits value rest h
    stmt_emits brk con (q.Expression y) rest b c h = m.at_most most (16 * expr_nodes y) _ rest _ (omega arith) (value_emits y rest (omega (arith, h)))
    stmt_emits brk con q.Empty rest b c h = same_code _ rest
    stmt_emits brk con (q.Declare d) rest b c h = declare_emits d rest h

    pub stmts_emits : (brk con : ℕ) (ss : Stmts) (rest : List CodeItem) → brk ≤ block_total rest → con ≤ block_total rest → Has most locals 0 (max 5 (stmts_levels ss))
        → E (16 * stmts_parts ss) rest (code.stmts_code locals ds ls brk con ss rest)
    stmts_emits brk con no_stmts rest b c h = m.none most rest
    stmts_emits brk con (more_stmts s ss) rest b c h =
        let e : E (16 * stmts_parts ss) rest (code.stmts_code locals ds ls brk con ss rest) = stmts_emits brk con ss rest b c (omega (arith, h)) in
        next (16 * stmt_parts s) (16 * stmts_parts ss) _ rest _ _ (omega arith) (stmt_emits brk con s _ (omega (arith, b, e.grows)) (omega (arith, c, e.grows)) (omega (arith, h))) e

    -- beside the labels
    sections_emits : (brk con : ℕ) (sections : Sections) (rest : List CodeItem) → brk ≤ block_total rest → con ≤ block_total rest → Has most locals 0 (max 5 (sections_levels sections))
        → E (bodies_most sections) rest (code.sections_code locals ds ls brk con sections rest)
    sections_emits brk con no_sections rest b c h = m.none most rest
    sections_emits brk con (more_sections label ss sections) rest b c h =
        let e : E (bodies_most sections) rest (code.sections_code locals ds ls brk con sections rest) = sections_emits brk con sections rest b c (omega (arith, h)) in
        let f = stmts_emits brk con ss (code.sections_code locals ds ls brk con sections rest) (omega (arith, b, e.grows)) (omega (arith, c, e.grows)) (omega (arith, h)) in
        next 1 (16 * stmts_parts ss + (bodies_most sections)) _ rest _ _ (omega arith) (m.start most _)
        (m.joins most (16 * stmts_parts ss) (bodies_most sections) rest _ _ f e)

    targets_below : (brk con : ℕ) (sections : Sections) (rest : List CodeItem) → brk ≤ block_total rest → con ≤ block_total rest → Has most locals 0 (max 5 (sections_levels sections))
        → NamesBelow (block_total (code.sections_code locals ds ls brk con sections rest)) (code.switch_targets locals ds ls brk con sections rest)
    targets_below brk con no_sections rest b c h = tt
    targets_below brk con (more_sections label ss sections) rest b c h =
        let e = sections_emits brk con sections rest b c (omega (arith, h)) in
        let f = stmts_emits brk con ss (code.sections_code locals ds ls brk con sections rest) (omega (arith, b, e.grows)) (omega (arith, c, e.grows)) (omega (arith, h)) in
        (omega arith, below_more _ _ _ (omega (arith, f.grows)) (targets_below brk con sections rest b c (omega (arith, h))))

  -- ---- parameters

  parameter_emits : (k : ℕ) (l : Local) (rest : List CodeItem) → k < locals → Has most locals 0 5 → E 2 rest (f.parameter_code locals ds ls k l rest)
  parameter_emits k l rest small h = by l.in_memory
    where
      by : (memory : Bool) → E 2 rest (if memory then x.address_code locals 0 (p.Local (object_index ls k)) 0 (x.store_code (type_view l.ty) (address_register locals 0) 0 k rest) else rest)
      by true =
          m.joins most 1 1 rest _ _ (m.address_emits most locals 0 (p.Local (object_index ls k)) 0 _ (omega (arith, h)))
          (m.store_emits (m.carried most) (type_view l.ty) _ 0 k rest (m.address_there most locals 0 (omega (arith, h))) (omega (arith, small, h)))
      by false = same_code 2 rest

  pub parameters_emits : (k : ℕ) (more : List Local) (rest : List CodeItem) → k + length more ≤ locals → Has most locals 0 5 → E (2 * length more) rest (f.parameters_code locals ds ls k more rest)
  parameters_emits k [] rest few h = m.none most rest
  parameters_emits k (l ∷ more) rest few h =
      next 2 (2 * length more) _ rest _ _ (omega arith) (parameter_emits k l _ (omega (arith, few)) h) (parameters_emits (suc k) more rest (omega (arith, few)) h)

-- the code of a function
pub function_emits : (most : ℕ) (ds : List StructDef) (g : TypedFn) → g.params ≤ length g.locals → Has most (length g.locals) 0 (max 5 (stmt_levels (stmt_view g.body)))
    → Emits most (2 * g.params + 16 * stmt_parts (stmt_view g.body)) [] (f.items_of ds g)
function_emits most ds g few h =
    let n : length (take g.params g.locals) ≡ g.params = length-take g.params g.locals ∙ omega (arith, few) in
    m.at_most most (2 * length (take g.params g.locals) + 16 * stmt_parts (stmt_view g.body)) _ [] _ (omega (arith, n))
    (m.joins most (2 * length (take g.params g.locals)) (16 * stmt_parts (stmt_view g.body)) [] _ _
    (parameters_emits most (length g.locals) ds g.locals refl 0 (take g.params g.locals) _ (omega (arith, n, few)) (omega (arith, h)))
    (stmt_emits most (length g.locals) ds g.locals refl 0 0 (stmt_view g.body) [] (omega arith) (omega arith) h))

-- what laying out asks of the code of a function
pub good_items : (ds : List StructDef) (g : TypedFn) (is : List CodeItem) → is ≡ f.items_of ds g → g.params ≤ length g.locals
    → length g.locals + 5 * max 5 (stmt_levels (stmt_view g.body)) < 2 ^ 32 - 1 → IsGood (2 ^ 32 - 1) 0 is
good_items ds g is e few h = subst (IsGood (2 ^ 32 - 1) 0) (sym e) ((function_emits (2 ^ 32 - 1) ds g few (omega (arith, h))).good 0 refl)

pub few_items : (ds : List StructDef) (g : TypedFn) (is : List CodeItem) → is ≡ f.items_of ds g → g.params ≤ length g.locals
    → length g.locals + 5 * max 5 (stmt_levels (stmt_view g.body)) < 2 ^ 32 - 1 → 2 * (2 * g.params + 16 * stmt_parts (stmt_view g.body)) + 3 < 2 ^ 30 → 2 * length is + 3 < 2 ^ 30
few_items ds g is e few h size = omega (arith, ap (λ x. length x) e, (function_emits (2 ^ 32 - 1) ds g few (omega (arith, h))).size, size)
