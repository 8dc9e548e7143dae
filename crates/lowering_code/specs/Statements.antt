-- The code of statements, each in front of the code that comes behind it (C99 6.8).
--
-- A jump names its block by the number of blocks that begin behind it. No value stands in a register between two
-- statements but those of locals.
use Rattle.std.specs.Prelude.{ℕ, zero, suc, Bool, true, List, [], ◌∷◌, slice_get, Option, Some, None, if◌then◌else◌}
use Rattle.c_typed_tree.specs.declared.types.StructDef.{StructDef}
use Rattle.c_typed_tree.specs.declared.statements.TLabel.{TLabel}
use Rattle.c_typed_tree.specs.declared.statements.TLabel.TheVariants.{Case, Default}
use Rattle.c_typed_tree.specs.declared.units.Local.{Local}
use Rattle.c_typed_tree.specs.Types.{PlainType, Struct, Int}
use Rattle.c_typed_tree.specs.View.{type_view}
use Rattle.c_typed_tree.specs.Expressions.{Expr, type_of}
use Rattle.c_typed_tree.specs.Statements.{LocalDeclaration, First, Stmt, Else, no_else, else_stmt, Stmts, no_stmts, more_stmts, Sections, no_sections, more_sections}
use Rattle.c_typed_tree.specs.Statements as q
use Rattle.suifvm_ir.specs.declared.types.VmType.TheVariants.{S32}
use Rattle.suifvm_ir.specs.declared.insn.VmBranchOp.TheVariants.{IfTrue, IfFalse}
use Rattle.suifvm_ir.specs.declared.insn.CompareOp.TheVariants.{Equal}
use Rattle.suifvm_ir.specs.declared.insn.VmObject.TheVariants as p
use Rattle.suifvm_ir.specs.declared.insn.VmInsn.TheVariants as n
use Rattle.lowering_code.specs.declared.item.CodeItem.{CodeItem}
use Rattle.lowering_code.specs.declared.item.CodeItem.TheVariants.{Start, Plain, Jump, Loop, Enter, Again, Repeat, Return}
use Rattle.lowering_code.specs.Registers.{register_type, temporary, value_register, address_register, object_index}
use Rattle.lowering_code.specs.Items.{block_total}
use Rattle.lowering_code.specs.Expressions.{constant_code, move_code, store_code, branch_by_value_code, address_code, copy_code, expr_code}

-- a label of a `switch` with the name of its block
pub record Target : Type 0 where
  pub label : TLabel
  pub name : ℕ

-- where a `switch` goes that has no label of its value
abbrev pub name_if_default : TLabel → (name otherwise : ℕ) → ℕ
name_if_default (Case word) name otherwise = otherwise
name_if_default Default name otherwise = name

abbrev pub default_name : (otherwise : ℕ) → List Target → ℕ
default_name otherwise [] = otherwise
default_name otherwise (t ∷ targets) = name_if_default t.label t.name (default_name otherwise targets)

module _ (locals : ℕ) (ds : List StructDef) (ls : List Local) where
  -- ---- values of statements

  abbrev pub value_code : Expr → List CodeItem → List CodeItem
  value_code x rest = expr_code locals ds ls 0 x rest

  -- a value that was converted comes into a local: a struct is copied
  abbrev pub put_code : PlainType → (local : ℕ) → List CodeItem → List CodeItem
  put_code (Struct number) k rest =
      address_code locals 1 (p.Local (object_index ls k)) 0
      (copy_code ds (address_register locals 1) (address_register locals 0) (Struct number) rest)
  put_code ty k rest =
      address_code locals 1 (p.Local (object_index ls k)) 0
      (store_code ty (address_register locals 1) 0 (value_register locals 0 ty) rest)

  abbrev pub put_local_code : (local : ℕ) → Option Local → List CodeItem → List CodeItem
  put_local_code k None rest = rest
  put_local_code k (Some l) rest =
      if l.in_memory then put_code (type_view l.ty) k rest
      else move_code (type_view l.ty) k (value_register locals 0 (type_view l.ty)) rest

  abbrev pub initialise_code : (local : ℕ) → Option Expr → List CodeItem → List CodeItem
  initialise_code k None rest = rest
  initialise_code k (Some x) rest = value_code x (put_local_code k (slice_get ls k) rest)

  abbrev pub declare_code : LocalDeclaration → List CodeItem → List CodeItem
  declare_code d rest = initialise_code d.number d.init rest

  abbrev pub declares_code : List LocalDeclaration → List CodeItem → List CodeItem
  declares_code [] rest = rest
  declares_code (d ∷ more) rest = declare_code d (declares_code more rest)

  abbrev pub first_code : First → List CodeItem → List CodeItem
  first_code q.Nothing rest = rest
  first_code (q.Value x) rest = value_code x rest
  first_code (q.Locals more) rest = declares_code more rest

  -- ---- tests of loops, at their ends

  abbrev pub again_code : Expr → List CodeItem → List CodeItem
  again_code x rest = value_code x (Again (register_type (type_of x)) (value_register locals 0 (type_of x)) ∷ rest)

  abbrev pub test_code : Option Expr → List CodeItem → List CodeItem
  test_code None rest = Repeat ∷ rest
  test_code (Some x) rest = again_code x rest

  -- the step of a `for` in front of its test
  abbrev pub after_code : Option Expr → List CodeItem → List CodeItem
  after_code None test = test
  after_code (Some x) test = value_code x (Start ∷ test)

  -- ---- `switch`: the value is compared with each label

  abbrev pub label_code : PlainType → TLabel → (name : ℕ) → List CodeItem → List CodeItem
  label_code ty Default name rest = rest
  label_code ty (Case word) name rest =
      constant_code locals 1 ty word
      (Plain (n.Compare Equal (register_type ty) (temporary locals 1 S32) (value_register locals 0 ty)
      (value_register locals 1 ty))
      ∷ branch_by_value_code locals IfTrue 1 (Int 4 true) name rest)

  abbrev pub labels_code : PlainType → List Target → List CodeItem → List CodeItem
  labels_code ty [] rest = rest
  labels_code ty (t ∷ targets) rest = label_code ty t.label t.name (labels_code ty targets rest)

  -- ---- the value of a call

  abbrev pub return_code : Option Expr → List CodeItem → List CodeItem
  return_code None rest = Return None ∷ rest
  return_code (Some x) rest =
      value_code x (Return (Some (record {
        ty = register_type (type_of x);
        register = value_register locals 0 (type_of x);
      })) ∷ rest)

  -- ---- statements; a `break` goes to the block with the one name, a `continue` to that with the other one

  abbrev mutual
    pub stmt_code : (break_to continue_to : ℕ) → Stmt → List CodeItem → List CodeItem
    stmt_code brk con (q.Block ss) rest = stmts_code brk con ss rest
    stmt_code brk con (q.If x s no_else) rest =
        value_code x (branch_by_value_code locals IfFalse 0 (type_of x) (block_total rest)
        (stmt_code brk con s (Start ∷ rest)))
    stmt_code brk con (q.If x s (else_stmt t)) rest =
        let fails = stmt_code brk con t (Start ∷ rest) in
        value_code x (branch_by_value_code locals IfFalse 0 (type_of x) (block_total fails)
        (stmt_code brk con s (Jump (block_total rest) ∷ fails)))
    stmt_code brk con (q.While x s) rest =
        let test = again_code x rest in
        Loop (block_total test) ∷ stmt_code (block_total rest) (block_total test) s (Start ∷ test)
    stmt_code brk con (q.Do s x) rest =
        let test = again_code x rest in
        Enter ∷ stmt_code (block_total rest) (block_total test) s (Start ∷ test)
    stmt_code brk con (q.For start condition step s) rest =
        let test = test_code condition rest in
        let after = after_code step test in
        first_code start (Loop (block_total test) ∷ stmt_code (block_total rest) (block_total after) s (Start ∷ after))
    stmt_code brk con (q.Switch x sections) rest =
        let bodies = sections_code (block_total rest) con sections (Start ∷ rest) in
        let targets = switch_targets (block_total rest) con sections (Start ∷ rest) in
        value_code x (labels_code (type_of x) targets (Jump (default_name (block_total rest) targets) ∷ bodies))
    stmt_code brk con q.Break rest = Jump brk ∷ rest
    stmt_code brk con q.Continue rest = Jump con ∷ rest
    stmt_code brk con (q.Return x) rest = return_code x rest
    stmt_code brk con (q.Expression x) rest = value_code x rest
    stmt_code brk con q.Empty rest = rest
    stmt_code brk con (q.Declare d) rest = declare_code d rest

    pub stmts_code : (break_to continue_to : ℕ) → Stmts → List CodeItem → List CodeItem
    stmts_code brk con no_stmts rest = rest
    stmts_code brk con (more_stmts s ss) rest = stmt_code brk con s (stmts_code brk con ss rest)

    -- the sections of a `switch`, at each of which a block begins
    pub sections_code : (break_to continue_to : ℕ) → Sections → List CodeItem → List CodeItem
    sections_code brk con no_sections rest = rest
    sections_code brk con (more_sections label ss sections) rest =
        Start ∷ stmts_code brk con ss (sections_code brk con sections rest)

    -- their labels with the names of these blocks
    pub switch_targets : (break_to continue_to : ℕ) → Sections → List CodeItem → List Target
    switch_targets brk con no_sections rest = []
    switch_targets brk con (more_sections label ss sections) rest =
        record { label = label; name = block_total (stmts_code brk con ss (sections_code brk con sections rest)) }
        ∷ switch_targets brk con sections rest
