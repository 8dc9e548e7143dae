-- Behind the code of a statement stands the code that comes behind it.
use Rattle.std.proofs.Common.{ℕ, suc, List, [], ◌∷◌, Bool, true, false, Option, Some, None, arith}
use Rattle.std.specs.Prelude.{if◌then◌else◌, slice_get}
use Rattle.c_typed_tree.specs.declared.types.StructDef.{StructDef}
use Rattle.c_typed_tree.specs.declared.statements.TLabel.{TLabel}
use Rattle.c_typed_tree.specs.declared.statements.TLabel.TheVariants.{Case, Default}
use Rattle.c_typed_tree.specs.declared.units.Local.{Local}
use Rattle.c_typed_tree.specs.Types.{PlainType, Void, Int, Pointer, Array, Struct}
use Rattle.c_typed_tree.specs.View.{type_view}
use Rattle.c_typed_tree.specs.Expressions.{Expr, type_of}
use Rattle.c_typed_tree.specs.Statements.{LocalDeclaration, First, Stmt, Else, no_else, else_stmt, Stmts, no_stmts, more_stmts, Sections, no_sections, more_sections}
use Rattle.c_typed_tree.specs.Statements as q
use Rattle.suifvm_ir.specs.declared.types.VmType.{VmType}
use Rattle.suifvm_ir.specs.declared.insn.VmBranchOp.{VmBranchOp}
use Rattle.suifvm_ir.specs.declared.insn.TypedRegister.{TypedRegister}
use Rattle.suifvm_ir.specs.declared.insn.VmInsn.{VmInsn}
use Rattle.lowering_code.specs.declared.item.CodeItem.{CodeItem}
use Rattle.lowering_code.specs.declared.item.CodeItem.TheVariants.{Start, Plain, Jump, Branch, Loop, Enter, Again, Repeat, Return}
use Rattle.lowering_code.specs.Items.{block_total}
use Rattle.lowering_code.specs.Statements.{Target, value_code, default_name, put_code, put_local_code, initialise_code, declares_code, first_code, again_code, test_code, after_code, label_code, labels_code, return_code, stmt_code, stmts_code, sections_code, switch_targets}
use Rattle.lowering_states.specs.Places.{CodePlace, next_place, next_block, At}
use Rattle.lowering_states.specs.lowering_expression_places.Behind.{Somewhere, IsLeft}
use Rattle.lowering_states.proofs.LoweringExpressionPlaces.Behind.{at_plain, at_start, at_jump, at_branch, left_expr}

module _ (blocks : List (List VmInsn)) (last : ℕ) (end : List VmInsn) where
  pub at_loop : {heads : List ℕ} {p : CodePlace} {is : List CodeItem} (name : ℕ) → At blocks last end heads p (Loop name ∷ is) → At blocks last end (suc p.block ∷ heads) (next_place (next_block p)) is
  at_loop name h = record { has = h.has.2; size = omega (arith, h.size) }

  pub at_enter : {heads : List ℕ} {p : CodePlace} {is : List CodeItem} → At blocks last end heads p (Enter ∷ is) → At blocks last end (suc p.block ∷ heads) (next_place (next_block p)) is
  at_enter h = record { has = h.has.2; size = omega (arith, h.size) }

  pub at_again : {head : ℕ} {heads : List ℕ} {p : CodePlace} {is : List CodeItem} (ty : VmType) (source : ℕ) → At blocks last end (head ∷ heads) p (Again ty source ∷ is) → At blocks last end heads (next_block p) is
  at_again ty source h = record { has = h.has.2; size = omega (arith, h.size) }

  pub at_repeat : {head : ℕ} {heads : List ℕ} {p : CodePlace} {is : List CodeItem} → At blocks last end (head ∷ heads) p (Repeat ∷ is) → At blocks last end heads (next_block p) is
  at_repeat h = record { has = h.has.1; size = omega (arith, h.size) }

  pub at_return : {heads : List ℕ} {p : CodePlace} {is : List CodeItem} (v : Option TypedRegister) → At blocks last end heads p (Return v ∷ is) → At blocks last end heads (next_block p) is
  at_return v h = record { has = h.has.1; size = omega (arith, h.size) }

  abbrev LeavesBlock : (List CodeItem → List CodeItem) → Type 0
  LeavesBlock piece = IsLeft blocks last end piece

  left_plain : (i : VmInsn) → LeavesBlock (λ is. Plain i ∷ is)
  left_plain i heads rest h = record { place = _; at = at_plain blocks last end i h.at }

  left_start : LeavesBlock (λ is. Start ∷ is)
  left_start heads rest h = record { place = _; at = at_start blocks last end h.at }

  left_jump : (name : ℕ) → LeavesBlock (λ is. Jump name ∷ is)
  left_jump name heads rest h = record { place = _; at = at_jump blocks last end name h.at }

  left_branch : (op : VmBranchOp) (ty : VmType) (source name : ℕ) → LeavesBlock (λ is. Branch op ty source name ∷ is)
  left_branch op ty source name heads rest h = record { place = _; at = at_branch blocks last end op ty source name h.at }

  left_return : (v : Option TypedRegister) → LeavesBlock (λ is. Return v ∷ is)
  left_return v heads rest h = record { place = _; at = at_return v h.at }

  left_none : LeavesBlock (λ is. is)
  left_none heads rest h = h

  left_on : {f g : List CodeItem → List CodeItem} → LeavesBlock f → LeavesBlock g → LeavesBlock (λ is. f (g is))
  left_on {g = g} a c heads rest h = c heads rest (a heads (g rest) h)

  left_if : {f g : List CodeItem → List CodeItem} (t : Bool) → LeavesBlock f → LeavesBlock g → LeavesBlock (λ is. if t then f is else g is)
  left_if true a c heads rest h = a heads rest h
  left_if false a c heads rest h = c heads rest h

  module _ (L : ℕ) (ds : List StructDef) (ls : List Local) where
    left_value : (x : Expr) → LeavesBlock (λ is. value_code L ds ls x is)
    left_value x = left_expr blocks last end L ds ls x 0

    left_put : (ty : PlainType) (k : ℕ) → LeavesBlock (λ is. put_code L ds ls ty k is)
    left_put Void k = left_on (left_plain _) (left_plain _)
    left_put (Int n r) k = left_on (left_plain _) (left_plain _)
    left_put (Pointer t) k = left_on (left_plain _) (left_plain _)
    left_put (Array t n) k = left_on (left_plain _) (left_plain _)
    left_put (Struct n) k = left_on (left_plain _) (left_plain _)

    left_put_local : (k : ℕ) (l : Option Local) → LeavesBlock (λ is. put_local_code L ds ls k l is)
    left_put_local k None = left_none
    left_put_local k (Some l) = left_if l.in_memory (left_put (type_view l.ty) k) (left_plain _)

    left_initialise : (k : ℕ) (x : Option Expr) → LeavesBlock (λ is. initialise_code L ds ls k x is)
    left_initialise k None = left_none
    left_initialise k (Some x) = left_on (left_value x) (left_put_local k (slice_get ls k))

    left_declares : (xs : List LocalDeclaration) → LeavesBlock (λ is. declares_code L ds ls xs is)
    left_declares [] = left_none
    left_declares (x ∷ xs) = left_on (left_initialise x.number x.init) (left_declares xs)

    left_first : (x : First) → LeavesBlock (λ is. first_code L ds ls x is)
    left_first q.Nothing = left_none
    left_first (q.Value x) = left_value x
    left_first (q.Locals xs) = left_declares xs

    -- the test of a loop closes it
    left_again : (x : Expr) (head : ℕ) (heads : List ℕ) (rest : List CodeItem) → Somewhere blocks last end (head ∷ heads) (again_code L ds ls x rest) → Somewhere blocks last end heads rest
    left_again x head heads rest h = let a = left_value x (head ∷ heads) _ h in record { place = _; at = at_again _ _ a.at }

    left_test : (x : Option Expr) (head : ℕ) (heads : List ℕ) (rest : List CodeItem) → Somewhere blocks last end (head ∷ heads) (test_code L ds ls x rest) → Somewhere blocks last end heads rest
    left_test None head heads rest h = record { place = _; at = at_repeat h.at }
    left_test (Some x) head heads rest h = left_again x head heads rest h

    left_after : (x : Option Expr) → LeavesBlock (λ is. after_code L ds ls x is)
    left_after None = left_none
    left_after (Some x) = left_on (left_value x) left_start

    left_label : (ty : PlainType) (label : TLabel) (name : ℕ) → LeavesBlock (λ is. label_code L ds ls ty label name is)
    left_label ty Default name = left_none
    left_label ty (Case word) name = left_on (left_plain _) (left_on (left_plain _) (left_branch _ _ _ _))

    pub left_labels : (ty : PlainType) (ts : List Target) → LeavesBlock (λ is. labels_code L ds ls ty ts is)
    left_labels ty [] = left_none
    left_labels ty (t ∷ ts) = left_on (left_label ty t.label t.name) (left_labels ty ts)

    left_return_value : (x : Option Expr) → LeavesBlock (λ is. return_code L ds ls x is)
    left_return_value None = left_return None
    left_return_value (Some x) = left_on (left_value x) (left_return _)

    mutual
      pub left_stmt : (x : Stmt) (brk con : ℕ) → LeavesBlock (λ is. stmt_code L ds ls brk con x is)
      left_stmt (q.Block ss) brk con heads rest h = left_stmts ss brk con heads rest h
      left_stmt (q.If x s no_else) brk con heads rest h =
          left_start heads rest (left_stmt s brk con heads (Start ∷ rest) (left_branch _ _ _ _ heads _ (left_value x heads _ h)))
      left_stmt (q.If x s (else_stmt t)) brk con heads rest h =
          let fails = stmt_code L ds ls brk con t (Start ∷ rest) in
          left_start heads rest (left_stmt t brk con heads (Start ∷ rest) (left_jump (block_total rest) heads fails (left_stmt s brk con heads (Jump (block_total rest) ∷ fails) (left_branch _ _ _ _ heads _ (left_value x heads _ h)))))
      left_stmt (q.While x s) brk con heads rest h =
          let test = again_code L ds ls x rest in
          let a = left_stmt s (block_total rest) (block_total test) _ (Start ∷ test) (record { place = _; at = at_loop (block_total test) h.at }) in
          left_again x _ heads rest (left_start _ test a)
      left_stmt (q.Do s x) brk con heads rest h =
          let test = again_code L ds ls x rest in
          let a = left_stmt s (block_total rest) (block_total test) _ (Start ∷ test) (record { place = _; at = at_enter h.at }) in
          left_again x _ heads rest (left_start _ test a)
      left_stmt (q.For start x step s) brk con heads rest h =
          let test = test_code L ds ls x rest in
          let after = after_code L ds ls step test in
          let b = left_first start heads (Loop (block_total test) ∷ stmt_code L ds ls (block_total rest) (block_total after) s (Start ∷ after)) h in
          let a = left_stmt s (block_total rest) (block_total after) _ (Start ∷ after) (record { place = _; at = at_loop (block_total test) b.at }) in
          left_test x _ heads rest (left_after step _ test (left_start _ after a))
      left_stmt (q.Switch x sections) brk con heads rest h =
          let bodies = sections_code L ds ls (block_total rest) con sections (Start ∷ rest) in
          let targets = switch_targets L ds ls (block_total rest) con sections (Start ∷ rest) in
          left_start heads rest (left_sections sections (block_total rest) con heads (Start ∷ rest) (left_jump (default_name (block_total rest) targets) heads bodies (left_labels (type_of x) targets heads _ (left_value x heads _ h))))
      left_stmt q.Break brk con heads rest h = left_jump brk heads rest h
      left_stmt q.Continue brk con heads rest h = left_jump con heads rest h
      left_stmt (q.Return x) brk con heads rest h = left_return_value x heads rest h
      left_stmt (q.Expression x) brk con heads rest h = left_value x heads rest h
      left_stmt q.Empty brk con heads rest h = h
      left_stmt (q.Declare d) brk con heads rest h = left_initialise d.number d.init heads rest h

      pub left_stmts : (xs : Stmts) (brk con : ℕ) → LeavesBlock (λ is. stmts_code L ds ls brk con xs is)
      left_stmts no_stmts brk con heads rest h = h
      left_stmts (more_stmts s ss) brk con heads rest h = left_stmts ss brk con heads rest (left_stmt s brk con heads _ h)

      pub left_sections : (xs : Sections) (brk con : ℕ) → LeavesBlock (λ is. sections_code L ds ls brk con xs is)
      left_sections no_sections brk con heads rest h = h
      left_sections (more_sections label ss rest1) brk con heads rest h = left_sections rest1 brk con heads rest (left_stmts ss brk con heads _ (left_start heads _ h))
