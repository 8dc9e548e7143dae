-- The code of well typed statements: by its weight, it costs little.
use Rattle.std.proofs.Common.{◌≡◌, ◌≤◌, ℕ, suc, ◌+◌, ◌*◌, max, Bool, true, false, not, ◌&&◌, ◌||◌, IsTrue, List, [], ◌∷◌, Option, Some, None, length, if◌then◌else◌, refl, sym, ap, ◌∙◌, subst, arith}
use Rattle.std.specs.Prelude.{All, slice_get, sum_by}
use Rattle.std.specs.List.{list_all}
use Rattle.std.proofs.lemmas.Option.{slice_get_within}
use Rattle.std.proofs.lemmas.List.Sums.{sum_by-cons}
use Rattle.bk_arithmetic.specs.declared.integer_type.IntegerType.{IntegerType}
use Rattle.c_typed_tree.specs.declared.statements.TLabel.{TLabel}
use Rattle.c_typed_tree.specs.declared.statements.TLabel.TheVariants.{Case, Default}
use Rattle.c_typed_tree.specs.declared.units.Local.{Local}
use Rattle.c_typed_tree.specs.Types.{PlainType, Void, Int, Pointer, Array, Struct}
use Rattle.c_typed_tree.specs.View.{type_view}
use Rattle.c_typed_tree.specs.Layout.{integer_of}
use Rattle.c_typed_tree.specs.Expressions.{Expr, type_of}
use Rattle.c_typed_tree.specs.Statements.{LocalDeclaration, First, Stmt, Else, no_else, else_stmt, Stmts, no_stmts, more_stmts, Sections, no_sections, more_sections}
use Rattle.c_typed_tree.specs.Statements as q
use Rattle.c_typed_tree.specs.Typing.{is_same_type, is_scalar, is_struct, is_array, is_void, is_promoted, Context, is_typed}
use Rattle.c_typed_tree.specs.TypingStatements.{Jumps, in_loop, in_switch, is_value, is_condition, is_optional_value, is_optional_condition, has_initialised_type, is_initialiser, is_declared, is_first, is_returned, is_label, is_label_of, are_labels, is_typed_stmt, is_typed_else, are_typed_stmts, are_typed_sections}
use Rattle.c_typed_tree.specs.Lawful.{IsLawfulStruct, is_lawful_local}
use Rattle.c_typed_tree.specs.Weight.{expr_weight, copy_weight, optional_weight, init_weight, declared_weight, first_weight, label_weight, stmt_weight, stmts_weight, sections_weight}
use Rattle.suifvm_ir.specs.declared.types.VmType.TheVariants.{S32}
use Rattle.suifvm_ir.specs.declared.insn.VmBranchOp.TheVariants.{IfTrue, IfFalse}
use Rattle.suifvm_ir.specs.declared.insn.CompareOp.TheVariants.{Equal}
use Rattle.suifvm_ir.specs.declared.insn.VmObject.TheVariants as p
use Rattle.suifvm_ir.specs.declared.insn.VmInsn.TheVariants as n
use Rattle.pass_core.specs.declared.function.MemoryLocal.{MemoryLocal}
use Rattle.suifvm_ir.specs.Programs.{VmFunction, place_reaches}
use Rattle.lowering_code.specs.declared.item.CodeItem.{CodeItem}
use Rattle.lowering_code.specs.declared.item.CodeItem.TheVariants.{Start, Jump, Loop, Enter, Again}
use Rattle.lowering_code.specs.Items.{block_total}
use Rattle.lowering_code.specs.Registers.{register_type, temporary, value_register, address_register, object_index}
use Rattle.lowering_code.specs.Expressions as x
use Rattle.lowering_code.specs.Statements as code
use Rattle.lowering_code.specs.Statements.{Target}
use Rattle.lowering_code.specs.Functions as f
use Rattle.lowering_code.proofs.Pieces.{Carried}
use Rattle.c_typing_struct_layout.proofs.CLayoutLaws.Truth.{no_true, front, back}
use Rattle.lowering_bounds.specs.Laws.{TakesArguments}
use Rattle.lowering_bounds.specs.model.Depths.{depths, optional_depths, declared_depths, locals_depths, first_depths, stmt_depths, stmts_depths, sections_depths}
use Rattle.lowering_bounds.proofs.Typing.{same, local_there, struct_whole, copy_paid}
use Rattle.lowering_bounds.proofs.Pieces as m
use Rattle.lowering_bounds.proofs.Expressions as w
use Rattle.lowering_bounds.proofs.Expressions.{own_depth}

pub pair : (a b : Bool) → IsTrue (a && b) → IsTrue a × IsTrue b
pair a b h = (front a b h, back a b h)

pub triple : (a b d : Bool) → IsTrue (a && b && d) → IsTrue a × IsTrue b × IsTrue d
triple a b d h = (front a b (front (a && b) d h), back a b (front (a && b) d h), back (a && b) d h)

pub four : (a b d e : Bool) → IsTrue (a && b && d && e) → IsTrue a × IsTrue b × IsTrue d × IsTrue e
four a b d e h = let t = triple a b d (front (a && b && d) e h) in (t.0, t.1, t.2, back (a && b && d) e h)

-- ---- labels

abbrev pub defaults_of : TLabel → ℕ
defaults_of (Case word) = 0
defaults_of Default = 1

abbrev pub defaults : Sections → ℕ
defaults no_sections = 0
defaults (more_sections label ss rest) = defaults_of label + defaults rest

none_left : (sections : Sections) → is_label_of Default sections ≡ false → defaults sections ≡ 0
none_left no_sections h = refl
none_left (more_sections (Case word) ss rest) h = omega (arith, none_left rest h)
none_left (more_sections Default ss rest) h = let clash : ⊥ = cc in absurd clash

not_true : (b : Bool) → IsTrue (not b) → b ≡ false
not_true true h = no_true h
not_true false h = refl

pub one_default : (t : Option IntegerType) (sections : Sections) → IsTrue (are_labels t sections) → defaults sections ≤ 1
one_default t no_sections h = omega arith
one_default t (more_sections (Case word) ss rest) h =
    omega (arith, one_default t rest ((triple (is_label t (Case word)) (not (is_label_of (Case word) rest)) (are_labels t rest) h).2))
one_default t (more_sections Default ss rest) h =
    let o = triple (is_label t Default) (not (is_label_of Default rest)) (are_labels t rest) h in
    omega (arith, none_left rest (not_true (is_label_of Default rest) o.1))

module _ (most : ℕ) (fs : List VmFunction) (c : Context) (structs : All (IsLawfulStruct c.structs) c.structs) (lawful : IsTrue (list_all (is_lawful_local c.structs) c.locals)) (calls : TakesArguments fs c.functions) where
  abbrev L : ℕ
  L = length c.locals

  abbrev E : (k : ℕ) → (rest is : List CodeItem) → Type 0
  E j rest is = w.E most fs c structs lawful calls j rest is

  abbrev S : (k : ℕ) → (rest is : List CodeItem) → Type 0
  S j rest is = w.Spends most fs c structs lawful calls j rest is

  abbrev Has : (d k : ℕ) → Type 0
  Has d j = w.Has most fs c structs lawful calls d j

  abbrev os : List MemoryLocal
  os = f.objects_of c.structs c.locals

  abbrev K : Carried
  K = m.carried most fs c.globals os

  next : (j k i : ℕ) (rest mid is : List CodeItem) → j + k ≤ i → E j mid is → E k rest mid → E i rest is
  next j k i rest mid is le a b = m.at_most most fs c.globals os (j + k) i rest is le (m.joins most fs c.globals os j k rest mid is a b)

  -- what follows a value may cost as much more as comes back
  valued : (v k i : ℕ) (rest mid is : List CodeItem) → 2048 * v + k ≤ i + 1600 → S v mid is → E k rest mid → E i rest is
  valued v k i rest mid is le a b = record { fits = λ g. a.fits (b.fits g); cost = omega (arith, le, a.cost, b.cost); wide = λ z h r. a.wide z (omega (arith, le, h)) (b.wide z (omega (arith, le, h, a.some)) r) }

  abbrev none : (i : ℕ) (rest : List CodeItem) → E i rest rest
  none i rest = m.at_most most fs c.globals os 0 i rest rest (omega arith) (m.none most fs c.globals os rest)

  abbrev W : Expr → ℕ
  W y = expr_weight c.structs y

  value_spends : (y : Expr) (rest : List CodeItem) → IsTrue (is_typed c y) → Has 0 (depths y) → S (W y) rest (code.value_code L c.structs c.locals y rest)
  value_spends y rest t h = w.expr_spends most fs c structs lawful calls 0 y rest t h

  -- ---- values come into locals

  abbrev bytes_of : PlainType → ℕ
  bytes_of ty = m.struct_bytes most fs c.globals os L c.structs ty

  bytes_paid : (ty : PlainType) → 96 * bytes_of ty ≤ 768 * copy_weight c.structs ty
  bytes_paid Void = omega arith
  bytes_paid (Int bytes signed) = omega arith
  bytes_paid (Pointer target) = omega arith
  bytes_paid (Array element length) = omega arith
  bytes_paid (Struct number) = omega (arith, copy_paid c.structs number)

  abbrev There : ℕ → Type 0
  There j = IsTrue (place_reaches c.globals os 0 (p.Local (object_index c.locals j)))

  put_scalar : (ty : PlainType) (j : ℕ) (rest : List CodeItem) → There j → Has 0 2
      → E 216 rest (x.address_code L 1 (p.Local (object_index c.locals j)) 0 (x.store_code ty (address_register L 1) 0 (value_register L 0 ty) rest))
  put_scalar ty j rest there h =
      m.joins most fs c.globals os 24 192 rest _ _ (m.address_emits most fs c.globals os L 1 (p.Local (object_index c.locals j)) 0 _ (omega (arith, h)) there)
      (m.store_emits K ty _ 0 _ rest (m.address_there most L 1 (omega (arith, h))) (m.value_there most L 0 ty (omega (arith, h))))

  put_emits : (ty : PlainType) (j : ℕ) (rest : List CodeItem) → There j → Has 0 2 → E (216 + 96 * bytes_of ty) rest (code.put_code L c.structs c.locals ty j rest)
  put_emits Void j rest there h = put_scalar Void j rest there h
  put_emits (Int bytes signed) j rest there h = put_scalar (Int bytes signed) j rest there h
  put_emits (Pointer target) j rest there h = put_scalar (Pointer target) j rest there h
  put_emits (Array element count) j rest there h = put_scalar (Array element count) j rest there h
  put_emits (Struct number) j rest there h =
      next 24 (24 + 96 * bytes_of (Struct number)) (216 + 96 * bytes_of (Struct number)) rest _ _ (omega arith)
      (m.address_emits most fs c.globals os L 1 (p.Local (object_index c.locals j)) 0 _ (omega (arith, h)) there)
      (m.copy_emits most fs c.globals os c.structs _ _ (Struct number) rest (m.address_there most L 1 (omega (arith, h))) (m.address_there most L 0 (omega (arith, h))) (struct_whole c.structs structs number))

  put_local_emits : (j : ℕ) (ty : PlainType) (o : Option Local) → slice_get c.locals j ≡ o → IsTrue (has_initialised_type o ty) → (rest : List CodeItem) → Has 0 2
      → E (216 + 96 * bytes_of ty) rest (code.put_local_code L c.structs c.locals j o rest)
  put_local_emits j ty None is t rest h = no_true t
  put_local_emits j ty (Some l) is t rest h =
      let type : ty ≡ type_view l.ty = same ty (type_view l.ty) (front (is_same_type ty (type_view l.ty)) (is_scalar ty || is_struct ty) t) in
      by l.in_memory refl type
    where
      by : (memory : Bool) → l.in_memory ≡ memory → ty ≡ type_view l.ty → E (216 + 96 * bytes_of ty) rest (if memory then code.put_code L c.structs c.locals (type_view l.ty) j rest else x.move_code (type_view l.ty) j (value_register L 0 (type_view l.ty)) rest)
      by true e type =
          subst (λ t. E (216 + 96 * bytes_of t) rest (code.put_code L c.structs c.locals (type_view l.ty) j rest)) (sym type)
          (put_emits (type_view l.ty) j rest (local_there c.structs c.locals j 0 l is e (omega arith) c.globals) h)
      by false e type =
          m.at_most most fs c.globals os 24 (216 + 96 * bytes_of ty) rest _ (omega arith)
          (m.move_emits K (type_view l.ty) j _ rest (omega (arith, slice_get_within c.locals j l is, h)) (m.value_there most L 0 (type_view l.ty) (omega (arith, h))))

  initialise_emits : (j : ℕ) (init : Option Expr) (rest : List CodeItem) → IsTrue (is_initialiser c (slice_get c.locals j) init) → Has 0 (optional_depths init)
      → E (2048 * init_weight c.structs init) rest (code.initialise_code L c.structs c.locals j init rest)
  initialise_emits j None rest t h = none _ rest
  initialise_emits j (Some y) rest t h =
      let o = pair (has_initialised_type (slice_get c.locals j) (type_of y)) (is_typed c y) t in
      valued (W y) (216 + 96 * bytes_of (type_of y)) _ rest _ _ (omega (arith, bytes_paid (type_of y))) (value_spends y _ o.1 (omega (arith, h)))
      (put_local_emits j (type_of y) (slice_get c.locals j) refl o.0 rest (omega (arith, h)))

  declare_emits : (d : LocalDeclaration) (rest : List CodeItem) → IsTrue (is_declared c d) → Has 0 (declared_depths d) → E (2048 * declared_weight c.structs d) rest (code.declare_code L c.structs c.locals d rest)
  declare_emits d rest t h = m.at_most most fs c.globals os (2048 * init_weight c.structs d.init) _ rest _ (omega arith) (initialise_emits d.number d.init rest t h)

  declares_emits : (more : List LocalDeclaration) (rest : List CodeItem) → IsTrue (list_all (is_declared c) more) → Has 0 (locals_depths more)
      → E (2048 * sum_by (declared_weight c.structs) more) rest (code.declares_code L c.structs c.locals more rest)
  declares_emits [] rest t h = m.none most fs c.globals os rest
  declares_emits (d ∷ more) rest t h =
      let sum : sum_by (declared_weight c.structs) (d ∷ more) ≡ declared_weight c.structs d + sum_by (declared_weight c.structs) more = sum_by-cons (declared_weight c.structs) d more in
      next (2048 * declared_weight c.structs d) (2048 * sum_by (declared_weight c.structs) more) _ rest _ _ (omega (arith, sum))
      (declare_emits d _ (front (is_declared c d) (list_all (is_declared c) more) t) (omega (arith, h))) (declares_emits more rest (back (is_declared c d) (list_all (is_declared c) more) t) (omega (arith, h)))

  plain_value : (y : Expr) (rest : List CodeItem) → IsTrue (is_value c y) → Has 0 (depths y) → E (2048 * W y) rest (code.value_code L c.structs c.locals y rest)
  plain_value y rest t h = w.spent_weight most fs c structs lawful calls (W y) rest _ (value_spends y rest (back (not (is_array (type_of y))) (is_typed c y) t) h)

  first_emits : (first : First) (rest : List CodeItem) → IsTrue (is_first c first) → Has 0 (first_depths first) → E (2048 * first_weight c.structs first) rest (code.first_code L c.structs c.locals first rest)
  first_emits q.Nothing rest t h = m.none most fs c.globals os rest
  first_emits (q.Value y) rest t h = plain_value y rest t h
  first_emits (q.Locals more) rest t h = declares_emits more rest t h

  -- ---- tests of loops

  again_emits : (y : Expr) (rest : List CodeItem) → IsTrue (is_condition c y) → Has 0 (depths y) → E (2048 * W y) rest (code.again_code L c.structs c.locals y rest)
  again_emits y rest t h =
      let over : List CodeItem = Again (register_type (type_of y)) (value_register L 0 (type_of y)) ∷ rest in
      let s = value_spends y over (back (is_scalar (type_of y)) (is_typed c y) t) h in
      record { fits = λ g. s.fits (m.value_there most L 0 (type_of y) (omega (arith, h, own_depth y)), g); cost = omega (arith, s.cost); wide = λ z le r. s.wide z (omega (arith, le)) r }

  test_emits : (condition : Option Expr) (rest : List CodeItem) → IsTrue (is_optional_condition c condition) → Has 0 (optional_depths condition) → E (560 + 2048 * optional_weight c.structs condition) rest (code.test_code L c.structs c.locals condition rest)
  test_emits None rest t h = record { fits = λ g. g; cost = omega arith; wide = λ z le r. r }
  test_emits (Some y) rest t h = m.at_most most fs c.globals os (2048 * W y) _ rest _ (omega arith) (again_emits y rest t (omega (arith, h)))

  after_emits : (step : Option Expr) (rest : List CodeItem) → IsTrue (is_optional_value c step) → Has 0 (optional_depths step) → E (2048 * optional_weight c.structs step) rest (code.after_code L c.structs c.locals step rest)
  after_emits None rest t h = none _ rest
  after_emits (Some y) rest t h =
      valued (W y) 536 _ rest _ _ (omega arith) (value_spends y _ (back (not (is_array (type_of y))) (is_typed c y) t) (omega (arith, h))) (m.start most fs c.globals os rest)

  return_emits : (result : PlainType) (value : Option Expr) (rest : List CodeItem) → IsTrue (is_returned c result value) → Has 0 (optional_depths value) → E (2048 * (1 + optional_weight c.structs value)) rest (code.return_code L c.structs c.locals value rest)
  return_emits result None rest t h = m.at_most most fs c.globals os 48 _ rest _ (omega arith) (m.give most fs c.globals os None rest (omega arith))
  return_emits result (Some y) rest t h =
      let o = triple (is_same_type (type_of y) result) (not (is_void result)) (is_typed c y) t in
      valued (W y) 48 _ rest _ _ (omega arith) (value_spends y _ o.2 (omega (arith, h)))
      (m.give most fs c.globals os _ rest (omega (arith, m.value_there most L 0 (type_of y) (omega (arith, h)))))

  -- ---- loops, by what their parts emit

  while_emits : (j k i : ℕ) (rest test body : List CodeItem) → j + k + 1120 ≤ i → E j rest test → E k (Start ∷ test) body → E i rest (Loop (block_total test) ∷ body)
  while_emits j k i rest test body le a b = record { fits = λ g. b.fits (a.fits g); cost = omega (arith, le, a.cost, b.cost); wide = λ z h r. b.wide z (omega (arith, le, h)) (a.wide z (omega (arith, le, h)) r) }

  do_emits : (j k i : ℕ) (rest test body : List CodeItem) → j + k + 1096 ≤ i → E j rest test → E k (Start ∷ test) body → E i rest (Enter ∷ body)
  do_emits j k i rest test body le a b = record { fits = λ g. b.fits (a.fits g); cost = omega (arith, le, a.cost, b.cost); wide = λ z h r. b.wide z (omega (arith, le, h)) (a.wide z (omega (arith, le, h)) r) }

  for_emits : (h j k i : ℕ) (rest test after body : List CodeItem) → h + j + k + 1120 ≤ i → E h rest test → E j test after → E k (Start ∷ after) body → E i rest (Loop (block_total test) ∷ body)
  for_emits h j k i rest test after body le a b e = record { fits = λ g. e.fits (b.fits (a.fits g)); cost = omega (arith, le, a.cost, b.cost, e.cost); wide = λ z o r. e.wide z (omega (arith, le, o)) (b.wide z (omega (arith, le, o)) (a.wide z (omega (arith, le, o)) r)) }

  -- ---- labels

  label_emits : (ty : PlainType) (label : TLabel) (name : ℕ) (rest : List CodeItem) → Has 0 2 → E (1336 * label_weight label) rest (code.label_code L c.structs c.locals ty label name rest)
  label_emits ty Default name rest h = m.none most fs c.globals os rest
  label_emits ty (Case word) name rest h =
      m.joins most fs c.globals os 144 1192 rest _ _ (m.constant_emits K L 1 ty word _ (omega (arith, h)))
      (m.joins most fs c.globals os 96 1096 rest _ _
      (m.plain most fs c.globals os 96 (n.Compare Equal (register_type ty) (temporary L 1 S32) (value_register L 0 ty) (value_register L 1 ty)) _ (omega arith) refl
      (omega (arith, m.there most L 1 S32 (omega (arith, h)), m.value_there most L 0 ty (omega (arith, h)), m.value_there most L 1 ty (omega (arith, h)))) refl)
      (m.branch_emits most fs c.globals os L IfTrue 1 (Int 4 true) name rest (omega (arith, h))))

  abbrev labels_most : Sections → ℕ
  labels_most no_sections = 0
  labels_most (more_sections label ss sections) = 1336 * label_weight label + labels_most sections

  labels_emits : (ty : PlainType) (brk con : ℕ) (sections : Sections) (behind rest : List CodeItem) → Has 0 2
      → E (labels_most sections) rest (code.labels_code L c.structs c.locals ty (code.switch_targets L c.structs c.locals brk con sections behind) rest)
  labels_emits ty brk con no_sections behind rest h = m.none most fs c.globals os rest
  labels_emits ty brk con (more_sections label ss sections) behind rest h =
      m.joins most fs c.globals os (1336 * label_weight label) (labels_most sections) rest _ _ (label_emits ty label _ _ h) (labels_emits ty brk con sections behind rest h)

  abbrev bodies_most : Sections → ℕ
  bodies_most no_sections = 0
  bodies_most (more_sections label ss sections) = 536 + (2048 * stmts_weight c.structs ss + bodies_most sections)

  sections_paid : (sections : Sections) → labels_most sections + bodies_most sections ≤ 2048 * sections_weight c.structs sections + 536 * defaults sections
  unfolding stmt_weight
  sections_paid no_sections = omega arith
  sections_paid (more_sections (Case word) ss sections) = omega (arith, sections_paid sections)
  sections_paid (more_sections Default ss sections) = omega (arith, sections_paid sections)

  -- ---- statements

  if_emits : (j k i : ℕ) (rest : List CodeItem) (y : Expr) (over body : List CodeItem) (name : ℕ) → 2048 * W y + 1096 + j + k ≤ i + 1600 → IsTrue (is_condition c y) → Has 0 (depths y) → E j rest over → E k over body
      → E i rest (code.value_code L c.structs c.locals y (x.branch_by_value_code L IfFalse 0 (type_of y) name body))
  if_emits j k i rest y over body name le t h a b =
      let s = value_spends y (x.branch_by_value_code L IfFalse 0 (type_of y) name body) (back (is_scalar (type_of y)) (is_typed c y) t) h in
      let g = m.branch_emits most fs c.globals os L IfFalse 0 (type_of y) name body (omega (arith, h, own_depth y)) in
      record { fits = λ z. s.fits (g.fits (b.fits (a.fits z))); cost = omega (arith, le, s.cost, g.cost, b.cost, a.cost); wide = λ z o r. s.wide z (omega (arith, le, o)) (g.wide z (omega (arith, le, o, s.some)) (b.wide z (omega (arith, le, o, s.some)) (a.wide z (omega (arith, le, o, s.some)) r))) }

  switch_emits : (i : ℕ) (rest : List CodeItem) (y : Expr) (sections : Sections) (con name : ℕ) (bodies : List CodeItem) → 2048 * W y + labels_most sections + 560 + bodies_most sections + 536 ≤ i + 1600
      → IsTrue (is_typed c y) → Has 0 2 → Has 0 (depths y) → E (bodies_most sections) (Start ∷ rest) bodies
      → E i rest (code.value_code L c.structs c.locals y (code.labels_code L c.structs c.locals (type_of y) (code.switch_targets L c.structs c.locals (block_total rest) con sections (Start ∷ rest)) (Jump name ∷ bodies)))
  switch_emits i rest y sections con name bodies le t low h e =
      let over : List CodeItem = Jump name ∷ bodies in
      let targets = code.switch_targets L c.structs c.locals (block_total rest) con sections (Start ∷ rest) in
      let s = value_spends y (code.labels_code L c.structs c.locals (type_of y) targets over) t h in
      let g = labels_emits (type_of y) (block_total rest) con sections (Start ∷ rest) over low in
      record { fits = λ z. s.fits (g.fits (e.fits z)); cost = omega (arith, le, s.cost, g.cost, e.cost); wide = λ z o r. s.wide z (omega (arith, le, o)) (g.wide z (omega (arith, le, o, s.some)) (e.wide z (omega (arith, le, o, s.some)) r)) }

  module _ (result : PlainType) where
    abbrev O : Option Expr → ℕ
    O y = optional_weight c.structs y

    mutual
      unfolding stmt_weight

      pub stmt_emits : (jumps : Jumps) (brk con : ℕ) (s : Stmt) (rest : List CodeItem) → IsTrue (is_typed_stmt c result jumps s) → Has 0 (stmt_depths s)
          → E (2048 * stmt_weight c.structs s) rest (code.stmt_code L c.structs c.locals brk con s rest)
      stmt_emits jumps brk con (q.Block ss) rest t h = m.at_most most fs c.globals os (2048 * stmts_weight c.structs ss) _ rest _ (omega arith) (stmts_emits jumps brk con ss rest t h)
      stmt_emits jumps brk con (q.If y s no_else) rest t h =
          let o = triple (is_condition c y) (is_typed_stmt c result jumps s) (is_typed_else c result jumps no_else) t in
          if_emits 536 (2048 * stmt_weight c.structs s) _ rest y (Start ∷ rest) _ (block_total rest) (omega arith) o.0 (omega (arith, h)) (m.start most fs c.globals os rest)
          (stmt_emits jumps brk con s (Start ∷ rest) o.1 (omega (arith, h)))
      stmt_emits jumps brk con (q.If y s (else_stmt z)) rest t h =
          let o = triple (is_condition c y) (is_typed_stmt c result jumps s) (is_typed_else c result jumps (else_stmt z)) t in
          let fails : List CodeItem = code.stmt_code L c.structs c.locals brk con z (Start ∷ rest) in
          let e : E (2048 * stmt_weight c.structs z) (Start ∷ rest) fails = stmt_emits jumps brk con z (Start ∷ rest) o.2 (omega (arith, h)) in
          let over : List CodeItem = Jump (block_total rest) ∷ fails in
          let g : E (1096 + 2048 * stmt_weight c.structs z) rest over = record { fits = λ y. e.fits y; cost = omega (arith, e.cost); wide = λ k le r. e.wide k (omega (arith, le)) r } in
          if_emits (1096 + 2048 * stmt_weight c.structs z) (2048 * stmt_weight c.structs s) _ rest y over _ (block_total fails) (omega arith) o.0 (omega (arith, h)) g
          (stmt_emits jumps brk con s over o.1 (omega (arith, h)))
      stmt_emits jumps brk con (q.While y s) rest t h =
          let o = pair (is_condition c y) (is_typed_stmt c result in_loop s) t in
          let test : List CodeItem = code.again_code L c.structs c.locals y rest in
          while_emits (2048 * W y) (2048 * stmt_weight c.structs s) _ rest test _ (omega arith) (again_emits y rest o.0 (omega (arith, h)))
          (stmt_emits in_loop (block_total rest) (block_total test) s (Start ∷ test) o.1 (omega (arith, h)))
      stmt_emits jumps brk con (q.Do s y) rest t h =
          let o = pair (is_condition c y) (is_typed_stmt c result in_loop s) t in
          let test : List CodeItem = code.again_code L c.structs c.locals y rest in
          do_emits (2048 * W y) (2048 * stmt_weight c.structs s) _ rest test _ (omega arith) (again_emits y rest o.0 (omega (arith, h)))
          (stmt_emits in_loop (block_total rest) (block_total test) s (Start ∷ test) o.1 (omega (arith, h)))
      stmt_emits jumps brk con (q.For first condition step s) rest t h =
          let o = four (is_first c first) (is_optional_condition c condition) (is_optional_value c step) (is_typed_stmt c result in_loop s) t in
          let test : List CodeItem = code.test_code L c.structs c.locals condition rest in
          let after : List CodeItem = code.after_code L c.structs c.locals step test in
          next (2048 * first_weight c.structs first) (560 + 2048 * O condition + 2048 * O step + 2048 * stmt_weight c.structs s + 1120) _ rest _ _ (omega arith)
          (first_emits first _ o.0 (omega (arith, h)))
          (for_emits (560 + 2048 * O condition) (2048 * O step) (2048 * stmt_weight c.structs s) _ rest test after _ (omega arith) (test_emits condition rest o.1 (omega (arith, h))) (after_emits step test o.2 (omega (arith, h)))
          (stmt_emits in_loop (block_total rest) (block_total after) s (Start ∷ after) o.3 (omega (arith, h))))
      stmt_emits jumps brk con (q.Switch y sections) rest t h =
          let o = four (is_promoted (type_of y)) (are_labels (integer_of (type_of y)) sections) (is_typed c y) (are_typed_sections c result (in_switch jumps) sections) t in
          let bodies : List CodeItem = code.sections_code L c.structs c.locals (block_total rest) con sections (Start ∷ rest) in
          let targets : List Target = code.switch_targets L c.structs c.locals (block_total rest) con sections (Start ∷ rest) in
          switch_emits _ rest y sections con (code.default_name (block_total rest) targets) bodies (omega (arith, sections_paid sections, one_default (integer_of (type_of y)) sections o.1)) o.2 (omega (arith, h)) (omega (arith, h))
          (sections_emits (in_switch jumps) (block_total rest) con sections (Start ∷ rest) o.3 (omega (arith, h)))
      stmt_emits jumps brk con q.Break rest t h = m.at_most most fs c.globals os 560 _ rest _ (omega arith) (m.jump most fs c.globals os brk rest)
      stmt_emits jumps brk con q.Continue rest t h = m.at_most most fs c.globals os 560 _ rest _ (omega arith) (m.jump most fs c.globals os con rest)
      stmt_emits jumps brk con (q.Return y) rest t h = return_emits result y rest t h
      stmt_emits jumps brk con (q.Expression y) rest t h = m.at_most most fs c.globals os (2048 * W y) _ rest _ (omega arith) (plain_value y rest t h)
      stmt_emits jumps brk con q.Empty rest t h = none _ rest
      stmt_emits jumps brk con (q.Declare d) rest t h = declare_emits d rest t h

      stmts_emits : (jumps : Jumps) (brk con : ℕ) (ss : Stmts) (rest : List CodeItem) → IsTrue (are_typed_stmts c result jumps ss) → Has 0 (stmts_depths ss)
          → E (2048 * stmts_weight c.structs ss) rest (code.stmts_code L c.structs c.locals brk con ss rest)
      stmts_emits jumps brk con no_stmts rest t h = none _ rest
      stmts_emits jumps brk con (more_stmts s ss) rest t h =
          let o = pair (is_typed_stmt c result jumps s) (are_typed_stmts c result jumps ss) t in
          next (2048 * stmt_weight c.structs s) (2048 * stmts_weight c.structs ss) _ rest _ _ (omega arith) (stmt_emits jumps brk con s _ o.0 (omega (arith, h))) (stmts_emits jumps brk con ss rest o.1 (omega (arith, h)))

      sections_emits : (jumps : Jumps) (brk con : ℕ) (sections : Sections) (rest : List CodeItem) → IsTrue (are_typed_sections c result jumps sections) → Has 0 (sections_depths sections)
          → E (bodies_most sections) rest (code.sections_code L c.structs c.locals brk con sections rest)
      sections_emits jumps brk con no_sections rest t h = m.none most fs c.globals os rest
      sections_emits jumps brk con (more_sections label ss sections) rest t h =
          let o = pair (are_typed_stmts c result jumps ss) (are_typed_sections c result jumps sections) t in
          let a = stmts_emits jumps brk con ss (code.sections_code L c.structs c.locals brk con sections rest) o.0 (omega (arith, h)) in
          let b = sections_emits jumps brk con sections rest o.1 (omega (arith, h)) in
          record { fits = λ z. a.fits (b.fits z); cost = omega (arith, a.cost, b.cost); wide = λ z le r. a.wide z (omega (arith, le)) (b.wide z (omega (arith, le)) r) }

  -- ---- parameters

  parameters_emit : (j : ℕ) (more : List Local) → ((i : ℕ) (l : Local) → slice_get more i ≡ Some l → slice_get c.locals (j + i) ≡ Some l) → (rest : List CodeItem) → Has 0 1
      → E (216 * length more) rest (f.parameters_code L c.structs c.locals j more rest)
  parameters_emit j [] at rest h = m.none most fs c.globals os rest
  parameters_emit j (l ∷ more) at rest h =
      next 216 (216 * length more) (216 * suc (length more)) rest _ _ (omega arith) (by l.in_memory refl)
      (parameters_emit (suc j) more (λ i y e. ap (λ k. slice_get c.locals k) (shift i) ∙ at (suc i) y e) rest h)
    where
      shift : (i : ℕ) → suc j + i ≡ j + suc i
      shift i = omega arith

      here : slice_get c.locals j ≡ Some l
      here = ap (λ k. slice_get c.locals k) (zero_more j) ∙ at 0 l refl
        where
          zero_more : (j : ℕ) → j ≡ j + 0
          zero_more j = omega arith

      by : (memory : Bool) → l.in_memory ≡ memory → E 216 (f.parameters_code L c.structs c.locals (suc j) more rest) (if memory
          then x.address_code L 0 (p.Local (object_index c.locals j)) 0 (x.store_code (type_view l.ty) (address_register L 0) 0 j (f.parameters_code L c.structs c.locals (suc j) more rest))
          else f.parameters_code L c.structs c.locals (suc j) more rest)
      by true e =
          m.joins most fs c.globals os 24 192 _ _ _ (m.address_emits most fs c.globals os L 0 (p.Local (object_index c.locals j)) 0 _ h (local_there c.structs c.locals j 0 l here e (omega arith) c.globals))
          (m.store_emits K (type_view l.ty) _ 0 j _ (m.address_there most L 0 h) (omega (arith, slice_get_within c.locals j l here, h)))
      by false e = none 216 _

  pub body_emits : (result : PlainType) (params : ℕ) (s : Stmt) (more : List Local) → ((i : ℕ) (l : Local) → slice_get more i ≡ Some l → slice_get c.locals i ≡ Some l) → length more ≤ params
      → (jumps : Jumps) → IsTrue (is_typed_stmt c result jumps s) → Has 0 (max 1 (stmt_depths s))
      → E (216 * params + 2048 * stmt_weight c.structs s) [] (f.parameters_code L c.structs c.locals 0 more (code.stmt_code L c.structs c.locals 0 0 s []))
  body_emits result params s more at few jumps t h =
      next (216 * length more) (2048 * stmt_weight c.structs s) _ [] _ _ (omega (arith, few)) (parameters_emit 0 more (λ i l e. ap (λ k. slice_get c.locals k) (none_more i) ∙ at i l e) _ (omega (arith, h)))
      (stmt_emits result jumps 0 0 s [] t (omega (arith, h)))
    where
      none_more : (i : ℕ) → 0 + i ≡ i
      none_more i = omega arith
