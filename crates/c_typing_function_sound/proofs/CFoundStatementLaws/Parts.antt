-- The parts of statements are found, or something is noted.
use Rattle.std.proofs.Common.{ℕ, Bool, true, false, List, [], ◌∷◌, ◌++◌, length, Option, Some, None, Ok, Err, refl, if◌then◌else◌}
use Rattle.bk_arithmetic.specs.declared.integer_type.IntegerType.{IntegerType}
use Rattle.c_tree.specs.declared.expressions.Expr.{Expr}
use Rattle.c_tree.specs.declared.types.TypeNode.{TypeNode}
use Rattle.c_tree.specs.declared.types.Parameter.{Parameter}
use Rattle.c_tree.specs.declared.statements.LocalDeclarator as tree
use Rattle.c_tree.specs.declared.statements.ForFirst.{ForFirst}
use Rattle.c_tree.specs.declared.statements.ForFirst.TheVariants as g
use Rattle.c_tree.specs.declared.statements.Label.{Label}
use Rattle.c_tree.specs.declared.statements.Label.TheVariants as l
use Rattle.c_typing_scopes.specs.Names.{find}
use Rattle.c_typing_rules.specs.declared.c_typing_declared_types.declared.DeclaredType.{DeclaredType}
use Rattle.c_typing_rules.specs.declared.c_typing_declared_types.declared.DeclaredType.TheVariants as d
use Rattle.c_typing_faults.specs.declared.faults.Kind.TheVariants.{BadType, BadInit, BadLabel, BadJump, BadReturn, Redeclared}
use Rattle.c_typing_rules.specs.declared.typed.TypedExpression.{TypedExpression}
use Rattle.c_typing_rules.specs.Rulings.{Ruling}
use Rattle.c_typed_tree.specs.declared.types.CType.{CType}
use Rattle.c_typed_tree.specs.declared.expressions.TExpr.{TExpr}
use Rattle.c_typed_tree.specs.declared.statements.TStmt.{TStmt}
use Rattle.c_typed_tree.specs.declared.statements.TStmt as s
use Rattle.c_typed_tree.specs.declared.statements.TLabel.{TLabel}
use Rattle.c_typed_tree.specs.declared.statements.TLabel.TheVariants.{Case, Default}
use Rattle.c_typed_tree.specs.Typing.{is_array, is_void}
use Rattle.c_typed_tree.specs.View.{type_view}
use Rattle.c_typing_constants.specs.c_constant_rules.Values.{label_value}
use Rattle.c_typing_judgements.specs.c_typing_operators.Null.{take_value}
use Rattle.c_typing_state.specs.declared.env.Env.{Env}
use Rattle.c_typing_state.specs.declared.meanings.NameMeaning.TheVariants as m
use Rattle.c_typing_state.specs.declared.notes.Notes.{Notes}
use Rattle.c_typing_state.specs.Checks.{and_then, each, both_parts, walk, append_part, note_fault, pure}
use Rattle.c_typing_state.specs.Notes.{with_fault}
use Rattle.c_typing_state.specs.Scopes.{with_meaning, stands_here}
use Rattle.c_typing_judgements.specs.Leaves.{leaf}
use Rattle.c_typing_judgements.specs.Types.{JudgementState, parameter_type}
use Rattle.c_typing_expressions.specs.Expressions.{judge, derive}
use Rattle.c_typing_statement_parts.specs.c_typing_local_rules.Members.{is_member_type}
use Rattle.c_typing_statement_rules.specs.declared.jumps.Jumps.{Jumps}
use Rattle.c_typing_statement_rules.specs.declared.labels.Labels.{Labels}
use Rattle.c_typing_statement_parts.specs.declared.c_typing_local_rules.locals.NewLocal.{NewLocal}
use Rattle.c_typing_statement_parts.specs.c_typing_local_rules.Objects.{no_object_type, object_type}
use Rattle.c_typing_statement_rules.specs.Values.{condition_check, switch_check, full_expression, return_of, bad_return, return_value, return_nothing}
use Rattle.c_typing_statement_rules.specs.Jumps.{bad_jump, break_statement, continue_statement}
use Rattle.c_typing_statement_rules.specs.Labels.{has_word, with_words, with_default, LabelState, beside_labels, bad_label, operand_type, case_value, case_label, default_label}
use Rattle.c_typing_statement_parts.specs.c_typing_local_rules.Locals.{BodyState, with_notes, local_of_type, local_named, nameless_local, parameter_named, parameter_declared, no_initialiser, initialiser, with_initialiser, local_with_value, without_initialiser}
use Rattle.c_typing_statement_parts.specs.Parts.{condition_of, full_value, operand_of, optional_condition, optional_value, return_statement, judge_type, initialiser_of, local_of, first_of, label_of}
use Rattle.c_typing_expression_sound.specs.c_found_laws.Laws.{Tells, IsFound, YieldsFound}
use Rattle.c_typing_expression_sound.proofs.CFoundLaws.Forms.{no_true, tells_none, tells_fault, tells_as, tells_then, tells_both, tells_never, tells_named, ruled_tells, map_found, each_tells, both_tells, each_under, append_found, parameter_type_tells, leaf_tells}
use Rattle.c_typing_expression_sound.proofs.CFoundLaws.Walks.{one_part, judge_tells, derive_tells}

-- a list of parts
module _ {A B S : Type 0} (f : A → S → Option B × S) (state : S → JudgementState) (one : (x : A) (w : S) → Tells (IsFound (f x w).0) (state w) (state (f x w).1)) where
  pub walk_tells : (xs : List A) (found : Option (List B)) (s : JudgementState) (w : S) → Tells (IsFound found) s (state w) → Tells (IsFound (walk f xs found w).0) s (state (walk f xs found w).1)
  walk_tells [] found s w h = h
  walk_tells (x ∷ xs) found s w h = walk_tells xs (append_part found (f x w).0) s (f x w).1 (tells_both s (state w) (state (f x w).1) (append_found found (f x w).0) h (one x w))

-- ---- expressions

pub condition_tells : (x : Expr) (s : JudgementState) → YieldsFound s (condition_of x s)
condition_tells x s = one_part s (judge x s) condition_check (judge_tells x s) (λ env a n. ruled_tells env _ n)

pub value_tells : (x : Expr) (s : JudgementState) → YieldsFound s (full_value x s)
value_tells x s = tells_as s (judge x s).1 (map_found full_expression (judge x s).0) (judge_tells x s)

pub operand_tells : (x : Expr) (s : JudgementState) → YieldsFound s (operand_of x s)
operand_tells x s = one_part s (judge x s) switch_check (judge_tells x s) (λ env a n. ruled_tells env _ n)

pub optional_condition_tells : (x : Option Expr) (s : JudgementState) → YieldsFound s (optional_condition x s)
optional_condition_tells None s = tells_none s refl
optional_condition_tells (Some x) s = tells_as s (condition_of x s).1 (map_found Some (condition_of x s).0) (condition_tells x s)

pub optional_value_tells : (x : Option Expr) (s : JudgementState) → YieldsFound s (optional_value x s)
optional_value_tells None s = tells_none s refl
optional_value_tells (Some x) s = tells_as s (full_value x s).1 (map_found Some (full_value x s).0) (value_tells x s)

-- ---- `return`

nothing_tells : (env : Env) (at : ℕ) (ty : CType) (n : Notes) → Tells (IsFound (return_nothing at ty n).0) (env, n) (env, (return_nothing at ty n).1)
nothing_tells env at ty n = choose (is_void (type_view ty))
  where
    either : Bool → Option TStmt × Notes
    either b = if b then (Some (s.Return None), n) else bad_return at n

    choose : (b : Bool) → Tells (IsFound (either b).0) (env, n) (env, (either b).1)
    choose true = tells_none (env, n) refl
    choose false = tells_fault env at BadReturn n

returned_tells : (env : Env) (at : ℕ) (ty : CType) (a : TypedExpression) (n : Notes) → Tells (IsFound (return_value at ty a n).0) (env, n) (env, (return_value at ty a n).1)
returned_tells env at ty a n = choose (is_void (type_view ty))
  where
    either : Bool → Option TStmt × Notes
    either b = if b then bad_return at n else and_then (note_fault (take_value ty a) n) (λ value. pure (return_of value))

    choose : (b : Bool) → Tells (IsFound (either b).0) (env, n) (env, (either b).1)
    choose true = tells_fault env at BadReturn n
    choose false = tells_as (env, n) (env, (note_fault (take_value ty a) n).1) (map_found (λ e. s.Return (Some e)) (note_fault (take_value ty a) n).0) (ruled_tells env (take_value ty a) n)

pub return_tells : (of : Option CType) (at : ℕ) (x : Option Expr) (s : JudgementState) → Tells (IsFound of → IsFound (return_statement of at x s).0) s (return_statement of at x s).1
return_tells of at None s = each_under s.0 s (IsFound of) of (return_nothing at) s.1 (tells_none s (λ h. h)) (λ ty. nothing_tells s.0 at ty s.1)
return_tells None at (Some x) s = tells_as s (judge x s).1 (λ h k. no_true k) (judge_tells x s)
return_tells (Some ty) at (Some x) s =
    let r = judge x s in
    tells_as s (r.1.0, (both_parts (Some ty) r.0 (return_value at) r.1.1).1) (λ h k. h)
    (both_tells r.1.0 s (Some ty) r.0 (return_value at) r.1.1 (tells_as s r.1 (λ h. (refl, h)) (judge_tells x s)) (λ t a. returned_tells r.1.0 at t a r.1.1))

-- ---- locals

pub type_tells : (at : ℕ) (ty : TypeNode) (s : JudgementState) → YieldsFound s (judge_type at ty s)
type_tells at ty s =
    let l = leaf s.0 at ty s.1 in
    tells_both s (s.0, l.1) (derive at ty l.0 (s.0, l.1)).1 (λ x y. y x) (leaf_tells s.0 at ty s.1) (derive_tells at ty l.0 (s.0, l.1))

object_tells : (env : Env) (at : ℕ) (x : DeclaredType) (n : Notes) → Tells (IsFound (object_type at x n).0) (env, n) (env, (object_type at x n).1)
object_tells env at (d.Value x) n = choose (is_member_type n.structs x)
  where
    either : Bool → Option CType × Notes
    either b = if b then (Some x, n) else no_object_type at n

    choose : (b : Bool) → Tells (IsFound (either b).0) (env, n) (env, (either b).1)
    choose true = tells_none (env, n) refl
    choose false = tells_fault env at BadType n
object_tells env at (d.Unsized x) n = tells_fault env at BadType n
object_tells env at (d.Function x xs) n = tells_fault env at BadType n

abbrev pub FindsIn : {A : Type 0} → JudgementState → Option A × BodyState → Type 0
FindsIn s r = Tells (IsFound r.0) s r.1.1

local_by_type : (name : List ℕ) (o : Option CType) (s : JudgementState) (w : BodyState) → Tells (IsFound o) s w.1 → FindsIn s (with_notes w.1.1 (local_of_type name o (w.0, w.1.0)))
local_by_type name None s w h = record { before = h.before; stays = λ t g. no_true (h.found t g); found = λ t g. no_true (h.found t g) }
local_by_type name (Some ty) s w h = tells_both s w.1 (with_meaning name (m.Local (length w.0) ty) w.1.0, w.1.1) (λ x y. y) h (tells_named name (m.Local (length w.0) ty) w.1 refl refl)

pub local_named_tells : (at : ℕ) (name : List ℕ) (o : Option CType) (s : JudgementState) (w : BodyState) → Tells (IsFound o) s w.1 → FindsIn s (local_named at name o w)
local_named_tells at name o s w h = choose (stands_here w.1.0 (find name w.1.0.names))
  where
    either : Bool → Option NewLocal × BodyState
    either b = if b then (None, (w.0, (w.1.0, with_fault at Redeclared w.1.1))) else with_notes w.1.1 (local_of_type name o (w.0, w.1.0))

    choose : (b : Bool) → FindsIn s (either b)
    choose true = tells_both s w.1 (w.1.0, with_fault at Redeclared w.1.1) (λ x y. y) h (tells_fault w.1.0 at Redeclared w.1.1)
    choose false = local_by_type name o s w h

initialiser_tells : (env : Env) (ty : CType) (a : TypedExpression) (n : Notes) → Tells (IsFound (initialiser ty a n).0) (env, n) (env, (initialiser ty a n).1)
initialiser_tells env ty a n = choose (is_array (type_view ty))
  where
    either : Bool → Option TExpr × Notes
    either b = if b then no_initialiser a.at n else note_fault (take_value ty a) n

    choose : (b : Bool) → Tells (IsFound (either b).0) (env, n) (env, (either b).1)
    choose true = tells_fault env a.at BadInit n
    choose false = ruled_tells env (take_value ty a) n

initialised_tells : (new : Option NewLocal) (x : Option Expr) (s : JudgementState) (w : BodyState) → Tells (IsFound new) s w.1 → FindsIn s (initialiser_of new x w)
initialised_tells new None s w h = tells_as s w.1 (map_found without_initialiser new) h
initialised_tells new (Some x) s w h =
    let r = judge x w.1 in
    both_tells r.1.0 s new r.0 local_with_value r.1.1 (tells_then s w.1 r.1 h (judge_tells x w.1))
    (λ a b. tells_as (r.1.0, r.1.1) (r.1.0, (initialiser a.ty b r.1.1).1) (map_found (with_initialiser a.number) (initialiser a.ty b r.1.1).0) (initialiser_tells r.1.0 a.ty b r.1.1))

pub local_tells : (x : tree.LocalDeclarator) (w : BodyState) → FindsIn w.1 (local_of x w)
local_tells x w =
    let at = x.declaration.at in
    let ty = judge_type at x.declaration.ty w.1 in
    let o = each ty.0 (object_type at) ty.1.1 in
    let u : BodyState = (w.0, (ty.1.0, o.1)) in
    let new = local_named at x.declaration.name o.0 u in
    initialised_tells new.0 x.init w.1 new.1
    (local_named_tells at x.declaration.name o.0 w.1 u (each_tells ty.1.0 w.1 ty.0 (object_type at) ty.1.1 (type_tells at x.declaration.ty w.1) (λ a. object_tells ty.1.0 at a ty.1.1)))

pub first_tells : (p : ForFirst) (w : BodyState) → FindsIn w.1 (first_of p w)
first_tells g.Nothing w = tells_none w.1 refl
first_tells (g.Value x) w = tells_as w.1 (full_value x w.1).1 (map_found _ (full_value x w.1).0) (value_tells x w.1)
first_tells (g.Locals ds) w =
    let r = walk local_of ds (Some []) w in
    tells_as w.1 r.1.1 (map_found _ r.0) (walk_tells local_of (λ (w : BodyState). w.1) local_tells ds (Some []) w.1 w (tells_none w.1 refl))

-- ---- labels

case_tells : (env : Env) (ty : Option IntegerType) (at word : ℕ) (s : LabelState) → Tells (IsFound (case_value ty at word s).0) (env, s.1) (env, (case_value ty at word s).1.1)
case_tells env None at word s = tells_none (env, s.1) refl
case_tells env (Some ty) at word s = choose (has_word word s.0.words)
  where
    either : Bool → Option TLabel × LabelState
    either b = if b then beside_labels s.0 (bad_label at s.1) else (Some (Case word), (with_words (s.0.words ++ word ∷ []) s.0, s.1))

    choose : (b : Bool) → Tells (IsFound (either b).0) (env, s.1) (env, (either b).1.1)
    choose true = tells_fault env at BadLabel s.1
    choose false = tells_none (env, s.1) refl

case_label_tells : (env : Env) (ty : Option IntegerType) (at : ℕ) (a : TypedExpression) (s : LabelState) → Tells (IsFound (case_label ty at a s).0) (env, s.1) (env, (case_label ty at a s).1.1)
case_label_tells env ty at a s = of (label_value (operand_type ty) a)
  where
    by : Ruling ℕ → Option TLabel × LabelState
    by r = and_then (beside_labels s.0 (note_fault r s.1)) (λ v. each v (case_value ty at))

    of : (r : Ruling ℕ) → Tells (IsFound (by r).0) (env, s.1) (env, (by r).1.1)
    of (Ok word) = case_tells env ty at word s
    of (Err f) = tells_fault env f.at f.kind s.1

default_tells : (env : Env) (at : ℕ) (s : LabelState) → Tells (IsFound (default_label at s).0) (env, s.1) (env, (default_label at s).1.1)
default_tells env at s = choose (s.0.has_default)
  where
    either : Bool → Option TLabel × LabelState
    either b = if b then beside_labels s.0 (bad_label at s.1) else (Some Default, (with_default s.0, s.1))

    choose : (b : Bool) → Tells (IsFound (either b).0) (env, s.1) (env, (either b).1.1)
    choose true = tells_fault env at BadLabel s.1
    choose false = tells_none (env, s.1) refl

labelled : (ty : Option IntegerType) (at : ℕ) (o : Option TypedExpression) (s : JudgementState) (env : Env) (u : LabelState) → Tells (IsFound o) s (env, u.1) → Tells (IsFound (each o (case_label ty at) u).0) s (env, (each o (case_label ty at) u).1.1)
labelled ty at None s env u h = tells_never s (env, u.1) h
labelled ty at (Some a) s env u h = tells_both s (env, u.1) (env, (case_label ty at a u).1.1) (λ x y. y) h (case_label_tells env ty at a u)

pub label_tells : (ty : Option IntegerType) (x : Label) (u : Labels × JudgementState) → Tells (IsFound (label_of ty x u).0) u.1 (label_of ty x u).1.1
label_tells ty (l.Case at x) u =
    let r = judge x u.1 in
    labelled ty at r.0 u.1 r.1.0 (u.0, r.1.1) (judge_tells x u.1)
label_tells ty (l.Default at) u = default_tells u.1.0 at (u.0, u.1.1)

-- ---- jumps

module _ (env : Env) (j : Jumps) (at : ℕ) (n : Notes) where
  jump_tells : (x : TStmt) (b : Bool) → (let r : Option TStmt × Notes = if b then (Some x, n) else bad_jump at n in Tells (IsFound r.0) (env, n) (env, r.1))
  jump_tells x true = tells_none (env, n) refl
  jump_tells x false = tells_fault env at BadJump n

  pub break_tells : Tells (IsFound (break_statement j at n).0) (env, n) (env, (break_statement j at n).1)
  break_tells = jump_tells s.Break j.breaks

  pub continue_tells : Tells (IsFound (continue_statement j at n).0) (env, n) (env, (continue_statement j at n).1)
  continue_tells = jump_tells s.Continue j.continues

-- ---- parameters

no_name_tells : (at : ℕ) (o : Option CType) (s : JudgementState) (w : BodyState) → Tells (IsFound o) s w.1 → Tells (IsFound (each o (nameless_local at) w.1.1).0) s (w.1.0, (each o (nameless_local at) w.1.1).1)
no_name_tells at o s w h = each_tells w.1.0 s o (nameless_local at) w.1.1 h (λ x. tells_fault w.1.0 at BadType w.1.1)

pub parameter_named_tells : (at : ℕ) (name : Option (List ℕ)) (o : Option CType) (s : JudgementState) (w : BodyState) → Tells (IsFound o) s w.1 → FindsIn s (parameter_named at name o w)
parameter_named_tells at None o s w h = no_name_tells at o s w h
parameter_named_tells at (Some name) o s w h = local_named_tells at name o s w h

pub parameter_tells : (p : Parameter) (w : BodyState) → (let ty = judge_type p.at p.ty w.1 in FindsIn w.1 (parameter_declared p.at p.name ty.0 (w.0, ty.1)))
parameter_tells p w =
    let ty = judge_type p.at p.ty w.1 in
    let o = each ty.0 (parameter_type p.at) ty.1.1 in
    parameter_named_tells p.at p.name o.0 w.1 (w.0, (ty.1.0, o.1)) (each_tells ty.1.0 w.1 ty.0 (parameter_type p.at) ty.1.1 (type_tells p.at p.ty w.1) (λ a. parameter_type_tells ty.1.0 p.at a ty.1.1))
