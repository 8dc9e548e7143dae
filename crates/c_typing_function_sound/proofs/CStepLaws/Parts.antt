-- The parts of statements, and the parameters of functions.
use Rattle.std.proofs.Common.{ℕ, Bool, true, false, ◌&&◌, List, [], ◌∷◌, ◌++◌, Option, Some, None, Ok, Err, is_some, if◌then◌else◌}
use Rattle.bk_arithmetic.specs.declared.integer_type.IntegerType.{IntegerType}
use Rattle.c_tree.specs.declared.expressions.Expr.{Expr}
use Rattle.c_tree.specs.declared.statements.ForFirst.{ForFirst}
use Rattle.c_tree.specs.declared.statements.ForFirst.TheVariants as g
use Rattle.c_tree.specs.declared.statements.Label.{Label}
use Rattle.c_tree.specs.declared.statements.Label.TheVariants as l
use Rattle.c_tree.specs.declared.statements.LocalDeclarator.{LocalDeclarator}
use Rattle.c_tree.specs.declared.types.Parameter.{Parameter}
use Rattle.c_tree.specs.declared.types.TypeNode.{TypeNode}
use Rattle.c_typed_tree.specs.declared.types.CType.{CType}
use Rattle.c_typed_tree.specs.declared.statements.TLabel.TheVariants.{Case, Default}
use Rattle.c_typed_tree.specs.declared.statements.TStmt as t
use Rattle.c_typed_tree.specs.View.{type_view}
use Rattle.c_typed_tree.specs.Typing.{is_array, is_void}
use Rattle.c_typing_rules.specs.declared.c_typing_declared_types.declared.DeclaredType.{DeclaredType}
use Rattle.c_typing_rules.specs.declared.c_typing_declared_types.declared.DeclaredType.TheVariants as d
use Rattle.c_typing_rules.specs.c_typing_declared_types.Declarators.{adjusted_parameter}
use Rattle.c_typing_faults.specs.declared.faults.Kind.TheVariants.{BadType, BadInit, BadReturn, BadLabel, Redeclared}
use Rattle.c_typing_rules.specs.declared.typed.TypedExpression.{TypedExpression}
use Rattle.c_typing_rules.specs.Rulings.{Ruling}
use Rattle.c_typing_constants.specs.c_constant_rules.Values.{label_value}
use Rattle.c_typing_judgements.specs.c_typing_operators.Null.{take_value}
use Rattle.c_typing_scopes.specs.Names.{find}
use Rattle.c_typing_state.specs.declared.notes.Notes.{Notes}
use Rattle.c_typing_state.specs.Checks.{pure, and_then, each, walk, append_part, note_fault}
use Rattle.c_typing_state.specs.Notes.{with_fault}
use Rattle.c_typing_state.specs.Scopes.{stands_here}
use Rattle.c_typing_judgements.specs.Leaves.{leaf}
use Rattle.c_typing_judgements.specs.Types.{JudgementState, parameter_type}
use Rattle.c_typing_expressions.specs.Expressions.{judge}
use Rattle.c_typing_statement_rules.specs.declared.labels.Labels.{Labels}
use Rattle.c_typing_statement_parts.specs.declared.c_typing_local_rules.locals.NewLocal.{NewLocal}
use Rattle.c_typing_statement_rules.specs.Labels.{LabelState, beside_labels, bad_label, operand_type, has_word, with_words, with_default, new_case, case_value, case_label, default_label}
use Rattle.c_typing_statement_parts.specs.c_typing_local_rules.Locals.{BodyState, in_body, local_of_type, with_notes, local_named, local_declared, nameless_local, parameter_named, no_initialiser, initialiser, local_with_value}
use Rattle.c_typing_statement_parts.specs.c_typing_local_rules.Objects.{no_object_type, object_type}
use Rattle.c_typing_statement_rules.specs.Values.{condition_check, switch_check, return_of, bad_return, return_value, return_nothing}
use Rattle.c_typing_struct_bodies.specs.Members.{is_member_type}
use Rattle.c_typing_statements.specs.declared.c_typing_function_bodies.functions.FunctionType.{FunctionType}
use Rattle.c_typing_statement_parts.specs.Parts.{condition_of, operand_of, optional_condition, optional_value, return_statement, judge_type, initialiser_of, local_of, first_of, label_of}
use Rattle.c_typing_statements.specs.c_typing_function_bodies.Functions.{parameters, typed_parameters, declared_parameters}
use Rattle.c_typing_statements.specs.c_typing_function_bodies.Functions as fn
use Rattle.c_typing_expression_sound.specs.c_note_laws.Steps.{NoteSteps}
use Rattle.c_typing_expression_sound.proofs.CNoteLaws.Forms.{ruled_steps, each_adds, both_adds, leaf_adds, within_adds}
use Rattle.c_typing_expression_sound.proofs.CNoteLaws.Walks.{judge_adds, derive_adds}

-- ---- expressions

-- an expression, and a form that is judged of it
pub judged_part : {A : Type 0} (x : Expr) (s : JudgementState) (f : TypedExpression → Notes → Option A × Notes) → ((a : TypedExpression) (n : Notes) → NoteSteps n (f a n).1) → NoteSteps s.1 (each (judge x s).0 f (judge x s).1.1).1
judged_part x s f h = NoteSteps.Follows (judge_adds x s) (each_adds (judge x s).0 f (judge x s).1.1 (λ a. h a (judge x s).1.1))

pub condition_steps : (x : Expr) (s : JudgementState) → NoteSteps s.1 (condition_of x s).1.1
condition_steps x s = judged_part x s condition_check (λ a n. ruled_steps _ n)

pub operand_steps : (x : Expr) (s : JudgementState) → NoteSteps s.1 (operand_of x s).1.1
operand_steps x s = judged_part x s switch_check (λ a n. ruled_steps _ n)

pub optional_condition_steps : (o : Option Expr) (s : JudgementState) → NoteSteps s.1 (optional_condition o s).1.1
optional_condition_steps None s = NoteSteps.Stays
optional_condition_steps (Some x) s = condition_steps x s

pub optional_value_steps : (o : Option Expr) (s : JudgementState) → NoteSteps s.1 (optional_value o s).1.1
optional_value_steps None s = NoteSteps.Stays
optional_value_steps (Some x) s = judge_adds x s

pub nothing_steps : (at : ℕ) (ty : CType) (n : Notes) → NoteSteps n (return_nothing at ty n).1
nothing_steps at ty n = choose (is_void (type_view ty))
  where
    choose : (b : Bool) → NoteSteps n (if b then (Some (t.Return None), n) else bad_return at n).1
    choose true = NoteSteps.Stays
    choose false = NoteSteps.AddsFault at BadReturn

pub return_value_steps : (at : ℕ) (ty : CType) (a : TypedExpression) (n : Notes) → NoteSteps n (return_value at ty a n).1
return_value_steps at ty a n = choose (is_void (type_view ty))
  where
    choose : (b : Bool) → NoteSteps n (if b then bad_return at n else and_then (note_fault (take_value ty a) n) (λ value. pure (return_of value))).1
    choose true = NoteSteps.AddsFault at BadReturn
    choose false = ruled_steps (take_value ty a) n

pub return_steps : (of : Option CType) (at : ℕ) (o : Option Expr) (s : JudgementState) → NoteSteps s.1 (return_statement of at o s).1.1
return_steps of at None s = each_adds of (return_nothing at) s.1 (λ ty. nothing_steps at ty s.1)
return_steps of at (Some x) s =
    let u = (judge x s).1 in
    NoteSteps.Follows (judge_adds x s) (both_adds of (judge x s).0 (return_value at) u.1 (λ ty a. return_value_steps at ty a u.1))

-- ---- locals

pub type_steps : (at : ℕ) (ty : TypeNode) (s : JudgementState) → NoteSteps s.1 (judge_type at ty s).1.1
type_steps at ty s =
    let l = leaf s.0 at ty s.1 in
    NoteSteps.Follows (leaf_adds s.0 at ty s.1) (derive_adds at ty l.0 (s.0, l.1))

pub object_type_steps : (at : ℕ) (ty : DeclaredType) (n : Notes) → NoteSteps n (object_type at ty n).1
object_type_steps at (d.Value ty) n = choose (is_member_type n.structs ty)
  where
    choose : (b : Bool) → NoteSteps n (if b then (Some ty, n) else no_object_type at n).1
    choose true = NoteSteps.Stays
    choose false = NoteSteps.AddsFault at BadType
object_type_steps at (d.Unsized element) n = NoteSteps.AddsFault at BadType
object_type_steps at (d.Function of parameters) n = NoteSteps.AddsFault at BadType

pub named_steps : (at : ℕ) (name : List ℕ) (ty : Option CType) (w : BodyState) → NoteSteps w.1.1 (local_named at name ty w).1.1.1
named_steps at name ty w = choose (stands_here w.1.0 (find name w.1.0.names))
  where
    choose : (b : Bool) → NoteSteps w.1.1 (if b then (None, (w.0, (w.1.0, with_fault at Redeclared w.1.1))) else with_notes w.1.1 (local_of_type name ty (w.0, w.1.0))).1.1.1
    choose true = NoteSteps.AddsFault at Redeclared
    choose false = NoteSteps.Stays

pub local_declared_steps : (at : ℕ) (name : List ℕ) (ty : Option DeclaredType) (w : BodyState) → NoteSteps w.1.1 (local_declared at name ty w).1.1.1
local_declared_steps at name ty w =
    let r = in_body w (each ty (object_type at) w.1.1) in
    NoteSteps.Follows (each_adds ty (object_type at) w.1.1 (λ x. object_type_steps at x w.1.1)) (named_steps at name r.0 r.1)

pub initialiser_steps : (ty : CType) (a : TypedExpression) (n : Notes) → NoteSteps n (initialiser ty a n).1
initialiser_steps ty a n = choose (is_array (type_view ty))
  where
    choose : (b : Bool) → NoteSteps n (if b then no_initialiser a.at n else note_fault (take_value ty a) n).1
    choose true = NoteSteps.AddsFault a.at BadInit
    choose false = ruled_steps (take_value ty a) n

pub initialised_steps : (new : Option NewLocal) (o : Option Expr) (w : BodyState) → NoteSteps w.1.1 (initialiser_of new o w).1.1.1
initialised_steps new None w = NoteSteps.Stays
initialised_steps new (Some x) w =
    let u = (judge x w.1).1 in
    NoteSteps.Follows (judge_adds x w.1) (both_adds new (judge x w.1).0 local_with_value u.1 (λ l a. initialiser_steps l.ty a u.1))

pub local_steps : (d : LocalDeclarator) (w : BodyState) → NoteSteps w.1.1 (local_of d w).1.1.1
local_steps d w =
    let ty = judge_type d.declaration.at d.declaration.ty w.1 in
    let u : BodyState = (w.0, ty.1) in
    let new = local_declared d.declaration.at d.declaration.name ty.0 u in
    NoteSteps.Follows (type_steps d.declaration.at d.declaration.ty w.1)
    (NoteSteps.Follows (local_declared_steps d.declaration.at d.declaration.name ty.0 u) (initialised_steps new.0 d.init new.1))

-- a list of parts
pub walk_steps : {A B : Type 0} (f : A → BodyState → Option B × BodyState) (xs : List A) (found : Option (List B)) (w : BodyState)
    → ((x : A) (u : BodyState) → NoteSteps u.1.1 (f x u).1.1.1) → NoteSteps w.1.1 (walk f xs found w).1.1.1
walk_steps f [] found w h = NoteSteps.Stays
walk_steps f (x ∷ xs) found w h = NoteSteps.Follows (h x w) (walk_steps f xs (append_part found (f x w).0) (f x w).1 h)

pub first_steps : (first : ForFirst) (w : BodyState) → NoteSteps w.1.1 (first_of first w).1.1.1
first_steps g.Nothing w = NoteSteps.Stays
first_steps (g.Value x) w = judge_adds x w.1
first_steps (g.Locals ds) w = walk_steps local_of ds (Some []) w local_steps

-- ---- labels

new_case_steps : (at word : ℕ) (u : LabelState) → NoteSteps u.1 (new_case at word u).1.1
new_case_steps at word u = choose (has_word word u.0.words)
  where
    choose : (b : Bool) → NoteSteps u.1 (if b then beside_labels u.0 (bad_label at u.1) else (Some (Case word), (with_words (u.0.words ++ word ∷ []) u.0, u.1))).1.1
    choose true = NoteSteps.AddsFault at BadLabel
    choose false = NoteSteps.Stays

case_value_steps : (ty : Option IntegerType) (at word : ℕ) (u : LabelState) → NoteSteps u.1 (case_value ty at word u).1.1
case_value_steps None at word u = NoteSteps.Stays
case_value_steps (Some ty) at word u = new_case_steps at word u

case_of_steps : (ty : Option IntegerType) (at : ℕ) (r : Ruling ℕ) (u : LabelState) → NoteSteps u.1 (and_then (beside_labels u.0 (note_fault r u.1)) (λ o. each o (case_value ty at))).1.1
case_of_steps ty at (Ok word) u = case_value_steps ty at word u
case_of_steps ty at (Err f) u = NoteSteps.AddsFault f.at f.kind

pub case_steps : (ty : Option IntegerType) (at : ℕ) (o : Option TypedExpression) (u : LabelState) → NoteSteps u.1 (each o (case_label ty at) u).1.1
case_steps ty at None u = NoteSteps.Stays
case_steps ty at (Some a) u = case_of_steps ty at (label_value (operand_type ty) a) u

default_steps : (at : ℕ) (u : LabelState) → NoteSteps u.1 (default_label at u).1.1
default_steps at u = choose u.0.has_default
  where
    choose : (b : Bool) → NoteSteps u.1 (if b then beside_labels u.0 (bad_label at u.1) else (Some Default, (with_default u.0, u.1))).1.1
    choose true = NoteSteps.AddsFault at BadLabel
    choose false = NoteSteps.Stays

pub label_steps : (ty : Option IntegerType) (x : Label) (w : Labels × JudgementState) → NoteSteps w.1.1 (label_of ty x w).1.1.1
label_steps ty (l.Case at x) w = NoteSteps.Follows (judge_adds x w.1) (case_steps ty at (judge x w.1).0 (w.0, (judge x w.1).1.1))
label_steps ty (l.Default at) w = default_steps at (w.0, w.1.1)

-- ---- parameters

pub parameter_named_steps : (at : ℕ) (name : Option (List ℕ)) (ty : Option CType) (w : BodyState) → NoteSteps w.1.1 (parameter_named at name ty w).1.1.1
parameter_named_steps at None ty w = each_adds ty (nameless_local at) w.1.1 (λ x. NoteSteps.AddsFault at BadType)
parameter_named_steps at (Some name) ty w = named_steps at name ty w

parameter_steps : (p : Parameter) (w : BodyState) → NoteSteps w.1.1 (fn.judge_parameter p w).1.1.1
parameter_steps p w =
    let ty = judge_type p.at p.ty w.1 in
    let r = in_body (w.0, ty.1) (each ty.0 (parameter_type p.at) ty.1.1) in
    NoteSteps.Follows (type_steps p.at p.ty w.1)
    (NoteSteps.Follows (each_adds ty.0 (parameter_type p.at) ty.1.1 (λ x. within_adds p.at (adjusted_parameter x) ty.1.1)) (parameter_named_steps p.at p.name r.0 r.1))

parameters_steps : (ps : List Parameter) (sound : Bool) (w : BodyState) → NoteSteps w.1.1 (parameters ps sound w).1.1.1
parameters_steps [] sound w = NoteSteps.Stays
parameters_steps (p ∷ ps) sound w = let r = fn.judge_parameter p w in NoteSteps.Follows (parameter_steps p w) (parameters_steps ps (sound && is_some r.0) r.1)

pub typed_parameters_steps : (ps : List Parameter) (tys : List CType) (sound : Bool) (w : BodyState) → NoteSteps w.1.1 (typed_parameters ps tys sound w).1.1.1
typed_parameters_steps [] [] sound w = NoteSteps.Stays
typed_parameters_steps [] (ty ∷ tys) sound w = NoteSteps.Stays
typed_parameters_steps (p ∷ ps) [] sound w = NoteSteps.Stays
typed_parameters_steps (p ∷ ps) (ty ∷ tys) sound w =
    let r = parameter_named p.at p.name (Some ty) w in
    NoteSteps.Follows (parameter_named_steps p.at p.name (Some ty) w) (typed_parameters_steps ps tys (sound && is_some r.0) r.1)

pub declared_steps : (of : Option FunctionType) (ps : List Parameter) (w : BodyState) → NoteSteps w.1.1 (declared_parameters of ps w).1.1.1
declared_steps None ps w = parameters_steps ps true w
declared_steps (Some of) ps w = typed_parameters_steps ps of.parameters true w
