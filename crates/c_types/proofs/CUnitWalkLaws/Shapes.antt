-- The type of a declaration of a function gives nothing or a scalar, and takes scalars.
use Rattle.std.proofs.Common.{◌≡◌, ℕ, Bool, true, false, IsTrue, List, [], length, bytes_eq, Option, Some, None, IfSome, refl, subst, if◌then◌else◌}
use Rattle.std.specs.List.{list_all}
use Rattle.std.specs.Option.{option_map}
use Rattle.c_tree.specs.declared.types.TypeNode as t
use Rattle.c_tree.specs.declared.expressions.Expr.TheBlock as k
use Rattle.c_typed_tree.specs.declared.types.CType.{CType}
use Rattle.c_typed_tree.specs.declared.types.CType as ty
use Rattle.c_typed_tree.specs.declared.types.StructDef.{StructDef}
use Rattle.c_typed_tree.specs.Layout.{is_object}
use Rattle.c_typed_tree.specs.Typing.{is_void, is_scalar, most_depth}
use Rattle.c_typed_tree.specs.View.{type_view}
use Rattle.c_typed_tree.specs.model.View.{opens}
use Rattle.c_typing_rules.specs.declared.c_typing_declared_types.declared.DeclaredType.{DeclaredType}
use Rattle.c_typing_rules.specs.declared.c_typing_declared_types.declared.DeclaredType.TheVariants as d
use Rattle.c_typing_rules.specs.c_typing_declared_types.Declarators.{pointer_to, array_of, parameter_value, adjusted_parameter, function_with, function_of}
use Rattle.c_typing_rules.specs.c_typing_declared_types.Depth.{is_deep_at_most}
use Rattle.c_typing_faults.specs.declared.faults.Kind.TheVariants.{BadType, Redeclared}
use Rattle.c_typing_scopes.specs.Names.{find}
use Rattle.c_typing_state.specs.declared.env.Env.{Env}
use Rattle.c_typing_state.specs.declared.meanings.NameMeaning.{NameMeaning}
use Rattle.c_typing_state.specs.declared.meanings.NameMeaning.TheVariants as m
use Rattle.c_typing_state.specs.declared.meanings.Tag.{Tag}
use Rattle.c_typing_state.specs.declared.meanings.Tag.TheVariants as g
use Rattle.c_typing_state.specs.declared.meanings.UntaggedStruct.{UntaggedStruct}
use Rattle.c_typing_state.specs.declared.notes.Notes.{Notes}
use Rattle.c_typing_state.specs.Checks.{each, both_parts, append_part}
use Rattle.c_typing_state.specs.Scopes.{enter, leave, with_meaning, meaning_of, stands_here}
use Rattle.c_typing_judgements.specs.Leaves.{no_type, typedef_type, tag_named, enum_tagged, enum_type, struct_numbered, struct_tagged, struct_at, struct_type, leaf}
use Rattle.c_typing_judgements.specs.Types.{JudgementState, in_env, required_type, pointer, array, function, no_parameter, within_depth, parameter_type, parameter_meaning, declared_parameter, parameter_declared}
use Rattle.c_typing_expressions.specs.Expressions.{derive, judge_length_held, judge_parameter_row}
use Rattle.c_typing_struct_bodies.specs.Enums.{constant_meaning}
use Rattle.c_typing_struct_bodies.specs.Bodies.{TagScope, bodies, declared_type}
use Rattle.c_typing_expression_sound.proofs.CTypeLaws.Truth.{also, either_left, either_right}
use Rattle.c_typing_expression_sound.proofs.CFoundLaws.Forms.{all_append}
use Rattle.c_types.proofs.CFoundUnitLaws.Constants.{Enters, Same, More, behind_leaves, declared_enters}
use Rattle.c_types.specs.c_unit_walk_laws.Shapes.{is_parameter_type, is_result_type, is_shaped, HasShapes}

abbrev IsShaped : Option DeclaredType → Type 0
IsShaped o = IfSome o (λ of. IsTrue (is_shaped of))

-- ---- specifiers

named_shape : (at : ℕ) (o : Option NameMeaning) (n : Notes) → ((of : DeclaredType) → o ≡ Some (m.Typedef of) → IsTrue (is_shaped of)) → IsShaped (typedef_type at o n).0
named_shape at None n h = tt
named_shape at (Some m.Faulty) n h = tt
named_shape at (Some (m.Undefined number)) n h = tt
named_shape at (Some (m.Local number of)) n h = tt
named_shape at (Some (m.Object number of)) n h = tt
named_shape at (Some (m.Constant word)) n h = tt
named_shape at (Some (m.Function callee of tys)) n h = tt
named_shape at (Some (m.Typedef of)) n h = h of refl

tagged_enum_shape : (at : ℕ) (name : List ℕ) (o : Option Tag) (n : Notes) → IsShaped (enum_tagged at name o n).0
tagged_enum_shape at name None n = refl
tagged_enum_shape at name (Some g.Enum) n = refl
tagged_enum_shape at name (Some (g.Struct number)) n = tt

enum_shape : (at : ℕ) (tag : Option (List ℕ)) (n : Notes) → IsShaped (enum_type at tag n).0
enum_shape at None n = refl
enum_shape at (Some name) n = tagged_enum_shape at name (tag_named (find name n.tags)) n

tagged_struct_shape : (at : ℕ) (name : List ℕ) (o : Option Tag) (n : Notes) → IsShaped (struct_tagged at name o n).0
tagged_struct_shape at name None n = refl
tagged_struct_shape at name (Some g.Enum) n = tt
tagged_struct_shape at name (Some (g.Struct number)) n = refl

untagged_shape : (at : ℕ) (o : Option UntaggedStruct) (n : Notes) → IsShaped (struct_at at o n).0
untagged_shape at None n = tt
untagged_shape at (Some last) n = choose _
  where
    choose : (b : Bool) → IsShaped (if b then (struct_numbered last.number, n) else no_type at BadType n).0
    choose true = refl
    choose false = tt

struct_shape : (at : ℕ) (tag : Option (List ℕ)) (n : Notes) → IsShaped (struct_type at tag n).0
struct_shape at None n = untagged_shape at n.untagged n
struct_shape at (Some name) n = tagged_struct_shape at name (tag_named (find name n.tags)) n

leaf_shape : (env : Env) (at : ℕ) (node : t.TypeNode) (n : Notes) → HasShapes env → IsShaped (leaf env at node n).0
unfolding leaf
leaf_shape env at (t.Basic words) n h = refl
leaf_shape env at (t.Named name) n h = named_shape at (meaning_of env name) n (h name)
leaf_shape env at (t.Enum' place tag constants) n h = enum_shape place tag n
leaf_shape env at (t.Struct' place tag members) n h = struct_shape place tag n
leaf_shape env at (t.Pointer' _ (k.more_of-TypeNode x k.end_of-TypeNode)) n h = leaf_shape env at x n h
leaf_shape env at (t.Array' _ (k.more_of-TypeNode x k.end_of-TypeNode) size) n h = leaf_shape env at x n h
leaf_shape env at (t.Takes' _ (k.more_of-TypeNode x k.end_of-TypeNode) _ parameters) n h = leaf_shape env at x n h

-- ---- parameters

abbrev IsParameter : Option CType → Type 0
IsParameter o = IfSome o (λ of. IsTrue (is_parameter_type of))

value_parameter : (of : ty.CType) → IsParameter (parameter_value of)
unfolding opens parameter_value
value_parameter ty.Void = tt
value_parameter (ty.Int n s) = refl
value_parameter (ty.Pointer' _ (ty.more_of-CType x ty.end_of-CType)) = refl
value_parameter (ty.Array' _ (ty.more_of-CType x ty.end_of-CType) n) = refl
value_parameter (ty.Struct number) = tt

pointed_parameter : (of : ty.CType) → IsTrue (is_parameter_type (ty.Pointer of))
unfolding opens
pointed_parameter of = refl

of_parameter : (of : DeclaredType) → IsParameter (adjusted_parameter of)
of_parameter (d.Value x) = value_parameter x
of_parameter (d.Unsized x) = pointed_parameter x
of_parameter (d.Function x xs) = tt

within_parameter : (at : ℕ) (o : Option CType) (n : Notes) → IsParameter o → IsParameter (within_depth at o n).0
within_parameter at None n h = tt
within_parameter at (Some x) n h = choose (is_deep_at_most n.structs most_depth x)
  where
    choose : (b : Bool) → IsParameter (if b then (Some x, n) else no_parameter at BadType n).0
    choose true = h
    choose false = tt

typed_parameter : (at : ℕ) (o : Option DeclaredType) (n : Notes) → IsParameter (each o (parameter_type at) n).0
typed_parameter at None n = tt
typed_parameter at (Some x) n = within_parameter at (adjusted_parameter x) n (of_parameter x)

named_parameter_type : (at : ℕ) (name : Option (List ℕ)) (o : Option CType) (s : JudgementState) → IsParameter o → IsParameter (declared_parameter at name o s).0
named_parameter_type at None o s h = h
named_parameter_type at (Some name) o s h = choose (stands_here s.0 (find name s.0.names))
  where
    choose : (b : Bool) → IsParameter (if b then in_env s.0 (no_parameter at Redeclared s.1) else (o, (with_meaning name (parameter_meaning o) s.0, s.1))).0
    choose true = tt
    choose false = h

one_parameter : (at : ℕ) (name : Option (List ℕ)) (o : Option DeclaredType) (s : JudgementState) → IsParameter (parameter_declared at name o s).0
one_parameter at name o s =
    let r = each o (parameter_type at) s.1 in
    named_parameter_type at name r.0 (s.0, r.1) (typed_parameter at o s.1)

abbrev AreParameters : Option (List CType) → Type 0
AreParameters o = IfSome o (λ xs. IsTrue (list_all is_parameter_type xs))

more_parameters : (found : Option (List CType)) (o : Option CType) → AreParameters found → IsParameter o → AreParameters (append_part found o)
more_parameters None o h g = tt
more_parameters (Some xs) None h g = tt
more_parameters (Some xs) (Some x) h g = all_append is_parameter_type xs x h g

row_parameters : {m : _} (xs : k.Row_of-Parameter m) (found : Option (List CType)) (s : JudgementState) → AreParameters found → AreParameters (judge_parameter_row xs found s).0
unfolding derive
row_parameters k.end_of-Parameter found s h = h
row_parameters (k.more_of-Parameter at name node rest) found s h =
    let l = leaf s.0 at node s.1 in
    let r = derive at node l.0 (s.0, l.1) in
    let named = parameter_declared at name r.0 r.1 in
    row_parameters rest (append_part found named.0) named.1 (more_parameters found named.0 h (one_parameter at name r.0 r.1))

-- ---- declarators

there_shape : (at : ℕ) (o : Option DeclaredType) (n : Notes) → IsShaped o → IsShaped (required_type at o n).0
there_shape at None n h = tt
there_shape at (Some x) n h = h

target_shape : (x : DeclaredType) → IsShaped (pointer_to x)
target_shape (d.Value x) = refl
target_shape (d.Unsized x) = tt
target_shape (d.Function x xs) = tt

pointer_shape : (at : ℕ) (o : Option DeclaredType) (n : Notes) → IsShaped (each o (pointer at) n).0
pointer_shape at None n = tt
pointer_shape at (Some x) n = there_shape at (pointer_to x) n (target_shape x)

element_shape : (ds : List StructDef) (x : DeclaredType) (size : Option ℕ) → IsShaped (array_of ds x size)
element_shape ds (d.Value x) None = choose (is_object ds (type_view x))
  where
    choose : (b : Bool) → IsShaped (if b then Some (d.Unsized x) else None)
    choose true = refl
    choose false = tt
element_shape ds (d.Value x) (Some size) = choose (is_object ds (type_view (ty.Array x size)))
  where
    choose : (b : Bool) → IsShaped (if b then Some (d.Value (ty.Array x size)) else None)
    choose true = refl
    choose false = tt
element_shape ds (d.Unsized x) size = tt
element_shape ds (d.Function x xs) size = tt

array_shape : (at : ℕ) (count : Option (Option ℕ)) (o : Option DeclaredType) (n : Notes) → IsShaped (both_parts count o (array at) n).0
array_shape at None o n = tt
array_shape at (Some count) None n = tt
array_shape at (Some count) (Some x) n = there_shape at (array_of n.structs x count) n (element_shape n.structs x count)

with_shape : (x : CType) (xs : List CType) → IsTrue (list_all is_parameter_type xs) → IsShaped (function_with x xs)
with_shape x xs h = choose (is_void (type_view x)) (is_scalar (type_view x)) refl refl
  where
    choose : (b c : Bool) → is_void (type_view x) ≡ b → is_scalar (type_view x) ≡ c → IsShaped (if b then Some (d.Function x xs) else if c then Some (d.Function x xs) else None)
    choose true c e f = also (is_result_type x) (list_all is_parameter_type xs) (either_left (is_void (type_view x)) (is_scalar (type_view x)) e) h
    choose false true e f = also (is_result_type x) (list_all is_parameter_type xs) (either_right (is_void (type_view x)) (is_scalar (type_view x)) f) h
    choose false false e f = tt

result_shape : (x : DeclaredType) (xs : List CType) → IsTrue (list_all is_parameter_type xs) → IsShaped (function_of x xs)
result_shape (d.Value x) xs h = with_shape x xs h
result_shape (d.Unsized x) xs h = tt
result_shape (d.Function x ys) xs h = tt

function_shape : (at : ℕ) (found : Option (List CType)) (o : Option DeclaredType) (n : Notes) → AreParameters found → IsShaped (both_parts found o (function at) n).0
function_shape at None o n h = tt
function_shape at (Some xs) None n h = tt
function_shape at (Some xs) (Some x) n h = there_shape at (function_of x xs) n (result_shape x xs h)

derive_shape : (at : ℕ) (node : t.TypeNode) (of : Option DeclaredType) (s : JudgementState) → IsShaped of → IsShaped (derive at node of s).0
unfolding derive
derive_shape at (t.Basic words) of s h = h
derive_shape at (t.Named name) of s h = h
derive_shape at (t.Enum' place tag constants) of s h = h
derive_shape at (t.Struct' place tag members) of s h = h
derive_shape at (t.Pointer' _ (k.more_of-TypeNode x k.end_of-TypeNode)) of s h = let r = derive at x of s in pointer_shape at r.0 r.1.1
derive_shape at (t.Array' _ (k.more_of-TypeNode x k.end_of-TypeNode) size) of s h =
    let count = judge_length_held size s in
    let r = derive at x of count.1 in
    array_shape at count.0 r.0 r.1.1
derive_shape at (t.Takes' _ (k.more_of-TypeNode x k.end_of-TypeNode) _ list) of s h =
    let row = judge_parameter_row list (Some []) (enter s.0, s.1) in
    let r = derive at x of (leave s.0.outside row.1.0, row.1.1) in
    function_shape at row.0 r.0 r.1.1 (row_parameters list (Some []) (enter s.0, s.1) refl)

-- ---- constants are no typedef names

pub shapes_after : (name : List ℕ) (x : NameMeaning) (env : Env) → ((of : DeclaredType) → x ≡ m.Typedef of → IsTrue (is_shaped of)) → HasShapes env → HasShapes (with_meaning name x env)
shapes_after name x env f h q of e = choose (bytes_eq q name) e
  where
    own : {a b : NameMeaning} → Some a ≡ Some b → a ≡ b
    own e = cc

    choose : (b : Bool) → option_map (λ r. r.1) (if b then Some (length env.names, x) else find q env.names) ≡ Some (m.Typedef of) → IsTrue (is_shaped of)
    choose true e = f of (own e)
    choose false e = h q of e

constant_shapes : (name : List ℕ) (value : Option ℕ) (env : Env) → HasShapes env → HasShapes (with_meaning name (constant_meaning value) env)
constant_shapes name value env h = shapes_after name (constant_meaning value) env (no_typedef value) h
  where
    no_typedef : (value : Option ℕ) (of : DeclaredType) → constant_meaning value ≡ m.Typedef of → IsTrue (is_shaped of)
    no_typedef None of e = let clash : ⊥ = cc in absurd clash
    no_typedef (Some word) of e = let clash : ⊥ = cc in absurd clash

pub entered_shapes : {a b : Env} → Enters a b → HasShapes a → HasShapes b
entered_shapes Same h = h
entered_shapes (More {mid = mid} name value g free word) h = constant_shapes name value mid (entered_shapes g h)

pub declared_shape : (at : ℕ) (node : t.TypeNode) (s : TagScope) → HasShapes s.1.0 → IsShaped (declared_type at node s).0
declared_shape at node s h =
    let u = bodies node s in
    let l = leaf u.1.0 at node u.1.1 in
    derive_shape at node l.0 (u.1.0, l.1) (leaf_shape u.1.0 at node u.1.1 (entered_shapes (subst (λ (env : Env). Enters s.1.0 env) (behind_leaves at node u) (declared_enters at node s)) h))
