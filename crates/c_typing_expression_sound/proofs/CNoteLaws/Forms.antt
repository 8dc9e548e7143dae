-- What each form notes.
use Rattle.std.proofs.Common.{◌==◌, ℕ, nat_le, Bool, true, false, List, [], ◌∷◌, ◌++◌, length, Option, Some, None, Ok, Err, if◌then◌else◌, ◌≡◌, suc, ◌≤◌, ◌&&◌, IsTrue, refl, ap, ◌∙◌, arith, le-leb}
use Rattle.mem_objects.specs.declared.TheConstants.{MOST_DATA}
use Rattle.c_tree.specs.declared.expressions.Expr.TheBlock as k
use Rattle.c_tree.specs.declared.expressions.UnaryOp.{UnaryOp}
use Rattle.c_tree.specs.declared.expressions.UnaryOp.TheVariants as u
use Rattle.c_tree.specs.declared.types.TypeNode as t
use Rattle.c_typed_tree.specs.declared.types.CType.{CType}
use Rattle.c_typed_tree.specs.declared.expressions.Callee.{Callee}
use Rattle.c_typed_tree.specs.declared.expressions.TExpr.{TExpr}
use Rattle.c_typed_tree.specs.Typing.{most_depth}
use Rattle.c_typed_tree.specs.View.{type_view}
use Rattle.c_typing_rules.specs.declared.c_typing_declared_types.declared.DeclaredType.{DeclaredType}
use Rattle.c_typing_rules.specs.c_typing_declared_types.Declarators.{adjusted_parameter}
use Rattle.c_typing_rules.specs.c_typing_declared_types.Depth.{is_declarable, is_deep_at_most}
use Rattle.c_typing_faults.specs.declared.faults.Kind.TheVariants.{BadType, Redeclared, BadOperand, UnknownName, NotFunction}
use Rattle.c_typing_rules.specs.declared.typed.LvalueKind.{LvalueKind}
use Rattle.c_typing_rules.specs.declared.typed.LvalueKind.TheVariants as p
use Rattle.c_typing_rules.specs.declared.typed.TypedExpression.{TypedExpression}
use Rattle.c_typing_rules.specs.Rulings.{Ruling}
use Rattle.c_typing_rules.specs.Conversions.{decay}
use Rattle.c_typing_primary_rules.specs.Primary.{text}
use Rattle.c_typing_primary_rules.specs.Commas.{comma_value}
use Rattle.c_typing_primary_rules.specs.Calls.{count_arguments}
use Rattle.c_typing_judgements.specs.c_typing_operators.Unary.{unary_ruling}
use Rattle.c_typing_judgements.specs.c_typing_operators.Null.{take_value}
use Rattle.c_typing_scopes.specs.Names.{find}
use Rattle.c_typing_state.specs.declared.env.Env.{Env}
use Rattle.c_typing_state.specs.declared.meanings.NameMeaning.{NameMeaning}
use Rattle.c_typing_state.specs.declared.meanings.NameMeaning.TheVariants as m
use Rattle.c_typing_state.specs.declared.meanings.Tag.{Tag}
use Rattle.c_typing_state.specs.declared.meanings.Tag.TheVariants as g
use Rattle.c_typing_state.specs.declared.meanings.UntaggedStruct.{UntaggedStruct}
use Rattle.c_typing_state.specs.declared.notes.Notes.{Notes}
use Rattle.c_typing_state.specs.Checks.{pure, and_then, each, both_parts, append_part, note_fault, fault}
use Rattle.c_typing_state.specs.Notes.{with_address, new_text}
use Rattle.c_typing_state.specs.Scopes.{with_meaning, meaning_of, stands_here}
use Rattle.c_typing_judgements.specs.declared.members.MemberMeaning.{MemberMeaning}
use Rattle.c_typing_judgements.specs.declared.members.MemberMeaning.TheVariants as q
use Rattle.c_typing_judgements.specs.Operators.{taken_by, apply_prefix, choice_of_parts, are_two_or_more, commas_between, commas}
use Rattle.c_typing_judgements.specs.Names.{name_of}
use Rattle.c_typing_judgements.specs.Texts.{join_spellings, spelling_bytes, string_of, string}
use Rattle.c_typing_judgements.specs.Calls.{argument, convert_arguments, call_passing, call_of, call_by_meaning}
use Rattle.c_typing_judgements.specs.Members.{member_of, struct_number, target_number, field_in, field_named, arrow_in, arrow_named}
use Rattle.c_typing_judgements.specs.Leaves.{no_type, typedef_type, tag_named, enum_tagged, enum_type, struct_numbered, struct_tagged, struct_at, struct_type, leaf}
use Rattle.c_typing_judgements.specs.Types.{JudgementState, in_env, required_type, type_named, no_parameter, within_depth, parameter_type, parameter_meaning, declared_parameter, parameter_declared}
use Rattle.c_typing_expression_sound.specs.c_note_laws.Steps.{NoteSteps}
use Rattle.c_typing_expression_sound.specs.c_note_laws.Steps.NoteSteps.{Stays, Follows, AddsFault, AddsUse, ListsAddresses, AddsText, AddsEnum, AddsStruct}

-- ---- what follows what

pub adds_then : (n m o : Notes) → NoteSteps n m → NoteSteps m o → NoteSteps n o
adds_then n m o h g = Follows h g

pub ruled_steps : {A : Type 0} (r : Ruling A) (n : Notes) → NoteSteps n (note_fault r n).1
ruled_steps (Ok a) n = Stays
ruled_steps (Err f) n = AddsFault f.at f.kind

pub each_adds : {A B : Type 0} (o : Option A) (f : A → Notes → Option B × Notes) (n : Notes) → ((a : A) → NoteSteps n (f a n).1) → NoteSteps n (each o f n).1
each_adds None f n h = Stays
each_adds (Some a) f n h = h a

pub both_adds : {A B D : Type 0} (o : Option A) (q : Option B) (f : A → B → Notes → Option D × Notes) (n : Notes) → ((a : A) (b : B) → NoteSteps n (f a b n).1) → NoteSteps n (both_parts o q f n).1
both_adds None q f n h = Stays
both_adds (Some a) None f n h = Stays
both_adds (Some a) (Some b) f n h = h a b

-- ---- operators

address_adds : (stands : LvalueKind) (n : Notes) → NoteSteps n (with_address stands n)
address_adds p.Nowhere n = Stays
address_adds (p.Local number) n = ListsAddresses (n.addressed ++ number ∷ [])
address_adds (p.Global number) n = Stays
address_adds p.Elsewhere n = Stays

taken_adds : (op : UnaryOp) (stands : LvalueKind) (n : Notes) → NoteSteps n (taken_by op stands n)
taken_adds u.Address stands n = address_adds stands n
taken_adds u.Increment stands n = Stays
taken_adds u.Decrement stands n = Stays
taken_adds u.Dereference stands n = Stays
taken_adds u.Plus stands n = Stays
taken_adds u.Minus stands n = Stays
taken_adds u.Invert stands n = Stays
taken_adds u.Not stands n = Stays

pub prefix_adds : (at : ℕ) (op : UnaryOp) (a : TypedExpression) (n : Notes) → NoteSteps n (apply_prefix at op a n).1
prefix_adds at op a n = adds_then n (taken_by op a.place n) (apply_prefix at op a n).1 (taken_adds op a.place n) (ruled_steps (unary_ruling n.structs at op a) (taken_by op a.place n))

pub choice_adds : (at : ℕ) (c a b : Option TypedExpression) (n : Notes) → NoteSteps n (choice_of_parts at c a b n).1
choice_adds at None a b n = Stays
choice_adds at (Some c) None b n = Stays
choice_adds at (Some c) (Some a) None n = Stays
choice_adds at (Some c) (Some a) (Some b) n = ruled_steps _ n

between_adds : (at : ℕ) (l : List TypedExpression) (n : Notes) → NoteSteps n (commas_between at l n).1
between_adds at l n = choose (are_two_or_more l)
  where
    choose : (b : Bool) → NoteSteps n (if b then (Some (comma_value at l), n) else fault at BadOperand n).1
    choose true = Stays
    choose false = AddsFault at BadOperand

pub commas_adds : (at : ℕ) (o : Option (List TypedExpression)) (n : Notes) → NoteSteps n (commas at o n).1
commas_adds at o n = each_adds o (commas_between at) n (λ l. between_adds at l n)

-- ---- names, texts, calls and members

pub name_adds : (at : ℕ) (o : Option NameMeaning) (n : Notes) → NoteSteps n (name_of at o n).1
name_adds at None n = AddsFault at UnknownName
name_adds at (Some m.Faulty) n = Stays
name_adds at (Some (m.Undefined number)) n = AddsUse number at
name_adds at (Some (m.Local number ty)) n = Stays
name_adds at (Some (m.Object number ty)) n = Stays
name_adds at (Some (m.Constant word)) n = Stays
name_adds at (Some (m.Function callee result parameters)) n = AddsFault at BadOperand
name_adds at (Some (m.Typedef ty)) n = AddsFault at BadOperand

text_adds : (at : ℕ) (bytes : List ℕ) (n : Notes) → IsTrue (nat_le 1 (length bytes)) → NoteSteps n (string_of at bytes n).1
text_adds at bytes n some = choose (nat_le (length bytes) MOST_DATA) refl
  where
    choose : (b : Bool) → nat_le (length bytes) MOST_DATA ≡ b → NoteSteps n (if b then and_then (new_text bytes n) (λ number. pure (Some (text at number (length bytes)))) else fault at BadType n).1
    choose true e = AddsText bytes (ap (λ b. b && nat_le (length bytes) MOST_DATA) some ∙ e)
    choose false e = AddsFault at BadType

pub string_adds : (at : ℕ) (spellings : List (List ℕ)) (n : Notes) → NoteSteps n (string at spellings n).1
string_adds at spellings n = text_adds at (spelling_bytes spellings) n (ended (join_spellings spellings))
  where
    longer : (k : ℕ) → 1 ≤ suc k
    longer k = omega arith

    ended : (xs : List ℕ) → IsTrue (nat_le 1 (length (xs ++ 0 ∷ [])))
    ended [] = le-leb 1 1 (longer 0)
    ended (x ∷ xs) = le-leb 1 (suc (length (xs ++ 0 ∷ []))) (longer (length (xs ++ 0 ∷ [])))

arguments_adds : (tys : List CType) (args : List TypedExpression) (found : Option (List TExpr)) (n : Notes) → NoteSteps n (convert_arguments tys args found n).1
arguments_adds [] args found n = Stays
arguments_adds (ty ∷ tys) [] found n = Stays
arguments_adds (ty ∷ tys) (a ∷ args) found n =
    let r = argument ty a n in
    adds_then n r.1 (convert_arguments tys args (append_part found r.0) r.1).1 (ruled_steps (take_value ty a) n) (arguments_adds tys args (append_part found r.0) r.1)

call_of_adds : (at : ℕ) (callee : Callee) (ty : CType) (tys : List CType) (args : List TypedExpression) (n : Notes) → NoteSteps n (call_of at callee ty tys args n).1
call_of_adds at callee ty tys args n = of (count_arguments at tys args)
  where
    of : (r : Ruling (List TypedExpression)) → NoteSteps n (and_then (note_fault r n) (λ l. each l (call_passing at callee ty tys))).1
    of (Ok l) = arguments_adds tys l (Some []) n
    of (Err f) = AddsFault f.at f.kind

pub call_adds : (at : ℕ) (o : Option NameMeaning) (args : Option (List TypedExpression)) (n : Notes) → NoteSteps n (call_by_meaning at o args n).1
call_adds at None args n = AddsFault at UnknownName
call_adds at (Some m.Faulty) args n = Stays
call_adds at (Some (m.Undefined number)) args n = AddsUse number at
call_adds at (Some (m.Local number ty)) args n = AddsFault at NotFunction
call_adds at (Some (m.Object number ty)) args n = AddsFault at NotFunction
call_adds at (Some (m.Constant word)) args n = AddsFault at NotFunction
call_adds at (Some (m.Function callee result parameters)) args n = each_adds args (call_of at callee result parameters) n (λ l. call_of_adds at callee result parameters l n)
call_adds at (Some (m.Typedef ty)) args n = AddsFault at NotFunction

field_adds_in : (at : ℕ) (a : TypedExpression) (x : MemberMeaning) (n : Notes) → NoteSteps n (field_in at a x n).1
field_adds_in at a q.Nothing n = ruled_steps _ n
field_adds_in at a q.Faulty n = Stays
field_adds_in at a (q.Member found) n = ruled_steps _ n

pub field_adds : (at : ℕ) (name : List ℕ) (a : TypedExpression) (n : Notes) → NoteSteps n (field_named at name a n).1
field_adds at name a n = field_adds_in at a (member_of n (struct_number (type_view a.ty)) name) n

arrow_adds_in : (at : ℕ) (a : TypedExpression) (x : MemberMeaning) (n : Notes) → NoteSteps n (arrow_in at a x n).1
arrow_adds_in at a q.Nothing n = ruled_steps _ n
arrow_adds_in at a q.Faulty n = Stays
arrow_adds_in at a (q.Member found) n = ruled_steps _ n

pub arrow_adds : (at : ℕ) (name : List ℕ) (a : TypedExpression) (n : Notes) → NoteSteps n (arrow_named at name a n).1
arrow_adds at name a n = arrow_adds_in at (decay a) (member_of n (target_number (type_view (decay a).ty)) name) n

-- ---- specifiers

named_adds : (at : ℕ) (o : Option NameMeaning) (n : Notes) → NoteSteps n (typedef_type at o n).1
named_adds at None n = AddsFault at UnknownName
named_adds at (Some m.Faulty) n = Stays
named_adds at (Some (m.Undefined number)) n = AddsFault at BadType
named_adds at (Some (m.Local number x)) n = AddsFault at BadType
named_adds at (Some (m.Object number x)) n = AddsFault at BadType
named_adds at (Some (m.Constant word)) n = AddsFault at BadType
named_adds at (Some (m.Function callee result parameters)) n = AddsFault at BadType
named_adds at (Some (m.Typedef x)) n = Stays

enum_adds_tagged : (at : ℕ) (name : List ℕ) (o : Option Tag) (n : Notes) → NoteSteps n (enum_tagged at name o n).1
enum_adds_tagged at name None n = AddsEnum name
enum_adds_tagged at name (Some g.Enum) n = Stays
enum_adds_tagged at name (Some (g.Struct number)) n = AddsFault at Redeclared

pub enum_adds : (at : ℕ) (tag : Option (List ℕ)) (n : Notes) → NoteSteps n (enum_type at tag n).1
enum_adds at None n = Stays
enum_adds at (Some name) n = enum_adds_tagged at name (tag_named (find name n.tags)) n

struct_adds_tagged : (at : ℕ) (name : List ℕ) (o : Option Tag) (n : Notes) → NoteSteps n (struct_tagged at name o n).1
struct_adds_tagged at name None n = AddsStruct name
struct_adds_tagged at name (Some (g.Struct number)) n = Stays
struct_adds_tagged at name (Some g.Enum) n = AddsFault at Redeclared

struct_adds_at : (at : ℕ) (o : Option UntaggedStruct) (n : Notes) → NoteSteps n (struct_at at o n).1
struct_adds_at at None n = AddsFault at BadType
struct_adds_at at (Some last) n = choose (last.at == at)
  where
    choose : (b : Bool) → NoteSteps n (if b then (struct_numbered last.number, n) else no_type at BadType n).1
    choose true = Stays
    choose false = AddsFault at BadType

pub struct_adds : (at : ℕ) (tag : Option (List ℕ)) (n : Notes) → NoteSteps n (struct_type at tag n).1
struct_adds at None n = struct_adds_at at n.untagged n
struct_adds at (Some name) n = struct_adds_tagged at name (tag_named (find name n.tags)) n

pub leaf_adds : (env : Env) (at : ℕ) (node : t.TypeNode) (n : Notes) → NoteSteps n (leaf env at node n).1
unfolding leaf
leaf_adds env at (t.Basic words) n = Stays
leaf_adds env at (t.Named name) n = named_adds at (meaning_of env name) n
leaf_adds env at (t.Enum' place tag constants) n = enum_adds place tag n
leaf_adds env at (t.Struct' place tag members) n = struct_adds place tag n
leaf_adds env at (t.Pointer' _ (k.more_of-TypeNode x k.end_of-TypeNode)) n = leaf_adds env at x n
leaf_adds env at (t.Array' _ (k.more_of-TypeNode x k.end_of-TypeNode) size) n = leaf_adds env at x n
leaf_adds env at (t.Takes' _ (k.more_of-TypeNode x k.end_of-TypeNode) _ parameters) n = leaf_adds env at x n

-- ---- declarators

pub there_adds : (at : ℕ) (o : Option DeclaredType) (n : Notes) → NoteSteps n (required_type at o n).1
there_adds at None n = AddsFault at BadType
there_adds at (Some x) n = Stays

pub named_type_adds : (at : ℕ) (x : DeclaredType) (n : Notes) → NoteSteps n (type_named at x n).1
named_type_adds at x n = choose (is_declarable n.structs x)
  where
    choose : (b : Bool) → NoteSteps n (if b then (Some x, n) else no_type at BadType n).1
    choose true = Stays
    choose false = AddsFault at BadType

pub within_adds : (at : ℕ) (o : Option CType) (n : Notes) → NoteSteps n (within_depth at o n).1
within_adds at None n = AddsFault at BadType
within_adds at (Some x) n = choose (is_deep_at_most n.structs most_depth x)
  where
    choose : (b : Bool) → NoteSteps n (if b then (Some x, n) else no_parameter at BadType n).1
    choose true = Stays
    choose false = AddsFault at BadType

declared_adds : (at : ℕ) (name : Option (List ℕ)) (o : Option CType) (s : JudgementState) → NoteSteps s.1 (declared_parameter at name o s).1.1
declared_adds at None o s = Stays
declared_adds at (Some name) o s = choose (stands_here s.0 (find name s.0.names))
  where
    choose : (b : Bool) → NoteSteps s.1 (if b then in_env s.0 (no_parameter at Redeclared s.1) else (o, (with_meaning name (parameter_meaning o) s.0, s.1))).1.1
    choose true = AddsFault at Redeclared
    choose false = Stays

pub parameter_adds : (at : ℕ) (name : Option (List ℕ)) (of : Option DeclaredType) (s : JudgementState) → NoteSteps s.1 (parameter_declared at name of s).1.1
parameter_adds at name of s =
    let r = each of (parameter_type at) s.1 in
    adds_then s.1 r.1 (parameter_declared at name of s).1.1 (each_adds of (parameter_type at) s.1 (λ x. within_adds at (adjusted_parameter x) s.1)) (declared_adds at name r.0 (s.0, r.1))
