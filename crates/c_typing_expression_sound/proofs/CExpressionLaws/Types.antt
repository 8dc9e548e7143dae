-- Specifiers and declarators: what they give are types of the context.
use Rattle.std.proofs.Common.{◌≡◌, ℕ, zero, suc, nat_le, ◌==◌, Bool, true, false, IsTrue, List, [], ◌∷◌, ◌++◌, length, slice_get, is_some, bytes_eq, Option, Some, None, IfSome, refl, ap, ◌∙◌, if◌then◌else◌, arith, leb-true, le-leb, option_map}
use Rattle.std.proofs.lemmas.Option.{none-some}
use Rattle.c_tree.specs.declared.types.BasicType.{BasicType}
use Rattle.c_tree.specs.declared.types.BasicType.TheVariants as b
use Rattle.c_tree.specs.declared.types.TypeNode as t
use Rattle.c_tree.specs.declared.expressions.Expr.TheBlock as k
use Rattle.c_typed_tree.specs.declared.types.CType as ty
use Rattle.c_typed_tree.specs.declared.types.StructDef.{StructDef}
use Rattle.c_typed_tree.specs.View.{type_view}
use Rattle.c_typed_tree.specs.model.View.{opens}
use Rattle.c_typed_tree.specs.Layout.{is_complete, is_object}
use Rattle.c_typed_tree.specs.Typing.{Context, is_valid_type, is_void, is_scalar, depth_of, depth_behind}
use Rattle.c_typing_rules.specs.declared.c_typing_declared_types.declared.DeclaredType.{DeclaredType}
use Rattle.c_typing_rules.specs.declared.c_typing_declared_types.declared.DeclaredType.TheVariants as d
use Rattle.c_typing_rules.specs.c_typing_declared_types.Declarators.{array_with, array_without, parameter_value, adjusted_parameter, function_with}
use Rattle.c_typing_rules.specs.c_typing_declared_types.Depth.{is_declarable}
use Rattle.c_typing_faults.specs.declared.faults.Kind.TheVariants.{BadType}
use Rattle.c_typing_scopes.specs.Names.{Entry, find}
use Rattle.c_typing_state.specs.declared.env.Env.{Env}
use Rattle.c_typing_state.specs.declared.meanings.NameMeaning.{NameMeaning}
use Rattle.c_typing_state.specs.declared.meanings.NameMeaning.TheVariants as m
use Rattle.c_typing_state.specs.declared.meanings.Tag.{Tag}
use Rattle.c_typing_state.specs.declared.meanings.Tag.TheVariants as g
use Rattle.c_typing_state.specs.declared.meanings.UntaggedStruct.{UntaggedStruct}
use Rattle.c_typing_state.specs.declared.notes.Notes.{Notes}
use Rattle.c_typing_state.specs.Notes.{with_tag}
use Rattle.c_typing_state.specs.Scopes.{meaning_of}
use Rattle.c_typing_judgements.specs.Leaves.{basic, no_type, typedef_type, tag_named, enum_tagged, enum_type, incomplete_struct, struct_numbered, struct_tagged, struct_at, struct_type, leaf}
use Rattle.c_typing_judgements.specs.Types.{required_type, pointer, array, function, type_named}
use Rattle.c_typing_expression_sound.specs.c_type_laws.Typed.{AreKnown, IsFitType}
use Rattle.c_typing_expression_sound.proofs.CTypeLaws.Truth.{no_true, front, also}
use Rattle.c_typing_expression_sound.proofs.CTypeLaws.Types.{known_object}
use Rattle.c_typing_expression_sound.specs.c_judgement_laws.Covers.{HasStructs, AreTagsIn, IsTagIn, IsUntaggedIn, Knows, Judges}
use Rattle.c_typing_expression_sound.proofs.CJudgementLaws.Notes.{Later, later_itself, found_itself, found_none, found_later, found_fault}
use Rattle.c_typing_expression_sound.proofs.CJudgementLaws.Structs.{behind_within}
use Rattle.c_typing_expression_sound.specs.c_expression_laws.Types.{AreTypes, IsTypeIn, IsTypedefIn, HasTypedefs}

-- what a declarator finds, whatever was taken
abbrev pub IsFoundType : Context → Type 0 → DeclaredType → Type 0
IsFoundType c taken ty = IsTypeIn c ty

-- ---- names

abbrev pub IsTypedefAt : Context → Option NameMeaning → Type 0
IsTypedefAt c None = Unit {0}
IsTypedefAt c (Some meaning) = IsTypedefIn c meaning

typedef_found : (c : Context) (name : List ℕ) (xs : List (Entry NameMeaning)) → HasTypedefs c xs → IsTypedefAt c (option_map (λ r. r.1) (find name xs))
typedef_found c name [] h = tt
typedef_found c name (x ∷ xs) h = of (bytes_eq name x.name) (typedef_found c name xs h.1)
  where
    of : (b : Bool) → IsTypedefAt c (option_map (λ (r : ℕ × NameMeaning). r.1) (find name xs))
        → IsTypedefAt c (option_map (λ (r : ℕ × NameMeaning). r.1) (if b then Some (length xs, x.value) else find name xs))
    of true rest = h.0
    of false rest = rest

abbrev IsTagAt : Context → Option Tag → Type 0
IsTagAt c None = Unit {0}
IsTagAt c (Some tag) = IsTagIn c tag

tag_found : (c : Context) (name : List ℕ) (xs : List (Entry Tag)) → AreTagsIn c xs → IsTagAt c (tag_named (find name xs))
tag_found c name [] h = tt
tag_found c name (x ∷ xs) h = of (bytes_eq name x.name) (tag_found c name xs h.1)
  where
    of : (b : Bool) → IsTagAt c (tag_named (find name xs)) → IsTagAt c (tag_named (if b then Some (length xs, x.value) else find name xs))
    of true rest = h.0
    of false rest = rest

-- ---- structs that are added

appended_get : {A : Type 0} (xs ys : List A) (k : ℕ) (x : A) → slice_get xs k ≡ Some x → slice_get (xs ++ ys) k ≡ Some x
appended_get [] ys k x e = absurd (none-some x e)
appended_get (z ∷ xs) ys zero x e = e
appended_get (z ∷ xs) ys (suc k) x e = appended_get xs ys k x e

structs_front : (c : Context) (ds more : List StructDef) → HasStructs c (ds ++ more) → HasStructs c ds
structs_front c ds more h = record {
  complete = λ k e. of k (slice_get ds k) refl e;
  members = λ k d e f. h.members k d (appended_get ds more k d e) f;
}
  where
    of : (k : ℕ) (o : Option StructDef) → slice_get ds k ≡ o → IsTrue (is_complete o) → slice_get c.structs k ≡ o
    of k None e f = no_true f
    of k (Some d) e f = let same = appended_get ds more k d e in h.complete k (ap is_complete same ∙ f) ∙ same

-- ---- types

basic_type : (c : Context) (words : BasicType) → IsTypeIn c (d.Value (basic words))
unfolding opens
basic_type c b.Void = refl
basic_type c b.Char = refl
basic_type c b.SignedChar = refl
basic_type c b.UnsignedChar = refl
basic_type c b.Short = refl
basic_type c b.UnsignedShort = refl
basic_type c b.Int = refl
basic_type c b.Signed = refl
basic_type c b.Unsigned = refl
basic_type c b.Long = refl
basic_type c b.UnsignedLong = refl

struct_type_in : (c : Context) (number : ℕ) → IsTrue (is_some (slice_get c.structs number)) → IsTypeIn c (d.Value (ty.Struct number))
unfolding opens
struct_type_in c number h = h

pointer_type_in : (c : Context) (x : ty.CType) → IsTrue (is_valid_type c.structs (type_view x)) → IsTrue (is_valid_type c.structs (type_view (ty.Pointer x)))
unfolding opens
pointer_type_in c x h = h

array_type_in : (c : Context) (x : ty.CType) (n : ℕ) → IsTrue (is_valid_type c.structs (type_view x)) → IsTrue (is_object c.structs (type_view (ty.Array x n))) → IsTrue (is_valid_type c.structs (type_view (ty.Array x n)))
unfolding opens
array_type_in c x n h o = also (is_valid_type c.structs (type_view x)) (is_object c.structs (type_view (ty.Array x n))) h o

parameter_type_in : (c : Context) (x : ty.CType) → IsTrue (is_valid_type c.structs (type_view x)) → IfSome (parameter_value x) (λ z. IsTrue (is_valid_type c.structs (type_view z)))
unfolding opens parameter_value
parameter_type_in c ty.Void h = tt
parameter_type_in c (ty.Int n s) h = h
parameter_type_in c (ty.Pointer' _ (ty.more_of-CType x ty.end_of-CType)) h = h
parameter_type_in c (ty.Array' _ (ty.more_of-CType x ty.end_of-CType) n) h = front (is_valid_type c.structs (type_view x)) _ h
parameter_type_in c (ty.Struct n) h = tt

pub parameter_typed : (c : Context) (of : DeclaredType) → IsTypeIn c of → IfSome (adjusted_parameter of) (λ z. IsTrue (is_valid_type c.structs (type_view z)))
parameter_typed c (d.Value x) h = parameter_type_in c x h
parameter_typed c (d.Unsized x) h = pointer_type_in c x h
parameter_typed c (d.Function x xs) h = tt

-- a type that a type name gives is fit
fit_from : (c : Context) (ds : List StructDef) (of : DeclaredType) → IsTypeIn c of → IsTrue (is_declarable ds of) → IsFitType c of
fit_from c ds (d.Value x) h e =
    let own = type_view x in
    let shallow = leb-true (depth_of ds own) 256 e in
    let behind = behind_within ds own in
    also (is_valid_type c.structs own) (nat_le (depth_behind own) 257) h (le-leb (depth_behind own) 257 (omega arith))
fit_from c ds (d.Unsized x) h e = tt
fit_from c ds (d.Function x xs) h e = tt

module _ (c : Context) (names : Type 0) where
  -- ---- specifiers

  named_found : (at : ℕ) (o : Option NameMeaning) (n : Notes) → (names → IsTypedefAt c o) → Judges c names (IsFoundType c) n (typedef_type at o n)
  named_found at None n h = found_fault c names (IsFoundType c) at _ n
  named_found at (Some m.Faulty) n h = found_none c names (IsFoundType c) n n (later_itself c n)
  named_found at (Some (m.Undefined number)) n h = found_fault c names (IsFoundType c) at _ n
  named_found at (Some (m.Local number x)) n h = found_fault c names (IsFoundType c) at _ n
  named_found at (Some (m.Object number x)) n h = found_fault c names (IsFoundType c) at _ n
  named_found at (Some (m.Constant word)) n h = found_fault c names (IsFoundType c) at _ n
  named_found at (Some (m.Function callee result parameters)) n h = found_fault c names (IsFoundType c) at _ n
  named_found at (Some (m.Typedef x)) n h = found_itself c names (IsFoundType c) n x (λ v k. h v)

  later_tag : (name : List ℕ) (tag : Tag) (n : Notes) → Later c n (with_tag name tag n)
  later_tag name tag n = record {
    first = refl;
    knows = λ k. record { structs_known = k.structs_known; tags_known = k.tags_known.1; untagged_known = k.untagged_known };
    takes = λ t. t;
  }

  enum_found_tagged : (at : ℕ) (name : List ℕ) (o : Option Tag) (n : Notes) → Judges c names (IsFoundType c) n (enum_tagged at name o n)
  enum_found_tagged at name None n =
      found_later c names (IsFoundType c) n (with_tag name g.Enum n) (enum_tagged at name None n) (later_tag name g.Enum n)
      (found_itself c names (IsFoundType c) (with_tag name g.Enum n) _ (λ v k. basic_type c b.Int))
  enum_found_tagged at name (Some g.Enum) n = found_itself c names (IsFoundType c) n _ (λ v k. basic_type c b.Int)
  enum_found_tagged at name (Some (g.Struct number)) n = found_fault c names (IsFoundType c) at _ n

  enum_found : (at : ℕ) (tag : Option (List ℕ)) (n : Notes) → Judges c names (IsFoundType c) n (enum_type at tag n)
  enum_found at None n = found_itself c names (IsFoundType c) n _ (λ v k. basic_type c b.Int)
  enum_found at (Some name) n = enum_found_tagged at name (tag_named (find name n.tags)) n

  struct_found_tagged : (at : ℕ) (name : List ℕ) (o : Option Tag) (n : Notes) → (Knows c n → IsTagAt c o) → Judges c names (IsFoundType c) n (struct_tagged at name o n)
  struct_found_tagged at name None n h = record {
    first = refl;
    knows = λ k. record { structs_known = structs_front c n.structs (incomplete_struct name ∷ []) k.structs_known; tags_known = k.tags_known.1; untagged_known = k.untagged_known };
    takes = λ t. t;
    found = λ v k. struct_type_in c (length n.structs) k.tags_known.0;
  }
  struct_found_tagged at name (Some (g.Struct number)) n h = found_itself c names (IsFoundType c) n (d.Value (ty.Struct number)) (λ v k. struct_type_in c number (h k))
  struct_found_tagged at name (Some g.Enum) n h = found_fault c names (IsFoundType c) at _ n

  struct_found_at : (at : ℕ) (o : Option UntaggedStruct) (n : Notes) → (Knows c n → IsUntaggedIn c o) → Judges c names (IsFoundType c) n (struct_at at o n)
  struct_found_at at None n h = found_fault c names (IsFoundType c) at _ n
  struct_found_at at (Some last) n h = of (last.at == at)
    where
      of : (b : Bool) → Judges c names (IsFoundType c) n (if b then (struct_numbered last.number, n) else no_type at BadType n)
      of true = found_itself c names (IsFoundType c) n (d.Value (ty.Struct last.number)) (λ v k. struct_type_in c last.number (h k))
      of false = found_fault c names (IsFoundType c) at _ n

  struct_found : (at : ℕ) (tag : Option (List ℕ)) (n : Notes) → Judges c names (IsFoundType c) n (struct_type at tag n)
  struct_found at None n = struct_found_at at n.untagged n (λ k. k.untagged_known)
  struct_found at (Some name) n = struct_found_tagged at name (tag_named (find name n.tags)) n (λ k. tag_found c name n.tags k.tags_known)

  pub leaf_found : (env : Env) (at : ℕ) (node : t.TypeNode) (n : Notes) → (names → HasTypedefs c env.names) → Judges c names (IsFoundType c) n (leaf env at node n)
  unfolding leaf
  leaf_found env at (t.Basic words) n h = found_itself c names (IsFoundType c) n (d.Value (basic words)) (λ v k. basic_type c words)
  leaf_found env at (t.Named name) n h = named_found at (meaning_of env name) n (λ v. typedef_found c name env.names (h v))
  leaf_found env at (t.Enum' place tag constants) n h = enum_found place tag n
  leaf_found env at (t.Struct' place tag members) n h = struct_found place tag n
  leaf_found env at (t.Pointer' _ (k.more_of-TypeNode x k.end_of-TypeNode)) n h = leaf_found env at x n h
  leaf_found env at (t.Array' _ (k.more_of-TypeNode x k.end_of-TypeNode) size) n h = leaf_found env at x n h
  leaf_found env at (t.Takes' _ (k.more_of-TypeNode x k.end_of-TypeNode) _ parameters) n h = leaf_found env at x n h

  -- ---- declarators

  there_found : (at : ℕ) (o : Option DeclaredType) (n : Notes) → (names → Knows c n → IfSome o (IsTypeIn c)) → Judges c names (IsFoundType c) n (required_type at o n)
  there_found at None n h = found_fault c names (IsFoundType c) at _ n
  there_found at (Some x) n h = found_itself c names (IsFoundType c) n x h

  pub pointer_found : (at : ℕ) (of : DeclaredType) (n : Notes) → (names → Knows c n → IsTypeIn c of) → Judges c names (IsFoundType c) n (pointer at of n)
  pointer_found at (d.Value x) n h = there_found at (Some (d.Value (ty.Pointer x))) n (λ v k. pointer_type_in c x (h v k))
  pointer_found at (d.Unsized x) n h = there_found at None n (λ v k. tt)
  pointer_found at (d.Function x xs) n h = there_found at None n (λ v k. tt)

  sized : (ds : List StructDef) (x : ty.CType) (size : ℕ) → AreKnown ds c.structs → IsTrue (is_valid_type c.structs (type_view x)) → IfSome (array_with ds x size) (IsTypeIn c)
  sized ds x size known h = of (is_object ds (type_view (ty.Array x size))) refl
    where
      of : (b : Bool) → is_object ds (type_view (ty.Array x size)) ≡ b → IfSome (if b then Some (d.Value (ty.Array x size)) else None) (IsTypeIn c)
      of true e = array_type_in c x size h (known_object ds c.structs known (type_view (ty.Array x size)) e)
      of false e = tt

  unsized : (ds : List StructDef) (x : ty.CType) → IsTrue (is_valid_type c.structs (type_view x)) → IfSome (array_without ds x) (IsTypeIn c)
  unsized ds x h = of (is_object ds (type_view x))
    where
      of : (b : Bool) → IfSome (if b then Some (d.Unsized x) else None) (IsTypeIn c)
      of true = h
      of false = tt

  pub array_found : (at : ℕ) (count : Option ℕ) (of : DeclaredType) (n : Notes) → (names → Knows c n → IsTypeIn c of) → Judges c names (IsFoundType c) n (array at count of n)
  array_found at None (d.Value x) n h = there_found at (array_without n.structs x) n (λ v k. unsized n.structs x (h v k))
  array_found at (Some size) (d.Value x) n h = there_found at (array_with n.structs x size) n (λ v k. sized n.structs x size k.structs_known.complete (h v k))
  array_found at None (d.Unsized x) n h = there_found at None n (λ v k. tt)
  array_found at (Some size) (d.Unsized x) n h = there_found at None n (λ v k. tt)
  array_found at None (d.Function x xs) n h = there_found at None n (λ v k. tt)
  array_found at (Some size) (d.Function x xs) n h = there_found at None n (λ v k. tt)

  function_given : (x : ty.CType) (xs : List ty.CType) → IsTrue (is_valid_type c.structs (type_view x)) → AreTypes c.structs xs → IfSome (function_with x xs) (IsTypeIn c)
  function_given x xs h g = of (is_void (type_view x)) (is_scalar (type_view x))
    where
      of : (a b : Bool) → IfSome (if a then Some (d.Function x xs) else if b then Some (d.Function x xs) else None) (IsTypeIn c)
      of true b = (h, g)
      of false true = (h, g)
      of false false = tt

  pub function_found : (at : ℕ) (xs : List ty.CType) (of : DeclaredType) (n : Notes) → (names → Knows c n → AreTypes c.structs xs) → (names → Knows c n → IsTypeIn c of)
      → Judges c names (IsFoundType c) n (function at xs of n)
  function_found at xs (d.Value x) n g h = there_found at (function_with x xs) n (λ v k. function_given x xs (h v k) (g v k))
  function_found at xs (d.Unsized x) n g h = there_found at None n (λ v k. tt)
  function_found at xs (d.Function x ys) n g h = there_found at None n (λ v k. tt)

  -- a type name gives a type that an expression may have
  pub name_found : (at : ℕ) (of : DeclaredType) (n : Notes) → (names → Knows c n → IsTypeIn c of) → Judges c names (λ taken x. IsFitType c x) n (type_named at of n)
  name_found at of n h = choose (is_declarable n.structs of) refl
    where
      choose : (b : Bool) → is_declarable n.structs of ≡ b → Judges c names (λ taken x. IsFitType c x) n (if b then (Some of, n) else no_type at BadType n)
      choose true e = found_itself c names (λ taken x. IsFitType c x) n of (λ v k. fit_from c n.structs of (h v k) e)
      choose false e = found_fault c names (λ taken x. IsFitType c x) at BadType n
