-- Each form by its parts: operators, names, texts and members.
use Rattle.std.proofs.Common.{◌≡◌, ℕ, nat_le, ◌==◌, ◌+◌, Bool, true, false, if◌then◌else◌, IsTrue, List, [], ◌∷◌, length, slice_get, Option, Some, None, IfOk, IfSome, refl}
use Rattle.bk_arithmetic.specs.declared.integer_type.IntegerType.TheVariants as i
use Rattle.c_tree.specs.declared.expressions.UnaryOp.{UnaryOp}
use Rattle.c_tree.specs.declared.expressions.BinaryOp.{BinaryOp}
use Rattle.c_tree.specs.declared.expressions.AssignOp.{AssignOp}
use Rattle.c_tree.specs.declared.expressions.StepOp.{StepOp}
use Rattle.c_typing_literals.specs.declared.integers.IntegerLiteral.{IntegerLiteral}
use Rattle.c_typing_literals.specs.Integers.{integer_literal}
use Rattle.c_typing_literals.specs.Characters.{character}
use Rattle.mem_objects.specs.declared.DataObject.{DataObject}
use Rattle.mem_objects.specs.declared.TheConstants.{MOST_DATA}
use Rattle.c_typing_faults.specs.declared.faults.Kind.TheVariants.{BadType}
use Rattle.c_typed_tree.specs.declared.types.CType.{CType}
use Rattle.c_typed_tree.specs.declared.types.StructDef.{StructDef}
use Rattle.c_typed_tree.specs.declared.types.Member.{Member}
use Rattle.c_typed_tree.specs.Types.{PlainType, Void, Int, Pointer, Array, Struct}
use Rattle.c_typed_tree.specs.View.{type_view}
use Rattle.c_typed_tree.specs.model.View.{opens}
use Rattle.c_typed_tree.specs.Layout.{is_object, size_of, struct_member}
use Rattle.c_typed_tree.specs.Typing.{Context, is_fit, has_global_type, target_of, depth_behind}
use Rattle.c_typing_rules.specs.declared.c_typing_declared_types.declared.DeclaredType.{DeclaredType}
use Rattle.c_typing_rules.specs.declared.c_typing_declared_types.declared.DeclaredType.TheVariants as d
use Rattle.c_typing_rules.specs.declared.typed.TypedExpression.{TypedExpression}
use Rattle.c_typing_rules.specs.Conversions.{decay}
use Rattle.c_typing_place_rules.specs.Places.{step_behind}
use Rattle.c_typing_place_rules.specs.Members.{field, arrow, size}
use Rattle.c_typing_primary_rules.specs.Commas.{comma_value}
use Rattle.c_typing_primary_rules.specs.Primary.{literal_value, integer_constant, character_value, character_constant, enumeration_constant, local, static_object, text, text_type}
use Rattle.c_typing_judgements.specs.c_typing_operators.Unary.{unary_ruling}
use Rattle.c_typing_judgements.specs.c_typing_operators.Binary.{binary_ruling, subscript, conditional_ruling}
use Rattle.c_typing_judgements.specs.c_typing_operators.Assigned.{assign}
use Rattle.c_typing_judgements.specs.c_typing_operators.Casts.{cast_to, size_of_type}
use Rattle.c_typing_state.specs.declared.meanings.NameMeaning.{NameMeaning}
use Rattle.c_typing_state.specs.declared.meanings.NameMeaning.TheVariants as m
use Rattle.c_typing_state.specs.declared.notes.Notes.{Notes}
use Rattle.c_typing_state.specs.Checks.{pure, and_then, fault, note_fault}
use Rattle.c_typing_state.specs.Notes.{with_use, new_text}
use Rattle.c_typing_judgements.specs.Operators as form
use Rattle.c_typing_judgements.specs.Names.{name_of}
use Rattle.c_typing_judgements.specs.Texts.{spelling_bytes, string}
use Rattle.c_typing_judgements.specs.Members.{struct_number, target_number, member_at, meaning_in, member_of, number_in, field_in, field_named, arrow_in, arrow_named}
use Rattle.c_typing_judgements.specs.declared.members.MemberMeaning.{MemberMeaning}
use Rattle.c_typing_judgements.specs.declared.members.MemberMeaning.TheVariants as w
use Rattle.c_typing_expression_sound.specs.c_type_laws.Typed.{AreTypedIn, IsMemberOf, IsFitType}
use Rattle.c_typing_expression_sound.proofs.CTypeLaws.Truth.{no_true, front, also, given_true}
use Rattle.c_typing_expression_sound.proofs.CTypeLaws.Values.{decay_typed}
use Rattle.c_typing_expression_sound.proofs.CTypeLaws.Places.{step_behind_typed, field_typed, arrow_typed, size_typed, number_typed}
use Rattle.c_typing_expression_sound.proofs.CTypeLaws.Primary.{integer_constant_typed, character_constant_typed, local_typed, object_typed, comma_typed}
use Rattle.c_typing_expression_sound.proofs.CTypeLaws.Operators.{unary_typed, binary_typed, subscript_typed, conditional_typed, assign_typed, cast_to_typed}
use Rattle.c_typing_expression_sound.specs.c_judgement_laws.Covers.{is_whole, IsNameIn, Knows, Takes, IsLawfulContext, IsJudged, AreJudged, Judges}
use Rattle.c_typing_expression_sound.proofs.CJudgementLaws.Whole.{W, V, AreWhole, IsWholeType, integer_whole, decay_whole, unary_whole, binary_whole, subscript_whole, conditional_whole, assign_whole, behind_whole, field_whole, arrow_whole, cast_whole, comma_whole}
use Rattle.c_typing_expression_sound.proofs.CJudgementLaws.Notes.{later_itself, later_use, later_taken, taken_memory, later_text, texts_last, found_itself, found_none, found_later, found_fault, found_ruled, joined_rulings}
use Rattle.c_typing_expression_sound.proofs.CJudgementLaws.Structs.{fit_whole, known_small, member_known}

-- ---- types

-- a type that may be that of an expression is whole
pub fit_type_whole : (c : Context) (ty : DeclaredType) → IsFitType c ty → IsWholeType ty
fit_type_whole c (d.Value ty) h = fit_whole c.structs (type_view ty) h
fit_type_whole c (d.Unsized element) h = tt
fit_type_whole c (d.Function result parameters) h = tt

size_whole : (ds : List StructDef) (at : ℕ) (ty : CType) → IfOk (size ds at ty) V
size_whole ds at ty = given_true V (is_object ds (type_view ty)) _ _ (λ s. integer_whole i.UnsignedLong) (λ s. tt)

size_type_whole : (ds : List StructDef) (at : ℕ) (ty : DeclaredType) → IfOk (size_of_type ds at ty) V
size_type_whole ds at (d.Value ty) = size_whole ds at ty
size_type_whole ds at (d.Unsized element) = tt
size_type_whole ds at (d.Function result parameters) = tt

text_whole : (n : ℕ) → W (text_type n)
unfolding opens
text_whole n = refl

global_object : (ds : List StructDef) (o : Option DataObject) (ty : PlainType) → IsTrue (has_global_type ds o ty) → IsTrue (is_object ds ty)
global_object ds None ty h = no_true h
global_object ds (Some o) ty h = front (is_object ds ty) (size_of ds ty == o.size) h

text_fit : (ds : List StructDef) (n : ℕ) → IsTrue (is_object ds (type_view (text_type n))) → IsTrue (is_fit ds (type_view (text_type n)))
unfolding opens
text_fit ds n h = also (is_object ds (type_view (text_type n))) true h refl

text_depth : (n : ℕ) → IsTrue (nat_le (depth_behind (type_view (text_type n))) 256)
unfolding opens
text_depth n = refl

-- ---- members

abbrev pub IsFoundIn : Context → Notes → (structure : PlainType) → MemberMeaning → Type 0
IsFoundIn c n structure w.Nothing = Unit {0}
IsFoundIn c n structure w.Faulty = Unit {0}
IsFoundIn c n structure (w.Member found) = Knows c n → IsMemberOf c structure found

module _ (c : Context) (lawful : IsLawfulContext c) (names : Type 0) where
  member_in : (n : Notes) (structure number : ℕ) (d : StructDef) (q : Option Member) → slice_get n.structs structure ≡ Some d → slice_get d.members number ≡ q → IsFoundIn c n (Struct structure) (member_at number q)
  member_in n structure number d None e f = tt
  member_in n structure number d (Some x) e f = λ known. member_known c n.structs structure number d x lawful known.structs_known e f

  member_numbered : (n : Notes) (structure number : ℕ) (o : Option StructDef) → slice_get n.structs structure ≡ o → IsFoundIn c n (Struct structure) (member_at number (struct_member o number))
  member_numbered n structure number None e = tt
  member_numbered n structure number (Some d) e = member_in n structure number d (slice_get d.members number) e refl

  member_meant : (n : Notes) (structure : ℕ) (q : Option (Option ℕ)) → IsFoundIn c n (Struct structure) (meaning_in n structure q)
  member_meant n structure None = tt
  member_meant n structure (Some None) = tt
  member_meant n structure (Some (Some number)) = member_numbered n structure number (slice_get n.structs structure) refl

  field_found : (n : Notes) (ty : PlainType) (name : List ℕ) → IsFoundIn c n ty (member_of n (struct_number ty) name)
  field_found n Void name = tt
  field_found n (Int b s) name = tt
  field_found n (Pointer x) name = tt
  field_found n (Array x k) name = tt
  field_found n (Struct structure) name = member_meant n structure (number_in name (slice_get n.members structure))

  arrow_found : (n : Notes) (ty : PlainType) (name : List ℕ) → IsFoundIn c n (target_of ty) (member_of n (target_number ty) name)
  arrow_found n Void name = tt
  arrow_found n (Int b s) name = tt
  arrow_found n (Pointer x) name = field_found n x name
  arrow_found n (Array x k) name = tt
  arrow_found n (Struct structure) name = tt

  -- ---- operators

  pub prefix_judged : (at : ℕ) (op : UnaryOp) (a : TypedExpression) (n : Notes) → (names → Knows c n → IsJudged c (Takes c n) a) → Judges c names (IsJudged c) n (form.apply_prefix at op a n)
  prefix_judged at op a n h =
      let later = later_taken c op a.place n in
      found_later c names (IsJudged c) n (form.taken_by op a.place n) (form.apply_prefix at op a n) later
      (found_ruled c names (IsJudged c) (form.taken_by op a.place n) (unary_ruling n.structs at op a)
      (λ v k. let known = later.knows k in
      joined_rulings c (Takes c (form.taken_by op a.place n)) (unary_ruling n.structs at op a) (unary_whole n.structs at op a (h v known).whole)
      (λ t. unary_typed c n.structs at op a known.structs_known.complete (taken_memory c op a.place n t) ((h v known).typed (later.takes t)))))

  pub between_judged : (at : ℕ) (op : BinaryOp) (a b : TypedExpression) (n : Notes) → (names → Knows c n → IsJudged c (Takes c n) a) → (names → Knows c n → IsJudged c (Takes c n) b)
      → Judges c names (IsJudged c) n (form.binary_check at op a b n)
  between_judged at op a b n h g =
      found_ruled c names (IsJudged c) n (binary_ruling n.structs at op a b)
      (λ v k. joined_rulings c (Takes c n) (binary_ruling n.structs at op a b) (binary_whole n.structs at op a b (h v k).whole (g v k).whole)
      (λ t. binary_typed c n.structs at op a b k.structs_known.complete ((h v k).typed t) ((g v k).typed t)))

  pub assignment_judged : (at : ℕ) (op : AssignOp) (a b : TypedExpression) (n : Notes) → (names → Knows c n → IsJudged c (Takes c n) a) → (names → Knows c n → IsJudged c (Takes c n) b)
      → Judges c names (IsJudged c) n (form.assignment_check at op a b n)
  assignment_judged at op a b n h g =
      found_ruled c names (IsJudged c) n (assign n.structs at op a b)
      (λ v k. joined_rulings c (Takes c n) (assign n.structs at op a b) (assign_whole n.structs at op a b (h v k).whole)
      (λ t. assign_typed c n.structs at op a b k.structs_known.complete ((h v k).typed t) ((g v k).typed t)))

  pub element_judged : (at : ℕ) (a b : TypedExpression) (n : Notes) → (names → Knows c n → IsJudged c (Takes c n) a) → (names → Knows c n → IsJudged c (Takes c n) b)
      → Judges c names (IsJudged c) n (form.subscript_check at a b n)
  element_judged at a b n h g =
      found_ruled c names (IsJudged c) n (subscript n.structs at a b)
      (λ v k. joined_rulings c (Takes c n) (subscript n.structs at a b) (subscript_whole n.structs at a b (h v k).whole (g v k).whole)
      (λ t. subscript_typed c n.structs at a b k.structs_known.complete ((h v k).typed t) ((g v k).typed t)))

  pub choice_judged : (at : ℕ) (q a b : TypedExpression) (n : Notes) → (names → Knows c n → IsJudged c (Takes c n) q) → (names → Knows c n → IsJudged c (Takes c n) a) → (names → Knows c n → IsJudged c (Takes c n) b)
      → Judges c names (IsJudged c) n (form.choice_check at q a b n)
  choice_judged at q a b n f h g =
      found_ruled c names (IsJudged c) n (conditional_ruling at q a b)
      (λ v k. joined_rulings c (Takes c n) (conditional_ruling at q a b) (conditional_whole at q a b (h v k).whole (g v k).whole)
      (λ t. conditional_typed c at q a b ((f v k).typed t) ((h v k).typed t) ((g v k).typed t)))

  pub cast_judged : (at : ℕ) (to : DeclaredType) (a : TypedExpression) (n : Notes) → (names → Knows c n → IsFitType c to) → (names → Knows c n → IsJudged c (Takes c n) a) → Judges c names (IsJudged c) n (form.cast_check at to a n)
  cast_judged at to a n f h =
      found_ruled c names (IsJudged c) n (cast_to at to a)
      (λ v k. joined_rulings c (Takes c n) (cast_to at to a) (cast_whole at to a (fit_type_whole c to (f v k))) (λ t. cast_to_typed c at to a (f v k) ((h v k).typed t)))

  -- the operand is not evaluated, and what it takes need not be there
  pub size_judged : (at : ℕ) (a : TypedExpression) (n : Notes) → (names → Knows c n → IsTrue (is_whole (type_view a.ty))) → Judges c names (IsJudged c) n (form.size_of_value at a n)
  size_judged at a n h =
      found_ruled c names (IsJudged c) n (size n.structs at a.ty)
      (λ v k. joined_rulings c (Takes c n) (size n.structs at a.ty) (size_whole n.structs at a.ty) (λ t. size_typed c n.structs at a.ty (known_small c n.structs a.ty lawful k.structs_known.complete (h v k))))

  pub size_name_judged : (at : ℕ) (ty : DeclaredType) (n : Notes) → (names → Knows c n → IsFitType c ty) → Judges c names (IsJudged c) n (form.size_of_name at ty n)
  size_name_judged at (d.Value ty) n h =
      found_ruled c names (IsJudged c) n (size n.structs at ty)
      (λ v k. joined_rulings c (Takes c n) (size n.structs at ty) (size_whole n.structs at ty) (λ t. size_typed c n.structs at ty (known_small c n.structs ty lawful k.structs_known.complete (fit_whole c.structs (type_view ty) (h v k)))))
  size_name_judged at (d.Unsized element) n h = found_fault c names (IsJudged c) at _ n
  size_name_judged at (d.Function result parameters) n h = found_fault c names (IsJudged c) at _ n

  pub behind_judged : (at : ℕ) (op : StepOp) (a : TypedExpression) (n : Notes) → (names → Knows c n → IsJudged c (Takes c n) a) → Judges c names (IsJudged c) n (form.postfix_check at op a n)
  behind_judged at op a n h =
      found_ruled c names (IsJudged c) n (step_behind n.structs at op a)
      (λ v k. joined_rulings c (Takes c n) (step_behind n.structs at op a) (behind_whole n.structs at op a (h v k).whole) (λ t. step_behind_typed c n.structs at op a k.structs_known.complete ((h v k).typed t)))

  -- ---- commas

  all_whole : (taken : Type 0) (xs : List TypedExpression) → AreJudged c taken xs → AreWhole xs
  all_whole taken [] h = tt
  all_whole taken (a ∷ rest) h = (h.0.whole, all_whole taken rest h.1)

  all_typed : (taken : Type 0) (xs : List TypedExpression) → AreJudged c taken xs → taken → AreTypedIn c xs
  all_typed taken [] h t = tt
  all_typed taken (a ∷ rest) h t = (h.0.typed t, all_typed taken rest h.1 t)

  comma_judged : (at : ℕ) (taken : Type 0) (a b : TypedExpression) (rest : List TypedExpression) → AreJudged c taken (a ∷ b ∷ rest) → IsJudged c taken (comma_value at (a ∷ b ∷ rest))
  comma_judged at taken a b rest h = record {
    whole = comma_whole at (a ∷ b ∷ rest) (all_whole taken (a ∷ b ∷ rest) h);
    typed = λ t. comma_typed c at a b rest (h.0.typed t) (h.1.0.typed t) (all_typed taken rest h.1.1 t);
  }

  pub commas_judged : (at : ℕ) (o : Option (List TypedExpression)) (n : Notes) → (names → Knows c n → IfSome o (AreJudged c (Takes c n))) → Judges c names (IsJudged c) n (form.commas at o n)
  commas_judged at None n h = found_none c names (IsJudged c) n n (later_itself c n)
  commas_judged at (Some []) n h = found_fault c names (IsJudged c) at _ n
  commas_judged at (Some (a ∷ [])) n h = found_fault c names (IsJudged c) at _ n
  commas_judged at (Some (a ∷ b ∷ rest)) n h = found_itself c names (IsJudged c) n (comma_value at (a ∷ b ∷ rest)) (λ v k. comma_judged at (Takes c n) a b rest (h v k))

  -- ---- constants, names and texts

  pub integer_judged : (at : ℕ) (spelling : List ℕ) (n : Notes) → Judges c names (IsJudged c) n (note_fault (integer_constant at spelling) n)
  integer_judged at spelling n =
      found_ruled c names (IsJudged c) n (integer_constant at spelling) (λ v k. joined_rulings c (Takes c n) (integer_constant at spelling) (of (integer_literal spelling)) (λ t. integer_constant_typed c at spelling))
    where
      of : (q : Option IntegerLiteral) → IfOk (literal_value at q) V
      of None = tt
      of (Some l) = integer_whole l.ty

  pub character_judged : (at : ℕ) (spelling : List ℕ) (n : Notes) → Judges c names (IsJudged c) n (note_fault (character_constant at spelling) n)
  character_judged at spelling n =
      found_ruled c names (IsJudged c) n (character_constant at spelling) (λ v k. joined_rulings c (Takes c n) (character_constant at spelling) (of (character spelling)) (λ t. character_constant_typed c at spelling))
    where
      of : (q : Option ℕ) → IfOk (character_value at q) V
      of None = tt
      of (Some word) = integer_whole i.Int

  pub name_judged : (at : ℕ) (o : Option NameMeaning) (n : Notes) → (names → IsNameIn c o) → Judges c names (IsJudged c) n (name_of at o n)
  name_judged at None n h = found_fault c names (IsJudged c) at _ n
  name_judged at (Some m.Faulty) n h = found_none c names (IsJudged c) n n (later_itself c n)
  name_judged at (Some (m.Undefined number)) n h = found_none c names (IsJudged c) n (with_use number at n) (later_use c number at n)
  name_judged at (Some (m.Local number ty)) n h =
      found_itself c names (IsJudged c) n (local at number ty)
      (λ v k. record { whole = fit_whole c.structs (type_view ty) (h v).type.fit; typed = λ t. local_typed c at number ty (h v).named (h v).type.fit (h v).type.depth })
  name_judged at (Some (m.Object number ty)) n h =
      found_itself c names (IsJudged c) n (static_object at number ty)
      (λ v k. record { whole = fit_whole c.structs (type_view ty) (h v).type.fit; typed = λ t. object_typed c at number ty (h v).named (h v).type.fit (h v).type.depth })
  name_judged at (Some (m.Constant word)) n h =
      found_itself c names (IsJudged c) n (enumeration_constant at word) (λ v k. record { whole = integer_whole i.Int; typed = λ t. number_typed c at i.Int word (h v) })
  name_judged at (Some (m.Function callee result parameters)) n h = found_fault c names (IsJudged c) at _ n
  name_judged at (Some (m.Typedef ty)) n h = found_fault c names (IsJudged c) at _ n

  text_judged : (at : ℕ) (bytes : List ℕ) (n : Notes) → Judges c names (IsJudged c) n (and_then (new_text bytes n) (λ number. pure (Some (text at number (length bytes)))))
  text_judged at bytes n =
      let next = (new_text bytes n).1 in
      let number = n.first_text + length n.texts in
      found_later c names (IsJudged c) n next (Some (text at number (length bytes)), next) (later_text c bytes n)
      (found_itself c names (IsJudged c) next (text at number (length bytes))
      (λ v k. record {
        whole = text_whole (length bytes);
        typed = λ t.
            let named = texts_last c n.first_text n.texts bytes t.objects in
            object_typed c at number (text_type (length bytes)) named
            (text_fit c.structs (length bytes) (global_object c.structs (slice_get c.globals number) (type_view (text_type (length bytes))) named)) (text_depth (length bytes));
      }))

  pub string_judged : (at : ℕ) (spellings : List (List ℕ)) (n : Notes) → Judges c names (IsJudged c) n (string at spellings n)
  string_judged at spellings n = choose (nat_le (length (spelling_bytes spellings)) MOST_DATA)
    where
      choose : (b : Bool) → Judges c names (IsJudged c) n (if b then and_then (new_text (spelling_bytes spellings) n) (λ number. pure (Some (text at number (length (spelling_bytes spellings))))) else fault at BadType n)
      choose true = text_judged at (spelling_bytes spellings) n
      choose false = found_fault c names (IsJudged c) at BadType n

  -- ---- members

  field_judged_in : (at : ℕ) (a : TypedExpression) (found : MemberMeaning) (n : Notes) → IsFoundIn c n (type_view a.ty) found → (names → Knows c n → IsJudged c (Takes c n) a) → Judges c names (IsJudged c) n (field_in at a found n)
  field_judged_in at a w.Nothing n f h =
      found_ruled c names (IsJudged c) n (field at a None) (λ v k. joined_rulings c (Takes c n) (field at a None) (field_whole at a None tt) (λ t. field_typed c at a None ((h v k).typed t) tt))
  field_judged_in at a w.Faulty n f h = found_none c names (IsJudged c) n n (later_itself c n)
  field_judged_in at a (w.Member x) n f h =
      found_ruled c names (IsJudged c) n (field at a (Some x))
      (λ v k. joined_rulings c (Takes c n) (field at a (Some x)) (field_whole at a (Some x) (fit_whole c.structs (type_view x.ty) (f k).fit)) (λ t. field_typed c at a (Some x) ((h v k).typed t) (f k)))

  pub field_judged : (at : ℕ) (name : List ℕ) (a : TypedExpression) (n : Notes) → (names → Knows c n → IsJudged c (Takes c n) a) → Judges c names (IsJudged c) n (field_named at name a n)
  field_judged at name a n h = field_judged_in at a (member_of n (struct_number (type_view a.ty)) name) n (field_found n (type_view a.ty) name) h

  arrow_judged_in : (at : ℕ) (a : TypedExpression) (found : MemberMeaning) (n : Notes) → IsFoundIn c n (target_of (type_view a.ty)) found → (names → Knows c n → IsJudged c (Takes c n) a)
      → Judges c names (IsJudged c) n (arrow_in at a found n)
  arrow_judged_in at a w.Nothing n f h =
      found_ruled c names (IsJudged c) n (arrow n.structs at a None)
      (λ v k. joined_rulings c (Takes c n) (arrow n.structs at a None) (arrow_whole n.structs at a None tt) (λ t. arrow_typed c n.structs at a None ((h v k).typed t) tt))
  arrow_judged_in at a w.Faulty n f h = found_none c names (IsJudged c) n n (later_itself c n)
  arrow_judged_in at a (w.Member x) n f h =
      found_ruled c names (IsJudged c) n (arrow n.structs at a (Some x))
      (λ v k. joined_rulings c (Takes c n) (arrow n.structs at a (Some x)) (arrow_whole n.structs at a (Some x) (fit_whole c.structs (type_view x.ty) (f k).fit))
      (λ t. arrow_typed c n.structs at a (Some x) ((h v k).typed t) (f k)))

  pub arrow_judged : (at : ℕ) (name : List ℕ) (a : TypedExpression) (n : Notes) → (names → Knows c n → IsJudged c (Takes c n) a) → Judges c names (IsJudged c) n (arrow_named at name a n)
  arrow_judged at name a n h =
      arrow_judged_in at (decay a) (member_of n (target_number (type_view (decay a).ty)) name) n (arrow_found n (type_view (decay a).ty) name)
      (λ v k. record { whole = decay_whole a (h v k).whole; typed = λ t. (decay_typed c a ((h v k).typed t)).typed })
