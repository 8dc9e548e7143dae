-- Each form finds something of parts that were found, or notes something.
use Rattle.std.proofs.Common.{◌≡◌, ◌==◌, ℕ, zero, suc, nat_le, Bool, true, false, ◌&&◌, IsTrue, List, [], ◌∷◌, ◌++◌, length, drop, ◌-◌, slice_get, Option, Some, None, is_some, Ok, Err, refl, sym, ap, ◌∙◌, subst, bytes_eq, if◌then◌else◌}
use Rattle.std.specs.Option.{option_map}
use Rattle.std.specs.List.{list_all}
use Rattle.mem_objects.specs.declared.TheConstants.{MOST_DATA}
use Rattle.c_tree.specs.declared.expressions.Expr.TheBlock as k
use Rattle.c_tree.specs.declared.expressions.UnaryOp.{UnaryOp}
use Rattle.c_tree.specs.declared.expressions.UnaryOp.TheVariants as u
use Rattle.c_tree.specs.declared.types.TypeNode as t
use Rattle.c_typed_tree.specs.declared.types.CType.{CType}
use Rattle.c_typed_tree.specs.declared.expressions.Callee.{Callee}
use Rattle.c_typed_tree.specs.declared.expressions.TExpr.{TExpr}
use Rattle.c_typed_tree.specs.declared.types.Member.{Member}
use Rattle.c_typed_tree.specs.Layout.{struct_member}
use Rattle.c_typed_tree.specs.Typing.{most_depth}
use Rattle.c_typed_tree.specs.View.{type_view}
use Rattle.c_typing_rules.specs.declared.c_typing_declared_types.declared.DeclaredType.{DeclaredType}
use Rattle.c_typing_rules.specs.c_typing_declared_types.Declarators.{adjusted_parameter}
use Rattle.c_typing_rules.specs.c_typing_declared_types.Depth.{is_declarable, is_deep_at_most}
use Rattle.c_typing_faults.specs.declared.faults.Kind.{Kind}
use Rattle.c_typing_faults.specs.declared.faults.Kind.TheVariants.{BadType, Redeclared, BadOperand, UnknownName, NotFunction}
use Rattle.c_typing_rules.specs.declared.typed.LvalueKind.{LvalueKind}
use Rattle.c_typing_rules.specs.declared.typed.LvalueKind.TheVariants as p
use Rattle.c_typing_rules.specs.declared.typed.TypedExpression.{TypedExpression}
use Rattle.c_typing_rules.specs.Rulings.{Ruling}
use Rattle.c_typing_rules.specs.Conversions.{decay}
use Rattle.c_typing_primary_rules.specs.Primary.{text}
use Rattle.c_typing_primary_rules.specs.Commas.{comma_value}
use Rattle.c_typing_primary_rules.specs.Calls.{count_arguments, call_rvalue}
use Rattle.c_typing_judgements.specs.c_typing_operators.Unary.{unary_ruling}
use Rattle.c_typing_judgements.specs.c_typing_operators.Null.{take_value}
use Rattle.c_typing_scopes.specs.Names.{Entry, find}
use Rattle.c_typing_state.specs.declared.env.Env.{Env}
use Rattle.c_typing_state.specs.declared.meanings.NameMeaning.{NameMeaning}
use Rattle.c_typing_state.specs.declared.meanings.NameMeaning.TheVariants as m
use Rattle.c_typing_state.specs.declared.meanings.Tag.{Tag}
use Rattle.c_typing_state.specs.declared.meanings.Tag.TheVariants as g
use Rattle.c_typing_state.specs.declared.meanings.UntaggedStruct.{UntaggedStruct}
use Rattle.c_typing_state.specs.declared.notes.Notes.{Notes}
use Rattle.c_typing_state.specs.Checks.{pure, and_then, each, both_parts, append_part, note_fault, fault}
use Rattle.c_typing_state.specs.Notes.{with_address, with_fault, with_use, new_text}
use Rattle.c_typing_state.specs.Scopes.{enter, leave, with_meaning, meaning_of, stands_here}
use Rattle.c_typing_judgements.specs.declared.members.MemberMeaning.{MemberMeaning}
use Rattle.c_typing_judgements.specs.declared.members.MemberMeaning.TheVariants as q
use Rattle.c_typing_judgements.specs.Operators.{taken_by, apply_prefix, choice_check, choice_of_parts, are_two_or_more, commas_between, commas}
use Rattle.c_typing_judgements.specs.Names.{name_of}
use Rattle.c_typing_judgements.specs.Texts.{spelling_bytes, string_of, string}
use Rattle.c_typing_judgements.specs.Calls.{argument, convert_arguments, call_passing, call_of, call_by_meaning}
use Rattle.c_typing_judgements.specs.Members.{member_at, number_in, meaning_in, member_of, struct_number, target_number, field_in, field_named, arrow_in, arrow_named}
use Rattle.c_typing_judgements.specs.Leaves.{no_type, typedef_type, tag_named, enum_tagged, enum_type, struct_numbered, struct_tagged, struct_at, struct_type, leaf}
use Rattle.c_typing_judgements.specs.Types.{JudgementState, in_env, required_type, type_named, no_parameter, within_depth, parameter_type, parameter_meaning, declared_parameter, parameter_declared}
use Rattle.c_typing_expression_sound.specs.c_found_laws.Laws.{is_sound, are_sound_names, are_sound_members, NamesAreSound, Tells, IsFound, YieldsFound}

-- ---- truth values and lists

pub no_true : {X : Type 0} → false ≡ true → X
no_true h = let clash : ⊥ = cc in absurd clash

pub front : (a b : Bool) → IsTrue (a && b) → IsTrue a
front true b h = refl
front false b h = no_true h

pub back : (a b : Bool) → IsTrue (a && b) → IsTrue b
back true b h = h
back false b h = no_true h

pub also : (a b : Bool) → IsTrue a → IsTrue b → IsTrue (a && b)
also a b h g = ap (λ x. x && b) h ∙ g

append_is_not : {A X : Type 0} (xs : List A) (x : A) → xs ++ x ∷ [] ≡ [] → X
append_is_not [] x e = let clash : ⊥ = cc in absurd clash
append_is_not (y ∷ ys) x e = let clash : ⊥ = cc in absurd clash

pub all_append : {A : Type 0} (test : A → Bool) (xs : List A) (y : A) → IsTrue (list_all test xs) → IsTrue (test y) → IsTrue (list_all test (xs ++ y ∷ []))
all_append test [] y h g = also (test y) true g refl
all_append test (x ∷ xs) y h g = also (test x) (list_all test (xs ++ y ∷ [])) (front (test x) (list_all test xs) h) (all_append test xs y (back (test x) (list_all test xs) h) g)

-- a test of what there is, if there is something
abbrev pub holds : {A : Type 0} → (A → Bool) → Option A → Bool
holds test None = true
holds test (Some x) = test x

-- ---- what follows what

pub tells_kept : {X : Type 0} (s later : JudgementState) → later.1.faults ≡ s.1.faults → later.1.uses ≡ s.1.uses → later.1.members ≡ s.1.members → later.0.names ≡ s.0.names → X → Tells X s later
tells_kept s later f v w e x = record {
  before = λ t. (sym f ∙ t.0, sym v ∙ t.1);
  stays = λ t h. (subst (λ names. IsTrue (are_sound_names names)) (sym e) h.0, subst (λ tables. IsTrue (list_all are_sound_members tables)) (sym w) h.1);
  found = λ t h. x;
}

pub tells_none : {X : Type 0} (s : JudgementState) → X → Tells X s s
tells_none s x = record { before = λ t. t; stays = λ t h. h; found = λ t h. x }

pub tells_fault : {X : Type 0} (env : Env) (at : ℕ) (kind : Kind) (n : Notes) → Tells X (env, n) (env, with_fault at kind n)
tells_fault env at kind n = record {
  before = λ t. append_is_not n.faults (record { at = at; kind = kind }) t.0;
  stays = λ t h. append_is_not n.faults (record { at = at; kind = kind }) t.0;
  found = λ t h. append_is_not n.faults (record { at = at; kind = kind }) t.0;
}

pub tells_use : {X : Type 0} (env : Env) (number at : ℕ) (n : Notes) → Tells X (env, n) (env, with_use number at n)
tells_use env number at n = record {
  before = λ t. append_is_not n.uses (record { number = number; at = at }) t.1;
  stays = λ t h. append_is_not n.uses (record { number = number; at = at }) t.1;
  found = λ t h. append_is_not n.uses (record { number = number; at = at }) t.1;
}

pub tells_as : {X Y : Type 0} (s later : JudgementState) → (X → Y) → Tells X s later → Tells Y s later
tells_as s later f h = record { before = h.before; stays = h.stays; found = λ t g. f (h.found t g) }

pub tells_then : {X Y : Type 0} (s u v : JudgementState) → Tells X s u → Tells Y u v → Tells (X × Y) s v
tells_then s u v h g = record {
  before = λ t. h.before (g.before t);
  stays = λ t k. g.stays t (h.stays (g.before t) k);
  found = λ t k. (h.found (g.before t) k, g.found t (h.stays (g.before t) k));
}

pub tells_both : {X Y Z : Type 0} (s u v : JudgementState) → (X → Y → Z) → Tells X s u → Tells Y u v → Tells Z s v
tells_both s u v f h g = tells_as s v (λ p. f p.0 p.1) (tells_then s u v h g)

-- nothing is left to be said of what is not found
pub tells_never : {X : Type 0} (s u : JudgementState) → Tells (IsTrue false) s u → Tells X s u
tells_never s u h = tells_as s u no_true h

pub ruled_tells : {A : Type 0} (env : Env) (r : Ruling A) (n : Notes) → Tells (IsFound (note_fault r n).0) (env, n) (env, (note_fault r n).1)
ruled_tells env (Ok a) n = tells_none (env, n) refl
ruled_tells env (Err f) n = tells_fault env f.at f.kind n

module _ (env : Env) (s : JudgementState) where
  pub each_tells : {A B : Type 0} (o : Option A) (f : A → Notes → Option B × Notes) (n : Notes) → Tells (IsFound o) s (env, n) → ((a : A) → Tells (IsFound (f a n).0) (env, n) (env, (f a n).1))
      → Tells (IsFound (each o f n).0) s (env, (each o f n).1)
  each_tells None f n h g = tells_never s (env, n) h
  each_tells (Some a) f n h g = tells_both s (env, n) (env, (f a n).1) (λ x y. y) h (g a)

  pub both_tells : {A B D : Type 0} (o : Option A) (q : Option B) (f : A → B → Notes → Option D × Notes) (n : Notes) → Tells (IsFound o × IsFound q) s (env, n) → ((a : A) (b : B) → Tells (IsFound (f a b n).0) (env, n) (env, (f a b n).1))
      → Tells (IsFound (both_parts o q f n).0) s (env, (both_parts o q f n).1)
  both_tells None q f n h g = tells_as s (env, n) (λ p. no_true p.0) h
  both_tells (Some a) None f n h g = tells_as s (env, n) (λ p. no_true p.1) h
  both_tells (Some a) (Some b) f n h g = tells_both s (env, n) (env, (f a b n).1) (λ x y. y) h (g a b)

  -- where what is said holds under a condition
  pub each_under : {A B : Type 0} (P : Type 0) (o : Option A) (f : A → Notes → Option B × Notes) (n : Notes) → Tells (P → IsFound o) s (env, n) → ((a : A) → Tells (IsFound (f a n).0) (env, n) (env, (f a n).1))
      → Tells (P → IsFound (each o f n).0) s (env, (each o f n).1)
  each_under P None f n h g = tells_as s (env, n) (λ k x. no_true (k x)) h
  each_under P (Some a) f n h g = tells_both s (env, n) (env, (f a n).1) (λ k y x. y) h (g a)

  pub both_under : {A B D : Type 0} (P : Type 0) (o : Option A) (q : Option B) (f : A → B → Notes → Option D × Notes) (n : Notes) → Tells (IsFound o × (P → IsFound q)) s (env, n) → ((a : A) (b : B) → Tells (IsFound (f a b n).0) (env, n) (env, (f a b n).1))
      → Tells (P → IsFound (both_parts o q f n).0) s (env, (both_parts o q f n).1)
  both_under P None q f n h g = tells_as s (env, n) (λ k x. no_true k.0) h
  both_under P (Some a) None f n h g = tells_as s (env, n) (λ k x. no_true (k.1 x)) h
  both_under P (Some a) (Some b) f n h g = tells_both s (env, n) (env, (f a b n).1) (λ k y x. y) h (g a b)

pub append_found : {A : Type 0} (found : Option (List A)) (x : Option A) → IsFound found → IsFound x → IsFound (append_part found x)
append_found None x h g = no_true h
append_found (Some xs) None h g = no_true g
append_found (Some xs) (Some x) h g = refl

pub map_found : {A B : Type 0} (f : A → B) (o : Option A) → IsFound o → IsFound (option_map f o)
map_found f None h = no_true h
map_found f (Some x) h = refl

-- ---- operators

module _ (env : Env) where
  address_tells : (stands : LvalueKind) (n : Notes) → Tells (Unit {0}) (env, n) (env, with_address stands n)
  address_tells p.Nowhere n = tells_none (env, n) tt
  address_tells (p.Local number) n = tells_kept (env, n) (env, with_address (p.Local number) n) refl refl refl refl tt
  address_tells (p.Global number) n = tells_none (env, n) tt
  address_tells p.Elsewhere n = tells_none (env, n) tt

  taken_tells : (op : UnaryOp) (stands : LvalueKind) (n : Notes) → Tells (Unit {0}) (env, n) (env, taken_by op stands n)
  taken_tells u.Address stands n = address_tells stands n
  taken_tells u.Increment stands n = tells_none (env, n) tt
  taken_tells u.Decrement stands n = tells_none (env, n) tt
  taken_tells u.Dereference stands n = tells_none (env, n) tt
  taken_tells u.Plus stands n = tells_none (env, n) tt
  taken_tells u.Minus stands n = tells_none (env, n) tt
  taken_tells u.Invert stands n = tells_none (env, n) tt
  taken_tells u.Not stands n = tells_none (env, n) tt

  pub prefix_tells : (at : ℕ) (op : UnaryOp) (a : TypedExpression) (n : Notes) → Tells (IsFound (apply_prefix at op a n).0) (env, n) (env, (apply_prefix at op a n).1)
  prefix_tells at op a n =
      tells_both (env, n) (env, taken_by op a.place n) (env, (apply_prefix at op a n).1) (λ x y. y) (taken_tells op a.place n) (ruled_tells env (unary_ruling n.structs at op a) (taken_by op a.place n))

  pub choice_tells : (s : JudgementState) (at : ℕ) (c a b : Option TypedExpression) (n : Notes) → Tells ((IsFound c × IsFound a) × IsFound b) s (env, n) → Tells (IsFound (choice_of_parts at c a b n).0) s (env, (choice_of_parts at c a b n).1)
  choice_tells s at None a b n h = tells_as s (env, n) (λ x. no_true x.0.0) h
  choice_tells s at (Some c) None b n h = tells_as s (env, n) (λ x. no_true x.0.1) h
  choice_tells s at (Some c) (Some a) None n h = tells_as s (env, n) (λ x. no_true x.1) h
  choice_tells s at (Some c) (Some a) (Some b) n h = tells_both s (env, n) (env, (choice_check at c a b n).1) (λ x y. y) h (ruled_tells env _ n)

  between_tells : (at : ℕ) (l : List TypedExpression) (n : Notes) → Tells (IsFound (commas_between at l n).0) (env, n) (env, (commas_between at l n).1)
  between_tells at l n = choose (are_two_or_more l)
    where
      either : Bool → Option TypedExpression × Notes
      either b = if b then (Some (comma_value at l), n) else fault at BadOperand n

      choose : (b : Bool) → Tells (IsFound (either b).0) (env, n) (env, (either b).1)
      choose true = tells_none (env, n) refl
      choose false = tells_fault env at BadOperand n

  pub commas_tells : (s : JudgementState) (at : ℕ) (o : Option (List TypedExpression)) (n : Notes) → Tells (IsFound o) s (env, n) → Tells (IsFound (commas at o n).0) s (env, (commas at o n).1)
  commas_tells s at o n h = each_tells env s o (commas_between at) n h (λ l. between_tells at l n)

-- ---- names, and what a sound scope says of them

either_sound : {X : Type 0} (test : X → Bool) (b : Bool) (x : ℕ × X) (o : Option (ℕ × X)) → IsTrue (test x.1) → IsTrue (holds test (option_map (λ r. r.1) o)) → IsTrue (holds test (option_map (λ r. r.1) (if b then Some x else o)))
either_sound test true x o h g = h
either_sound test false x o h g = g

found_sound : {X : Type 0} (test : X → Bool) (name : List ℕ) (xs : List (Entry X)) → IsTrue (list_all (λ (e : Entry X). test e.value) xs) → IsTrue (holds test (option_map (λ r. r.1) (find name xs)))
found_sound {X = X} test name [] h = refl
found_sound {X = X} test name (x ∷ xs) h =
    let rest = list_all (λ (e : Entry X). test e.value) xs in
    either_sound test (bytes_eq name x.name) (length xs, x.value) (find name xs) (front (test x.value) rest h) (found_sound test name xs (back (test x.value) rest h))

pub meaning_sound : (env : Env) (name : List ℕ) → IsTrue (are_sound_names env.names) → IsTrue (holds is_sound (meaning_of env name))
meaning_sound env name h = found_sound is_sound name env.names h

-- where a name has no fault, if the scope is sound
abbrev TellsIfFound : {A : Type 0} → Env → Option NameMeaning → Notes → Option A × Notes → Type 0
TellsIfFound env o n r = (IsTrue (are_sound_names env.names) → IsTrue (holds is_sound o)) → Tells (IsFound r.0) (env, n) (env, r.1)

-- a name whose declaration has a fault
faulty_tells : {X : Type 0} (env : Env) (n : Notes) → (IsTrue (are_sound_names env.names) → IsTrue false) → Tells X (env, n) (env, n)
faulty_tells env n h = record { before = λ t. t; stays = λ t g. g; found = λ t g. no_true (h g.0) }

module _ (env : Env) where
  name_by : (at : ℕ) (o : Option NameMeaning) (n : Notes) → TellsIfFound env o n (name_of at o n)
  name_by at None n h = tells_fault env at UnknownName n
  name_by at (Some m.Faulty) n h = faulty_tells env n h
  name_by at (Some (m.Undefined number)) n h = tells_use env number at n
  name_by at (Some (m.Local number ty)) n h = tells_none (env, n) refl
  name_by at (Some (m.Object number ty)) n h = tells_none (env, n) refl
  name_by at (Some (m.Constant word)) n h = tells_none (env, n) refl
  name_by at (Some (m.Function callee result parameters)) n h = tells_fault env at BadOperand n
  name_by at (Some (m.Typedef ty)) n h = tells_fault env at BadOperand n

  pub name_tells : (at : ℕ) (name : List ℕ) (n : Notes) → Tells (IsFound (name_of at (meaning_of env name) n).0) (env, n) (env, (name_of at (meaning_of env name) n).1)
  name_tells at name n = name_by at (meaning_of env name) n (meaning_sound env name)

  -- ---- texts

  text_tells : (at : ℕ) (bytes : List ℕ) (n : Notes) → Tells (IsFound (string_of at bytes n).0) (env, n) (env, (string_of at bytes n).1)
  text_tells at bytes n = choose (nat_le (length bytes) MOST_DATA)
    where
      either : Bool → Option TypedExpression × Notes
      either b = if b then and_then (new_text bytes n) (λ number. pure (Some (text at number (length bytes)))) else fault at BadType n

      choose : (b : Bool) → Tells (IsFound (either b).0) (env, n) (env, (either b).1)
      choose true = tells_kept (env, n) (env, (new_text bytes n).1) refl refl refl refl refl
      choose false = tells_fault env at BadType n

  pub string_tells : (at : ℕ) (spellings : List (List ℕ)) (n : Notes) → Tells (IsFound (string at spellings n).0) (env, n) (env, (string at spellings n).1)
  string_tells at spellings n = text_tells at (spelling_bytes spellings) n

  -- ---- calls

  arguments_tell : (s : JudgementState) (tys : List CType) (args : List TypedExpression) (found : Option (List TExpr)) (n : Notes) → Tells (IsFound found) s (env, n)
      → Tells (IsFound (convert_arguments tys args found n).0) s (env, (convert_arguments tys args found n).1)
  arguments_tell s [] args found n h = h
  arguments_tell s (ty ∷ tys) [] found n h = h
  arguments_tell s (ty ∷ tys) (a ∷ args) found n h =
      let r = argument ty a n in
      arguments_tell s tys args (append_part found r.0) r.1 (tells_both s (env, n) (env, r.1) (append_found found r.0) h (ruled_tells env (take_value ty a) n))

  call_of_tells : (at : ℕ) (callee : Callee) (ty : CType) (tys : List CType) (args : List TypedExpression) (n : Notes) → Tells (IsFound (call_of at callee ty tys args n).0) (env, n) (env, (call_of at callee ty tys args n).1)
  call_of_tells at callee ty tys args n = of (count_arguments at tys args)
    where
      by : Ruling (List TypedExpression) → Option TypedExpression × Notes
      by r = and_then (note_fault r n) (λ l. each l (call_passing at callee ty tys))

      of : (r : Ruling (List TypedExpression)) → Tells (IsFound (by r).0) (env, n) (env, (by r).1)
      of (Ok l) =
          tells_as (env, n) (env, (by (Ok l)).1) (map_found (call_rvalue at callee ty) (convert_arguments tys l (Some []) n).0) (arguments_tell (env, n) tys l (Some []) n (tells_none (env, n) refl))
      of (Err f) = tells_fault env f.at f.kind n

  call_by : (s : JudgementState) (at : ℕ) (o : Option NameMeaning) (args : Option (List TypedExpression)) (n : Notes) → (IsTrue (are_sound_names env.names) → IsTrue (holds is_sound o)) → Tells (IsFound args) s (env, n)
      → Tells (IsFound (call_by_meaning at o args n).0) s (env, (call_by_meaning at o args n).1)
  call_by s at None args n h g = tells_both s (env, n) (env, with_fault at UnknownName n) (λ x y. y) g (tells_fault env at UnknownName n)
  call_by s at (Some m.Faulty) args n h g = tells_both s (env, n) (env, n) (λ x y. y) g (faulty_tells env n h)
  call_by s at (Some (m.Undefined number)) args n h g = tells_both s (env, n) (env, with_use number at n) (λ x y. y) g (tells_use env number at n)
  call_by s at (Some (m.Local number ty)) args n h g = tells_both s (env, n) (env, with_fault at NotFunction n) (λ x y. y) g (tells_fault env at NotFunction n)
  call_by s at (Some (m.Object number ty)) args n h g = tells_both s (env, n) (env, with_fault at NotFunction n) (λ x y. y) g (tells_fault env at NotFunction n)
  call_by s at (Some (m.Constant word)) args n h g = tells_both s (env, n) (env, with_fault at NotFunction n) (λ x y. y) g (tells_fault env at NotFunction n)
  call_by s at (Some (m.Function callee result parameters)) args n h g = each_tells env s args (call_of at callee result parameters) n g (λ l. call_of_tells at callee result parameters l n)
  call_by s at (Some (m.Typedef ty)) args n h g = tells_both s (env, n) (env, with_fault at NotFunction n) (λ x y. y) g (tells_fault env at NotFunction n)

  pub call_tells : (s : JudgementState) (at : ℕ) (name : List ℕ) (args : Option (List TypedExpression)) (n : Notes) → Tells (IsFound args) s (env, n)
      → Tells (IsFound (call_by_meaning at (meaning_of env name) args n).0) s (env, (call_by_meaning at (meaning_of env name) args n).1)
  call_tells s at name args n h = call_by s at (meaning_of env name) args n (meaning_sound env name) h

-- ---- members

table_sound : (tables : List (List (Entry (Option ℕ)))) (number : ℕ) → IsTrue (list_all are_sound_members tables) → IsTrue (holds are_sound_members (slice_get tables number))
table_sound [] number h = refl
table_sound (x ∷ xs) zero h = front (are_sound_members x) (list_all are_sound_members xs) h
table_sound (x ∷ xs) (suc number) h = table_sound xs number (back (are_sound_members x) (list_all are_sound_members xs) h)

number_sound : (name : List ℕ) (o : Option (List (Entry (Option ℕ)))) → IsTrue (holds are_sound_members o) → IsTrue (holds is_some (number_in name o))
number_sound name None h = refl
number_sound name (Some table) h = found_sound is_some name table h

-- the declaration of a member has no fault
abbrev is_sound_member : MemberMeaning → Bool
is_sound_member q.Nothing = true
is_sound_member q.Faulty = false
is_sound_member (q.Member found) = true

at_sound : (number : ℕ) (o : Option Member) → IsTrue (is_sound_member (member_at number o))
at_sound number None = refl
at_sound number (Some x) = refl

meaning_in_sound : (n : Notes) (structure : ℕ) (o : Option (Option ℕ)) → IsTrue (holds is_some o) → IsTrue (is_sound_member (meaning_in n structure o))
meaning_in_sound n structure None h = refl
meaning_in_sound n structure (Some None) h = no_true h
meaning_in_sound n structure (Some (Some number)) h = at_sound number (struct_member (slice_get n.structs structure) number)

member_sound : (n : Notes) (structure : Option ℕ) (name : List ℕ) → IsTrue (list_all are_sound_members n.members) → IsTrue (is_sound_member (member_of n structure name))
member_sound n None name h = refl
member_sound n (Some structure) name h = meaning_in_sound n structure (number_in name (slice_get n.members structure)) (number_sound name (slice_get n.members structure) (table_sound n.members structure h))

faulty_member_tells : {X : Type 0} (env : Env) (n : Notes) → (IsTrue (list_all are_sound_members n.members) → IsTrue false) → Tells X (env, n) (env, n)
faulty_member_tells env n h = record { before = λ t. t; stays = λ t g. g; found = λ t g. no_true (h g.1) }

module _ (env : Env) where
  field_by : (at : ℕ) (a : TypedExpression) (x : MemberMeaning) (n : Notes) → (IsTrue (list_all are_sound_members n.members) → IsTrue (is_sound_member x)) → Tells (IsFound (field_in at a x n).0) (env, n) (env, (field_in at a x n).1)
  field_by at a q.Nothing n h = ruled_tells env _ n
  field_by at a q.Faulty n h = faulty_member_tells env n h
  field_by at a (q.Member found) n h = ruled_tells env _ n

  pub field_tells : (at : ℕ) (name : List ℕ) (a : TypedExpression) (n : Notes) → Tells (IsFound (field_named at name a n).0) (env, n) (env, (field_named at name a n).1)
  field_tells at name a n = field_by at a (member_of n (struct_number (type_view a.ty)) name) n (member_sound n (struct_number (type_view a.ty)) name)

  arrow_by : (at : ℕ) (a : TypedExpression) (x : MemberMeaning) (n : Notes) → (IsTrue (list_all are_sound_members n.members) → IsTrue (is_sound_member x)) → Tells (IsFound (arrow_in at a x n).0) (env, n) (env, (arrow_in at a x n).1)
  arrow_by at a q.Nothing n h = ruled_tells env _ n
  arrow_by at a q.Faulty n h = faulty_member_tells env n h
  arrow_by at a (q.Member found) n h = ruled_tells env _ n

  pub arrow_tells : (at : ℕ) (name : List ℕ) (a : TypedExpression) (n : Notes) → Tells (IsFound (arrow_named at name a n).0) (env, n) (env, (arrow_named at name a n).1)
  arrow_tells at name a n = arrow_by at (decay a) (member_of n (target_number (type_view (decay a).ty)) name) n (member_sound n (target_number (type_view (decay a).ty)) name)

  -- ---- specifiers

  named_by : (at : ℕ) (o : Option NameMeaning) (n : Notes) → TellsIfFound env o n (typedef_type at o n)
  named_by at None n h = tells_fault env at UnknownName n
  named_by at (Some m.Faulty) n h = faulty_tells env n h
  named_by at (Some (m.Undefined number)) n h = tells_fault env at BadType n
  named_by at (Some (m.Local number x)) n h = tells_fault env at BadType n
  named_by at (Some (m.Object number x)) n h = tells_fault env at BadType n
  named_by at (Some (m.Constant word)) n h = tells_fault env at BadType n
  named_by at (Some (m.Function callee result parameters)) n h = tells_fault env at BadType n
  named_by at (Some (m.Typedef x)) n h = tells_none (env, n) refl

  abbrev Gives : Notes → Option DeclaredType × Notes → Type 0
  Gives n r = Tells (IsFound r.0) (env, n) (env, r.1)

  enum_tagged_tells : (at : ℕ) (name : List ℕ) (o : Option Tag) (n : Notes) → Gives n (enum_tagged at name o n)
  enum_tagged_tells at name None n = tells_kept (env, n) (env, (enum_tagged at name None n).1) refl refl refl refl refl
  enum_tagged_tells at name (Some g.Enum) n = tells_none (env, n) refl
  enum_tagged_tells at name (Some (g.Struct number)) n = tells_fault env at Redeclared n

  pub enum_tells : (at : ℕ) (tag : Option (List ℕ)) (n : Notes) → Gives n (enum_type at tag n)
  enum_tells at None n = tells_none (env, n) refl
  enum_tells at (Some name) n = enum_tagged_tells at name (tag_named (find name n.tags)) n

  struct_tagged_tells : (at : ℕ) (name : List ℕ) (o : Option Tag) (n : Notes) → Gives n (struct_tagged at name o n)
  struct_tagged_tells at name None n = record {
    before = λ t. t;
    stays = λ t h. (h.0, all_append are_sound_members n.members [] h.1 refl);
    found = λ t h. refl;
  }
  struct_tagged_tells at name (Some (g.Struct number)) n = tells_none (env, n) refl
  struct_tagged_tells at name (Some g.Enum) n = tells_fault env at Redeclared n

  struct_at_tells : (at : ℕ) (o : Option UntaggedStruct) (n : Notes) → Gives n (struct_at at o n)
  struct_at_tells at None n = tells_fault env at BadType n
  struct_at_tells at (Some last) n = choose (last.at == at)
    where
      either : Bool → Option DeclaredType × Notes
      either b = if b then (struct_numbered last.number, n) else no_type at BadType n

      choose : (b : Bool) → Gives n (either b)
      choose true = tells_none (env, n) refl
      choose false = tells_fault env at BadType n

  pub struct_tells : (at : ℕ) (tag : Option (List ℕ)) (n : Notes) → Gives n (struct_type at tag n)
  struct_tells at None n = struct_at_tells at n.untagged n
  struct_tells at (Some name) n = struct_tagged_tells at name (tag_named (find name n.tags)) n

pub leaf_tells : (env : Env) (at : ℕ) (node : t.TypeNode) (n : Notes) → Tells (IsFound (leaf env at node n).0) (env, n) (env, (leaf env at node n).1)
unfolding leaf
leaf_tells env at (t.Basic words) n = tells_none (env, n) refl
leaf_tells env at (t.Named name) n = named_by env at (meaning_of env name) n (meaning_sound env name)
leaf_tells env at (t.Enum' place tag constants) n = enum_tells env place tag n
leaf_tells env at (t.Struct' place tag members) n = struct_tells env place tag n
leaf_tells env at (t.Pointer' _ (k.more_of-TypeNode x k.end_of-TypeNode)) n = leaf_tells env at x n
leaf_tells env at (t.Array' _ (k.more_of-TypeNode x k.end_of-TypeNode) size) n = leaf_tells env at x n
leaf_tells env at (t.Takes' _ (k.more_of-TypeNode x k.end_of-TypeNode) _ parameters) n = leaf_tells env at x n

-- ---- declarators

module _ (env : Env) where
  pub there_tells : (at : ℕ) (o : Option DeclaredType) (n : Notes) → Tells (IsFound (required_type at o n).0) (env, n) (env, (required_type at o n).1)
  there_tells at None n = tells_fault env at BadType n
  there_tells at (Some x) n = tells_none (env, n) refl

  pub type_named_tells : (at : ℕ) (x : DeclaredType) (n : Notes) → Tells (IsFound (type_named at x n).0) (env, n) (env, (type_named at x n).1)
  type_named_tells at x n = choose (is_declarable n.structs x)
    where
      either : Bool → Option DeclaredType × Notes
      either b = if b then (Some x, n) else no_type at BadType n

      choose : (b : Bool) → Tells (IsFound (either b).0) (env, n) (env, (either b).1)
      choose true = tells_none (env, n) refl
      choose false = tells_fault env at BadType n

  depth_tells : (at : ℕ) (o : Option CType) (n : Notes) → Tells (IsFound (within_depth at o n).0) (env, n) (env, (within_depth at o n).1)
  depth_tells at None n = tells_fault env at BadType n
  depth_tells at (Some x) n = choose (is_deep_at_most n.structs most_depth x)
    where
      either : Bool → Option CType × Notes
      either b = if b then (Some x, n) else no_parameter at BadType n

      choose : (b : Bool) → Tells (IsFound (either b).0) (env, n) (env, (either b).1)
      choose true = tells_none (env, n) refl
      choose false = tells_fault env at BadType n

  pub parameter_type_tells : (at : ℕ) (x : DeclaredType) (n : Notes) → Tells (IsFound (parameter_type at x n).0) (env, n) (env, (parameter_type at x n).1)
  parameter_type_tells at x n = depth_tells at (adjusted_parameter x) n

-- a name with a sound meaning
pub tells_named : {X : Type 0} (name : List ℕ) (meaning : NameMeaning) (s : JudgementState) → IsTrue (is_sound meaning) → X → Tells X s (with_meaning name meaning s.0, s.1)
tells_named name meaning s h x = record {
  before = λ t. t;
  stays = λ t g. (also (is_sound meaning) (are_sound_names s.0.names) h g.0, g.1);
  found = λ t g. x;
}

parameter_meaning_tells : (name : List ℕ) (o : Option CType) (s u : JudgementState) → Tells (IsFound o) s u → Tells (IsFound o) s (with_meaning name (parameter_meaning o) u.0, u.1)
parameter_meaning_tells name None s u h = record { before = h.before; stays = λ t g. no_true (h.found t g); found = h.found }
parameter_meaning_tells name (Some ty) s u h = tells_both s u (with_meaning name (m.Local 0 ty) u.0, u.1) (λ x y. x) h (tells_named {X = Unit {0}} name (m.Local 0 ty) u refl tt)

declared_tells : (at : ℕ) (name : Option (List ℕ)) (o : Option CType) (s u : JudgementState) → Tells (IsFound o) s u → YieldsFound s (declared_parameter at name o u)
declared_tells at None o s u h = h
declared_tells at (Some name) o s u h = choose (stands_here u.0 (find name u.0.names))
  where
    either : Bool → Option CType × JudgementState
    either b = if b then in_env u.0 (no_parameter at Redeclared u.1) else (o, (with_meaning name (parameter_meaning o) u.0, u.1))

    choose : (b : Bool) → YieldsFound s (either b)
    choose true = tells_both s u (u.0, with_fault at Redeclared u.1) (λ x y. y) h (tells_fault u.0 at Redeclared u.1)
    choose false = parameter_meaning_tells name o s u h

pub parameter_tells : (at : ℕ) (name : Option (List ℕ)) (of : Option DeclaredType) (s u : JudgementState) → Tells (IsFound of) s u → YieldsFound s (parameter_declared at name of u)
parameter_tells at name of s u h =
    let r = each of (parameter_type at) u.1 in
    declared_tells at name r.0 s (u.0, r.1) (each_tells u.0 s of (parameter_type at) u.1 h (λ x. parameter_type_tells u.0 at x u.1))

-- ---- a scope that is left

drop_sound : {A : Type 0} (test : A → Bool) (k : ℕ) (xs : List A) → IsTrue (list_all test xs) → IsTrue (list_all test (drop k xs))
drop_sound test zero xs h = h
drop_sound test (suc k) [] h = refl
drop_sound test (suc k) (x ∷ xs) h = drop_sound test k xs (back (test x) (list_all test xs) h)

pub left_tells : {X : Type 0} (s u : JudgementState) → Tells X (enter s.0, s.1) u → Tells X s (leave s.0.outside u.0, u.1)
left_tells s u h = record {
  before = h.before;
  stays = λ t g. scope (h.stays t g);
  found = h.found;
}
  where
    scope : NamesAreSound u → NamesAreSound (leave s.0.outside u.0, u.1)
    scope g = (drop_sound (λ (e : Entry NameMeaning). is_sound e.value) (length u.0.names - u.0.outside) u.0.names g.0, g.1)
