-- Locals and parameters that are declared.
use Rattle.std.proofs.Common.{◌≡◌, ◌+◌, ◌*◌, ℕ, nat_le, Bool, true, false, not, ◌&&◌, ◌||◌, IsTrue, List, [], ◌∷◌, ◌++◌, length, map, slice_get, is_some, bytes_eq, Option, Some, None, IfSome, refl, ap, if◌then◌else◌}
use Rattle.std.specs.Option.{option_map}
use Rattle.std.specs.List.{list_all}
use Rattle.c_tree.specs.declared.types.Parameter.{Parameter}
use Rattle.c_tree.specs.declared.expressions.Expr.{Expr}
use Rattle.c_tree.specs.declared.statements.LocalDeclarator as tree
use Rattle.c_tree.specs.declared.statements.ForFirst.{ForFirst}
use Rattle.c_tree.specs.declared.statements.ForFirst.TheVariants as g
use Rattle.c_typed_tree.specs.declared.types.CType.{CType}
use Rattle.c_typed_tree.specs.declared.types.CType as ty
use Rattle.c_typed_tree.specs.declared.types.StructDef.{StructDef}
use Rattle.c_typed_tree.specs.declared.units.Local.{Local}
use Rattle.c_typed_tree.specs.declared.expressions.TExpr.{TExpr}
use Rattle.c_typed_tree.specs.declared.statements.TLocal.{TLocal}
use Rattle.c_typed_tree.specs.declared.statements.TFirst.{TFirst}
use Rattle.c_typed_tree.specs.Types.{PlainType, Void, Int, Pointer, Array, Struct}
use Rattle.c_typed_tree.specs.View.{type_view, local_view, first_view}
use Rattle.c_typed_tree.specs.model.View.{opens}
use Rattle.c_typed_tree.specs.Layout.{is_object, size_of}
use Rattle.c_typed_tree.specs.Typing.{Context, is_valid_type, is_scalar, is_array, has_local_type, depth_of, struct_depth, most_depth}
use Rattle.c_typed_tree.specs.TypingStatements.{is_there, is_declared, is_first}
use Rattle.c_typed_tree.specs.Lawful.{type_of_local, is_object_type, is_lawful_local}
use Rattle.mem_objects.specs.declared.TheConstants.{MOST_DATA}
use Rattle.c_typing_rules.specs.declared.c_typing_declared_types.declared.DeclaredType.{DeclaredType}
use Rattle.c_typing_rules.specs.declared.c_typing_declared_types.declared.DeclaredType.TheVariants as d
use Rattle.c_typing_rules.specs.c_typing_declared_types.Declarators.{parameter_value, adjusted_parameter}
use Rattle.c_typing_rules.specs.c_typing_declared_types.Depth.{is_deep_at_most}
use Rattle.c_typing_statement_parts.specs.c_typing_local_rules.Members.{is_member_type}
use Rattle.c_typing_faults.specs.declared.faults.Kind.TheVariants.{BadType, BadInit, Redeclared}
use Rattle.c_typing_rules.specs.declared.typed.TypedExpression.{TypedExpression}
use Rattle.c_typing_judgements.specs.c_typing_operators.Null.{take_value}
use Rattle.c_typing_scopes.specs.Names.{find}
use Rattle.c_typing_state.specs.declared.env.Env.{Env}
use Rattle.c_typing_state.specs.declared.meanings.NameMeaning.{NameMeaning}
use Rattle.c_typing_state.specs.declared.meanings.NameMeaning.TheVariants as means
use Rattle.c_typing_state.specs.declared.notes.Notes.{Notes}
use Rattle.c_typing_state.specs.Checks.{pure, and_then, each, walk, note_fault}
use Rattle.c_typing_state.specs.Notes.{with_fault}
use Rattle.c_typing_state.specs.Scopes.{with_meaning, meaning_of, stands_here}
use Rattle.c_typing_judgements.specs.Types.{no_parameter, within_depth, parameter_type}
use Rattle.c_typing_expressions.specs.Expressions.{judge}
use Rattle.c_typing_statement_parts.specs.declared.c_typing_local_rules.locals.NewLocal.{NewLocal}
use Rattle.c_typing_statement_parts.specs.c_typing_local_rules.Objects.{no_object_type, object_type}
use Rattle.c_typing_statement_rules.specs.Forms.{first_value, first_locals}
use Rattle.c_typing_statement_parts.specs.c_typing_local_rules.Locals.{BodyState, with_notes, local_of_type, local_named, nameless_local, parameter_named, no_initialiser, with_initialiser, local_with_value, without_initialiser}
use Rattle.c_typing_statement_parts.specs.Parts.{judge_type, full_value, initialiser_of, local_of, first_of}
use Rattle.c_typing_statements.specs.declared.c_typing_function_bodies.functions.FunctionType.{FunctionType}
use Rattle.c_typing_statements.specs.c_typing_function_bodies.Functions.{judge_parameter as one_parameter, parameters, typed_parameters, declared_parameters}
use Rattle.c_typing_expression_sound.specs.c_type_laws.Typed.{AreKnown, IsTypedIn}
use Rattle.c_typing_expression_sound.proofs.CTypeLaws.Truth.{no_true, front, back, also, three, along, either_left}
use Rattle.c_typing_expression_sound.proofs.CTypeLaws.Types.{known_object}
use Rattle.c_typing_expression_sound.specs.c_judgement_laws.Covers.{IsPlaceType, IsNameIn, IsMeaningIn, Knows, IsLawfulContext}
use Rattle.c_typing_expression_sound.proofs.CJudgementLaws.Notes.{Later, later_itself, later_fault}
use Rattle.c_typing_expression_sound.proofs.CJudgementLaws.Structs.{object_depth, object_fits}
use Rattle.c_typing_expression_sound.specs.c_expression_laws.Types.{IsTypeIn}
use Rattle.c_typing_expression_sound.proofs.CExpressionLaws.Types.{parameter_typed}
use Rattle.c_typing_function_sound.proofs.CStatementRuleLaws.Parts.{initialiser_typed}
use Rattle.c_typing_function_sound.proofs.CStatementLaws.Locals.{Grows, grows_then, has_fewer, get_last, one_more}
use Rattle.c_typing_expression_sound.proofs.CExpressionLaws.Parts.{extends_then}
use Rattle.c_typing_function_sound.specs.c_statement_laws.Laws.{is_parameter}
use Rattle.c_typing_function_sound.proofs.CStatementLaws.Moves.{Covers, Moves, moves_none, moves_as, moves_known, moves_then, moves_both, moves_quiet, part_moves, two_moves, later_ruled, walk_moves}
use Rattle.c_typing_function_sound.proofs.CStatementLaws.Parts.{IsValue, judge_moves, value_moves, type_moves}

-- ---- types of objects, by the structs of the notes and by those of the context

-- the depth of an object's type is the same
same_depth : (ds es : List StructDef) → AreKnown ds es → (x : PlainType) → IsTrue (is_object ds x) → depth_of es x ≡ depth_of ds x
same_depth ds es k Void h = refl
same_depth ds es k (Int n s) h = refl
same_depth ds es k (Pointer x) h = refl
same_depth ds es k (Array x n) h = ap (λ d. 1 + d) (same_depth ds es k x (front (is_object ds x) (nat_le 1 n) (front (is_object ds x && nat_le 1 n) (nat_le (size_of ds x * n) MOST_DATA) h)))
same_depth ds es k (Struct n) h = ap struct_depth (k n h)

-- a type that a local may have by the structs of the notes is one of objects in the context
object_there : (ds es : List StructDef) → AreKnown ds es → (x : PlainType) → IsTrue (is_valid_type es x) → IsTrue (is_object ds x) → IsTrue (nat_le (depth_of ds x) most_depth) → IsTrue (is_object_type es x)
object_there ds es k x h o deep =
    three (is_valid_type es x) (is_object es x) (nat_le (depth_of es x) most_depth) h (known_object ds es k x o) (along (λ d. nat_le d most_depth) (same_depth ds es k x o) deep)

-- scalars are objects whatever structs there are
scalar_object : (ds : List StructDef) (x : PlainType) → IsTrue (is_scalar x) → IsTrue (is_object ds x)
scalar_object ds Void h = no_true h
scalar_object ds (Int n s) h = refl
scalar_object ds (Pointer x) h = refl
scalar_object ds (Array x n) h = no_true h
scalar_object ds (Struct n) h = no_true h

module _ (c : Context) (known : Type 0) where
  abbrev pub IsObjectType : CType → Type 0
  IsObjectType x = IsTrue (is_object_type c.structs (type_view x))

  -- ---- the types of locals

  object_later : (at : ℕ) (x : DeclaredType) (n : Notes) → Later c n (object_type at x n).1
  object_later at (d.Value x) n = choose (is_member_type n.structs x)
    where
      choose : (b : Bool) → Later c n (if b then (Some x, n) else no_object_type at n).1
      choose true = later_itself c n
      choose false = later_fault c at BadType n
  object_later at (d.Unsized x) n = later_fault c at BadType n
  object_later at (d.Function x xs) n = later_fault c at BadType n

  object_says : (at : ℕ) (x : DeclaredType) (n : Notes) → Knows c n → IsTypeIn c x → IfSome (object_type at x n).0 IsObjectType
  object_says at (d.Value x) n k h = choose (is_member_type n.structs x) refl
    where
      choose : (b : Bool) → is_member_type n.structs x ≡ b → IfSome (if b then (Some x, n) else no_object_type at n).0 IsObjectType
      choose true e =
          object_there n.structs c.structs k.structs_known.complete (type_view x) h (front (is_object n.structs (type_view x)) (is_deep_at_most n.structs most_depth x) e)
          (back (is_object n.structs (type_view x)) (is_deep_at_most n.structs most_depth x) e)
      choose false e = tt
  object_says at (d.Unsized x) n k h = tt
  object_says at (d.Function x xs) n k h = tt

  -- ---- the types of parameters

  abbrev pub IsParameterType : CType → Type 0
  IsParameterType x = IsObjectType x × IsTrue (is_scalar (type_view x))

  value_scalar : (x : CType) → IsTrue (is_valid_type c.structs (type_view x)) → IfSome (parameter_value x) (λ z. IsTrue (is_scalar (type_view z)))
  unfolding opens parameter_value
  value_scalar ty.Void h = tt
  value_scalar (ty.Int n s) h = either_left _ _ h
  value_scalar (ty.Pointer' _ (ty.more_of-CType x ty.end_of-CType)) h = refl
  value_scalar (ty.Array' _ (ty.more_of-CType x ty.end_of-CType) n) h = refl
  value_scalar (ty.Struct n) h = tt

  parameter_scalar : (x : DeclaredType) → IsTypeIn c x → IfSome (adjusted_parameter x) (λ z. IsTrue (is_scalar (type_view z)))
  unfolding opens
  parameter_scalar (d.Value x) h = value_scalar x h
  parameter_scalar (d.Unsized x) h = refl
  parameter_scalar (d.Function x xs) h = tt

  within_later : (at : ℕ) (o : Option CType) (n : Notes) → Later c n (within_depth at o n).1
  within_later at None n = later_fault c at BadType n
  within_later at (Some x) n = choose (is_deep_at_most n.structs most_depth x)
    where
      choose : (b : Bool) → Later c n (if b then (Some x, n) else no_parameter at BadType n).1
      choose true = later_itself c n
      choose false = later_fault c at BadType n

  within_says : (at : ℕ) (o : Option CType) (n : Notes) → Knows c n → IfSome o (λ z. IsTrue (is_valid_type c.structs (type_view z))) → IfSome o (λ z. IsTrue (is_scalar (type_view z))) → IfSome (within_depth at o n).0 IsParameterType
  within_says at None n k h s = tt
  within_says at (Some x) n k h s = choose (is_deep_at_most n.structs most_depth x) refl
    where
      choose : (b : Bool) → is_deep_at_most n.structs most_depth x ≡ b → IfSome (if b then (Some x, n) else no_parameter at BadType n).0 IsParameterType
      choose true e = (object_there n.structs c.structs k.structs_known.complete (type_view x) h (scalar_object n.structs (type_view x) s) e, s)
      choose false e = tt

  -- ---- names

  named_in : (q name : List ℕ) (meaning : NameMeaning) (env : Env) → IsMeaningIn c meaning → IsNameIn c (meaning_of env q) → IsNameIn c (meaning_of (with_meaning name meaning env) q)
  named_in q name meaning env h g = of (bytes_eq q name)
    where
      of : (b : Bool) → IsNameIn c (option_map (λ (r : ℕ × NameMeaning). r.1) (if b then Some (length env.names, meaning) else find q env.names))
      of true = h
      of false = g

  -- a local that was declared
  pub record IsNew (new : NewLocal) : Type 0 where
    pub there : IsTrue (has_local_type (slice_get c.locals new.number) (type_view new.ty))
    pub object : IsObjectType new.ty

  abbrev local_of_own : CType → Local
  local_of_own x = record { ty = x; in_memory = not (is_scalar (type_view x)) }

  kept_or_not : (b : Bool) → IsTrue (b || not b)
  kept_or_not true = refl
  kept_or_not false = refl

  lawful_new : (x : CType) → IsObjectType x → IsTrue (is_lawful_local c.structs (local_of_own x))
  lawful_new x h = also (is_object_type c.structs (type_view x)) (is_scalar (type_view x) || not (is_scalar (type_view x))) h (kept_or_not (is_scalar (type_view x)))

  module _ (name : List ℕ) (v w : BodyState) where
    faulty_moves : {X : Type 0} → Moves c known X v w → Moves c known X v (w.0, (with_meaning name means.Faulty w.1.0, w.1.1))
    faulty_moves m = record {
      grows = m.grows;
      later = m.later;
      env = extends_then v.1.0 w.1.0 (with_meaning name means.Faulty w.1.0) m.env (record { more = record { name = name; value = means.Faulty } ∷ []; names = refl; outside = refl });
      stands = λ h g.
          let old = m.stands (record { locals = h.locals; knows = h.knows; takes = h.takes }) g in
          record {
            scope = record { names = λ q. named_in q name means.Faulty w.1.0 tt (old.scope.names q); typedefs = (tt, old.scope.typedefs) };
            lawful = old.lawful;
            function = old.function;
          };
      found = λ h g. m.found (record { locals = h.locals; knows = h.knows; takes = h.takes }) g;
    }

    abbrev behind : CType → BodyState
    behind x = (w.0 ++ local_of_own x ∷ [], (with_meaning name (means.Local (length w.0) x) w.1.0, w.1.1))

    grown : (x : CType) → Grows w.0 (behind x).0
    grown x = record { more = local_of_own x ∷ []; same = refl }

    before : (x : CType) → Covers c (behind x) → Covers c w
    before x h = record { locals = has_fewer c w.0 (behind x).0 (grown x) h.locals; knows = h.knows; takes = h.takes }

    new_there : (x : CType) → Covers c (behind x) → IsTrue (has_local_type (slice_get c.locals (length w.0)) (type_view x))
    new_there x h = h.locals.at (length w.0) (local_of_own x) (get_last w.0 (local_of_own x))

    new_moves : {X : Type 0} (x : CType) → (X → IsObjectType x) → Moves c known X v w → Moves c known (X × IsNew (record { number = length w.0; ty = x })) v (behind x)
    new_moves x f m = record {
      grows = grows_then v.0 w.0 (behind x).0 m.grows (grown x);
      later = m.later;
      env = extends_then v.1.0 w.1.0 (behind x).1.0 m.env (record { more = record { name = name; value = means.Local (length w.0) x } ∷ []; names = refl; outside = refl });
      stands = λ h g.
          let object = f (m.found (before x h) g) in
          let old = m.stands (before x h) g in
          let type : IsPlaceType c x = record { fit = object_fits c.structs (type_view x) object; depth = object_depth c.structs (type_view x) object } in
          record {
            scope = record {
              names = λ q. named_in q name (means.Local (length w.0) x) w.1.0 (record { named = new_there x h; type = type }) (old.scope.names q);
              typedefs = (tt, old.scope.typedefs);
            };
            lawful = one_more (is_lawful_local c.structs) w.0 (local_of_own x) old.lawful (lawful_new x object);
            function = old.function;
          };
      found = λ h g. (m.found (before x h) g, record { there = new_there x h; object = f (m.found (before x h) g) });
    }

    named_moves : {X : Type 0} (at : ℕ) (o : Option CType) → (X → IfSome o IsObjectType) → Moves c known X v w → Moves c known (X × IfSome (local_named at name o w).0 IsNew) v (local_named at name o w).1
    named_moves {X} at o f m = choose (stands_here w.1.0 (find name w.1.0.names))
      where
        either : Bool → Option NewLocal × BodyState
        either b = if b then (None, (w.0, (w.1.0, with_fault at Redeclared w.1.1))) else with_notes w.1.1 (local_of_type name o (w.0, w.1.0))

        of : (o : Option CType) → (X → IfSome o IsObjectType) → Moves c known (X × IfSome (local_of_type name o (w.0, w.1.0)).0 IsNew) v (with_notes w.1.1 (local_of_type name o (w.0, w.1.0))).1
        of None f = moves_as c known v _ (λ x. (x, tt)) (faulty_moves m)
        of (Some x) f = new_moves x f m

        choose : (b : Bool) → Moves c known (X × IfSome (either b).0 IsNew) v (either b).1
        choose true = moves_both c known v w _ (λ x y. (x, tt)) m (moves_quiet c known w (with_fault at Redeclared w.1.1) (later_fault c at Redeclared w.1.1))
        choose false = of o f

  -- ---- locals with their initialisers

  module _ (lawful : IsLawfulContext c) where
    there_of : (o : Option Local) (x : PlainType) → IsTrue (has_local_type o x) → IsTrue (is_there o)
    there_of None x h = no_true h
    there_of (Some l) x h = refl

    abbrev pub IsDeclared : TLocal → Type 0
    IsDeclared l = IsTrue (is_declared c (local_view l))

    plain_says : (new : Option NewLocal) → IfSome new IsNew → IfSome (option_map without_initialiser new) IsDeclared
    plain_says None h = tt
    plain_says (Some new) h = there_of (slice_get c.locals new.number) (type_view new.ty) h.there

    value_later : (new : NewLocal) (a : TypedExpression) (n : Notes) → Later c n (local_with_value new a n).1
    value_later new a n = choose (is_array (type_view new.ty))
      where
        choose : (b : Bool) → Later c n (and_then (if b then no_initialiser a.at n else note_fault (take_value new.ty a) n) (λ r. pure (option_map (with_initialiser new.number) r))).1
        choose true = later_fault c a.at BadInit n
        choose false = later_ruled c known (take_value new.ty a) n

    value_says : (new : NewLocal) (a : TypedExpression) (n : Notes) → IsNew new → IsTypedIn c a → IfSome (local_with_value new a n).0 IsDeclared
    value_says new a n h g =
        let own = type_view new.ty in
        initialiser_typed c new a n h.there (object_fits c.structs own h.object)
        (back (is_valid_type c.structs own) (is_object c.structs own) (front (is_valid_type c.structs own && is_object c.structs own) (nat_le (depth_of c.structs own) most_depth) h.object)) g

    initialiser_moves : (new : Option NewLocal) (init : Option Expr) (v w : BodyState) → Moves c known (IfSome new IsNew) v w → Moves c known (IfSome (initialiser_of new init w).0 IsDeclared) v (initialiser_of new init w).1
    initialiser_moves new None v w m = moves_as c known v w (plain_says new) m
    initialiser_moves new (Some x) v w m =
        let r = judge x w.1 in
        two_moves c known IsNew (IsTypedIn c) IsDeclared new r.0 local_with_value v (w.0, r.1) value_later (λ a b h g. value_says a b r.1.1 h g) (moves_then c known v w (w.0, r.1) m (judge_moves c lawful known x w))

    pub local_moves : (d : tree.LocalDeclarator) (w : BodyState) → Moves c known (IfSome (local_of d w).0 IsDeclared) w (local_of d w).1
    local_moves d w =
        let at = d.declaration.at in
        let ty = judge_type at d.declaration.ty w.1 in
        let o = each ty.0 (object_type at) ty.1.1 in
        let u : BodyState = (w.0, (ty.1.0, o.1)) in
        let new = local_named at d.declaration.name o.0 u in
        initialiser_moves new.0 d.init w new.1
        (moves_as c known w new.1 (λ p. p.1)
        (named_moves d.declaration.name w u at o.0 (λ x. x)
        (part_moves c known (IsTypeIn c) IsObjectType ty.0 (object_type at) w (w.0, ty.1) (object_later at) (λ a k h. object_says at a ty.1.1 k h) (type_moves c lawful known at d.declaration.ty w))))

    -- ---- the first part of a `for`

    abbrev pub AreDeclared : List TLocal → Type 0
    AreDeclared ls = IsTrue (list_all (is_declared c) (map local_view ls))

    declared_more : (ls : List TLocal) (l : TLocal) → AreDeclared ls → IsDeclared l → AreDeclared (ls ++ l ∷ [])
    declared_more [] l h g = also (is_declared c (local_view l)) true g refl
    declared_more (x ∷ ls) l h g =
        also (is_declared c (local_view x)) (list_all (is_declared c) (map local_view (ls ++ l ∷ []))) (front (is_declared c (local_view x)) (list_all (is_declared c) (map local_view ls)) h)
        (declared_more ls l (back (is_declared c (local_view x)) (list_all (is_declared c) (map local_view ls)) h) g)

    abbrev pub IsFirst : TFirst → Type 0
    IsFirst p = IsTrue (is_first c (first_view p))

    first_of_value : (o : Option TExpr) → IfSome o (IsValue c lawful known) → IfSome (first_value o) IsFirst
    first_of_value None h = tt
    first_of_value (Some x) h = h

    first_of_locals : (o : Option (List TLocal)) → IfSome o AreDeclared → IfSome (first_locals o) IsFirst
    first_of_locals None h = tt
    first_of_locals (Some ls) h = h

    pub first_moves : (p : ForFirst) (w : BodyState) → Moves c known (IfSome (first_of p w).0 IsFirst) w (first_of p w).1
    first_moves g.Nothing w = moves_none c known w refl
    first_moves (g.Value x) w = moves_as c known w (w.0, (full_value x w.1).1) (first_of_value (full_value x w.1).0) (value_moves c lawful known x w)
    first_moves (g.Locals ds) w =
        let r = walk local_of ds (Some []) w in
        moves_as c known w r.1 (first_of_locals r.0) (walk_moves c known AreDeclared IsDeclared declared_more local_of local_moves ds (Some []) w w (moves_none c known w refl))

    -- ---- parameters

    abbrev pub AreScalars : List Local → Type 0
    AreScalars ls = IsTrue (list_all (λ (l : Local). is_scalar (type_of_local l)) ls)

    scalars_named : (at : ℕ) (name : List ℕ) (o : Option CType) (w : BodyState) → AreScalars w.0 → IfSome o IsParameterType → AreScalars (local_named at name o w).1.0
    scalars_named at name o w h g = choose (stands_here w.1.0 (find name w.1.0.names))
      where
        of : (o : Option CType) → IfSome o IsParameterType → AreScalars (local_of_type name o (w.0, w.1.0)).1.0
        of None g = h
        of (Some x) g = one_more (λ (l : Local). is_scalar (type_of_local l)) w.0 (local_of_own x) h g.1

        either : Bool → Option NewLocal × BodyState
        either b = if b then (None, (w.0, (w.1.0, with_fault at Redeclared w.1.1))) else with_notes w.1.1 (local_of_type name o (w.0, w.1.0))

        choose : (b : Bool) → AreScalars (either b).1.0
        choose true = h
        choose false = of o g

    object_of : (o : Option CType) → IfSome o IsParameterType → IfSome o IsObjectType
    object_of None h = tt
    object_of (Some x) h = h.0

    no_name_later : (at : ℕ) (o : Option CType) (n : Notes) → Later c n (each o (nameless_local at) n).1
    no_name_later at None n = later_itself c n
    no_name_later at (Some x) n = later_fault c at BadType n

    named_parameter_moves : (at : ℕ) (name : Option (List ℕ)) (o : Option CType) (v w : BodyState) → Moves c known (AreScalars w.0 × IfSome o IsParameterType) v w
        → Moves c known (AreScalars (parameter_named at name o w).1.0) v (parameter_named at name o w).1
    named_parameter_moves at None o v w m = moves_both c known v w _ (λ x y. x.0) m (moves_quiet c known w (each o (nameless_local at) w.1.1).1 (no_name_later at o w.1.1))
    named_parameter_moves at (Some name) o v w m =
        moves_as c known v (local_named at name o w).1 (λ x. scalars_named at name o w x.0.0 x.0.1) (named_moves name v w at o (λ x. object_of o x.1) m)

    parameter_says : (at : ℕ) (x : DeclaredType) (n : Notes) → Knows c n → IsTypeIn c x → IfSome (parameter_type at x n).0 IsParameterType
    parameter_says at x n k h = within_says at (adjusted_parameter x) n k (parameter_typed c x h) (parameter_scalar x h)

    parameter_moves : (p : Parameter) (v w : BodyState) → Moves c known (AreScalars w.0) v w → Moves c known (AreScalars (one_parameter p w).1.0) v (one_parameter p w).1
    parameter_moves p v w m =
        let ty = judge_type p.at p.ty w.1 in
        let o = each ty.0 (parameter_type p.at) ty.1.1 in
        let u : BodyState = (w.0, (ty.1.0, o.1)) in
        named_parameter_moves p.at p.name o.0 v u
        (moves_then c known v w u m
        (part_moves c known (IsTypeIn c) IsParameterType ty.0 (parameter_type p.at) w (w.0, ty.1) (λ a n. within_later p.at (adjusted_parameter a) n) (λ a k h. parameter_says p.at a ty.1.1 k h) (type_moves c lawful known p.at p.ty w)))

    pub parameters_moves : (ps : List Parameter) (sound : Bool) (v w : BodyState) → Moves c known (AreScalars w.0) v w → Moves c known (AreScalars (parameters ps sound w).1.0) v (parameters ps sound w).1
    parameters_moves [] sound v w m = m
    parameters_moves (p ∷ ps) sound v w m = parameters_moves ps (sound && is_some (one_parameter p w).0) v (one_parameter p w).1 (parameter_moves p v w m)

    -- those whose types the declarator gives
    pub typed_parameters_moves : (ps : List Parameter) (tys : List CType) (sound : Bool) (v w : BodyState) → (known → IsTrue (list_all (is_parameter c.structs) tys)) → Moves c known (AreScalars w.0) v w
        → Moves c known (AreScalars (typed_parameters ps tys sound w).1.0) v (typed_parameters ps tys sound w).1
    typed_parameters_moves [] [] sound v w given m = m
    typed_parameters_moves [] (ty ∷ tys) sound v w given m = m
    typed_parameters_moves (p ∷ ps) [] sound v w given m = m
    typed_parameters_moves (p ∷ ps) (ty ∷ tys) sound v w given m =
        let r = parameter_named p.at p.name (Some ty) w in
        let own = is_parameter c.structs ty in
        let rest = list_all (is_parameter c.structs) tys in
        let object = is_object_type c.structs (type_view ty) in
        let scalar = is_scalar (type_view ty) in
        typed_parameters_moves ps tys (sound && is_some r.0) v r.1 (λ k. back own rest (given k))
        (named_parameter_moves p.at p.name (Some ty) v w
        (moves_known c known v w (λ h k s. (s, (front object scalar (front own rest (given k)), back object scalar (front own rest (given k))))) m))

    pub declared_parameters_moves : (of : Option FunctionType) (ps : List Parameter) (w : BodyState) → (known → IfSome of (λ t. IsTrue (list_all (is_parameter c.structs) t.parameters))) → AreScalars w.0
        → Moves c known (AreScalars (declared_parameters of ps w).1.0) w (declared_parameters of ps w).1
    declared_parameters_moves None ps w given h = parameters_moves ps true w w (moves_none c known w h)
    declared_parameters_moves (Some of) ps w given h = typed_parameters_moves ps of.parameters true w w given (moves_none c known w h)
