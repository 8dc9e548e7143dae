-- A typed unit has what the names of file scope mean, and the texts.
use Rattle.std.proofs.Common.{◌≡◌, ℕ, zero, suc, ◌+◌, ◌*◌, ◌<◌, ◌==◌, nat_le, arith, ◌&&◌, IsTrue, List, [], ◌∷◌, ◌++◌, length, map, slice_get, Option, Some, None, refl, sym, ap, ◌∙◌, subst, le-leb}
use Rattle.std.proofs.lemmas.Bool.Decides.{Decides-eqb}
use Rattle.mem_objects.specs.declared.TheConstants.{MOST_DATA}
use Rattle.mem_objects.specs.declared.DataObject.{DataObject}
use Rattle.c_typed_tree.specs.declared.types.CType.{CType}
use Rattle.c_typed_tree.specs.declared.types.StructDef.{StructDef}
use Rattle.c_typed_tree.specs.declared.units.Local.{Local}
use Rattle.c_typed_tree.specs.declared.units.TypedFn.{TypedFn}
use Rattle.c_typed_tree.specs.declared.units.TypedUnit.{TypedUnit}
use Rattle.c_typed_tree.specs.declared.expressions.Builtin.{Builtin}
use Rattle.c_typed_tree.specs.declared.expressions.Builtin.TheVariants as b
use Rattle.c_typed_tree.specs.declared.expressions.Callee.{Callee}
use Rattle.c_typed_tree.specs.declared.expressions.Callee.TheVariants as c
use Rattle.c_typed_tree.specs.model.View.{opens}
use Rattle.c_typed_tree.specs.Layout.{is_object, size_of}
use Rattle.c_typed_tree.specs.Typing.{Context, callee_signature, has_global_type, is_valid_type, depth_of, most_depth}
use Rattle.c_typed_tree.specs.View.{type_view}
use Rattle.c_typed_tree.specs.Lawful.{is_object_type, signature_of}
use Rattle.c_typing_primary_rules.specs.Primary.{text_type}
use Rattle.c_typing_state.specs.declared.env.Env.{Env}
use Rattle.c_typing_state.specs.declared.meanings.NameMeaning.{NameMeaning}
use Rattle.c_typing_state.specs.declared.meanings.NameMeaning.TheVariants as m
use Rattle.c_typing_state.specs.Scopes.{meaning_of}
use Rattle.c_typing_globals.specs.declared.objects.UnitObject.{UnitObject}
use Rattle.c_typing_globals.specs.Globals.{text_at, globals}
use Rattle.c_typing_struct_bodies.specs.Bodies.{TagScope}
use Rattle.c_typing_declarations.specs.declared.walk.UnitFunction.{UnitFunction}
use Rattle.c_typing_declarations.specs.declared.walk.UnitSoFar.{UnitSoFar}
use Rattle.c_typing_expression_sound.proofs.CTypeLaws.Truth.{front, back, also}
use Rattle.c_typing_expression_sound.specs.c_judgement_laws.Covers.{IsMeaningIn, IsNameIn, HasNames, IsTextObject, HaveTexts}
use Rattle.c_typing_expression_sound.proofs.CJudgementLaws.Structs.{object_depth, object_fits}
use Rattle.c_types.specs.c_unit_object_laws.Notes.{of_structs}
use Rattle.c_typing_initialiser_sound.specs.c_global_laws.Laws.{HasTextObject, AreNotedTexts}
use Rattle.c_typing_initialiser_sound.proofs.CGlobalLaws.Places.{all_there}
use Rattle.c_types.specs.c_unit_object_laws.Meanings.{Keeps, IsNamed, AreNamed, HasNamedFunctions}
use Rattle.c_types.proofs.CUnitObjectLaws.Names.{none_some, some_same}
use Rattle.c_types.specs.c_unit_object_laws.Meant.{IsOwnType, IsMeant, AreMeant, ObjectIsOfType, HasObjects}
use Rattle.c_types.proofs.CUnitObjectLaws.Types.{result_fits, result_plain, parameters_fit}
use Rattle.c_types.specs.c_typed_unit_laws.Made.{TypedIsMadeOf}

-- what the numbers in a unit name, with these locals
abbrev pub context_with : TypedUnit → List Local → Context
context_with u locals = record {
  structs = u.structs;
  globals = u.globals;
  functions = map signature_of u.functions;
  locals = locals;
}

-- ---- lists

pub record IsThere {A : Type 0} (xs : List A) (k : ℕ) : Type 0 where
  pub it : A
  pub there : slice_get xs k ≡ Some it

less_before : (k n : ℕ) → suc k < suc n → k < n
less_before k n h = omega arith

is_there : {A : Type 0} (xs : List A) (k : ℕ) → k < length xs → IsThere xs k
is_there [] k h = absurd (none k h)
  where
    none : (k : ℕ) → k < 0 → ⊥
    none k h = omega arith
is_there (x ∷ xs) zero h = record { it = x; there = refl }
is_there (x ∷ xs) (suc k) h = let rest = is_there xs k (less_before k (length xs) h) in record { it = rest.it; there = rest.there }

mapped : {A B : Type 0} (f : A → B) (xs : List A) (k : ℕ) (x : A) → slice_get xs k ≡ Some x → slice_get (map f xs) k ≡ Some (f x)
mapped f [] k x e = none_some e
mapped f (y ∷ xs) zero x e = ap (λ z. Some (f z)) (some_same e)
mapped f (y ∷ xs) (suc k) x e = mapped f xs k x e

pub named_at : (env : Env) (gs : List UnitFunction) (k : ℕ) (g : UnitFunction) → AreNamed env gs → slice_get gs k ≡ Some g → IsNamed env g
named_at env [] k g h e = none_some e
named_at env (x ∷ gs) zero g h e = subst (IsNamed env) (some_same e) h.0
named_at env (x ∷ gs) (suc k) g h e = named_at env gs k g h.1 e

-- ---- objects

-- the object that a name means has its size
object_named : (structs : List StructDef) (os : List UnitObject) (texts : List (List ℕ)) (k : ℕ) (ty : CType) → IsTrue (is_object_type structs (type_view ty)) → ObjectIsOfType (slice_get os k) ty
    → IsTrue (has_global_type structs (slice_get (globals structs os texts) k) (type_view ty))
object_named structs os texts k ty lawful of = by (slice_get os k) refl of
  where
    object : IsTrue (is_object structs (type_view ty))
    object = back (is_valid_type structs (type_view ty)) (is_object structs (type_view ty)) (front (is_valid_type structs (type_view ty) && is_object structs (type_view ty)) (nat_le (depth_of structs (type_view ty)) most_depth) lawful)

    by : (o : Option UnitObject) → slice_get os k ≡ o → ObjectIsOfType o ty → IsTrue (has_global_type structs (slice_get (globals structs os texts) k) (type_view ty))
    by None e h = absurd h
    by (Some o) e h =
        let at = (all_there structs os texts).objects k o e in
        subst (λ g. IsTrue (has_global_type structs g (type_view ty))) (sym at.there)
        (also (is_object structs (type_view ty)) (size_of structs (type_view ty) == size_of structs (type_view o.ty)) object ((Decides-eqb (size_of structs (type_view ty)) (size_of structs (type_view o.ty))).1 (ap (size_of structs) (sym h))))

-- ---- functions

builtin_anywhere : (x : Context) (z : Builtin) → callee_signature x (c.Builtin z) ≡ callee_signature (of_structs []) (c.Builtin z)
builtin_anywhere x b.Putchar = refl
builtin_anywhere x b.Getchar = refl
builtin_anywhere x b.Abort = refl
builtin_anywhere x b.Exit = refl

same_result : {k n : ℕ} {of also : CType} {tys others : List CType} → m.Function (c.Function k) of tys ≡ m.Function (c.Function n) also others → (of ≡ also) × (tys ≡ others)
same_result e = (first e, second e)
  where
    first : {k n : ℕ} {of also : CType} {tys others : List CType} → m.Function (c.Function k) of tys ≡ m.Function (c.Function n) also others → of ≡ also
    first e = cc

    second : {k n : ℕ} {of also : CType} {tys others : List CType} → m.Function (c.Function k) of tys ≡ m.Function (c.Function n) also others → tys ≡ others
    second e = cc

module _ (s : UnitSoFar × TagScope) (typed : TypedUnit) (made : TypedIsMadeOf s typed) (locals : List Local) where
  abbrev here : Context
  here = context_with typed locals

  -- the name of a kept function
  pub kept_name : HasNamedFunctions s.0 s.1.1.0 → (k : ℕ) (f : TypedFn) → slice_get typed.functions k ≡ Some f → IsNamed s.1.1.0 (record { number = k; function = f })
  kept_name fs k f e = let kept = made.functions k f e in named_at s.1.1.0 s.0.functions kept.place (record { number = k; function = f }) fs.kept kept.there

  pub function_of : HasNamedFunctions s.0 s.1.1.0 → (q : List ℕ) (k : ℕ) (of : CType) (tys : List CType) → meaning_of s.1.1.0 q ≡ Some (m.Function (c.Function k) of tys) → IsThere typed.functions k
  function_of fs q k of tys e = is_there typed.functions k (subst (λ n. k < n) (sym made.count) (fs.below q k of tys e))

  function_there : HasNamedFunctions s.0 s.1.1.0 → (q : List ℕ) (k : ℕ) (of : CType) (tys : List CType) → meaning_of s.1.1.0 q ≡ Some (m.Function (c.Function k) of tys)
      → slice_get (map signature_of typed.functions) k ≡ Some (record { result = type_view of; params = map type_view tys })
  function_there fs q k of tys e =
      let at = function_of fs q k of tys e in
      let own = kept_name fs k at.it at.there in
      let one = fs.one q at.it.name k of tys own.of own.tys e own.meaning in
      let same = same_result (some_same (sym e ∙ (ap (meaning_of s.1.1.0) one ∙ own.meaning))) in
      mapped signature_of typed.functions k at.it at.there ∙ signature_is at.it own.of own.tys own.result own.parameters same.0 same.1
    where
      signature_is : (f : TypedFn) (also : CType) (others : List CType) → type_view f.result ≡ type_view also → (signature_of f).params ≡ map type_view others → of ≡ also → tys ≡ others
          → Some (signature_of f) ≡ Some (record { result = type_view of; params = map type_view tys })
      signature_is f also others r p u v =
          ap (λ x. Some (record { result = x; params = (signature_of f).params })) (r ∙ ap type_view (sym u))
          ∙ ap (λ x. Some (record { result = type_view of; params = x })) (p ∙ ap (map type_view) (sym v))

  signature_there : HasNamedFunctions s.0 s.1.1.0 → (q : List ℕ) (callee : Callee) (of : CType) (tys : List CType) → meaning_of s.1.1.0 q ≡ Some (m.Function callee of tys) → IsOwnType callee of tys
      → callee_signature here callee ≡ Some (record { result = type_view of; params = map type_view tys })
  signature_there fs q (c.Function k) of tys e own = function_there fs q k of tys e
  signature_there fs q (c.Builtin z) of tys e own = builtin_anywhere here z ∙ own

  name_there : HasNamedFunctions s.0 s.1.1.0 → HasObjects s.0 s.1.1.0 → (q : List ℕ) (x : NameMeaning) → meaning_of s.1.1.0 q ≡ Some x → IsMeant typed.structs x → IsMeaningIn here x
  name_there fs os q m.Faulty e h = tt
  name_there fs os q (m.Undefined number) e h = tt
  name_there fs os q (m.Local number ty) e h = absurd h
  name_there fs os q (m.Object k ty) e h = record {
    named = subst (λ gs. IsTrue (has_global_type typed.structs (slice_get gs k) (type_view ty))) (sym (made.globals ∙ ap (λ d. globals d s.0.objects s.1.1.1.texts) (sym made.structs)))
        (object_named typed.structs s.0.objects s.1.1.1.texts k ty h (os.objects q k ty e));
    type = record { fit = object_fits typed.structs (type_view ty) h; depth = object_depth typed.structs (type_view ty) h };
  }
  name_there fs os q (m.Constant word) e h = h
  name_there fs os q (m.Function callee of tys) e h = record {
    signature = signature_there fs q callee of tys e h.1;
    fit = result_fits typed.structs (type_view of) h.0.result;
    value = result_plain typed.structs (type_view of) h.0.result;
    parameter_types = parameters_fit typed.structs tys h.0.parameters;
  }
  name_there fs os q (m.Typedef ty) e h = tt

  -- all names at the end
  pub names_there : HasNamedFunctions s.0 s.1.1.0 → HasObjects s.0 s.1.1.0 → AreMeant typed.structs s.1.1.0 → HasNames here s.1.1.0
  names_there fs os meant q = by (meaning_of s.1.1.0 q) refl
    where
      by : (o : Option NameMeaning) → meaning_of s.1.1.0 q ≡ o → IsNameIn here o
      by None e = tt
      by (Some x) e = name_there fs os q x e (meant q x e)

-- and before it
pub names_before : (x : Context) (env later : Env) → Keeps env later → HasNames x later → HasNames x env
names_before x env later keeps h q = by (meaning_of env q) refl
  where
    by : (o : Option NameMeaning) → meaning_of env q ≡ o → IsNameIn x o
    by None e = tt
    by (Some y) e = subst (IsNameIn x) (keeps q y e) (h q)

-- ---- texts

text_object : (structs : List StructDef) (n : ℕ) (o : DataObject) → IsTrue (nat_le 1 n) → IsTrue (nat_le n MOST_DATA) → o.size ≡ n → IsTrue (has_global_type structs (Some o) (type_view (text_type n)))
unfolding opens
text_object structs n o some small size =
    also (nat_le 1 n && nat_le (1 * n) MOST_DATA) (1 * n == o.size) (also (nat_le 1 n) (nat_le (1 * n) MOST_DATA) some (subst (λ k. IsTrue (nat_le k MOST_DATA)) (once n) small))
    ((Decides-eqb (1 * n) o.size).1 (sym (once n) ∙ sym size))
  where
    once : (n : ℕ) → n ≡ 1 * n
    once n = omega arith

-- a list of texts whose objects are there by their numbers
have_texts : (x : Context) (number : ℕ) (texts : List (List ℕ)) → AreNotedTexts texts → ((k : ℕ) (text : List ℕ) → slice_get texts k ≡ Some text → HasTextObject x.globals (number + k) text) → HaveTexts x number texts
have_texts x number [] h f = tt
have_texts x number (text ∷ texts) h f = (own, have_texts x (1 + number) texts h.1 (λ k t e. subst (λ n. HasTextObject x.globals n t) (one_more number k) (f (suc k) t e)))
  where
    one_more : (n k : ℕ) → n + suc k ≡ 1 + n + k
    one_more n k = omega arith

    none_more : (n : ℕ) → n + 0 ≡ n
    none_more n = omega arith

    own : IsTextObject x number (length text)
    own =
        let at = f zero text refl in
        subst (λ o. IsTrue (has_global_type x.structs o (type_view (text_type (length text))))) (sym (ap (slice_get x.globals) (sym (none_more number)) ∙ at.there))
        (text_object x.structs (length text) (text_at at.end text) (le-leb 1 (length text) h.0.some) (le-leb (length text) MOST_DATA h.0.small) refl)

pub texts_there : (s : UnitSoFar × TagScope) (typed : TypedUnit) → TypedIsMadeOf s typed → (locals : List Local) → AreNotedTexts s.1.1.1.texts → HaveTexts (context_with typed locals) (length s.0.objects) s.1.1.1.texts
texts_there s typed made locals h =
    have_texts (context_with typed locals) (length s.0.objects) s.1.1.1.texts h
    (λ k text e. subst (λ gs. HasTextObject gs (length s.0.objects + k) text) (sym made.globals) ((all_there s.1.1.1.structs s.0.objects s.1.1.1.texts).strings k text e))

-- the first of them
pub first_texts : (x : Context) (number : ℕ) (texts more : List (List ℕ)) → HaveTexts x number (texts ++ more) → HaveTexts x number texts
first_texts x number [] more h = tt
first_texts x number (text ∷ texts) more h = (h.0, first_texts x (1 + number) texts more h.1)
