-- All objects that a unit defines have a number.
use Rattle.std.proofs.Common.{◌≡◌, ℕ, Bool, true, false, IsTrue, List, [], ◌∷◌, length, bytes_eq, Option, Some, is_some, refl, sym, ◌∙◌, subst, if◌then◌else◌}
use Rattle.std.specs.Option.{option_map}
use Rattle.std.proofs.lemmas.Slice.Eq.{bytes_eq-Decides}
use Rattle.c_typing_scopes.specs.Names.{find}
use Rattle.c_tree.specs.declared.types.Declaration.{Declaration}
use Rattle.c_tree.specs.declared.declarations.Init.{Init}
use Rattle.c_tree.specs.declared.declarations.Storage.{Storage}
use Rattle.c_tree.specs.declared.declarations.FunctionEnd.{FunctionEnd}
use Rattle.c_tree.specs.declared.declarations.FunctionEnd.TheVariants as f
use Rattle.c_tree.specs.declared.declarations.External.{External}
use Rattle.c_tree.specs.declared.declarations.External.TheVariants as x
use Rattle.c_tree.specs.declared.declarations.TranslationUnit.{TranslationUnit}
use Rattle.c_typing_definitions.specs.declared.names.Definitions.{Definitions}
use Rattle.c_typing_definitions.specs.Definitions.{NameSet, is_function, is_definition, typedef_seen, object_seen, function_seen, add_external, defined_behind, definitions, nothing_defined, with_function_type, with_object}
use Rattle.c_typing_definitions.specs.Definitions as defined
use Rattle.c_typing_rules.specs.declared.c_typing_declared_types.declared.DeclaredType.TheVariants as d
use Rattle.c_typed_tree.specs.declared.types.CType.{CType}
use Rattle.c_typed_tree.specs.declared.expressions.Builtin.{Builtin}
use Rattle.c_typed_tree.specs.declared.expressions.Callee.TheVariants as c
use Rattle.c_typing_state.specs.declared.env.Env.{Env}
use Rattle.c_typing_state.specs.declared.meanings.NameMeaning.TheVariants as m
use Rattle.c_typing_state.specs.Scopes.{meaning_of}
use Rattle.c_typing_judgements.specs.Types.{JudgementState}
use Rattle.c_typing_struct_bodies.specs.Bodies.{TagScope}
use Rattle.c_typing_unit_names.specs.declared.names.NameDeclaration.{NameDeclaration}
use Rattle.c_typing_unit_names.specs.declared.names.UnitNames.{UnitNames}
use Rattle.c_typing_declarations.specs.declared.walk.UnitSoFar.{UnitSoFar}
use Rattle.c_types.specs.c_found_unit_laws.Externals.{declarator_type, walk_external, externals}
use Rattle.c_types.specs.c_found_unit_laws.Builtins.{no_names, builtin_declared, builtins}
use Rattle.c_types.specs.c_found_unit_laws.Units.{unit_start, whole_unit}
use Rattle.c_typing_expression_sound.proofs.CTypeLaws.Truth.{no_true}
use Rattle.c_typing_expression_sound.specs.c_found_laws.Laws.{Tells}
use Rattle.c_typing_expression_sound.proofs.CFoundLaws.Forms.{tells_none, tells_as, tells_both}
use Rattle.c_types.specs.c_found_unit_laws.Steps.{UnitSteps}
use Rattle.c_types.proofs.CFoundUnitLaws.Externals.{external_tells, steps_outside, externals_tell}
use Rattle.c_types.proofs.CFoundUnitLaws.Units.{clean_unit, unit_steps}
use Rattle.c_types.proofs.CObjectCountLaws.Counts.{is_none, is_object, AreDistinct, steps_count, count_all, count_none}
use Rattle.c_types.proofs.CObjectCountLaws.ObjectNames.{declares_object, is_of_object_in, steps_mean, steps_keep_object}
use Rattle.c_types.proofs.CObjectCountLaws.Typedefs.{is_function_name, is_function_found, AreKnown, type_found, external_known}
use Rattle.c_types.proofs.CObjectCountLaws.Objects.{external_declares}

-- ---- objects that definitions know are declared as such

abbrev HoldsObject : Definitions → External → UnitNames → Type 0
HoldsObject d (x.Typedef e) names = Unit {0}
HoldsObject d (x.Object e storage init) names = is_function d.function_types e.ty ≡ false → IsTrue (declares_object e.name names)
HoldsObject d (x.Function e storage end) names = Unit {0}
HoldsObject d (x.Tags storage ty) names = Unit {0}

-- each by what was defined before it
abbrev AllObjects : Definitions → List External → UnitNames → Type 0
AllObjects d [] names = Unit {0}
AllObjects d (e ∷ es) names = HoldsObject d e names × AllObjects (add_external e d) es names

tells_pair : {X Y : Type 0} (s v : JudgementState) → Tells X s v → Tells Y s v → Tells (X × Y) s v
tells_pair s v h g = record { before = h.before; stays = h.stays; found = λ t k. (h.found t k, g.found t k) }

module _ (ds : Definitions) where
  not_found : (b : Bool) (c : Bool) → (IsTrue b → IsTrue c) → c ≡ false → b ≡ false
  not_found true c h e = no_true (sym e ∙ h refl)
  not_found false c h e = refl

  external_holds : (d : Definitions) (e : External) (t : UnitSoFar × TagScope) → AreKnown d.function_types t.1.1.0 → (let v = walk_external ds e t in Tells (HoldsObject d e v.0.names) t.1.1 v.1.1)
  external_holds d (x.Typedef e) t h = let v = walk_external ds (x.Typedef e) t in tells_as t.1.1 v.1.1 (λ y. tt) (external_tells ds (x.Typedef e) t)
  external_holds d (x.Object e storage init) t h =
      let v = walk_external ds (x.Object e storage init) t in
      tells_as t.1.1 v.1.1 (λ y none. y (not_found (is_function_found (declarator_type e t.1).0) (is_function d.function_types e.ty) (type_found d.function_types e.at e.ty t.1 h) none)) (external_declares ds e storage init t)
  external_holds d (x.Function e storage end) t h = let v = walk_external ds (x.Function e storage end) t in tells_as t.1.1 v.1.1 (λ y. tt) (external_tells ds (x.Function e storage end) t)
  external_holds d (x.Tags storage ty) t h = let v = walk_external ds (x.Tags storage ty) t in tells_as t.1.1 v.1.1 (λ y. tt) (external_tells ds (x.Tags storage ty) t)

  holds_later : (d : Definitions) (e : External) {u v : UnitSoFar} {env later : Env} → UnitSteps ds u env v later → HoldsObject d e u.names → HoldsObject d e v.names
  holds_later d (x.Typedef e) steps h = tt
  holds_later d (x.Object e storage init) steps h = λ none. steps_keep_object ds e.name steps (h none)
  holds_later d (x.Function e storage end) steps h = tt
  holds_later d (x.Tags storage ty) steps h = tt

  externals_hold : (d : Definitions) (es : List External) (t : UnitSoFar × TagScope) → AreKnown d.function_types t.1.1.0 → (let v = externals ds es t in Tells (t.1.1.0.outside ≡ 0 → AllObjects d es v.0.names) t.1.1 v.1.1)
  externals_hold d [] t h = tells_none t.1.1 (λ file. tt)
  externals_hold d (e ∷ es) t h =
      let u = walk_external ds e t in
      let v = externals ds es u in
      tells_both t.1.1 u.1.1 v.1.1
      (λ y z file. let inside = steps_outside ds (y.1 file).0 ∙ file in (holds_later d e (z.0 inside).0 y.0, z.1 inside))
      (tells_pair t.1.1 u.1.1 (external_holds d e t h) (external_tells ds e t))
      (tells_pair u.1.1 v.1.1 (externals_tell ds es u) (externals_hold (add_external e d) es u (external_known ds e d t h)))

-- ---- what is defined

abbrev HasObjects : NameSet → UnitNames → Type 0
HasObjects ns names = (q : List ℕ) → IsTrue (is_some (find q ns)) → IsTrue (declares_object q names)

defined_here : (q name : List ℕ) (ns : NameSet) (names : UnitNames) → IsTrue (declares_object name names) → (IsTrue (is_some (find q ns)) → IsTrue (declares_object q names)) → IsTrue (is_some (find q (defined.add_to_names name ns))) → IsTrue (declares_object q names)
defined_here q name ns names h g = either (is_some (find name ns))
  where
    own : (b : Bool) → bytes_eq q name ≡ b → IsTrue (is_some (if b then Some (length ns, tt {0}) else find q ns)) → IsTrue (declares_object q names)
    own true e k = subst (λ n. IsTrue (declares_object n names)) (sym ((bytes_eq-Decides q name).0 e)) h
    own false e k = g k

    either : (b : Bool) → IsTrue (is_some (find q (if b then ns else record { name = name; value = tt {0} } ∷ ns))) → IsTrue (declares_object q names)
    either true k = g k
    either false k = own (bytes_eq q name) refl k

typedef_same : (e : Declaration) (d : Definitions) → (typedef_seen e d).objects ≡ d.objects
typedef_same e d = either (is_function d.function_types e.ty)
  where
    either : (b : Bool) → (if b then with_function_type e.name d else d).objects ≡ d.objects
    either true = refl
    either false = refl

function_same : (e : Declaration) (end : FunctionEnd) (d : Definitions) → (function_seen e end d).objects ≡ d.objects
function_same e f.Nothing d = refl
function_same e (f.Init init) d = refl
function_same e (f.Body list) d = refl

object_seen_holds : (e : Declaration) (storage : Option Storage) (init : Option Init) (d : Definitions) (names : UnitNames) → HoldsObject d (x.Object e storage init) names → HasObjects d.objects names → HasObjects (object_seen e storage init d).objects names
object_seen_holds e storage init d names h g = either (is_function d.function_types e.ty) refl (is_definition storage init)
  where
    either : (b : Bool) → is_function d.function_types e.ty ≡ b → (c : Bool) → HasObjects (if b then d else if c then with_object e.name d else d).objects names
    either true none c = g
    either false none true = λ q. defined_here q e.name d.objects names (h none) (g q)
    either false none false = g

seen_holds : (e : External) (d : Definitions) (names : UnitNames) → HoldsObject d e names → HasObjects d.objects names → HasObjects (add_external e d).objects names
seen_holds (x.Typedef e) d names h g = subst (λ ns. HasObjects ns names) (sym (typedef_same e d)) g
seen_holds (x.Object e storage init) d names h g = object_seen_holds e storage init d names h g
seen_holds (x.Function e storage end) d names h g = subst (λ ns. HasObjects ns names) (sym (function_same e end d)) g
seen_holds (x.Tags storage ty) d names h g = g

all_objects : (es : List External) (d : Definitions) (names : UnitNames) → AllObjects d es names → HasObjects d.objects names → HasObjects (defined_behind es d).objects names
all_objects [] d names h g = g
all_objects (e ∷ es) d names h g = all_objects es (add_external e d) names h.1 (seen_holds e d names h.0 g)

-- each name once
name_distinct : (name : List ℕ) (ns : NameSet) → AreDistinct ns → AreDistinct (defined.add_to_names name ns)
name_distinct name ns h = choose (is_some (find name ns)) refl
  where
    choose : (b : Bool) → is_some (find name ns) ≡ b → AreDistinct (if b then ns else record { name = name; value = tt {0} } ∷ ns)
    choose true e = h
    choose false e = (is_none (find name ns) e, h)

object_distinct : (e : Declaration) (storage : Option Storage) (init : Option Init) (d : Definitions) → AreDistinct d.objects → AreDistinct (object_seen e storage init d).objects
object_distinct e storage init d h = either (is_function d.function_types e.ty) (is_definition storage init)
  where
    either : (b c : Bool) → AreDistinct (if b then d else if c then with_object e.name d else d).objects
    either true c = h
    either false true = name_distinct e.name d.objects h
    either false false = h

seen_distinct : (e : External) (d : Definitions) → AreDistinct d.objects → AreDistinct (add_external e d).objects
seen_distinct (x.Typedef e) d h = subst AreDistinct (sym (typedef_same e d)) h
seen_distinct (x.Object e storage init) d h = object_distinct e storage init d h
seen_distinct (x.Function e storage end) d h = subst AreDistinct (sym (function_same e end d)) h
seen_distinct (x.Tags storage ty) d h = h

all_distinct : (es : List External) (d : Definitions) → AreDistinct d.objects → AreDistinct (defined_behind es d).objects
all_distinct [] d h = h
all_distinct (e ∷ es) d h = all_distinct es (add_external e d) (seen_distinct e d h)

-- ---- before the first declaration

-- no built-in function is an object or a typedef name
record HasFunctions (u : UnitNames) (env : Env) : Type 0 where
  declared : (q : List ℕ) → declares_object q u ≡ false
  objects : (q : List ℕ) → is_object (meaning_of env q) ≡ false
  typedefs : (q : List ℕ) → is_function_name (meaning_of env q) ≡ false

builtin_there : (name : List ℕ) (b : Builtin) (of : CType) (tys : List CType) (r : UnitNames × Env) → HasFunctions r.0 r.1 → (let v = builtin_declared name b of tys r in HasFunctions v.0 v.1)
builtin_there name b of tys r h = record { declared = λ q. kind q (bytes_eq q name); objects = λ q. object q (bytes_eq q name); typedefs = λ q. typedef_name q (bytes_eq q name) }
  where
    a : NameDeclaration
    a = record { is_typedef = false; ty = d.Function of tys; has_value = true }

    kind : (q : List ℕ) (y : Bool) → is_of_object_in (if y then Some (length r.0.declared, a) else find q r.0.declared) ≡ false
    kind q true = refl
    kind q false = h.declared q

    object : (q : List ℕ) (y : Bool) → is_object (option_map (λ r. r.1) (if y then Some (length r.1.names, m.Function (c.Builtin b) of tys) else find q r.1.names)) ≡ false
    object q true = refl
    object q false = h.objects q

    typedef_name : (q : List ℕ) (y : Bool) → is_function_name (option_map (λ r. r.1) (if y then Some (length r.1.names, m.Function (c.Builtin b) of tys) else find q r.1.names)) ≡ false
    typedef_name q true = refl
    typedef_name q false = h.typedefs q

no_builtins : HasFunctions no_names (record { names = []; outside = 0 })
no_builtins = record { declared = λ q. refl; objects = λ q. refl; typedefs = λ q. refl }

all_builtins : HasFunctions builtins.0 builtins.1
all_builtins =
    builtin_there _ _ _ _ _ (builtin_there _ _ _ _ _ (builtin_there _ _ _ _ _ (builtin_there _ _ _ _ _ no_builtins)))

-- ---- at the end

abbrev LastOfUnit : TranslationUnit → UnitSoFar × TagScope
LastOfUnit unit = externals (definitions unit.externals) unit.externals (unit_start (definitions unit.externals))

all_hold : (unit : TranslationUnit) → (whole_unit unit).1.1.1.faults ≡ [] → AllObjects nothing_defined unit.externals (LastOfUnit unit).0.names
all_hold unit e =
    let ds = definitions unit.externals in
    (externals_hold ds nothing_defined unit.externals (unit_start ds) (λ q h. no_true (sym (all_builtins.typedefs q) ∙ h))).found (clean_unit unit e) (refl, refl) refl

pub objects_counted : (unit : TranslationUnit) → (whole_unit unit).1.1.1.faults ≡ [] → (whole_unit unit).0.names.objects ≡ length (definitions unit.externals).objects
objects_counted unit e =
    let ds = definitions unit.externals in
    let v = LastOfUnit unit in
    let steps = (unit_steps unit e).0 in
    let apart = all_distinct unit.externals nothing_defined tt in
    let names = all_objects unit.externals nothing_defined v.0.names (all_hold unit e) (λ q h. no_true h) in
    let means = steps_mean ds steps (λ q h g. no_true (sym (all_builtins.declared q) ∙ h)) in
    steps_count ds apart steps (sym (count_none builtins.1 ds.objects all_builtins.objects)) ∙ count_all v.1.1.0 ds.objects apart (λ q h. means q (names q h) h)
