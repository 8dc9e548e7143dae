-- A unit without faults has a tree for each of its functions.
use Rattle.std.proofs.Common.{◌≡◌, ℕ, zero, suc, ◌+◌, ◌<◌, ◌≤◌, ◌==◌, Bool, true, false, not, ◌&&◌, ◌||◌, IsTrue, List, [], ◌∷◌, ◌++◌, length, slice_get, slice_set, replicate, bytes_eq, codes, Option, Some, None, is_some, refl, sym, ap, ◌∙◌, subst, arith, if◌then◌else◌}
use Rattle.std.specs.Option.{option_map}
use Rattle.std.specs.List.{list_all, list_any}
use Rattle.std.proofs.lemmas.Slice.Eq.{bytes_eq-Decides}
use Rattle.std.proofs.lemmas.Bool.Decides.{Decides-eqb}
use Rattle.c_tree.specs.declared.declarations.TranslationUnit.{TranslationUnit}
use Rattle.c_tree.specs.declared.declarations.External.{External}
use Rattle.c_tree.specs.declared.declarations.External.TheVariants as x
use Rattle.c_tree.specs.declared.declarations.FunctionEnd.TheVariants as f
use Rattle.c_tree.specs.declared.declarations.Storage.{Storage}
use Rattle.c_tree.specs.declared.declarations.Init.{Init}
use Rattle.c_tree.specs.declared.types.Declaration.{Declaration}
use Rattle.c_typing_scopes.specs.Names.{Entry, find}
use Rattle.c_typing_definitions.specs.declared.names.Definitions.{Definitions}
use Rattle.c_typing_definitions.specs.Definitions.{NameSet, add_to_names, nothing_defined, with_function_type, with_function, with_object, is_function, typedef_seen, is_definition, object_seen, function_seen, add_external, defined_behind, definitions}
use Rattle.c_typing_faults.specs.declared.faults.Fault.{Fault}
use Rattle.c_typing_faults.specs.declared.faults.Kind.TheVariants.{MissingMain}
use Rattle.c_typing_faults.specs.Faults.{sort_faults, head}
use Rattle.c_typed_tree.specs.declared.units.TypedFn.{TypedFn}
use Rattle.c_typing_state.specs.declared.env.Env.{Env}
use Rattle.c_typing_state.specs.declared.meanings.Use.{Use}
use Rattle.c_typing_state.specs.declared.notes.Notes.{Notes}
use Rattle.c_typing_state.specs.Checks.{append_part}
use Rattle.c_typing_struct_bodies.specs.Bodies.{TagScope}
use Rattle.c_typing_unit_names.specs.declared.names.UnitNames.{UnitNames}
use Rattle.c_typing_declarations.specs.declared.walk.UnitFunction.{UnitFunction}
use Rattle.c_typing_declarations.specs.declared.walk.UnitSoFar.{UnitSoFar}
use Rattle.c_typing_units.specs.Externals.{externals}
use Rattle.c_typing_units.specs.Undefined.{use_fault, with_uses, undefined_noted}
use Rattle.c_typing_units.specs.Units.{unit_start, main_missed, end_notes, whole_unit, faults_of}
use Rattle.c_typing_expression_sound.proofs.CTypeLaws.Truth.{no_true, front, back, also}
use Rattle.c_typing_expression_sound.specs.c_found_laws.Laws.{IsClean}
use Rattle.c_types.specs.c_found_unit_laws.Laws.{is_tree_kept}
use Rattle.c_types.specs.c_found_unit_laws.Steps.{UnitSteps}
use Rattle.c_types.specs.model.c_found_unit_laws.Bodies.{has_body}
use Rattle.c_types.proofs.CFoundUnitLaws.Externals.{Holds, AllHold, externals_tell}
use Rattle.c_types.proofs.CFoundUnitLaws.Numbers.{HasFunctions, steps_keep_functions, all_kept, start_functions}

-- ---- what is defined has a body

defined_here : (q name : List ℕ) (ns : NameSet) (names : UnitNames) → IsTrue (has_body name names) → (IsTrue (is_some (find q ns)) → IsTrue (has_body q names)) → IsTrue (is_some (find q (add_to_names name ns))) → IsTrue (has_body q names)
defined_here q name ns names h f = either (is_some (find name ns))
  where
    own : (b : Bool) → bytes_eq q name ≡ b → IsTrue (is_some (if b then Some (length ns, tt {0}) else find q ns)) → IsTrue (has_body q names)
    own true e g = subst (λ n. IsTrue (has_body n names)) (sym ((bytes_eq-Decides q name).0 e)) h
    own false e g = f g

    either : (b : Bool) → IsTrue (is_some (find q (if b then ns else record { name = name; value = tt {0} } ∷ ns))) → IsTrue (has_body q names)
    either true g = f g
    either false g = own (bytes_eq q name) refl g

-- each name that a list of functions has
abbrev HasBodies : NameSet → UnitNames → Type 0
HasBodies ns names = (q : List ℕ) → IsTrue (is_some (find q ns)) → IsTrue (has_body q names)

typedef_same : (e : Declaration) (d : Definitions) → (typedef_seen e d).functions ≡ d.functions
typedef_same e d = either (is_function d.function_types e.ty)
  where
    either : (b : Bool) → (if b then with_function_type e.name d else d).functions ≡ d.functions
    either true = refl
    either false = refl

object_same : (e : Declaration) (storage : Option Storage) (init : Option Init) (d : Definitions) → (object_seen e storage init d).functions ≡ d.functions
object_same e storage init d = either (is_function d.function_types e.ty) (is_definition storage init)
  where
    either : (b c : Bool) → (if b then d else if c then with_object e.name d else d).functions ≡ d.functions
    either true c = refl
    either false true = refl
    either false false = refl

seen_bodies : (e : External) (d : Definitions) (names : UnitNames) → Holds e names → HasBodies d.functions names → HasBodies (add_external e d).functions names
seen_bodies (x.Typedef e) d names h g = subst (λ ns. HasBodies ns names) (sym (typedef_same e d)) g
seen_bodies (x.Object e storage init) d names h g = subst (λ ns. HasBodies ns names) (sym (object_same e storage init d)) g
seen_bodies (x.Function e storage f.Nothing) d names h g = g
seen_bodies (x.Function e storage (f.Init init)) d names h g = g
seen_bodies (x.Function e storage (f.Body list)) d names h g = λ q. defined_here q e.name d.functions names h (g q)
seen_bodies (x.Tags storage ty) d names h g = g

all_bodies : (es : List External) (d : Definitions) (names : UnitNames) → AllHold es names → HasBodies d.functions names → HasBodies (defined_behind es d).functions names
all_bodies [] d names h g = g
all_bodies (e ∷ es) d names h g = all_bodies es (add_external e d) names h.1 (seen_bodies e d names h.0 g)

-- ---- nothing is noted at the end

more_is_not : {A X : Type 0} (xs : List A) (x : A) → xs ++ x ∷ [] ≡ [] → X
more_is_not [] x e = let clash : ⊥ = cc in absurd clash
more_is_not (y ∷ ys) x e = let clash : ⊥ = cc in absurd clash

-- faults that are there stay
uses_faults : (us : List Use) (faults : List Fault) → with_uses us faults ≡ [] → faults ≡ []
uses_faults [] faults e = e
uses_faults (u ∷ us) faults e = more_is_not faults (use_fault u) (uses_faults us (faults ++ use_fault u ∷ []) e)

-- each use is a fault
no_uses : (us : List Use) (faults : List Fault) → with_uses us faults ≡ [] → us ≡ []
no_uses [] faults e = refl
no_uses (u ∷ us) faults e = more_is_not faults (use_fault u) (uses_faults us (faults ++ use_fault u ∷ []) e)

clean_before : (n : Notes) → (undefined_noted n).faults ≡ [] → IsClean n
clean_before n e = (uses_faults n.uses n.faults e, no_uses n.uses n.faults e)

main_before : (size : ℕ) (has_main : Bool) (n : Notes) → (main_missed size has_main n).faults ≡ [] → n.faults ≡ []
main_before size true n e = e
main_before size false n e = more_is_not n.faults (record { at = size; kind = MissingMain }) e

-- ---- the end of a unit

abbrev LastOfUnit : TranslationUnit → UnitSoFar × TagScope
LastOfUnit unit = externals (definitions unit.externals) unit.externals (unit_start (definitions unit.externals))

pub clean_unit : (unit : TranslationUnit) → (whole_unit unit).1.1.1.faults ≡ [] → IsClean (LastOfUnit unit).1.1.1
clean_unit unit e = clean_before (LastOfUnit unit).1.1.1 (main_before unit.length (LastOfUnit unit).0.has_main (undefined_noted (LastOfUnit unit).1.1.1) e)

pub unit_steps : (unit : TranslationUnit) → (whole_unit unit).1.1.1.faults ≡ [] → (let ds = definitions unit.externals in let s = unit_start ds in let v = LastOfUnit unit in UnitSteps ds s.0 s.1.1.0 v.0 v.1.1.0 × AllHold unit.externals v.0.names)
unit_steps unit e =
    let ds = definitions unit.externals in
    (externals_tell ds unit.externals (unit_start ds)).found (clean_unit unit e) (refl, refl) refl

-- each function that has a number was kept
pub functions_kept : (unit : TranslationUnit) → (whole_unit unit).1.1.1.faults ≡ [] → (k : ℕ) → k < (whole_unit unit).0.names.functions → IsTrue (is_tree_kept (whole_unit unit).0.functions k)
functions_kept unit e =
    let ds = definitions unit.externals in
    let r = unit_steps unit e in
    all_kept ds (LastOfUnit unit).0 (LastOfUnit unit).1.1.0 (steps_keep_functions ds r.0 (start_functions ds)) (all_bodies unit.externals nothing_defined (LastOfUnit unit).0.names r.1 (λ q h. no_true h))
