-- Each name of file scope means something that is there.
use Rattle.std.proofs.Common.{ℕ, Bool, true, false, List, [], ◌∷◌, is_some, refl, subst}
use Rattle.c_tree.specs.declared.declarations.External.{External}
use Rattle.c_typing_scopes.specs.Names.{find}
use Rattle.c_typing_definitions.specs.declared.names.Definitions.{Definitions}
use Rattle.c_typed_tree.specs.declared.types.CType.{CType}
use Rattle.c_typed_tree.specs.declared.types.CType as t
use Rattle.c_typed_tree.specs.declared.types.StructDef.{StructDef}
use Rattle.c_typed_tree.specs.declared.expressions.Builtin.TheVariants as b
use Rattle.c_typed_tree.specs.declared.expressions.Callee.{Callee}
use Rattle.c_typed_tree.specs.declared.expressions.Callee.TheVariants as c
use Rattle.c_typed_tree.specs.model.View.{opens}
use Rattle.c_typing_rules.specs.Values.{int}
use Rattle.c_typing_state.specs.declared.env.Env.{Env}
use Rattle.c_typing_state.specs.declared.meanings.NameMeaning.{NameMeaning}
use Rattle.c_typing_state.specs.declared.meanings.NameMeaning.TheVariants as m
use Rattle.c_typing_state.specs.Scopes.{with_meaning}
use Rattle.c_typing_statements.specs.declared.c_typing_function_bodies.functions.FunctionType.{FunctionType}
use Rattle.c_typing_unit_names.specs.declared.names.NameDeclaration.{NameDeclaration}
use Rattle.c_typing_unit_names.specs.declared.names.UnitNames.{UnitNames}
use Rattle.c_typing_unit_names.specs.UnitNames.{object_name, function_name, first_meaning}
use Rattle.c_typing_declarations.specs.Walk.{UnitWalk}
use Rattle.c_typing_declarations.specs.Functions.{function_declared}
use Rattle.c_typing_declarations.specs.Objects.{object_declared}
use Rattle.c_types.specs.c_unit_meaning_laws.Externals.{typedef_of}
use Rattle.c_types.specs.c_unit_meaning_laws.Builtins.{builtins}
use Rattle.c_types.specs.c_unit_meaning_laws.Units.{unit_start}
use Rattle.c_typing_expression_sound.specs.c_struct_laws.Growth.{Grow}
use Rattle.c_typing_expression_sound.proofs.CStructLaws.Growth.{grow_then}
use Rattle.c_types.specs.c_unit_meaning_laws.Steps.{DeclaresName, First, Again, declared_as}
use Rattle.c_types.specs.c_unit_meaning_laws.Walks.{IsObjectType, IsGivenType, WalkSteps, Stays, Follows, AddsConstant, AddsNotes, DeclaresType, DeclaresFunction, DefinesFunction, DeclaresObject, InitialisesObject}
use Rattle.c_types.proofs.CUnitMeaningLaws.Names.{none_some, meant_by}
use Rattle.c_types.specs.c_unit_object_laws.Meant.{IsMeant, AreMeant}
use Rattle.c_types.proofs.CUnitObjectLaws.Goes.{steps_go}
use Rattle.c_types.proofs.CUnitObjectLaws.Types.{object_stays, callable_stays}

more_meant : (structs : List StructDef) (name : List ℕ) (x : NameMeaning) (env : Env) → IsMeant structs x → AreMeant structs env → AreMeant structs (with_meaning name x env)
more_meant structs name x env own h q y = meant_by name x env q y (λ same e. subst (IsMeant structs) e own) (λ differs e. h q y e)

declared_meant : (ds : Definitions) (structs : List StructDef) (name : List ℕ) (new : NameDeclaration) {u names : UnitNames} {env later : Env} → ((u : UnitNames) → IsMeant structs (first_meaning ds name new u).0) → DeclaresName ds name new u env names later → AreMeant structs env → AreMeant structs later
declared_meant ds structs name new own (First {u = u} {env = env} e free) h = more_meant structs name (first_meaning ds name new u).0 env (own u) h
declared_meant ds structs name new own (Again old e may) h = h

object_meant : (ds : Definitions) (structs known : List StructDef) (name : List ℕ) (ty : CType) (has_value : Bool) → IsObjectType known ty → Grow known structs → (u : UnitNames) → IsMeant structs (first_meaning ds name (object_declared ty has_value) u).0
object_meant ds structs known name ty has_value h g u = choose (is_some (find name ds.objects))
  where
    choose : (z : Bool) → IsMeant structs (object_name z ty u).0
    choose true = object_stays known structs g ty h
    choose false = tt

function_meant : (ds : Definitions) (structs known : List StructDef) (name : List ℕ) (of : FunctionType) (has_body : Bool) → IsGivenType known (declared_as of) → Grow known structs → (u : UnitNames)
    → IsMeant structs (first_meaning ds name (function_declared has_body (declared_as of)) u).0
function_meant ds structs known name of has_body h g u = choose (is_some (find name ds.functions))
  where
    choose : (z : Bool) → IsMeant structs (function_name z of.result of.parameters u).0
    choose true = (callable_stays known structs g of.result of.parameters h, tt)
    choose false = tt

pub steps_meant : (ds : Definitions) (structs : List StructDef) {es : List External} {w v : UnitWalk} → WalkSteps ds es w v → Grow v.1.1.structs structs → AreMeant structs w.1.0 → AreMeant structs v.1.0
steps_meant ds structs Stays g h = h
steps_meant ds structs (Follows {x = x} {v = v} one two) g h = steps_meant ds structs two g (steps_meant ds structs one (grow_then x.1.1.structs v.1.1.structs structs (steps_go ds two).grow g) h)
steps_meant ds structs (AddsConstant {env = env} name word e k) g h = more_meant structs name (m.Constant word) env k h
steps_meant ds structs (AddsNotes k) g h = h
steps_meant ds structs (DeclaresType name ty k r) g h = declared_meant ds structs name (typedef_of ty) (λ u. tt) r h
steps_meant ds structs (DeclaresFunction {n = n} name of k r) g h = declared_meant ds structs name (function_declared false (declared_as of)) (function_meant ds structs n.structs name of false k g) r h
steps_meant ds structs {es = es} (DefinesFunction {u = u} {env = env} {n = n} {names = names} {later = later} e of list f k counted r made) g h =
    let step = steps_go ds {es = es} (DefinesFunction {u = u} {env = env} {n = n} {names = names} {later = later} e of list f k counted r made) in
    declared_meant ds structs e.name (function_declared true (declared_as of)) (function_meant ds structs n.structs e.name of true k (grow_then n.structs _ structs step.grow g)) r h
steps_meant ds structs (DeclaresObject {n = n} name ty k r) g h = declared_meant ds structs name (object_declared ty false) (object_meant ds structs n.structs name ty false k g) r h
steps_meant ds structs {es = es} (InitialisesObject {u = u} {env = env} {n = n} {names = names} {later = later} name ty x cells k r made listed) g h =
    let step = steps_go ds {es = es} (InitialisesObject {u = u} {env = env} {n = n} {names = names} {later = later} name ty x cells k r made listed) in
    declared_meant ds structs name (object_declared ty true) (object_meant ds structs n.structs name ty true k (grow_then n.structs _ structs step.grow g)) r h

-- ---- before the first declaration

record EnvIsMeant (structs : List StructDef) (env : Env) : Type 0 where
  meant : AreMeant structs env

builtin_meant : (structs : List StructDef) (name : List ℕ) (callee : Callee) (of : CType) (tys : List CType) (env : Env) → IsMeant structs (m.Function callee of tys) → EnvIsMeant structs env → EnvIsMeant structs (with_meaning name (m.Function callee of tys) env)
builtin_meant structs name callee of tys env own h = record { meant = more_meant structs name (m.Function callee of tys) env own h.meant }

exit_meant : (structs : List StructDef) → IsMeant structs (m.Function (c.Builtin b.Exit) t.Void (int ∷ []))
unfolding opens
exit_meant structs = (record { result = refl; parameters = refl }, refl)

abort_meant : (structs : List StructDef) → IsMeant structs (m.Function (c.Builtin b.Abort) t.Void [])
unfolding opens
abort_meant structs = (record { result = refl; parameters = refl }, refl)

getchar_meant : (structs : List StructDef) → IsMeant structs (m.Function (c.Builtin b.Getchar) int [])
unfolding opens
getchar_meant structs = (record { result = refl; parameters = refl }, refl)

putchar_meant : (structs : List StructDef) → IsMeant structs (m.Function (c.Builtin b.Putchar) int (int ∷ []))
unfolding opens
putchar_meant structs = (record { result = refl; parameters = refl }, refl)

nothing_meant : (structs : List StructDef) → EnvIsMeant structs (record { names = []; outside = 0 })
nothing_meant structs = record { meant = λ q x e. none_some e }

all_meant : (structs : List StructDef) → EnvIsMeant structs builtins.1
all_meant structs =
    builtin_meant structs _ _ _ _ _ (exit_meant structs) (builtin_meant structs _ _ _ _ _ (abort_meant structs)
    (builtin_meant structs _ _ _ _ _ (getchar_meant structs) (builtin_meant structs _ _ _ _ _ (putchar_meant structs) (nothing_meant structs))))

pub start_meant : (ds : Definitions) (structs : List StructDef) → AreMeant structs (unit_start ds).1.1.0
start_meant ds structs = (all_meant structs).meant
