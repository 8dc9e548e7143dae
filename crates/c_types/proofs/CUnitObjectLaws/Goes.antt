-- Structs grow along declarations, and texts are only added.
use Rattle.std.proofs.Common.{ℕ, Bool, true, false, List, Some, is_some, refl, ◌∙◌}
use Rattle.c_tree.specs.declared.declarations.External.{External}
use Rattle.c_typing_scopes.specs.Names.{find}
use Rattle.c_typing_definitions.specs.declared.names.Definitions.{Definitions}
use Rattle.c_typed_tree.specs.declared.types.CType.{CType}
use Rattle.c_typing_state.specs.declared.env.Env.{Env}
use Rattle.c_typing_state.specs.declared.notes.Notes.{Notes}
use Rattle.c_typing_state.specs.declared.meanings.NameMeaning.{NameMeaning}
use Rattle.c_typing_state.specs.declared.meanings.NameMeaning.TheVariants as m
use Rattle.c_typing_state.specs.Scopes.{with_meaning}
use Rattle.c_typing_judgements.specs.Types.{JudgementState}
use Rattle.c_typing_statements.specs.declared.c_typing_function_bodies.functions.FunctionType.{FunctionType}
use Rattle.c_typing_statements.specs.c_typing_function_bodies.Functions.{judge_function}
use Rattle.c_typing_initialisers.specs.Initialisers.{object_cells}
use Rattle.c_typing_unit_names.specs.declared.names.NameDeclaration.{NameDeclaration}
use Rattle.c_typing_unit_names.specs.declared.names.UnitNames.{UnitNames}
use Rattle.c_typing_unit_names.specs.UnitNames.{object_name, function_name, first_meaning}
use Rattle.c_typing_declarations.specs.Walk.{UnitWalk}
use Rattle.c_typing_declarations.specs.Functions.{function_declared}
use Rattle.c_typing_declarations.specs.Objects.{object_declared}
use Rattle.c_types.specs.c_unit_meaning_laws.Externals.{typedef_of}
use Rattle.c_typing_expression_sound.specs.c_expression_laws.Types.{IsTypedefIn}
use Rattle.c_typing_expression_sound.specs.c_note_laws.Steps.{NoteSteps}
use Rattle.c_typing_expression_sound.proofs.CNoteLaws.Added.{steps_add}
use Rattle.c_typing_function_sound.proofs.CStepLaws.Statements.{function_steps}
use Rattle.c_typing_function_sound.proofs.CStepLaws.Initialisers.{cells_steps}
use Rattle.c_typing_expression_sound.proofs.CStructLaws.Growth.{grow_itself, grow_then}
use Rattle.c_typing_expression_sound.specs.c_body_laws.Notes.{of_structs}
use Rattle.c_typing_expression_sound.proofs.CBodyLaws.Notes.{typedefs_grow, steps_keep}
use Rattle.c_types.specs.c_unit_meaning_laws.Steps.{DeclaresName, First, Again, declared_as}
use Rattle.c_types.specs.c_unit_meaning_laws.Walks.{WalkSteps, Stays, Follows, AddsConstant, AddsNotes, DeclaresType, DeclaresFunction, DefinesFunction, DeclaresObject, InitialisesObject}
use Rattle.c_types.proofs.CUnitMeaningLaws.Texts.{stands_itself, stands_then}
use Rattle.c_types.specs.c_unit_object_laws.Meant.{GoesTo}

goes_itself : (s : JudgementState) → GoesTo s s
goes_itself s = record { grow = grow_itself s.1.structs; declared = λ h. h; texts = stands_itself s.1.texts; first = refl; sized = λ h. h }

pub goes_then : (s u v : JudgementState) → GoesTo s u → GoesTo u v → GoesTo s v
goes_then s u v h g = record {
  grow = grow_then s.1.structs u.1.structs v.1.structs h.grow g.grow;
  declared = λ k. g.declared (h.declared k);
  texts = stands_then s.1.texts u.1.texts v.1.texts h.texts g.texts;
  first = g.first ∙ h.first;
  sized = λ k. g.sized (h.sized k);
}

-- what steps note
pub goes_steps : (env : Env) (n later : Notes) → NoteSteps n later → GoesTo (env, n) (env, later)
goes_steps env n later steps =
    let keeps = steps_keep steps in
    let added = steps_add steps in
    record {
      grow = keeps.grow;
      declared = λ h. record { noted = keeps.noted h.noted; typedefs = typedefs_grow (of_structs n.structs) (of_structs later.structs) keeps.grow env.names h.typedefs };
      texts = added.texts;
      first = added.first;
      sized = added.sized;
    }

-- a name that is added, no typedef name or one of a type that is there
named : (name : List ℕ) (x : NameMeaning) (env : Env) (n : Notes) → IsTypedefIn (of_structs n.structs) x → GoesTo (env, n) (with_meaning name x env, n)
named name x env n h = record {
  grow = grow_itself n.structs;
  declared = λ k. record { noted = k.noted; typedefs = (h, k.typedefs) };
  texts = stands_itself n.texts;
  first = refl;
  sized = λ k. k;
}

pub declared_name_leads : (ds : Definitions) (name : List ℕ) (new : NameDeclaration) (n : Notes) {u names : UnitNames} {env later : Env} → ((u : UnitNames) → IsTypedefIn (of_structs n.structs) (first_meaning ds name new u).0) → DeclaresName ds name new u env names later → GoesTo (env, n) (later, n)
declared_name_leads ds name new n h (First {u = u} {env = env} e free) = named name (first_meaning ds name new u).0 env n (h u)
declared_name_leads ds name new n h (Again {env = env} old e may) = goes_itself (env, n)

pub function_plain : (ds : Definitions) (name : List ℕ) (has_body : Bool) (of : FunctionType) (n : Notes) (u : UnitNames) → IsTypedefIn (of_structs n.structs) (first_meaning ds name (function_declared has_body (declared_as of)) u).0
function_plain ds name has_body of n u = choose (is_some (find name ds.functions))
  where
    choose : (b : Bool) → IsTypedefIn (of_structs n.structs) (function_name b of.result of.parameters u).0
    choose true = tt
    choose false = tt

pub object_plain : (ds : Definitions) (name : List ℕ) (ty : CType) (has_value : Bool) (n : Notes) (u : UnitNames) → IsTypedefIn (of_structs n.structs) (first_meaning ds name (object_declared ty has_value) u).0
object_plain ds name ty has_value n u = choose (is_some (find name ds.objects))
  where
    choose : (b : Bool) → IsTypedefIn (of_structs n.structs) (object_name b ty u).0
    choose true = tt
    choose false = tt

pub steps_go : (ds : Definitions) {es : List External} {w v : UnitWalk} → WalkSteps ds es w v → GoesTo w.1 v.1
steps_go ds (Stays {w = w}) = goes_itself w.1
steps_go ds (Follows {w = w} {x = x} {v = v} h g) = goes_then w.1 x.1 v.1 (steps_go ds h) (steps_go ds g)
steps_go ds (AddsConstant {env = env} {n = n} name word e g) = named name (m.Constant word) env n tt
steps_go ds (AddsNotes g) = record { grow = g.leads.grow; declared = g.leads.sound; texts = g.texts; first = g.first; sized = g.sized }
steps_go ds (DeclaresType {n = n} name ty g h) = declared_name_leads ds name (typedef_of ty) n (λ u. g.there) h
steps_go ds (DeclaresFunction {n = n} name of g h) = declared_name_leads ds name (function_declared false (declared_as of)) n (function_plain ds name false of n) h
steps_go ds (DefinesFunction {env = env} {n = n} {later = later} e of list f g counted h made) =
    let end = (judge_function e (Some of) list (later, n)).1.1 in
    goes_then (env, n) (later, n) (later, end) (declared_name_leads ds e.name (function_declared true (declared_as of)) n (function_plain ds e.name true of n) h) (goes_steps later n end (function_steps e (Some of) list (later, n)))
steps_go ds (DeclaresObject {n = n} name ty g h) = declared_name_leads ds name (object_declared ty false) n (object_plain ds name ty false n) h
steps_go ds (InitialisesObject {env = env} {n = n} {later = later} name ty x cells g h made listed) =
    let end = (object_cells ty x (later, n)).1.1 in
    goes_then (env, n) (later, n) (later, end) (declared_name_leads ds name (object_declared ty true) n (object_plain ds name ty true n) h) (goes_steps later n end (cells_steps ty x (later, n)))
