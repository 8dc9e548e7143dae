-- The declarations of a unit, one after the other.
use Rattle.std.proofs.Common.{ℕ, Bool, true, false, List, [], ◌∷◌, length}
use Rattle.std.proofs.lemmas.List.Elements.{All-nil}
use Rattle.c_tree.specs.declared.declarations.External.{External}
use Rattle.c_tree.specs.declared.declarations.External.TheVariants as x
use Rattle.c_tree.specs.declared.declarations.TranslationUnit.{TranslationUnit}
use Rattle.c_typed_tree.specs.Lawful.{IsLawfulStruct}
use Rattle.c_typing_definitions.specs.declared.names.Definitions.{Definitions}
use Rattle.c_typing_definitions.specs.Definitions.{definitions}
use Rattle.c_typing_judgements.specs.Types.{JudgementState}
use Rattle.c_typing_struct_bodies.specs.Bodies.{TagScope}
use Rattle.c_typing_declarations.specs.declared.walk.UnitSoFar.{UnitSoFar}
use Rattle.c_typing_units.specs.Externals.{typedef_declared, object_with, function_typed, declarator_type, walk_external, externals}
use Rattle.c_typing_units.specs.Units.{unit_start, end_notes, whole_unit}
use Rattle.c_typing_expression_sound.proofs.CStructLaws.Growth.{grow_then}
use Rattle.c_typing_expression_sound.specs.c_body_laws.Notes.{IsWellDeclared, LeadsOn}
use Rattle.c_typing_expression_sound.proofs.CBodyLaws.Types.{leads_itself, leads_then}
use Rattle.c_typing_expression_sound.proofs.CBodyLaws.Bodies.{declared_found}
use Rattle.c_types.proofs.CUnitStructLaws.Declarations.{typedef_leads, object_leads, function_leads}

pub external_leads : (ds : Definitions) (e : External) (s : UnitSoFar × TagScope) → LeadsOn s.1.1 (walk_external ds e s).1.1
external_leads ds (x.Typedef e) s =
    let r = declarator_type e s.1 in
    let found = declared_found e.at e.ty s.1 in
    let rest = typedef_leads ds e.at e.name r.0 (s.0, r.1.1) in
    record {
      grow = grow_then s.1.1.1.structs r.1.1.1.structs (typedef_declared ds e.at e.name r.0 (s.0, r.1.1)).1.1.structs found.leads.grow rest.grow;
      sound = λ h. rest.sound (found.leads.sound h) (found.type h);
    }
external_leads ds (x.Object e storage init) s =
    let r = declarator_type e s.1 in
    leads_then s.1.1 r.1.1 (object_with ds e.at e.name storage init r.0 (s.0, r.1.1)).1 (declared_found e.at e.ty s.1).leads (object_leads ds e.at e.name storage init r.0 (s.0, r.1.1))
external_leads ds (x.Function e storage end) s =
    let r = declarator_type e s.1 in
    leads_then s.1.1 r.1.1 (function_typed ds e storage end r.0 (s.0, r.1.1)).1 (declared_found e.at e.ty s.1).leads (function_leads ds e storage end r.0 (s.0, r.1.1))
external_leads ds (x.Tags storage ty) s = (declared_found 0 ty s.1).leads

pub externals_lead : (ds : Definitions) (es : List External) (s : UnitSoFar × TagScope) → LeadsOn s.1.1 (externals ds es s).1.1
externals_lead ds [] s = leads_itself s.1.1
externals_lead ds (e ∷ es) s = leads_then s.1.1 (walk_external ds e s).1.1 (externals ds es (walk_external ds e s)).1.1 (external_leads ds e s) (externals_lead ds es (walk_external ds e s))

-- ---- whole units

start_declared : (ds : Definitions) → IsWellDeclared (unit_start ds).1.1
start_declared ds = record {
  noted = record { structs = All-nil (IsLawfulStruct []); tags = tt; untagged = tt };
  typedefs = (tt, (tt, (tt, (tt, tt))));
}

-- what is noted at the end is a fault at most
end_declared : (length : ℕ) (has_main : Bool) (s : JudgementState) → IsWellDeclared s → IsWellDeclared (s.0, end_notes length has_main s.1)
end_declared length true s h = record { noted = record { structs = h.noted.structs; tags = h.noted.tags; untagged = h.noted.untagged }; typedefs = h.typedefs }
end_declared length false s h = record { noted = record { structs = h.noted.structs; tags = h.noted.tags; untagged = h.noted.untagged }; typedefs = h.typedefs }

pub unit_declared : (unit : TranslationUnit) → IsWellDeclared (whole_unit unit).1.1
unit_declared unit =
    let ds = definitions unit.externals in
    let behind = externals ds unit.externals (unit_start ds) in
    end_declared unit.length behind.0.has_main behind.1.1 ((externals_lead ds unit.externals (unit_start ds)).sound (start_declared ds))
