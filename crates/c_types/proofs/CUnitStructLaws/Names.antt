-- Names of file scope.
use Rattle.std.proofs.Common.{ℕ, Bool, true, false, IsTrue, List, Option, Some, None, IfSome, is_some, refl, if◌then◌else◌}
use Rattle.c_typed_tree.specs.declared.types.CType.{CType}
use Rattle.c_typed_tree.specs.declared.types.StructDef.{StructDef}
use Rattle.c_typing_rules.specs.declared.c_typing_declared_types.declared.DeclaredType.{DeclaredType}
use Rattle.c_typing_rules.specs.declared.c_typing_declared_types.declared.DeclaredType.TheVariants as d
use Rattle.c_typing_faults.specs.declared.faults.Kind.TheVariants.{Redeclared}
use Rattle.c_typing_scopes.specs.Names.{find}
use Rattle.c_typing_definitions.specs.declared.names.Definitions.{Definitions}
use Rattle.c_typing_state.specs.declared.meanings.NameMeaning.{NameMeaning}
use Rattle.c_typing_state.specs.declared.meanings.NameMeaning.TheVariants as m
use Rattle.c_typing_state.specs.Notes.{with_fault}
use Rattle.c_typing_state.specs.Scopes.{with_meaning, meaning_of}
use Rattle.c_typing_judgements.specs.Types.{JudgementState}
use Rattle.c_typing_unit_names.specs.declared.names.NameDeclaration.{NameDeclaration}
use Rattle.c_typing_unit_names.specs.declared.names.UnitNames.{UnitNames}
use Rattle.c_typing_unit_names.specs.UnitNames.{object_name, function_name, value_name, first_meaning, meaning_before, first_by, follows, known_by, faulty_by, judge_declaration}
use Rattle.c_typing_expression_sound.specs.c_expression_laws.Types.{IsTypeIn, IsTypedefIn}
use Rattle.c_typing_expression_sound.specs.c_note_laws.Steps.{NoteSteps}
use Rattle.c_typing_expression_sound.specs.c_struct_laws.Growth.{Grow}
use Rattle.c_typing_expression_sound.proofs.CStructLaws.Growth.{grow_itself}
use Rattle.c_typing_expression_sound.specs.c_body_laws.Notes.{of_structs, IsWellDeclared, LeadsOn}
use Rattle.c_typing_expression_sound.proofs.CBodyLaws.Types.{leads_itself, leads_steps}

-- what leads on where something is given
pub record LeadsWhere (given : Type 0) (s later : JudgementState) : Type 0 where
  pub grow : Grow s.1.structs later.1.structs
  pub sound : IsWellDeclared s → given → IsWellDeclared later

pub leads_where : (given : Type 0) (s later : JudgementState) → LeadsOn s later → LeadsWhere given s later
leads_where given s later h = record { grow = h.grow; sound = λ w g. h.sound w }

-- the parts of the type of a typedef name are there
abbrev pub HasType : List StructDef → NameDeclaration → Type 0
HasType ds new = IsTrue new.is_typedef → IsTypeIn (of_structs ds) new.ty

abbrev IsIn : List StructDef → NameMeaning → Type 0
IsIn ds meaning = IsTypedefIn (of_structs ds) meaning

object_in : (ds : List StructDef) (defined : Bool) (ty : CType) (u : UnitNames) → IsIn ds (object_name defined ty u).0
object_in ds false ty u = tt
object_in ds true ty u = tt

function_in : (ds : List StructDef) (defined : Bool) (ty : CType) (parameters : List CType) (u : UnitNames) → IsIn ds (function_name defined ty parameters u).0
function_in ds false ty parameters u = tt
function_in ds true ty parameters u = tt

value_in : (structs : List StructDef) (ds : Definitions) (name : List ℕ) (ty : DeclaredType) (u : UnitNames) → IsIn structs (value_name ds name ty u).0
value_in structs ds name (d.Value ty) u = object_in structs (is_some (find name ds.objects)) ty u
value_in structs ds name (d.Unsized element) u = tt
value_in structs ds name (d.Function ty parameters) u = function_in structs (is_some (find name ds.functions)) ty parameters u

meaning_in : (structs : List StructDef) (ds : Definitions) (name : List ℕ) (new : NameDeclaration) (u : UnitNames) → HasType structs new → IsIn structs (first_meaning ds name new u).0
meaning_in structs ds name new u h = choose new.is_typedef h
  where
    choose : (b : Bool) → (IsTrue b → IsTypeIn (of_structs structs) new.ty) → IsIn structs (if b then (m.Typedef new.ty, u) else value_name ds name new.ty u).0
    choose true h = h refl
    choose false h = value_in structs ds name new.ty u

-- a name in front of the others
pub named_leads : (name : List ℕ) (meaning : NameMeaning) (given : Type 0) (s : JudgementState) → (given → IsIn s.1.structs meaning) → LeadsWhere given s (with_meaning name meaning s.0, s.1)
named_leads name meaning given s h = record { grow = grow_itself s.1.structs; sound = λ w g. record { noted = w.noted; typedefs = (h g, w.typedefs) } }

redeclared : (given : Type 0) (at : ℕ) (s : JudgementState) → LeadsWhere given s (s.0, with_fault at Redeclared s.1)
redeclared given at s = leads_where given s (s.0, with_fault at Redeclared s.1) (leads_steps s (s.0, with_fault at Redeclared s.1) refl (NoteSteps.AddsFault at Redeclared))

first_leads : (o : Option NameMeaning) (ds : Definitions) (at : ℕ) (name : List ℕ) (new : NameDeclaration) (u : UnitNames) (s : JudgementState) → LeadsWhere (HasType s.1.structs new) s (first_by (meaning_before o) ds at name new u s).1
first_leads None ds at name new u s = named_leads name (first_meaning ds name new u).0 (HasType s.1.structs new) s (meaning_in s.1.structs ds name new u)
first_leads (Some m.Faulty) ds at name new u s = leads_where (HasType s.1.structs new) s s (leads_itself s)
first_leads (Some (m.Undefined number)) ds at name new u s = redeclared (HasType s.1.structs new) at s
first_leads (Some (m.Local number ty)) ds at name new u s = redeclared (HasType s.1.structs new) at s
first_leads (Some (m.Object number ty)) ds at name new u s = redeclared (HasType s.1.structs new) at s
first_leads (Some (m.Constant word)) ds at name new u s = redeclared (HasType s.1.structs new) at s
first_leads (Some (m.Function callee ty parameters)) ds at name new u s = redeclared (HasType s.1.structs new) at s
first_leads (Some (m.Typedef ty)) ds at name new u s = redeclared (HasType s.1.structs new) at s

known_leads : (o : Option (Option Bool)) (ds : Definitions) (at : ℕ) (name : List ℕ) (new : NameDeclaration) (u : UnitNames) (s : JudgementState) → LeadsWhere (HasType s.1.structs new) s (known_by o ds at name new u s).1
known_leads None ds at name new u s = first_leads (meaning_of s.0 name) ds at name new u s
known_leads (Some None) ds at name new u s = redeclared (HasType s.1.structs new) at s
known_leads (Some (Some has_value)) ds at name new u s = leads_where (HasType s.1.structs new) s s (leads_itself s)

faulty_leads : (o : Option NameMeaning) (name : List ℕ) (given : Type 0) (s : JudgementState) → LeadsWhere given s (faulty_by (meaning_before o) name s.0, s.1)
faulty_leads None name given s = named_leads name m.Faulty given s (λ g. tt)
faulty_leads (Some m.Faulty) name given s = leads_where given s s (leads_itself s)
faulty_leads (Some (m.Undefined number)) name given s = leads_where given s s (leads_itself s)
faulty_leads (Some (m.Local number ty)) name given s = leads_where given s s (leads_itself s)
faulty_leads (Some (m.Object number ty)) name given s = leads_where given s s (leads_itself s)
faulty_leads (Some (m.Constant word)) name given s = leads_where given s s (leads_itself s)
faulty_leads (Some (m.Function callee ty parameters)) name given s = leads_where given s s (leads_itself s)
faulty_leads (Some (m.Typedef ty)) name given s = leads_where given s s (leads_itself s)

abbrev pub GivenHasType : List StructDef → Option NameDeclaration → Type 0
GivenHasType structs new = IfSome new (HasType structs)

pub declaration_leads : (ds : Definitions) (at : ℕ) (name : List ℕ) (new : Option NameDeclaration) (u : UnitNames) (s : JudgementState) → LeadsWhere (GivenHasType s.1.structs new) s (judge_declaration ds at name new u s).1
declaration_leads ds at name None u s = faulty_leads (meaning_of s.0 name) name (Unit {0}) s
declaration_leads ds at name (Some new) u s = known_leads (follows (find name u.declared) new) ds at name new u s
