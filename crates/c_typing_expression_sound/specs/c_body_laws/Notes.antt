-- What holds of the notes, and of the names in scope, between any two declarations (C99 6.7.2).
use Rattle.std.specs.Prelude.{List, [], All, Option, IfSome}
use Rattle.c_typed_tree.specs.declared.types.StructDef.{StructDef}
use Rattle.c_typed_tree.specs.Typing.{Context}
use Rattle.c_typed_tree.specs.Lawful.{IsLawfulStruct}
use Rattle.c_typing_rules.specs.declared.c_typing_declared_types.declared.DeclaredType.{DeclaredType}
use Rattle.c_typing_state.specs.declared.notes.Notes.{Notes}
use Rattle.c_typing_judgements.specs.Types.{JudgementState}
use Rattle.c_typing_expression_sound.specs.c_judgement_laws.Covers.{AreTagsIn, IsUntaggedIn}
use Rattle.c_typing_expression_sound.specs.c_expression_laws.Types.{IsTypeIn, HasTypedefs}
use Rattle.c_typing_expression_sound.specs.c_struct_laws.Growth.{Grow}

-- structs alone
abbrev pub of_structs : List StructDef → Context
of_structs ds = record { structs = ds; globals = []; functions = []; locals = [] }

-- each struct is lawful, and the structs of tags are there
pub record IsNoted (n : Notes) : Type 0 where
  pub structs : All (IsLawfulStruct n.structs) n.structs
  pub tags : AreTagsIn (of_structs n.structs) n.tags
  pub untagged : IsUntaggedIn (of_structs n.structs) n.untagged

-- what is noted later keeps that
pub record KeepsNoted (n later : Notes) : Type 0 where
  pub grow : Grow n.structs later.structs
  pub noted : IsNoted n → IsNoted later

-- the parts of the types of typedef names are there too
pub record IsWellDeclared (s : JudgementState) : Type 0 where
  pub noted : IsNoted s.1
  pub typedefs : HasTypedefs (of_structs s.1.structs) s.0.names

pub record LeadsOn (s later : JudgementState) : Type 0 where
  pub grow : Grow s.1.structs later.1.structs
  pub sound : IsWellDeclared s → IsWellDeclared later

-- a type that is found has parts that are there
pub record FindsType (s : JudgementState) (r : Option DeclaredType × JudgementState) : Type 0 where
  pub leads : LeadsOn s r.1
  pub type : IsWellDeclared s → IfSome r.0 (IsTypeIn (of_structs r.1.1.structs))
