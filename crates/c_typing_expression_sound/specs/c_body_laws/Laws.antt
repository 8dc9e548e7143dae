-- What is noted keeps the structs lawful, in bodies of structs and enums too (C99 6.7.2.1 to 6.7.2.3).
use Rattle.std.specs.Prelude.{ℕ}
use Rattle.c_tree.specs.declared.types.TypeNode.{TypeNode}
use Rattle.c_typed_tree.specs.Typing.{Context}
use Rattle.c_typing_state.specs.declared.notes.Notes.{Notes}
use Rattle.c_typing_expression_sound.specs.c_judgement_laws.Covers.{Knows}
use Rattle.c_typing_expression_sound.specs.c_note_laws.Steps.{NoteSteps}
use Rattle.c_typing_expression_sound.specs.c_struct_laws.Growth.{Grow}
use Rattle.c_typing_struct_bodies.specs.Bodies.{TagScope, bodies, declared_type}
use Rattle.c_typing_expression_sound.specs.c_body_laws.Notes.{IsNoted, KeepsNoted, LeadsOn, FindsType}

abbrev pub StepsKeep : Type 0
StepsKeep = (n later : Notes) → NoteSteps n later → KeepsNoted n later

abbrev pub NotedIsKnown : Type 0
NotedIsKnown = (c : Context) (n : Notes) → IsNoted n → Grow n.structs c.structs → Knows c n

abbrev pub BodiesLead : Type 0
BodiesLead = (ty : TypeNode) (s : TagScope) → LeadsOn s.1 (bodies ty s).1

abbrev pub DeclarationsFindTypes : Type 0
DeclarationsFindTypes =
    (at : ℕ) (ty : TypeNode) (s : TagScope) → FindsType s.1 ((declared_type at ty s).0, (declared_type at ty s).1.1)
