-- What functions and initialisers note (C99 6.7.8, 6.8, 6.9.1).
use Rattle.std.specs.Prelude.{List, Option}
use Rattle.c_tree.specs.declared.declarations.Init.{Init}
use Rattle.c_tree.specs.declared.statements.Stmt.{Stmt}
use Rattle.c_tree.specs.declared.types.Declaration.{Declaration}
use Rattle.c_typed_tree.specs.declared.types.CType.{CType}
use Rattle.c_typing_faults.specs.declared.faults.Kind.{Kind}
use Rattle.c_typing_judgements.specs.Types.{JudgementState}
use Rattle.c_typing_expression_sound.specs.c_note_laws.Steps.{NoteSteps}
use Rattle.c_typing_statements.specs.declared.c_typing_function_bodies.functions.FunctionType.{FunctionType}
use Rattle.c_typing_statements.specs.c_typing_function_bodies.Functions.{judge_function}
use Rattle.c_typing_initialisers.specs.Initialisers.{object_cells}
use Rattle.c_typing_initialisers.specs.Unfit.{judge_init, faulty_init}

abbrev pub FunctionsTakeSteps : Type 0
FunctionsTakeSteps =
    (d : Declaration) (of : Option FunctionType) (list : List Stmt) (s : JudgementState) →
    NoteSteps s.1 (judge_function d of list s).1.1

abbrev pub InitialisersTakeSteps : Type 0
InitialisersTakeSteps = (ty : CType) (x : Init) (s : JudgementState) → NoteSteps s.1 (object_cells ty x s).1.1

-- what an initialiser is made of, where it initialises nothing
abbrev pub InitialisersAreJudgedBySteps : Type 0
InitialisersAreJudgedBySteps =
    (x : Init) (s : JudgementState) → NoteSteps s.1 (judge_init x s).1.1
    × ((kind : Kind) → NoteSteps s.1 (faulty_init kind x s).1.1)
