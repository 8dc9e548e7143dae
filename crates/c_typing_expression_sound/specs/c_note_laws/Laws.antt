-- What is noted is added to what was noted, by every expression, specifier and declarator.
use Rattle.std.specs.Prelude.{◌≡◌, ℕ, IsTrue, List, ◌++◌, Option}
use Rattle.std.specs.List.{list_all}
use Rattle.c_tree.specs.declared.expressions.Expr.{Expr}
use Rattle.c_tree.specs.declared.types.TypeNode.{TypeNode}
use Rattle.c_typing_rules.specs.declared.c_typing_declared_types.declared.DeclaredType.{DeclaredType}
use Rattle.c_typing_state.specs.declared.env.Env.{Env}
use Rattle.c_typing_state.specs.declared.notes.Notes.{Notes}
use Rattle.c_typing_judgements.specs.Leaves.{leaf}
use Rattle.c_typing_judgements.specs.Types.{JudgementState}
use Rattle.c_typing_expressions.specs.Expressions.{judge, derive}
use Rattle.c_typing_expression_sound.specs.c_note_laws.Steps.{is_sized, NoteSteps}

-- ---- what is noted on the way

abbrev pub ExpressionsTakeSteps : Type 0
ExpressionsTakeSteps = (x : Expr) (s : JudgementState) → NoteSteps s.1 (judge x s).1.1

abbrev pub SpecifiersTakeSteps : Type 0
SpecifiersTakeSteps = (env : Env) (at : ℕ) (node : TypeNode) (n : Notes) → NoteSteps n (leaf env at node n).1

abbrev pub DeclaratorsTakeSteps : Type 0
DeclaratorsTakeSteps =
    (at : ℕ) (node : TypeNode) (of : Option DeclaredType) (s : JudgementState) → NoteSteps s.1 (derive at node of s).1.1

-- ---- what follows of it

-- one list stands first in another one
pub record StandsFirst {A : Type 0} (xs ys : List A) : Type 0 where
  pub more : List A
  pub same : ys ≡ xs ++ more

-- structs, faults and texts that were noted stay as they are, and others are added behind them; each text has a size
pub record OnlyAdds (n later : Notes) : Type 0 where
  pub structs : StandsFirst n.structs later.structs
  pub faults : StandsFirst n.faults later.faults
  pub texts : StandsFirst n.texts later.texts
  pub first : later.first_text ≡ n.first_text
  pub sized : IsTrue (list_all is_sized n.texts) → IsTrue (list_all is_sized later.texts)

abbrev pub StepsAdd : Type 0
StepsAdd = (n later : Notes) → NoteSteps n later → OnlyAdds n later
