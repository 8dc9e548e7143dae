-- What a walk over a part of a tree leaves: the names in scope as they were, and what a judgement adds and finds.
use Rattle.std.specs.Prelude.{◌≡◌, Option}
use Rattle.c_typed_tree.specs.Typing.{Context}
use Rattle.c_typing_judgements.specs.Types.{JudgementState}
use Rattle.c_typing_expression_sound.specs.c_judgement_laws.Covers.{Judges}

pub record Walks (c : Context) (names : Type 0) {A : Type 0} (P : Type 0 → A →
    Type 0) (s : JudgementState) (r : Option A × JudgementState) : Type 0 where
  pub env : r.1.0 ≡ s.0
  pub notes : Judges c names P s.1 (r.0, r.1.1)
