-- How walks follow one another.
use Rattle.std.proofs.Common.{ℕ, Option, Some, None, IfSome, refl, ◌∙◌}
use Rattle.c_typed_tree.specs.Typing.{Context}
use Rattle.c_typing_rules.specs.declared.typed.TypedExpression.{TypedExpression}
use Rattle.c_typing_state.specs.declared.env.Env.{Env}
use Rattle.c_typing_state.specs.declared.notes.Notes.{Notes}
use Rattle.c_typing_state.specs.Checks.{each, both_parts}
use Rattle.c_typing_judgements.specs.Types.{JudgementState, in_env}
use Rattle.c_typing_judgements.specs.Operators.{choice_of_parts}
use Rattle.c_typing_expression_sound.specs.c_judgement_laws.Covers.{Knows, Takes, IsJudged, Judges}
use Rattle.c_typing_expression_sound.proofs.CJudgementLaws.Notes.{Later, later_then, found_none, found_later}
use Rattle.c_typing_expression_sound.specs.c_expression_laws.Walks.{Walks}

-- what holds of a part holds later too
abbrev pub Stays : {A : Type 0} → (Type 0 → A → Type 0) → Type 1
Stays {A} P = (taken later : Type 0) (a : A) → (later → taken) → P taken a → P later a

pub judged_stays : (c : Context) → Stays (IsJudged c)
judged_stays c taken later a back h = record { whole = h.whole; typed = λ t. h.typed (back t) }

module _ (c : Context) (names : Type 0) where
  pub later_of : {A : Type 0} (P : Type 0 → A → Type 0) (n : Notes) (r : Option A × Notes) → Judges c names P n r → Later c n r.1
  later_of P n r h = record { first = h.first; knows = h.knows; takes = h.takes }

  pub walk_within : {A : Type 0} (P : Type 0 → A → Type 0) (env : Env) (n : Notes) (r : Option A × Notes) → Judges c names P n r → Walks c names P (env, n) (in_env env r)
  walk_within P env n r h = record { env = refl; notes = h }

  -- a form of one part
  pub walk_one : {A B : Type 0} (P : Type 0 → A → Type 0) (Q : Type 0 → B → Type 0) (s : JudgementState) (o : Option A) (u : JudgementState) (k : A → Notes → Option B × Notes) → Walks c names P s (o, u)
      → ((a : A) → (names → Knows c u.1 → P (Takes c u.1) a) → Judges c names Q u.1 (k a u.1)) → Walks c names Q s (in_env u.0 (each o k u.1))
  walk_one P Q s None u k h f = record { env = h.env; notes = found_none c names Q s.1 u.1 (later_of P s.1 (None, u.1) h.notes) }
  walk_one P Q s (Some a) u k h f = record {
    env = h.env;
    notes = found_later c names Q s.1 u.1 (k a u.1) (later_of P s.1 (Some a, u.1) h.notes) (f a h.notes.found);
  }

  -- two walks, of which the first leaves what it found
  later_part : {A : Type 0} (P : Type 0 → A → Type 0) (n m o : Notes) (a : A) → Stays P → Later c m o → (names → Knows c m → P (Takes c m) a) → names → Knows c o → P (Takes c o) a
  later_part P n m o a stays later h v k = stays (Takes c m) (Takes c o) a later.takes (h v (later.knows k))

  pub walk_two : {A B D : Type 0} (P : Type 0 → A → Type 0) (Q : Type 0 → B → Type 0) (R : Type 0 → D → Type 0) (s : JudgementState) (o : Option A) (u : JudgementState) (q : Option B) (w : JudgementState)
      (k : A → B → Notes → Option D × Notes) → Stays P → Walks c names P s (o, u) → Walks c names Q u (q, w)
      → ((a : A) (b : B) → (names → Knows c w.1 → P (Takes c w.1) a) → (names → Knows c w.1 → Q (Takes c w.1) b) → Judges c names R w.1 (k a b w.1))
      → Walks c names R s (in_env w.0 (both_parts o q k w.1))
  walk_two P Q R s None u q w k stays h g f = record {
    env = g.env ∙ h.env;
    notes = found_none c names R s.1 w.1 (later_then c s.1 u.1 w.1 (later_of P s.1 (None, u.1) h.notes) (later_of Q u.1 (q, w.1) g.notes));
  }
  walk_two P Q R s (Some a) u None w k stays h g f = record {
    env = g.env ∙ h.env;
    notes = found_none c names R s.1 w.1 (later_then c s.1 u.1 w.1 (later_of P s.1 (Some a, u.1) h.notes) (later_of Q u.1 (None, w.1) g.notes));
  }
  walk_two P Q R s (Some a) u (Some b) w k stays h g f =
      let second = later_of Q u.1 (Some b, w.1) g.notes in
      record {
        env = g.env ∙ h.env;
        notes = found_later c names R s.1 w.1 (k a b w.1) (later_then c s.1 u.1 w.1 (later_of P s.1 (Some a, u.1) h.notes) second)
            (f a b (later_part P s.1 u.1 w.1 a stays second h.notes.found) g.notes.found);
      }

  -- a condition and two arms
  pub walk_choice : (P : Type 0 → TypedExpression → Type 0) (s : JudgementState) (o : Option TypedExpression) (u : JudgementState) (q : Option TypedExpression) (w : JudgementState) (r : Option TypedExpression) (z : JudgementState) (at : ℕ)
      → Stays P → Walks c names P s (o, u) → Walks c names P u (q, w) → Walks c names P w (r, z)
      → ((x a b : TypedExpression) → (names → Knows c z.1 → P (Takes c z.1) x) → (names → Knows c z.1 → P (Takes c z.1) a) → (names → Knows c z.1 → P (Takes c z.1) b)
      → Judges c names P z.1 (choice_of_parts at (Some x) (Some a) (Some b) z.1))
      → Walks c names P s (in_env z.0 (choice_of_parts at o q r z.1))
  walk_choice P s None u q w r z at stays h g l f = record {
    env = l.env ∙ (g.env ∙ h.env);
    notes = found_none c names P s.1 z.1 (later_then c s.1 u.1 z.1 (later_of P s.1 (None, u.1) h.notes) (later_then c u.1 w.1 z.1 (later_of P u.1 (q, w.1) g.notes) (later_of P w.1 (r, z.1) l.notes)));
  }
  walk_choice P s (Some x) u None w r z at stays h g l f = record {
    env = l.env ∙ (g.env ∙ h.env);
    notes = found_none c names P s.1 z.1 (later_then c s.1 u.1 z.1 (later_of P s.1 (Some x, u.1) h.notes) (later_then c u.1 w.1 z.1 (later_of P u.1 (None, w.1) g.notes) (later_of P w.1 (r, z.1) l.notes)));
  }
  walk_choice P s (Some x) u (Some a) w None z at stays h g l f = record {
    env = l.env ∙ (g.env ∙ h.env);
    notes = found_none c names P s.1 z.1 (later_then c s.1 u.1 z.1 (later_of P s.1 (Some x, u.1) h.notes) (later_then c u.1 w.1 z.1 (later_of P u.1 (Some a, w.1) g.notes) (later_of P w.1 (None, z.1) l.notes)));
  }
  walk_choice P s (Some x) u (Some a) w (Some b) z at stays h g l f =
      let third = later_of P w.1 (Some b, z.1) l.notes in
      let second = later_then c u.1 w.1 z.1 (later_of P u.1 (Some a, w.1) g.notes) third in
      record {
        env = l.env ∙ (g.env ∙ h.env);
        notes = found_later c names P s.1 z.1 (choice_of_parts at (Some x) (Some a) (Some b) z.1) (later_then c s.1 u.1 z.1 (later_of P s.1 (Some x, u.1) h.notes) second)
            (f x a b (later_part P s.1 u.1 z.1 x stays second h.notes.found) (later_part P u.1 w.1 z.1 a stays third g.notes.found) l.notes.found);
      }

-- of a walk of which no name is asked only what it adds is known
pub walk_any : (c : Context) (names : Type 0) {A : Type 0} (P : Type 0 → A → Type 0) (s : JudgementState) (o : Option A) (u : JudgementState) → Walks c ⊥ P s (o, u) → Walks c names (λ taken a. Unit {0}) s (o, u)
walk_any c names P s o u h = record {
  env = h.env;
  notes = record { first = h.notes.first; knows = h.notes.knows; takes = h.notes.takes; found = λ v k. any o };
}
  where
    any : {A : Type 0} (q : Option A) → IfSome q (λ a. Unit {0})
    any None = tt
    any (Some a) = tt
