-- What an initialiser of a part leaves, relative to a context that has all that stands behind it.
use Rattle.std.proofs.Common.{◌≡◌, Option, Some, None, IfSome, refl, sym, ◌∙◌, subst}
use Rattle.c_tree.specs.declared.expressions.Expr.{Expr}
use Rattle.c_typed_tree.specs.Typing.{Context}
use Rattle.c_typing_rules.specs.declared.typed.TypedExpression.{TypedExpression}
use Rattle.c_typing_state.specs.declared.env.Env.{Env}
use Rattle.c_typing_judgements.specs.Types.{JudgementState}
use Rattle.c_typing_expressions.specs.Expressions.{judge}
use Rattle.c_typing_initialisers.specs.Values.{FillingState}
use Rattle.c_typing_expression_sound.specs.c_type_laws.Typed.{IsTypedIn}
use Rattle.c_typing_expression_sound.specs.c_judgement_laws.Covers.{HasNames, Knows, Takes, IsLawfulContext, IsJudged}
use Rattle.c_typing_expression_sound.proofs.CJudgementLaws.Notes.{Later, later_itself, later_then}
use Rattle.c_typing_expression_sound.specs.c_expression_laws.Types.{HasTypedefs}
use Rattle.c_typing_expression_sound.proofs.CExpressionLaws.Expressions.{judge_walks}
use Rattle.c_typing_expression_sound.proofs.CNoteLaws.Walks.{judge_adds}
use Rattle.c_typing_expression_sound.specs.c_struct_laws.Growth.{Grow}
use Rattle.c_typing_expression_sound.proofs.CStructLaws.Growth.{grow_itself, grow_then}
use Rattle.c_typing_expression_sound.proofs.CBodyLaws.Notes.{steps_keep}

-- the names in scope are those of the context, where anything is asked of them
pub record Names (c : Context) (names : Type 0) (s : JudgementState) : Type 0 where
  pub meanings : names → HasNames c s.0
  pub typedefs : names → HasTypedefs c s.0.names

pub record Fills (c : Context) (names : Type 0) (X : Type 0) (s u : FillingState) : Type 0 where
  pub env : u.1.0 ≡ s.1.0
  pub later : Later c s.1.1 u.1.1
  pub grow : Grow s.1.1.structs u.1.1.structs
  pub found : names → Knows c u.1.1 → Takes c u.1.1 → X

module _ (c : Context) (names : Type 0) where
  pub names_behind : {X : Type 0} (s u : FillingState) → Fills c names X s u → Names c names s.1 → Names c names u.1
  names_behind s u f h = record { meanings = λ v. subst (HasNames c) (sym f.env) (h.meanings v); typedefs = λ v. subst (λ (e : Env). HasTypedefs c e.names) (sym f.env) (h.typedefs v) }

  pub fills_as : {X Y : Type 0} (s u : FillingState) → (names → Knows c u.1.1 → X → Y) → Fills c names X s u → Fills c names Y s u
  fills_as s u f h = record { env = h.env; later = h.later; grow = h.grow; found = λ v k t. f v k (h.found v k t) }

  pub fills_then : {X Y : Type 0} (s u v : FillingState) → Fills c names X s u → Fills c names Y u v → Fills c names (X × Y) s v
  fills_then s u v h g = record {
    env = g.env ∙ h.env;
    later = later_then c s.1.1 u.1.1 v.1.1 h.later g.later;
    grow = grow_then s.1.1.structs u.1.1.structs v.1.1.structs h.grow g.grow;
    found = λ n k t. (h.found n (g.later.knows k) (g.later.takes t), g.found n k t);
  }

  pub fills_none : {X : Type 0} (s : FillingState) → X → Fills c names X s s
  fills_none s x = record { env = refl; later = later_itself c s.1.1; grow = grow_itself s.1.1.structs; found = λ v k t. x }

  module _ (lawful : IsLawfulContext c) where
    found_typed : (taken : Type 0) (o : Option TypedExpression) → taken → IfSome o (IsJudged c taken) → IfSome o (IsTypedIn c)
    found_typed taken None t h = tt
    found_typed taken (Some a) t h = h.typed t

    pub judge_fills : (x : Expr) (s : FillingState) → Names c names s.1 → Fills c names (IfSome (judge x s.1).0 (IsTypedIn c)) s (s.0, (judge x s.1).1)
    judge_fills x s h =
        let r = judge x s.1 in
        let w = judge_walks c lawful names x s.1 h.meanings h.typedefs in
        record {
          env = w.env;
          later = record { first = w.notes.first; knows = w.notes.knows; takes = w.notes.takes };
          grow = (steps_keep (judge_adds x s.1)).grow;
          found = λ v k t. found_typed (Takes c r.1.1) r.0 t (w.notes.found v k);
        }
