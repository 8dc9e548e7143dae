-- What declarations note, and the types that they find.
use Rattle.std.proofs.Common.{◌≡◌, ℕ, [], Option, sym, subst}
use Rattle.std.proofs.lemmas.List.Elements.{All-nil}
use Rattle.c_tree.specs.declared.expressions.Expr.{Expr}
use Rattle.c_tree.specs.declared.types.TypeNode.{TypeNode}
use Rattle.c_typed_tree.specs.Lawful.{IsLawfulStruct}
use Rattle.c_typing_rules.specs.declared.c_typing_declared_types.declared.DeclaredType.{DeclaredType}
use Rattle.c_typing_state.specs.declared.env.Env.{Env}
use Rattle.c_typing_judgements.specs.Leaves.{leaf}
use Rattle.c_typing_judgements.specs.Types.{JudgementState}
use Rattle.c_typing_expressions.specs.Expressions.{judge, derive}
use Rattle.c_typing_expression_sound.specs.c_judgement_laws.Covers.{IsLawfulContext}
use Rattle.c_typing_expression_sound.specs.c_expression_laws.Types.{HasTypedefs}
use Rattle.c_typing_expression_sound.proofs.CExpressionLaws.Types.{leaf_found}
use Rattle.c_typing_expression_sound.proofs.CExpressionLaws.Expressions.{judge_walks, derive_walks}
use Rattle.c_typing_expression_sound.specs.c_note_laws.Steps.{NoteSteps}
use Rattle.c_typing_expression_sound.proofs.CNoteLaws.Forms.{leaf_adds}
use Rattle.c_typing_expression_sound.proofs.CNoteLaws.Walks.{derive_adds}
use Rattle.c_typing_expression_sound.proofs.CStructLaws.Growth.{grow_itself, grow_then}
use Rattle.c_typing_expression_sound.specs.c_body_laws.Notes.{of_structs, KeepsNoted, LeadsOn, FindsType}
use Rattle.c_typing_expression_sound.proofs.CBodyLaws.Notes.{typedefs_grow, steps_keep, noted_known}

-- ---- names in scope stay

empty_lawful : IsLawfulContext (of_structs [])
empty_lawful = All-nil (IsLawfulStruct [])

pub judge_env : (x : Expr) (s : JudgementState) → (judge x s).1.0 ≡ s.0
judge_env x s = (judge_walks (of_structs []) empty_lawful ⊥ x s (λ v. absurd v) (λ v. absurd v)).env

pub derive_env : (at : ℕ) (node : TypeNode) (of : Option DeclaredType) (s : JudgementState) → (derive at node of s).1.0 ≡ s.0
derive_env at node of s = (derive_walks (of_structs []) empty_lawful ⊥ at node of s (λ v. absurd v) (λ v. absurd v)).env

-- ---- what leads from one state to another one

pub leads_itself : (s : JudgementState) → LeadsOn s s
leads_itself s = record { grow = grow_itself s.1.structs; sound = λ h. h }

pub leads_then : (s u w : JudgementState) → LeadsOn s u → LeadsOn u w → LeadsOn s w
leads_then s u w h g = record { grow = grow_then s.1.structs u.1.structs w.1.structs h.grow g.grow; sound = λ k. g.sound (h.sound k) }

-- where the names in scope stay
pub leads_where : (s later : JudgementState) → later.0 ≡ s.0 → KeepsNoted s.1 later.1 → LeadsOn s later
leads_where s later e k = record {
  grow = k.grow;
  sound = λ h. record {
    noted = k.noted h.noted;
    typedefs = subst (λ (env : Env). HasTypedefs (of_structs later.1.structs) env.names) (sym e)
        (typedefs_grow (of_structs s.1.structs) (of_structs later.1.structs) k.grow s.0.names h.typedefs);
  };
}

pub leads_steps : (s later : JudgementState) → later.0 ≡ s.0 → NoteSteps s.1 later.1 → LeadsOn s later
leads_steps s later e steps = leads_where s later e (steps_keep steps)

-- ---- the type of a declaration

pub type_found : (at : ℕ) (node : TypeNode) (s : JudgementState) → FindsType s (derive at node (leaf s.0 at node s.1).0 (s.0, (leaf s.0 at node s.1).1))
type_found at node s =
    let l = leaf s.0 at node s.1 in
    let r = derive at node l.0 (s.0, l.1) in
    let keeps = steps_keep (NoteSteps.Follows (leaf_adds s.0 at node s.1) (derive_adds at node l.0 (s.0, l.1))) in
    record {
      leads = leads_where s r.1 (derive_env at node l.0 (s.0, l.1)) keeps;
      type = λ h.
          let c = of_structs r.1.1.structs in
          let noted = keeps.noted h.noted in
          let typedefs = typedefs_grow (of_structs s.1.structs) c keeps.grow s.0.names h.typedefs in
          let specifier = leaf_found c (Unit {0}) s.0 at node s.1 (λ v. typedefs) in
          let walk = derive_walks c noted.structs (Unit {0}) at node l.0 (s.0, l.1) (λ v. typedefs) specifier.found in
          walk.notes.found tt (noted_known c r.1.1 noted (grow_itself r.1.1.structs));
    }
