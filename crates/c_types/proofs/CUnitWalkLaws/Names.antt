-- A name that is declared without a fault notes nothing.
use Rattle.std.proofs.Common.{◌≡◌, ℕ, Bool, true, false, ◌||◌, IsTrue, List, Option, Some, None, refl, ◌∙◌, subst, if◌then◌else◌}
use Rattle.c_tree.specs.declared.declarations.Storage.{Storage}
use Rattle.c_tree.specs.declared.declarations.Storage.TheVariants as s
use Rattle.c_typing_scopes.specs.Names.{find}
use Rattle.c_typing_definitions.specs.declared.names.Definitions.{Definitions}
use Rattle.c_typing_faults.specs.declared.faults.Kind.TheVariants.{Redeclared}
use Rattle.c_typing_state.specs.declared.env.Env.{Env}
use Rattle.c_typing_state.specs.declared.meanings.NameMeaning.{NameMeaning}
use Rattle.c_typing_state.specs.declared.meanings.NameMeaning.TheVariants as m
use Rattle.c_typing_state.specs.declared.notes.Notes.{Notes}
use Rattle.c_typing_state.specs.Notes.{with_fault}
use Rattle.c_typing_state.specs.Scopes.{meaning_of}
use Rattle.c_typing_judgements.specs.Types.{JudgementState}
use Rattle.c_typing_unit_names.specs.declared.names.NameDeclaration.{NameDeclaration}
use Rattle.c_typing_unit_names.specs.declared.names.UnitNames.{UnitNames}
use Rattle.c_typing_unit_names.specs.UnitNames.{may_follow, first_meaning, meaning_before, redeclare, first_by, follows, known_by, judge_declaration}
use Rattle.c_typing_declarations.specs.Walk.{is_main, main_checked}
use Rattle.c_typing_expression_sound.specs.c_found_laws.Laws.{is_sound, Tells}
use Rattle.c_typing_expression_sound.proofs.CFoundLaws.Forms.{no_true, holds, meaning_sound, tells_none, tells_fault, tells_both, tells_named}
use Rattle.c_types.specs.c_found_unit_laws.Steps.{DeclaresName, First, Again}

module _ (ds : Definitions) (at : ℕ) (name : List ℕ) (new : NameDeclaration) (u : UnitNames) (s : JudgementState) where
  abbrev IsDone : UnitNames × JudgementState → Type 0
  IsDone r = Tells (DeclaresName ds name new u s.0 r.0 r.1.0 × (r.1.1 ≡ s.1)) s r.1

  redeclared_tells : IsDone (redeclare at u s)
  redeclared_tells = tells_fault s.0 at Redeclared s.1

  first_tells : IsTrue (is_sound (first_meaning ds name new u).0) → find name u.declared ≡ None → (o : Option NameMeaning) → meaning_of s.0 name ≡ o → IsDone (first_by (meaning_before o) ds at name new u s)
  first_tells sound e None g = tells_named name (first_meaning ds name new u).0 s sound (First e g, refl)
  first_tells sound e (Some m.Faulty) g = record {
    before = λ t. t;
    stays = λ t h. h;
    found = λ t h. no_true (subst (λ (o : Option NameMeaning). IsTrue (holds is_sound o)) g (meaning_sound s.0 name h.0));
  }
  first_tells sound e (Some (m.Undefined number)) g = redeclared_tells
  first_tells sound e (Some (m.Local number ty)) g = redeclared_tells
  first_tells sound e (Some (m.Object number ty)) g = redeclared_tells
  first_tells sound e (Some (m.Constant word)) g = redeclared_tells
  first_tells sound e (Some (m.Function callee of parameters)) g = redeclared_tells
  first_tells sound e (Some (m.Typedef ty)) g = redeclared_tells

  again_tells : (old : ℕ × NameDeclaration) → find name u.declared ≡ Some old → (b : Bool) → may_follow old.1 new ≡ b → IsDone (known_by (if b then Some (Some (old.1.has_value || new.has_value)) else Some None) ds at name new u s)
  again_tells old e true g = tells_none s (Again old e g, refl)
  again_tells old e false g = redeclared_tells

  known_tells : IsTrue (is_sound (first_meaning ds name new u).0) → (o : Option (ℕ × NameDeclaration)) → find name u.declared ≡ o → IsDone (known_by (follows o new) ds at name new u s)
  known_tells sound None e = first_tells sound e (meaning_of s.0 name) refl
  known_tells sound (Some old) e = again_tells old e (may_follow old.1 new) refl

  pub declaration_tells : IsTrue (is_sound (first_meaning ds name new u).0) → IsDone (judge_declaration ds at name (Some new) u s)
  declaration_tells sound = known_tells sound (find name u.declared) refl

checked_tells : (env : Env) (storage : Option Storage) (at : ℕ) (name : List ℕ) (n : Notes) → Tells (main_checked storage at name n ≡ n) (env, n) (env, main_checked storage at name n)
checked_tells env None at name n = tells_none (env, n) refl
checked_tells env (Some s.Extern) at name n = tells_none (env, n) refl
checked_tells env (Some s.Static) at name n = choose (is_main name)
  where
    either : Bool → Notes
    either b = if b then with_fault at Redeclared n else n

    choose : (b : Bool) → Tells (either b ≡ n) (env, n) (env, either b)
    choose true = tells_fault env at Redeclared n
    choose false = tells_none (env, n) refl

-- a name of an object or of a function
pub checked_declaration_tells : (ds : Definitions) (at : ℕ) (name : List ℕ) (storage : Option Storage) (new : NameDeclaration) (u : UnitNames) (env : Env) (n : Notes) → IsTrue (is_sound (first_meaning ds name new u).0)
    → (let r = judge_declaration ds at name (Some new) u (env, main_checked storage at name n) in Tells (DeclaresName ds name new u env r.0 r.1.0 × (r.1.1 ≡ n)) (env, n) r.1)
checked_declaration_tells ds at name storage new u env n sound =
    let checked = main_checked storage at name n in
    let r = judge_declaration ds at name (Some new) u (env, checked) in
    tells_both (env, n) (env, checked) r.1 (λ x y. (y.0, y.1 ∙ x)) (checked_tells env storage at name n) (declaration_tells ds at name new u (env, checked) sound)
