-- What a list answers, from what its items answer.
use Rattle.std.proofs.Common.{◌≡◌, ℕ, List, Option, Bool, true, Result, Ok, Err, length, sym, ap, ◌∙◌}
use Rattle.c_tree.specs.declared.declarations.Init as i
use Rattle.c_typed_tree.specs.declared.types.CType.{CType}
use Rattle.mem_objects.specs.declared.DataCell.{DataCell}
use Rattle.c_typing_state.specs.declared.env.Env.{Env}
use Rattle.c_typing_state.specs.declared.notes.Notes.{Notes}
use Rattle.c_typing_state.specs.Checks.{pure, and_then, Finds}
use Rattle.c_typing_judgements.specs.Types.{JudgementState}
use Rattle.c_typing_initialisers.specs.declared.lists.InitialiserItems.{InitialiserItems}
use Rattle.c_typing_initialisers.specs.declared.lists.InitialiserItems.TheVariants.{Fitting}
use Rattle.c_typing_initialisers.specs.Unfit.{judge_init, list_place}
use Rattle.c_typing_initialisers.specs.Values.{FillingState, cells_beside, with_env}
use Rattle.c_typing_initialisers.specs.Initialisers.{initialise, list_in, length_given}
use Rattle.c_typing_initialisers.specs.model.Parts.{judge_inits, items_from}
use Rattle.c_typing_initialisers.proofs.Rows.{judge_init-List, initialise-List, length_given-List}

pub list_judged : (v : i.Init) (at : ℕ) (xs ys : List i.Init) (s u : JudgementState) (whole : Bool) (r : Option ℕ)
    → v ≡ i.List at xs → ys ≡ xs → judge_inits ys true s ≡ (whole, u) → r ≡ list_place at whole → judge_init v s ≡ (r, u)
list_judged v at xs ys s u whole r form same parts given =
    ap (λ w. judge_init w s) form ∙ (judge_init-List at xs s
    ∙ (ap (λ q. and_then q (λ w. pure (list_place at w))) (ap (λ l. judge_inits l true s) (sym same) ∙ parts)
    ∙ ap (λ p. (p, u)) (sym given)))

pub list_done : {E : Type 0} (v : i.Init) (brace : ℕ) (xs ys : List i.Init) (ty : CType) (place : ℕ) (s : FillingState) (cells : List DataCell) (env : Env) (n n' : Notes) (found : InitialiserItems) (r : Result (Option ℕ) E)
    → v ≡ i.List brace xs → ys ≡ xs → items_from ys ty place 0 Fitting s ≡ (found, (cells, (env, n))) → Finds (list_in ty brace found n) r n' → Finds (initialise v ty place s) r (cells, (env, n'))
list_done v brace xs ys ty place s cells env n n' found (Ok a) form same parts given =
    ap (λ w. initialise w ty place s) form ∙ (initialise-List brace xs ty place s
    ∙ (ap (λ q. and_then q (λ f (u : FillingState). with_env u.1.0 (cells_beside u.0 (list_in ty brace f u.1.1)))) (ap (λ l. items_from l ty place 0 Fitting s) (sym same) ∙ parts)
    ∙ ap (λ p. with_env env (cells_beside cells p)) given))
list_done v brace xs ys ty place s cells env n n' found (Err e) form same parts given = tt

pub length_of_list : (element : CType) (v : i.Init) (brace : ℕ) (xs : List i.Init) (n : ℕ) → v ≡ i.List brace xs → n ≡ length xs → n ≡ length_given element v
length_of_list element v brace xs n form given = given ∙ (sym (length_given-List element brace xs) ∙ ap (length_given element) (sym form))
