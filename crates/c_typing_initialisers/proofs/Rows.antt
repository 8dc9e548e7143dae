-- The items of a list that code sees are those of the row that the definitions go over.
use Rattle.std.proofs.Common.{◌≡◌, ℕ, suc, ◌+◌, List, [], ◌∷◌, Bool, true, Option, Some, None, length, refl, ap, ◌∙◌}
use mathlib.Core.Former.{Count}
use Rattle.c_tree.specs.declared.declarations.Init as i
use Rattle.c_tree.specs.declared.declarations.Init.TheBlock as k
use Rattle.c_typed_tree.specs.declared.types.CType.{CType}
use Rattle.c_typing_state.specs.Checks.{pure, and_then}
use Rattle.c_typing_judgements.specs.Types.{JudgementState}
use Rattle.c_typing_initialisers.specs.declared.lists.InitialiserItems.{InitialiserItems}
use Rattle.c_typing_initialisers.specs.declared.lists.InitialiserItems.TheVariants.{Fitting}
use Rattle.c_typing_initialisers.specs.Unfit.{judge_init, judge_items, list_place, is_whole_with}
use Rattle.c_typing_initialisers.specs.Values.{FillingState, cells_beside, with_env}
use Rattle.c_typing_initialisers.specs.Initialisers.{initialise, item_row, list_in, row_length, length_given}
use Rattle.c_typing_initialisers.specs.model.Opens.{opens}
use Rattle.c_typing_initialisers.specs.model.Parts.{judge_inits, one_item, items_from}

judge_items_is : (m : Count) (xs : i.Row_of-Init m) (whole : Bool) (s : JudgementState) → judge_items xs whole s ≡ judge_inits (i.items-the_row-Init m xs) whole s
unfolding judge_init
judge_items_is m i.end_of-Init whole s = refl
judge_items_is m (i.more_of-Init x xs) whole s = judge_items_is _ xs (is_whole_with whole (judge_init x s).0) (judge_init x s).1

pub judge_items-hidden : (xs : List i.Init) (whole : Bool) (s : JudgementState) → judge_items (k.hidden-the_row-Init-0 xs) whole s ≡ judge_inits xs whole s
judge_items-hidden xs whole s = judge_items_is _ (k.hidden-the_row-Init-0 xs) whole s ∙ ap (λ l. judge_inits l whole s) (k.items_hidden-the_row-Init-0 xs)

item_row_is : (m : Count) (xs : i.Row_of-Init m) (ty : CType) (place n : ℕ) (found : InitialiserItems) (s : FillingState) → item_row xs ty place n found s ≡ items_from (i.items-the_row-Init m xs) ty place n found s
unfolding initialise
item_row_is m i.end_of-Init ty place n found s = refl
item_row_is m (i.more_of-Init x xs) ty place n found s = item_row_is _ xs ty place (n + 1) (one_item x ty place n found s).0 (one_item x ty place n found s).1

pub item_row-hidden : (xs : List i.Init) (ty : CType) (place n : ℕ) (found : InitialiserItems) (s : FillingState) → item_row (k.hidden-the_row-Init-0 xs) ty place n found s ≡ items_from xs ty place n found s
item_row-hidden xs ty place n found s = item_row_is _ (k.hidden-the_row-Init-0 xs) ty place n found s ∙ ap (λ l. items_from l ty place n found s) (k.items_hidden-the_row-Init-0 xs)

row_length_is : (m : Count) (xs : i.Row_of-Init m) → row_length xs ≡ length (i.items-the_row-Init m xs)
unfolding row_length
row_length_is m i.end_of-Init = refl
row_length_is m (i.more_of-Init x xs) = ap suc (row_length_is _ xs)

pub row_length-hidden : (xs : List i.Init) → row_length (k.hidden-the_row-Init-0 xs) ≡ length xs
row_length-hidden xs = row_length_is _ (k.hidden-the_row-Init-0 xs) ∙ ap length (k.items_hidden-the_row-Init-0 xs)

-- ---- forms with lists, as code sees them

pub judge_init-List : (at : ℕ) (xs : List i.Init) (s : JudgementState) → judge_init (i.List at xs) s ≡ and_then (judge_inits xs true s) (λ whole. pure (list_place at whole))
unfolding opens
judge_init-List at xs s = ap (λ q. and_then q (λ whole. pure (list_place at whole))) (judge_items-hidden xs true s)

pub initialise-List : (brace : ℕ) (xs : List i.Init) (ty : CType) (place : ℕ) (s : FillingState)
    → initialise (i.List brace xs) ty place s ≡ and_then (items_from xs ty place 0 Fitting s) (λ found u. with_env u.1.0 (cells_beside u.0 (list_in ty brace found u.1.1)))
unfolding opens
initialise-List brace xs ty place s =
    ap (λ q. and_then q (λ found (u : FillingState). with_env u.1.0 (cells_beside u.0 (list_in ty brace found u.1.1)))) (item_row-hidden xs ty place 0 Fitting s)

pub length_given-List : (element : CType) (brace : ℕ) (xs : List i.Init) → length_given element (i.List brace xs) ≡ length xs
unfolding opens
length_given-List element brace xs = row_length-hidden xs

pub ruleset rows = (judge_init-List, initialise-List, length_given-List)
