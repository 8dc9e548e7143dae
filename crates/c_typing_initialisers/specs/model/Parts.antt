-- The items of lists, as lists that code sees.
use Rattle.std.specs.Prelude.{ℕ, ◌+◌, Bool, List, [], ◌∷◌, Option}
use Rattle.c_tree.specs.declared.declarations.Init.{Init}
use Rattle.c_typed_tree.specs.declared.types.CType.{CType}
use Rattle.c_typing_initial_values.specs.Parts.{part_of}
use Rattle.c_typing_state.specs.Checks.{and_then}
use Rattle.c_typing_judgements.specs.Types.{JudgementState}
use Rattle.c_typing_initialisers.specs.declared.lists.InitialiserItems.{InitialiserItems}
use Rattle.c_typing_initialisers.specs.Unfit.{judge_init, is_whole_with}
use Rattle.c_typing_initialisers.specs.Values.{FillingState, cells_beside}
use Rattle.c_typing_initialisers.specs.Initialisers.{initialise, if_part, counted_by, with_item, with_surplus}

abbrev pub judge_inits : List Init → (whole : Bool) → JudgementState → Bool × JudgementState
judge_inits [] whole s = (whole, s)
judge_inits (x ∷ xs) whole s = and_then (judge_init x s) (λ place. judge_inits xs (is_whole_with whole place))

abbrev pub one_item : Init → CType → (place k : ℕ) → InitialiserItems → FillingState → InitialiserItems × FillingState
one_item x ty place k found s =
    if_part (part_of s.1.1.structs ty k) (counted_by with_surplus found (cells_beside s.0 (judge_init x s.1)))
    (λ p. counted_by with_item found (initialise x p.ty (place + p.place) s))

abbrev pub items_from : List Init → CType → (place k : ℕ) → InitialiserItems → FillingState →
    InitialiserItems × FillingState
items_from [] ty place k found s = (found, s)
items_from (x ∷ xs) ty place k found s = and_then (one_item x ty place k found s)
    (λ r. items_from xs ty place (k + 1) r)
