-- The parameters that code sees are those of the row that the definitions go over.
use Rattle.std.proofs.Common.{◌≡◌, ℕ, List, Bool, true, Option, refl, sym, ap, ◌∙◌}
use mathlib.Core.Former.{Count}
use Rattle.c_tree.specs.declared.types.TypeNode as t
use Rattle.c_tree.specs.declared.types.Parameter.{Parameter}
use Rattle.c_tree.specs.declared.expressions.Expr.TheBlock as k
use Rattle.c_typing_rules.specs.declared.c_typing_declared_types.declared.DeclaredType.{DeclaredType}
use Rattle.c_typing_state.specs.declared.notes.Notes.{Notes}
use Rattle.c_typing_state.specs.Checks.{pure, and_then}
use Rattle.c_typing_declarations.specs.Functions.{name_row, name_judged, type_where, defined_type}
use Rattle.c_typing_declarations.specs.model.Opens.{opens}
use Rattle.c_typing_declarations.specs.model.Parts.{names_judged}

name_row_is : (m : Count) (xs : k.Row_of-Parameter m) (whole : Bool) (n : Notes) → name_row xs whole n ≡ names_judged (k.items-the_row-Parameter m xs) whole n
unfolding name_row
name_row_is m k.end_of-Parameter whole n = refl
name_row_is m (k.more_of-Parameter at name ty rest) whole n = name_row_is _ rest (name_judged at name whole n).0 (name_judged at name whole n).1

pub name_row-hidden : (xs : List Parameter) (whole : Bool) (n : Notes) → name_row (k.hidden-the_row-Parameter-6 xs) whole n ≡ names_judged xs whole n
name_row-hidden xs whole n = name_row_is _ (k.hidden-the_row-Parameter-6 xs) whole n ∙ ap (λ l. names_judged l whole n) (k.items_hidden-the_row-Parameter-6 xs)

pub defined_type_takes : (at : ℕ) (x : t.TypeNode) (list : List Parameter) (ty : DeclaredType) (n : Notes)
    → defined_type at (t.Takes x list) ty n ≡ and_then (names_judged list true n) (λ whole. pure (type_where ty whole))
unfolding opens
defined_type_takes at x list ty n = ap (λ q. and_then q (λ whole. pure (type_where ty whole))) (name_row-hidden list true n)

pub takes_done : (at : ℕ) (v x : t.TypeNode) (list ys : List Parameter) (ty : DeclaredType) (n new : Notes) (whole : Bool) (r : Option DeclaredType)
    → v ≡ t.Takes x list → ys ≡ list → names_judged ys true n ≡ (whole, new) → r ≡ type_where ty whole → defined_type at v ty n ≡ (r, new)
takes_done at v x list ys ty n new whole r form same parts given =
    ap (λ w. defined_type at w ty n) form ∙ (defined_type_takes at x list ty n
    ∙ (ap (λ q. and_then q (λ b. pure (type_where ty b))) (ap (λ l. names_judged l true n) (sym same) ∙ parts)
    ∙ ap (λ b. (b, new)) (sym given)))
