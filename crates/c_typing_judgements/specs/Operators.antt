-- Operators, by their operands (C99 6.5). A form is judged only where its parts are without fault.
use Rattle.std.specs.Prelude.{ℕ, Bool, true, false, if◌then◌else◌, List, [], ◌∷◌, Option, Some, None}
use Rattle.c_tree.specs.declared.expressions.UnaryOp.{UnaryOp}
use Rattle.c_tree.specs.declared.expressions.UnaryOp.TheVariants as u
use Rattle.c_tree.specs.declared.expressions.BinaryOp.{BinaryOp}
use Rattle.c_tree.specs.declared.expressions.AssignOp.{AssignOp}
use Rattle.c_tree.specs.declared.expressions.StepOp.{StepOp}
use Rattle.c_typing_faults.specs.declared.faults.Kind.TheVariants.{BadOperand}
use Rattle.c_typing_rules.specs.declared.c_typing_declared_types.declared.DeclaredType.{DeclaredType}
use Rattle.c_typing_rules.specs.declared.typed.LvalueKind.{LvalueKind}
use Rattle.c_typing_rules.specs.declared.typed.TypedExpression.{TypedExpression}
use Rattle.c_typing_place_rules.specs.Members.{size}
use Rattle.c_typing_place_rules.specs.Places.{step_behind}
use Rattle.c_typing_primary_rules.specs.Commas.{comma_value}
use Rattle.c_typing_judgements.specs.c_typing_operators.Unary.{unary_ruling}
use Rattle.c_typing_judgements.specs.c_typing_operators.Binary.{binary_ruling, subscript, conditional_ruling}
use Rattle.c_typing_judgements.specs.c_typing_operators.Assigned.{assign}
use Rattle.c_typing_judgements.specs.c_typing_operators.Casts.{cast_to, size_of_type}
use Rattle.c_typing_state.specs.declared.notes.Notes.{Notes}
use Rattle.c_typing_state.specs.Notes.{with_address}
use Rattle.c_typing_state.specs.Checks.{Check, fault, each, both_parts, note_fault}

-- `&` takes the address of its operand, so a local that this is, or is a part of, is an object of memory
abbrev pub taken_by : UnaryOp → LvalueKind → Notes → Notes
taken_by u.Address place n = with_address place n
taken_by u.Increment place n = n
taken_by u.Decrement place n = n
taken_by u.Dereference place n = n
taken_by u.Plus place n = n
taken_by u.Minus place n = n
taken_by u.Invert place n = n
taken_by u.Not place n = n

abbrev pub apply_prefix : ℕ → UnaryOp → TypedExpression → Check (Option TypedExpression)
apply_prefix at op a n = note_fault (unary_ruling n.structs at op a) (taken_by op a.place n)

abbrev pub binary_check : ℕ → BinaryOp → (left right : TypedExpression) → Check (Option TypedExpression)
binary_check at op a b n = note_fault (binary_ruling n.structs at op a b) n

abbrev pub assignment_check : ℕ → AssignOp → (left right : TypedExpression) → Check (Option TypedExpression)
assignment_check at op a b n = note_fault (assign n.structs at op a b) n

abbrev pub subscript_check : ℕ → (left right : TypedExpression) → Check (Option TypedExpression)
subscript_check at a b n = note_fault (subscript n.structs at a b) n

abbrev pub choice_check : ℕ → (condition holds fails : TypedExpression) → Check (Option TypedExpression)
choice_check at c a b n = note_fault (conditional_ruling at c a b) n

abbrev pub choice_of_parts : ℕ → (condition holds fails : Option TypedExpression) → Check (Option TypedExpression)
choice_of_parts at None a b n = (None, n)
choice_of_parts at (Some c) a b n = both_parts a b (choice_check at c) n

abbrev pub cast_check : ℕ → DeclaredType → TypedExpression → Check (Option TypedExpression)
cast_check at to a n = note_fault (cast_to at to a) n

abbrev pub size_of_value : ℕ → TypedExpression → Check (Option TypedExpression)
size_of_value at a n = note_fault (size n.structs at a.ty) n

abbrev pub size_of_name : ℕ → DeclaredType → Check (Option TypedExpression)
size_of_name at ty n = note_fault (size_of_type n.structs at ty) n

abbrev pub postfix_check : ℕ → StepOp → TypedExpression → Check (Option TypedExpression)
postfix_check at op a n = note_fault (step_behind n.structs at op a) n

-- a comma stands between operands, so there are two at least; a tree with fewer comes from no text
abbrev pub are_two_or_more : List TypedExpression → Bool
are_two_or_more [] = false
are_two_or_more (a ∷ []) = false
are_two_or_more (a ∷ b ∷ rest) = true

abbrev pub commas_between : ℕ → List TypedExpression → Check (Option TypedExpression)
commas_between at operands n =
    if are_two_or_more operands then (Some (comma_value at operands), n) else fault at BadOperand n

abbrev pub commas : ℕ → Option (List TypedExpression) → Check (Option TypedExpression)
commas at operands n = each operands (commas_between at) n
