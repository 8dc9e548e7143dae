-- The labels of one `switch` (C99 6.8.4.2): each value stands once, and one `default` at most.
use Rattle.std.specs.Prelude.{ℕ, ◌==◌, if◌then◌else◌, Bool, true, false, not, List, [], ◌∷◌, ◌++◌, Option, Some, None}
use Rattle.std.specs.List.{list_any}
use Rattle.bk_arithmetic.specs.declared.integer_type.IntegerType.{IntegerType}
use Rattle.bk_arithmetic.specs.declared.integer_type.IntegerType.TheVariants as i
use Rattle.c_typed_tree.specs.declared.statements.TLabel.{TLabel}
use Rattle.c_typed_tree.specs.declared.statements.TLabel.TheVariants.{Case, Default}
use Rattle.c_typing_faults.specs.declared.faults.Kind.TheVariants.{BadLabel}
use Rattle.c_typing_rules.specs.declared.typed.TypedExpression.{TypedExpression}
use Rattle.c_typing_constants.specs.c_constant_rules.Values.{label_value}
use Rattle.c_typing_state.specs.declared.notes.Notes.{Notes}
use Rattle.c_typing_state.specs.Checks.{Check, and_then, each, fault, note_fault}
use Rattle.c_typing_statement_rules.specs.declared.labels.Labels.{Labels}

-- ---- values, each once

abbrev pub has_word : (word : ℕ) → List ℕ → Bool
has_word word words = list_any (λ w. word == w) words

-- whether it is a new one
abbrev pub add_word : (word : ℕ) → List ℕ → Bool × List ℕ
add_word word words =
    (not (has_word word words), if has_word word words then words else words ++ word ∷ [])

-- ---- the labels that stand before

abbrev pub no_labels : Labels
no_labels = record { words = []; has_default = false }

abbrev pub with_words : List ℕ → Labels → Labels
with_words words ls = record { words = words; has_default = ls.has_default }

abbrev pub with_default : Labels → Labels
with_default ls = record { words = ls.words; has_default = true }

abbrev pub LabelState : Type 0
LabelState = Labels × Notes

abbrev pub beside_labels : {A S : Type 0} → Labels → A × S → A × (Labels × S)
beside_labels ls x = (x.0, (ls, x.1))

-- ---- `case`. Where the operand has a fault, its value is a constant still, but not compared with others

abbrev pub bad_label : ℕ → Check (Option TLabel)
bad_label at = fault at BadLabel

abbrev pub new_case : ℕ → (word : ℕ) → LabelState → Option TLabel × LabelState
new_case at word s =
    if has_word word s.0.words then beside_labels s.0 (bad_label at s.1)
    else (Some (Case word), (with_words (s.0.words ++ word ∷ []) s.0, s.1))

abbrev pub operand_type : Option IntegerType → IntegerType
operand_type None = i.Int
operand_type (Some ty) = ty

abbrev pub case_value : Option IntegerType → ℕ → (word : ℕ) → LabelState → Option TLabel × LabelState
case_value None at word s = (Some (Case word), s)
case_value (Some ty) at word s = new_case at word s

abbrev pub case_label : Option IntegerType → ℕ → TypedExpression → LabelState → Option TLabel × LabelState
case_label ty at a s =
    and_then (beside_labels s.0 (note_fault (label_value (operand_type ty) a) s.1)) (λ r. each r (case_value ty at))

-- ---- `default`

abbrev pub default_label : ℕ → LabelState → Option TLabel × LabelState
default_label at s =
    if s.0.has_default then beside_labels s.0 (bad_label at s.1) else (Some Default, (with_default s.0, s.1))
