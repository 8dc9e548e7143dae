-- The bytes of a word, one by one.
use Rattle.std.proofs.Common.{◌≡◌, ℕ, suc, ◌+◌, ◌-◌, ◌<◌, ◌≤◌, ◌/◌, ◌%◌, List, [], ◌∷◌, ◌++◌, sym, ap, ◌∙◌, arith}
use Rattle.std.proofs.lemmas.List.{append_assoc, append-nil}
use Rattle.mem_objects.specs.declared.DataCell.{DataCell}
use Rattle.mem_objects.specs.declared.DataCell.TheVariants.{Byte}
use Rattle.c_typing_initial_values.specs.Cells.{word_cells}

pub word_turn : (n at word : ℕ) (cells : List DataCell) → at < n
    → cells ++ word_cells (n - at) word ≡ (cells ++ Byte (word % 256) ∷ []) ++ word_cells (n - (at + 1)) (word / 256)
word_turn n at word cells h =
    let e : n - at ≡ suc (n - (at + 1)) = omega arith in
    ap (λ k. cells ++ word_cells k word) e ∙ sym (append_assoc cells (Byte (word % 256) ∷ []) (word_cells (n - (at + 1)) (word / 256)))

pub word_end : (n at word : ℕ) (cells : List DataCell) → n ≤ at → cells ++ word_cells (n - at) word ≡ cells
word_end n at word cells h =
    let e : n - at ≡ 0 = omega arith in ap (λ k. cells ++ word_cells k word) e ∙ append-nil cells
