-- The cells of an object at the start of a program (C99 6.7.8). They go as far as its initialiser does, and what no
-- part of that reaches is zero.
use Rattle.std.specs.Prelude.{ℕ, zero, suc, ◌-◌, ◌/◌, ◌%◌, List, [], ◌∷◌, ◌++◌, length, map, take, replicate, Option, Some, None}
use Rattle.bk_arithmetic.specs.declared.integer_type.IntegerType.{IntegerType}
use Rattle.bk_arithmetic.specs.IntegerTypes.{bytes}
use Rattle.bk_arithmetic.specs.Operations.{conversion}
use Rattle.c_typing_constants.specs.declared.c_constant_rules.addresses.Address.{Address}
use Rattle.c_typing_initial_values.specs.declared.values.InitialValue.{InitialValue}
use Rattle.c_typing_initial_values.specs.declared.values.InitialValue.TheVariants as v
use Rattle.mem_objects.specs.declared.DataCell.{DataCell}
use Rattle.mem_objects.specs.declared.DataCell.TheVariants.{Byte, AddressPart}

abbrev pub zero_cells : (count : ℕ) → List DataCell
zero_cells count = replicate count (Byte 0)

-- the bytes of a word, the least first
abbrev pub word_cells : (count word : ℕ) → List DataCell
word_cells zero word = []
word_cells (suc count) word = Byte (word % 256) ∷ word_cells count (word / 256)

abbrev pub address_cells : Address → List DataCell
address_cells a =
    AddressPart a.global a.plus 0 ∷ AddressPart a.global a.plus 1 ∷ AddressPart a.global a.plus 2
    ∷ AddressPart a.global a.plus 3 ∷ AddressPart a.global a.plus 4 ∷ AddressPart a.global a.plus 5
    ∷ AddressPart a.global a.plus 6 ∷ AddressPart a.global a.plus 7 ∷ []

-- a value in an integer type, to which it is converted, or in a pointer type
abbrev pub value_cells : Option IntegerType → InitialValue → List DataCell
value_cells None (v.Word t word) = zero_cells 8
value_cells None v.Null = zero_cells 8
value_cells None (v.Address a) = address_cells a
value_cells (Some to) (v.Word t word) = word_cells (bytes to) (conversion t to word)
value_cells (Some to) v.Null = []
value_cells (Some to) (v.Address a) = []

-- the bytes of a text, as many as there is room for
abbrev pub text_cells : (room : ℕ) → (text : List ℕ) → List DataCell
text_cells room text = map Byte (take room text)

-- cells that go as far as a place at least
abbrev pub reach : (place : ℕ) → List DataCell → List DataCell
reach place cells = cells ++ zero_cells (place - length cells)

-- what stands at a place, behind the cells before it
abbrev pub place_piece : (place : ℕ) → (piece cells : List DataCell) → List DataCell
place_piece place piece cells = reach place cells ++ piece
