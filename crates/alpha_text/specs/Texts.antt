-- The text of an assembly.
use Rattle.std.specs.Prelude.{◌≡◌, ℕ, zero, suc, ◌<◌, List, [], ◌∷◌, ◌++◌, length, take, drop, map, flat_map}
use Rattle.std.specs.List.{All}
use Rattle.alpha_items.specs.Assembly.{Assembly}
use Rattle.alpha_lines.specs.Lines.{HasLine, head_line, item_line, data_line, hex_line, fix_line}

-- every line ends with a line feed
abbrev pub with_line_feed : List ℕ → List ℕ
with_line_feed line = line ++ 10 ∷ []

abbrev pub ended_lines : List (List ℕ) → List ℕ
ended_lines lines = flat_map with_line_feed lines

-- the bytes, 32 a line, the last line shorter; the number bounds the lines
abbrev pub hex_rows : ℕ → List ℕ → List (List ℕ)
hex_rows zero bytes = []
hex_rows (suc k) [] = []
hex_rows (suc k) (b ∷ bytes) = hex_line (take 32 (b ∷ bytes)) ∷ hex_rows k (drop 32 (b ∷ bytes))

unfoldable pub hex_lines : List ℕ → List (List ℕ)
hex_lines bytes = hex_rows (length bytes) bytes

-- the head, a line for each item, how many bytes the data has, the bytes, and a line for each fix
abbrev pub asm_lines : Assembly → List (List ℕ)
asm_lines a =
    head_line ∷ (map item_line a.items ++ data_line (length a.bytes) ∷ (hex_lines a.bytes ++ map fix_line a.fixes))

unfoldable pub asm_text : Assembly → List ℕ
asm_text a = ended_lines (asm_lines a)

-- the text is that of the assembly
abbrev pub Texts : List ℕ → Assembly → Type 0
Texts text a = text ≡ asm_text a

-- its labels, offsets and bytes are in their fields, as those of every assembly that a program holds are
abbrev pub HasText : Assembly → Type 0
HasText a = All HasLine a.items × All (λ b. b < 256) a.bytes
