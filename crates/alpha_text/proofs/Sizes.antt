-- A text has at least twice as many bytes as its data, and at least as many as its words.
use Rattle.std.proofs.Common.{◌≡◌, ℕ, suc, ◌+◌, ◌*◌, ◌≤◌, Bool, true, false, List, [], ◌∷◌, ◌++◌, length, take, drop, map, min, refl, sym, ap, ◌∙◌, arith}
use Rattle.std.specs.Prelude.{flat_map, codes, decimal, if◌then◌else◌}
use Rattle.std.proofs.lemmas.List.{length-append, length-take, take-append-drop}
use Rattle.std.proofs.lemmas.List.Concat.{flat_map-append}
use Rattle.alpha_isa.specs.Step.{links}
use Rattle.alpha_items.specs.declared.item.AsmItem.{AsmItem}
use Rattle.alpha_items.specs.declared.item.AsmItem.TheVariants.{Label, Name, Plain, Branch, TextAddress, DataAddress}
use Rattle.alpha_items.specs.Assembly.{Assembly}
use Rattle.alpha_items.specs.Layout.{item_words, sizes, text_words}
use Rattle.alpha_items.proofs.Sums.{sum-cons}
use Rattle.alpha_lines.specs.Lines.{head_line, label_name, word_and_rest, operand_pair, item_line, data_line, hex_byte, hex_line, fix_line}
use Rattle.alpha_lines.specs.Mnemonics.{branch_word}
use Rattle.alpha_text.specs.Wrong.{lines_of, is_ended, Nothing, Data}
use Rattle.alpha_text.specs.Read.{HasDataCount}
use Rattle.alpha_text.proofs.Sound.{well_sound}
use Rattle.alpha_text.proofs.Whole.{read_text}
use Rattle.alpha_text.specs.Texts.{with_line_feed, ended_lines, hex_rows, hex_lines, asm_text}

ended_long : (line : List ℕ) → length (with_line_feed line) ≡ length line + 1
ended_long line = length-append line (10 ∷ [])

lines_long : (front back : List (List ℕ)) → length (ended_lines (front ++ back)) ≡ length (ended_lines front) + length (ended_lines back)
lines_long front back = ap length (flat_map-append with_line_feed front back) ∙ length-append (ended_lines front) (ended_lines back)

line_long : (line : List ℕ) (back : List (List ℕ)) → length (ended_lines (line ∷ back)) ≡ length (with_line_feed line) + length (ended_lines back)
line_long line back = length-append (with_line_feed line) (ended_lines back)

-- the data

digits_long : (row : List ℕ) → length (flat_map hex_byte row) ≡ 2 * length row
digits_long [] = refl
digits_long (b ∷ row) =
    let step : length (flat_map hex_byte (b ∷ row)) ≡ suc (suc (length (flat_map hex_byte row))) = refl in
    omega (arith, step, digits_long row)

row_long : (row : List ℕ) → 2 * length row ≤ length (with_line_feed (hex_line row))
row_long row = omega (arith, ended_long (hex_line row), length-append (codes ".hex") (32 ∷ flat_map hex_byte row), digits_long row)

rows_long : (k : ℕ) (s : List ℕ) → length s ≤ k → 2 * length s ≤ length (ended_lines (hex_rows k s))
rows_long Prim.Native.Nat.zero [] low = omega arith
rows_long Prim.Native.Nat.zero (b ∷ s) low = absurd (omega arith)
rows_long (suc k) [] low = omega arith
rows_long (suc k) (b ∷ s) low =
    let row : List ℕ = take 32 (b ∷ s) in
    let behind : List ℕ = drop 32 (b ∷ s) in
    let whole : length row + length behind ≡ length (b ∷ s) = sym (length-append row behind) ∙ ap length (take-append-drop 32 (b ∷ s)) in
    let count : length row ≡ min 32 (length (b ∷ s)) = length-take 32 (b ∷ s) in
    let later : 2 * length behind ≤ length (ended_lines (hex_rows k behind)) = rows_long k behind (omega arith) in
    omega (arith, whole, row_long row, later, line_long (hex_line row) (hex_rows k behind))

data_long : (bytes : List ℕ) → 2 * length bytes ≤ length (ended_lines (hex_lines bytes))
unfolding hex_lines
data_long bytes = rows_long (length bytes) bytes (omega arith)

pub data_in_text : (a : Assembly) → 2 * length a.bytes ≤ length (asm_text a)
unfolding asm_text
data_in_text a =
    let behind : List (List ℕ) = hex_lines a.bytes ++ map fix_line a.fixes in
    omega (
      arith,
      data_long a.bytes,
      lines_long (hex_lines a.bytes) (map fix_line a.fixes),
      line_long (data_line (length a.bytes)) behind,
      lines_long (map item_line a.items) (data_line (length a.bytes) ∷ behind),
      line_long head_line (map item_line a.items ++ data_line (length a.bytes) ∷ behind),
    )

-- the words

both_long : (word a b : List ℕ) (x : ℕ) → 5 ≤ length (with_line_feed (word_and_rest word (operand_pair (x ∷ a) b)))
both_long word a b x = omega (arith, ended_long (word_and_rest word (operand_pair (x ∷ a) b)), length-append word (32 ∷ operand_pair (x ∷ a) b), length-append (x ∷ a) (44 ∷ 32 ∷ b))

branch_words : (far linked : Bool) → (if far then (if linked then 3 else 4) else 1) ≤ 4
branch_words true true = omega arith
branch_words true false = omega arith
branch_words false linked = omega arith

item_long : (far : Bool) (i : AsmItem) → item_words far i ≤ length (with_line_feed (item_line i))
item_long far (Label l) = omega arith
item_long far (Name name) = omega arith
item_long far (Plain insn) = omega (arith, ended_long (item_line (Plain insn)))
item_long far (Branch op ra l) = omega (arith, branch_words far (links op), both_long (branch_word op) (decimal ra) (label_name l) 36)
item_long far (TextAddress ra l) = omega (arith, both_long (codes ".text") (decimal ra) (label_name l) 36)
item_long far (DataAddress ra offset) = omega (arith, both_long (codes ".addr") (decimal ra) (decimal offset) 36)

items_long : (items : List AsmItem) (far : List Bool) → text_words items far ≤ length (ended_lines (map item_line items))
items_long [] far = omega arith
items_long (i ∷ items) [] = omega arith
items_long (i ∷ items) (f ∷ far) = omega (arith, sum-cons (item_words f i) (sizes items far), item_long f i, items_long items far, line_long (item_line i) (map item_line items))

pub words_in_text : (a : Assembly) (far : List Bool) → text_words a.items far ≤ length (asm_text a)
unfolding asm_text
words_in_text a far =
    let behind : List (List ℕ) = data_line (length a.bytes) ∷ (hex_lines a.bytes ++ map fix_line a.fixes) in
    omega (arith, items_long a.items far, lines_long (map item_line a.items) behind, line_long head_line (map item_line a.items ++ behind))

-- a text in which no line is wrong
pub count_in_text : (text : List ℕ) (n : ℕ) → HasDataCount text n → 2 * n ≤ length text
count_in_text text n counted =
    let items = counted.0 in
    let bytes = counted.1 in
    let fixes = counted.2 in
    let none = counted.3 in
    let sound = well_sound (lines_of text) Nothing (lines_of text) (is_ended text) (Data items n bytes fixes) tt none in
    let full : length bytes ≡ n = sound.1 in
    let same = read_text text items n bytes fixes none in
    let long = data_in_text (record { items = items; bytes = bytes; fixes = fixes }) in
    omega (arith, full, long, ap length same)
