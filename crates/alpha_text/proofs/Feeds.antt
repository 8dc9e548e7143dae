-- No line of an assembly has a line feed, so the lines of its text are its lines.
use Rattle.std.proofs.Common.{◌≡◌, ℕ, suc, ◌/◌, ◌%◌, ◌^◌, ◌<◌, ◌≤◌, ◌&&◌, Bool, true, false, eqb, List, [], ◌∷◌, ◌++◌, Some, length, take, drop, map, refl, ap, ◌∙◌, subst, inl, inr, arith}
use Rattle.std.specs.Prelude.{ℤ, pos, negsuc, IsTrue, not, find, flat_map, codes, bytes_eq, decimal}
use Rattle.std.specs.List.{All, list_all}
use Rattle.std.proofs.lemmas.Bool.Decides.{nat_tests}
use Rattle.std.proofs.lemmas.List.Elements.{All-nil, All-cons, All-head, All-tail, All-append}
use Rattle.alpha_isa.specs.declared.insn.OperateOp.{OperateOp}
use Rattle.alpha_isa.specs.declared.insn.Operand.{Operand}
use Rattle.alpha_isa.specs.declared.insn.Operand.TheVariants.{Reg, Literal}
use Rattle.alpha_isa.specs.declared.insn.Fields.TheVariants as fields
use Rattle.alpha_isa.specs.Lawful.{IsOperand, IsDisplacement, IsFirstOperand}
use Rattle.alpha_isa.specs.Words.{extends}
use Rattle.alpha_items.specs.declared.item.AsmItem.{AsmItem}
use Rattle.alpha_items.specs.declared.item.AsmItem.TheVariants.{Label, Name, Plain, Branch, TextAddress, DataAddress}
use Rattle.alpha_items.specs.declared.item.Fix.{Fix}
use Rattle.alpha_items.specs.Items.{is_letter, is_letter_or_digit, is_name}
use Rattle.alpha_items.specs.Assembly.{Assembly, IsFix, IsWhole}
use Rattle.alpha_isa.specs.Program.{most_bytes}
use Rattle.alpha_lines.specs.declared.mnemonic.Mnemonic.{Mnemonic}
use Rattle.alpha_lines.specs.declared.mnemonic.Mnemonic.TheVariants as m
use Rattle.alpha_lines.specs.model.Mnemonics.{spelling, mnemonics, mnemonic_of}
use Rattle.alpha_lines.specs.Lines.{HasLine, register_name, label_name, indirect_text, address_text, operand_name, word_and_rest, operand_pair, operands, head_line, item_line, data_line, hex_digit, hex_byte, hex_line, fix_line}
use Rattle.alpha_lines.proofs.Parts.{Lacks}
use Rattle.alpha_lines.proofs.Options.{split}
use Rattle.alpha_lines.proofs.Operands.{lacks_append, decimal_lacks}
use Rattle.alpha_lines.proofs.Items.{small_call, other_only}
use Rattle.alpha_lines.proofs.Spellings.{spelled_found}
use Rattle.alpha_text.specs.Texts.{with_line_feed, ended_lines, hex_rows, hex_lines, asm_lines, HasText}
use Rattle.alpha_text.specs.Wrong.{lines_of, is_ended}

-- the lines of ended lines

line_ended : (line rest : List ℕ) → Lacks 10 line → lines_of (with_line_feed line ++ rest) ≡ line ∷ lines_of rest
line_ended [] rest h = refl
line_ended (b ∷ line) rest h = rw (h.0, line_ended line rest h.1) refl

pub lines_ended : (lines : List (List ℕ)) → All (Lacks 10) lines → lines_of (ended_lines lines) ≡ lines
lines_ended [] h = refl
lines_ended (line ∷ lines) h = line_ended line (ended_lines lines) (All-head (Lacks 10) line lines h) ∙ ap (λ t. line ∷ t) (lines_ended lines (All-tail (Lacks 10) line lines h))

feed_ended : (rest : List ℕ) → is_ended rest ≡ true → is_ended (10 ∷ rest) ≡ true
feed_ended [] h = refl
feed_ended (c ∷ s) h = h

end_ended : (line rest : List ℕ) → is_ended rest ≡ true → is_ended (with_line_feed line ++ rest) ≡ true
end_ended [] rest h = feed_ended rest h
end_ended (b ∷ []) rest h = feed_ended rest h
end_ended (b ∷ c ∷ line) rest h = end_ended (c ∷ line) rest h

pub lines_end : (lines : List (List ℕ)) → is_ended (ended_lines lines) ≡ true
lines_end [] = refl
lines_end (line ∷ lines) = end_ended line (ended_lines lines) (lines_end lines)

-- lines without line feeds

abbrev lacks_feed : List ℕ → Bool
lacks_feed [] = true
lacks_feed (b ∷ s) = not (eqb b 10) && lacks_feed s

both_true : (a b : Bool) → (a && b) ≡ true → (a ≡ true) × (b ≡ true)
both_true true b e = (refl, e)
both_true false b e = absurd (cc)

not_false : (a : Bool) → not a ≡ true → a ≡ false
not_false true e = absurd (cc)
not_false false e = refl

told : (s : List ℕ) → lacks_feed s ≡ true → Lacks 10 s
told [] e = tt
told (b ∷ s) e =
    let h = both_true (not (eqb b 10)) (lacks_feed s) e in
    (not_false (eqb b 10) h.0, told s h.1)

found_all : {A : Type 0} (p q : A → Bool) (xs : List A) (x : A) → find p xs ≡ Some x → list_all q xs ≡ true → q x ≡ true
found_all p q [] x e h = absurd (cc)
found_all p q (y ∷ ys) x e h =
    let both = both_true (q y) (list_all q ys) h in
    elim (split (p y) (Some y) (find p ys) (Some x) e) [
      | inl here ↦ (let same : y ≡ x = cc in subst (λ v. q v ≡ true) same both.0)
      | inr later ↦ found_all p q ys x later.1 both.1
    ]

all_spelled : list_all (λ w. lacks_feed (spelling w)) mnemonics ≡ true
unfolding mnemonics
all_spelled = refl

word_lacks : (word : Mnemonic) → Lacks 10 (spelling word)
unfolding mnemonic_of
word_lacks word = told (spelling word) (found_all (λ w. bytes_eq (spelling word) (spelling w)) (λ w. lacks_feed (spelling w)) mnemonics word (spelled_found word) all_spelled)

statement_lacks : (w rest : List ℕ) → Lacks 10 w → Lacks 10 rest → Lacks 10 (word_and_rest w rest)
statement_lacks w rest h k = lacks_append 10 w (32 ∷ rest) h (refl, k)

both_lacks : (a b : List ℕ) → Lacks 10 a → Lacks 10 b → Lacks 10 (operand_pair a b)
both_lacks a b h k = lacks_append 10 a (44 ∷ 32 ∷ b) h (refl, (refl, k))

register_lacks : (r : ℕ) → r < 32 → Lacks 10 (register_name r)
register_lacks r small = (refl, decimal_lacks 10 r (omega arith) refl)

label_lacks : (l : ℕ) → l < 2 ^ 32 → Lacks 10 (label_name l)
label_lacks l small = (refl, decimal_lacks 10 l (omega arith) refl)

indirect_lacks : (r : ℕ) → r < 32 → Lacks 10 (indirect_text r)
indirect_lacks r small = (refl, lacks_append 10 (register_name r) (41 ∷ []) (register_lacks r small) (refl, tt))

address_lacks : (disp : ℤ) (r : ℕ) → IsDisplacement disp → r < 32 → Lacks 10 (address_text disp r)
address_lacks (pos n) r h small = lacks_append 10 (decimal n) (indirect_text r) (decimal_lacks 10 n (omega arith) refl) (indirect_lacks r small)
address_lacks (negsuc n) r h small = (refl, lacks_append 10 (decimal (suc n)) (indirect_text r) (decimal_lacks 10 (suc n) (omega arith) refl) (indirect_lacks r small))

operand_lacks : (o : Operand) → IsOperand o → Lacks 10 (operand_name o)
operand_lacks (Reg r) h = register_lacks r h
operand_lacks (Literal n) h = decimal_lacks 10 n (omega arith) refl

operands_lack : (op : OperateOp) (ra : ℕ) (rb : Operand) (rc : ℕ) → IsFirstOperand op ra → IsOperand rb → rc < 32 → Lacks 10 (operands op ra rb rc)
operands_lack op ra rb rc first b c = by (extends op) refl
  where
    last : Lacks 10 (operand_pair (operand_name rb) (register_name rc))
    last = both_lacks (operand_name rb) (register_name rc) (operand_lacks rb b) (register_lacks rc c)

    by : (t : Bool) → extends op ≡ t → Lacks 10 (operands op ra rb rc)
    by true e = rw e last
    by false e = rw e (both_lacks (register_name ra) (operand_pair (operand_name rb) (register_name rc)) (register_lacks ra (other_only op ra e first)) last)

letter_lacks : (b : ℕ) → is_letter b ≡ true → eqb b 10 ≡ false
letter_lacks b h = grind (arith, nat_tests, h)

word_byte_lacks : (b : ℕ) → is_letter_or_digit b ≡ true → eqb b 10 ≡ false
word_byte_lacks b h = grind (arith, nat_tests, h)

word_bytes_lack : (s : List ℕ) → list_all is_letter_or_digit s ≡ true → Lacks 10 s
word_bytes_lack [] h = tt
word_bytes_lack (b ∷ s) h =
    let both = both_true (is_letter_or_digit b) (list_all is_letter_or_digit s) h in
    (word_byte_lacks b both.0, word_bytes_lack s both.1)

name_lacks : (name : List ℕ) → IsTrue (is_name name) → Lacks 10 name
name_lacks [] h = tt
name_lacks (b ∷ s) h =
    let both = both_true (is_letter b) (list_all is_letter_or_digit s) h in
    (letter_lacks b both.0, word_bytes_lack s both.1)

pub item_lacks : (i : AsmItem) → HasLine i → Lacks 10 (item_line i)
item_lacks (Label l) h = lacks_append 10 (label_name l) (58 ∷ []) (label_lacks l h) (refl, tt)
item_lacks (Name name) h = statement_lacks (codes ".ent") name (word_lacks m.Entry) (name_lacks name h)
item_lacks (Plain (fields.Memory op ra rb disp)) h = statement_lacks (spelling (m.Memory op)) (operand_pair (register_name ra) (address_text disp rb)) (word_lacks (m.Memory op)) (both_lacks (register_name ra) (address_text disp rb) (register_lacks ra h.0.0) (address_lacks disp rb h.0.2 h.0.1))
item_lacks (Plain (fields.Branch op ra disp)) h = tt
item_lacks (Plain (fields.Jump op ra rb)) h = statement_lacks (spelling (m.Jump op)) (operand_pair (register_name ra) (indirect_text rb)) (word_lacks (m.Jump op)) (both_lacks (register_name ra) (indirect_text rb) (register_lacks ra h.0.0) (indirect_lacks rb h.0.1))
item_lacks (Plain (fields.Operate op ra rb rc)) h = statement_lacks (spelling (m.Operate op)) (operands op ra rb rc) (word_lacks (m.Operate op)) (operands_lack op ra rb rc h.0.0 h.0.1 h.0.2)
item_lacks (Plain (fields.Pal n)) h = let small : n < 256 = small_call n h.0 in statement_lacks (codes "call_pal") (decimal n) (word_lacks m.CallPal) (decimal_lacks 10 n (omega arith) refl)
item_lacks (Branch op ra l) h = statement_lacks (spelling (m.Branch op)) (operand_pair (register_name ra) (label_name l)) (word_lacks (m.Branch op)) (both_lacks (register_name ra) (label_name l) (register_lacks ra h.0) (label_lacks l h.1))
item_lacks (TextAddress ra l) h = statement_lacks (codes ".text") (operand_pair (register_name ra) (label_name l)) (word_lacks m.TextAddress) (both_lacks (register_name ra) (label_name l) (register_lacks ra h.0) (label_lacks l h.1))
item_lacks (DataAddress ra o) h = statement_lacks (codes ".addr") (operand_pair (register_name ra) (decimal o)) (word_lacks m.DataAddress) (both_lacks (register_name ra) (decimal o) (register_lacks ra h.0) (decimal_lacks 10 o (omega arith) refl))

items_lack : (items : List AsmItem) → All HasLine items → All (Lacks 10) (map item_line items)
items_lack [] h = All-nil (Lacks 10)
items_lack (i ∷ items) h = All-cons (Lacks 10) (item_line i) (map item_line items) (item_lacks i (All-head HasLine i items h)) (items_lack items (All-tail HasLine i items h))

digit_lacks : (d : ℕ) → eqb (hex_digit d) 10 ≡ false
digit_lacks d = grind (arith, nat_tests)

bytes_lack : (bytes : List ℕ) → Lacks 10 (flat_map hex_byte bytes)
bytes_lack [] = tt
bytes_lack (b ∷ bytes) = (digit_lacks (b / 16), (digit_lacks (b % 16), bytes_lack bytes))

row_lacks : (row : List ℕ) → Lacks 10 (hex_line row)
row_lacks row = statement_lacks (codes ".hex") (flat_map hex_byte row) (told (codes ".hex") refl) (bytes_lack row)

rows_lack : (k : ℕ) (bytes : List ℕ) → All (Lacks 10) (hex_rows k bytes)
rows_lack Prim.Native.Nat.zero bytes = All-nil (Lacks 10)
rows_lack (suc k) [] = All-nil (Lacks 10)
rows_lack (suc k) (b ∷ bytes) = All-cons (Lacks 10) (hex_line (take 32 (b ∷ bytes))) (hex_rows k (drop 32 (b ∷ bytes))) (row_lacks (take 32 (b ∷ bytes))) (rows_lack k (drop 32 (b ∷ bytes)))

fix_lacks : (fix : Fix) (n : ℕ) → n ≤ most_bytes → IsFix n fix → Lacks 10 (fix_line fix)
fix_lacks fix n low is =
    let a : fix.at < 2 ^ 64 = omega (arith, is.0) in
    let o : fix.offset < 2 ^ 64 = omega (arith, is.1) in
    statement_lacks (codes ".fix") (decimal fix.at ++ 32 ∷ decimal fix.offset) (told (codes ".fix") refl)
    (lacks_append 10 (decimal fix.at) (32 ∷ decimal fix.offset) (decimal_lacks 10 fix.at a refl) (refl, decimal_lacks 10 fix.offset o refl))

fixes_lack : (fixes : List Fix) (n : ℕ) → n ≤ most_bytes → All (λ f. IsFix n f) fixes → All (Lacks 10) (map fix_line fixes)
fixes_lack [] n low h = All-nil (Lacks 10)
fixes_lack (fix ∷ fixes) n low h = All-cons (Lacks 10) (fix_line fix) (map fix_line fixes) (fix_lacks fix n low (All-head (λ f. IsFix n f) fix fixes h)) (fixes_lack fixes n low (All-tail (λ f. IsFix n f) fix fixes h))

pub asm_lack : (a : Assembly) → IsWhole a → HasText a → All (Lacks 10) (asm_lines a)
unfolding hex_lines
asm_lack a whole text =
    let n : ℕ = length a.bytes in
    let small : n < 2 ^ 64 = omega (arith, whole.bytes) in
    All-cons (Lacks 10) head_line (map item_line a.items ++ data_line n ∷ (hex_rows n a.bytes ++ map fix_line a.fixes)) (told head_line refl)
    (All-append (Lacks 10) (map item_line a.items) (data_line n ∷ (hex_rows n a.bytes ++ map fix_line a.fixes)) (items_lack a.items text.0)
    (All-cons (Lacks 10) (data_line n) (hex_rows n a.bytes ++ map fix_line a.fixes) (statement_lacks (codes ".data") (decimal n) (told (codes ".data") refl) (decimal_lacks 10 n small refl))
    (All-append (Lacks 10) (hex_rows n a.bytes) (map fix_line a.fixes) (rows_lack n a.bytes) (fixes_lack a.fixes n whole.bytes whole.fixes))))
