-- The line of an item is read as the item, and a line that is read as an item is its line.
use Rattle.std.proofs.Common.{◌≡◌, ℕ, ◌^◌, ◌<◌, ◌≤◌, Bool, true, false, List, [], ◌∷◌, ◌++◌, Option, Some, None, refl, ap, ◌∙◌, subst, inl, inr, arith}
use Rattle.std.specs.Prelude.{ℤ, option_map, if◌then◌else◌, IsTrue, decimal}
use Rattle.std.proofs.lemmas.Bool.Decides.{nat_tests}
use Rattle.alpha_isa.specs.declared.insn.MemoryOp.{MemoryOp}
use Rattle.alpha_isa.specs.declared.insn.BranchOp.{BranchOp}
use Rattle.alpha_isa.specs.declared.insn.JumpOp.{JumpOp}
use Rattle.alpha_isa.specs.declared.insn.OperateOp.{OperateOp}
use Rattle.alpha_isa.specs.declared.insn.OperateOp.TheVariants.{Sextb, Sextw}
use Rattle.alpha_isa.specs.declared.insn.Operand.{Operand}
use Rattle.alpha_isa.specs.declared.insn.Fields.TheVariants as fields
use Rattle.alpha_isa.specs.Lawful.{IsFirstOperand, IsOperand, IsDisplacement, is_pal_function}
use Rattle.alpha_isa.specs.Words.{extends}
use Rattle.alpha_items.specs.declared.item.AsmItem.{AsmItem}
use Rattle.alpha_items.specs.declared.item.AsmItem.TheVariants.{Label, Name, Plain, Branch, TextAddress, DataAddress}
use Rattle.alpha_items.specs.Items.{is_name}
use Rattle.alpha_lines.specs.declared.mnemonic.Mnemonic.{Mnemonic}
use Rattle.alpha_lines.specs.declared.mnemonic.Mnemonic.TheVariants as m
use Rattle.alpha_lines.specs.model.Mnemonics.{spelling, mnemonic_of}
use Rattle.alpha_lines.specs.Lines.{register_name, label_name, indirect_text, address_text, operand_name, operand_pair, word_and_rest, operands, item_line, HasLine}
use Rattle.alpha_lines.specs.model.Parts.{cut}
use Rattle.alpha_lines.specs.model.Numbers.{number_of}
use Rattle.alpha_lines.specs.model.Readers.{number32_of, register_of, label_of, operand_of, indirect_of, address_of, two_of, closed_by, memory_item, jump_item, extension_item, operate_item, operation_of, call_in, said_by, said_in, label_in, item_in, item_of}
use Rattle.alpha_lines.proofs.Parts.{Lacks, cut_sound}
use Rattle.alpha_lines.proofs.Numbers.{number_sound, number_complete}
use Rattle.alpha_lines.proofs.Options.{guarded_some, split, mapped_some}
use Rattle.alpha_lines.proofs.Spellings.{spelled_cut, spelled_found, mnemonic_sound}
use Rattle.alpha_lines.proofs.Operands.{lacks_append, cut_lacks, decimal_lacks, register_lacks, operand_lacks, number32_complete, number32_sound, register_complete, register_sound, label_complete, label_sound, operand_complete, operand_sound, closed_complete, closed_sound, indirect_complete, indirect_sound, address_complete, address_sound, two_complete, two_sound}

-- from an item to its line and back

statement_said : (word : Mnemonic) (rest : List ℕ) → item_of (word_and_rest (spelling word) rest) ≡ said_by word rest
unfolding item_of
statement_said word rest = rw (spelled_cut word rest, spelled_found word) refl

first_lacks : (r : ℕ) → r < 32 → Lacks 44 (register_name r)
first_lacks r small = register_lacks 44 r small refl refl

memory_said : (op : MemoryOp) (ra rb : ℕ) (disp : ℤ) → ra < 32 → rb < 32 → IsDisplacement disp → said_by (m.Memory op) (operand_pair (register_name ra) (address_text disp rb)) ≡ Some (Plain (fields.Memory op ra rb disp))
unfolding said_by
memory_said op ra rb disp a b d = ap (option_map (memory_item op)) (two_complete register_of address_of (register_name ra) (address_text disp rb) ra (disp, rb) (first_lacks ra a) (register_complete ra a) (address_complete disp rb d b))

jump_said : (op : JumpOp) (ra rb : ℕ) → ra < 32 → rb < 32 → said_by (m.Jump op) (operand_pair (register_name ra) (indirect_text rb)) ≡ Some (Plain (fields.Jump op ra rb))
unfolding said_by
jump_said op ra rb a b = ap (option_map (jump_item op)) (two_complete register_of indirect_of (register_name ra) (indirect_text rb) ra rb (first_lacks ra a) (register_complete ra a) (indirect_complete rb b))

branch_said : (op : BranchOp) (ra l : ℕ) → ra < 32 → l < 2 ^ 32 → said_by (m.Branch op) (operand_pair (register_name ra) (label_name l)) ≡ Some (Branch op ra l)
unfolding said_by
branch_said op ra l a b = ap (option_map (λ p. Branch op p.0 p.1)) (two_complete register_of label_of (register_name ra) (label_name l) ra l (first_lacks ra a) (register_complete ra a) (label_complete l b))

text_said : (ra l : ℕ) → ra < 32 → l < 2 ^ 32 → said_by m.TextAddress (operand_pair (register_name ra) (label_name l)) ≡ Some (TextAddress ra l)
unfolding said_by
text_said ra l a b = ap (option_map (λ p. TextAddress p.0 p.1)) (two_complete register_of label_of (register_name ra) (label_name l) ra l (first_lacks ra a) (register_complete ra a) (label_complete l b))

data_said : (ra n : ℕ) → ra < 32 → n < 2 ^ 32 → said_by m.DataAddress (operand_pair (register_name ra) (decimal n)) ≡ Some (DataAddress ra n)
unfolding said_by
data_said ra n a b = ap (option_map (λ p. DataAddress p.0 p.1)) (two_complete register_of number32_of (register_name ra) (decimal n) ra n (first_lacks ra a) (register_complete ra a) (number32_complete n b))

pub small_call : (n : ℕ) → IsTrue (is_pal_function n) → n < 256
small_call n h = grind (arith, nat_tests, h)

call_said : (n : ℕ) → IsTrue (is_pal_function n) → said_by m.CallPal (decimal n) ≡ Some (Plain (fields.Pal n))
unfolding said_by
call_said n h =
    let small : n < 256 = small_call n h in
    let low : n ≤ 255 = omega arith in
    let found : number_of 255 (decimal n) ≡ Some n = number_complete 255 (decimal n) n (omega arith) low refl in
    rw (found, h) refl

name_said : (name : List ℕ) → IsTrue (is_name name) → said_by m.Entry name ≡ Some (Name name)
unfolding said_by
name_said name h = rw h refl

extension_first : (op : OperateOp) → extends op ≡ true → IsFirstOperand op 31
extension_first Sextb e = refl
extension_first Sextw e = refl
extension_first _ e = absurd (cc)

extension_only : (op : OperateOp) (ra : ℕ) → extends op ≡ true → IsFirstOperand op ra → ra ≡ 31
extension_only Sextb ra e h = h
extension_only Sextw ra e h = h
extension_only _ ra e h = absurd (cc)

other_first : (op : OperateOp) (ra : ℕ) → extends op ≡ false → ra < 32 → IsFirstOperand op ra
other_first Sextb ra e h = absurd (cc)
other_first Sextw ra e h = absurd (cc)
other_first _ ra e h = h

pub other_only : (op : OperateOp) (ra : ℕ) → extends op ≡ false → IsFirstOperand op ra → ra < 32
other_only Sextb ra e h = absurd (cc)
other_only Sextw ra e h = absurd (cc)
other_only _ ra e h = h

last_complete : (rb : Operand) (rc : ℕ) → IsOperand rb → rc < 32 → two_of operand_of register_of (operand_pair (operand_name rb) (register_name rc)) ≡ Some (rb, rc)
last_complete rb rc b c = two_complete operand_of register_of (operand_name rb) (register_name rc) rb rc (operand_lacks rb b) (operand_complete rb b) (register_complete rc c)

operation_said : (op : OperateOp) (ra : ℕ) (rb : Operand) (rc : ℕ) → IsFirstOperand op ra → IsOperand rb → rc < 32 → operation_of op (operands op ra rb rc) ≡ Some (Plain (fields.Operate op ra rb rc))
unfolding operation_of
operation_said op ra rb rc first b c = by (extends op) refl
  where
    by : (t : Bool) → extends op ≡ t → operation_of op (operands op ra rb rc) ≡ Some (Plain (fields.Operate op ra rb rc))
    by true e =
        let none : ra ≡ 31 = extension_only op ra e first in
        rw (e, last_complete rb rc b c, none) refl
    by false e =
        let small : ra < 32 = other_only op ra e first in
        let found = two_complete register_of (two_of operand_of register_of) (register_name ra) (operand_pair (operand_name rb) (register_name rc)) ra (rb, rc) (first_lacks ra small) (register_complete ra small) (last_complete rb rc b c) in
        rw (e, found) refl

operate_said : (op : OperateOp) (rest : List ℕ) → said_by (m.Operate op) rest ≡ operation_of op rest
unfolding said_by
operate_said op rest = refl

label_read : (l : ℕ) → l < 2 ^ 32 → item_of (label_name l ++ 58 ∷ []) ≡ Some (Label l)
unfolding item_of
label_read l small =
    let none : cut 32 (label_name l ++ 58 ∷ []) ≡ None = cut_lacks 32 (label_name l ++ 58 ∷ []) (lacks_append 32 (label_name l) (58 ∷ []) (refl, decimal_lacks 32 l (omega arith) refl) (refl, tt)) in
    rw (none, closed_complete 58 (label_name l) (refl, decimal_lacks 58 l (omega arith) refl), label_complete l small) refl

pub item_complete : (i : AsmItem) → HasLine i → item_of (item_line i) ≡ Some i
item_complete (Label l) h = label_read l h
item_complete (Name name) h = statement_said m.Entry name ∙ name_said name h
item_complete (Plain (fields.Memory op ra rb disp)) h = statement_said (m.Memory op) (operand_pair (register_name ra) (address_text disp rb)) ∙ memory_said op ra rb disp h.0.0 h.0.1 h.0.2
item_complete (Plain (fields.Branch op ra disp)) h = let clash : ◌≡◌ {A = Bool} false true = h.1 in absurd (cc)
item_complete (Plain (fields.Jump op ra rb)) h = statement_said (m.Jump op) (operand_pair (register_name ra) (indirect_text rb)) ∙ jump_said op ra rb h.0.0 h.0.1
item_complete (Plain (fields.Operate op ra rb rc)) h = statement_said (m.Operate op) (operands op ra rb rc) ∙ operate_said op (operands op ra rb rc) ∙ operation_said op ra rb rc h.0.0 h.0.1 h.0.2
item_complete (Plain (fields.Pal n)) h = statement_said m.CallPal (decimal n) ∙ call_said n h.0
item_complete (Branch op ra l) h = statement_said (m.Branch op) (operand_pair (register_name ra) (label_name l)) ∙ branch_said op ra l h.0 h.1
item_complete (TextAddress ra l) h = statement_said m.TextAddress (operand_pair (register_name ra) (label_name l)) ∙ text_said ra l h.0 h.1
item_complete (DataAddress ra n) h = statement_said m.DataAddress (operand_pair (register_name ra) (decimal n)) ∙ data_said ra n h.0 h.1

-- from a line to its item and back

abbrev Says : List ℕ → AsmItem → Type 0
Says line i = HasLine i × (line ≡ item_line i)

says_memory : (op : MemoryOp) (rest : List ℕ) (i : AsmItem) (p : ℕ × (ℤ × ℕ)) → two_of register_of address_of rest ≡ Some p → memory_item op p ≡ i → Says (word_and_rest (spelling (m.Memory op)) rest) i
says_memory op rest i p e same =
    let two = two_sound register_of address_of rest p e in
    let a = register_sound two.first p.0 two.front in
    let b = address_sound two.second p.1 two.behind in
    subst (λ j. Says (word_and_rest (spelling (m.Memory op)) rest) j) same
    (((a.0, b.1, b.0), refl), ap (word_and_rest (spelling (m.Memory op))) (two.text ∙ rw (a.1, b.2) refl))

says_jump : (op : JumpOp) (rest : List ℕ) (i : AsmItem) (p : ℕ × ℕ) → two_of register_of indirect_of rest ≡ Some p → jump_item op p ≡ i → Says (word_and_rest (spelling (m.Jump op)) rest) i
says_jump op rest i p e same =
    let two = two_sound register_of indirect_of rest p e in
    let a = register_sound two.first p.0 two.front in
    let b = indirect_sound two.second p.1 two.behind in
    subst (λ j. Says (word_and_rest (spelling (m.Jump op)) rest) j) same
    (((a.0, b.0), refl), ap (word_and_rest (spelling (m.Jump op))) (two.text ∙ rw (a.1, b.1) refl))

label_two : (rest : List ℕ) (p : ℕ × ℕ) → two_of register_of label_of rest ≡ Some p → (p.0 < 32) × (p.1 < 2 ^ 32) × (rest ≡ operand_pair (register_name p.0) (label_name p.1))
label_two rest p e =
    let two = two_sound register_of label_of rest p e in
    let a = register_sound two.first p.0 two.front in
    let b = label_sound two.second p.1 two.behind in
    (a.0, b.0, two.text ∙ rw (a.1, b.1) refl)

says_branch : (op : BranchOp) (rest : List ℕ) (i : AsmItem) (p : ℕ × ℕ) → two_of register_of label_of rest ≡ Some p → Branch op p.0 p.1 ≡ i → Says (word_and_rest (spelling (m.Branch op)) rest) i
says_branch op rest i p e same =
    let h = label_two rest p e in
    subst (λ j. Says (word_and_rest (spelling (m.Branch op)) rest) j) same ((h.0, h.1), ap (word_and_rest (spelling (m.Branch op))) h.2)

says_text : (rest : List ℕ) (i : AsmItem) (p : ℕ × ℕ) → two_of register_of label_of rest ≡ Some p → TextAddress p.0 p.1 ≡ i → Says (word_and_rest (spelling m.TextAddress) rest) i
says_text rest i p e same =
    let h = label_two rest p e in
    subst (λ j. Says (word_and_rest (spelling m.TextAddress) rest) j) same ((h.0, h.1), ap (word_and_rest (spelling m.TextAddress)) h.2)

says_data : (rest : List ℕ) (i : AsmItem) (p : ℕ × ℕ) → two_of register_of number32_of rest ≡ Some p → DataAddress p.0 p.1 ≡ i → Says (word_and_rest (spelling m.DataAddress) rest) i
says_data rest i p e same =
    let two = two_sound register_of number32_of rest p e in
    let a = register_sound two.first p.0 two.front in
    let b = number32_sound two.second p.1 two.behind in
    subst (λ j. Says (word_and_rest (spelling m.DataAddress) rest) j) same
    ((a.0, b.0), ap (word_and_rest (spelling m.DataAddress)) (two.text ∙ rw (a.1, b.1) refl))

last_two : (rest : List ℕ) (p : Operand × ℕ) → two_of operand_of register_of rest ≡ Some p → IsOperand p.0 × (p.1 < 32) × (rest ≡ operand_pair (operand_name p.0) (register_name p.1))
last_two rest p e =
    let two = two_sound operand_of register_of rest p e in
    let a = operand_sound two.first p.0 two.front in
    let b = register_sound two.second p.1 two.behind in
    (a.0, b.0, two.text ∙ rw (a.1, b.1) refl)

says_extension : (op : OperateOp) (rest : List ℕ) (i : AsmItem) (p : Operand × ℕ) → extends op ≡ true → two_of operand_of register_of rest ≡ Some p → extension_item op p ≡ i → Says (word_and_rest (spelling (m.Operate op)) rest) i
says_extension op rest i p ext e same =
    let h = last_two rest p e in
    subst (λ j. Says (word_and_rest (spelling (m.Operate op)) rest) j) same
    (((extension_first op ext, h.0, h.1), refl), ap (word_and_rest (spelling (m.Operate op))) (h.2 ∙ rw ext refl))

says_three : (op : OperateOp) (rest : List ℕ) (i : AsmItem) (p : ℕ × (Operand × ℕ)) → extends op ≡ false → two_of register_of (two_of operand_of register_of) rest ≡ Some p → operate_item op p ≡ i → Says (word_and_rest (spelling (m.Operate op)) rest) i
says_three op rest i p ext e same =
    let two = two_sound register_of (two_of operand_of register_of) rest p e in
    let a = register_sound two.first p.0 two.front in
    let h = last_two two.second p.1 two.behind in
    subst (λ j. Says (word_and_rest (spelling (m.Operate op)) rest) j) same
    (((other_first op p.0 ext a.0, h.0, h.1), refl), ap (word_and_rest (spelling (m.Operate op))) (two.text ∙ rw (ext, a.1, h.2) refl))

says_operation : (op : OperateOp) (rest : List ℕ) (i : AsmItem) → operation_of op rest ≡ Some i → Says (word_and_rest (spelling (m.Operate op)) rest) i
unfolding operation_of
says_operation op rest i e = elim (split (extends op) (option_map (extension_item op) (two_of operand_of register_of rest)) (option_map (operate_item op) (two_of register_of (two_of operand_of register_of) rest)) (Some i) e) [
  | inl h ↦ (let s = mapped_some (extension_item op) (two_of operand_of register_of rest) i h.1 in says_extension op rest i s.0 h.0 s.1 s.2)
  | inr h ↦ (let s = mapped_some (operate_item op) (two_of register_of (two_of operand_of register_of) rest) i h.1 in says_three op rest i s.0 h.0 s.1 s.2)
]

says_call : (rest : List ℕ) (i : AsmItem) (o : Option ℕ) → number_of 255 rest ≡ o → call_in o ≡ Some i → Says (word_and_rest (spelling m.CallPal) rest) i
says_call rest i None was e = absurd (cc)
says_call rest i (Some n) was e =
    let h = guarded_some (is_pal_function n) (Some (Plain (fields.Pal n))) i e in
    let same : Plain (fields.Pal n) ≡ i = cc in
    subst (λ j. Says (word_and_rest (spelling m.CallPal) rest) j) same
    ((h.0, refl), ap (word_and_rest (spelling m.CallPal)) (number_sound 255 rest n was).1)

says_name : (rest : List ℕ) (i : AsmItem) → (if is_name rest then Some (Name rest) else None) ≡ Some i → Says (word_and_rest (spelling m.Entry) rest) i
says_name rest i e =
    let h = guarded_some (is_name rest) (Some (Name rest)) i e in
    let same : Name rest ≡ i = cc in
    subst (λ j. Says (word_and_rest (spelling m.Entry) rest) j) same (h.0, refl)

said_sound : (word : Mnemonic) (rest : List ℕ) (i : AsmItem) → said_by word rest ≡ Some i → Says (word_and_rest (spelling word) rest) i
unfolding said_by
said_sound (m.Memory op) rest i e = let s = mapped_some (memory_item op) (two_of register_of address_of rest) i e in says_memory op rest i s.0 s.1 s.2
said_sound (m.Branch op) rest i e = let s = mapped_some (λ (p : ℕ × ℕ). Branch op p.0 p.1) (two_of register_of label_of rest) i e in says_branch op rest i s.0 s.1 s.2
said_sound (m.Jump op) rest i e = let s = mapped_some (jump_item op) (two_of register_of indirect_of rest) i e in says_jump op rest i s.0 s.1 s.2
said_sound (m.Operate op) rest i e = says_operation op rest i e
said_sound m.CallPal rest i e = says_call rest i (number_of 255 rest) refl e
said_sound m.Entry rest i e = says_name rest i e
said_sound m.TextAddress rest i e = let s = mapped_some (λ (p : ℕ × ℕ). TextAddress p.0 p.1) (two_of register_of label_of rest) i e in says_text rest i s.0 s.1 s.2
said_sound m.DataAddress rest i e = let s = mapped_some (λ (p : ℕ × ℕ). DataAddress p.0 p.1) (two_of register_of number32_of rest) i e in says_data rest i s.0 s.1 s.2

word_sound : (word rest : List ℕ) (i : AsmItem) (o : Option Mnemonic) → mnemonic_of word ≡ o → said_in o rest ≡ Some i → Says (word_and_rest word rest) i
word_sound word rest i None was e = absurd (cc)
word_sound word rest i (Some w) was e = rw (mnemonic_sound word w was) (said_sound w rest i e)

label_item_sound : (line : List ℕ) (i : AsmItem) (o : Option (List ℕ)) → closed_by 58 line ≡ o → label_in o ≡ Some i → Says line i
label_item_sound line i None was e = absurd (cc)
label_item_sound line i (Some s) was e =
    let found = mapped_some Label (label_of s) i e in
    let n = label_sound s found.0 found.1 in
    subst (λ j. Says line j) found.2 (n.0, closed_sound 58 line s was ∙ ap (λ t. t ++ 58 ∷ []) n.1)

pub item_sound : (line : List ℕ) (i : AsmItem) → item_of line ≡ Some i → HasLine i × (line ≡ item_line i)
unfolding item_of
item_sound line i e = by (cut 32 line) refl e
  where
    by : (o : Option (List ℕ × List ℕ)) → cut 32 line ≡ o → item_in o line ≡ Some i → Says line i
    by None was h = label_item_sound line i (closed_by 58 line) refl h
    by (Some p) was h = rw (cut_sound 32 line p.0 p.1 was) (word_sound p.0 p.1 i (mnemonic_of p.0) refl h)
