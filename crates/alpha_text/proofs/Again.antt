-- What is printed is read again as the same assembly.
use Rattle.std.proofs.Common.{◌≡◌, ℕ, true, List, length, refl, ap, ◌∙◌, arith}
use Rattle.alpha_items.specs.declared.item.AsmItem.{AsmItem}
use Rattle.alpha_items.specs.declared.item.Fix.{Fix}
use Rattle.alpha_items.specs.Assembly.{Assembly, IsWhole}
use Rattle.alpha_text.specs.declared.fault.TextFault.{TextFault}
use Rattle.alpha_text.specs.declared.fault.TextFault.TheVariants as fault
use Rattle.alpha_text.specs.Texts.{Texts, asm_lines, asm_text, HasText}
use Rattle.alpha_text.specs.Wrong.{lines_of, is_ended, TextSoFar, Nothing, Data, NoneWrong}
use Rattle.alpha_text.specs.Read.{IsTextFault}
use Rattle.alpha_text.proofs.Unique.{wrong_or_well, well_one}
use Rattle.alpha_text.proofs.Complete.{whole_well}
use Rattle.alpha_text.proofs.Feeds.{lines_ended, lines_end, asm_lack}

pub none_wrong : (text : List ℕ) (a : Assembly) → IsWhole a → HasText a → Texts text a → NoneWrong text (Data a.items (length a.bytes) a.bytes a.fixes)
unfolding asm_text
none_wrong text a whole has e =
    let lines : lines_of text ≡ asm_lines a = ap lines_of e ∙ lines_ended (asm_lines a) (asm_lack a whole has) in
    let end : is_ended text ≡ true = ap is_ended e ∙ lines_end (asm_lines a) in
    rw (lines, end) (whole_well a whole has)

abbrev parts : TextSoFar → Assembly → Assembly
parts (Data items n bytes fixes) other = record { items = items; bytes = bytes; fixes = fixes }
parts _ other = other

abbrev count : TextSoFar → ℕ
count (Data items n bytes fixes) = n
count _ = 0

pub read_again : (text : List ℕ) (items : List AsmItem) (n : ℕ) (bytes : List ℕ) (fixes : List Fix) (a : Assembly) → NoneWrong text (Data items n bytes fixes) → IsWhole a → HasText a → Texts text a → ◌≡◌ {A = Assembly} (record { items = items; bytes = bytes; fixes = fixes }) a
read_again text items n bytes fixes a none whole has e =
    let same : Data items n bytes fixes ≡ Data a.items (length a.bytes) a.bytes a.fixes = well_one (lines_of text) Nothing (lines_of text) (is_ended text) (Data items n bytes fixes) (Data a.items (length a.bytes) a.bytes a.fixes) none (none_wrong text a whole has e) in
    ap (λ s. parts s a) same

pub fault_again : (text : List ℕ) (f : TextFault) (a : Assembly) → IsTextFault text f → IsWhole a → HasText a → Texts text a → f ≡ fault.NoMemory
fault_again text (fault.Line n) a wrong whole has e = absurd (wrong_or_well (lines_of text) Nothing 1 (lines_of text) (is_ended text) n (Data a.items (length a.bytes) a.bytes a.fixes) wrong (none_wrong text a whole has e))
fault_again text (fault.Data n) a counted whole has e =
    let items = counted.0.0 in
    let bytes = counted.0.1 in
    let fixes = counted.0.2 in
    let same : Data items n bytes fixes ≡ Data a.items (length a.bytes) a.bytes a.fixes = well_one (lines_of text) Nothing (lines_of text) (is_ended text) (Data items n bytes fixes) (Data a.items (length a.bytes) a.bytes a.fixes) counted.0.3 (none_wrong text a whole has e) in
    let number : n ≡ length a.bytes = ap count same in
    absurd (omega (arith, counted.1, whole.bytes))
fault_again text fault.NoMemory a counted whole has e = refl
