-- What is assembled of the text that was read of a file.
use Rattle.std.proofs.Common.{◌≡◌, ◌≢◌, ◌⊎◌, ℕ, ◌≤◌, List, inl, inr, length, take, ap, refl, sym, subst, arith, length-take, Option, Some, None, IfSome}
use Rattle.bk_memory.specs.Shortage.{MemoryIsShort}
use Rattle.bk_io.specs.Shelf.{Shelf, file_of}
use Rattle.alpha_isa.specs.Program.{Program}
use Rattle.alpha_items.specs.Assembly.{Assembly, IsWhole}
use Rattle.alpha_items.specs.Layout.{text_words}
use Rattle.alpha_items.specs.Words.{Words}
use Rattle.alpha_text.specs.Texts.{Texts, HasText, asm_text}
use Rattle.alpha_text.specs.Read.{IsTextFault}
use Rattle.alpha_text.specs.declared.fault.TextFault.{TextFault}
use Rattle.alpha_text.specs.declared.fault.TextFault.TheVariants as lines
use Rattle.alpha_text.proofs.Sizes.{words_in_text}
use Rattle.alpha_text.proofs.Again.{fault_again}
use Rattle.alpha_asm.specs.Fault.{HasFewWords, IsAsmFault}
use Rattle.alpha_asm.specs.declared.assemble.AsmFault.TheVariants as asm
use Rattle.call_outcomes.specs.declared.outcome.Outcome.{Outcome}
use Rattle.call_outcomes.specs.declared.outcome.Outcome.TheVariants.{Built, FileFault, InputFault, WriteFault, Limit, BadAsm, NoMemory}
use Rattle.call_outcomes.specs.declared.outcome.Which.TheVariants.{Text, Data}
use Rattle.call_outcomes.specs.FromFile.{IsFront}
use Rattle.msc_cli.specs.model.Causes.{outcome_of_text_fault}
use Rattle.call_outcomes.specs.FromFile.{IsCause, file_bytes}
use Rattle.msc_cli.specs.Limits.{most_assembly, assembly_limit}
use Rattle.msc_cli.specs.AssembleText.{IsAssembled, SpellsNoImage, RefusesAssembly, Assembles}

-- a text within the limit has no more words than an image may have
pub few_words : (text : List ℕ) (a : Assembly) → length text ≤ most_assembly → Texts text a → HasFewWords a
few_words text a low is = record {
  most = λ n has.
      let few : text_words a.items has.far ≤ length (asm_text a) = words_in_text a has.far in
      omega (arith, low, ap length is, few, has.words);
}

-- an assembly with few words is not refused for their number
pub no_more_words : (a : Assembly) (n : ℕ) → HasFewWords a → IsAsmFault a (asm.CodeTooLong n) → ⊥
no_more_words a n few fault = let most = few.most n fault.0 in omega (arith, most, fault.1)

-- why there is no image
pub text_cause : (text : List ℕ) (f : TextFault) → length text ≤ most_assembly → IsTextFault text f → IsCause (RefusesAssembly (Some text)) (outcome_of_text_fault f)
text_cause text (lines.Line n) low h = (low, h)
text_cause text (lines.Data n) low h = (low, h.0, h.1)
text_cause text lines.NoMemory low h = inl h

pub memory_cause : (text : List ℕ) (o : Outcome) → (o ≡ NoMemory) × MemoryIsShort → IsCause (RefusesAssembly (Some text)) o
memory_cause text o short = subst (IsCause (RefusesAssembly (Some text))) (sym short.0) (inl short.1)

-- none of these outcomes is a fault of the outside
pub text_no_fault : (f : TextFault) → (outcome_of_text_fault f ≢ FileFault) × (outcome_of_text_fault f ≢ InputFault) × (outcome_of_text_fault f ≢ WriteFault)
text_no_fault (lines.Line n) = (λ e. cc, λ e. cc, λ e. cc)
text_no_fault (lines.Data n) = (λ e. cc, λ e. cc, λ e. cc)
text_no_fault lines.NoMemory = (λ e. cc, λ e. cc, λ e. cc)

pub memory_no_fault : (o : Outcome) → (o ≡ NoMemory) × MemoryIsShort → (o ≢ FileFault) × (o ≢ InputFault) × (o ≢ WriteFault)
memory_no_fault o short = let is : o ≡ NoMemory = short.0 in (λ e. cc, λ e. cc, λ e. cc)

-- a front within the limit is the whole file
short : (file text : List ℕ) → text ≡ take assembly_limit file → assembly_limit ≤ length file → length text ≤ most_assembly → ⊥
short file text front long within = omega (arith, within, ap length front, length-take assembly_limit file, long)

assembled_file : (file text : List ℕ) (p : Program) → IsFront assembly_limit file text → IsAssembled text p → IsAssembled file p
assembled_file file text p front s = elim front [
  | inl w ↦ subst (λ t. IsAssembled t p) w.0 s
  | inr w ↦ absurd (short file text w.0 w.1 s.low)
]

none_cut : (file text : List ℕ) (answer : Outcome) → text ≡ take assembly_limit file → assembly_limit ≤ length file → SpellsNoImage text answer → SpellsNoImage file answer
none_cut file text (Limit Text counted) front long n = (omega (arith, long), n.1)
none_cut file text (Limit Data counted) front long n = absurd (short file text front long n.0)
none_cut file text (BadAsm line) front long n = absurd (short file text front long n.0)
none_cut file text _ front long n = absurd n

none_file : (file text : List ℕ) (answer : Outcome) → IsFront assembly_limit file text → SpellsNoImage text answer → SpellsNoImage file answer
none_file file text answer front n = elim front [
  | inl w ↦ subst (λ t. SpellsNoImage t answer) w.0 n
  | inr w ↦ none_cut file text answer w.0 w.1 n
]

-- what holds of the text holds of the file, where it is told
assembled_told : (told : Option Shelf) (name text : List ℕ) (p : Program) → IfSome told (λ shelf. IsFront assembly_limit (file_of shelf name) text) → IsAssembled text p → IfSome (file_bytes told name) (λ t. IsAssembled t p)
assembled_told None name text p front s = tt
assembled_told (Some shelf) name text p front s = assembled_file (file_of shelf name) text p front s

none_told : (told : Option Shelf) (name text : List ℕ) (answer : Outcome) → IfSome told (λ shelf. IsFront assembly_limit (file_of shelf name) text) → SpellsNoImage text answer → IfSome (file_bytes told name) (λ t. SpellsNoImage t answer)
none_told None name text answer front n = tt
none_told (Some shelf) name text answer front n = none_file (file_of shelf name) text answer front n

cause_told : (told : Option Shelf) (name text : List ℕ) (answer : Outcome) → IfSome told (λ shelf. IsFront assembly_limit (file_of shelf name) text) → IsCause (RefusesAssembly (Some text)) answer → IsCause (RefusesAssembly (file_bytes told name)) answer
cause_told told name text FileFault front c = tt
cause_told told name text NoMemory front c = c
cause_told told name text (Limit Text counted) front c = none_told told name text (Limit Text counted) front c
cause_told told name text (Limit Data counted) front c = none_told told name text (Limit Data counted) front c
cause_told told name text (BadAsm line) front c = none_told told name text (BadAsm line) front c
cause_told told name text _ front c = absurd c

pub assembles_told : (told : Option Shelf) (name text : List ℕ) (answer : Outcome) (old new : Option (List ℕ)) → IfSome told (λ shelf. IsFront assembly_limit (file_of shelf name) text)
    → Assembles (Some text) answer old new → Assembles (file_bytes told name) answer old new
assembles_told told name text answer old new front p = elim p [
  | inl c ↦ inl (cause_told told name text answer front c.0, c.1)
  | inr m ↦ inr (m.0, assembled_told told name text m.0 front m.1, m.2)
]

-- the text of a whole assembly is assembled
by_cause : (text : List ℕ) (a : Assembly) (answer : Outcome) → length text ≤ most_assembly → IsWhole a → HasText a → Texts text a → answer ≢ FileFault → IsCause (RefusesAssembly (Some text)) answer → (answer ≡ Built) ⊎ (answer ≡ NoMemory)
by_cause text a FileFault low whole has is other c = absurd (other refl)
by_cause text a NoMemory low whole has is other c = inr refl
by_cause text a (Limit Text counted) low whole has is other c = let high = c.0 in absurd (omega (arith, low, high))
by_cause text a (Limit Data n) low whole has is other c = let clash : lines.Data n ≡ lines.NoMemory = fault_again text (lines.Data n) a (c.1, c.2) whole has is in absurd (cc)
by_cause text a (BadAsm line) low whole has is other c = let clash : lines.Line line ≡ lines.NoMemory = fault_again text (lines.Line line) a c.1 whole has is in absurd (cc)
by_cause text a _ low whole has is other c = absurd c

pub assembled_text : (text : List ℕ) (a : Assembly) (answer : Outcome) (old new : Option (List ℕ)) → length text ≤ most_assembly → IsWhole a → HasText a → Texts text a → Assembles (Some text) answer old new → answer ≢ FileFault → answer ≢ WriteFault → (answer ≡ Built) ⊎ (answer ≡ NoMemory)
assembled_text text a answer old new low whole has is assembles no_file no_write = elim assembles [
  | inl c ↦ by_cause text a answer low whole has is no_file c.0
  | inr m ↦ elim m.2 [
    | inl none ↦ inr none.0
    | inr puts ↦ elim puts.1 [
      | inl all ↦ inl all.0
      | inr front ↦ absurd (no_write front.0)
    ]
  ]
]

pub assembled_by : (text : List ℕ) (a : Assembly) (p : Program) → length text ≤ most_assembly → IsWhole a → HasText a → Texts text a → Words a p → IsAssembled text p
assembled_by text a p low whole has is image = record { low = low; assembly = a; whole = whole; fields = has; spells = is; image = image }
