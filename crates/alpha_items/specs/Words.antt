-- The image of an assembly.
use Rattle.std.specs.Prelude.{◌≡◌, ◌≢◌, Some, ℕ, ◌+◌, ◌*◌, ◌/◌, pos, ◌-ℤ◌, Bool, true, false, List, [], ◌∷◌, ◌++◌, map}
use Rattle.std.specs.Int.{w64, to_le_bytes}
use Rattle.std.specs.List.{fold}
use Rattle.alpha_isa.specs.declared.insn.Fields.{Fields}
use Rattle.alpha_isa.specs.declared.insn.Fields.TheVariants as fields
use Rattle.alpha_isa.specs.declared.insn.MemoryOp.TheVariants.{Lda, Ldah}
use Rattle.alpha_isa.specs.declared.insn.JumpOp.TheVariants.{Jmp, Jsr}
use Rattle.alpha_isa.specs.declared.insn.BranchOp.{BranchOp}
use Rattle.alpha_isa.specs.declared.insn.BranchOp.TheVariants.{Br, Bsr, Blbc, Beq, Blt, Ble, Blbs, Bne, Bge, Bgt}
use Rattle.alpha_isa.specs.Words.{insn_word}
use Rattle.alpha_isa.specs.Program.{Program, data_of, last_byte, data_start, word_address}
use Rattle.alpha_isa.specs.State.{with_part}
use Rattle.alpha_items.specs.declared.item.AsmItem.{AsmItem}
use Rattle.alpha_items.specs.declared.item.AsmItem.TheVariants.{Label, Name, Plain, Branch, TextAddress, DataAddress}
use Rattle.alpha_items.specs.declared.item.Fix.{Fix}
use Rattle.alpha_items.specs.Assembly.{Assembly}
use Rattle.alpha_items.specs.Layout.{item_words, label_place, displacement, IsLeastFar}

-- the branch that is taken where another is not
abbrev pub inverse : BranchOp → BranchOp
inverse Beq = Bne
inverse Bne = Beq
inverse Blt = Bge
inverse Bge = Blt
inverse Ble = Bgt
inverse Bgt = Ble
inverse Blbc = Blbs
inverse Blbs = Blbc
inverse Br = Br
inverse Bsr = Bsr

-- an address in two instructions: the nearest multiple of 65,536, and the signed rest
abbrev pub high_of : ℕ → ℕ
high_of address = (address + 32768) / 65536

abbrev pub address_insns : ℕ → ℕ → List Fields
address_insns ra address =
    fields.Memory Ldah ra 31 (pos (high_of address))
    ∷ fields.Memory Lda ra ra (pos address -ℤ pos (high_of address * 65536)) ∷ []

-- addresses and offsets below this one are sums of a high and a low half
abbrev pub most_address : ℕ
most_address = 2147450880

-- the register that holds the address of a far branch
abbrev pub scratch : ℕ
scratch = 28

-- a far branch: a jump to an address, which a condition that does not hold passes over
abbrev pub far_insns : BranchOp → ℕ → ℕ → List Fields
far_insns Br ra address = address_insns scratch address ++ fields.Jump Jmp ra scratch ∷ []
far_insns Bsr ra address = address_insns scratch address ++ fields.Jump Jsr ra scratch ∷ []
far_insns op ra address =
    fields.Branch (inverse op) ra (pos 3) ∷ (address_insns scratch address ++ fields.Jump Jmp 31 scratch ∷ [])

abbrev pub branch_insns : Bool → BranchOp → ℕ → ℕ → ℕ → List Fields
branch_insns false op ra here there = fields.Branch op ra (displacement here there) ∷ []
branch_insns true op ra here there = far_insns op ra (word_address there)

-- the instructions of an item that stands at a word, by the words of the labels and the start of the data
abbrev pub item_insns : (ℕ → ℕ) → ℕ → ℕ → Bool → AsmItem → List Fields
item_insns there start here far (Label l) = []
item_insns there start here far (Name bytes) = []
item_insns there start here far (Plain insn) = insn ∷ []
item_insns there start here far (Branch op ra l) = branch_insns far op ra here (there l)
item_insns there start here far (TextAddress ra l) = address_insns ra (word_address (there l))
item_insns there start here far (DataAddress ra offset) = address_insns ra (start + offset)

-- the instructions of the items of a text, of which the first stands at a word
abbrev pub text_insns : (ℕ → ℕ) → ℕ → ℕ → List AsmItem → List Bool → List Fields
text_insns there start here [] far = []
text_insns there start here (i ∷ items) [] = []
text_insns there start here (i ∷ items) (f ∷ far) =
    item_insns there start here f i ++ text_insns there start (here + item_words f i) items far

-- the data with the addresses that its fixes ask for
abbrev pub with_fix : ℕ → List ℕ → Fix → List ℕ
with_fix start bytes fix = with_part bytes fix.at (to_le_bytes w64 (start + fix.offset))

abbrev pub fixed_data : ℕ → List ℕ → List Fix → List ℕ
fixed_data start bytes fixes = fold (with_fix start) bytes fixes

-- the image is the assembly: its far branches are the least that can be, its words those of the items, its data
-- with the zeros has the addresses of the fixes, its bytes are none or do not end with a zero, and its entry is
-- label 0
pub record Words (a : Assembly) (p : Program) : Type 0 where
  pub far : List Bool
  pub least : IsLeastFar a.items far
  pub words : p.words ≡ map insn_word (text_insns (label_place a.items far) (data_start p) 0 a.items far)
  pub data_bytes : data_of p ≡ fixed_data (data_start p) a.bytes a.fixes
  pub last : last_byte p.bytes ≢ Some 0
  pub entry : p.entry ≡ label_place a.items far 0
