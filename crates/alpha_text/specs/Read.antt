-- Why a text is not read.
use Rattle.std.specs.Prelude.{ℕ, ◌<◌, List}
use Rattle.bk_memory.specs.Shortage.{MemoryIsShort}
use Rattle.alpha_isa.specs.Program.{most_bytes}
use Rattle.alpha_text.specs.declared.fault.TextFault.{TextFault}
use Rattle.alpha_text.specs.declared.fault.TextFault.TheVariants as fault
use Rattle.alpha_text.specs.Wrong.{Data, FirstWrong, NoneWrong}
use Rattle.alpha_items.specs.declared.item.AsmItem.{AsmItem}
use Rattle.alpha_items.specs.declared.item.Fix.{Fix}

-- each line is in its form, and this is the count of the data
abbrev pub HasDataCount : List ℕ → ℕ → Type 0
HasDataCount text n =
    (items : List AsmItem) × (bytes : List ℕ) × (fixes : List Fix) × NoneWrong text (Data items n bytes fixes)

-- the first wrong line, too many bytes where no line is wrong, or memory that is short
abbrev pub IsTextFault : List ℕ → TextFault → Type 0
IsTextFault text (fault.Line n) = FirstWrong text n
IsTextFault text (fault.Data n) = HasDataCount text n × (most_bytes < n)
IsTextFault text fault.NoMemory = MemoryIsShort
