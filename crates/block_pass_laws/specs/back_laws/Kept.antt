-- What blocks over temporaries keep of others, whose contents they have.
use Rattle.std.specs.Prelude.{ℕ, ◌<◌, List, All, IsTrue, length}
use Rattle.mem_objects.specs.declared.DataObject.{DataObject}
use Rattle.pass_core.specs.declared.function.MemoryLocal.{MemoryLocal}
use Rattle.pass_core.specs.Functions.{AllInsns, EndsLate}
use Rattle.temp_ir.specs.declared.insn.TempInsn.{TempInsn}
use Rattle.temp_ir.specs.Insns.{targets_of, with_block, flows_on_of}
use Rattle.temp_ir.specs.Fixed.{is_settled}
use Rattle.temp_ir.specs.Programs.{TempFn, names_what_is_there, goes_back_to_marks}
use Rattle.cfg.specs.Walks.{block_at}
use Rattle.cfg.specs.Contents.{KeepsBlocks, KeepsBack}

-- block 0 has the contents of block 0, and each other block none or those of one that is not block 0
abbrev pub KeepContents : (before after : List (List TempInsn)) → Type 0
KeepContents before after = KeepsBlocks targets_of with_block flows_on_of before after

-- each fixed register that the blocks read was written as fixed before, in the same block, where it was so before
abbrev pub SettledIsKept : Type 0
SettledIsKept =
    (params : ℕ) (before after : List (List TempInsn)) → KeepContents before after →
    IsTrue (is_settled params before) → IsTrue (is_settled params after)

-- what the blocks name is there, where it was before
abbrev pub NamesAreKept : Type 0
NamesAreKept =
    (functions : List TempFn) (globals : List DataObject) (objects : List MemoryLocal) →
    (before after : List (List TempInsn)) → KeepContents before after →
    AllInsns (λ i. IsTrue (names_what_is_there functions globals objects i)) before →
    AllInsns (λ i. IsTrue (names_what_is_there functions globals objects i)) after

-- each jump or branch back goes to a block that begins with a mark
abbrev pub GoBackToMarks : List (List TempInsn) → Type 0
GoBackToMarks blocks =
    (block : ℕ) → block < length blocks → All (λ i. IsTrue (goes_back_to_marks blocks block i)) (block_at blocks block)

-- so it is where it was so before, for blocks in which jumps stand last
abbrev pub MarksAreKept : Type 0
MarksAreKept =
    (before after : List (List TempInsn)) → KeepsBack targets_of with_block flows_on_of before after →
    All (EndsLate targets_of flows_on_of) after → GoBackToMarks before → GoBackToMarks after
