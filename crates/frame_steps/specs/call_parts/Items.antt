-- The parts of a function by which it is entered and left, after the register usage of the Alpha calling standard: a
-- function lowers register 30 by its frame and keeps there the return address, which register 26 has, and those of the
-- registers 9 to 15 that it writes.
use Rattle.std.specs.Prelude.{ℕ, zero, suc, ◌+◌, ◌*◌, ◌/◌, nat_lt, pos, ◌-ℤ◌, Bool, true, false, List, ◌∷◌, ◌++◌, if◌then◌else◌}
use Rattle.alpha_isa.specs.declared.insn.Fields.TheVariants.{Memory, Jump}
use Rattle.alpha_isa.specs.declared.insn.MemoryOp.TheVariants.{Lda, Ldah}
use Rattle.alpha_isa.specs.declared.insn.JumpOp.TheVariants.{Ret}
use Rattle.alpha_items.specs.declared.item.AsmItem.{AsmItem}
use Rattle.alpha_items.specs.declared.item.AsmItem.TheVariants.{Plain}
use Rattle.alpha_items.specs.Words.{high_of}
use Rattle.frame_memory.specs.flat_frames.Shapes.{FrameShape, frame_size, return_at, saved_at}
use Rattle.frame_steps.specs.frame_accesses.Items.{near_size, frame_load, frame_store}

-- the multiple of 65,536 from which a signed displacement leads down to a size
abbrev pub high_below : (size : ℕ) → ℕ
high_below size = (size + 32767) / 65536

-- register 30 is lowered by so many bytes, and raised
abbrev pub lower_stack : (size : ℕ) → (rest : List AsmItem) → List AsmItem
lower_stack size rest =
    if nat_lt size near_size then Plain (Memory Lda 30 30 (pos 0 -ℤ pos size)) ∷ rest
    else Plain (Memory Ldah 30 30 (pos 0 -ℤ pos (high_below size)))
    ∷ Plain (Memory Lda 30 30 (pos (high_below size * 65536) -ℤ pos size)) ∷ rest

abbrev pub raise_stack : (size : ℕ) → (rest : List AsmItem) → List AsmItem
raise_stack size rest =
    if nat_lt size near_size then Plain (Memory Lda 30 30 (pos size)) ∷ rest
    else Plain (Memory Ldah 30 30 (pos (high_of size)))
    ∷ Plain (Memory Lda 30 30 (pos size -ℤ pos (high_of size * 65536))) ∷ rest

-- those that a function saves of so many registers from one on are stored in its frame
abbrev pub save_if : FrameShape → (saves : Bool) → (register : ℕ) → (rest : List AsmItem) → List AsmItem
save_if s true r rest = frame_store r (saved_at s r) ++ rest
save_if s false r rest = rest

abbrev pub save_registers : FrameShape → (saves : ℕ → Bool) → (first count : ℕ) → (rest : List AsmItem) → List AsmItem
save_registers s saves r zero rest = rest
save_registers s saves r (suc count) rest = save_if s (saves r) r (save_registers s saves (suc r) count rest)

-- and loaded again
abbrev pub restore_if : FrameShape → (saves : Bool) → (register : ℕ) → (rest : List AsmItem) → List AsmItem
restore_if s true r rest = frame_load r (saved_at s r) ++ rest
restore_if s false r rest = rest

abbrev pub restore_registers : FrameShape → (saves : ℕ → Bool) → (first count : ℕ) → (rest : List AsmItem) →
    List AsmItem
restore_registers s saves r zero rest = rest
restore_registers s saves r (suc count) rest = restore_if s (saves r) r (restore_registers s saves (suc r) count rest)

-- the entry part, in front of other items, and the exit part
abbrev pub entry_part : FrameShape → (saves : ℕ → Bool) → (rest : List AsmItem) → List AsmItem
entry_part s saves rest =
    lower_stack (frame_size s) (frame_store 26 (return_at s) ++ save_registers s saves 9 7 rest)

abbrev pub exit_part : FrameShape → (saves : ℕ → Bool) → (rest : List AsmItem) → List AsmItem
exit_part s saves rest =
    restore_registers s saves 9 7
    (frame_load 26 (return_at s) ++ raise_stack (frame_size s) (Plain (Jump Ret 31 26) ∷ rest))
