-- What the processor's parts do, as cases of the step.
use Rattle.std.proofs.Common.{◌≡◌, ℕ, ◌+◌, ℤ, pos, ◌*ℤ◌, List, Bool, true, false, Option, Some, None, option_map, refl, ap, ◌∙◌}
use Rattle.std.specs.Bool.{OnFalse}
use Rattle.std.specs.Int.{w8, w16, w32, w64, cast_signed, cast_unsigned, from_le_bytes, to_le_bytes}
use Rattle.std.specs.Int.RustNames.{FitsSigned}
use Rattle.std.proofs.lemmas.Int.{to_z-of_z}
use Rattle.alpha_isa.specs.declared.insn.MemoryOp.{MemoryOp}
use Rattle.alpha_isa.specs.declared.insn.MemoryOp.TheVariants.{Lda, Ldah, Ldbu, Ldwu, Ldl, Ldq, Stb, Stw, Stl, Stq}
use Rattle.alpha_isa.specs.Arithmetic.{word_at, word_from, sign_extension}
use Rattle.alpha_isa.specs.Program.{Program}
use Rattle.alpha_isa.specs.State.{State, register, bytes_at, with_bytes}
use Rattle.alpha_isa.specs.Step.{memory_address, load_into, go_on_stored, memory_step}
use Rattle.alpha_run.specs.declared.memory.Memory.{Memory}
use Rattle.alpha_run.specs.declared.processor.Processor.{Processor}
use Rattle.alpha_run.specs.model.MemoryParts.{IsMemoryOf, HasBytesOf, stored_in}
use Rattle.alpha_run.specs.model.ProcessorState.{processor_state, IsProcessorOf, next_with_word, advanced_if}

pub memory_of : (p : Program) (m : Processor) (x y : List ℕ) → IsProcessorOf p m → IsMemoryOf p (processor_state m x y) m.memory
memory_of p m x y r = record {
  data_start = r.data_start;
  stack_start = r.stack_start;
  data_bytes = refl;
  stack_bytes = refl;
}

-- a register plus a displacement that was passed on and made a word
pub address_is : (s : State) (rb : ℕ) (disp : ℤ) (word a : ℕ) → FitsSigned w16 disp → a ≡ word_at (register s rb + word) → word ≡ word_from (cast_signed w16 (cast_unsigned w16 disp)) → a ≡ memory_address s rb disp
address_is s rb disp word a fits e w = e ∙ ap (λ n. word_at (register s rb + n)) (w ∙ ap word_from (to_z-of_z w16 disp fits))

pub high_is : (s : State) (rb : ℕ) (disp : ℤ) (word a : ℕ) → FitsSigned w16 disp → a ≡ word_at (register s rb + word) → word ≡ word_from (cast_signed w16 (cast_unsigned w16 disp) *ℤ pos 65536) → a ≡ memory_address s rb (disp *ℤ pos 65536)
high_is s rb disp word a fits e w = e ∙ ap (λ n. word_at (register s rb + n)) (w ∙ ap (λ z. word_from (z *ℤ pos 65536)) (to_z-of_z w16 disp fits))

-- ---- loads

given_loaded : (value : List ℕ → ℕ) (ra : ℕ) (bytes : Option (List ℕ)) (s : State) (word : Option ℕ) → word ≡ option_map value bytes → next_with_word ra word s ≡ load_into value ra bytes s
given_loaded value ra None s word e = rw e refl
given_loaded value ra (Some bytes) s word e = rw e refl

pub lda_given : (p : Program) (op : MemoryOp) (ra rb : ℕ) (disp : ℤ) (s : State) (a : ℕ) → op ≡ Lda → a ≡ memory_address s rb disp → next_with_word ra (Some a) s ≡ memory_step p op ra rb disp s
lda_given p op ra rb disp s a is e = rw (is, e) refl

pub ldah_given : (p : Program) (op : MemoryOp) (ra rb : ℕ) (disp : ℤ) (s : State) (a : ℕ) → op ≡ Ldah → a ≡ memory_address s rb (disp *ℤ pos 65536) → next_with_word ra (Some a) s ≡ memory_step p op ra rb disp s
ldah_given p op ra rb disp s a is e = rw (is, e) refl

pub ldbu_given : (p : Program) (op : MemoryOp) (ra rb : ℕ) (disp : ℤ) (s : State) (a : ℕ) (word : Option ℕ) → op ≡ Ldbu → a ≡ memory_address s rb disp → word ≡ option_map (from_le_bytes w8) (bytes_at p s a 1) → next_with_word ra word s ≡ memory_step p op ra rb disp s
ldbu_given p op ra rb disp s a word is e w = given_loaded (from_le_bytes w8) ra (bytes_at p s a 1) s word w ∙ rw (is, e) refl

pub ldwu_given : (p : Program) (op : MemoryOp) (ra rb : ℕ) (disp : ℤ) (s : State) (a : ℕ) (word : Option ℕ) → op ≡ Ldwu → a ≡ memory_address s rb disp → word ≡ option_map (from_le_bytes w16) (bytes_at p s a 2) → next_with_word ra word s ≡ memory_step p op ra rb disp s
ldwu_given p op ra rb disp s a word is e w = given_loaded (from_le_bytes w16) ra (bytes_at p s a 2) s word w ∙ rw (is, e) refl

pub ldl_given : (p : Program) (op : MemoryOp) (ra rb : ℕ) (disp : ℤ) (s : State) (a : ℕ) (word : Option ℕ) → op ≡ Ldl → a ≡ memory_address s rb disp → word ≡ option_map (λ bytes. sign_extension w32 (from_le_bytes w32 bytes)) (bytes_at p s a 4) → next_with_word ra word s ≡ memory_step p op ra rb disp s
ldl_given p op ra rb disp s a word is e w = given_loaded (λ bytes. sign_extension w32 (from_le_bytes w32 bytes)) ra (bytes_at p s a 4) s word w ∙ rw (is, e) refl

pub ldq_given : (p : Program) (op : MemoryOp) (ra rb : ℕ) (disp : ℤ) (s : State) (a : ℕ) (word : Option ℕ) → op ≡ Ldq → a ≡ memory_address s rb disp → word ≡ option_map (from_le_bytes w64) (bytes_at p s a 8) → next_with_word ra word s ≡ memory_step p op ra rb disp s
ldq_given p op ra rb disp s a word is e w = given_loaded (from_le_bytes w64) ra (bytes_at p s a 8) s word w ∙ rw (is, e) refl

-- ---- stores

pub advanced_stored : (done : Bool) (m : Processor) (memory : Memory) (x y : List ℕ) → OnFalse done (HasBytesOf m.memory memory) → advanced_if done (processor_state (record m { memory = memory }) x y) ≡ go_on_stored (stored_in (processor_state m x y) memory done) (processor_state m x y)
advanced_stored true m memory x y h = refl
advanced_stored false m memory x y h = rw (h.0, h.1) refl

pub stb_stored : (p : Program) (op : MemoryOp) (ra rb : ℕ) (disp : ℤ) (s : State) (a word : ℕ) (o : Option State) → op ≡ Stb → a ≡ memory_address s rb disp → word ≡ register s ra → o ≡ with_bytes p s a (to_le_bytes w8 word) → go_on_stored o s ≡ memory_step p op ra rb disp s
stb_stored p op ra rb disp s a word o is e w b = rw (is, b, w, e) refl

pub stw_stored : (p : Program) (op : MemoryOp) (ra rb : ℕ) (disp : ℤ) (s : State) (a word : ℕ) (o : Option State) → op ≡ Stw → a ≡ memory_address s rb disp → word ≡ register s ra → o ≡ with_bytes p s a (to_le_bytes w16 word) → go_on_stored o s ≡ memory_step p op ra rb disp s
stw_stored p op ra rb disp s a word o is e w b = rw (is, b, w, e) refl

pub stl_stored : (p : Program) (op : MemoryOp) (ra rb : ℕ) (disp : ℤ) (s : State) (a word : ℕ) (o : Option State) → op ≡ Stl → a ≡ memory_address s rb disp → word ≡ register s ra → o ≡ with_bytes p s a (to_le_bytes w32 word) → go_on_stored o s ≡ memory_step p op ra rb disp s
stl_stored p op ra rb disp s a word o is e w b = rw (is, b, w, e) refl

pub stq_stored : (p : Program) (op : MemoryOp) (ra rb : ℕ) (disp : ℤ) (s : State) (a word : ℕ) (o : Option State) → op ≡ Stq → a ≡ memory_address s rb disp → word ≡ register s ra → o ≡ with_bytes p s a (to_le_bytes w64 word) → go_on_stored o s ≡ memory_step p op ra rb disp s
stq_stored p op ra rb disp s a word o is e w b = rw (is, b, w, e) refl
