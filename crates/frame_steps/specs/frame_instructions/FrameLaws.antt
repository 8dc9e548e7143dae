-- What the machine does at the items of instructions on its frame.
use Rattle.std.specs.Prelude.{◌≡◌, ℕ, ◌+◌, ◌<◌, ◌≤◌, ◌^◌, pos, Bool, true, List, ◌∷◌, ◌++◌, Some, slice_get}
use Rattle.alpha_isa.specs.Program.{Program, data_start}
use Rattle.alpha_isa.specs.State.{State}
use Rattle.alpha_items.specs.declared.item.AsmItem.{AsmItem}
use Rattle.alpha_items.specs.declared.item.AsmItem.TheVariants.{DataAddress}
use Rattle.alpha_items.specs.Words.{most_address}
use Rattle.frame_steps.specs.item_steps.Standing.{Labels}
use Rattle.mem_model.specs.declared.value.Value.TheVariants.{Address}
use Rattle.mem_model.specs.Memory as memory
use Rattle.alloc_model.specs.Contents.{Content, Plain}
use Rattle.alloc_model.specs.Stores.{put}
use Rattle.alloc_model.specs.Places.{Places, Reg, In, Out, place_eq}
use Rattle.frame_memory.specs.Relation.{Extent, IsExtent, OfFrame, ArgumentPiece}
use Rattle.frame_memory.specs.Machine.{memory_bytes}
use Rattle.frame_memory.specs.flat_operations.Contents.{ContentIs}
use Rattle.frame_memory.specs.flat_frames.Shapes.{frame_size, argument_at, frame_object_at}
use Rattle.frame_memory.specs.flat_frames.Frames.{word_in}
use Rattle.frame_steps.specs.frame_accesses.Items.{frame_load, frame_store, frame_address}
use Rattle.frame_steps.specs.frame_transfers.Laws.{CallAt, FitsTheStack, StandsFor, KnowsValues, IsWritable, HasDone}
use Rattle.frame_steps.specs.frame_instructions.Laws.{GivesRegister}

-- an argument of the next call is written
abbrev pub ArgumentsAreWritten : Type 0
ArgumentsAreWritten =
    (p : Program) (there : Labels) (rest : List AsmItem) (end : ℕ) (c : CallAt) (m : memory.Memory) (known : ℕ → Bool)
    (store : Places) (s : State) → FitsTheStack c → KnowsValues known →
    (r k : ℕ) → StandsFor p there (frame_store r (argument_at k) ++ rest) end c m known store s →
    known r ≡ true → k < c.shape.outgoing →
    HasDone p there rest end c m known (put place_eq (Out k) (store (Reg r)) store) s

-- an argument of this call stands above its frame, where the caller wrote it
pub record IsArgument (c : CallAt) (k : ℕ) (content : Content) (p : Program) (s : State) : Type 0 where
  pub depth : ℕ
  pub owned : (i : ℕ) → i < 8 →
      c.owner (c.sp + (frame_size c.shape + argument_at k) + i) ≡ OfFrame depth (ArgumentPiece k)
  pub small : c.sp + (frame_size c.shape + argument_at k) < 2 ^ 64
  pub near : frame_size c.shape + argument_at k < most_address
  pub is : ContentIs c.extents content (word_in (memory_bytes p s) (c.sp + (frame_size c.shape + argument_at k)))

abbrev pub ArgumentsAreRead : Type 0
ArgumentsAreRead =
    (p : Program) (there : Labels) (rest : List AsmItem) (end : ℕ) (c : CallAt) (m : memory.Memory) (known : ℕ → Bool)
    (store : Places) (s : State) → FitsTheStack c → KnowsValues known →
    (r k : ℕ) → StandsFor p there (frame_load r (frame_size c.shape + argument_at k) ++ rest) end c m known store s →
    IsWritable c.shape r → IsArgument c k (store (In k)) p s →
    GivesRegister p there rest end c m known store s r (store (In k))

-- the address of an object, moved by so many bytes
abbrev pub address_content : (object plus : ℕ) → Content
address_content o plus = Plain (Address (record { object = o; offset = pos plus }))

abbrev pub LocalsHaveAddresses : Type 0
LocalsHaveAddresses =
    (p : Program) (there : Labels) (rest : List AsmItem) (end : ℕ) (c : CallAt) (m : memory.Memory) (known : ℕ → Bool)
    (store : Places) (s : State) → FitsTheStack c → KnowsValues known →
    (r k n plus : ℕ) → StandsFor p there (frame_address r (frame_object_at c.shape k + plus) ++ rest) end c m known
    store s →
    IsWritable c.shape r → slice_get c.shape.sizes k ≡ Some n → plus ≤ n →
    GivesRegister p there rest end c m known store s r (address_content (c.own + k) plus)

abbrev pub GlobalsHaveAddresses : Type 0
GlobalsHaveAddresses =
    (p : Program) (there : Labels) (rest : List AsmItem) (end : ℕ) (c : CallAt) (m : memory.Memory) (known : ℕ → Bool)
    (store : Places) (s : State) → FitsTheStack c → KnowsValues known →
    (r k offset plus : ℕ) (e : Extent) →
    StandsFor p there (DataAddress r (offset + plus) ∷ rest) end c m known store s →
    IsWritable c.shape r → slice_get c.extents k ≡ Some e → IsExtent e → e.base ≡ data_start p + offset →
    plus ≤ e.size → data_start p + (offset + plus) < most_address →
    GivesRegister p there rest end c m known store s r (address_content k plus)
