-- When an image and a program are the same, on one input and one stack.
use Rattle.std.specs.Prelude.{◌≡◌, ℕ, ◌≤◌, List}
use Rattle.alpha_isa.specs.Program.{Program}
use Rattle.alpha_isa.specs.Behave as image
use Rattle.alpha_isa.specs.Behave.{behave_a, output_of}
use Rattle.mem_model.specs.World.{World}
use Rattle.mem_model.specs.Ending.{Ending, Done, Trap, ending_output, IsDefined}
use Rattle.machine_model.specs.Laws.{IsPrefix}
use Rattle.alloc_model.specs.Places.{Plan}
use Rattle.image_theorem.specs.program_images.Images.{steps_for}
use Rattle.image_theorem.specs.program_images.Programs.{ImageBehaves}

-- a program that ends with a status, or traps, with an output, within some number of turns
pub record IsDoneAt (at : (turns : ℕ) → Ending) (output : List ℕ) (status : ℕ) : Type 0 where
  pub turns : ℕ
  pub world : World
  pub is : at turns ≡ Done world status
  pub same : world.outer.output ≡ output

pub record IsTrapAt (at : (turns : ℕ) → Ending) (output : List ℕ) (code : ℕ) : Type 0 where
  pub turns : ℕ
  pub world : World
  pub is : at turns ≡ Trap world code
  pub same : world.outer.output ≡ output

-- Each Done or Trap that the program gives within some turns is what the image gives within the steps for so many
-- turns, and the other way round in some number of turns; the image is never stuck; and each output of the one is a
-- front of an output of the other
pub record IsSame (p : Program) (stack : ℕ) (input : List ℕ) (at : (turns : ℕ) → Ending) : Type 0 where
  pub done : (n : ℕ) (w : World) (status : ℕ) → at n ≡ Done w status →
      (m : ℕ) × (behave_a p stack input m ≡ image.Done w.outer.output status) × (m ≤ steps_for p n)
  pub traps : (n : ℕ) (w : World) (code : ℕ) → at n ≡ Trap w code →
      (m : ℕ) × (behave_a p stack input m ≡ image.Trap w.outer.output code) × (m ≤ steps_for p n)
  pub only_done : (m : ℕ) (output : List ℕ) (status : ℕ) → behave_a p stack input m ≡ image.Done output status →
      IsDoneAt at output status
  pub only_traps : (m : ℕ) (output : List ℕ) (code : ℕ) → behave_a p stack input m ≡ image.Trap output code →
      IsTrapAt at output code
  pub never_stuck : (m : ℕ) (output : List ℕ) (pc : ℕ) → behave_a p stack input m ≡ image.Stuck output pc → ⊥
  pub outputs : (n : ℕ) → (m : ℕ) × IsPrefix (ending_output (at n)) (output_of (behave_a p stack input m))
  pub only_outputs : (m : ℕ) → (n : ℕ) × IsPrefix (output_of (behave_a p stack input m)) (ending_output (at n))

abbrev pub RunsAreSame : Type 0
RunsAreSame =
    (p : Program) (plans : List Plan) (stack : ℕ) (input : List ℕ) (at : (turns : ℕ) → Ending) →
    ((n : ℕ) → ImageBehaves p plans stack input n (at n)) → ((n : ℕ) → IsDefined (at n)) → IsSame p stack input at
