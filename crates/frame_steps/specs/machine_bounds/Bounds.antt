-- Machines whose registers hold words, and whose memory and input hold bytes.
use Rattle.std.specs.Prelude.{◌≡◌, ℕ}
use Rattle.alpha_isa.specs.Program.{Program, IsLawful}
use Rattle.alpha_isa.specs.State.{State}
use Rattle.alpha_isa.specs.Step.{Goes, exec}
use Rattle.frame_steps.specs.item_steps.Steps.{HoldsWords}
use Rattle.mem_model.specs.Bytes.{AreBytes}

pub record IsBounded (s : State) : Type 0 where
  pub words : HoldsWords s
  pub data_bytes : AreBytes s.data_bytes
  pub stack_bytes : AreBytes s.stack_bytes
  pub input : AreBytes s.input

-- they stay so, however many steps they take
abbrev pub RunsStayBounded : Type 0
RunsStayBounded =
    (p : Program) → IsLawful p → (steps : ℕ) (s t : State) → IsBounded s → exec p steps s ≡ Goes t → IsBounded t
