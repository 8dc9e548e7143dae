-- What flows along the edges, of all numbers.
use Rattle.std.specs.Prelude.{◌≡◌, ℕ, ◌↔◌, Bool, true, List, length}
use Rattle.bitvector_flow.specs.Flows.{has_at, FlowsOut, FlowsIn, AreBounded}

-- the sets of what flows out of each block and into it, with no bound on what is made and stopped
pub record AreFlows (makes stops : (block k : ℕ) → Bool) (nexts : List (List ℕ)) (bound : ℕ)
    (outs ins : List (List Bool)) : Type 0 where
  pub outs_bounded : AreBounded (length nexts) bound outs
  pub ins_bounded : AreBounded (length nexts) bound ins
  pub flows_out : (block k : ℕ) → (has_at outs block k ≡ true) ↔ FlowsOut makes stops nexts k block
  pub flows_in : (block k : ℕ) → (has_at ins block k ≡ true) ↔ FlowsIn makes stops nexts k block
