-- The registers so far are told.
use Rattle.std.proofs.Common.{◌≡◌, ◌<◌, ◌+◌, ◌-◌, ℕ, false, length, get_or}
use Rattle.alloc_model.specs.Places.{plan_of}
use Rattle.frame_emitter.specs.Shapes.{plan_names}
use Rattle.frame_layout.proofs.shape.saved_registers.Given as goal

abbrev pub invariant-loop-register : goal.invariant-loop-register
invariant-loop-register l =
    (length l.saves.items ≡ l.register - 9)
    × ((k : ℕ) → k < l.register - 9 → get_or l.saves.items k false ≡ plan_names (plan_of l.a) (9 + k))
