-- Transfers and registers whose numbers fit their items.
use Rattle.std.specs.Prelude.{ℕ, ◌<◌}
use Rattle.alloc_model.specs.declared.allocation.Transfer.{Transfer}
use Rattle.alloc_model.specs.declared.allocation.Transfer.TheVariants.{Store, Load, Shift}

-- a temporary that is there, and registers of the machine
abbrev pub IsMove : (temps : ℕ) → Transfer → Type 0
IsMove temps (Store t r) = (t < temps) × (r < 32)
IsMove temps (Load t r) = (t < temps) × (r < 32)
IsMove temps (Shift t from to) = (from < 32) × (to < 32)
