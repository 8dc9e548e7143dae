-- The registers from one on.
use Rattle.std.proofs.Common.{◌≡◌, ◌≤◌, ◌-◌}
use Rattle.frame_steps.specs.call_parts.Items.{restore_registers}
use Rattle.frame_emitter.specs.Layouts.{shape_in}
use Rattle.frame_emitter.proofs.parts.restore_registers.Given as goal

abbrev pub invariant-loop-register : goal.invariant-loop-register
invariant-loop-register l =
    (9 ≤ l.register)
    × (l.items ≡ restore_registers (shape_in l.layout) (shape_in l.layout).saves l.register (16 - l.register) l.initial.items)
