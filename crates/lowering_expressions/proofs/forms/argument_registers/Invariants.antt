-- The registers so far are those of the front of the list.
use Rattle.std.proofs.Common.{◌≡◌, ◌+◌, take}
use Rattle.c_typed_tree.specs.model.View.{exprs_view}
use Rattle.lowering_expressions.specs.model.Scopes.{call_registers}
use Rattle.lowering_expressions.proofs.forms.argument_registers.Given as goal

abbrev pub invariant-loop-argument : goal.invariant-loop-argument
invariant-loop-argument l =
    (l.registers.items ≡ call_registers l.scope l.depth (exprs_view (take l.argument-index l.arguments)))
    × (l.at ≡ l.depth + l.argument-index)
