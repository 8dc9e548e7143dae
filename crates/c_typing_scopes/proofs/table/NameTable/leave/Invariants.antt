-- what is left to be taken away, from the names that are left, leaves the oldest
use Rattle.std.proofs.Common.{◌≡◌, ◌-◌, drop}
use Rattle.c_typing_scopes.specs.Names.{oldest}
use Rattle.c_typing_scopes.proofs.table.NameTable.leave.Given as goal

abbrev pub invariant-loop-turn : goal.invariant-loop-turn
invariant-loop-turn g l = oldest l.fn.count l.fn.self ≡ drop (l._turn-end - l._turn) l.self
