-- Jumps (C99 6.8.6). They are judged by what stands around them in the text, also where that has faults.
use Rattle.std.specs.Prelude.{ℕ, if◌then◌else◌, true, false, Option, Some}
use Rattle.c_typed_tree.specs.declared.statements.TStmt.{TStmt}
use Rattle.c_typed_tree.specs.declared.statements.TStmt as s
use Rattle.c_typing_faults.specs.declared.faults.Kind.TheVariants.{BadJump}
use Rattle.c_typing_state.specs.Checks.{Check, fault}
use Rattle.c_typing_statement_rules.specs.declared.jumps.Jumps.{Jumps}

-- the body of a function, of a loop, and of a `switch`
abbrev pub no_jumps : Jumps
no_jumps = record { breaks = false; continues = false }

abbrev pub in_loop : Jumps
in_loop = record { breaks = true; continues = true }

abbrev pub in_switch : Jumps → Jumps
in_switch j = record { breaks = true; continues = j.continues }

abbrev pub bad_jump : ℕ → Check (Option TStmt)
bad_jump at = fault at BadJump

abbrev pub break_statement : Jumps → ℕ → Check (Option TStmt)
break_statement j at n = if j.breaks then (Some s.Break, n) else bad_jump at n

abbrev pub continue_statement : Jumps → ℕ → Check (Option TStmt)
continue_statement j at n = if j.continues then (Some s.Continue, n) else bad_jump at n
