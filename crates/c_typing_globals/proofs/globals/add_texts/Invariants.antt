use Rattle.std.proofs.Common.{◌≡◌, drop}
use Rattle.c_typing_globals.specs.Globals as spec
use Rattle.c_typing_globals.proofs.globals.add_texts.Given as goal

abbrev pub invariant-loop-text : goal.invariant-loop-text
invariant-loop-text l = spec.with_texts l.texts l.fn.so_far ≡ spec.with_texts (drop l.text-index l.texts) l.so_far
