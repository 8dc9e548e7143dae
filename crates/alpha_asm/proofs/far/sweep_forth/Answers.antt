use Rattle.std.proofs.Common.{refl}
use Rattle.alpha_asm.proofs.Steps.{forth_begins}
use Rattle.alpha_asm.proofs.far.sweep_forth.Goals as goal

pub loop-i-init : goal.loop-i-init
loop-i-init c = record {
  swept = forth_begins _ _ _ c.requires.far c.requires.rests;
  forced = λ h. h;
  grown = refl;
}
