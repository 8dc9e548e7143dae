-- A word that was made from an instruction is that instruction's alone.
use Rattle.std.proofs.Common.{sym, subst}
use Rattle.alpha_isa.specs.Lawful.{AreLawfulFields}
use Rattle.alpha_isa.proofs.decode.decode_encoded.Goals as goal

pub returns : goal.returns
returns c = c.decode.ensures.only c.args.insn.now (subst (λ f. AreLawfulFields f) c.insn.view_is c.insn.invariant) (sym c.encode.ensures)
