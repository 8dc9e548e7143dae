use Rattle.std.proofs.Common.{[], subst}
use Rattle.std.specs.Prelude.{All}
use Rattle.alloc_model.specs.Faithful.{IsGivenRegister, named_registers}
use Rattle.alloc_journal.proofs.Tables.{first_low, second_low}
use Rattle.alloc_journal.proofs.holders.move_one.Goals as goal

pub come-requires-clause-given : goal.come-requires-clause-given
come-requires-clause-given c = first_low c.in-Load.reg [] (subst (λ x. All IsGivenRegister (named_registers x)) c.in-Load.is c.requires.given)

pub come-requires-in-Shift-clause-given : goal.come-requires-in-Shift-clause-given
come-requires-in-Shift-clause-given c = second_low c.in-Shift.from c.in-Shift.to [] (subst (λ x. All IsGivenRegister (named_registers x)) c.in-Shift.is c.requires.given)
