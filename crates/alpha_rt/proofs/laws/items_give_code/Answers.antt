-- The items of the routines.
use Rattle.alpha_rt.proofs.Assembled.{give_code, entries_labelled}
use Rattle.alpha_rt.proofs.Found.{code_stands}
use Rattle.alpha_rt.proofs.laws.items_give_code.Goals as goal

pub returns : goal.returns
returns c = record {
  code = give_code;
  words = code_stands;
  entries = entries_labelled;
}
