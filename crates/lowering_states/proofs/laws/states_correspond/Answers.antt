use Rattle.lowering_states.proofs.States.{fits_after, fits_local}
use Rattle.lowering_states.proofs.laws.states_correspond.Goals as goal

pub returns : goal.returns
returns g = record {
  stay = λ globals ds ls own f g scope r l m n m1 n1 t t1 input input1 x mem bytes fit. fits_after x mem bytes fit;
  locals = λ globals ds ls own f scope r l m n input k v w h held fit. fits_local k v w h held fit;
}
