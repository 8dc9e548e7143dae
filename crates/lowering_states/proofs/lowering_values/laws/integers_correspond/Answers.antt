use Rattle.lowering_states.proofs.LoweringValues.Integers.{register-plain, memory-plain, promoted_word, kept_conversion, made_conversion}
use Rattle.lowering_states.proofs.LoweringValues.Operators.{operators_correspond}
use Rattle.lowering_states.proofs.lowering_values.laws.integers_correspond.Goals as goal

pub returns : goal.returns
returns g = record {
  types = λ t. record { register = register-plain t; memory = memory-plain t; words = λ n w. promoted_word t n w };
  operators = operators_correspond;
  conversions = λ s t n w. record { kept = λ h. kept_conversion s t n w h; made = made_conversion s t n w };
}
