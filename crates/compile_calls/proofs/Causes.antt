-- Why nothing is made of a text.
use Rattle.std.proofs.Common.{ℕ, ◌≤◌, List, inl, inr, length, Some}
use Rattle.call_outcomes.specs.FromFile.{IsCause}
use Rattle.call_outcomes.specs.declared.outcome.Which.TheVariants.{Text, Nesting, Weight, Data}
use Rattle.compiler.specs.CompileFault.{CompileFault}
use Rattle.compiler.specs.CompileFault.TheVariants.{Source, Limit, NoMemory}
use Rattle.compiler.specs.Units.{HasNoUnit}
use Rattle.compile_calls.specs.Compile.{RefusesText}
use Rattle.compile_calls.specs.model.Causes.{outcome_of_compile_fault, IsNoFault}

pub compile_cause : (text : List ℕ) (f : CompileFault) → length text ≤ 4194304 → HasNoUnit text f → IsCause (RefusesText (Some text)) (outcome_of_compile_fault f)
compile_cause text (Source source) low h = (low, h)
compile_cause text (Limit Text counted) low h = absurd h
compile_cause text (Limit Nesting counted) low h = (low, h)
compile_cause text (Limit Weight counted) low h = (low, h)
compile_cause text (Limit Data counted) low h = (low, h)
compile_cause text NoMemory low (inl short) = inl short
compile_cause text NoMemory low (inr deep) = inr (low, deep)

pub no_compile_fault : (f : CompileFault) → IsNoFault (outcome_of_compile_fault f)
no_compile_fault (Source source) = (λ e. cc, λ e. cc, λ e. cc)
no_compile_fault (Limit which counted) = (λ e. cc, λ e. cc, λ e. cc)
no_compile_fault NoMemory = (λ e. cc, λ e. cc, λ e. cc)
