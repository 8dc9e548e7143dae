-- Runs that are the same, and runs of literals.
use Rattle.std.proofs.Common.{◌≡◌, ℕ, Bool, true, false, not, ◌==◌, refl, sym, ap, ◌∙◌, subst}
use Rattle.std.specs.Prelude.{if◌then◌else◌}
use Rattle.mem_model.specs.declared.value.Value.{Value}
use Rattle.mem_model.specs.declared.value.Value.TheVariants.{Word}
use Rattle.mem_model.specs.Ending.{Evaluation, Gives, Ends}
use Rattle.c_semantics.specs.Reasons.{Reason}
use Rattle.c_semantics.specs.Runs.{CallState, Run, and_then, ◌>>=◌, pure, undefined_behaviour, on_memory}
use Rattle.c_semantics.specs.Operators.{test, pure_truth}
use Rattle.c_semantics.specs.Evaluates.{choose}
use Rattle.c_semantics.specs.Refines.{GivesBelow, RunRefines}
use Rattle.c_semantics.proofs.Below.{below_same}

pub as_it_is : {A : Type 0} {c d : Run A} → ((s : CallState) → c s ≡ d s) → RunRefines c d
as_it_is {c = c} {d = d} h = record { by = λ s. subst (λ e. GivesBelow e (d s)) (sym (h s)) (below_same (d s)) }

-- nothing is asked where the other run is undefined
pub nothing_asked : {A : Type 0} (c : Run A) (reason : Reason) → RunRefines c (undefined_behaviour reason)
unfolding undefined_behaviour
nothing_asked c reason = record { by = λ s. tt }

-- ---- tests of literals

picked : {A : Type 0} (b : Bool) (x y : Run A) (s : CallState) → choose x y (not b) s ≡ (if b then y else x) s
picked true x y s = refl
picked false x y s = refl

pub chosen_run : {A : Type 0} (n : ℕ) (b : Bool) (x y : Run A) (s : CallState) → (n == 0) ≡ b
    → (pure (Word n) >>= test >>= choose x y) s ≡ (if b then y else x) s
unfolding ◌>>=◌ pure on_memory
chosen_run n b x y s is = ap (λ t. choose x y (not t) s) is ∙ picked b x y s

-- ---- the truth of a value, turned round twice

abbrev turned : Bool → Run Value
turned t = choose (pure_truth false) (pure_truth true) t

round_again : (r : Evaluation Bool CallState) → and_then (and_then (and_then r turned) test) turned ≡ and_then r pure_truth
unfolding pure on_memory
round_again (Gives true s) = refl
round_again (Gives false s) = refl
round_again (Ends e) = refl

pub twice : (m : Run Value) (s : CallState) → (m >>= test >>= turned >>= test >>= turned) s ≡ (m >>= test >>= pure_truth) s
unfolding ◌>>=◌
twice m s = round_again (and_then (m s) test)
