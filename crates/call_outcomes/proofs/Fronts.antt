-- What is put in two parts.
use Rattle.std.proofs.Common.{◌≡◌, ℕ, ◌+◌, List, ◌++◌, length, take, Option, Some, None, refl, ◌∙◌, sym, ap, append_assoc, length-append, arith}
use Rattle.std.proofs.Math.Seq.{take-append-add}
use Rattle.std.proofs.lemmas.List.{take-append-le}
use Rattle.std.specs.Prelude.{Result, Ok, Err}
use Rattle.bk_io.specs.Outside.{taken_with, TakesSlice}
use Rattle.call_outcomes.specs.Output.{TookFront}

both_taken : (first second : List ℕ) (old : Option (List ℕ)) → taken_with second (taken_with first old) ≡ taken_with (first ++ second) old
both_taken first second None = refl
both_taken first second (Some bytes) = ap Some (append_assoc bytes first second)

after_first : (first second : List ℕ) (old mid new : Option (List ℕ)) → mid ≡ taken_with first old → new ≡ taken_with second mid → new ≡ taken_with (first ++ second) old
after_first first second old mid new e f = f ∙ ap (taken_with second) e ∙ both_taken first second old

-- where the first part failed, a front of both was taken
pub first_fails : (first second : List ℕ) (old new : Option (List ℕ)) → TookFront first old new → TookFront (first ++ second) old new
first_fails first second old new took = (
  took.0,
  omega (arith, took.1, length-append first second),
  took.2 ∙ ap (λ bytes. taken_with bytes old) (sym (take-append-le took.0 first second took.1)),
)

-- after the first part, what is taken of the second
pub then_second : {A E : Type 0} (r : Result A E) (first second : List ℕ) (old mid new : Option (List ℕ)) → mid ≡ taken_with first old → TakesSlice r second mid new → TakesSlice r (first ++ second) old new
then_second (Ok a) first second old mid new e took = after_first first second old mid new e took
then_second (Err x) first second old mid new e took = (
  length first + took.0,
  omega (arith, took.1, length-append first second),
  after_first first (take took.0 second) old mid new e took.2 ∙ ap (λ bytes. taken_with bytes old) (sym (take-append-add first second took.0)),
)
