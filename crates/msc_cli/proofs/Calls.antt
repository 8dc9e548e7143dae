-- What is answered by the words.
use Rattle.std.proofs.Common.{◌≡◌, inl, inr, Option, None, refl, sym, subst}
use Rattle.bk_memory.specs.Shortage.{MemoryIsShort}
use Rattle.bk_io.specs.Shelf.{Shelf}
use Rattle.bk_io.specs.Outside.{Traffic}
use Rattle.call_outcomes.specs.declared.outcome.Outcome.{Outcome}
use Rattle.call_outcomes.specs.declared.outcome.Outcome.TheVariants.{Usage, NoMemory}
use Rattle.call_words.specs.Request.{Call}
use Rattle.msc_cli.specs.Call.{AnswersByMeaning, AnswersWordsByMeaning, AnswersCall, FailsWhereDue, told_after, AnswersWords}

-- what is asked for is answered
pub answered : (asked call : Option Call) (answer : Outcome) (told told_new : Option Shelf) (before after : Traffic) → asked ≡ call → AnswersCall call told answer before after → FailsWhereDue call told answer → told_new ≡ told_after call told
    → AnswersWords asked answer told told_new before after
answered asked call answer told told_new before after is answers fails read =
    subst (λ c. AnswersWords c answer told told_new before after) (sym is) (inr (record { answers = answers; fails = fails; told_is = read }))

-- nothing is asked for
pub nothing : (asked : Option Call) (told : Option Shelf) (traffic : Traffic) → asked ≡ None → AnswersWords asked Usage told told traffic traffic
nothing asked told traffic is =
    subst (λ c. AnswersWords c Usage told told traffic traffic) (sym is) (inr (record { answers = (refl, refl); fails = tt; told_is = refl }))

-- memory is short for the words
pub short_words : (asked : Option Call) (told : Option Shelf) (traffic : Traffic) → MemoryIsShort → AnswersWords asked NoMemory told told traffic traffic
short_words asked told traffic short = inl (refl, refl, refl, short)

-- ---- by what a text means

pub answered_by_meaning : (asked call : Option Call) (answer : Outcome) (told : Option Shelf) (before after : Traffic) → asked ≡ call → AnswersByMeaning call told answer before after → AnswersWordsByMeaning asked answer told before after
answered_by_meaning asked call answer told before after is answers =
    subst (λ c. AnswersWordsByMeaning c answer told before after) (sym is) (inr answers)

pub nothing_by_meaning : (asked : Option Call) (answer : Outcome) (told : Option Shelf) (traffic : Traffic) → asked ≡ None → AnswersWordsByMeaning asked answer told traffic traffic
nothing_by_meaning asked answer told traffic is =
    subst (λ c. AnswersWordsByMeaning c answer told traffic traffic) (sym is) (inr tt)

pub short_words_by_meaning : (asked : Option Call) (told : Option Shelf) (traffic : Traffic) → MemoryIsShort → AnswersWordsByMeaning asked NoMemory told traffic traffic
short_words_by_meaning asked told traffic short = inl (refl, refl, short)
