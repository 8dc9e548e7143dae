-- That memory is short, for clauses on the answer that says so. A call that answers want of memory has the fact from the
-- call below that answered so, and the lowest from `memory_is_short`, which takes the error of a refused allocation. Its
-- field is private, but `of_refusal` gives it of any `AllocError`, and that error has no field, so anybody may write one:
-- that none is made up is a check of the text (`tools/made_up_errors.py`), and no clause.
use Rattle.std.specs.declared.alloc.AllocError.{AllocError}

pub record MemoryIsShort : Type 0 where
  refusal : AllocError

-- of the error of an allocation: for the proof of `memory_is_short` alone, and public because nothing outside this file
-- can write the field; the check of the text refuses its name everywhere else
pub of_refusal : AllocError → MemoryIsShort
of_refusal error = record { refusal = error }
