use Rattle.std.proofs.Common.{◌≡◌, ℕ, ◌+◌, List, ◌++◌, ◌∙◌, sym, ap, append_assoc, length-append, arith, Option, Some, None}
use Rattle.std.specs.Io.KnownBytes.{Keeps, Consumes}
use Rattle.std.specs.Prelude.{Err}
use Rattle.bk_io.proofs.host.read_up_to.Goals as goal
use Rattle.bk_io.specs.declared.outside.FileFault.{FileFault}
use Rattle.bk_io.specs.declared.outside.FileFault.TheVariants.{Failed, NoMemory}
use Rattle.bk_io.specs.model.Steps.{AppendsPart, AppendsNone, LeavesReader}

-- what is consumed twice is consumed once
consumes_both : (old mid new : Option (List ℕ)) (xs ys : List ℕ) → Consumes old mid xs → Consumes mid new ys → Consumes old new (xs ++ ys)
consumes_both None mid new xs ys first second = tt
consumes_both (Some a) None new xs ys first second = elim first [ ]
consumes_both (Some a) (Some b) None xs ys first second = elim second [ ]
consumes_both (Some a) (Some b) (Some c) xs ys first second = first ∙ ap (λ rest. xs ++ rest) second ∙ sym (append_assoc xs ys c)

-- what is appended twice is appended once
both : (m n k : ℕ) (old mid new : List ℕ) (r s t : Option (List ℕ)) → AppendsPart m old mid r s → AppendsPart n mid new s t → m + n ≡ k → AppendsPart k old new r t
both m n k old mid new r s t first second whole = (
  first.0 ++ second.0,
  second.1 ∙ ap (λ front. front ++ second.0) first.1 ∙ append_assoc old first.0 second.0,
  length-append first.0 second.0 ∙ omega (arith, first.2, second.2),
  consumes_both r s t first.0 second.0 first.3 second.3,
)

-- a read that fails leaves what was consumed
kept_after : (old mid new : Option (List ℕ)) (xs : List ℕ) → Consumes old mid xs → Keeps mid new → Consumes old new xs
kept_after None mid new xs first same = tt
kept_after (Some a) None new xs first same = elim first [ ]
kept_after (Some a) (Some b) None xs first same = elim same [ ]
kept_after (Some a) (Some b) (Some c) xs first same = first ∙ ap (λ rest. xs ++ rest) (sym same)

-- what a turn that appended nothing leaves of the reader
after_none : (e : FileFault) (old mid new : Option (List ℕ)) (xs : List ℕ) → Consumes old mid xs → AppendsNone e mid new → LeavesReader (Err e) xs old new
after_none Failed old mid new xs first none = kept_after old mid new xs first none
after_none NoMemory old mid new xs first none = (none.0, none.1, consumes_both old mid new xs none.0 first none.2)

-- nothing more was appended
appended : (new mid whole : List ℕ) → new ≡ mid → mid ≡ whole → new ≡ whole
appended new mid whole same is = same ∙ is

pub returns-in-Err-clause-appends : goal.returns-in-Err-clause-appends
returns-in-Err-clause-appends g c =
    let part = c.loop-turn.invariant.part in (
      part.0,
      appended _ _ _ c.in-Err.ensures.err part.1,
      omega (arith, part.2),
      after_none c.in-Err.fault _ _ _ part.0 part.3 c.in-Err.ensures.cause,
    )

pub loop-turn-preserved : goal.loop-turn-preserved
loop-turn-preserved g c = record {
  part = both _ _ _ _ _ _ _ _ _ c.loop-turn.invariant.part c.in-Ok.ensures.ok (omega arith);
  within = omega arith;
  more = λ _. omega arith;
  some = omega (arith, c.loop-turn.invariant.some);
}
