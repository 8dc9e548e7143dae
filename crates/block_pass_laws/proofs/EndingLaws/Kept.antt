-- Endings that are alike are the same where one of them is defined.
use Rattle.std.proofs.Common.{◌≡◌, sym, subst}
use Rattle.mem_model.specs.Ending.{Ending, Done, Trap, Undefined, More, IsDefined, SameEnding}
use Rattle.alloc_model.specs.Temporaries.{TempsEnd}
use Rattle.block_pass_laws.proofs.TempWalkLaws.Law.{law}
use Rattle.block_pass_laws.specs.ending_laws.Laws.{SameWalksKeepEndings}

same_on : (e f : Ending) → IsDefined e → SameEnding e f → f ≡ e
same_on (Done w n) f defined h = h
same_on (Trap w n) f defined h = h
same_on (Undefined w n) f defined h = absurd defined
same_on (More w) f defined h = h

same_back : (f e : Ending) → IsDefined e → SameEnding f e → f ≡ e
same_back (Done w n) e defined h = sym h
same_back (Trap w n) e defined h = sym h
same_back (Undefined w n) e defined h = absurd (subst IsDefined h.1 defined)
same_back (More w) e defined h = sym h

pub endings_kept : SameWalksKeepEndings
endings_kept before after globals same rooms input turns e defined old =
    let both = law rooms before after globals same input turns in
    let new = both.0 e old.ends in
    record {
      ends = subst (λ z. TempsEnd rooms after input turns z) (same_on e new.0 defined new.2) new.1;
      only = λ f other.
          let back = both.1 f other in
          let is : back.0 ≡ e = old.only back.0 back.1 in
          same_back f e defined (subst (λ z. SameEnding f z) is back.2);
    }
