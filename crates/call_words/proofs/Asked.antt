-- What is asked for by words that a parse was made of.
use Rattle.std.proofs.Common.{◌≡◌, List, Option, Some, None, sym, ap, ◌∙◌, subst}
use Rattle.std.specs.Prelude.{if◌then◌else◌, Result, Ok, Err, IfOk, IfErr}
use Rattle.clap.specs.Words.{Text, found_of, rows_of}
use Rattle.clap.specs.declared.parser.matches.ArgMatches.{ArgMatches}
use Rattle.call_words.specs.declared.read.WordsFault.{WordsFault}
use Rattle.call_words.specs.declared.read.WordsFault.TheVariants as fault
use Rattle.call_words.specs.Line.{rows_in}
use Rattle.call_words.specs.Request.{Call, request_in, request_of, IsWordsFault}
use Rattle.call_words.specs.model.Matches.{IsMatched, IsUnmatched}

pub asked : (words : List Text) (m : ArgMatches) (o : Option Call) → IsMatched words m → o ≡ request_in (rows_of (found_of m)) → request_of words ≡ o
unfolding request_of
asked words m o is same =
    ap (λ b. if b then request_in (rows_in words) else None) is.well ∙ (ap request_in (sym is.rows) ∙ sym same)

pub refused_words : (words : List Text) (f : WordsFault) → IsUnmatched words f → IsWordsFault words f
unfolding request_of
refused_words words fault.Usage bad = ap (λ b. if b then request_in (rows_in words) else None) bad
refused_words words fault.NoMemory short = short

-- what was asked for by the parse is asked for by the words
pub when_ok : {R : Type 0} (shown : R → Call) (words : List Text) (m : ArgMatches) → IsMatched words m → (r : Result R WordsFault) → IfOk r (λ q. request_in (rows_of (found_of m)) ≡ Some (shown q))
    → IfOk r (λ q. request_of words ≡ Some (shown q))
when_ok shown words m is (Ok q) h = asked words m (Some (shown q)) is (sym h)
when_ok shown words m is (Err f) h = tt

pub when_err : {R : Type 0} (words : List Text) (m : ArgMatches) → IsMatched words m → (r : Result R WordsFault) → IfErr r (λ f. (f ≡ fault.Usage) × (request_in (rows_of (found_of m)) ≡ None)) → IfErr r (IsWordsFault words)
when_err words m is (Ok q) h = tt
when_err words m is (Err f) h = subst (IsWordsFault words) (sym h.0) (asked words m None is (sym h.1))
