-- What comes of a parse of the command line.
use Rattle.std.proofs.Common.{◌≡◌, List, [], ◌∷◌, true, false, inl, inr, refl, sym, ap, ap₂, ◌∙◌}
use Rattle.clap.proofs.OnLiterals.{clap_on_literals}
use Rattle.clap.specs.Words.{AddsArg, App, HasKind, HasMatchesOf, IsAmong, Kinds, Rule, Text, app_of, fault_of, is_simple, is_simple_and_free, matches_of, rule_of, with_rule}
use Rattle.clap.specs.declared.builder.arg.Arg.{Arg}
use Rattle.clap.specs.declared.builder.command.Command.{Command}
use Rattle.clap.specs.declared.error.Error.{Error}
use Rattle.clap.specs.declared.error.kind.ErrorKind.{ErrorKind}
use Rattle.clap.specs.declared.parser.matches.ArgMatches.{ArgMatches}
use Rattle.call_words.specs.declared.read.WordsFault.{WordsFault}
use Rattle.call_words.specs.declared.read.WordsFault.TheVariants as fault
use Rattle.call_words.specs.Line.{command_line, has_none}
use Rattle.call_words.specs.model.Matches.{IsFaultBy, IsMatched, IsUnmatched}

-- one more argument
pub next : (old : Command) (a : Arg) (new : Command) (app : App) (r : Rule) → AddsArg old a new → a.global ≡ false → app_of old ≡ app → rule_of a ≡ r → app_of new ≡ with_rule app r
next old a new app r adds local is rule = adds.shape local ∙ ap₂ with_rule is rule

simple : is_simple command_line ≡ true
unfolding clap_on_literals
simple = refl

free : is_simple_and_free command_line ≡ true
unfolding clap_on_literals
free = refl

pub matched_words : (app : App) (words : List Text) (m : ArgMatches) → app ≡ command_line → HasMatchesOf app words m → (is_simple_and_free app ≡ true → fault_of app words ≡ []) → IsMatched words m
matched_words app words m is has kinds = record {
  well = ap has_none (sym (ap (λ a. fault_of a words) is) ∙ kinds (ap is_simple_and_free is ∙ free));
  rows = (has (ap is_simple is ∙ simple)).0 ∙ ap (λ a. matches_of a words) is;
}

not_empty : (k : ErrorKind) (ks : Kinds) → IsAmong k ks → has_none ks ≡ false
not_empty k [] among = absurd among
not_empty k (x ∷ xs) among = refl

pub unmatched_words : (app : App) (words : List Text) (e : Error) (f : WordsFault) → app ≡ command_line → IsFaultBy e f → (is_simple_and_free app ≡ true → HasKind (fault_of app words) e) → IsUnmatched words f
unmatched_words app words e fault.NoMemory is by kinds = by
unmatched_words app words e fault.Usage is by kinds = elim (kinds (ap is_simple_and_free is ∙ free)) [
  | inl short ↦ absurd (by short)
  | inr among ↦ ap has_none (sym (ap (λ a. fault_of a words) is)) ∙ not_empty _ (fault_of app words) among
]
