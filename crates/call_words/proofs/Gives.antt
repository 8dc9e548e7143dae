-- What the getters of the matches give, by the rows.
use Rattle.std.proofs.Common.{◌≡◌, Option, ◌∙◌, subst}
use Rattle.clap.proofs.WalkLemmas.{first_value-rows}
use Rattle.clap.specs.Words.{Text, first_of, first_value, found_of, rows_of}
use Rattle.clap.specs.declared.parser.matches.ArgMatches.{ArgMatches}

pub given_first : (m : ArgMatches) (id : Text) (got : Option Text) → got ≡ first_value (found_of m) id → got ≡ first_of id (rows_of (found_of m))
given_first m id got is = is ∙ first_value-rows (found_of m) id

pub given_as : (m : ArgMatches) (id name : Text) (got : Option Text) → id ≡ name → got ≡ first_value (found_of m) id → got ≡ first_of name (rows_of (found_of m))
given_as m id name got same is = subst (λ t. got ≡ first_of t (rows_of (found_of m))) same (given_first m id got is)
