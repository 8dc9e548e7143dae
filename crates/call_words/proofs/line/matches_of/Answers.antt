-- What a parse gives, or why it gives nothing.
use Rattle.std.proofs.Common.{map}
use Rattle.std.specs.Prelude.{string_bytes}
use Rattle.clap.specs.Words.{app_of}
use Rattle.call_words.proofs.Parses.{matched_words, unmatched_words}
use Rattle.call_words.proofs.line.matches_of.Goals as goal

pub returns-in-Ok-try_get_matches_from-clause-matched : goal.returns-in-Ok-try_get_matches_from-clause-matched
returns-in-Ok-try_get_matches_from-clause-matched c = matched_words (app_of c.in-Ok.command) (map string_bytes c.args.words.now) c.in-Ok-try_get_matches_from.matches c.in-Ok.ensures c.in-Ok-try_get_matches_from.ensures.matches c.in-Ok-try_get_matches_from.ensures.kinds

pub returns-in-Err-try_get_matches_from-clause-unmatched : goal.returns-in-Err-try_get_matches_from-clause-unmatched
returns-in-Err-try_get_matches_from-clause-unmatched c = unmatched_words (app_of c.in-Ok.command) (map string_bytes c.args.words.now) c.in-Err-try_get_matches_from.error c.fault_by.result c.in-Ok.ensures c.fault_by.ensures c.in-Err-try_get_matches_from.ensures.kinds
