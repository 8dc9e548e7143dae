-- The words have matches, which ask for something or for nothing.
use Rattle.std.proofs.Common.{map}
use Rattle.std.specs.Prelude.{string_bytes}
use Rattle.call_words.specs.Request.{call_is}
use Rattle.call_words.proofs.Asked.{when_ok, when_err}
use Rattle.call_words.proofs.read.read_words.Goals as goal

pub returns-in-Ok-clause-request : goal.returns-in-Ok-clause-request
returns-in-Ok-clause-request c =
    when_ok call_is (map string_bytes c.args.words.now) c.in-Ok.matches c.in-Ok.ensures.matched
    c.asked_by.result c.asked_by.ensures.request

pub returns-in-Ok-clause-fault : goal.returns-in-Ok-clause-fault
returns-in-Ok-clause-fault c =
    when_err (map string_bytes c.args.words.now) c.in-Ok.matches c.in-Ok.ensures.matched c.asked_by.result
    c.asked_by.ensures.fault
