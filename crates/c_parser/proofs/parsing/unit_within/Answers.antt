use Rattle.std.proofs.Common.{sym, subst}
use Rattle.c_parser.specs.Reading.{IsNotRead}
use Rattle.c_parser.proofs.Whole.{has_nesting, within_limit, read_of, not_read_of, not_few_open, few_of}
use Rattle.c_parser.proofs.parsing.unit_within.Goals as goal

pub returns-in-Err-nests_within-clause-fault : goal.returns-in-Err-nests_within-clause-fault
returns-in-Err-nests_within-clause-fault c =
    let told = c.in-Err-nests_within.ensures.fault in
    subst (IsNotRead c.args.text.now) (sym told.0) (has_nesting c.args.text.now c.args.tokens.now c.in-Ok.counted c.requires.all c.in-Ok.ensures, told.1)

pub returns-in-Err-few_open-clause-fault : goal.returns-in-Err-few_open-clause-fault
returns-in-Err-few_open-clause-fault c =
    let within = within_limit c.args.text.now c.args.tokens.now c.in-Ok.counted c.in-Ok.ensures c.in-Ok-nests_within.ensures.taken in
    not_few_open c.args.text.now c.args.tokens.now c.in-Err-few_open.fault c.requires.all within c.in-Err-few_open.ensures

pub returns-in-Ok-few_open-clause-read : goal.returns-in-Ok-few_open-clause-read
returns-in-Ok-few_open-clause-read c =
    let within = within_limit c.args.text.now c.args.tokens.now c.in-Ok.counted c.in-Ok.ensures c.in-Ok-nests_within.ensures.taken in
    read_of c.args.text.now c.args.tokens.now c.unit_of.result c.requires.all within c.unit_of.ensures.gives

pub returns-in-Ok-few_open-clause-fault : goal.returns-in-Ok-few_open-clause-fault
returns-in-Ok-few_open-clause-fault c =
    let within = within_limit c.args.text.now c.args.tokens.now c.in-Ok.counted c.in-Ok.ensures c.in-Ok-nests_within.ensures.taken in
    not_read_of c.args.text.now c.args.tokens.now c.unit_of.result c.requires.all within c.unit_of.ensures.gives

pub returns-in-Ok-few_open-clause-nodes : goal.returns-in-Ok-few_open-clause-nodes
returns-in-Ok-few_open-clause-nodes c = few_of c.args.text.now c.args.tokens.now c.unit_of.result c.requires.count c.requires.length c.unit_of.ensures.gives
