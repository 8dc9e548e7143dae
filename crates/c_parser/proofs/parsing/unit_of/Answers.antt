use Rattle.std.proofs.Common.{rules, ◌≡◌, length, Ok}
use Rattle.c_tree.specs.declared.declarations.TranslationUnit.{TranslationUnit}
use Rattle.c_parser_nesting.specs.HasNesting.{toks_of}
use Rattle.c_parser_grammar.specs.ParseUnits.{unit}
use Rattle.c_parser.proofs.Whole.{low_gives}
use Rattle.c_parser.proofs.parsing.unit_of.Goals as goal

pub returns-in-Ok-clause-gives : goal.returns-in-Ok-clause-gives
returns-in-Ok-clause-gives c =
    let toks = toks_of c.args.text.now c.args.tokens.now in
    let tree : TranslationUnit = record { externals = c.in-Ok.externals; length = length c.args.text.now } in
    let given : unit toks ≡ Ok tree = search rules in
    low_gives toks tree c.low_enough.result given c.low_enough.ensures.same c.low_enough.ensures.fault
