use Rattle.std.proofs.Common.{List, length, map, sym, ap, ◌∙◌}
use Rattle.c_lexer.specs.declared.token.Token.{Token}
use Rattle.c_lexer.specs.Pieces.{lexemes}
use Rattle.c_parser_nesting.specs.Nesting.{nesting}
use Rattle.c_parser_nesting.specs.HasNesting.{role_of_token}
use Rattle.c_parser_nesting.proofs.Reading.{roles-lexemes}
use Rattle.c_parser_nesting.proofs.nesting.nest.Goals as goal

pub returns-clause-nesting : goal.returns-clause-nesting
returns-clause-nesting c =
    let text = c.args.text.now in
    let ts = c.in_ok-tokens.tokens.items in
    record {
      tokens = record { items = lexemes text ts; size = length text };
      are_tokens = c.in_ok-tokens.ensures.all;
      nesting = c.in_ok-nesting_of.ensures ∙ ap (λ (us : List Token). nesting (map role_of_token us)) c.deref.ensures.value ∙ ap nesting (sym (roles-lexemes text ts));
    }
