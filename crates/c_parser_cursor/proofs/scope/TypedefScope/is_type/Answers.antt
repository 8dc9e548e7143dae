use Rattle.std.proofs.Common.{◌∙◌, ap, List, ℕ, bytes_eq}
use Rattle.std.specs.List.{list_any}
use Rattle.c_parser_grammar.specs.Tokens.{is_type_name}
use Rattle.c_parser_cursor.proofs.Indexes.{any-reverse}
use Rattle.c_parser_cursor.proofs.scope.TypedefScope.is_type.Goals as goal

pub returns : goal.returns
unfolding is_type_name
returns c =
    let test = λ (x : List ℕ). bytes_eq x c.args.name.now in
    c.contains.ensures ∙ (c.self.invariant c.args.name.now ∙ (any-reverse test c.self.inside.list.items ∙ ap (list_any test) c.self.view_is))
