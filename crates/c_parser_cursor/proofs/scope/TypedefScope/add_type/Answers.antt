use Rattle.std.proofs.Common.{◌∙◌, sym}
use Rattle.c_parser_cursor.proofs.Indexes.{index-told}
use Rattle.c_parser_cursor.proofs.scope.TypedefScope.add_type.Goals as goal

pub invariant_of-self-else-is_err : goal.invariant_of-self-else-is_err
invariant_of-self-else-is_err c =
    index-told c.self.inside.index c.insert.new.self c.self.inside.list.items c.in_ok-key.key c.args.name c.push.new.self.items c.insert.result (sym c.is_err.ensures.value ∙ c.if-is_err.false)
    c.insert.ensures.added c.insert.ensures.keys c.self.invariant (c.in_ok-key.ensures.items ∙ c.as_slice.ensures) c.in_ok-push.ensures.items
