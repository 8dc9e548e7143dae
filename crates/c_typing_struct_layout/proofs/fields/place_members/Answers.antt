use Rattle.c_typing_struct_layout.proofs.Members.{past_data, no_span, none_placed}
use Rattle.c_typing_struct_layout.proofs.fields.place_members.Goals as goal

pub returns-in-None-clause-placement_of_fields : goal.returns-in-None-clause-placement_of_fields
returns-in-None-clause-placement_of_fields c =
    let past =
    no_span c.args.structs.now c.loop-field.end c.field-item.result c.span_of.result c.span_of.ensures
    c.in-None.is in
    none_placed c.args.structs.now c.args.fields.now
    (past_data c.args.structs.now c.args.fields.now c.loop-field.field-index c.field-item.result
    c.loop-field-test.true c.field-item.is _ c.loop-field.end c.loop-field.invariant.ends past)
