use Rattle.c_typing_struct_bodies.proofs.Forms.{enum_done, struct_done}
use Rattle.c_typing_struct_bodies.proofs.walk.+body.Goals as goal

pub bodies-returns-in-Some : goal.bodies-returns-in-Some
bodies-returns-in-Some t c =
    enum_done c.args.node.now c.in-Enum.at c.in-Enum.tag c.in-Enum.constants c.in-Some.list c.as_slice.result.now (c.args.defined.now, (c.args.env.now, c.args.notes.now)) (c.enum_body.new.defined, (c.enum_body.new.env, c.enum_body.new.notes)) c.enum_body.result
    c.in-Enum.is c.in-Some.is c.as_slice.ensures c.enum_body.ensures

pub bodies-returns-in-Some-members : goal.bodies-returns-in-Some-members
bodies-returns-in-Some-members t c =
    struct_done c.args.node.now c.in-Struct.at c.in-Struct.tag c.in-Struct.members c.in-Some-members.list c.as_slice-in-Some-members.result.now (c.args.defined.now, (c.args.env.now, c.args.notes.now)) (c.struct_body.new.defined, (c.struct_body.new.env, c.struct_body.new.notes)) c.struct_body.result
    c.in-Struct.is c.in-Some-members.is c.as_slice-in-Some-members.ensures c.struct_body.ensures
