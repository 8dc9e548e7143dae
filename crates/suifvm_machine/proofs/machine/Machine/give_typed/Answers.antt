-- A value is returned, or the return has no meaning.
use Rattle.std.proofs.Common.{◌≡◌, ◌∷◌, [], true, false, refl, rules}
use Rattle.suifvm_meaning.specs.Operations.{is_value_of}
use Rattle.suifvm_machine.proofs.Effects.{return_value, return_failure}
use Rattle.suifvm_machine.proofs.machine.Machine.give_typed.Goals as goal

pub returns-then-is_value_of : goal.returns-then-is_value_of
returns-then-is_value_of c i =
    let ok : is_value_of c.args.typed.ty c.get-value.result ≡ true = search rules in
    return_value c.args.self.now c.leave.new.self c.leave.result i c.args.typed c.get-value.result _ c.get-value.ensures ok (c.leave.ensures i (c.get-value.result ∷ []) refl)

pub returns-else-is_value_of : goal.returns-else-is_value_of
returns-else-is_value_of c i =
    let bad : is_value_of c.args.typed.ty c.get-value.result ≡ false = search rules in
    return_failure c.args.self.now c.fail.result i c.args.typed c.get-value.result _ c.get-value.ensures bad c.requires.sound c.fail.ensures
