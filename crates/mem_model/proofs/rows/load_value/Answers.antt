use Rattle.std.proofs.Common.{Err, sym, ap, ◌∙◌}
use Rattle.mem_model.specs.declared.value.MemFault.{MemFault}
use Rattle.mem_model.specs.declared.value.Value.{Value}
use Rattle.std.specs.Prelude.{Result}
use Rattle.mem_model.proofs.FullRows.{value_or_fault-some, value_or_fault-none}
use Rattle.mem_model.proofs.rows.load_value.Goals as goal

pub returns-in-Some : goal.returns-in-Some
returns-in-Some c = sym (value_or_fault-some c.args.pointer _ _ (sym c.value_at.ensures ∙ c.in-Some.is))

pub returns-in-None : goal.returns-in-None
returns-in-None c =
    ap (λ (x : MemFault). let r : Result Value MemFault = Err x in r) c.fault_of_cells.ensures ∙ sym (value_or_fault-none c.args.pointer _ (sym c.value_at.ensures ∙ c.in-None.is))
