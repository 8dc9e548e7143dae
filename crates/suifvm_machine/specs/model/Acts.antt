-- What instructions do where a machine stands.
use Rattle.std.specs.Prelude.{ℕ, Option, Some, None}
use Rattle.mem_model.specs.declared.value.Value.{Value}
use Rattle.mem_model.specs.World.{World, Rooms}
use Rattle.mem_model.specs.Ending.{Ending, Done, Undefined}
use Rattle.machine_model.specs.Code.{Act}
use Rattle.machine_model.specs.Machine.{Config, Next, act_on}
use Rattle.suifvm_ir.specs.declared.insn.VmInsn.{VmInsn}
use Rattle.suifvm_meaning.specs.Behave.{Registers, insn_site, vm_code}
use Rattle.suifvm_machine.specs.declared.machine.Machine.{Machine}
use Rattle.suifvm_machine.specs.Config.{HiddenState, config_of, world_in, program_of}

-- the ending with a status, where there is one
abbrev pub ends_with : (at : ℕ) → World → (status : Option ℕ) → Ending
ends_with at w None = Undefined w at
ends_with at w (Some status) = Done w status

-- a call goes on at the begin of a block
abbrev pub at_block : (block : ℕ) → Config Registers → Config Registers
at_block block k = record k {
  here = record {
    point = record { function = k.here.point.function; block = block; at = 0 };
    own = k.here.own;
    store = k.here.store;
  };
}

-- what an instruction does where the machine stands, by what is done with its values
abbrev pub act_there : Rooms → Machine → HiddenState → VmInsn → Act Value → Next Registers
act_there rooms m h i act =
    act_on Value Registers rooms (vm_code (program_of m)) (config_of m h) (world_in m h).meter (insn_site i) act
