-- The code of functions as they stand, which is the selected code of those whose branches do not test values yet.
use Rattle.std.proofs.Common.{◌≡◌, List, [], ◌∷◌, map, refl, ap}
use Rattle.mem_model.specs.Ending.{Ending, Done, Trap, Undefined, More, IsDefined}
use Rattle.suifvm_ir.specs.Programs.{VmFunction}
use Rattle.suifvm_ir.specs.declared.insn.VmInsn.{VmInsn}
use Rattle.suifvm_ir.specs.declared.insn.VmInsn.TheVariants as x
use Rattle.alloc_model.specs.Temporaries.{TemporaryCode}
use Rattle.suifvm_zero_branches.specs.declared.known.RegisterFact.{RegisterFact}
use Rattle.suifvm_zero_branches.specs.Tests.{tested_insn, HasMeaning}
use Rattle.suifvm_zero_branches.proofs.Functions.{tested_function}
use Rattle.selection_code.specs.Fields.{HasFields}
use Rattle.selection_code.specs.Functions.{selected_blocks}
use Rattle.selection_laws.specs.Selected.{selected_code}

abbrev pub plain_code : VmFunction → TemporaryCode
plain_code f = record { sizes = map (λ o. o.size) f.objects; blocks = selected_blocks f.params f.blocks }

pub selected_plain : (fs : List VmFunction) → map plain_code (map tested_function fs) ≡ map selected_code fs
selected_plain [] = refl
selected_plain (f ∷ fs) = ap (λ l. selected_code f ∷ l) (selected_plain fs)

-- the numbers in an instruction stay
pub fields_kept : (k : RegisterFact) (i : VmInsn) → HasFields i → HasFields (tested_insn k i)
fields_kept k (x.LoadConstant ty d word) h = h
fields_kept k (x.LoadAddress d place plus) h = h
fields_kept k (x.Load ty d p plus) h = h
fields_kept k (x.Store ty p plus b) h = h
fields_kept k (x.Copy to from size align) h = h
fields_kept k (x.Unary op ty d b) h = h
fields_kept k (x.Binary op ty d b c) h = h
fields_kept k (x.Shift op ty d b c) h = h
fields_kept k (x.Convert from to d b) h = h
fields_kept k (x.Compare op ty d b c) h = h
fields_kept k (x.Branch op ty a block) h = tt
fields_kept k (x.Jump block) h = h
fields_kept k (x.Call d c arguments) h = h
fields_kept k (x.Return value) h = h
fields_kept k x.Mark h = h
fields_kept k x.Nop h = h

pub has_meaning : (e : Ending) → IsDefined e → HasMeaning e
has_meaning (Done w status) h = tt
has_meaning (Trap w code) h = tt
has_meaning (Undefined w at) h = h
has_meaning (More w) h = tt
