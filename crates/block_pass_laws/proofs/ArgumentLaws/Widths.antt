-- What is within the widest call of its block is within that of its function.
use Rattle.std.proofs.Common.{ℕ, ◌+◌, ◌≤◌, List, [], ◌∷◌, arith}
use Rattle.std.specs.Prelude.{All}
use Rattle.std.proofs.lemmas.Bool.{lt-ltb, ltb-true}
use Rattle.std.proofs.lemmas.List.Elements.{All-nil, All-cons, All-head, All-tail}
use Rattle.pass_core.specs.Functions.{AllInsns}
use Rattle.temp_ir.specs.declared.insn.TempInsn.{TempInsn}
use Rattle.temp_ir.specs.declared.insn.TempInsn.TheVariants as i
use Rattle.alloc_model.specs.Effect.{widest_in, widest_call}
use Rattle.block_pass_laws.specs.temp_walk_laws.SameRuns.{WritesWithin}
use Rattle.block_pass_laws.specs.argument_laws.Kept.{IsWithinBlock, AreWithinBlocks, BlocksAreWithinFunctions}

wider : (w v : ℕ) (z : TempInsn) → w ≤ v → WritesWithin w z → WritesWithin v z
wider w v (i.WriteArgument number source) le h = lt-ltb (number + 6) v (omega (arith, le, ltb-true (number + 6) w h))
wider w v (i.Call function arguments) le h = tt
wider w v (i.ReadArgument destination number) le h = tt
wider w v (i.Address op d base plus) le h = tt
wider w v (i.ObjectAddress d place plus) le h = tt
wider w v (i.Load op d p plus) le h = tt
wider w v (i.Store op a p plus) le h = tt
wider w v (i.Operate op d a b) le h = tt
wider w v (i.Extend op d a) le h = tt
wider w v (i.ToFixed register a) le h = tt
wider w v (i.FromFixed d register) le h = tt
wider w v (i.SetFixed register number) le h = tt
wider w v (i.Branch op a block) le h = tt
wider w v (i.Jump block) le h = tt
wider w v (i.Divide routine) le h = tt
wider w v (i.Serve service) le h = tt
wider w v (i.Return with_value) le h = tt
wider w v i.Mark le h = tt

widers : (w v : ℕ) (xs : List TempInsn) → w ≤ v → All (WritesWithin w) xs → All (WritesWithin v) xs
widers w v [] le h = All-nil (WritesWithin v)
widers w v (z ∷ xs) le h =
    All-cons (WritesWithin v) z xs (wider w v z le (All-head (WritesWithin w) z xs h)) (widers w v xs le (All-tail (WritesWithin w) z xs h))

blocks_within : (v : ℕ) (blocks : List (List TempInsn)) → widest_call blocks ≤ v → AreWithinBlocks blocks → AllInsns (WritesWithin v) blocks
blocks_within v [] le h = All-nil (All (WritesWithin v))
blocks_within v (block ∷ blocks) le h =
    All-cons (All (WritesWithin v)) block blocks
    (widers (widest_in block) v block (omega (arith, le)) (All-head IsWithinBlock block blocks h))
    (blocks_within v blocks (omega (arith, le)) (All-tail IsWithinBlock block blocks h))

pub functions_within : BlocksAreWithinFunctions
functions_within blocks h = blocks_within (widest_call blocks) blocks (omega arith) h
