-- Argument places that are told from others are those up to a number.
use Rattle.std.proofs.Common.{List, [], ◌∷◌}
use Rattle.std.specs.Prelude.{All}
use Rattle.std.proofs.lemmas.List.Elements.{All-nil, All-cons, All-head, All-tail}
use Rattle.pass_core.specs.Functions.{AllInsns}
use Rattle.temp_ir.specs.declared.insn.TempInsn.{TempInsn}
use Rattle.temp_ir.specs.declared.insn.TempInsn.TheVariants as i
use Rattle.frame_emitter.specs.Settings.{most_arguments}
use Rattle.frame_bounds.specs.Near.{IsNear}
use Rattle.block_pass_laws.specs.argument_laws.Kept.{NamesPlacesTo}

abbrev IsPlaced : TempInsn → Type 0
IsPlaced x = NamesPlacesTo most_arguments x

near_place : (x : TempInsn) → IsNear x → IsPlaced x
near_place (i.WriteArgument number source) h = h
near_place (i.ReadArgument destination number) h = h
near_place (i.Address op d base plus) h = tt
near_place (i.ObjectAddress d place plus) h = tt
near_place (i.Load op d p plus) h = tt
near_place (i.Store op a p plus) h = tt
near_place (i.Operate op d a b) h = tt
near_place (i.Extend op d a) h = tt
near_place (i.ToFixed register a) h = tt
near_place (i.FromFixed d register) h = tt
near_place (i.SetFixed register number) h = tt
near_place (i.Branch op a block) h = tt
near_place (i.Jump block) h = tt
near_place (i.Call function arguments) h = tt
near_place (i.Divide routine) h = tt
near_place (i.Serve service) h = tt
near_place (i.Return with_value) h = tt
near_place i.Mark h = tt

place_near : (x : TempInsn) → IsPlaced x → IsNear x
place_near (i.WriteArgument number source) h = h
place_near (i.ReadArgument destination number) h = h
place_near (i.Address op d base plus) h = tt
place_near (i.ObjectAddress d place plus) h = tt
place_near (i.Load op d p plus) h = tt
place_near (i.Store op a p plus) h = tt
place_near (i.Operate op d a b) h = tt
place_near (i.Extend op d a) h = tt
place_near (i.ToFixed register a) h = tt
place_near (i.FromFixed d register) h = tt
place_near (i.SetFixed register number) h = tt
place_near (i.Branch op a block) h = tt
place_near (i.Jump block) h = tt
place_near (i.Call function arguments) h = tt
place_near (i.Divide routine) h = tt
place_near (i.Serve service) h = tt
place_near (i.Return with_value) h = tt
place_near i.Mark h = tt

-- what holds of each instruction where another thing does
module _ (P Q : TempInsn → Type 0) (follows : (x : TempInsn) → P x → Q x) where
  block_follows : (xs : List TempInsn) → All P xs → All Q xs
  block_follows [] h = All-nil Q
  block_follows (x ∷ xs) h = All-cons Q x xs (follows x (All-head P x xs h)) (block_follows xs (All-tail P x xs h))

  insns_follow : (blocks : List (List TempInsn)) → AllInsns P blocks → AllInsns Q blocks
  insns_follow [] h = All-nil (All Q)
  insns_follow (block ∷ blocks) h =
      All-cons (All Q) block blocks (block_follows block (All-head (All P) block blocks h)) (insns_follow blocks (All-tail (All P) block blocks h))

pub near_places : (blocks : List (List TempInsn)) → AllInsns IsNear blocks → AllInsns (NamesPlacesTo most_arguments) blocks
near_places blocks h = insns_follow IsNear IsPlaced near_place blocks h

pub places_near : (blocks : List (List TempInsn)) → AllInsns (NamesPlacesTo most_arguments) blocks → AllInsns IsNear blocks
places_near blocks h = insns_follow IsPlaced IsNear place_near blocks h
