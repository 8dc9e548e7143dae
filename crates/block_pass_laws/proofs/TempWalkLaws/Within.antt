-- What holds of all instructions holds of one that stands at a place.
use Rattle.std.proofs.Common.{◌≡◌, ℕ, ◌<◌, List, [], ◌∷◌, length, drop, All, Some, slice_get, subst}
use Rattle.std.proofs.lemmas.Option.{slice_get_within, get_or_from_slice_get}
use Rattle.std.proofs.lemmas.List.Elements.{All-get_or}
use Rattle.temp_ir.specs.declared.insn.TempInsn.{TempInsn}
use Rattle.pass_core.specs.Functions.{AllInsns}
use Rattle.cfg.specs.Walks.{block_at}
use Rattle.block_pass_laws.proofs.TempWalkLaws.Following.{drop_get}

one_of : (P : TempInsn → Type 0) (xs : List TempInsn) (at : ℕ) (i : TempInsn) → All P xs → slice_get xs at ≡ Some i → P i
one_of P xs at i all e = subst P (get_or_from_slice_get xs at i i e) (All-get_or P xs at i (slice_get_within xs at i e) all)

pub within_at : (P : TempInsn → Type 0) (f : List (List TempInsn)) (b at : ℕ) (i : TempInsn) (rest : List TempInsn) → AllInsns P f → b < length f → drop at (block_at f b) ≡ i ∷ rest → P i
within_at P f b at i rest all below here = one_of P (block_at f b) at i (All-get_or (λ block. All P block) f b [] below all) (drop_get at (block_at f b) rest i here)
