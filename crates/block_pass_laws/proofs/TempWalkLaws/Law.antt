-- Programs whose functions have the same walks run alike.
use Rattle.std.proofs.Common.{◌≡◌, ℕ, zero, suc, ◌+◌, Bool, List, [], ◌∷◌, map, length, cond, not, Some, None, slice_get, refl, sym, ap, ◌∙◌}
use Rattle.std.specs.Prelude.{unwrap_or, nat_lt, bytes_eq, codes}
use Rattle.std.specs.List.{prefix_len}
use Rattle.mem_model.specs.World.{World, Rooms}
use Rattle.temp_ir.specs.declared.program.TempProgram.{TempProgram}
use Rattle.temp_ir.specs.Programs.{TempFn, is_main}
use Rattle.alloc_model.specs.Temporaries.{TemporaryCode, code_of, temp_run, main_of, start_world}
use Rattle.block_pass_laws.specs.temp_walk_laws.SameRuns.{SameTempFunctions, TempRunsAs, SameTempWalksRunAlike}
use Rattle.block_pass_laws.proofs.TempWalkLaws.Following.{SameAt}
use Rattle.block_pass_laws.proofs.TempWalkLaws.Running.{ends_alike}

same_at : (fs gs : List TempFn) → SameTempFunctions fs gs → (n : ℕ) → SameAt (slice_get (map code_of fs) n) (slice_get (map code_of gs) n)
same_at [] [] same n = tt
same_at [] (g ∷ gs) same n = absurd same
same_at (f ∷ fs) [] same n = absurd same
same_at (f ∷ fs) (g ∷ gs) same zero = record {
  sizes = ap (map (λ o. o.size)) same.0.objects;
  valid = record { goes = f.targets; ends = f.stops };
  walks = same.0.walks;
  before = same.0.before;
  after = same.0.after;
}
same_at (f ∷ fs) (g ∷ gs) same (suc n) = same_at fs gs same.1 n

length_same : (fs gs : List TempFn) → SameTempFunctions fs gs → length fs ≡ length gs
length_same [] [] same = refl
length_same [] (g ∷ gs) same = absurd same
length_same (f ∷ fs) [] same = absurd same
length_same (f ∷ fs) (g ∷ gs) same = ap suc (length_same fs gs same.1)

abbrev is_other : TempFn → Bool
is_other f = not (is_main f)

others_same : (fs gs : List TempFn) → SameTempFunctions fs gs → prefix_len is_other fs ≡ prefix_len is_other gs
others_same [] [] same = refl
others_same [] (g ∷ gs) same = absurd same
others_same (f ∷ fs) [] same = absurd same
others_same (f ∷ fs) (g ∷ gs) same =
    ap (λ name. cond (not (bytes_eq name (codes "main"))) (1 + prefix_len is_other fs) 0) same.0.name
    ∙ ap (λ n. cond (is_other g) (1 + n) 0) (others_same fs gs same.1)

abbrev main_at : (place count : ℕ) → ℕ
main_at place count = unwrap_or (cond (nat_lt place count) (Some place) None) 0

main_same : (fs gs : List TempFn) → SameTempFunctions fs gs → main_of fs ≡ main_of gs
main_same fs gs same =
    ap (λ place. main_at place (length fs)) (others_same fs gs same)
    ∙ ap (main_at (prefix_len is_other gs)) (length_same fs gs same)

swapped : (fs gs : List TempFn) → SameTempFunctions fs gs → SameTempFunctions gs fs
swapped [] [] same = tt
swapped [] (g ∷ gs) same = absurd same
swapped (f ∷ fs) [] same = absurd same
swapped (f ∷ fs) (g ∷ gs) same = (
  record { name = sym same.0.name; objects = sym same.0.objects; walks = λ steps. ((same.0.walks steps).1, (same.0.walks steps).0); before = same.0.after; after = same.0.before },
  swapped fs gs same.1,
)

runs_as : (rooms : Rooms) (before after : TempProgram) → before.globals ≡ after.globals → SameTempFunctions before.functions after.functions → (input : List ℕ) (turns : ℕ) → TempRunsAs rooms before after input turns
runs_as rooms before after globals same input turns e run =
    let fs : List TemporaryCode = map code_of before.functions in
    let gs : List TemporaryCode = map code_of after.functions in
    let main : ℕ = main_of before.functions in
    let w : World = start_world before.globals input turns in
    let comes = ends_alike rooms fs gs (same_at before.functions after.functions same) run.steps main w e run.over in (
      comes.ending,
      record {
        steps = comes.steps;
        over =
            ap (λ m. temp_run rooms gs m (start_world after.globals input turns) comes.steps) (sym (main_same before.functions after.functions same))
            ∙ ap (λ objects. temp_run rooms gs main (start_world objects input turns) comes.steps) (sym globals)
            ∙ comes.runs;
      },
      comes.alike,
    )

pub law : SameTempWalksRunAlike
law rooms before after globals same input turns = (
  runs_as rooms before after globals same input turns,
  runs_as rooms after before (sym globals) (swapped before.functions after.functions same) input turns,
)
