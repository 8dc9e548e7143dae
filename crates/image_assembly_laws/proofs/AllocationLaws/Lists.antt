-- What lists of allocations have of those of their functions.
use Rattle.std.proofs.Common.{◌≡◌, ℕ, zero, suc, List, [], ◌∷◌, Some, length, map, refl, sym, ap, ◌∙◌, subst}
use Rattle.std.specs.Prelude.{All, slice_get}
use Rattle.std.proofs.lemmas.List.Elements.{All-nil, All-cons, All-head, All-tail}
use Rattle.std.proofs.lemmas.Option.{slice_get_within, get_or_from_slice_get, same_Some}
use Rattle.pass_core.specs.declared.function.MemoryLocal.{MemoryLocal}
use Rattle.pass_core.specs.Functions.{AllInsns}
use Rattle.temp_ir.specs.declared.insn.TempInsn.{TempInsn}
use Rattle.temp_ir.specs.Programs.{TempFn}
use Rattle.alloc_model.specs.declared.allocation.Allocation.{Allocation}
use Rattle.alloc_model.specs.Temporaries.{code_of}
use Rattle.image_assembly_laws.specs.Near.{IsNear}
use Rattle.alloc_rules.specs.Allocations.{AreAllocationsOf, IsAllocationOf}
use Rattle.image_assembly_laws.specs.allocation_laws.Laws.{AllocationsAreNear, AllocationsStandByNumber}

pub all_get : {X : Type 0} (Q : X → Type 0) (xs : List X) (j : ℕ) (y : X) → All Q xs → slice_get xs j ≡ Some y → Q y
all_get Q xs j y all is = subst Q (get_or_from_slice_get xs j y y is) (all j y (slice_get_within xs j y is))

-- what holds of each function with its allocation, where something holds of the function
pub all_across : (P : TempFn → Type 0) (Q : Allocation → Type 0) → ((f : TempFn) (a : Allocation) → IsAllocationOf f a → P f → Q a) → (fs : List TempFn) (allocations : List Allocation) → AreAllocationsOf fs allocations → All P fs → All Q allocations
all_across P Q one [] [] h all = All-nil Q
all_across P Q one [] (a ∷ allocations) h all = absurd h
all_across P Q one (f ∷ fs) [] h all = absurd h
all_across P Q one (f ∷ fs) (a ∷ allocations) h all =
    All-cons Q a allocations (one f a h.0 (All-head P f fs all)) (all_across P Q one fs allocations h.1 (All-tail P f fs all))

pub allocations_stand_by_number : AllocationsStandByNumber
allocations_stand_by_number [] [] h k b is = let clash : ⊥ = cc in absurd clash
allocations_stand_by_number [] (a ∷ allocations) h k b is = absurd h
allocations_stand_by_number (f ∷ fs) [] h k b is = absurd h
allocations_stand_by_number (f ∷ fs) (a ∷ allocations) h zero b is = record { function = f; there = refl; is_allocation = subst (IsAllocationOf f) (same_Some a b is) h.0 }
allocations_stand_by_number (f ∷ fs) (a ∷ allocations) h (suc k) b is =
    let rest = allocations_stand_by_number fs allocations h.1 k b is in
    record { function = rest.function; there = rest.there; is_allocation = rest.is_allocation }

pub as_many : (fs : List TempFn) (allocations : List Allocation) → AreAllocationsOf fs allocations → length fs ≡ length allocations
as_many [] [] h = refl
as_many [] (a ∷ allocations) h = absurd h
as_many (f ∷ fs) [] h = absurd h
as_many (f ∷ fs) (a ∷ allocations) h = ap suc (as_many fs allocations h.1)

pub names_are : (fs : List TempFn) (allocations : List Allocation) → AreAllocationsOf fs allocations → map (λ (f : TempFn). f.name) fs ≡ map (λ (a : Allocation). a.func.name) allocations
names_are [] [] h = refl
names_are [] (a ∷ allocations) h = absurd h
names_are (f ∷ fs) [] h = absurd h
names_are (f ∷ fs) (a ∷ allocations) h =
    ap (λ n. n ∷ map (λ (f : TempFn). f.name) fs) (sym h.0.name) ∙ ap (λ ns. a.func.name ∷ ns) (names_are fs allocations h.1)

pub code_is : (fs : List TempFn) (allocations : List Allocation) → AreAllocationsOf fs allocations → map code_of fs ≡ map (λ (a : Allocation). code_of a.func) allocations
code_is [] [] h = refl
code_is [] (a ∷ allocations) h = absurd h
code_is (f ∷ fs) [] h = absurd h
code_is (f ∷ fs) (a ∷ allocations) h =
    ap (λ os. record { sizes = map (λ (o : MemoryLocal). o.size) os; blocks = f.blocks } ∷ map code_of fs) (sym h.0.objects)
    ∙ ap (λ bs. record { sizes = map (λ (o : MemoryLocal). o.size) a.func.objects; blocks = bs } ∷ map code_of fs) (sym h.0.blocks)
    ∙ ap (λ cs. code_of a.func ∷ cs) (code_is fs allocations h.1)

pub allocations_are_near : AllocationsAreNear
allocations_are_near program allocations h near =
    all_across (λ (f : TempFn). AllInsns IsNear f.blocks) (λ (a : Allocation). AllInsns IsNear a.func.blocks)
    (λ f a of is. subst (λ (bs : List (List TempInsn)). AllInsns IsNear bs) (sym of.blocks) is) program.functions allocations h near
