-- The assembly of functions that are laid out is exactly that of their program.
use Rattle.std.proofs.Common.{◌≡◌, ℕ, suc, ◌+◌, Bool, not, cond, List, [], ◌∷◌, ◌++◌, Some, None, length, map, refl, sym, ap, ◌∙◌, append_assoc}
use Rattle.std.specs.Prelude.{All, unwrap_or, bytes_eq, codes, nat_lt}
use Rattle.std.specs.List.{position, position_or_len}
use Rattle.std.proofs.lemmas.List.Elements.{All-head, All-tail}
use Rattle.alpha_items.specs.declared.item.AsmItem.{AsmItem}
use Rattle.alpha_items.specs.declared.item.AsmItem.TheVariants.{Name}
use Rattle.alpha_items.specs.declared.final_fn.FinalFn.{FinalFn}
use Rattle.alpha_rt.specs.Items.{all_items}
use Rattle.mem_objects.specs.declared.DataObject.{DataObject}
use Rattle.pass_core.specs.Functions.{AllInsns}
use Rattle.temp_ir.specs.Programs.{TempFn}
use Rattle.alloc_model.specs.declared.allocation.Allocation.{Allocation}
use Rattle.alloc_model.specs.Temporaries as model
use Rattle.alloc_model.specs.Places.{plan_of}
use Rattle.frame_steps.specs.function_items.Items.{function_items}
use Rattle.frame_bounds.specs.Settings.{setting_of}
use Rattle.frame_bounds.specs.Near.{IsNear}
use Rattle.frame_bounds.proofs.Near.{plan_same}
use Rattle.frame_bounds.proofs.Fronts.{function_front}
use Rattle.image_assembly.specs.Programs.{start_items}
use Rattle.image_assembly.specs.Assemblies.{final_items, main_of, with_data}
use Rattle.image_assembly.specs.Layouts.{first_label, label_count, FollowFrom}
use Rattle.image_assembly_laws.specs.ProgramAssembly.{functions_items}
use Rattle.image_assembly_laws.specs.Laws.{AssembliesAreExact}

-- ---- the function `main`

names-are : (globals : List DataObject) (number first : ℕ) (allocations : List Allocation) (finals : List FinalFn) → FollowFrom globals number first allocations finals → map (λ (f : FinalFn). f.name) finals ≡ map (λ (a : Allocation). a.func.name) allocations
names-are globals number first [] [] h = refl
names-are globals number first [] (f ∷ finals) h = absurd h
names-are globals number first (a ∷ allocations) [] h = absurd h
names-are globals number first (a ∷ allocations) (f ∷ finals) h =
    ap (λ n. n ∷ map (λ (g : FinalFn). g.name) finals) h.0.name ∙ ap (λ ns. a.func.name ∷ ns) (names-are globals (suc number) (first + label_count a) allocations finals h.1)

-- a first place hangs on the names alone
abbrev main_name : List ℕ → Bool
main_name n = bytes_eq n (codes "main")

place-of : {X : Type 0} (name : X → List ℕ) (xs : List X) → position_or_len (λ x. main_name (name x)) xs ≡ position_or_len main_name (map name xs)
place-of name [] = refl
place-of name (x ∷ xs) = ap (λ n. cond (not (main_name (name x))) (1 + n) 0) (place-of name xs)

size-of : {X : Type 0} (name : X → List ℕ) (xs : List X) → length xs ≡ length (map name xs)
size-of name [] = refl
size-of name (x ∷ xs) = ap suc (size-of name xs)

number-of : {X : Type 0} (name : X → List ℕ) (xs : List X) → unwrap_or (position (λ x. main_name (name x)) xs) 0 ≡ unwrap_or (position main_name (map name xs)) 0
number-of name xs =
    ap (λ k. unwrap_or (cond (nat_lt k (length xs)) (Some k) None) 0) (place-of name xs)
    ∙ ap (λ n. unwrap_or (cond (nat_lt (position_or_len main_name (map name xs)) n) (Some (position_or_len main_name (map name xs))) None) 0) (size-of name xs)

same-main : (finals : List FinalFn) (fs : List TempFn) → map (λ (f : FinalFn). f.name) finals ≡ map (λ (f : TempFn). f.name) fs → main_of finals ≡ model.main_of fs
same-main finals fs e =
    number-of (λ (f : FinalFn). f.name) finals
    ∙ ap (λ ns. unwrap_or (position main_name ns) 0) e
    ∙ sym (number-of (λ (f : TempFn). f.name) fs)

-- ---- items

-- those of functions that are laid out, in front of others
functions-are : (globals : List DataObject) (number first : ℕ) (allocations : List Allocation) (finals : List FinalFn) (rest : List AsmItem) → All (λ (a : Allocation). AllInsns IsNear a.func.blocks) allocations → FollowFrom globals number first allocations finals
    → final_items finals ++ rest ≡ functions_items globals number first allocations rest
functions-are globals number first [] [] rest near laid = refl
functions-are globals number first [] (f ∷ finals) rest near laid = absurd laid
functions-are globals number first (a ∷ allocations) [] rest near laid = absurd laid
functions-are globals number first (a ∷ allocations) (f ∷ finals) rest near laid =
    let same = plan_same (plan_of a) (All-head (λ (x : Allocation). AllInsns IsNear x.func.blocks) a allocations near) in
    let g = setting_of (plan_of a) globals first in
    let back = final_items finals ++ rest in
    append_assoc f.items.items (final_items finals) rest
    ∙ ap (λ xs. xs ++ back) (laid.0.items ∙ ap (λ p. Name a.func.name ∷ function_items p (setting_of p globals first) number []) same)
    ∙ ap (λ xs. Name a.func.name ∷ xs) (function_front (plan_of a) g number [] back)
    ∙ ap (λ xs. Name a.func.name ∷ function_items (plan_of a) g number xs)
    (functions-are globals (suc number) (first + label_count a) allocations finals rest (All-tail (λ (x : Allocation). AllInsns IsNear x.func.blocks) a allocations near) laid.1)

-- ---- the assembly

pub assemblies-exact : AssembliesAreExact
assemblies-exact program allocations finals names near laid =
    let first = first_label (length allocations) in
    let main = same-main finals program.functions (names-are program.globals 0 first allocations finals laid ∙ sym names) in
    let items = ap (λ m. start_items m (final_items finals ++ all_items)) main
    ∙ ap (start_items (model.main_of program.functions)) (functions-are program.globals 0 first allocations finals all_items near laid) in
    ap (λ (xs : List AsmItem). with_data xs program.globals) items
