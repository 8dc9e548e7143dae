-- Lists with one more element, and what functions that are laid out have of those over temporaries.
use Rattle.std.proofs.Common.{◌≡◌, ℕ, suc, ◌+◌, Bool, List, [], ◌∷◌, ◌++◌, Some, None, length, map, refl, sym, ap, ◌∙◌, subst, arith}
use Rattle.std.specs.Prelude.{◌<◌, cond, not, nat_lt, sum_by, codes, bytes_eq, unwrap_or}
use Rattle.std.specs.List.{AllZip, position, position_or_len}
use Rattle.std.proofs.lemmas.List.{length-map}
use Rattle.std.proofs.lemmas.List.Sums.{sum_by-cons}
use Rattle.alpha_items.specs.declared.final_fn.FinalFn.{FinalFn}
use Rattle.mem_objects.specs.declared.DataObject.{DataObject}
use Rattle.temp_ir.specs.Programs.{TempFn, is_main}
use Rattle.alloc_model.specs.declared.allocation.Allocation.{Allocation}
use Rattle.alloc_rules.specs.Allocations.{AreAllocationsOf}
use Rattle.image_assembly.specs.Assemblies.{main_of}
use Rattle.image_assembly.specs.Layouts.{label_count, FunctionIsLaidOut, FollowFrom}
use Rattle.image_assembly_laws.proofs.AllocationLaws.Lists.{names_are}

pub zip_more : {A B : Type 0} (R : A → B → Type 0) (xs : List A) (ys : List B) (x : A) (y : B) → AllZip R xs ys → R x y → AllZip R (xs ++ x ∷ []) (ys ++ y ∷ [])
zip_more R [] [] x y h one = (one, tt)
zip_more R [] (b ∷ ys) x y h one = absurd h
zip_more R (a ∷ xs) [] x y h one = absurd h
zip_more R (a ∷ xs) (b ∷ ys) x y h one = (h.0, zip_more R xs ys x y h.1 one)

-- one more function, with the number and the first label behind those of the others
pub follow_more : (globals : List DataObject) (number first : ℕ) (xs : List Allocation) (fs : List FinalFn) (a : Allocation) (f : FinalFn) → FollowFrom globals number first xs fs
    → FunctionIsLaidOut globals (number + length xs) (first + sum_by label_count xs) a f → FollowFrom globals number first (xs ++ a ∷ []) (fs ++ f ∷ [])
follow_more globals number first [] [] a f h new =
    let n : number + 0 ≡ number = omega arith in
    let m : first + 0 ≡ first = omega arith in
    (subst (λ z. FunctionIsLaidOut globals number z a f) m (subst (λ z. FunctionIsLaidOut globals z (first + 0) a f) n new), tt)
follow_more globals number first [] (y ∷ fs) a f h new = absurd h
follow_more globals number first (x ∷ xs) [] a f h new = absurd h
follow_more globals number first (x ∷ xs) (y ∷ fs) a f h new =
    let n : number + suc (length xs) ≡ suc number + length xs = omega arith in
    let s = sum_by-cons label_count x xs in
    let m : first + sum_by label_count (x ∷ xs) ≡ first + label_count x + sum_by label_count xs = omega (arith, s) in
    let moved = subst (λ z. FunctionIsLaidOut globals (suc number + length xs) z a f) m (subst (λ z. FunctionIsLaidOut globals z (first + sum_by label_count (x ∷ xs)) a f) n new) in
    (h.0, follow_more globals (suc number) (first + label_count x) xs fs a f h.1 moved)

-- ---- the function `main`

final_names : (globals : List DataObject) (number first : ℕ) (xs : List Allocation) (fs : List FinalFn) → FollowFrom globals number first xs fs → map (λ (a : Allocation). a.func.name) xs ≡ map (λ (f : FinalFn). f.name) fs
final_names globals number first [] [] h = refl
final_names globals number first [] (y ∷ fs) h = absurd h
final_names globals number first (x ∷ xs) [] h = absurd h
final_names globals number first (x ∷ xs) (y ∷ fs) h =
    ap (λ n. n ∷ map (λ (a : Allocation). a.func.name) xs) (sym h.0.name) ∙ ap (λ ns. y.name ∷ ns) (final_names globals (suc number) (first + label_count x) xs fs h.1)

abbrev is_main_name : List ℕ → Bool
is_main_name n = bytes_eq n (codes "main")

-- the place of a name is that of what has it
place-of : {X : Type 0} (name : X → List ℕ) (xs : List X) → position_or_len (λ x. is_main_name (name x)) xs ≡ position_or_len is_main_name (map name xs)
place-of name [] = refl
place-of name (x ∷ xs) = ap (λ n. cond (not (is_main_name (name x))) (1 + n) 0) (place-of name xs)

position-of : {X : Type 0} (name : X → List ℕ) (xs : List X) → position (λ x. is_main_name (name x)) xs ≡ position is_main_name (map name xs)
position-of name xs =
    ap (λ n. cond (nat_lt n (length xs)) (Some n) None) (place-of name xs)
    ∙ ap (λ k. cond (nat_lt (position_or_len is_main_name (map name xs)) k) (Some (position_or_len is_main_name (map name xs))) None) (sym (length-map xs name))

pub same_main : (globals : List DataObject) (number first : ℕ) (fs : List TempFn) (allocations : List Allocation) (finals : List FinalFn) → AreAllocationsOf fs allocations → FollowFrom globals number first allocations finals
    → unwrap_or (position is_main fs) 0 ≡ main_of finals
same_main globals number first fs allocations finals are laid_out =
    ap (λ o. unwrap_or o 0)
    (position-of (λ (f : TempFn). f.name) fs
    ∙ ap (position is_main_name) (names_are fs allocations are ∙ final_names globals number first allocations finals laid_out)
    ∙ sym (position-of (λ (f : FinalFn). f.name) finals))
