-- One turn of the loop over the allocations, its end, and how many there are.
use Rattle.std.proofs.Common.{◌≡◌, ℕ, suc, ◌+◌, ◌<◌, ◌≤◌, List, [], ◌∷◌, ◌++◌, length, get_or, drop, refl, sym, ap, ◌∙◌, append_assoc, append-nil}
use Rattle.std.proofs.lemmas.List.{at_drop_more, at_drop_all}
use Rattle.std.specs.List.{AllZip}
use Rattle.pass_core.specs.Functions.{count_of}
use Rattle.temp_ir.specs.Programs.{TempFn}
use Rattle.alloc_model.specs.declared.allocation.Allocation.{Allocation}
use Rattle.alloc_lines.specs.Text.{allocation_text}
use Rattle.compile_calls.specs.Texts.{allocations_text}

pub allocations_next : (all : List Allocation) (out : List ℕ) (at n : ℕ) (a : Allocation) → a ≡ get_or all at a → at < length all → (out ++ allocation_text n a) ++ allocations_text (n + count_of a.func.blocks) (drop (at + 1) all) ≡ out ++ allocations_text n (drop at all)
allocations_next all out at n a is within =
    append_assoc out (allocation_text n a) (allocations_text (n + count_of a.func.blocks) (drop (at + 1) all))
    ∙ ap (λ y. out ++ (allocation_text n y ++ allocations_text (n + count_of y.func.blocks) (drop (at + 1) all))) is
    ∙ ap (λ y. out ++ y) (sym (at_drop_more (allocations_text n) all at a within))

pub allocations_end : (all : List Allocation) (out : List ℕ) (at n : ℕ) → length all ≤ at → out ++ allocations_text n (drop at all) ≡ out
allocations_end all out at n past = ap (λ x. out ++ x) (at_drop_all (allocations_text n) all at past) ∙ append-nil out

-- there is one allocation for each function
pub as_many : (P : TempFn → Allocation → Type 0) (functions : List TempFn) (all : List Allocation) → AllZip P functions all → length all ≡ length functions
as_many P [] [] h = refl
as_many P [] (a ∷ all) h = absurd h
as_many P (f ∷ functions) [] h = absurd h
as_many P (f ∷ functions) (a ∷ all) h = ap suc (as_many P functions all h.1)
