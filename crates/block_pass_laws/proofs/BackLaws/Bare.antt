-- What does not hang on the targets of instructions.
use Rattle.std.proofs.Common.{◌≡◌, ℕ, suc, ◌+◌, ◌-◌, List, [], ◌∷◌, ◌++◌, length, map, Bool, true, false, Option, Some, None, refl, sym, ap, ◌∙◌, arith}
use Rattle.std.specs.Prelude.{cond, count_by, slice_get, if◌then◌else◌}
use Rattle.std.proofs.lemmas.List.{length-append}
use Rattle.std.proofs.lemmas.List.Sums.{sum_by-cons}
use Rattle.pass_core.specs.Functions.{last_of, successors_after, successors_of}
use Rattle.temp_ir.specs.declared.insn.TempInsn.{TempInsn}
use Rattle.temp_ir.specs.declared.insn.TempInsn.TheVariants as i
use Rattle.temp_ir.specs.Insns.{targets_of, with_block, flows_on_of}
use Rattle.temp_ir.specs.Cost.{makes_call}
use Rattle.cfg.specs.Walks.{zero_targets}

-- an instruction with block 0 as its target, if it has one
abbrev pub bare_of : TempInsn → TempInsn
bare_of z = zero_targets targets_of with_block z

pub bare_calls : (z : TempInsn) → makes_call (bare_of z) ≡ makes_call z
bare_calls (i.Address op d base plus) = refl
bare_calls (i.ObjectAddress d place plus) = refl
bare_calls (i.Load op d p plus) = refl
bare_calls (i.Store op a p plus) = refl
bare_calls (i.Operate op d a b) = refl
bare_calls (i.Extend op d a) = refl
bare_calls (i.ToFixed register a) = refl
bare_calls (i.FromFixed d register) = refl
bare_calls (i.SetFixed register number) = refl
bare_calls (i.WriteArgument number a) = refl
bare_calls (i.ReadArgument d number) = refl
bare_calls (i.Branch op a block) = refl
bare_calls (i.Jump block) = refl
bare_calls (i.Call function arguments) = refl
bare_calls (i.Divide routine) = refl
bare_calls (i.Serve service) = refl
bare_calls (i.Return with_value) = refl
bare_calls i.Mark = refl

-- how many edges leave a block that ends with an instruction
leaves : TempInsn → ℕ
leaves z = length (successors_after targets_of flows_on_of 0 (Some z))

bare_leaves : (z : TempInsn) → leaves (bare_of z) ≡ leaves z
unfolding leaves
bare_leaves (i.Address op d base plus) = refl
bare_leaves (i.ObjectAddress d place plus) = refl
bare_leaves (i.Load op d p plus) = refl
bare_leaves (i.Store op a p plus) = refl
bare_leaves (i.Operate op d a b) = refl
bare_leaves (i.Extend op d a) = refl
bare_leaves (i.ToFixed register a) = refl
bare_leaves (i.FromFixed d register) = refl
bare_leaves (i.SetFixed register number) = refl
bare_leaves (i.WriteArgument number a) = refl
bare_leaves (i.ReadArgument d number) = refl
bare_leaves (i.Branch op a block) = refl
bare_leaves (i.Jump block) = refl
bare_leaves (i.Call function arguments) = refl
bare_leaves (i.Divide routine) = refl
bare_leaves (i.Serve service) = refl
bare_leaves (i.Return with_value) = refl
bare_leaves i.Mark = refl

-- ---- blocks

abbrev tally : Bool → ℕ
tally b = cond b 1 0

calls-cons : (z : TempInsn) (xs : List TempInsn) → count_by makes_call (z ∷ xs) ≡ tally (makes_call z) + count_by makes_call xs
calls-cons z xs = sum_by-cons (λ y. cond (makes_call y) 1 0) z xs

same_calls : (xs : List TempInsn) → count_by makes_call (map bare_of xs) ≡ count_by makes_call xs
same_calls [] = refl
same_calls (z ∷ xs) = omega (arith, calls-cons (bare_of z) (map bare_of xs), ap tally (bare_calls z), same_calls xs, calls-cons z xs)

abbrev pub edges : List TempInsn → ℕ
edges xs = length (successors_of targets_of flows_on_of 0 xs)

edges_after : Option TempInsn → ℕ
edges_after o = length (successors_after targets_of flows_on_of 0 o)

last_more : {A : Type 0} (x y : A) (xs : List A) → last_of (x ∷ y ∷ xs) ≡ last_of (y ∷ xs)
last_more x y xs = let e : length (x ∷ y ∷ xs) - 1 ≡ suc (length (y ∷ xs) - 1) = omega arith in ap (λ k. slice_get (x ∷ y ∷ xs) k) e

same_edges : (xs : List TempInsn) → edges (map bare_of xs) ≡ edges xs
unfolding leaves edges_after
same_edges [] = refl
same_edges (z ∷ []) = bare_leaves z
same_edges (z ∷ y ∷ xs) =
    ap edges_after (last_more (bare_of z) (bare_of y) (map bare_of xs)) ∙ same_edges (y ∷ xs) ∙ sym (ap edges_after (last_more z y xs))

-- blocks that are the same but for the targets of their instructions
pub calls_stay : (xs ys : List TempInsn) → map bare_of xs ≡ map bare_of ys → count_by makes_call xs ≡ count_by makes_call ys
calls_stay xs ys e = sym (same_calls xs) ∙ ap (count_by makes_call) e ∙ same_calls ys

pub edges_stay : (xs ys : List TempInsn) → map bare_of xs ≡ map bare_of ys → edges xs ≡ edges ys
edges_stay xs ys e = sym (same_edges xs) ∙ ap edges e ∙ same_edges ys

-- how many edges leave a block does not hang on its number
pub edges_by : (n : ℕ) (o : Option TempInsn) → length (successors_after targets_of flows_on_of n o) ≡ length (successors_after targets_of flows_on_of 0 o)
edges_by n None = refl
edges_by n (Some z) = by_flow (flows_on_of z)
  where
    by_flow : (b : Bool) → length (targets_of z ++ (if b then suc n ∷ [] else [])) ≡ length (targets_of z ++ (if b then 1 ∷ [] else []))
    by_flow true = omega (arith, length-append (targets_of z) (suc n ∷ []), length-append (targets_of z) (1 ∷ []))
    by_flow false = refl
