-- A jump of the code back goes to a mark.
use Rattle.std.proofs.Common.{◌≡◌, ℕ, zero, suc, ◌<◌, List, [], ◌∷◌, ◌++◌, length, Bool, true, false, Option, Some, None, All, refl, sym, ap, ◌∙◌, subst, arith}
use Rattle.std.specs.Prelude.{◌||◌, nat_lt, IsTrue, slice_get, option_map}
use Rattle.std.specs.List.{list_all}
use Rattle.std.proofs.lemmas.Bool.{and_from, and_parts}
use Rattle.std.proofs.lemmas.Option.{none-some, same_Some, slice_get-map, slice_get_within, get_or_from_slice_get}
use Rattle.std.proofs.lemmas.List.Elements.{All-nil, All-cons, All-append}
use Rattle.suifvm_ir.specs.declared.insn.VmInsn.{VmInsn}
use Rattle.suifvm_ir.specs.declared.insn.VmInsn.TheVariants as x
use Rattle.suifvm_ir.specs.Programs as vm
use Rattle.suifvm_ir.specs.Insns as insns
use Rattle.pass_core.specs.Functions.{GoesToBlocks}
use Rattle.temp_ir.specs.declared.insn.TempInsn.{TempInsn}
use Rattle.temp_ir.specs.Insns.{targets_of}
use Rattle.temp_ir.specs.Programs.{begins_with_mark, first_is_mark, goes_back_to_marks}
use Rattle.selection_code.specs.Functions.{selected_insns, parameter_items, selected_blocks}
use Rattle.selection_bounds.specs.selection_shapes.Shapes.{SelectionKeepsMarks}
use Rattle.selection_bounds.proofs.SelectionShapes.Plain.{is_plain, are_plain, bare_parts, takes_plain}
use Rattle.selection_bounds.proofs.SelectionShapes.Walk.{IsKept, insns_kept}
use Rattle.selection_bounds.proofs.SelectionShapes.Shaped.{plain_is}

-- ---- marks

block_behind : (params : ℕ) (blocks : List (List VmInsn)) (k : ℕ) → slice_get (selected_blocks params blocks) (suc k) ≡ option_map selected_insns (slice_get blocks (suc k))
block_behind params [] k = refl
block_behind params (block ∷ blocks) k = slice_get-map selected_insns blocks k

mark_first : (insns : List VmInsn) → vm.first_is_mark (slice_get insns 0) ≡ true → first_is_mark (slice_get (selected_insns insns) 0) ≡ true
mark_first [] e = absurd (cc)
mark_first (x.Mark ∷ insns) e = refl
mark_first (x.LoadConstant ty d word ∷ insns) e = absurd (cc)
mark_first (x.LoadAddress d place plus ∷ insns) e = absurd (cc)
mark_first (x.Load ty d p plus ∷ insns) e = absurd (cc)
mark_first (x.Store ty p plus a ∷ insns) e = absurd (cc)
mark_first (x.Copy to from size align ∷ insns) e = absurd (cc)
mark_first (x.Unary op ty d a ∷ insns) e = absurd (cc)
mark_first (x.Binary op ty d a b ∷ insns) e = absurd (cc)
mark_first (x.Shift op ty d a b ∷ insns) e = absurd (cc)
mark_first (x.Convert from to d a ∷ insns) e = absurd (cc)
mark_first (x.Compare op ty d a b ∷ insns) e = absurd (cc)
mark_first (x.Branch op ty a block ∷ insns) e = absurd (cc)
mark_first (x.Jump block ∷ insns) e = absurd (cc)
mark_first (x.Call d c arguments ∷ insns) e = absurd (cc)
mark_first (x.Return value ∷ insns) e = absurd (cc)
mark_first (x.Nop ∷ insns) e = absurd (cc)

mark_there : (params : ℕ) (blocks : List (List VmInsn)) (k : ℕ) → vm.begins_with_mark (slice_get blocks (suc k)) ≡ true → begins_with_mark (slice_get (selected_blocks params blocks) (suc k)) ≡ true
mark_there params blocks k e = ap begins_with_mark (block_behind params blocks k) ∙ by_block (slice_get blocks (suc k)) e
  where
    by_block : (o : Option (List VmInsn)) → vm.begins_with_mark o ≡ true → begins_with_mark (option_map selected_insns o) ≡ true
    by_block None f = absurd (cc)
    by_block (Some insns) f = mark_first insns f

mark_target : (params : ℕ) (blocks : List (List VmInsn)) (b target : ℕ) → 0 < target → (nat_lt b target || vm.begins_with_mark (slice_get blocks target)) ≡ true →
    (nat_lt b target || begins_with_mark (slice_get (selected_blocks params blocks) target)) ≡ true
mark_target params blocks b zero some e = absurd (omega (arith, some))
mark_target params blocks b (suc k) some e = by_order (nat_lt b (suc k)) e
  where
    by_order : (c : Bool) → (c || vm.begins_with_mark (slice_get blocks (suc k))) ≡ true → (c || begins_with_mark (slice_get (selected_blocks params blocks) (suc k))) ≡ true
    by_order true f = refl
    by_order false f = mark_there params blocks k f

module _ (params : ℕ) (blocks : List (List VmInsn)) (b : ℕ) where
  abbrev Back : TempInsn → Type 0
  Back z = goes_back_to_marks (selected_blocks params blocks) b z ≡ true

  no_targets : (ts : List ℕ) → length ts ≡ 0 → list_all (λ target. nat_lt b target || begins_with_mark (slice_get (selected_blocks params blocks) target)) ts ≡ true
  no_targets [] e = refl
  no_targets (t ∷ ts) e = absurd (omega (arith, e))

  plain_back : (xs : List TempInsn) → are_plain xs ≡ true → All Back xs
  plain_back [] e = All-nil Back
  plain_back (z ∷ xs) e =
      let p = and_parts (is_plain z) (are_plain xs) e in
      All-cons Back z xs (no_targets (targets_of z) (plain_is z p.0).0) (plain_back xs p.1)

  target_back : (target : ℕ) → All (λ t. (0 < t) × (t < length blocks)) (target ∷ []) → list_all (λ t. nat_lt b t || vm.begins_with_mark (slice_get blocks t)) (target ∷ []) ≡ true →
      list_all (λ t. nat_lt b t || begins_with_mark (slice_get (selected_blocks params blocks) t)) (target ∷ []) ≡ true
  target_back target h e =
      and_from (nat_lt b target || begins_with_mark (slice_get (selected_blocks params blocks) target)) true
      (mark_target params blocks b target (h 0 0 (omega arith)).0 (and_parts (nat_lt b target || vm.begins_with_mark (slice_get blocks target)) true e).0) refl

  -- where targets are blocks, and a jump back goes to a mark
  abbrev Before : VmInsn → Type 0
  Before y = GoesToBlocks insns.targets_of (length blocks) y × IsTrue (vm.goes_back_to_marks blocks b y)

  back_kept : IsKept Before Back
  back_kept = record {
    bare = λ z e. no_targets (targets_of z) (plain_is z (bare_parts z e).2).0;
    address = λ d place plus q. refl;
    branch = λ op ty a target q. target_back target q.0 q.1;
    jump = λ target q. target_back target q.0 q.1;
    argument = λ d k arguments q number t lt. refl;
    call = λ d k arguments q. refl;
    returns = λ value with_value q. refl;
  }

  insns_back : (block : List VmInsn) → All (GoesToBlocks insns.targets_of (length blocks)) block → All (λ y. IsTrue (vm.goes_back_to_marks blocks b y)) block → All Back (selected_insns block)
  insns_back block h e = insns_kept Before Back back_kept block (λ k d lt. (h k d lt, e k d lt))

-- ---- all blocks

all_get : {A : Type 0} (P : A → Type 0) (xs : List A) (k : ℕ) (x : A) → All P xs → slice_get xs k ≡ Some x → P x
all_get P xs k x h e = subst P (get_or_from_slice_get xs k x x e) (h k x (slice_get_within xs k x e))

-- what holds of the code of each block at its number, and is kept behind plain code, holds of the blocks of the function
blocks_at : (P : (k : ℕ) → List TempInsn → Type 0) → (params : ℕ) (blocks : List (List VmInsn)) →
    ((k : ℕ) (insns : List VmInsn) → slice_get blocks k ≡ Some insns → P k (selected_insns insns)) →
    ((k : ℕ) (xs ys : List TempInsn) → are_plain xs ≡ true → P k ys → P k (xs ++ ys)) →
    (k : ℕ) (code : List TempInsn) → slice_get (selected_blocks params blocks) k ≡ Some code → P k code
blocks_at P params blocks of behind zero code e = by_first blocks of e
  where
    by_first : (bs : List (List VmInsn)) → ((k : ℕ) (insns : List VmInsn) → slice_get bs k ≡ Some insns → P k (selected_insns insns)) → slice_get (selected_blocks params bs) 0 ≡ Some code → P 0 code
    by_first [] f g = absurd (none-some code g)
    by_first (b ∷ bs) f g = subst (P 0) (same_Some (parameter_items params ++ selected_insns b) code g) (behind 0 (parameter_items params) (selected_insns b) (takes_plain 0 params) (f 0 b refl))
blocks_at P params blocks of behind (suc k) code e = by_block (slice_get blocks (suc k)) refl (sym (block_behind params blocks k) ∙ e)
  where
    by_block : (o : Option (List VmInsn)) → slice_get blocks (suc k) ≡ o → option_map selected_insns o ≡ Some code → P (suc k) code
    by_block None there f = absurd (none-some code f)
    by_block (Some insns) there f = subst (P (suc k)) (same_Some (selected_insns insns) code f) (of (suc k) insns there)

pub marks_kept : SelectionKeepsMarks
marks_kept f marks k code there =
    blocks_at (λ b code. All (λ z. IsTrue (goes_back_to_marks (selected_blocks f.params f.blocks) b z)) code) f.params f.blocks
    (λ b block at. insns_back f.params f.blocks b block (all_get (All (GoesToBlocks insns.targets_of (length f.blocks))) f.blocks b block f.targets at) (marks b block at))
    (λ b xs ys p h. All-append (λ z. IsTrue (goes_back_to_marks (selected_blocks f.params f.blocks) b z)) xs ys (plain_back f.params f.blocks b xs p) h) k code there
