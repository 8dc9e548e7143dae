-- One turn of each loop that makes tables, and its end.
use Rattle.std.proofs.Common.{◌≡◌, ℕ, ◌+◌, ◌<◌, ◌≤◌, List, [], ◌∷◌, ◌++◌, map, length, get_or, drop, sym, ap, ◌∙◌, append_assoc, append-nil}
use Rattle.std.proofs.lemmas.List.{map-append, at_drop_more, at_drop_all}
use Rattle.bk_ilist.specs.Listing.{items}
use Rattle.suifvm_ir.specs.declared.insn.VmInsn.{VmInsn}
use Rattle.suifvm_ir.specs.Programs.{VmFunction}
use Rattle.suifvm_meaning.specs.Behave.{FunctionCode, code_of}
use Rattle.suifvm_machine.specs.declared.tables.BlockTable.{BlockTable}
use Rattle.suifvm_machine.specs.declared.tables.FunctionTable.{FunctionTable}
use Rattle.suifvm_machine.specs.Tables.{block_insns, table_code}

-- what an element stands for moves to the front
moves : {A B : Type 0} (f : A → B) (xs : List A) (x : A) (y : B) (rest : List B) → f x ≡ y → map f (xs ++ x ∷ []) ++ rest ≡ map f xs ++ y ∷ rest
moves f xs x y rest is =
    ap (λ l. l ++ rest) (map-append f xs (x ∷ [])) ∙ append_assoc (map f xs) (f x ∷ []) rest ∙ ap (λ z. map f xs ++ z ∷ rest) is

pub insns_next : {R : Type 0} (now : R → VmInsn) (xs : List R) (x : R) (i : VmInsn) (rest all : List (ℕ × VmInsn)) (id : ℕ) → now x ≡ i → all ≡ (id, i) ∷ rest → map now (xs ++ x ∷ []) ++ items rest ≡ map now xs ++ items all
insns_next now xs x i rest all id is all_is = moves now xs x i (items rest) is ∙ ap (λ l. map now xs ++ items l) (sym all_is)

pub insns_end : (xs : List VmInsn) (rest : List (ℕ × VmInsn)) → rest ≡ [] → xs ++ items rest ≡ xs
insns_end xs rest none = ap (λ l. xs ++ items l) none ∙ append-nil xs

pub blocks_next : (xs : List BlockTable) (t : BlockTable) (block : List VmInsn) (blocks : List (List VmInsn)) (i : ℕ) → block_insns t ≡ block → i < length blocks → block ≡ get_or blocks i block → map block_insns (xs ++ t ∷ []) ++ drop (i + 1) blocks ≡ map block_insns xs ++ drop i blocks
blocks_next xs t block blocks i is within read =
    moves block_insns xs t block (drop (i + 1) blocks) is
    ∙ ap (λ y. map block_insns xs ++ y ∷ drop (i + 1) blocks) read
    ∙ ap (λ l. map block_insns xs ++ l) (sym (at_drop_more (λ l. l) blocks i block within))

pub blocks_end : (xs blocks : List (List VmInsn)) (i : ℕ) → length blocks ≤ i → xs ++ drop i blocks ≡ xs
blocks_end xs blocks i past = ap (λ l. xs ++ l) (at_drop_all (λ l. l) blocks i past) ∙ append-nil xs

pub functions_next : (xs : List FunctionTable) (t : FunctionTable) (f : VmFunction) (functions : List VmFunction) (i : ℕ) → table_code t ≡ code_of f → i < length functions → f ≡ get_or functions i f → map table_code (xs ++ t ∷ []) ++ map code_of (drop (i + 1) functions) ≡ map table_code xs ++ map code_of (drop i functions)
functions_next xs t f functions i is within read =
    moves table_code xs t (code_of f) (map code_of (drop (i + 1) functions)) is
    ∙ ap (λ y. map table_code xs ++ code_of y ∷ map code_of (drop (i + 1) functions)) read
    ∙ ap (λ l. map table_code xs ++ l) (sym (at_drop_more (map code_of) functions i f within))

pub functions_end : (xs : List FunctionCode) (functions : List VmFunction) (i : ℕ) → length functions ≤ i → xs ++ map code_of (drop i functions) ≡ xs
functions_end xs functions i past = ap (λ l. xs ++ l) (at_drop_all (map code_of) functions i past) ∙ append-nil xs
