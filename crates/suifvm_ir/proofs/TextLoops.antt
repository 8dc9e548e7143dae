-- One turn of each loop of the text, and its end.
use Rattle.std.proofs.Common.{◌≡◌, ℕ, ◌+◌, ◌<◌, ◌≤◌, List, [], ◌∷◌, ◌++◌, length, get_or, drop, sym, ap, ◌∙◌, append_assoc, append-nil}
use Rattle.std.proofs.lemmas.List.{at_drop_more, at_drop_all}
use Rattle.std.proofs.lemmas.List.Sums.{sum_by-drop_more}
use Rattle.bk_ilist.specs.Listing.{items}
use Rattle.pass_core.specs.Functions.{count_of}
use Rattle.suifvm_ir.specs.Lines.{line_text, insns_text, block_text, blocks_text, function_text, functions_text}
use Rattle.suifvm_ir.specs.Text.{register_text, arguments_text}

-- what stands behind two pieces
two_pieces : (out a b rest : List ℕ) → (out ++ a ++ b) ++ rest ≡ out ++ (a ++ b ++ rest)
two_pieces out a b rest = append_assoc (out ++ a) b rest ∙ append_assoc out a (b ++ rest) ∙ ap (λ x. out ++ x) (sym (append_assoc a b rest))

pub arguments_next : (out registers : List ℕ) (i r : ℕ) → r ≡ get_or registers i r → i < length registers → (out ++ 44 ∷ 32 ∷ [] ++ register_text r) ++ arguments_text (drop (i + 1) registers) ≡ out ++ arguments_text (drop i registers)
arguments_next out registers i r is within =
    two_pieces out (44 ∷ 32 ∷ []) (register_text r) (arguments_text (drop (i + 1) registers))
    ∙ ap (λ x. out ++ (44 ∷ 32 ∷ [] ++ register_text x ++ arguments_text (drop (i + 1) registers))) is
    ∙ ap (λ x. out ++ x) (sym (at_drop_more arguments_text registers i r within))

pub arguments_end : (out registers : List ℕ) (i : ℕ) → length registers ≤ i → out ++ arguments_text (drop i registers) ≡ out
arguments_end out registers i past = ap (λ x. out ++ x) (at_drop_all arguments_text registers i past) ∙ append-nil out

module _ {I : Type 0} (insn_text : I → List ℕ) where
  pub insns_next : (out : List ℕ) (n : ℕ) (i : I) (rest all : List (ℕ × I)) (id : ℕ) → all ≡ (id, i) ∷ rest → (out ++ line_text insn_text n i) ++ insns_text insn_text (n + 1) (items rest) ≡ out ++ insns_text insn_text n (items all)
  insns_next out n i rest all id is =
      append_assoc out (line_text insn_text n i) (insns_text insn_text (n + 1) (items rest))
      ∙ sym (ap (λ x. out ++ insns_text insn_text n (items x)) is)

  pub blocks_next : (out : List ℕ) (at n : ℕ) (x : List I) (blocks : List (List I)) → x ≡ get_or blocks at x → at < length blocks → (out ++ block_text insn_text at n x) ++ blocks_text insn_text (at + 1) (n + length x) (drop (at + 1) blocks) ≡ out ++ blocks_text insn_text at n (drop at blocks)
  blocks_next out at n x blocks is within =
      append_assoc out (block_text insn_text at n x) (blocks_text insn_text (at + 1) (n + length x) (drop (at + 1) blocks))
      ∙ ap (λ y. out ++ (block_text insn_text at n y ++ blocks_text insn_text (at + 1) (n + length y) (drop (at + 1) blocks))) is
      ∙ ap (λ y. out ++ y) (sym (at_drop_more (blocks_text insn_text at n) blocks at x within))

  pub blocks_end : (out : List ℕ) (at n : ℕ) (blocks : List (List I)) → length blocks ≤ at → out ++ blocks_text insn_text at n (drop at blocks) ≡ out
  blocks_end out at n blocks past = ap (λ x. out ++ x) (at_drop_all (blocks_text insn_text at n) blocks at past) ∙ append-nil out

  module _ {F : Type 0} (name_of : F → List ℕ) (blocks_of : F → List (List I)) where
    pub functions_next : (out : List ℕ) (at n : ℕ) (f : F) (functions : List F) → f ≡ get_or functions at f → at < length functions → (out ++ function_text insn_text (name_of f) n (blocks_of f)) ++ functions_text insn_text name_of blocks_of (n + count_of (blocks_of f)) (drop (at + 1) functions) ≡ out ++ functions_text insn_text name_of blocks_of n (drop at functions)
    functions_next out at n f functions is within =
        append_assoc out (function_text insn_text (name_of f) n (blocks_of f)) (functions_text insn_text name_of blocks_of (n + count_of (blocks_of f)) (drop (at + 1) functions))
        ∙ ap (λ y. out ++ (function_text insn_text (name_of y) n (blocks_of y) ++ functions_text insn_text name_of blocks_of (n + count_of (blocks_of y)) (drop (at + 1) functions))) is
        ∙ ap (λ y. out ++ y) (sym (at_drop_more (functions_text insn_text name_of blocks_of n) functions at f within))

    pub functions_end : (out : List ℕ) (at n : ℕ) (functions : List F) → length functions ≤ at → out ++ functions_text insn_text name_of blocks_of n (drop at functions) ≡ out
    functions_end out at n functions past = ap (λ x. out ++ x) (at_drop_all (functions_text insn_text name_of blocks_of n) functions at past) ∙ append-nil out

module _ {I : Type 0} where
  pub blocks_count : (at : ℕ) (x : List I) (blocks : List (List I)) → x ≡ get_or blocks at x → at < length blocks → count_of (drop at blocks) ≡ length x + count_of (drop (at + 1) blocks)
  blocks_count at x blocks is within =
      sum_by-drop_more (λ block. length block) blocks at x within ∙ sym (ap (λ y. length y + count_of (drop (at + 1) blocks)) is)

  pub count_end : (at : ℕ) (blocks : List (List I)) → length blocks ≤ at → count_of (drop at blocks) ≡ 0
  count_end at blocks past = at_drop_all count_of blocks at past
