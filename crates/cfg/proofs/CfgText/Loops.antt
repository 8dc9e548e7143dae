-- One turn of each loop of the text, and its end.
use Rattle.std.proofs.Common.{◌≡◌, ℕ, suc, ◌+◌, ◌^◌, ◌<◌, ◌≤◌, List, [], ◌∷◌, ◌++◌, length, get_or, drop, refl, sym, ap, ◌∙◌, append_assoc, append-nil, arith}
use Rattle.std.proofs.lemmas.List.{at_drop_more, at_drop_all}
use Rattle.suifvm_ir.specs.declared.insn.VmInsn.{VmInsn}
use Rattle.suifvm_ir.specs.Insns.{targets_of, flows_on_of}
use Rattle.suifvm_ir.specs.Programs.{VmFunction}
use Rattle.suifvm_ir.specs.Lines.{block_name}
use Rattle.cfg.specs.Edges.{successors_from}
use Rattle.cfg.specs.cfg_text.Text.{followers_text, block_line, lines_text, function_graph, graphs_text}

-- what stands behind two pieces
two_pieces : (out a b rest : List ℕ) → (out ++ a ++ b) ++ rest ≡ out ++ (a ++ b ++ rest)
two_pieces out a b rest = append_assoc (out ++ a) b rest ∙ append_assoc out a (b ++ rest) ∙ ap (λ x. out ++ x) (sym (append_assoc a b rest))

pub followers_next : (out blocks : List ℕ) (i b : ℕ) → b ≡ get_or blocks i b → i < length blocks → (out ++ 32 ∷ [] ++ block_name b) ++ followers_text (drop (i + 1) blocks) ≡ out ++ followers_text (drop i blocks)
followers_next out blocks i b is within =
    two_pieces out (32 ∷ []) (block_name b) (followers_text (drop (i + 1) blocks))
    ∙ ap (λ x. out ++ (32 ∷ [] ++ block_name x ++ followers_text (drop (i + 1) blocks))) is
    ∙ ap (λ x. out ++ x) (sym (at_drop_more followers_text blocks i b within))

pub followers_end : (out blocks : List ℕ) (i : ℕ) → length blocks ≤ i → out ++ followers_text (drop i blocks) ≡ out
followers_end out blocks i past = ap (λ x. out ++ x) (at_drop_all followers_text blocks i past) ∙ append-nil out

pub lines_next : (out : List ℕ) (at : ℕ) (x : List ℕ) (rows : List (List ℕ)) → x ≡ get_or rows at x → at < length rows → (out ++ block_line at x) ++ lines_text (at + 1) (drop (at + 1) rows) ≡ out ++ lines_text at (drop at rows)
lines_next out at x rows is within =
    append_assoc out (block_line at x) (lines_text (at + 1) (drop (at + 1) rows))
    ∙ ap (λ y. out ++ (block_line at y ++ lines_text (at + 1) (drop (at + 1) rows))) is
    ∙ ap (λ y. out ++ y) (sym (at_drop_more (lines_text at) rows at x within))

pub lines_end : (out : List ℕ) (at : ℕ) (rows : List (List ℕ)) → length rows ≤ at → out ++ lines_text at (drop at rows) ≡ out
lines_end out at rows past = ap (λ x. out ++ x) (at_drop_all (lines_text at) rows at past) ∙ append-nil out

pub graphs_next : (out : List ℕ) (at : ℕ) (f : VmFunction) (functions : List VmFunction) → f ≡ get_or functions at f → at < length functions → (out ++ function_graph f) ++ graphs_text (drop (at + 1) functions) ≡ out ++ graphs_text (drop at functions)
graphs_next out at f functions is within =
    append_assoc out (function_graph f) (graphs_text (drop (at + 1) functions))
    ∙ ap (λ y. out ++ (function_graph y ++ graphs_text (drop (at + 1) functions))) is
    ∙ ap (λ y. out ++ y) (sym (at_drop_more graphs_text functions at f within))

pub graphs_end : (out : List ℕ) (at : ℕ) (functions : List VmFunction) → length functions ≤ at → out ++ graphs_text (drop at functions) ≡ out
graphs_end out at functions past = ap (λ x. out ++ x) (at_drop_all graphs_text functions at past) ∙ append-nil out

-- there are as many lines as blocks, and so few
lines_count : (number : ℕ) (blocks : List (List VmInsn)) → length (successors_from targets_of flows_on_of number blocks) ≡ length blocks
lines_count number [] = refl
lines_count number (block ∷ blocks) = ap suc (lines_count (suc number) blocks)

pub few_lines : (f : VmFunction) (rows succ : List (List ℕ)) → rows ≡ succ → succ ≡ successors_from targets_of flows_on_of 0 f.blocks → length rows ≤ 2 ^ 32
few_lines f rows succ same is = omega (arith, f.few_blocks, lines_count 0 f.blocks, ap length is, ap length same)
