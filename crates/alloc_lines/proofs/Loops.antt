-- One turn of each loop of the text, and its end.
use Rattle.std.proofs.Common.{◌≡◌, ℕ, ◌+◌, ◌<◌, ◌≤◌, List, [], ◌∷◌, ◌++◌, length, get_or, drop, sym, ap, ◌∙◌, append_assoc, append-nil}
use Rattle.std.specs.Prelude.{slice_index_or, flat_map}
use Rattle.std.proofs.lemmas.List.{at_drop_more, at_drop_all}
use Rattle.std.proofs.lemmas.List.Sums.{sum_by-drop_more}
use Rattle.bk_ilist.specs.Listing.{items}
use Rattle.pass_core.specs.Functions.{count_of}
use Rattle.temp_ir.specs.declared.insn.TempInsn.{TempInsn}
use Rattle.alloc_model.specs.declared.allocation.TempPlace.{TempPlace}
use Rattle.alloc_model.specs.declared.allocation.Transfer.{Transfer}
use Rattle.alloc_model.specs.declared.allocation.Event.{Event}
use Rattle.alloc_model.specs.declared.allocation.EdgeCode.{EdgeCode}
use Rattle.alloc_model.specs.declared.allocation.Allocation.{Allocation}
use Rattle.alloc_lines.specs.Text.{transfer_line, transfers_text, event_line, events_text, standing_text, standings_text, edge_lines, edges_text, insn_lines, insns_lines, block_lines, blocks_lines}

-- what was put, with the pieces that are left behind it
pieces_next : {A : Type 0} (piece : A → List ℕ) (out : List ℕ) (xs : List A) (i : ℕ) (x : A) → x ≡ get_or xs i x → i < length xs → (out ++ piece x) ++ flat_map piece (drop (i + 1) xs) ≡ out ++ flat_map piece (drop i xs)
pieces_next piece out xs i x is within =
    append_assoc out (piece x) (flat_map piece (drop (i + 1) xs))
    ∙ ap (λ y. out ++ (piece y ++ flat_map piece (drop (i + 1) xs))) is
    ∙ ap (λ y. out ++ y) (sym (at_drop_more (flat_map piece) xs i x within))

pieces_end : {A : Type 0} (piece : A → List ℕ) (out : List ℕ) (xs : List A) (i : ℕ) → length xs ≤ i → out ++ flat_map piece (drop i xs) ≡ out
pieces_end piece out xs i past = ap (λ y. out ++ y) (at_drop_all (flat_map piece) xs i past) ∙ append-nil out

pub transfers_next : (out : List ℕ) (xs : List Transfer) (i : ℕ) (x : Transfer) → x ≡ get_or xs i x → i < length xs → (out ++ transfer_line x) ++ transfers_text (drop (i + 1) xs) ≡ out ++ transfers_text (drop i xs)
transfers_next out xs i x is within = pieces_next transfer_line out xs i x is within

pub transfers_end : (out : List ℕ) (xs : List Transfer) (i : ℕ) → length xs ≤ i → out ++ transfers_text (drop i xs) ≡ out
transfers_end out xs i past = pieces_end transfer_line out xs i past

pub events_next : (out : List ℕ) (xs : List Event) (i : ℕ) (x : Event) → x ≡ get_or xs i x → i < length xs → (out ++ event_line x) ++ events_text (drop (i + 1) xs) ≡ out ++ events_text (drop i xs)
events_next out xs i x is within = pieces_next event_line out xs i x is within

pub events_end : (out : List ℕ) (xs : List Event) (i : ℕ) → length xs ≤ i → out ++ events_text (drop i xs) ≡ out
events_end out xs i past = pieces_end event_line out xs i past

pub standings_next : (out : List ℕ) (xs : List TempPlace) (i : ℕ) (x : TempPlace) → x ≡ get_or xs i x → i < length xs → (out ++ standing_text x) ++ standings_text (drop (i + 1) xs) ≡ out ++ standings_text (drop i xs)
standings_next out xs i x is within = pieces_next standing_text out xs i x is within

pub standings_end : (out : List ℕ) (xs : List TempPlace) (i : ℕ) → length xs ≤ i → out ++ standings_text (drop i xs) ≡ out
standings_end out xs i past = pieces_end standing_text out xs i past

pub edges_next : (out : List ℕ) (xs : List EdgeCode) (i : ℕ) (x : EdgeCode) → x ≡ get_or xs i x → i < length xs → (out ++ edge_lines x) ++ edges_text (drop (i + 1) xs) ≡ out ++ edges_text (drop i xs)
edges_next out xs i x is within = pieces_next edge_lines out xs i x is within

pub edges_end : (out : List ℕ) (xs : List EdgeCode) (i : ℕ) → length xs ≤ i → out ++ edges_text (drop i xs) ≡ out
edges_end out xs i past = pieces_end edge_lines out xs i past

pub insns_next : (out : List ℕ) (first at : ℕ) (transfers : List (List Transfer)) (registers : List (List ℕ)) (i : TempInsn) (rest all : List (ℕ × TempInsn)) (id : ℕ) → all ≡ (id, i) ∷ rest → (out ++ insn_lines (first + at) (slice_index_or transfers at []) (slice_index_or registers at []) i) ++ insns_lines first (at + 1) transfers registers (items rest) ≡ out ++ insns_lines first at transfers registers (items all)
insns_next out first at transfers registers i rest all id is =
    append_assoc out (insn_lines (first + at) (slice_index_or transfers at []) (slice_index_or registers at []) i) (insns_lines first (at + 1) transfers registers (items rest))
    ∙ sym (ap (λ x. out ++ insns_lines first at transfers registers (items x)) is)

pub blocks_next : (a : Allocation) (out : List ℕ) (first at block : ℕ) (x : List TempInsn) (blocks : List (List TempInsn)) → x ≡ get_or blocks block x → block < length blocks → (out ++ block_lines first at block a x) ++ blocks_lines first (at + length x) (block + 1) a (drop (block + 1) blocks) ≡ out ++ blocks_lines first at block a (drop block blocks)
blocks_next a out first at block x blocks is within =
    append_assoc out (block_lines first at block a x) (blocks_lines first (at + length x) (block + 1) a (drop (block + 1) blocks))
    ∙ ap (λ y. out ++ (block_lines first at block a y ++ blocks_lines first (at + length y) (block + 1) a (drop (block + 1) blocks))) is
    ∙ ap (λ y. out ++ y) (sym (at_drop_more (blocks_lines first at block a) blocks block x within))

pub blocks_end : (a : Allocation) (out : List ℕ) (first at block : ℕ) (blocks : List (List TempInsn)) → length blocks ≤ block → out ++ blocks_lines first at block a (drop block blocks) ≡ out
blocks_end a out first at block blocks past = ap (λ x. out ++ x) (at_drop_all (blocks_lines first at block a) blocks block past) ∙ append-nil out

pub blocks_count : (at : ℕ) (x : List TempInsn) (blocks : List (List TempInsn)) → x ≡ get_or blocks at x → at < length blocks → count_of (drop at blocks) ≡ length x + count_of (drop (at + 1) blocks)
blocks_count at x blocks is within =
    sum_by-drop_more (λ block. length block) blocks at x within ∙ sym (ap (λ y. length y + count_of (drop (at + 1) blocks)) is)

pub count_end : (at : ℕ) (blocks : List (List TempInsn)) → length blocks ≤ at → count_of (drop at blocks) ≡ 0
count_end at blocks past = at_drop_all count_of blocks at past
