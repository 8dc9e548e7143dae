-- The parts that are printed are the text.
use Rattle.std.proofs.Common.{◌≡◌, ℕ, List, [], ◌∷◌, ◌++◌, length, map, ap, ◌∙◌, append_assoc}
use Rattle.std.specs.Prelude.{flat_map, codes}
use Rattle.std.proofs.lemmas.List.Concat.{flat_map-append}
use Rattle.std.proofs.lemmas.List.Folds.{flat_map-map}
use Rattle.alpha_items.specs.declared.item.AsmItem.{AsmItem}
use Rattle.alpha_items.specs.declared.item.Fix.{Fix}
use Rattle.alpha_lines.specs.Lines.{head_line, item_line, data_line, fix_line}
use Rattle.alpha_text.specs.Texts.{with_line_feed, ended_lines, hex_lines, asm_text}

regrouped : (t h a b n c d : List ℕ) → t ++ (h ++ (a ++ ((b ++ n) ++ (c ++ d)))) ≡ (((((t ++ h) ++ a) ++ b) ++ n) ++ c) ++ d
regrouped t h a b n c d = simp append_assoc

pub asm_pushed : (t : List ℕ) (items : List AsmItem) (bytes : List ℕ) (fixes : List Fix)
    → t ++ asm_text (record { items = items; bytes = bytes; fixes = fixes }) ≡ ((((t ++ codes ".msa 1\n") ++ flat_map (λ i. with_line_feed (item_line i)) items) ++ data_line (length bytes)) ++ 10 ∷ []) ++ ended_lines (hex_lines bytes) ++ flat_map (λ fix. with_line_feed (fix_line fix)) fixes
unfolding asm_text
asm_pushed t items bytes fixes =
    let rest : List (List ℕ) = data_line (length bytes) ∷ (hex_lines bytes ++ map fix_line fixes) in
    let e1 = flat_map-append with_line_feed (map item_line items) rest in
    let e2 = flat_map-map with_line_feed item_line items in
    let e3 = flat_map-append with_line_feed (hex_lines bytes) (map fix_line fixes) in
    let e4 = flat_map-map with_line_feed fix_line fixes in
    let front = flat_map (λ i. with_line_feed (item_line i)) items in
    ap (λ u. t ++ (with_line_feed head_line ++ u)) (e1 ∙ (ap (λ u. u ++ flat_map with_line_feed rest) e2 ∙ ap (λ u. front ++ (with_line_feed (data_line (length bytes)) ++ u)) (e3 ∙ ap (λ u. ended_lines (hex_lines bytes) ++ u) e4)))
    ∙ regrouped t (with_line_feed head_line) front (data_line (length bytes)) (10 ∷ []) (ended_lines (hex_lines bytes)) (flat_map (λ fix. with_line_feed (fix_line fix)) fixes)
