-- What a line was read as is exactly what it is the line of.
use Rattle.std.proofs.Common.{◌≡◌, ℕ, ◌^◌, ◌<◌, List, [], ◌∷◌, ◌++◌, refl, append_assoc, append-nil, Option, Some, None, Ok, Err, Result, sym, ap, ◌∙◌}
use Rattle.std.specs.Prelude.{IfOk, IfSome, IsSomeAnd, option_map}
use Rattle.std.specs.List.{All}
use Rattle.alpha_items.specs.declared.item.AsmItem.{AsmItem}
use Rattle.alpha_items.specs.declared.item.Fix.{Fix}
use Rattle.alpha_lines.specs.Lines.{HasLine, item_line, data_line, hex_line, fix_line}
use Rattle.alpha_lines.specs.model.Readers.{item_of}
use Rattle.alpha_lines.specs.model.Data.{data_of, fix_of, hex_value, hex_pair, with_first, behind_byte, hex_first, hex_of, hex_line_of}
use Rattle.alpha_lines.proofs.Items.{item_sound, item_complete}
use Rattle.alpha_lines.proofs.DataLines.{data_sound, data_complete, fix_sound, fix_complete, hex_line_sound, hex_line_complete}

item_at : (line : List ℕ) (o : Option AsmItem) → o ≡ item_of line → IfSome o (λ i. HasLine i × (line ≡ item_line i))
item_at line None e = tt
item_at line (Some i) e = item_sound line i (sym e)

pub item_found : {E : Type 0} (line : List ℕ) (r : Result (Option AsmItem) E) → IfOk r (λ o. o ≡ item_of line) → IfOk r (λ o. IfSome o (λ i. HasLine i × (line ≡ item_line i)))
item_found line (Ok o) e = item_at line o e
item_found line (Err x) e = tt

pub item_only : {E : Type 0} (line : List ℕ) (r : Result (Option AsmItem) E) → IfOk r (λ o. o ≡ item_of line) → (i : AsmItem) → HasLine i → line ≡ item_line i → IfOk r (λ o. o ≡ Some i)
item_only line (Ok o) e i h same = e ∙ ap item_of same ∙ item_complete i h
item_only line (Err x) e i h same = tt

pub data_found : (line : List ℕ) (o : Option ℕ) → o ≡ data_of line → IfSome o (λ n. line ≡ data_line n)
data_found line None e = tt
data_found line (Some n) e = (data_sound line n (sym e)).1

pub data_only : (line : List ℕ) (o : Option ℕ) → o ≡ data_of line → (n : ℕ) → n < 2 ^ 64 → line ≡ data_line n → o ≡ Some n
data_only line o e n small same = e ∙ ap data_of same ∙ data_complete n small

pub fix_found : (line : List ℕ) (o : Option Fix) → o ≡ fix_of line → IfSome o (λ fix. line ≡ fix_line fix)
fix_found line None e = tt
fix_found line (Some fix) e = (fix_sound line fix (sym e)).2

pub fix_only : (line : List ℕ) (o : Option Fix) → o ≡ fix_of line → (fix : Fix) → fix.at < 2 ^ 32 → fix.offset < 2 ^ 32 → line ≡ fix_line fix → o ≡ Some fix
fix_only line o e fix a b same = e ∙ ap fix_of same ∙ fix_complete fix a b

-- the step of one byte more

first_read : (s behind : List ℕ) (x : ℕ) → hex_first s ≡ Some (x, behind) → hex_of s ≡ with_first (Some x) (hex_of behind)
first_read [] behind x e = absurd (cc)
first_read (a ∷ []) behind x e = absurd (cc)
first_read (a ∷ b ∷ s) behind x e = by (hex_pair (hex_value a) (hex_value b)) e
  where
    by : (o : Option ℕ) → behind_byte s o ≡ Some (x, behind) → with_first o (hex_of s) ≡ with_first (Some x) (hex_of behind)
    by None h = absurd (cc)
    by (Some y) h =
        let same : ◌≡◌ {A = ℕ × List ℕ} (y, s) (x, behind) = cc in
        rw (ap (λ q. q.0) same, ap (λ q. q.1) same) refl

joined : (done : List ℕ) (x : ℕ) (r : Option (List ℕ)) → option_map (λ t. done ++ t) (with_first (Some x) r) ≡ option_map (λ t. (done ++ x ∷ []) ++ t) r
joined done x None = refl
joined done x (Some t) = ap Some (sym (append_assoc done (x ∷ []) t))

pub bytes_more : (whole : Option (List ℕ)) (done rest behind : List ℕ) (x : ℕ) → hex_first rest ≡ Some (x, behind) → whole ≡ option_map (λ t. done ++ t) (hex_of rest) → whole ≡ option_map (λ t. (done ++ x ∷ []) ++ t) (hex_of behind)
bytes_more whole done rest behind x found e = e ∙ (ap (option_map (λ t. done ++ t)) (first_read rest behind x found) ∙ joined done x (hex_of behind))

no_first : (s : List ℕ) → hex_first s ≡ None → (s ≡ [] → ⊥) → hex_of s ≡ None
no_first [] e some = absurd (some refl)
no_first (a ∷ []) e some = refl
no_first (a ∷ b ∷ s) e some = by (hex_pair (hex_value a) (hex_value b)) e
  where
    by : (o : Option ℕ) → behind_byte s o ≡ None → with_first o (hex_of s) ≡ None
    by None h = refl
    by (Some y) h = absurd (cc)

pub bytes_none : (whole : Option (List ℕ)) (done rest : List ℕ) → hex_first rest ≡ None → (rest ≡ [] → ⊥) → whole ≡ option_map (λ t. done ++ t) (hex_of rest) → None ≡ whole
bytes_none whole done rest none some e = sym (e ∙ ap (option_map (λ t. done ++ t)) (no_first rest none some))

pub bytes_all : (whole : Option (List ℕ)) (done rest : List ℕ) → rest ≡ [] → whole ≡ option_map (λ t. done ++ t) (hex_of rest) → Some done ≡ whole
bytes_all whole done rest none e = sym (e ∙ rw none (ap Some (append-nil done)))

bytes_at : (line : List ℕ) (o : Option (List ℕ)) → o ≡ hex_line_of line → IfSome o (λ bytes. line ≡ hex_line bytes)
bytes_at line None e = tt
bytes_at line (Some bytes) e = (hex_line_sound line bytes (sym e)).1

bytes_only_at : {A : Type 0} (f : A → List ℕ) (line : List ℕ) (o : Option A) → option_map f o ≡ hex_line_of line → (bytes : List ℕ) → All (λ b. b < 256) bytes → line ≡ hex_line bytes → IsSomeAnd o (λ v. f v ≡ bytes)
bytes_only_at f line None e bytes small same =
    let none : ◌≡◌ {A = Option (List ℕ)} None (Some bytes) = e ∙ ap hex_line_of same ∙ hex_line_complete bytes small in
    absurd (cc)
bytes_only_at f line (Some v) e bytes small same =
    let some : ◌≡◌ {A = Option (List ℕ)} (Some (f v)) (Some bytes) = e ∙ ap hex_line_of same ∙ hex_line_complete bytes small in
    cc

bytes_found_at : {A : Type 0} (f : A → List ℕ) (line : List ℕ) (o : Option A) → option_map f o ≡ hex_line_of line → IfSome o (λ v. All (λ b. b < 256) (f v) × (line ≡ hex_line (f v)))
bytes_found_at f line None e = tt
bytes_found_at f line (Some v) e = hex_line_sound line (f v) (sym e)

pub hex_found : {A E : Type 0} (f : A → List ℕ) (line : List ℕ) (r : Result (Option A) E) → IfOk r (λ o. option_map f o ≡ hex_line_of line) → IfOk r (λ o. IfSome o (λ v. All (λ b. b < 256) (f v) × (line ≡ hex_line (f v))))
hex_found f line (Ok o) e = bytes_found_at f line o e
hex_found f line (Err x) e = tt

pub hex_only : {A E : Type 0} (f : A → List ℕ) (line : List ℕ) (r : Result (Option A) E) → IfOk r (λ o. option_map f o ≡ hex_line_of line) → (bytes : List ℕ) → All (λ b. b < 256) bytes → line ≡ hex_line bytes → IfOk r (λ o. IsSomeAnd o (λ v. f v ≡ bytes))
hex_only f line (Ok o) e bytes small same = bytes_only_at f line o e bytes small same
hex_only f line (Err x) e bytes small same = tt
