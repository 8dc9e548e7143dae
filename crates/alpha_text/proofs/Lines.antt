-- The lines of a text, one after another.
use Rattle.std.proofs.Common.{◌≡◌, ℕ, suc, ◌+◌, ◌-◌, ◌<◌, Bool, true, false, eqb, List, [], ◌∷◌, length, get_or, take, drop, refl, sym, ap, ◌∙◌, add-one, arith}
use Rattle.std.specs.Prelude.{if◌then◌else◌}
use Rattle.std.proofs.lemmas.Bool.{eq-eqb, eqb-true}
use Rattle.std.proofs.lemmas.Bool.Decides.{nat_tests}
use Rattle.alpha_lines.proofs.Parts.{take_rest}
use Rattle.alpha_text.specs.Texts.{ended_lines}
use Rattle.alpha_text.specs.Wrong.{byte_in_front, lines_of, is_ended}

abbrev pick_line : Bool → ℕ → List ℕ → List (List ℕ) → List (List ℕ)
pick_line t b s lines = if t then [] ∷ lines else byte_in_front b lines

pub line_at : (s : List ℕ) (i : ℕ) → ((k : ℕ) → k < i → get_or s k 0 ≡ 10 → ⊥) → i < length s → get_or s i 0 ≡ 10 → lines_of s ≡ take i s ∷ lines_of (drop (suc i) s)
line_at [] i before within here = absurd (omega arith)
line_at (b ∷ s) Prim.Native.Nat.zero before within here = let same : eqb b 10 ≡ true = eq-eqb b 10 here in rw same refl
line_at (b ∷ s) (suc i) before within here =
    let apart : b ≡ 10 → ⊥ = before 0 (omega arith) in
    let differs : eqb b 10 ≡ false = grind (arith, nat_tests) in
    rw (differs, line_at s i (λ k l. before (suc k) (omega arith)) (omega arith) here) refl

pub line_none : (s : List ℕ) → ((k : ℕ) → k < length s → get_or s k 0 ≡ 10 → ⊥) → lines_of s ≡ []
line_none [] before = refl
line_none (b ∷ s) before =
    let apart : b ≡ 10 → ⊥ = before 0 (omega arith) in
    let differs : eqb b 10 ≡ false = grind (arith, nat_tests) in
    rw (differs, line_none s (λ k l. before (suc k) (omega arith))) refl

pub ended_behind : (s : List ℕ) (i : ℕ) → i < length s → get_or s i 0 ≡ 10 → is_ended s ≡ is_ended (drop (suc i) s)
ended_behind [] i within here = absurd (omega arith)
ended_behind (b ∷ []) Prim.Native.Nat.zero within here = eq-eqb b 10 here
ended_behind (b ∷ []) (suc i) within here = absurd (omega arith)
ended_behind (b ∷ c ∷ s) Prim.Native.Nat.zero within here = refl
ended_behind (b ∷ c ∷ s) (suc i) within here = ended_behind (c ∷ s) i (omega arith) here

-- the same, in the words of a cut of the slice
pub split_at : (s : List ℕ) (i : ℕ) → ((k : ℕ) → k < i → get_or s k 0 ≡ 10 → ⊥) → i < length s → get_or s i 0 ≡ 10 → lines_of s ≡ take i s ∷ lines_of (take (length s - (i + 1)) (drop (i + 1) s))
split_at s i before within here = rw (add-one, take_rest s (suc i)) (line_at s i before within here)

pub split_ended : (s : List ℕ) (i : ℕ) → i < length s → get_or s i 0 ≡ 10 → is_ended s ≡ is_ended (take (length s - (i + 1)) (drop (i + 1) s))
split_ended s i within here = rw (add-one, take_rest s (suc i)) (ended_behind s i within here)

-- where no line is left, the text is ended exactly if no byte is left
no_longer : (b : ℕ) (t : Bool) (lines : List (List ℕ)) (s : List ℕ) → pick_line t b s lines ≡ [] → (t ≡ false) × (lines ≡ [])
no_longer b true lines s e = absurd (cc)
no_longer b false [] s e = (refl, refl)
no_longer b false (l ∷ lines) s e = absurd (cc)

pub ended_none : (s : List ℕ) → lines_of s ≡ [] → is_ended s ≡ true → s ≡ []
ended_none [] none end = refl
ended_none (b ∷ []) none end = let h = no_longer b (eqb b 10) (lines_of []) [] none in let clash : ◌≡◌ {A = Bool} false true = sym h.0 ∙ end in absurd (cc)
ended_none (b ∷ c ∷ s) none end =
    let h = no_longer b (eqb b 10) (lines_of (c ∷ s)) (c ∷ s) none in
    let empty = ended_none (c ∷ s) h.1 end in
    absurd (cc)

-- the lines of a text that is ended are the text
joined : (b : ℕ) (lines : List (List ℕ)) (s : List ℕ) → ended_lines lines ≡ s → (lines ≡ [] → ⊥) → ended_lines (byte_in_front b lines) ≡ b ∷ s
joined b [] s e some = absurd (some refl)
joined b (l ∷ lines) s e some = ap (λ t. b ∷ t) e

first_joined : (b : ℕ) (s : List ℕ) (t : Bool) → eqb b 10 ≡ t → ended_lines (lines_of s) ≡ s → (t ≡ false → lines_of s ≡ [] → ⊥) → ended_lines (pick_line t b s (lines_of s)) ≡ b ∷ s
first_joined b s true is e some = let feed : b ≡ 10 = eqb-true b 10 is in rw feed (ap (λ u. 10 ∷ u) e)
first_joined b s false is e some = joined b (lines_of s) s e (some refl)

pub lines_joined : (s : List ℕ) → is_ended s ≡ true → ended_lines (lines_of s) ≡ s
lines_joined [] end = refl
lines_joined (b ∷ []) end = first_joined b [] (eqb b 10) refl refl (λ is none. let clash : ◌≡◌ {A = Bool} false true = sym is ∙ end in absurd (cc))
lines_joined (b ∷ c ∷ s) end = first_joined b (c ∷ s) (eqb b 10) refl (lines_joined (c ∷ s) end) (λ is none. let empty = ended_none (c ∷ s) none end in absurd (cc))
