-- The cut of a text at its first mark.
use Rattle.std.proofs.Common.{◌≡◌, ℕ, ◌+◌, ◌-◌, ◌<◌, suc, Bool, true, false, eqb, List, [], ◌∷◌, ◌++◌, length, get_or, take, drop, Option, Some, None, refl, ap, arith}
use Rattle.std.specs.Prelude.{option_map, if◌then◌else◌}
use Rattle.std.proofs.lemmas.Bool.{eq-eqb, eqb-true}
use Rattle.std.proofs.lemmas.Bool.Decides.{nat_tests}
use Rattle.std.proofs.lemmas.List.{take_all, length-drop}
use Rattle.alpha_lines.specs.model.Parts.{cut}

-- a text without the byte
abbrev pub Lacks : ℕ → List ℕ → Type 0
Lacks mark [] = Unit {0}
Lacks mark (b ∷ s) = (eqb b mark ≡ false) × Lacks mark s

pub cut_at : (mark : ℕ) (s : List ℕ) (i : ℕ) → ((k : ℕ) → k < i → get_or s k 0 ≡ mark → ⊥) → i < length s → get_or s i 0 ≡ mark → cut mark s ≡ Some (take i s, drop (suc i) s)
cut_at mark [] i before within here = absurd (omega arith)
cut_at mark (b ∷ s) Prim.Native.Nat.zero before within here = let same : eqb b mark ≡ true = eq-eqb b mark here in rw same refl
cut_at mark (b ∷ s) (suc i) before within here =
    let apart : b ≡ mark → ⊥ = before 0 (omega arith) in
    let differs : eqb b mark ≡ false = grind (arith, nat_tests) in
    rw (differs, cut_at mark s i (λ k l. before (suc k) (omega arith)) (omega arith) here) refl

pub cut_none : (mark : ℕ) (s : List ℕ) → ((k : ℕ) → k < length s → get_or s k 0 ≡ mark → ⊥) → cut mark s ≡ None
cut_none mark [] before = refl
cut_none mark (b ∷ s) before =
    let apart : b ≡ mark → ⊥ = before 0 (omega arith) in
    let differs : eqb b mark ≡ false = grind (arith, nat_tests) in
    rw (differs, cut_none mark s (λ k l. before (suc k) (omega arith))) refl

pub cut_front : (mark : ℕ) (a b : List ℕ) → Lacks mark a → cut mark (a ++ mark ∷ b) ≡ Some (a, b)
cut_front mark [] b lacks = let same : eqb mark mark ≡ true = eq-eqb mark mark refl in rw same refl
cut_front mark (x ∷ a) b lacks = rw (lacks.0, cut_front mark a b lacks.1) refl

pub take_rest : (s : List ℕ) (k : ℕ) → take (length s - k) (drop k s) ≡ drop k s
take_rest s k = take_all (length s - k) (drop k s) (omega (arith, length-drop k s))

behind : (mark x : ℕ) (s a b : List ℕ) (r : Option (List ℕ × List ℕ)) → ((f g : List ℕ) → r ≡ Some (f, g) → s ≡ f ++ mark ∷ g) → option_map {U = List ℕ × List ℕ} (λ p. (x ∷ p.0, p.1)) r ≡ Some (a, b) → x ∷ s ≡ a ++ mark ∷ b
behind mark x s a b None on h = absurd (cc)
behind mark x s a b (Some p) on h =
    let rest : s ≡ p.0 ++ mark ∷ p.1 = on p.0 p.1 refl in
    let whole : ◌≡◌ {A = List ℕ × List ℕ} (x ∷ p.0, p.1) (a, b) = cc in
    let front : x ∷ p.0 ≡ a = ap (λ q. q.0) whole in
    let back : p.1 ≡ b = ap (λ q. q.1) whole in
    rw (← front, ← back) (ap (λ t. x ∷ t) rest)

abbrev pick : ℕ → ℕ → List ℕ → Bool → Option (List ℕ × List ℕ)
pick mark x s t = if t then Some ([], s) else option_map (λ p. (x ∷ p.0, p.1)) (cut mark s)

chosen : (mark x : ℕ) (s a b : List ℕ) (t : Bool) → eqb x mark ≡ t → ((f g : List ℕ) → cut mark s ≡ Some (f, g) → s ≡ f ++ mark ∷ g) → pick mark x s t ≡ Some (a, b) → x ∷ s ≡ a ++ mark ∷ b
chosen mark x s a b true is on h =
    let same : x ≡ mark = eqb-true x mark is in
    let whole : ◌≡◌ {A = List ℕ × List ℕ} ([], s) (a, b) = cc in
    let front : [] ≡ a = ap (λ q. q.0) whole in
    let back : s ≡ b = ap (λ q. q.1) whole in
    rw (← front, ← back, same) refl
chosen mark x s a b false is on h = behind mark x s a b (cut mark s) on h

pub cut_sound : (mark : ℕ) (s a b : List ℕ) → cut mark s ≡ Some (a, b) → s ≡ a ++ mark ∷ b
cut_sound mark [] a b e = absurd (cc)
cut_sound mark (x ∷ s) a b e = chosen mark x s a b (eqb x mark) refl (cut_sound mark s) e
