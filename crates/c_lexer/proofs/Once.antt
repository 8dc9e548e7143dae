-- A text has at most one cutting.
use Rattle.std.proofs.Common.{◌≡◌, ℕ, ◌+◌, ◌<◌, ◌≤◌, List, [], ◌∷◌, length, take, drop, Option, Some, refl, sym, ap, ap₂, ◌∙◌, subst, arith, length-drop}
use Rattle.c_lexer.specs.declared.piece.Piece.{Piece}
use Rattle.c_lexer.specs.declared.piece.Piece.TheVariants as p
use Rattle.c_lexer.specs.Pieces.{piece_of, Cuts, Lexeme, lexeme, Pieces, Toks, Tokens, FaultAt}
use Rattle.c_lexer.proofs.Options.{not_both}
use Rattle.c_lexer.proofs.Found.{not_empty}

pub unique : (text : List ℕ) (at n m : ℕ) (x y : Piece) → Cuts text at n x → Cuts text at m y → (n ≡ m) × (x ≡ y)
unique text at n m x y c d =
    let rest : List ℕ = drop at text in
    let a = c.begins_with.piece in
    let b = d.begins_with.piece in
    let f : n < m → ⊥ = λ lt. not_both (piece_of (take m rest)) y b.is (a.longest m lt b.within) in
    let g : m < n → ⊥ = λ lt. not_both (piece_of (take n rest)) x a.is (b.longest n lt a.within) in
    let e : n ≡ m = omega (arith, f, g) in
    let is : piece_of (take m rest) ≡ Some x = subst (λ k. piece_of (take k rest) ≡ Some x) e a.is in
    (e, same (sym is ∙ b.is))
  where
    same : ◌≡◌ {A = Option Piece} (Some x) (Some y) → x ≡ y
    same q = cc

-- a piece has bytes, and they are within the text
pub cuts_some : (text : List ℕ) (at n : ℕ) (x : Piece) → Cuts text at n x → (0 < n) × (at + n ≤ length text)
cuts_some text at n x c =
    let some = not_empty _ (drop at text) n x c.begins_with in
    let within = c.begins_with.piece.within in
    (some, omega (arith, length-drop at text))

-- ---- two cuttings from one offset on

-- what stands behind a piece at `at`
abbrev Behind : List ℕ → ℕ → List Lexeme → ℕ → Piece → ℕ → Type 0
Behind text at us to p.Blank n = Pieces text (at + n) us to
Behind text at us to (p.Token kind) n = (vs : List Lexeme) × (us ≡ lexeme text (record { kind = kind; at = at; len = n }) ∷ vs) × Pieces text (at + n) vs to

behind : {text : List ℕ} {at to : ℕ} {us : List Lexeme} → Pieces text at us to → (n : ℕ) (x : Piece) → Cuts text at n x → (at ≡ to → ⊥) → Behind text at us to x n
behind Pieces.none n x c other = absurd (other refl)
behind {text = text} {at = at} {to = to} (Pieces.blank m ts c' d) n x c other =
    let u = unique text at m n p.Blank x c' c in
    subst (λ y. Behind text at ts to y n) u.1 (subst (λ k. Pieces text (at + k) ts to) u.0 d)
behind {text = text} {at = at} {to = to} (Pieces.token m kind ts c' d) n x c other =
    let u = unique text at m n (p.Token kind) x c' c in
    let us : List Lexeme = lexeme text (record { kind = kind; at = at; len = m }) ∷ ts in
    let t : Behind text at us to (p.Token kind) m = (ts, refl, d) in
    subst (λ y. Behind text at us to y n) u.1 (subst (λ k. Behind text at us to (p.Token kind) k) u.0 t)

-- no piece begins there
abbrev pub Stops : List ℕ → ℕ → Type 0
Stops text at = (n : ℕ) (x : Piece) → Cuts text at n x → ⊥

pub nothing_left : {text : List ℕ} {at to : ℕ} {us : List Lexeme} → Pieces text at us to → Stops text at → (at ≡ to) × ([] ≡ us)
nothing_left Pieces.none stops = (refl, refl)
nothing_left (Pieces.blank n ts c d) stops = absurd (stops n p.Blank c)
nothing_left (Pieces.token n kind ts c d) stops = absurd (stops n (p.Token kind) c)

same_end : {text : List ℕ} {at a : ℕ} {ts : List Lexeme} → Pieces text at ts a → Stops text a → (us : List Lexeme) (b : ℕ) → Pieces text at us b → Stops text b → (a ≡ b) × (ts ≡ us)
same_end Pieces.none stop us b d stop' = nothing_left d stop
same_end {text = text} (Pieces.blank n ts c d) stop us b d' stop' =
    same_end d stop us b (behind d' n p.Blank c (λ e. stop' n p.Blank (subst (λ i. Cuts text i n p.Blank) e c))) stop'
same_end {text = text} {at = at} (Pieces.token n kind ts c d) stop us b d' stop' =
    let w = behind d' n (p.Token kind) c (λ e. stop' n (p.Token kind) (subst (λ i. Cuts text i n (p.Token kind)) e c)) in
    let u = same_end d stop w.0 b w.2 stop' in
    (u.0, ap (λ vs. lexeme text (record { kind = kind; at = at; len = n }) ∷ vs) u.1 ∙ sym w.1)

pub end_stops : (text : List ℕ) → Stops text (length text)
end_stops text n x c = let w = cuts_some text (length text) n x c in omega arith

-- A text has at most one list of tokens.
pub tokens_once : (text : List ℕ) (a b : Toks) → Tokens text a → Tokens text b → a ≡ b
tokens_once text a b s t =
    let same = same_end s.pieces (end_stops text) b.items (length text) t.pieces (end_stops text) in
    let items : a.items ≡ b.items = same.1 in
    let size : a.size ≡ b.size = s.size ∙ sym t.size in
    let toks : List Lexeme → ℕ → Toks = λ items size. record { items = items; size = size } in
    ap₂ toks items size

-- A text has at most one first fault place.
pub fault_once : (text : List ℕ) (a b : ℕ) → FaultAt text a → FaultAt text b → a ≡ b
fault_once text a b s t = (same_end s.pieces s.stuck.none t.tokens b t.pieces t.stuck.none).0

-- A text that has tokens has no fault place.
pub tokens_or_fault : (text : List ℕ) (a : Toks) (at : ℕ) → Tokens text a → FaultAt text at → ⊥
tokens_or_fault text a at s t =
    let same = same_end s.pieces (end_stops text) t.tokens at t.pieces t.stuck.none in
    let e : length text ≡ at = same.0 in
    let lt : at < length text = t.stuck.some in
    omega arith
