-- Where a list of tokens is refused.
use Rattle.std.proofs.Common.{◌≡◌, ℕ, zero, suc, ◌≤◌, ◌<◌, List, [], ◌∷◌, ◌++◌, length, Result, Ok, Err, ap, ◌∙◌, subst, append_assoc, length-append, arith}
use Rattle.c_lexer.specs.Pieces.{Lexeme, Toks}
use Rattle.c_tree.specs.declared.declarations.External.{External}
use Rattle.c_tree.specs.declared.declarations.TranslationUnit.{TranslationUnit}
use Rattle.c_parser_grammar.specs.Tokens.{TypeNames}
use Rattle.c_parser_grammar.specs.Units.{Reads}
use Rattle.c_parser_grammar.specs.ParseUnits.{external, externals_behind, externals_from, unit_of, unit}
use Rattle.c_parser_grammar.specs.Refused.{CanGoOn, RefusedFrom}
use Rattle.c_parser_grammar.proofs.ReadUnits.{complete, external_some}
use Rattle.c_parser_grammar.proofs.SoundUnits.{external_says, stops_split, externals_begin, unit_stops, refused_begins}
use Rattle.c_parser_grammar.proofs.Local.{Mode, Same, State, Goes, same_lengths, some_right}
use Rattle.c_parser_grammar.proofs.LocalUnits.{external_local}

-- the list is refused too
abbrev Refuses : ℕ → TypeNames → List External → List Lexeme → Type 0
Refuses i s found v = (w : List Lexeme) × (externals_from i s found v ≡ Err w)

module _ (t : Lexeme) (left right : List Lexeme) where
  abbrev Next : ℕ → ℕ → Type 0
  Next j i = (s : TypeNames) (found : List External) (u v w : List Lexeme) → Same t left right u v → length v ≤ i → externals_from j s found u ≡ Err w → length left < length w → Refuses i s found v

  refused_there : (i : ℕ) (s : TypeNames) (found : List External) (z : Lexeme) (v w : List Lexeme) (b c : ℕ) → Goes t left right Mode.near b c w (λ w'. external s (length (z ∷ v)) (z ∷ v) ≡ Err w') → length left < length w → Refuses (suc i) s found (z ∷ v)
  unfolding externals_from
  refused_there i s found z v w b c (Goes.lost l lb) lt = absurd (omega arith)
  refused_there i s found z v w b c (Goes.kept w' st e) lt = (w', ap (λ o. externals_behind o (λ q r. externals_from i q.1 (found ++ q.0) r)) e)

  goes_there : (j i : ℕ) (s : TypeNames) (found : List External) (x : Lexeme) (u : List Lexeme) (z : Lexeme) (v w : List Lexeme) (b c : ℕ) (q : (List External × TypeNames) × List Lexeme) → Next j i → Same t left right (x ∷ u) (z ∷ v) → length (z ∷ v) ≤ suc i
      → length q.1 < length (x ∷ u) → externals_from j q.0.1 (found ++ q.0.0) q.1 ≡ Err w → length left < length w
      → Goes t left right Mode.near b c q.1 (λ v'. external s (length (z ∷ v)) (z ∷ v) ≡ Ok (q.0, v')) → Refuses (suc i) s found (z ∷ v)
  unfolding externals_from
  goes_there j i s found x u z v w b c q next h le less e lt (Goes.lost l lb) =
      let o = externals_begin j q.0.1 (found ++ q.0.0) q.1 w e in
      let size = ap length o.1 in
      absurd (omega (arith, length-append o.0 w))
  goes_there j i s found x u z v w b c q next h le less e lt (Goes.kept v' (State.near g lb lc) is) =
      let m = same_lengths t left right h in
      let n = same_lengths t left right g in
      let r = next q.0.1 (found ++ q.0.0) q.1 v' w g (omega arith) e lt in
      (r.0, ap (λ o. externals_behind o (λ q r. externals_from i q.1 (found ++ q.0) r)) is ∙ r.1)

  turn : (j i : ℕ) (s : TypeNames) (found : List External) (x : Lexeme) (u : List Lexeme) (z : Lexeme) (v w : List Lexeme) → Next j i → Same t left right (x ∷ u) (z ∷ v) → length (z ∷ v) ≤ suc i → externals_from (suc j) s found (x ∷ u) ≡ Err w → length left < length w → Refuses (suc i) s found (z ∷ v)
  unfolding externals_from
  turn j i s found x u z v w next h le e lt =
      let n = length (x ∷ u) in
      let m = length (z ∷ v) in
      let same = external_local t left right s n m Mode.near n m (x ∷ u) (z ∷ v) (State.near h (omega arith) (omega arith)) (omega arith) (omega arith) in
      stops_split (external s (length (x ∷ u)) (x ∷ u)) (λ q r. externals_from j q.1 (found ++ q.0) r) w (Refuses (suc i) s found (z ∷ v))
      (λ is. refused_there i s found z v w n m (same.stops w is) lt)
      (λ q is more.
      let a = (external_says s (length (x ∷ u)) x u).by q is in
      let some = external_some a.2 in
      let size = ap length a.1 in
      goes_there j i s found x u z v w n m q next h le (omega (arith, length-append a.0 q.1)) more lt (same.by q is)) e

  externals_same : (j i : ℕ) → Next j i
  unfolding externals_from
  externals_same zero i s found u v w h le e lt = cc
  externals_same (suc j) zero s found u v w h le e lt = let o = some_right t left right h in absurd (omega arith)
  externals_same (suc j) (suc i) s found u v w Same.here le e lt = turn j i s found t left t right w (externals_same j i) Same.here le e lt
  externals_same (suc j) (suc i) s found u v w (Same.there x {u = u2} {v = v2} h) le e lt = turn j i s found x u2 x v2 w (externals_same j i) (Same.there x h) le e lt

  same_front : (front : List Lexeme) → Same t left right (front ++ t ∷ left) (front ++ t ∷ right)
  same_front [] = Same.here
  same_front (x ∷ front) = Same.there x (same_front front)

no_unit : {X : Type 0} (size : ℕ) (o : Result (List External) (List Lexeme)) (w : List Lexeme) (tree : TranslationUnit) → o ≡ Err w → unit_of size o ≡ Ok tree → X
no_unit size (Ok vs) w tree e g = cc
no_unit size (Err z) w tree e g = cc

-- no list with a reading begins with these tokens and the refused one
cannot_go_on : (size : ℕ) (front : List Lexeme) (t : Lexeme) (behind : List Lexeme) → unit (record { items = front ++ t ∷ behind; size = size }) ≡ Err (t ∷ behind) → CanGoOn (front ++ t ∷ []) → ⊥
cannot_go_on size front t behind e go =
    let u = front ++ t ∷ behind in
    let v = front ++ t ∷ go.more in
    let stops = unit_stops size (externals_from (length u) [] [] u) (t ∷ behind) e in
    let other = externals_same t behind go.more (length u) (length v) [] [] u v (t ∷ behind) (same_front t behind go.more front) (omega arith) stops (omega arith) in
    let reads : Reads (record { items = v; size = go.size }) go.unit = subst (λ z. Reads (record { items = z; size = go.size }) go.unit) (append_assoc front (t ∷ []) go.more) go.reads in
    no_unit go.size (externals_from (length v) [] [] v) other.0 go.unit other.1 (complete (record { items = v; size = go.size }) go.unit reads)

-- The tokens are refused from the first on that ends no front of a list with a reading.
pub refused_from : (toks : Toks) (rest : List Lexeme) → unit toks ≡ Err rest → RefusedFrom toks.items rest
refused_from toks rest e =
    let v = refused_begins toks rest 0 e in
    record {
      front = v.0;
      whole = v.1;
      can = record { more = v.2; size = 0; unit = v.3; reads = v.4 };
      cannot = λ t behind is go.
          let split : toks.items ≡ v.0 ++ t ∷ behind = v.1 ∙ ap (λ z. v.0 ++ z) is in
          let P : List Lexeme → Type 0 = λ items. unit (record { items = items; size = toks.size }) ≡ Err (t ∷ behind) in
          cannot_go_on toks.size v.0 t behind (subst P split (e ∙ ap (λ z. Err z) is)) go;
    }
