-- The loops that make the code of an edge.
use Rattle.std.proofs.Common.{◌≡◌, ◌≢◌, ℕ, zero, suc, ◌+◌, ◌<◌, ◌≤◌, ◌==◌, List, [], ◌∷◌, ◌++◌, Option, Some, None, if◌then◌else◌, refl, sym, ap, ◌∙◌, subst, ⊎_elim, length, drop, get_or, append_assoc, arith}
use Rattle.std.specs.Prelude.{slice_set, slice_index, slice_get}
use Rattle.std.proofs.lemmas.Bool.{ne_eqb, eq-eqb}
use Rattle.std.proofs.lemmas.List.{at_drop_more, at_drop_all, length-set, get_or-set_same, get_or-set_other}
use Rattle.std.proofs.lemmas.Option.{slice_get-get_or}
use Rattle.par_move.specs.declared.moves.Move.{Move}
use Rattle.alloc_model.specs.declared.allocation.TempPlace.{TempPlace}
use Rattle.alloc_model.specs.declared.allocation.Transfer.{Transfer}
use Rattle.alloc_model.specs.declared.allocation.Transfer.TheVariants.{Shift}
use Rattle.binpack_scan.specs.model.Edges.{register_at, register_for, shifts, held_with, IsHeld, IsMap}
use Rattle.binpack_blocks.proofs.Holders.{same_or_not}

-- ---- the register of a temporary

pub for_next : (xs : List TempPlace) (i : ℕ) (s : TempPlace) (t : ℕ) → s ≡ get_or xs i s → i < length xs → s.temp ≢ t → register_for (drop i xs) t ≡ register_for (drop (i + 1) xs) t
for_next xs i s t is within ne =
    at_drop_more (λ ys. register_for ys t) xs i s within
    ∙ ap (λ (y : TempPlace). if y.temp == t then register_at y.place else register_for (drop (i + 1) xs) t) (sym is)
    ∙ ap (λ b. if b then register_at s.place else register_for (drop (i + 1) xs) t) (ne_eqb s.temp t ne)

pub for_found : (xs : List TempPlace) (i : ℕ) (s : TempPlace) (t : ℕ) → s ≡ get_or xs i s → i < length xs → s.temp ≡ t → register_for (drop i xs) t ≡ register_at s.place
for_found xs i s t is within e =
    at_drop_more (λ ys. register_for ys t) xs i s within
    ∙ ap (λ (y : TempPlace). if y.temp == t then register_at y.place else register_for (drop (i + 1) xs) t) (sym is)
    ∙ ap (λ b. if b then register_at s.place else register_for (drop (i + 1) xs) t) (eq-eqb s.temp t e)

pub for_end : (xs : List TempPlace) (i t : ℕ) → length xs ≤ i → register_for (drop i xs) t ≡ None
for_end xs i t past = at_drop_all (λ ys. register_for ys t) xs i past

pub place_there : (xs : List TempPlace) (i : ℕ) (d : TempPlace) → i < length xs → slice_get xs i ≡ Some (get_or xs i d)
place_there xs i d within = slice_get-get_or xs i d within

-- ---- the table

pub held_start : (ss : List TempPlace) (hs : List ℕ) → length hs ≡ 256 → IsHeld ss 0 hs
held_start ss hs e = record { many = e; each = λ i r s w f g. absurd (omega (arith, w)) }

pub held_more : (ss : List TempPlace) (n : ℕ) (s : TempPlace) (hs ks : List ℕ) → IsMap ss → slice_get ss n ≡ Some s → IsHeld ss n hs → ks ≡ held_with s.temp (register_at s.place) hs → IsHeld ss (n + 1) ks
held_more ss n s hs ks map e k f = subst (λ z. IsHeld ss (n + 1) z) (sym f) (go (register_at s.place) refl)
  where
    same_place : (d : TempPlace) → Some s ≡ Some d → s ≡ d
    same_place d v = cc

    same_register : (r q : ℕ) → Some r ≡ Some q → r ≡ q
    same_register r q v = cc

    none_some : (r : ℕ) {A : Type 0} → (let o : Option ℕ = None in o) ≡ Some r → A
    none_some r v = absurd (cc)

    go : (o : Option ℕ) → register_at s.place ≡ o → IsHeld ss (n + 1) (held_with s.temp o hs)
    go None g = record {
      many = k.many;
      each = λ i r d w x y. ⊎_elim
          (λ (v : i ≡ n).
          let z : s ≡ d = same_place d (sym e ∙ ap (slice_get ss) (sym v) ∙ x) in
          none_some r (sym g ∙ ap (λ (q : TempPlace). register_at q.place) z ∙ y))
          (λ (v : i ≢ n). k.each i r d (omega (arith, w, v)) x y) (same_or_not i n);
    }
    go (Some q) g = record {
      many = length-set hs q s.temp ∙ k.many;
      each = λ i r d w x y. ⊎_elim
          (λ (v : i ≡ n).
          let z : s ≡ d = same_place d (sym e ∙ ap (slice_get ss) (sym v) ∙ x) in
          let u : q ≡ r = same_register q r (sym g ∙ ap (λ (p : TempPlace). register_at p.place) z ∙ y) in
          ap (λ p. get_or (slice_set hs q s.temp) p 0) (sym u) ∙ get_or-set_same hs q s.temp 0 (let a = map.given n q s e g in let b = k.many in omega (arith, a, b)) ∙ ap (λ (p : TempPlace). p.temp) z)
          (λ (v : i ≢ n). get_or-set_other hs q r s.temp 0 (λ u. v (map.apart i n q d s x e (y ∙ ap Some u) g)) ∙ k.each i r d (omega (arith, w, v)) x y) (same_or_not i n);
    }

pub held_all : (ss : List TempPlace) (n : ℕ) (hs : List ℕ) → length ss ≤ n → IsHeld ss n hs → IsHeld ss (length ss) hs
held_all ss n hs w k = record { many = k.many; each = λ i r s v e f. k.each i r s (omega (arith, w, v)) e f }

-- ---- the shifts

shifts_more : (made : List Move) (i : ℕ) (m : Move) (hs : List ℕ) → slice_get made i ≡ Some m → shifts (drop i made) hs ≡ Shift (slice_index hs m.from) m.from m.to ∷ shifts (drop (suc i) made) (slice_set hs m.to (slice_index hs m.from))
unfolding shifts
shifts_more [] i m hs e = absurd (cc)
shifts_more (x ∷ made) zero m hs e = let v : x ≡ m = cc in ap (λ (z : Move). Shift (slice_index hs z.from) z.from z.to ∷ shifts made (slice_set hs z.to (slice_index hs z.from))) v
shifts_more (x ∷ made) (suc i) m hs e = shifts_more made i m hs e

pub shift_step : (made : List Move) (i : ℕ) (m : Move) (hs : List ℕ) (code code2 all : List Transfer) → slice_get made i ≡ Some m → code2 ≡ code ++ Shift (slice_index hs m.from) m.from m.to ∷ [] → code ++ shifts (drop i made) hs ≡ all → code2 ++ shifts (drop (i + 1) made) (slice_set hs m.to (slice_index hs m.from)) ≡ all
shift_step made i m hs code code2 all e f g =
    ap (λ z. z ++ shifts (drop (i + 1) made) (slice_set hs m.to (slice_index hs m.from))) f
    ∙ append_assoc code (Shift (slice_index hs m.from) m.from m.to ∷ []) (shifts (drop (i + 1) made) (slice_set hs m.to (slice_index hs m.from)))
    ∙ ap (λ n. code ++ Shift (slice_index hs m.from) m.from m.to ∷ shifts (drop n made) (slice_set hs m.to (slice_index hs m.from))) (let v : i + 1 ≡ suc i = omega arith in v)
    ∙ ap (λ z. code ++ z) (sym (shifts_more made i m hs e)) ∙ g

drop_all : (made : List Move) (i : ℕ) → length made ≤ i → drop i made ≡ []
drop_all [] zero w = refl
drop_all [] (suc i) w = refl
drop_all (m ∷ ms) zero w = absurd (omega (arith, w))
drop_all (m ∷ ms) (suc i) w = drop_all ms i (omega (arith, w))

none_behind : (code : List Transfer) → code ++ [] ≡ code
none_behind [] = refl
none_behind (x ∷ code) = ap (λ z. x ∷ z) (none_behind code)

pub shift_end : (made : List Move) (i : ℕ) (hs : List ℕ) (code all : List Transfer) → length made ≤ i → code ++ shifts (drop i made) hs ≡ all → code ≡ all
unfolding shifts
shift_end made i hs code all w e = sym (none_behind code) ∙ ap (λ z. code ++ shifts z hs) (sym (drop_all made i w)) ∙ e

pub move_made : (made : List Move) (i : ℕ) (d : Move) → i < length made → slice_get made i ≡ Some (get_or made i d)
move_made made i d w = slice_get-get_or made i d w

-- ---- the code in its three parts

pub the_code : (start first second third stores shifts0 shifts1 loads : List Transfer) → start ≡ [] → first ≡ start ++ stores → second ≡ first ++ shifts0 → third ≡ second ++ loads → shifts0 ≡ shifts1 → third ≡ (stores ++ shifts1) ++ loads
the_code start first second third stores shifts0 shifts1 loads a b c d e = d ∙ ap (λ z. z ++ loads) (c ∙ ap (λ z. z ++ shifts0) (b ∙ ap (λ z. z ++ stores) a) ∙ ap (λ z. stores ++ z) e)
