-- The moves of an edge, and what stands in their sources.
use Rattle.std.proofs.Common.{◌≡◌, ◌⊎◌, ℕ, zero, suc, ◌<◌, ◌==◌, List, [], ◌∷◌, ◌++◌, Bool, true, false, Option, Some, None, if◌then◌else◌, refl, sym, ap, ◌∙◌, inl, inr, subst, ⊎_elim, arith}
use Rattle.std.specs.Prelude.{slice_get, flat_map}
use Rattle.std.proofs.lemmas.Bool.{eqb-true}
use Rattle.par_move.specs.declared.moves.Move.{Move}
use Rattle.par_move.specs.Moves.{HaveDistinctTargets, IsInNoMove, IsNamed, ParallelMove}
use Rattle.alloc_model.specs.declared.allocation.TempPlace.{TempPlace}
use Rattle.binpack_scan.specs.model.Edges.{register_at, register_for, move_with, move_of, IsMap, AreApart}

pub none_is_some : {A : Type 0} (r : ℕ) (o : Option ℕ) → o ≡ None → o ≡ Some r → A
none_is_some r o e f = absurd (cc)

pub one_register : (r q : ℕ) (o : Option ℕ) → o ≡ Some r → o ≡ Some q → r ≡ q
one_register r q o e f = cc

pub one_place : (o : Option TempPlace) (s u : TempPlace) → o ≡ Some s → o ≡ Some u → s ≡ u
one_place o s u e f = cc

-- what has a register by a map is in it
pub for_there : (ss : List TempPlace) (t r : ℕ) → register_for ss t ≡ Some r → (i : ℕ) × (s : TempPlace) × (slice_get ss i ≡ Some s) × (s.temp ≡ t) × (register_at s.place ≡ Some r)
for_there [] t r e = absurd (cc)
for_there (s ∷ ss) t r e = go (s.temp == t) refl e (λ f. for_there ss t r f)
  where
    go : (b : Bool) → (s.temp == t) ≡ b → (if b then register_at s.place else register_for ss t) ≡ Some r → (register_for ss t ≡ Some r → (i : ℕ) × (u : TempPlace) × (slice_get ss i ≡ Some u) × (u.temp ≡ t) × (register_at u.place ≡ Some r)) → (i : ℕ) × (u : TempPlace) × (slice_get (s ∷ ss) i ≡ Some u) × (u.temp ≡ t) × (register_at u.place ≡ Some r)
    go true f g rest = (0, s, refl, eqb-true s.temp t f, g)
    go false f g rest = let i = rest g in (suc i.0, i.1, i.2, i.3, i.4)

module _ (bottom : List TempPlace) where
  -- a move is that of a temporary that stands in registers at both ends
  pub move_in : (ss : List TempPlace) (k : ℕ) (m : Move) → slice_get (flat_map (move_of bottom) ss) k ≡ Some m → (j : ℕ) × (s : TempPlace) × (slice_get ss j ≡ Some s) × (register_for bottom s.temp ≡ Some m.from) × (register_at s.place ≡ Some m.to)
  move_in [] k m e = absurd (cc)
  move_in (s ∷ ss) k m e = go (register_for bottom s.temp) (register_at s.place) refl refl k e (λ k e. move_in ss k m e)
    where
      go : (b t : Option ℕ) → register_for bottom s.temp ≡ b → register_at s.place ≡ t → (k : ℕ) → slice_get (move_with b t ++ flat_map (move_of bottom) ss) k ≡ Some m →
          ((k : ℕ) → slice_get (flat_map (move_of bottom) ss) k ≡ Some m → (j : ℕ) × (u : TempPlace) × (slice_get ss j ≡ Some u) × (register_for bottom u.temp ≡ Some m.from) × (register_at u.place ≡ Some m.to)) →
          (j : ℕ) × (u : TempPlace) × (slice_get (s ∷ ss) j ≡ Some u) × (register_for bottom u.temp ≡ Some m.from) × (register_at u.place ≡ Some m.to)
      go (Some r) (Some q) f g zero e rest = (0, s, refl, f ∙ cc, g ∙ cc)
      go (Some r) (Some q) f g (suc k) e rest = let i = rest k e in (suc i.0, i.1, i.2, i.3, i.4)
      go (Some r) None f g k e rest = let i = rest k e in (suc i.0, i.1, i.2, i.3, i.4)
      go None t f g k e rest = let i = rest k e in (suc i.0, i.1, i.2, i.3, i.4)

  -- and each of those has one
  pub move_there : (ss : List TempPlace) (j r q : ℕ) (s : TempPlace) → slice_get ss j ≡ Some s → register_for bottom s.temp ≡ Some r → register_at s.place ≡ Some q → (k : ℕ) × (slice_get (flat_map (move_of bottom) ss) k ≡ Some (record { from = r; to = q }))
  move_there [] j r q s e f g = absurd (cc)
  move_there (u ∷ ss) zero r q s e f g =
      let v : u ≡ s = cc in
      (0, ap (λ z. slice_get (move_of bottom z ++ flat_map (move_of bottom) ss) 0) v ∙ ap (λ b. slice_get (move_with b (register_at s.place) ++ flat_map (move_of bottom) ss) 0) f ∙ ap (λ t. slice_get (move_with (Some r) t ++ flat_map (move_of bottom) ss) 0) g)
  move_there (u ∷ ss) (suc j) r q s e f g = let i = move_there ss j r q s e f g in go (register_for bottom u.temp) (register_at u.place) i.0 i.1
    where
      go : (b t : Option ℕ) (k : ℕ) → slice_get (flat_map (move_of bottom) ss) k ≡ Some (record { from = r; to = q }) → (k : ℕ) × (slice_get (move_with b t ++ flat_map (move_of bottom) ss) k ≡ Some (record { from = r; to = q }))
      go (Some a) (Some b) k h = (suc k, h)
      go (Some a) None k h = (k, h)
      go None t k h = (k, h)

  rest_apart : (s : TempPlace) (ss : List TempPlace) → AreApart (s ∷ ss) → AreApart ss
  rest_apart s ss apart i j r d e f g h k = let v = apart (suc i) (suc j) r d e f g h k in omega (arith, v)

  -- no two go to one register
  pub moves_distinct : (ss : List TempPlace) → AreApart ss → HaveDistinctTargets (flat_map (move_of bottom) ss)
  moves_distinct [] apart i j m n e f g = absurd (cc)
  moves_distinct (s ∷ ss) apart i j m n e f g = go (register_for bottom s.temp) (register_at s.place) refl refl i j e f (λ i j e f. moves_distinct ss (rest_apart s ss apart) i j m n e f g)
    where
      clash : (q k : ℕ) (m : Move) → register_at s.place ≡ Some q → slice_get (flat_map (move_of bottom) ss) k ≡ Some m → m.to ≡ q → ⊥
      clash q k m h e v =
          let p = move_in ss k m e in
          let z = apart 0 (suc p.0) q s p.1 refl p.2 h (p.4 ∙ ap Some v) in
          omega (arith, z)

      go : (b t : Option ℕ) → register_for bottom s.temp ≡ b → register_at s.place ≡ t → (i j : ℕ) → slice_get (move_with b t ++ flat_map (move_of bottom) ss) i ≡ Some m → slice_get (move_with b t ++ flat_map (move_of bottom) ss) j ≡ Some n → ((i j : ℕ) → slice_get (flat_map (move_of bottom) ss) i ≡ Some m → slice_get (flat_map (move_of bottom) ss) j ≡ Some n → i ≡ j) → i ≡ j
      go (Some r) (Some q) b t zero zero e f rest = refl
      go (Some r) (Some q) b t zero (suc j) e f rest = absurd (clash q j n t f (let v : m.to ≡ q = cc in sym g ∙ v))
      go (Some r) (Some q) b t (suc i) zero e f rest = absurd (clash q i m t e (let v : n.to ≡ q = cc in g ∙ v))
      go (Some r) (Some q) b t (suc i) (suc j) e f rest = ap suc (rest i j e f)
      go (Some r) None b t i j e f rest = rest i j e f
      go None t b u i j e f rest = rest i j e f

-- sources and targets are given registers
pub move_given : (bottom top : List TempPlace) (k : ℕ) (m : Move) → IsMap bottom → IsMap top → slice_get (flat_map (move_of bottom) top) k ≡ Some m → (m.from < 26) × (m.to < 26)
move_given bottom top k m mb mt e =
    let p = move_in bottom top k m e in
    let u = for_there bottom p.1.temp m.from p.3 in
    (mb.given u.0 m.from u.1 u.2 u.4, mt.given p.0 m.to p.1 p.2 p.4)

pub scratch_free : (bottom top : List TempPlace) → IsMap bottom → IsMap top → IsInNoMove 28 (flat_map (move_of bottom) top)
scratch_free bottom top mb mt k m e =
    let low = move_given bottom top k m mb mt e in
    let a = low.0 in
    let b = low.1 in
    ((λ f. omega (arith, f, a)), (λ f. omega (arith, f, b)))

-- the registers that are named
abbrev pub IsLow : ℕ → Type 0
IsLow r = (r < 26) ⊎ (r ≡ 28)

pub made_low : (bottom top : List TempPlace) (made : List Move) → IsMap bottom → IsMap top → ParallelMove (flat_map (move_of bottom) top) 28 made → (i : ℕ) (m : Move) → slice_get made i ≡ Some m → IsLow m.from × IsLow m.to
made_low bottom top made mb mt par i m e = let n = par.names i m e in (one m.from n.0, one m.to n.1)
  where
    one : (r : ℕ) → IsNamed (flat_map (move_of bottom) top) 28 r → IsLow r
    one r (inl v) = inr v
    one r (inr p) =
        let low = move_given bottom top p.0 p.1 mb mt p.2 in
        ⊎_elim (λ (v : p.1.from ≡ r). inl (subst (λ n. n < 26) v low.0)) (λ (v : p.1.to ≡ r). inl (subst (λ n. n < 26) v low.1)) p.3

pub low_named : (r : ℕ) → IsLow r → r < 256
low_named r (inl v) = omega (arith, v)
low_named r (inr v) = omega (arith, v)
