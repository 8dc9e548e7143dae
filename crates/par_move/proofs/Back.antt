-- Going back from register to register.
use Rattle.std.proofs.Common.{◌≡◌, ℕ, zero, suc, ◌⊎◌, nat_eq, List, [], ◌∷◌, ◌++◌, length, Option, Some, None, Bool, true, false, refl, sym, ap, ◌∙◌, subst, inl, inr, ⊎_elim}
use Rattle.std.specs.Prelude.{option_and_then, if◌then◌else◌, slice_get}
use Rattle.std.proofs.lemmas.Bool.{eqb-true}
use Rattle.par_move.specs.declared.moves.Move.{Move}
use Rattle.par_move.specs.Moves.{filled_from, back, IsOnCycle, IsNamed}
use Rattle.par_move.proofs.Tables.{some_same, not_some}

-- the last turn back
pub last_step : (moves : List Move) (k r t : ℕ) → back moves (suc k) r ≡ Some t → (u : ℕ) × (back moves k r ≡ Some u) × (filled_from moves u ≡ Some t)
last_step moves k r t e = go (back moves k r) refl e
  where
    go : (o : Option ℕ) → back moves k r ≡ o → option_and_then (filled_from moves) o ≡ Some t → (u : ℕ) × (back moves k r ≡ Some u) × (filled_from moves u ≡ Some t)
    go None d f = absurd (cc)
    go (Some u) d f = (u, d, f)

pub one_more : (moves : List Move) (k r u t : ℕ) → back moves k r ≡ Some u → filled_from moves u ≡ Some t → back moves (suc k) r ≡ Some t
one_more moves k r u t e f = ap (option_and_then (filled_from moves)) e ∙ f

-- the first turn back
pub first_step : (moves : List Move) (k r t : ℕ) → filled_from moves r ≡ Some t → back moves (suc k) r ≡ back moves k t
first_step moves zero r t e = e
first_step moves (suc k) r t e = ap (option_and_then (filled_from moves)) (first_step moves k r t e)

-- who is filled from a register of a cycle is on it
pub reader_on_cycle : (moves : List Move) (r : ℕ) → IsOnCycle moves r → (t : ℕ) × IsOnCycle moves t × (filled_from moves t ≡ Some r)
reader_on_cycle moves r on =
    let l = last_step moves on.steps r r on.comes_back in (
      l.0,
      record {
        steps = on.steps;
        comes_back = first_step moves on.steps l.0 r l.2 ∙ l.1;
        leaves = λ e. let v : r ≡ l.0 = some_same r l.0 (sym l.2 ∙ e) in on.leaves (subst (λ z. filled_from moves z ≡ Some r) (sym v) l.2);
      },
      l.2,
    )

-- from where one comes from a register of a cycle one comes back to it
pub comes_back : (moves : List Move) (r n : ℕ) → back moves (suc n) r ≡ Some r → (k t : ℕ) → back moves k r ≡ Some t → (j : ℕ) × (back moves j t ≡ Some r)
comes_back moves r n e zero t f = (0, ap Some (sym (some_same r t f)))
comes_back moves r n e (suc k) t f =
    let l = last_step moves k r t f in
    let i = comes_back moves r n e k l.0 l.1 in
    go l.0 l.2 i.0 i.1
  where
    go : (u : ℕ) → filled_from moves u ≡ Some t → (j : ℕ) → back moves j u ≡ Some r → (j : ℕ) × (back moves j t ≡ Some r)
    go u s zero b = let v : u ≡ r = some_same u r b in (n, sym (first_step moves n r t (subst (λ z. filled_from moves z ≡ Some t) v s)) ∙ e)
    go u s (suc j) b = (j, sym (first_step moves j u t s) ∙ b)

-- a register of a cycle is a target
pub cycle_source : (moves : List Move) (r : ℕ) → IsOnCycle moves r → (q : ℕ) × (filled_from moves r ≡ Some q)
cycle_source moves r on = go (filled_from moves r) refl
  where
    nothing : (k : ℕ) → filled_from moves r ≡ None → back moves (suc k) r ≡ None
    nothing zero e = e
    nothing (suc k) e = ap (option_and_then (filled_from moves)) (nothing k e)

    go : (o : Option ℕ) → filled_from moves r ≡ o → (q : ℕ) × (filled_from moves r ≡ Some q)
    go (Some q) e = (q, e)
    go None e = absurd (not_some r _ (nothing on.steps e) on.comes_back)

-- a source is that of a move
pub source_in : (moves : List Move) (r q : ℕ) → filled_from moves r ≡ Some q → (i : ℕ) × (m : Move) × (slice_get moves i ≡ Some m) × (m.to ≡ r) × (m.from ≡ q)
source_in [] r q e = absurd (cc)
source_in (m ∷ ms) r q e = go (source_in ms r q) (nat_eq m.to r) refl e
  where
    go : (filled_from ms r ≡ Some q → (i : ℕ) × (n : Move) × (slice_get ms i ≡ Some n) × (n.to ≡ r) × (n.from ≡ q)) → (b : Bool) → nat_eq m.to r ≡ b → (if b then Some m.from else filled_from ms r) ≡ Some q → (i : ℕ) × (n : Move) × (slice_get (m ∷ ms) i ≡ Some n) × (n.to ≡ r) × (n.from ≡ q)
    go rest true d f = (0, m, refl, eqb-true m.to r d, some_same m.from q f)
    go rest false d f = let i = rest f in (suc i.0, i.1, i.2, i.3, i.4)

-- the registers of a move are named
pub named_source : (moves : List Move) (scratch r q : ℕ) → filled_from moves r ≡ Some q → IsNamed moves scratch r × IsNamed moves scratch q
named_source moves scratch r q e = let p = source_in moves r q e in (inr (p.0, p.1, p.2, inr p.3), inr (p.0, p.1, p.2, inl p.4))

-- what stands in a list with one more element
pub last_or : {X : Type 0} → (xs : List X) (x : X) → (i : ℕ) (y : X) → slice_get (xs ++ x ∷ []) i ≡ Some y → (slice_get xs i ≡ Some y) ⊎ ((i ≡ length xs) × (x ≡ y))
last_or [] x zero y e = inr (refl, (cc))
last_or [] x (suc i) y e = absurd (cc)
last_or (z ∷ xs) x zero y e = inl e
last_or (z ∷ xs) x (suc i) y e = ⊎_elim
    (λ (f : slice_get xs i ≡ Some y). inl f)
    (λ (f : (i ≡ length xs) × (x ≡ y)). inr (ap suc f.0, f.1)) (last_or xs x i y e)

pub names_last : (moves M : List Move) (scratch : ℕ) (x : Move) → ((i : ℕ) (m : Move) → slice_get M i ≡ Some m → IsNamed moves scratch m.from × IsNamed moves scratch m.to) → IsNamed moves scratch x.from × IsNamed moves scratch x.to → (i : ℕ) (m : Move) → slice_get (M ++ x ∷ []) i ≡ Some m → IsNamed moves scratch m.from × IsNamed moves scratch m.to
names_last moves M scratch x all new i m e = ⊎_elim
    (λ (f : slice_get M i ≡ Some m). all i m f)
    (λ (f : (i ≡ length M) × (x ≡ m)). subst (λ (z : Move). IsNamed moves scratch z.from × IsNamed moves scratch z.to) f.1 new) (last_or M x i m e)
