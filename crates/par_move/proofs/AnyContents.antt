-- Moves do at once with any contents what they do with numbers.
use Rattle.std.proofs.Common.{◌≡◌, ◌≢◌, ℕ, nat_eq, List, [], ◌∷◌, Some, Bool, true, false, refl, ap, ◌∙◌}
use Rattle.std.specs.Prelude.{if◌then◌else◌, slice_get}
use Rattle.par_move.specs.declared.moves.Move.{Move}
use Rattle.par_move.specs.Moves.{RegisterContents, with_content, moved, ParallelMove}

content_alike : {C : Type 0} → (t : ℕ) → (a b : C) → (s u : RegisterContents C) → a ≡ b → ((r : ℕ) → s r ≡ u r) → (r : ℕ) → with_content t a s r ≡ with_content t b u r
content_alike {C} t a b s u e k r = go (nat_eq r t)
  where
    go : (x : Bool) → (if x then a else s r) ≡ (if x then b else u r)
    go true = e
    go false = k r

moved_alike : {C : Type 0} → (ms : List Move) → (s u : RegisterContents C) → ((r : ℕ) → s r ≡ u r) → (r : ℕ) → moved ms s r ≡ moved ms u r
moved_alike [] s u k r = k r
moved_alike (m ∷ ms) s u k r = moved_alike ms (with_content m.to (s m.from) s) (with_content m.to (u m.from) u) (content_alike m.to (s m.from) (u m.from) s u (k m.from) k) r

-- which register's content stands where afterwards is a matter of the moves alone
moved_through : {C : Type 0} → (ms : List Move) → (s : RegisterContents C) → (f : RegisterContents ℕ) → (r : ℕ) → moved ms (λ q. s (f q)) r ≡ s (moved ms f r)
moved_through [] s f r = refl
moved_through (m ∷ ms) s f r =
    moved_alike ms (with_content m.to (s (f m.from)) (λ q. s (f q))) (λ q. s (with_content m.to (f m.from) f q)) same r
    ∙ moved_through ms s (with_content m.to (f m.from) f) r
  where
    same : (q : ℕ) → with_content m.to (s (f m.from)) (λ q. s (f q)) q ≡ s (with_content m.to (f m.from) f q)
    same q = go (nat_eq q m.to)
      where
        go : (x : Bool) → (if x then s (f m.from) else s (f q)) ≡ s (if x then f m.from else f q)
        go true = refl
        go false = refl

pub any_targets : {C : Type 0} → (moves : List Move) (scratch : ℕ) (made : List Move) → ParallelMove moves scratch made → (s : RegisterContents C) → (i : ℕ) (m : Move) → slice_get moves i ≡ Some m → moved made s m.to ≡ s m.from
any_targets moves scratch made k s i m e = moved_through made s (λ q. q) m.to ∙ ap s (k.targets (λ q. q) i m e)

pub any_others : {C : Type 0} → (moves : List Move) (scratch : ℕ) (made : List Move) → ParallelMove moves scratch made → (s : RegisterContents C) → (r : ℕ) → ((i : ℕ) (m : Move) → slice_get moves i ≡ Some m → m.to ≢ r) → r ≢ scratch → moved made s r ≡ s r
any_others moves scratch made k s r none n = moved_through made s (λ q. q) r ∙ ap s (k.others (λ q. q) r none n)
