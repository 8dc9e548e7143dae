-- Where comments and literals end does not depend on what stands behind them.
use Rattle.std.proofs.Common.{◌≡◌, ℕ, zero, suc, ◌+◌, ◌-◌, ◌<◌, ◌≤◌, Bool, true, false, List, [], ◌∷◌, length, take, drop, Option, Some, None, eqb, refl, subst, ap, ◌∙◌, arith, length-drop}
use Rattle.std.specs.Prelude.{option_map}
use Rattle.std.proofs.lemmas.List.{drop-take}
use Rattle.c_lexer.specs.declared.literals.Item.{Item}
use Rattle.c_lexer.specs.Blanks.{close_at, ends}
use Rattle.c_lexer.specs.Quotes.{quote_end, quote_end_step}
use Rattle.c_lexer.specs.Literals.{item_at, text_item, text_end, char_end, end_behind_item, quote_behind}
use Rattle.c_lexer.proofs.Options.{pick, un_suc}
use Rattle.c_lexer.proofs.Items.{item_fits, item_stays}

-- what ends at m ends there too where only k bytes are left
pub record EndsAt (end : List ℕ → Option ℕ) (s : List ℕ) (m : ℕ) : Type 0 where
  pub some : 0 < m
  pub within : m ≤ length s
  pub stays : (k : ℕ) → m ≤ k → end (take k s) ≡ Some m

-- ---- comments

two_stays : (a b : ℕ) (s : List ℕ) → ends a b ≡ true → (k : ℕ) → 2 ≤ k → close_at (take k (a ∷ b ∷ s)) ≡ Some 2
unfolding close_at
two_stays a b s is zero h = absurd (omega arith)
two_stays a b s is (suc zero) h = absurd (omega arith)
two_stays a b s is (suc (suc k)) h = rw is refl

more_stays : (a b : ℕ) (s : List ℕ) (n : ℕ) → ends a b ≡ false → EndsAt close_at (b ∷ s) n → (k : ℕ) → suc n ≤ k → close_at (take k (a ∷ b ∷ s)) ≡ Some (suc n)
unfolding close_at
more_stays a b s n other w zero h = absurd (omega arith)
more_stays a b s n other w (suc zero) h = absurd (omega arith)
more_stays a b s n other w (suc (suc k)) h = rw other (ap (option_map suc) (w.stays (suc k) (omega arith)))

pub close_ends : (s : List ℕ) (m : ℕ) → close_at s ≡ Some m → EndsAt close_at s m
unfolding close_at
close_ends [] m e = cc
close_ends (a ∷ []) m e = cc
close_ends (a ∷ b ∷ s) m e = pick (ends a b) (Some 2) (option_map suc (close_at (b ∷ s))) (Some m) e
    (λ yes w. let q : 2 ≡ m = cc in subst (EndsAt close_at (a ∷ b ∷ s)) q (record { some = omega arith; within = omega arith; stays = two_stays a b s yes }))
    (λ other w.
    let u = un_suc (close_at (b ∷ s)) m w in
    let v = close_ends (b ∷ s) u.0 u.1 in
    subst (EndsAt close_at (a ∷ b ∷ s)) u.2 (record { some = omega arith; within = omega arith; stays = more_stays a b s u.0 other v }))

-- ---- string literals

-- an item's length does not depend on what stands behind it
record Takes (f : List ℕ → Option ℕ) (s : List ℕ) (n : ℕ) : Type 0 where
  some : 0 < n
  stays : (k : ℕ) → n ≤ k → f (take k s) ≡ Some n

record ClosesAt (f : List ℕ → Option ℕ) (skip : ℕ) (s : List ℕ) (m : ℕ) : Type 0 where
  past : skip < m
  within : m ≤ length s
  stays : (k : ℕ) → m ≤ k → quote_end f skip (take k s) ≡ Some m

step_cases : {C : Type 0} (t : Bool) (o : Option ℕ) (next : ℕ → Option ℕ) (m : ℕ) → quote_end_step t o next ≡ Some m
    → (t ≡ true → 1 ≡ m → C) → ((n j : ℕ) → t ≡ false → o ≡ Some n → next (n - 1) ≡ Some j → suc j ≡ m → C) → C
step_cases true o next m e f g = f refl cc
step_cases false None next m e f g = cc
step_cases false (Some n) next m e f g = let u = un_suc (next (n - 1)) m e in g n u.0 refl refl u.1 u.2

here_stays : (f : List ℕ → Option ℕ) (b : ℕ) (s : List ℕ) → eqb b 34 ≡ true → (k : ℕ) → 1 ≤ k → quote_end f 0 (take k (b ∷ s)) ≡ Some 1
unfolding quote_end
here_stays f b s is zero h = absurd (omega arith)
here_stays f b s is (suc k) h = rw is refl

past_stays : (f : List ℕ → Option ℕ) (b : ℕ) (s : List ℕ) (n j : ℕ) → eqb b 34 ≡ false → Takes f (b ∷ s) n → ClosesAt f (n - 1) s j
    → (k : ℕ) → suc j ≤ k → quote_end f 0 (take k (b ∷ s)) ≡ Some (suc j)
unfolding quote_end
past_stays f b s n j other t w zero h = absurd (omega arith)
past_stays f b s n j other t w (suc k) h =
    let item : f (b ∷ take k s) ≡ Some n = t.stays (suc k) (omega arith) in
    rw (other, item) (ap (option_map suc) (w.stays k (omega arith)))

skip_stays : (f : List ℕ → Option ℕ) (skip b : ℕ) (s : List ℕ) (j : ℕ) → ClosesAt f skip s j → (k : ℕ) → suc j ≤ k → quote_end f (suc skip) (take k (b ∷ s)) ≡ Some (suc j)
unfolding quote_end
skip_stays f skip b s j w zero h = absurd (omega arith)
skip_stays f skip b s j w (suc k) h = ap (option_map suc) (w.stays k (omega arith))

quote_end_ends : (f : List ℕ → Option ℕ) → ((s : List ℕ) (n : ℕ) → f s ≡ Some n → Takes f s n) → (skip : ℕ) (s : List ℕ) (m : ℕ) → quote_end f skip s ≡ Some m → ClosesAt f skip s m
unfolding quote_end
quote_end_ends f item skip [] m e = cc
quote_end_ends f item zero (b ∷ s) m e = step_cases (eqb b 34) (f (b ∷ s)) (λ skip. quote_end f skip s) m e
    (λ yes q. subst (ClosesAt f 0 (b ∷ s)) q (record { past = omega arith; within = omega arith; stays = here_stays f b s yes }))
    (λ n j other is w q.
    let t = item (b ∷ s) n is in
    let v = quote_end_ends f item (n - 1) s j w in
    subst (ClosesAt f 0 (b ∷ s)) q (record { past = omega arith; within = omega arith; stays = past_stays f b s n j other t v }))
quote_end_ends f item (suc skip) (b ∷ s) m e =
    let u = un_suc (quote_end f skip s) m e in
    let v = quote_end_ends f item skip s u.0 u.1 in
    subst (ClosesAt f (suc skip) (b ∷ s)) u.2 (record { past = omega arith; within = omega arith; stays = skip_stays f skip b s u.0 v })

lens : (o : Option Item) (n : ℕ) → option_map (λ i. i.len) o ≡ Some n → (i : Item) × (o ≡ Some i) × (i.len ≡ n)
lens None n e = cc
lens (Some i) n e = let q : i.len ≡ n = cc in (i, refl, q)

text_item_takes : (s : List ℕ) (n : ℕ) → text_item s ≡ Some n → Takes text_item s n
unfolding text_item
text_item_takes s n e =
    let u = lens (item_at 34 s) n e in
    let w = item_fits 34 s u.0 u.1 in
    subst (Takes text_item s) u.2 (record { some = omega arith; stays = λ k h. ap (option_map (λ i. i.len)) (item_stays 34 s u.0 k u.1 h) })

pub text_ends : (s : List ℕ) (m : ℕ) → text_end s ≡ Some m → EndsAt text_end s m
text_ends s m e = let w = quote_end_ends text_item text_item_takes 0 s m e in record { some = w.past; within = w.within; stays = w.stays }

-- ---- character constants

quote_cases : (r : List ℕ) (n m : ℕ) → quote_behind r n ≡ Some m → (n + 1 ≡ m) × (0 < length r) × ((k : ℕ) → quote_behind (take (suc k) r) n ≡ Some m)
quote_cases [] n m e = cc
quote_cases (b ∷ r) n m e = pick (eqb b 39) (Some (n + 1)) None (Some m) e
    (λ yes w. let q : n + 1 ≡ m = cc in (q, omega arith, λ k. e))
    (λ other w. cc)

end_cases : {C : Type 0} (s : List ℕ) (o : Option Item) (m : ℕ) → end_behind_item s o ≡ Some m → ((i : Item) → o ≡ Some i → quote_behind (drop i.len s) i.len ≡ Some m → C) → C
end_cases s None m e f = cc
end_cases s (Some i) m e f = f i refl e

pub char_ends : (s : List ℕ) (m : ℕ) → char_end s ≡ Some m → EndsAt char_end s m
unfolding char_end
char_ends s m e = end_cases s (item_at 39 s) m e (λ i is w.
    let q = quote_cases (drop i.len s) i.len m w in
    let size = length-drop i.len s in
    let len : i.len + 1 ≡ m = q.0 in
    let more : 0 < length (drop i.len s) = q.1 in
    record {
      some = omega arith;
      within = omega arith;
      stays = λ k h.
          let item : item_at 39 (take k s) ≡ Some i = item_stays 39 s i k is (omega arith) in
          let split : i.len + suc (k - (i.len + 1)) ≡ k = omega arith in
          let rest : drop i.len (take k s) ≡ take (suc (k - (i.len + 1))) (drop i.len s) =
          subst (λ k'. drop i.len (take k' s) ≡ take (suc (k - (i.len + 1))) (drop i.len s)) split (drop-take i.len (suc (k - (i.len + 1))) s) in
          ap (end_behind_item (take k s)) item ∙ ap (λ r. quote_behind r i.len) rest ∙ q.2 (k - (i.len + 1));
    })
