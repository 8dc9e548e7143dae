-- What the code of an edge names, and how long it is.
use Rattle.std.proofs.Common.{◌≡◌, ◌≢◌, ℕ, zero, suc, ◌+◌, ◌<◌, ◌≤◌, ◌==◌, List, [], ◌∷◌, ◌++◌, Bool, true, false, Option, Some, None, if◌then◌else◌, refl, sym, ap, inl, inr, subst, ⊎_elim, length, arith}
use Rattle.std.specs.Prelude.{All, Contains, slice_get, slice_set, slice_index, flat_map, option_and_then}
use Rattle.std.proofs.lemmas.List.Elements.{All-nil, All-cons, All-append}
use Rattle.std.proofs.lemmas.Bool.{eqb-true}
use Rattle.std.proofs.lemmas.List.Sums.{count_by-le-length}
use Rattle.bk_bits.specs.Sets.{has}
use Rattle.par_move.specs.declared.moves.Move.{Move}
use Rattle.par_move.specs.Moves.{filled_from, back, is_between, IsRising}
use Rattle.alloc_model.specs.declared.allocation.TempPlace.{TempPlace}
use Rattle.alloc_model.specs.declared.allocation.Transfer.{Transfer}
use Rattle.alloc_model.specs.declared.allocation.Transfer.TheVariants.{Store, Load, Shift}
use Rattle.alloc_model.specs.Effect.{Temp}
use Rattle.alloc_model.specs.Places.{Place, source_of, transfer_target, moved_temp}
use Rattle.alloc_model.specs.Faithful.{HolderPlaces, stands, MovesAsk, named_registers, IsGivenOrScratch, IsTransfer}
use Rattle.binpack_scan.specs.model.Edges.{register_at, register_for, is_stored, store_with, store_of, load_with, load_of, move_with, move_of, shifts, IsMap, IsCodeBetween}
use Rattle.binpack_scan.proofs.EdgeMoves.{IsLow, made_low, move_given}
use Rattle.binpack_scan.proofs.EdgeSteps.{place_for, edge_asks}
use Rattle.binpack_scan.proofs.Lists.{is_given}

-- ---- the temporaries

temp_same : (a b : ℕ) → Temp a ≡ Temp b → a ≡ b
temp_same a b e = cc

-- what is asked for has a number below a bound, where all that is held has
asks_below : (bound : ℕ) (xs : List Transfer) (h : HolderPlaces) → ((t : ℕ) (q : Place) → h (Temp t) q → t < bound) → MovesAsk xs h → All (λ x. moved_temp x < bound) xs
asks_below bound [] h low asks = All-nil (λ x. moved_temp x < bound)
asks_below bound (x ∷ xs) h low asks =
    let own = low (moved_temp x) (source_of x) asks.0 in
    All-cons (λ x. moved_temp x < bound) x xs own
    (asks_below bound xs (stands (Temp (moved_temp x)) (transfer_target x) h)
    (λ t q s. ⊎_elim (λ (k : h (Temp t) q × (q ≢ transfer_target x)). low t q k.0) (λ (k : (Temp t ≡ Temp (moved_temp x)) × (q ≡ transfer_target x)). subst (λ n. n < bound) (sym (temp_same t (moved_temp x) k.0)) own) s)
    asks.1)

-- ---- the registers

abbrev NamesGiven : Transfer → Type 0
NamesGiven x = All IsGivenOrScratch (named_registers x)

or_scratch : (r : ℕ) → IsLow r → IsGivenOrScratch r
or_scratch r (inl low) = let k = is_given r low in let within = k.1 in (suc k.0, omega (arith, within), k.2)
or_scratch r (inr e) = (0, omega arith, sym e)

one_named : (r : ℕ) → IsLow r → All IsGivenOrScratch (r ∷ [])
one_named r low = All-cons IsGivenOrScratch r [] (or_scratch r low) (All-nil IsGivenOrScratch)

two_named : (r q : ℕ) → IsLow r → IsLow q → All IsGivenOrScratch (r ∷ q ∷ [])
two_named r q low also = All-cons IsGivenOrScratch r (q ∷ []) (or_scratch r low) (one_named q also)

stores_named : (live need : List Bool) (top ss : List TempPlace) → ((i r : ℕ) (s : TempPlace) → slice_get ss i ≡ Some s → register_at s.place ≡ Some r → r < 26) → All NamesGiven (flat_map (store_of live need top) ss)
stores_named live need top [] given = All-nil NamesGiven
stores_named live need top (s ∷ ss) given = go (is_stored (has live s.temp) (has need s.temp) (register_for top s.temp)) (register_at s.place) refl (stores_named live need top ss (λ i. given (suc i)))
  where
    go : (b : Bool) (o : Option ℕ) → register_at s.place ≡ o → All NamesGiven (flat_map (store_of live need top) ss) → All NamesGiven (store_with b s.temp o ++ flat_map (store_of live need top) ss)
    go false o e rest = rest
    go true None e rest = rest
    go true (Some r) e rest = All-cons NamesGiven (Store s.temp r) (flat_map (store_of live need top) ss) (one_named r (inl (given 0 r s refl e))) rest

loads_named : (bottom ss : List TempPlace) → ((i r : ℕ) (s : TempPlace) → slice_get ss i ≡ Some s → register_at s.place ≡ Some r → r < 26) → All NamesGiven (flat_map (load_of bottom) ss)
loads_named bottom [] given = All-nil NamesGiven
loads_named bottom (s ∷ ss) given = go (register_for bottom s.temp) (register_at s.place) refl (loads_named bottom ss (λ i. given (suc i)))
  where
    go : (b o : Option ℕ) → register_at s.place ≡ o → All NamesGiven (flat_map (load_of bottom) ss) → All NamesGiven (load_with s.temp b o ++ flat_map (load_of bottom) ss)
    go (Some q) o e rest = rest
    go None None e rest = rest
    go None (Some r) e rest = All-cons NamesGiven (Load s.temp r) (flat_map (load_of bottom) ss) (one_named r (inl (given 0 r s refl e))) rest

shifts_named : (made : List Move) (hs : List ℕ) → ((i : ℕ) (m : Move) → slice_get made i ≡ Some m → IsLow m.from × IsLow m.to) → All NamesGiven (shifts made hs)
unfolding shifts
shifts_named [] hs low = All-nil NamesGiven
shifts_named (m ∷ made) hs low =
    All-cons NamesGiven (Shift (slice_index hs m.from) m.from m.to) (shifts made (slice_set hs m.to (slice_index hs m.from)))
    (let both = low 0 m refl in two_named m.from m.to both.0 both.1) (shifts_named made (slice_set hs m.to (slice_index hs m.from)) (λ i. low (suc i)))

-- ---- the length

stores_few : (live need : List Bool) (top ss : List TempPlace) → length (flat_map (store_of live need top) ss) ≤ length ss
stores_few live need top [] = omega arith
stores_few live need top (s ∷ ss) = go (is_stored (has live s.temp) (has need s.temp) (register_for top s.temp)) (register_at s.place) (stores_few live need top ss)
  where
    go : (b : Bool) (o : Option ℕ) → length (flat_map (store_of live need top) ss) ≤ length ss → length (store_with b s.temp o ++ flat_map (store_of live need top) ss) ≤ suc (length ss)
    go false o rest = omega (arith, rest)
    go true None rest = omega (arith, rest)
    go true (Some r) rest = omega (arith, rest)

both_few : (bottom ss : List TempPlace) → length (flat_map (move_of bottom) ss) + length (flat_map (load_of bottom) ss) ≤ length ss
both_few bottom [] = omega arith
both_few bottom (s ∷ ss) = go (register_for bottom s.temp) (register_at s.place) (both_few bottom ss)
  where
    go : (b o : Option ℕ) → length (flat_map (move_of bottom) ss) + length (flat_map (load_of bottom) ss) ≤ length ss → length (move_with b o ++ flat_map (move_of bottom) ss) + length (load_with s.temp b o ++ flat_map (load_of bottom) ss) ≤ suc (length ss)
    go (Some r) (Some q) rest = omega (arith, rest)
    go (Some r) None rest = omega (arith, rest)
    go None None rest = omega (arith, rest)
    go None (Some q) rest = omega (arith, rest)

shifts_many : (made : List Move) (hs : List ℕ) → length (shifts made hs) ≡ length made
unfolding shifts
shifts_many [] hs = refl
shifts_many (m ∷ made) hs = ap suc (shifts_many made (slice_set hs m.to (slice_index hs m.from)))

-- a rising list has at each place at least the number of the place
rising_least : (rs : List ℕ) → IsRising rs → (i a : ℕ) → slice_get rs i ≡ Some a → i ≤ a
rising_least rs rises zero a e = omega arith
rising_least rs rises (suc i) a e =
    let b = before rs i a e in
    let below = rises i (suc i) b.0 a (omega arith) b.1 e in
    let rest = rising_least rs rises i b.0 b.1 in
    omega (arith, below, rest)
  where
    before : (xs : List ℕ) (i a : ℕ) → slice_get xs (suc i) ≡ Some a → (b : ℕ) × (slice_get xs i ≡ Some b)
    before [] i a e = absurd (cc)
    before (x ∷ xs) zero a e = (x, refl)
    before (x ∷ xs) (suc i) a e = before xs i a e

last_there : (rs : List ℕ) (n : ℕ) → length rs ≡ suc n → (a : ℕ) × (slice_get rs n ≡ Some a)
last_there [] n e = absurd (omega (arith, e))
last_there (x ∷ rs) zero e = (x, refl)
last_there (x ∷ rs) (suc n) e = last_there rs n (omega (arith, e))

filled_target : (moves : List Move) (r q : ℕ) → filled_from moves r ≡ Some q → (i : ℕ) × (m : Move) × (slice_get moves i ≡ Some m) × (m.to ≡ r)
filled_target [] r q e = absurd (cc)
filled_target (m ∷ ms) r q e = go (m.to == r) refl e (filled_target ms r q)
  where
    go : (b : Bool) → (m.to == r) ≡ b → (if b then Some m.from else filled_from ms r) ≡ Some q → (filled_from ms r ≡ Some q → (i : ℕ) × (x : Move) × (slice_get ms i ≡ Some x) × (x.to ≡ r)) → (i : ℕ) × (x : Move) × (slice_get (m ∷ ms) i ≡ Some x) × (x.to ≡ r)
    go true f g rest = (0, m, refl, eqb-true m.to r f)
    go false f g rest = let i = rest g in (suc i.0, i.1, i.2, i.3)

-- one goes back from a register to another one only where it is filled
comes_from : (moves : List Move) (k r q : ℕ) → back moves (suc k) r ≡ Some q → (p : ℕ) × (filled_from moves p ≡ Some q)
comes_from moves k r q e = go (back moves k r) e
  where
    go : (o : Option ℕ) → option_and_then (filled_from moves) o ≡ Some q → (p : ℕ) × (filled_from moves p ≡ Some q)
    go None e = absurd (cc)
    go (Some p) e = (p, e)

filled_source : (moves : List Move) (p q : ℕ) → filled_from moves p ≡ Some q → (i : ℕ) × (m : Move) × (slice_get moves i ≡ Some m) × (m.from ≡ q)
filled_source [] p q e = absurd (cc)
filled_source (m ∷ ms) p q e = go (m.to == p) e (filled_source ms p q)
  where
    go : (b : Bool) → (if b then Some m.from else filled_from ms p) ≡ Some q → (filled_from ms p ≡ Some q → (i : ℕ) × (x : Move) × (slice_get ms i ≡ Some x) × (x.from ≡ q)) → (i : ℕ) × (x : Move) × (slice_get (m ∷ ms) i ≡ Some x) × (x.from ≡ q)
    go true g rest = (0, m, refl, cc)
    go false g rest = let i = rest g in (suc i.0, i.1, i.2, i.3)

module _ (bottom top : List TempPlace) (live need : List Bool) (code : List Transfer) (is : IsCodeBetween bottom top live need code) (mb : IsMap bottom) (mt : IsMap top) where
  cycles_few : length is.long.cycles ≤ 26
  cycles_few = by (length is.long.cycles) refl
    where
      by : (n : ℕ) → length is.long.cycles ≡ n → length is.long.cycles ≤ 26
      by zero e = omega (arith, e)
      by (suc n) e =
          let last = last_there is.long.cycles n e in
          let least = rising_least is.long.cycles is.long.are.rising n last.0 last.1 in
          let begins = (is.long.are.each last.0).0 (there is.long.cycles n last.0 last.1) in
          let from = comes_from (flat_map (move_of bottom) top) begins.on.steps last.0 last.0 begins.on.comes_back in
          let m = filled_source (flat_map (move_of bottom) top) from.0 last.0 from.1 in
          let low = (move_given bottom top m.0 m.1 mb mt m.2).0 in
          let same = m.3 in
          omega (arith, e, least, low, same)
        where
          there : (xs : List ℕ) (k a : ℕ) → slice_get xs k ≡ Some a → Contains xs a
          there [] k a e = absurd (cc)
          there (x ∷ xs) zero a e = (0, omega arith, cc)
          there (x ∷ xs) (suc k) a e = let i = there xs k a e in let within = i.1 in (suc i.0, omega (arith, within), i.2)

  pub code_few : length code ≤ 78
  code_few =
      let all = ap (λ z. length z) is.is in
      let outer = length_both (flat_map (store_of live need top) bottom ++ shifts is.made is.holders) (flat_map (load_of bottom) top) in
      let inner = length_both (flat_map (store_of live need top) bottom) (shifts is.made is.holders) in
      let stores = stores_few live need top bottom in
      let both = both_few bottom top in
      let made = shifts_many is.made is.holders in
      let long = is.long.long in
      let counted = count_by-le-length is_between (flat_map (move_of bottom) top) in
      let cycles = cycles_few in
      let few = mb.few in
      let also = mt.few in
      omega (arith, all, outer, inner, stores, both, made, long, counted, cycles, few, also)
    where
      length_both : (xs ys : List Transfer) → length (xs ++ ys) ≡ length xs + length ys
      length_both [] ys = omega arith
      length_both (x ∷ xs) ys = let rest = length_both xs ys in omega (arith, rest)

  names : All NamesGiven code
  names = subst (All NamesGiven) (sym is.is)
      (All-append NamesGiven (flat_map (store_of live need top) bottom ++ shifts is.made is.holders) (flat_map (load_of bottom) top)
      (All-append NamesGiven (flat_map (store_of live need top) bottom) (shifts is.made is.holders)
      (stores_named live need top bottom mb.given) (shifts_named is.made is.holders (made_low bottom top is.made mb mt is.moves)))
      (loads_named bottom top mt.given))

  pub code_given : (temps : ℕ) → ((t : ℕ) → has live t ≡ true → t < temps) → ((i : ℕ) (s : TempPlace) → slice_get top i ≡ Some s → has live s.temp ≡ true) → All (IsTransfer temps IsGivenOrScratch) code
  code_given temps bounded listed =
      let low = asks_below temps code known (λ t q k. bounded t k.0) (edge_asks bottom top live need code is mb mt known (λ t lv. (lv, refl)) listed) in
      λ k d within. (low k d within, names k d within)
    where
      known : HolderPlaces
      known (Temp t) q = (has live t ≡ true) × (q ≡ place_for t (register_for bottom t))
      known n q = ⊥
