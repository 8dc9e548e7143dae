-- The maps of a scan.
use Rattle.std.proofs.Common.{◌≡◌, ℕ, zero, suc, ◌+◌, ◌<◌, ◌≤◌, ◌==◌, nat_lt, List, [], ◌∷◌, ◌++◌, Bool, true, false, Option, Some, None, if◌then◌else◌, refl, sym, ap, ◌∙◌, subst, length, arith}
use Rattle.std.specs.Prelude.{All, find, slice_get, slice_index_or}
use Rattle.std.proofs.lemmas.Bool.{ltb-true, ltb-false}
use Rattle.alloc_model.specs.declared.allocation.Loc.TheVariants as loc
use Rattle.alloc_model.specs.declared.allocation.TempPlace.{TempPlace}
use Rattle.alloc_model.specs.Needs.{top_place, named_place}
use Rattle.alloc_model.specs.Faithful.{IsStanding, IsOwnPlace}
use Rattle.binpack_blocks.specs.declared.held.Held.{Held}
use Rattle.binpack_blocks.specs.model.Bins.{Bins, held_in, has_temp}
use Rattle.binpack_blocks.specs.model.Tops.{is_listed, places_from}
use Rattle.binpack_scan.specs.model.Edges.{register_at, register_for, IsMap, AreInSets, AreMaps}
use Rattle.binpack_scan.specs.model.Made.{IsMapOf}
use Rattle.binpack_blocks.proofs.Holders.{temp_there}
use Rattle.binpack_scan.proofs.Tops.{named_there}
use Rattle.binpack_scan.proofs.EdgeSteps.{place_for}
use Rattle.binpack_scan.proofs.Lists.{is_given}

-- the register of a temporary by what is found of it
register_found : Option TempPlace → Option ℕ
register_found None = None
register_found (Some s) = register_at s.place

for_found : (ss : List TempPlace) (t : ℕ) → register_for ss t ≡ register_found (find (λ (s : TempPlace). s.temp == t) ss)
unfolding register_found
for_found [] t = refl
for_found (s ∷ ss) t = go (s.temp == t) (for_found ss t)
  where
    go : (b : Bool) → register_for ss t ≡ register_found (find (λ (s : TempPlace). s.temp == t) ss) → (if b then register_at s.place else register_for ss t) ≡ register_found (if b then Some s else find (λ (s : TempPlace). s.temp == t) ss)
    go true e = refl
    go false e = e

-- ---- what a map names

-- what stands in a map stands in a register
pub record IsEntry (live : ℕ → Bool) (r : ℕ) (bins : Bins) (s : TempPlace) : Type 0 where
  pub q : ℕ
  pub within : q < length bins
  pub place : s.place ≡ loc.Reg (r + q)
  pub has : has_temp (held_in bins q) s.temp ≡ true
  pub listed : live s.temp ≡ true

next_entry : (live : ℕ → Bool) (r : ℕ) (o : Option Held) (bins : Bins) (s : TempPlace) → IsEntry live (suc r) bins s → IsEntry live r (o ∷ bins) s
next_entry live r o bins s e = record {
  q = suc e.q;
  within = let low = e.within in omega (arith, low);
  place = e.place ∙ ap loc.Reg (let same : suc r + e.q ≡ r + suc e.q = omega arith in same);
  has = e.has;
  listed = e.listed;
}

first_entry : (live : ℕ → Bool) (r : ℕ) (h : Held) (bins : Bins) → live h.temp ≡ true → IsEntry live r (Some h ∷ bins) (record { temp = h.temp; place = loc.Reg r })
first_entry live r h bins listed = record {
  q = 0;
  within = omega arith;
  place = ap loc.Reg (let same : r ≡ r + 0 = omega arith in same);
  has = temp_there h;
  listed = listed;
}

one_entry : (s u : TempPlace) → Some s ≡ Some u → s ≡ u
one_entry s u e = cc

pub entry_of : (live : ℕ → Bool) (r : ℕ) (bins : Bins) (i : ℕ) (s : TempPlace) → slice_get (places_from live r bins) i ≡ Some s → IsEntry live r bins s
entry_of live r [] i s e = absurd (cc)
entry_of live r (None ∷ bins) i s e = next_entry live r None bins s (entry_of live (suc r) bins i s e)
entry_of live r (Some h ∷ bins) i s e = go (live h.temp) refl i e (λ k f. next_entry live r (Some h) bins s (entry_of live (suc r) bins k s f))
  where
    go : (b : Bool) → live h.temp ≡ b → (i : ℕ) → slice_get ((if b then record { temp = h.temp; place = loc.Reg r } ∷ [] else []) ++ places_from live (suc r) bins) i ≡ Some s → ((k : ℕ) → slice_get (places_from live (suc r) bins) k ≡ Some s → IsEntry live r (Some h ∷ bins) s) → IsEntry live r (Some h ∷ bins) s
    go true f zero g rest = subst (IsEntry live r (Some h ∷ bins)) (one_entry (record { temp = h.temp; place = loc.Reg r }) s g) (first_entry live r h bins f)
    go true f (suc k) g rest = rest k g
    go false f k g rest = rest k g

-- no two have one register
pub places_apart : (live : ℕ → Bool) (r : ℕ) (bins : Bins) (i j p : ℕ) (s u : TempPlace) → slice_get (places_from live r bins) i ≡ Some s → slice_get (places_from live r bins) j ≡ Some u →
    register_at s.place ≡ Some p → register_at u.place ≡ Some p → i ≡ j
places_apart live r [] i j p s u e f g k = absurd (cc)
places_apart live r (None ∷ bins) i j p s u e f g k = places_apart live (suc r) bins i j p s u e f g k
places_apart live r (Some h ∷ bins) i j p s u e f g k = go (live h.temp) refl i j e f (λ i j e f. places_apart live (suc r) bins i j p s u e f g k)
  where
    clash : (n : ℕ) (v w : TempPlace) → record { temp = h.temp; place = loc.Reg r } ≡ v → slice_get (places_from live (suc r) bins) n ≡ Some w → register_at v.place ≡ Some p → register_at w.place ≡ Some p → ⊥
    clash n v w same x y z =
        let first : p ≡ r = one (sym y ∙ ap (λ (t : TempPlace). register_at t.place) (sym same)) in
        let q = entry_of live (suc r) bins n w x in
        let later : p ≡ suc r + q.q = one (sym z ∙ ap register_at q.place) in
        omega (arith, first, later)
      where
        one : {a b : ℕ} → Some a ≡ Some b → a ≡ b
        one d = cc

    go : (b : Bool) → live h.temp ≡ b → (i j : ℕ) → slice_get ((if b then record { temp = h.temp; place = loc.Reg r } ∷ [] else []) ++ places_from live (suc r) bins) i ≡ Some s → slice_get ((if b then record { temp = h.temp; place = loc.Reg r } ∷ [] else []) ++ places_from live (suc r) bins) j ≡ Some u →
        ((i j : ℕ) → slice_get (places_from live (suc r) bins) i ≡ Some s → slice_get (places_from live (suc r) bins) j ≡ Some u → i ≡ j) → i ≡ j
    go true b zero zero e f rest = refl
    go true b zero (suc j) e f rest = absurd (clash j s u (one_entry _ s e) f g k)
    go true b (suc i) zero e f rest = absurd (clash i u s (one_entry _ u f) e k g)
    go true b (suc i) (suc j) e f rest = ap suc (rest i j e f)
    go false b i j e f rest = rest i j e f

pub places_few : (live : ℕ → Bool) (r : ℕ) (bins : Bins) → length (places_from live r bins) ≤ length bins
places_few live r [] = omega arith
places_few live r (None ∷ bins) = let rest = places_few live (suc r) bins in omega (arith, rest)
places_few live r (Some h ∷ bins) = go (live h.temp) (places_few live (suc r) bins)
  where
    go : (b : Bool) → length (places_from live (suc r) bins) ≤ length bins → length ((if b then record { temp = h.temp; place = loc.Reg r } ∷ [] else []) ++ places_from live (suc r) bins) ≤ suc (length bins)
    go true rest = omega (arith, rest)
    go false rest = omega (arith, rest)

-- ---- a map of a scan

module _ (temps : ℕ) (all : Bool) (live : List Bool) (places : List TempPlace) (map : IsMapOf temps all live places) where
  pub an_entry : (i : ℕ) (s : TempPlace) → slice_get places i ≡ Some s → IsEntry (is_listed all live) 0 map.bins s
  an_entry i s e = entry_of (is_listed all live) 0 map.bins i s (ap (λ z. slice_get z i) (sym map.is) ∙ e)

  pub its_temp : (i : ℕ) (s : TempPlace) → slice_get places i ≡ Some s → s.temp < temps
  its_temp i s e = let q = an_entry i s e in map.are.inside q.q s.temp q.has

  its_register : (i : ℕ) (s : TempPlace) → slice_get places i ≡ Some s → (q : ℕ) × (q < 26) × (s.place ≡ loc.Reg q)
  its_register i s e =
      let q = an_entry i s e in
      (q.q, (let within = q.within in let many = map.are.many in omega (arith, within, many)), q.place ∙ ap loc.Reg (let same : 0 + q.q ≡ q.q = omega arith in same))

  pub is_map : IsMap places
  unfolding register_found
  is_map = record {
    few = subst (λ z. length z ≤ 26) (sym map.is) (let few = places_few (is_listed all live) 0 map.bins in let many = map.are.many in omega (arith, few, many));
    apart = λ i j r s u e f g k. places_apart (is_listed all live) 0 map.bins i j r s u (ap (λ z. slice_get z i) (sym map.is) ∙ e) (ap (λ z. slice_get z j) (sym map.is) ∙ f) g k;
    own = λ i s e.
        let q = an_entry i s e in
        ap (λ z. register_for z s.temp) map.is ∙ for_found (places_from (is_listed all live) 0 map.bins) s.temp
        ∙ ap register_found (named_there (is_listed all live) s.temp map.bins 0 q.q map.are.once q.has q.listed)
        ∙ sym (ap register_at q.place);
    given = λ i r s e f.
        let q = its_register i s e in
        subst (λ n. n < 26) (one q.0 r (sym (ap register_at q.2) ∙ f)) q.1;
  }
    where
      one : (a b : ℕ) → Some a ≡ Some b → a ≡ b
      one a b d = cc

  pub all_standing : All (IsStanding temps) places
  all_standing k d within =
      let e = there places k d within in
      let q = its_register k (slice_index_or places k d) e in
      (its_temp k (slice_index_or places k d) e, subst (IsOwnPlace (slice_index_or places k d).temp) (sym q.2) (is_given q.0 q.1))
    where
      there : (xs : List TempPlace) (k : ℕ) (d : TempPlace) → k < length xs → slice_get xs k ≡ Some (slice_index_or xs k d)
      there [] k d w = absurd (omega (arith, w))
      there (x ∷ xs) zero d w = refl
      there (x ∷ xs) (suc k) d w = there xs k d (omega (arith, w))

  -- where a temporary is by the map
  pub place_named : (t : ℕ) → named_place t (find (λ (s : TempPlace). s.temp == t) places) ≡ place_for t (register_for places t)
  place_named t = go places (λ i s e. let q = its_register i s e in (q.0, q.2))
    where
      go : (ss : List TempPlace) → ((i : ℕ) (s : TempPlace) → slice_get ss i ≡ Some s → (q : ℕ) × (s.place ≡ loc.Reg q)) → named_place t (find (λ (s : TempPlace). s.temp == t) ss) ≡ place_for t (register_for ss t)
      go [] registers = refl
      go (s ∷ ss) registers = by (s.temp == t) (go ss (λ i. registers (suc i)))
        where
          here : (q : ℕ) × (s.place ≡ loc.Reg q) → top_place s.place ≡ place_for t (register_at s.place)
          here (q, e) = ap top_place e ∙ sym (ap (λ p. place_for t (register_at p)) e)

          by : (b : Bool) → named_place t (find (λ (s : TempPlace). s.temp == t) ss) ≡ place_for t (register_for ss t) → named_place t (if b then Some s else find (λ (s : TempPlace). s.temp == t) ss) ≡ place_for t (if b then register_at s.place else register_for ss t)
          by true rest = here (registers 0 s refl)
          by false rest = rest

pub no_places : IsMap []
no_places = record {
  few = omega arith;
  apart = λ i j r s u e f g k. absurd (cc);
  own = λ i s e. absurd (cc);
  given = λ i r s e f. absurd (cc);
}

pub past_empty : {A : Type 0} (xs : List (List A)) (k : ℕ) → length xs ≤ k → slice_index_or xs k [] ≡ []
past_empty [] k past = refl
past_empty (x ∷ xs) zero past = absurd (omega (arith, past))
past_empty (x ∷ xs) (suc k) past = past_empty xs k (omega (arith, past))

-- the maps of all blocks
pub are_maps : (temps done : ℕ) (all : Bool) (tops : List (List Bool)) (maps : List (List TempPlace)) (sets : List (List Bool)) → length maps ≡ done → length sets ≡ done →
    ((b : ℕ) → b < done → IsMapOf temps all (slice_index_or tops b []) (slice_index_or maps b [])) → ((b : ℕ) → b < done → length (slice_index_or sets b []) ≡ temps) → AreMaps maps sets
are_maps temps done all tops maps sets size sets_size of bounds = record {
  each = λ b. each b (nat_lt b done) refl;
  inside = λ b. inside b (nat_lt b done) refl;
}
  where
    empty : (b : ℕ) → nat_lt b done ≡ false → slice_index_or maps b [] ≡ []
    empty b e = past_empty maps b (let past = ltb-false b done e in omega (arith, past, size))

    each : (b : ℕ) (c : Bool) → nat_lt b done ≡ c → IsMap (slice_index_or maps b [])
    each b true e = is_map temps all (slice_index_or tops b []) (slice_index_or maps b []) (of b (ltb-true b done e))
    each b false e = subst IsMap (sym (empty b e)) no_places

    inside : (b : ℕ) (c : Bool) → nat_lt b done ≡ c → AreInSets (slice_index_or maps b []) sets
    inside b true e i block s is low =
        let bound = bounds block (omega (arith, low, sets_size)) in
        let its = its_temp temps all (slice_index_or tops b []) (slice_index_or maps b []) (of b (ltb-true b done e)) i s is in
        omega (arith, bound, its)
    inside b false e i block s is low = nothing (ap (λ z. slice_get z i) (sym (empty b e)) ∙ is)
      where
        nothing : {A : Type 0} → slice_get [] i ≡ Some s → A
        nothing f = absurd (cc)
