-- What the stores, shifts and loads of an edge do to what is held.
use Rattle.std.proofs.Common.{◌≡◌, ◌≢◌, ℕ, zero, suc, ◌<◌, ◌==◌, ◌&&◌, ◌||◌, List, [], ◌∷◌, ◌++◌, Bool, true, false, Option, Some, None, if◌then◌else◌, refl, sym, ap, ◌∙◌, inl, inr, subst, ⊎_elim, length, arith}
use Rattle.std.specs.Prelude.{slice_get, slice_set, slice_index, flat_map}
use Rattle.std.proofs.lemmas.List.{length-set, get_or-set_same, get_or-set_other}
use Rattle.std.proofs.lemmas.Bool.{eqb-true, eq-eqb, ne_eqb}
use Rattle.std.proofs.lemmas.Option.{slice_get_within}
use Rattle.bk_bits.specs.Sets.{has}
use Rattle.par_move.specs.declared.moves.Move.{Move}
use Rattle.par_move.specs.Moves.{RegisterContents, with_content, moved, Carries}
use Rattle.alloc_model.specs.declared.allocation.TempPlace.{TempPlace}
use Rattle.alloc_model.specs.declared.allocation.Transfer.{Transfer}
use Rattle.alloc_model.specs.Effect.{Holder, Temp}
use Rattle.alloc_model.specs.Places.{Place, Reg, Slot}
use Rattle.alloc_model.specs.Faithful.{HolderPlaces, stands, move_all, MovesAsk}
use Rattle.binpack_scan.specs.model.Edges.{register_at, register_for, is_none, is_stored, store_with, store_of, load_with, load_of, move_of, shifts, IsMap, IsCodeBetween}
use Rattle.binpack_blocks.proofs.Holders.{same_or_not}
use Rattle.binpack_scan.proofs.Moves.{slot_no_register, register_no_slot, other_registers, other_slots, moves_in_turn, asks_in_turn}
use Rattle.binpack_scan.proofs.EdgeMoves.{one_place, for_there, move_in, move_there, made_low, low_named}

-- ---- one transfer

-- a slot that has its temporary has it still behind a store
stands_own : (t m : ℕ) (h : HolderPlaces) → h (Temp m) (Slot m) → stands (Temp t) (Slot t) h (Temp m) (Slot m)
stands_own t m h k = ⊎_elim
    (λ (e : m ≡ t). inr (ap Temp e, ap Slot e))
    (λ (ne : m ≢ t). inl (k, other_slots m t ne))
    (same_or_not m t)

first_true : (b c : Bool) → (b && c) ≡ true → b ≡ true
first_true true c e = refl
first_true false c e = absurd (cc)

-- ---- the stores

module _ (live need : List Bool) (top : List TempPlace) where
  stores_regs : (ss : List TempPlace) (h : HolderPlaces) (m : Holder) (r : ℕ) → h m (Reg r) → move_all (flat_map (store_of live need top) ss) h m (Reg r)
  stores_regs [] h m r k = k
  stores_regs (s ∷ ss) h m r k = go (is_stored (has live s.temp) (has need s.temp) (register_for top s.temp)) (register_at s.place) (λ g. stores_regs ss g m r)
    where
      go : (b : Bool) (o : Option ℕ) → ((g : HolderPlaces) → g m (Reg r) → move_all (flat_map (store_of live need top) ss) g m (Reg r)) → move_all (store_with b s.temp o ++ flat_map (store_of live need top) ss) h m (Reg r)
      go false o rest = rest h k
      go true None rest = rest h k
      go true (Some q) rest = rest (stands (Temp s.temp) (Slot s.temp) h) (inl (k, register_no_slot r s.temp))

  stores_slots : (ss : List TempPlace) (h : HolderPlaces) (t : ℕ) → h (Temp t) (Slot t) → move_all (flat_map (store_of live need top) ss) h (Temp t) (Slot t)
  stores_slots [] h t k = k
  stores_slots (s ∷ ss) h t k = go (is_stored (has live s.temp) (has need s.temp) (register_for top s.temp)) (register_at s.place) (λ g. stores_slots ss g t)
    where
      go : (b : Bool) (o : Option ℕ) → ((g : HolderPlaces) → g (Temp t) (Slot t) → move_all (flat_map (store_of live need top) ss) g (Temp t) (Slot t)) → move_all (store_with b s.temp o ++ flat_map (store_of live need top) ss) h (Temp t) (Slot t)
      go false o rest = rest h k
      go true None rest = rest h k
      go true (Some q) rest = rest (stands (Temp s.temp) (Slot s.temp) h) (stands_own s.temp t h k)

  stores_ask : (ss : List TempPlace) (h : HolderPlaces) → ((i r : ℕ) (s : TempPlace) → slice_get ss i ≡ Some s → register_at s.place ≡ Some r → has live s.temp ≡ true → h (Temp s.temp) (Reg r)) → MovesAsk (flat_map (store_of live need top) ss) h
  stores_ask [] h k = tt
  stores_ask (s ∷ ss) h k = go (is_stored (has live s.temp) (has need s.temp) (register_for top s.temp)) (register_at s.place) refl refl
      (λ g e. stores_ask ss g e)
    where
      Tail : HolderPlaces → Type 0
      Tail g = (i r : ℕ) (u : TempPlace) → slice_get ss i ≡ Some u → register_at u.place ≡ Some r → has live u.temp ≡ true → g (Temp u.temp) (Reg r)

      go : (b : Bool) (o : Option ℕ) → is_stored (has live s.temp) (has need s.temp) (register_for top s.temp) ≡ b → register_at s.place ≡ o → ((g : HolderPlaces) → Tail g → MovesAsk (flat_map (store_of live need top) ss) g) → MovesAsk (store_with b s.temp o ++ flat_map (store_of live need top) ss) h
      go false o e f rest = rest h (λ i r u x y z. k (suc i) r u x y z)
      go true None e f rest = rest h (λ i r u x y z. k (suc i) r u x y z)
      go true (Some q) e f rest = (
        k 0 q s refl f (first_true (has live s.temp) (has need s.temp || is_none (register_for top s.temp)) e),
        rest (stands (Temp s.temp) (Slot s.temp) h) (λ i r u x y z. inl (k (suc i) r u x y z, register_no_slot r s.temp)),
      )

  stores_there : (ss : List TempPlace) (h : HolderPlaces) (i r : ℕ) (s : TempPlace) → slice_get ss i ≡ Some s → register_at s.place ≡ Some r → is_stored (has live s.temp) (has need s.temp) (register_for top s.temp) ≡ true → move_all (flat_map (store_of live need top) ss) h (Temp s.temp) (Slot s.temp)
  stores_there [] h i r s e f g = absurd (cc)
  stores_there (u ∷ ss) h zero r s e f g =
      let v : s ≡ u = cc in
      subst (λ (z : TempPlace). move_all (store_of live need top z ++ flat_map (store_of live need top) ss) h (Temp s.temp) (Slot s.temp)) v
      (subst (λ b. move_all (store_with b s.temp (register_at s.place) ++ flat_map (store_of live need top) ss) h (Temp s.temp) (Slot s.temp)) (sym g)
      (subst (λ o. move_all (store_with true s.temp o ++ flat_map (store_of live need top) ss) h (Temp s.temp) (Slot s.temp)) (sym f)
      (stores_slots ss (stands (Temp s.temp) (Slot s.temp) h) s.temp (inr (refl, refl)))))
  stores_there (u ∷ ss) h (suc i) r s e f g = go (is_stored (has live u.temp) (has need u.temp) (register_for top u.temp)) (register_at u.place) (λ h. stores_there ss h i r s e f g)
    where
      go : (b : Bool) (o : Option ℕ) → ((h : HolderPlaces) → move_all (flat_map (store_of live need top) ss) h (Temp s.temp) (Slot s.temp)) → move_all (store_with b u.temp o ++ flat_map (store_of live need top) ss) h (Temp s.temp) (Slot s.temp)
      go false o rest = rest h
      go true None rest = rest h
      go true (Some q) rest = rest (stands (Temp u.temp) (Slot u.temp) h)

-- ---- the loads

module _ (bottom : List TempPlace) where
  loads_slots : (ss : List TempPlace) (h : HolderPlaces) (m : Holder) (u : ℕ) → h m (Slot u) → move_all (flat_map (load_of bottom) ss) h m (Slot u)
  loads_slots [] h m u k = k
  loads_slots (s ∷ ss) h m u k = go (register_for bottom s.temp) (register_at s.place) (λ g. loads_slots ss g m u)
    where
      go : (b p : Option ℕ) → ((g : HolderPlaces) → g m (Slot u) → move_all (flat_map (load_of bottom) ss) g m (Slot u)) → move_all (load_with s.temp b p ++ flat_map (load_of bottom) ss) h m (Slot u)
      go (Some r) p rest = rest h k
      go None None rest = rest h k
      go None (Some q) rest = rest (stands (Temp s.temp) (Reg q) h) (inl (k, slot_no_register u q))

  loads_ask : (ss : List TempPlace) (h : HolderPlaces) → ((i : ℕ) (s : TempPlace) → slice_get ss i ≡ Some s → register_for bottom s.temp ≡ None → h (Temp s.temp) (Slot s.temp)) → MovesAsk (flat_map (load_of bottom) ss) h
  loads_ask [] h k = tt
  loads_ask (s ∷ ss) h k = go (register_for bottom s.temp) (register_at s.place) refl (λ g e. loads_ask ss g e)
    where
      Tail : HolderPlaces → Type 0
      Tail g = (i : ℕ) (u : TempPlace) → slice_get ss i ≡ Some u → register_for bottom u.temp ≡ None → g (Temp u.temp) (Slot u.temp)

      go : (b p : Option ℕ) → register_for bottom s.temp ≡ b → ((g : HolderPlaces) → Tail g → MovesAsk (flat_map (load_of bottom) ss) g) → MovesAsk (load_with s.temp b p ++ flat_map (load_of bottom) ss) h
      go (Some r) p e rest = rest h (λ i u x y. k (suc i) u x y)
      go None None e rest = rest h (λ i u x y. k (suc i) u x y)
      go None (Some q) e rest = (k 0 s refl e, rest (stands (Temp s.temp) (Reg q) h) (λ i u x y. inl (k (suc i) u x y, slot_no_register u.temp q)))

  -- a register that has what the top wants there has it still
  loads_regs : (ss : List TempPlace) (h : HolderPlaces) (t q : ℕ) → h (Temp t) (Reg q) → ((i : ℕ) (s : TempPlace) → slice_get ss i ≡ Some s → register_at s.place ≡ Some q → s.temp ≡ t) → move_all (flat_map (load_of bottom) ss) h (Temp t) (Reg q)
  loads_regs [] h t q k only = k
  loads_regs (s ∷ ss) h t q k only = go (register_for bottom s.temp) (register_at s.place) refl (λ g e. loads_regs ss g t q e (λ i u. only (suc i) u))
    where
      go : (b p : Option ℕ) → register_at s.place ≡ p → ((g : HolderPlaces) → g (Temp t) (Reg q) → move_all (flat_map (load_of bottom) ss) g (Temp t) (Reg q)) → move_all (load_with s.temp b p ++ flat_map (load_of bottom) ss) h (Temp t) (Reg q)
      go (Some r) p f rest = rest h k
      go None None f rest = rest h k
      go None (Some b) f rest = rest (stands (Temp s.temp) (Reg b) h) (⊎_elim
          (λ (v : q ≡ b). inr (ap Temp (sym (only 0 s refl (f ∙ ap Some (sym v)))), ap Reg v))
          (λ (v : q ≢ b). inl (k, other_registers q b v)) (same_or_not q b))

  loads_there : (ss : List TempPlace) (h : HolderPlaces) (i q : ℕ) (s : TempPlace) → slice_get ss i ≡ Some s → register_for bottom s.temp ≡ None → register_at s.place ≡ Some q → ((j : ℕ) (u : TempPlace) → slice_get ss j ≡ Some u → register_at u.place ≡ Some q → u.temp ≡ s.temp) → move_all (flat_map (load_of bottom) ss) h (Temp s.temp) (Reg q)
  loads_there [] h i q s e f g only = absurd (cc)
  loads_there (u ∷ ss) h zero q s e f g only =
      let v : s ≡ u = cc in
      subst (λ (z : TempPlace). move_all (load_of bottom z ++ flat_map (load_of bottom) ss) h (Temp s.temp) (Reg q)) v
      (subst (λ b. move_all (load_with s.temp b (register_at s.place) ++ flat_map (load_of bottom) ss) h (Temp s.temp) (Reg q)) (sym f)
      (subst (λ p. move_all (load_with s.temp None p ++ flat_map (load_of bottom) ss) h (Temp s.temp) (Reg q)) (sym g)
      (loads_regs ss (stands (Temp s.temp) (Reg q) h) s.temp q (inr (refl, refl)) (λ j z. only (suc j) z))))
  loads_there (u ∷ ss) h (suc i) q s e f g only = go (register_for bottom u.temp) (register_at u.place) (λ h. loads_there ss h i q s e f g (λ j z. only (suc j) z))
    where
      go : (b p : Option ℕ) → ((h : HolderPlaces) → move_all (flat_map (load_of bottom) ss) h (Temp s.temp) (Reg q)) → move_all (load_with u.temp b p ++ flat_map (load_of bottom) ss) h (Temp s.temp) (Reg q)
      go (Some r) p rest = rest h
      go None None rest = rest h
      go None (Some b) rest = rest (stands (Temp u.temp) (Reg b) h)

-- ---- the shifts

shifts_slots : (made : List Move) (hs : List ℕ) (h : HolderPlaces) (m : Holder) (u : ℕ) → h m (Slot u) → move_all (shifts made hs) h m (Slot u)
unfolding shifts
shifts_slots [] hs h m u k = k
shifts_slots (x ∷ made) hs h m u k = shifts_slots made (slice_set hs x.to (slice_index hs x.from)) (stands (Temp (slice_index hs x.from)) (Reg x.to) h) m u (inl (k, slot_no_register u x.to))

content_same : {C : Type 0} (r : ℕ) (c : C) (s : RegisterContents C) → with_content r c s r ≡ c
content_same r c s = ap (λ b. if b then c else s r) (eq-eqb r r refl)

content_other : {C : Type 0} (r q : ℕ) (c : C) (s : RegisterContents C) → q ≢ r → with_content r c s q ≡ s q
content_other r q c s ne = ap (λ b. if b then c else s q) (ne_eqb q r ne)

-- marked registers hold what the table says
record Marked (hs : List ℕ) (s marks : RegisterContents ℕ) (h : HolderPlaces) : Type 0 where
  many : length hs ≡ 256
  table : (r : ℕ) → r < 256 → slice_index hs r ≡ s r
  held : (r : ℕ) → marks r ≡ 1 → h (Temp (s r)) (Reg r)

is_marked : ℕ → Bool
is_marked n = n == 1

one_shift : (m : Move) (hs : List ℕ) (s marks : RegisterContents ℕ) (h : HolderPlaces) → m.from < 256 → m.to < 256 → marks m.from ≡ 1 → Marked hs s marks h →
    Marked (slice_set hs m.to (slice_index hs m.from)) (with_content m.to (s m.from) s) (with_content m.to (marks m.from) marks) (stands (Temp (slice_index hs m.from)) (Reg m.to) h)
one_shift m hs s marks h w v e k = record {
  many = length-set hs m.to (slice_index hs m.from) ∙ k.many;
  table = λ r u. ⊎_elim
      (λ (f : r ≡ m.to). subst (λ z. slice_index (slice_set hs m.to (slice_index hs m.from)) z ≡ with_content m.to (s m.from) s z) (sym f)
      (get_or-set_same hs m.to (slice_index hs m.from) 0 (let a = k.many in omega (arith, a, v)) ∙ k.table m.from w ∙ sym (content_same m.to (s m.from) s)))
      (λ (f : r ≢ m.to). get_or-set_other hs m.to r (slice_index hs m.from) 0 f ∙ k.table r u ∙ sym (content_other m.to r (s m.from) s f)) (same_or_not r m.to);
  held = λ r f. ⊎_elim
      (λ (g : r ≡ m.to). inr (ap Temp (ap (with_content m.to (s m.from) s) g ∙ content_same m.to (s m.from) s ∙ sym (k.table m.from w)), ap Reg g))
      (λ (g : r ≢ m.to). inl (subst (λ z. h (Temp z) (Reg r)) (sym (content_other m.to r (s m.from) s g)) (k.held r (sym (content_other m.to r (marks m.from) marks g) ∙ f)), other_registers r m.to g)) (same_or_not r m.to);
}

shifts_hold : (made : List Move) (hs : List ℕ) (s marks : RegisterContents ℕ) (h : HolderPlaces) → ((i : ℕ) (m : Move) → slice_get made i ≡ Some m → (m.from < 256) × (m.to < 256)) → Carries is_marked made marks → Marked hs s marks h →
    MovesAsk (shifts made hs) h × ((r : ℕ) → moved made marks r ≡ 1 → move_all (shifts made hs) h (Temp (moved made s r)) (Reg r))
unfolding shifts is_marked
shifts_hold [] hs s marks h named c k = (tt, k.held)
shifts_hold (m ∷ made) hs s marks h named c k =
    let n = named 0 m refl in
    let one : marks m.from ≡ 1 = eqb-true (marks m.from) 1 c.0 in
    let i = shifts_hold made (slice_set hs m.to (slice_index hs m.from)) (with_content m.to (s m.from) s) (with_content m.to (marks m.from) marks) (stands (Temp (slice_index hs m.from)) (Reg m.to) h) (λ j z. named (suc j) z) c.1 (one_shift m hs s marks h n.0 n.1 one k) in
    ((subst (λ z. h (Temp z) (Reg m.from)) (sym (k.table m.from n.0)) (k.held m.from one), i.0), i.1)

-- the sources of moves
marks_of : List Move → ℕ → ℕ
marks_of [] r = 0
marks_of (m ∷ ms) r = if m.from == r then 1 else marks_of ms r

mark_there : (ms : List Move) (i : ℕ) (m : Move) → slice_get ms i ≡ Some m → marks_of ms m.from ≡ 1
unfolding marks_of
mark_there [] i m e = absurd (cc)
mark_there (x ∷ ms) zero m e = let v : x.from ≡ m.from = (let z : x ≡ m = cc in ap (λ (y : Move). y.from) z) in ap (λ b. if b then 1 else marks_of ms m.from) (eq-eqb x.from m.from v)
mark_there (x ∷ ms) (suc i) m e = go (x.from == m.from) (mark_there ms i m e)
  where
    go : (b : Bool) → marks_of ms m.from ≡ 1 → (if b then 1 else marks_of ms m.from) ≡ 1
    go true f = refl
    go false f = f

mark_from : (ms : List Move) (r : ℕ) → marks_of ms r ≡ 1 → (i : ℕ) × (m : Move) × (slice_get ms i ≡ Some m) × (m.from ≡ r)
unfolding marks_of
mark_from [] r e = absurd (omega (arith, e))
mark_from (x ∷ ms) r e = go (x.from == r) refl e (mark_from ms r)
  where
    go : (b : Bool) → (x.from == r) ≡ b → (if b then 1 else marks_of ms r) ≡ 1 → (marks_of ms r ≡ 1 → (i : ℕ) × (m : Move) × (slice_get ms i ≡ Some m) × (m.from ≡ r)) → (i : ℕ) × (m : Move) × (slice_get (x ∷ ms) i ≡ Some m) × (m.from ≡ r)
    go true f g rest = (0, x, refl, eqb-true x.from r f)
    go false f g rest = let i = rest g in (suc i.0, i.1, i.2, i.3)

-- ---- the edge

-- the place of a temporary that has a register, or its slot
abbrev pub place_for : (t : ℕ) → Option ℕ → Place
place_for t None = Slot t
place_for t (Some r) = Reg r

or_true : (b : Bool) → (b || true) ≡ true
or_true true = refl
or_true false = refl

module _ (bottom top : List TempPlace) (live need : List Bool) (code : List Transfer) (is : IsCodeBetween bottom top live need code) (mb : IsMap bottom) (mt : IsMap top) (h : HolderPlaces)
    (there : (t : ℕ) → has live t ≡ true → h (Temp t) (place_for t (register_for bottom t)))
    (tops_live : (i : ℕ) (s : TempPlace) → slice_get top i ≡ Some s → has live s.temp ≡ true) where
  abbrev stores : List Transfer
  stores = flat_map (store_of live need top) bottom

  abbrev loads : List Transfer
  loads = flat_map (load_of bottom) top

  abbrev moves : List Move
  moves = flat_map (move_of bottom) top

  in_register : (t r : ℕ) → has live t ≡ true → register_for bottom t ≡ Some r → h (Temp t) (Reg r)
  in_register t r lv e = subst (λ o. h (Temp t) (place_for t o)) e (there t lv)

  in_slot : (t : ℕ) → has live t ≡ true → register_for bottom t ≡ None → h (Temp t) (Slot t)
  in_slot t lv e = subst (λ o. h (Temp t) (place_for t o)) e (there t lv)

  own_register : (i r : ℕ) (s : TempPlace) → slice_get bottom i ≡ Some s → register_at s.place ≡ Some r → has live s.temp ≡ true → h (Temp s.temp) (Reg r)
  own_register i r s e f lv = in_register s.temp r lv (mb.own i s e ∙ f)

  -- what the table says of a register in which something stands that goes to the top
  table_at : (t r : ℕ) → register_for bottom t ≡ Some r → slice_index is.holders r ≡ t
  table_at t r e =
      let u = for_there bottom t r e in
      is.held.each u.0 r u.1 (slice_get_within bottom u.0 u.1 u.2) u.2 u.4 ∙ u.3

  marked : Marked is.holders (λ r. slice_index is.holders r) (marks_of moves) (move_all stores h)
  marked = record {
    many = is.held.many;
    table = λ r w. refl;
    held = λ r e.
        let m = mark_from moves r e in
        let p = move_in bottom top m.0 m.1 m.2 in
        let f : register_for bottom p.1.temp ≡ Some r = p.3 ∙ ap Some m.3 in
        stores_regs live need top bottom h (Temp (slice_index is.holders r)) r
        (subst (λ t. h (Temp t) (Reg r)) (sym (table_at p.1.temp r f)) (in_register p.1.temp r (tops_live p.0 p.1 p.2) f));
  }

  carried : Carries is_marked is.made (marks_of moves)
  unfolding is_marked
  carried = is.moves.carries is_marked (marks_of moves) (λ i m e. ap (λ n. n == 1) (mark_there moves i m e))

  named : (i : ℕ) (m : Move) → slice_get is.made i ≡ Some m → (m.from < 256) × (m.to < 256)
  named i m e = let low = made_low bottom top is.made mb mt is.moves i m e in (low_named m.from low.0, low_named m.to low.1)

  shifted_all : MovesAsk (shifts is.made is.holders) (move_all stores h) × ((r : ℕ) → moved is.made (marks_of moves) r ≡ 1 → move_all (shifts is.made is.holders) (move_all stores h) (Temp (moved is.made (λ r. slice_index is.holders r) r)) (Reg r))
  shifted_all = shifts_hold is.made is.holders (λ r. slice_index is.holders r) (marks_of moves) (move_all stores h) named carried marked

  -- what stands in registers at both ends
  in_place : (i r q : ℕ) (s : TempPlace) → slice_get top i ≡ Some s → register_for bottom s.temp ≡ Some r → register_at s.place ≡ Some q → move_all (shifts is.made is.holders) (move_all stores h) (Temp s.temp) (Reg q)
  in_place i r q s e f g =
      let m = move_there bottom top i r q s e f g in
      let a : moved is.made (marks_of moves) q ≡ 1 = is.moves.targets (marks_of moves) m.0 (record { from = r; to = q }) m.1 ∙ mark_there moves m.0 (record { from = r; to = q }) m.1 in
      let b : moved is.made (λ r. slice_index is.holders r) q ≡ s.temp = is.moves.targets (λ r. slice_index is.holders r) m.0 (record { from = r; to = q }) m.1 ∙ table_at s.temp r f in
      subst (λ t. move_all (shifts is.made is.holders) (move_all stores h) (Temp t) (Reg q)) b (shifted_all.1 q a)

  -- slots keep their temporaries
  slot_kept : (t : ℕ) → move_all stores h (Temp t) (Slot t) → move_all (shifts is.made is.holders) (move_all stores h) (Temp t) (Slot t)
  slot_kept t k = shifts_slots is.made is.holders (move_all stores h) (Temp t) t k

  all_asked : MovesAsk ((stores ++ shifts is.made is.holders) ++ loads) h
  all_asked = asks_in_turn (stores ++ shifts is.made is.holders) loads h
      (asks_in_turn stores (shifts is.made is.holders) h (stores_ask live need top bottom h own_register) shifted_all.0)
      (subst (λ z. MovesAsk loads z) (sym (moves_in_turn stores (shifts is.made is.holders) h))
      (loads_ask bottom top (move_all (shifts is.made is.holders) (move_all stores h)) (λ i s e f. slot_kept s.temp (stores_slots live need top bottom h s.temp (in_slot s.temp (tops_live i s e) f)))))

  pub edge_asks : MovesAsk code h
  edge_asks = subst (λ z. MovesAsk z h) (sym is.is) all_asked

  behind : (n : Holder) (q : Place) → move_all loads (move_all (shifts is.made is.holders) (move_all stores h)) n q → move_all code h n q
  behind n q k =
      subst (λ z. move_all z h n q) (sym is.is)
      (subst (λ (z : HolderPlaces). z n q) (sym (moves_in_turn (stores ++ shifts is.made is.holders) loads h ∙ ap (move_all loads) (moves_in_turn stores (shifts is.made is.holders) h))) k)

  slot_behind : (t : ℕ) → move_all stores h (Temp t) (Slot t) → move_all code h (Temp t) (Slot t)
  slot_behind t k = behind (Temp t) (Slot t) (loads_slots bottom top (move_all (shifts is.made is.holders) (move_all stores h)) (Temp t) t (slot_kept t k))

  -- what is stored, or stands in its slot before
  stored_or_there : (t : ℕ) → has live t ≡ true → is_stored (has live t) (has need t) (register_for top t) ≡ true → (o : Option ℕ) → register_for bottom t ≡ o → move_all code h (Temp t) (Slot t)
  stored_or_there t lv stored None e = slot_behind t (stores_slots live need top bottom h t (in_slot t lv e))
  stored_or_there t lv stored (Some r) e =
      let u = for_there bottom t r e in
      slot_behind t (subst (λ n. move_all stores h (Temp n) (Slot n)) u.3
      (stores_there live need top bottom h u.0 r u.1 u.2 u.4 (subst (λ n. is_stored (has live n) (has need n) (register_for top n) ≡ true) (sym u.3) stored)))

  -- what has to be in its slot is
  pub edge_slots : (t : ℕ) → has live t ≡ true → has need t ≡ true → move_all code h (Temp t) (Slot t)
  edge_slots t lv needed = stored_or_there t lv
      (ap (λ b. b && (has need t || is_none (register_for top t))) lv ∙ ap (λ b. b || is_none (register_for top t)) needed) (register_for bottom t) refl

  same_temp : (i j q : ℕ) (s u : TempPlace) → slice_get top i ≡ Some s → slice_get top j ≡ Some u → register_at s.place ≡ Some q → register_at u.place ≡ Some q → u.temp ≡ s.temp
  same_temp i j q s u e f g k =
      let v = mt.apart i j q s u e f g k in
      ap (λ (z : TempPlace). z.temp) (one_place (slice_get top j) u s f (ap (slice_get top) (sym v) ∙ e))

  wanted_there : (i q : ℕ) (s : TempPlace) → slice_get top i ≡ Some s → register_at s.place ≡ Some q → (o : Option ℕ) → register_for bottom s.temp ≡ o → move_all code h (Temp s.temp) (Reg q)
  wanted_there i q s e g (Some r) f = behind (Temp s.temp) (Reg q) (loads_regs bottom top (move_all (shifts is.made is.holders) (move_all stores h)) s.temp q (in_place i r q s e f g) (λ j d k l. same_temp i j q s d e k g l))
  wanted_there i q s e g None f = behind (Temp s.temp) (Reg q) (loads_there bottom top (move_all (shifts is.made is.holders) (move_all stores h)) i q s e f g (λ j d k l. same_temp i j q s d e k g l))

  -- what is live at the top is where its map says
  pub edge_tops : (t : ℕ) → has live t ≡ true → move_all code h (Temp t) (place_for t (register_for top t))
  edge_tops t lv = by (register_for top t) refl
    where
      by : (o : Option ℕ) → register_for top t ≡ o → move_all code h (Temp t) (place_for t (register_for top t))
      by None e =
          subst (λ o. move_all code h (Temp t) (place_for t o)) (sym e)
          (stored_or_there t lv (ap (λ b. b && (has need t || is_none (register_for top t))) lv ∙ ap (λ o. has need t || is_none o) e ∙ or_true (has need t)) (register_for bottom t) refl)
      by (Some q) e =
          let u = for_there top t q e in
          subst (λ o. move_all code h (Temp t) (place_for t o)) (sym e)
          (subst (λ n. move_all code h (Temp n) (Reg q)) u.3 (wanted_there u.0 q u.1 u.2 u.4 (register_for bottom u.1.temp) refl))
