-- What stands where behind loads, stores and what is written.
use Rattle.std.proofs.Common.{◌≡◌, ◌≢◌, ◌⊎◌, ℕ, zero, suc, ◌+◌, ◌<◌, ◌≤◌, ◌==◌, ◌||◌, List, [], ◌∷◌, ◌++◌, Bool, true, false, refl, sym, ap, inl, inr, subst, ⊎_elim, length, map, arith}
use Rattle.std.specs.Prelude.{Contains}
use Rattle.std.specs.List.{range_with_len}
use Rattle.std.proofs.lemmas.Bool.{eqb-true}
use Rattle.temp_ir.specs.Fixed.{has_number}
use Rattle.alloc_model.specs.declared.allocation.Transfer.{Transfer}
use Rattle.alloc_model.specs.Effect.{Holder, Temp, Fixed, Incoming, Outgoing}
use Rattle.alloc_model.specs.Places.{Place, Reg, Slot, In, Out, home_of}
use Rattle.alloc_model.specs.Faithful.{HolderPlaces, stands, write_all, move_all, MovesAsk, ReadsAsk, FixedAsk}
use Rattle.alloc_plain_lists.specs.Plain.{loads, stores}

-- ---- what is the same

pub same_or_not : (a b : ℕ) → (a ≡ b) ⊎ (a ≢ b)
same_or_not zero zero = inl refl
same_or_not zero (suc b) = inr (λ e. omega (arith, e))
same_or_not (suc a) zero = inr (λ e. omega (arith, e))
same_or_not (suc a) (suc b) = ⊎_elim (λ e. inl (ap suc e)) (λ ne. inr (λ e. ne (omega (arith, e)))) (same_or_not a b)

other_temps : (a b : ℕ) → a ≢ b → Temp a ≢ Temp b
other_temps a b ne e = ne (cc)

other_fixed : (a b : ℕ) → a ≢ b → Fixed a ≢ Fixed b
other_fixed a b ne e = ne (cc)

other_incoming : (a b : ℕ) → a ≢ b → Incoming a ≢ Incoming b
other_incoming a b ne e = ne (cc)

other_outgoing : (a b : ℕ) → a ≢ b → Outgoing a ≢ Outgoing b
other_outgoing a b ne e = ne (cc)

pub other_registers : (a b : ℕ) → a ≢ b → Reg a ≢ Reg b
other_registers a b ne e = ne (cc)

pub other_slots : (a b : ℕ) → a ≢ b → Slot a ≢ Slot b
other_slots a b ne e = ne (cc)

other_ins : (a b : ℕ) → a ≢ b → In a ≢ In b
other_ins a b ne e = ne (cc)

other_outs : (a b : ℕ) → a ≢ b → Out a ≢ Out b
other_outs a b ne e = ne (cc)

pub slot_no_register : (a b : ℕ) → Slot a ≢ Reg b
slot_no_register a b e = cc

pub register_no_slot : (a b : ℕ) → Reg a ≢ Slot b
register_no_slot a b e = cc

pub fixed_no_temp : (a b : ℕ) → Fixed a ≢ Temp b
fixed_no_temp a b e = cc

-- two holders are the same, or neither they nor their homes are
abbrev pub AreApart : Holder → Holder → Type 0
AreApart m n = (m ≡ n) ⊎ ((m ≢ n) × (home_of m ≢ home_of n))

pub apart_or_same : (m n : Holder) → AreApart m n
apart_or_same (Temp a) (Temp b) = ⊎_elim (λ e. inl (ap Temp e)) (λ ne. inr (other_temps a b ne, other_slots a b ne)) (same_or_not a b)
apart_or_same (Fixed a) (Fixed b) = ⊎_elim (λ e. inl (ap Fixed e)) (λ ne. inr (other_fixed a b ne, other_registers a b ne)) (same_or_not a b)
apart_or_same (Incoming a) (Incoming b) = ⊎_elim (λ e. inl (ap Incoming e)) (λ ne. inr (other_incoming a b ne, other_ins a b ne)) (same_or_not a b)
apart_or_same (Outgoing a) (Outgoing b) = ⊎_elim (λ e. inl (ap Outgoing e)) (λ ne. inr (other_outgoing a b ne, other_outs a b ne)) (same_or_not a b)
apart_or_same (Temp a) (Fixed b) = inr ((λ e. cc), (λ e. cc))
apart_or_same (Temp a) (Incoming b) = inr ((λ e. cc), (λ e. cc))
apart_or_same (Temp a) (Outgoing b) = inr ((λ e. cc), (λ e. cc))
apart_or_same (Fixed a) (Temp b) = inr ((λ e. cc), (λ e. cc))
apart_or_same (Fixed a) (Incoming b) = inr ((λ e. cc), (λ e. cc))
apart_or_same (Fixed a) (Outgoing b) = inr ((λ e. cc), (λ e. cc))
apart_or_same (Incoming a) (Temp b) = inr ((λ e. cc), (λ e. cc))
apart_or_same (Incoming a) (Fixed b) = inr ((λ e. cc), (λ e. cc))
apart_or_same (Incoming a) (Outgoing b) = inr ((λ e. cc), (λ e. cc))
apart_or_same (Outgoing a) (Temp b) = inr ((λ e. cc), (λ e. cc))
apart_or_same (Outgoing a) (Fixed b) = inr ((λ e. cc), (λ e. cc))
apart_or_same (Outgoing a) (Incoming b) = inr ((λ e. cc), (λ e. cc))

-- ---- transfers one list after the other

pub moves_in_turn : (xs ys : List Transfer) (h : HolderPlaces) (n : Holder) (p : Place) → move_all ys (move_all xs h) n p → move_all (xs ++ ys) h n p
moves_in_turn [] ys h n p k = k
moves_in_turn (x ∷ xs) ys h n p k = moves_in_turn xs ys _ n p k

pub asks_in_turn : (xs ys : List Transfer) (h : HolderPlaces) → MovesAsk xs h → MovesAsk ys (move_all xs h) → MovesAsk (xs ++ ys) h
asks_in_turn [] ys h a b = b
asks_in_turn (x ∷ xs) ys h a b = (a.0, asks_in_turn xs ys _ a.1 b)

pub reads_kept : (ts rs : List ℕ) (h k : HolderPlaces) → ((n : Holder) (r : ℕ) → h n (Reg r) → k n (Reg r)) → ReadsAsk ts rs h → ReadsAsk ts rs k
reads_kept [] rs h k f a = a
reads_kept (t ∷ ts) [] h k f a = a
reads_kept (t ∷ ts) (r ∷ rs) h k f a = (f (Temp t) r a.0, reads_kept ts rs h k f a.1)

-- ---- stores

stored_register : (t r : ℕ) (h : HolderPlaces) (n : Holder) (q : ℕ) → h n (Reg q) → stands (Temp t) (Slot t) h n (Reg q)
stored_register t r h n q k = inl (k, register_no_slot q t)

stored_slot : (t u : ℕ) (h : HolderPlaces) → h (Temp u) (Slot u) → stands (Temp t) (Slot t) h (Temp u) (Slot u)
stored_slot t u h k = ⊎_elim (λ e. inr (ap Temp e, ap Slot e)) (λ ne. inl (k, other_slots u t ne)) (same_or_not u t)

pub stores_keep_registers : (ts : List ℕ) (r : ℕ) (h : HolderPlaces) (n : Holder) (q : ℕ) → h n (Reg q) → move_all (stores ts r) h n (Reg q)
stores_keep_registers [] r h n q k = k
stores_keep_registers (t ∷ ts) r h n q k = stores_keep_registers ts (r + 1) _ n q (stored_register t r h n q k)

pub stores_keep_slots : (ts : List ℕ) (r : ℕ) (h : HolderPlaces) (u : ℕ) → h (Temp u) (Slot u) → move_all (stores ts r) h (Temp u) (Slot u)
stores_keep_slots [] r h u k = k
stores_keep_slots (t ∷ ts) r h u k = stores_keep_slots ts (r + 1) _ u (stored_slot t u h k)

pub stores_ask : (ts : List ℕ) (r : ℕ) (h : HolderPlaces) → ReadsAsk ts (range_with_len r (length ts)) h → MovesAsk (stores ts r) h
stores_ask [] r h a = tt
stores_ask (t ∷ ts) r h a =
    (a.0, stores_ask ts (r + 1) _ (reads_kept ts (range_with_len (r + 1) (length ts)) h _ (λ n q k. stored_register t r h n q k) a.1))

pub stores_done : (ts : List ℕ) (r : ℕ) (h : HolderPlaces) (u : ℕ) → Contains ts u → move_all (stores ts r) h (Temp u) (Slot u)
stores_done [] r h u (k, within, is) = absurd (omega (arith, within))
stores_done (t ∷ ts) r h u (zero, within, is) = stores_keep_slots ts (r + 1) _ u (inr (ap Temp (sym is), ap Slot (sym is)))
stores_done (t ∷ ts) r h u (suc k, within, is) = stores_done ts (r + 1) _ u (k, omega (arith, within), is)

-- ---- loads

loaded_slot : (t r : ℕ) (h : HolderPlaces) (n : Holder) (u : ℕ) → h n (Slot u) → stands (Temp t) (Reg r) h n (Slot u)
loaded_slot t r h n u k = inl (k, slot_no_register u r)

pub loads_keep_slots : (ts : List ℕ) (r : ℕ) (h : HolderPlaces) (n : Holder) (u : ℕ) → h n (Slot u) → move_all (loads ts r) h n (Slot u)
loads_keep_slots [] r h n u k = k
loads_keep_slots (t ∷ ts) r h n u k = loads_keep_slots ts (r + 1) _ n u (loaded_slot t r h n u k)

pub loads_keep_others : (ts : List ℕ) (r : ℕ) (h : HolderPlaces) (n : Holder) (q : ℕ) → (q < r) ⊎ (r + length ts ≤ q) → h n (Reg q) → move_all (loads ts r) h n (Reg q)
loads_keep_others [] r h n q apart k = k
loads_keep_others (t ∷ ts) r h n q apart k =
    loads_keep_others ts (r + 1) _ n q (⊎_elim (λ low. inl (omega (arith, low))) (λ high. inr (omega (arith, high))) apart)
    (inl (k, other_registers q r (⊎_elim (λ low e. omega (arith, low, e)) (λ high e. omega (arith, high, e)) apart)))

pub loads_ask : (ts : List ℕ) (r : ℕ) (h : HolderPlaces) → ((u : ℕ) → Contains ts u → h (Temp u) (Slot u)) → MovesAsk (loads ts r) h
loads_ask [] r h a = tt
loads_ask (t ∷ ts) r h a =
    (a t (0, omega arith, refl), loads_ask ts (r + 1) _ (λ u (k, within, is). loaded_slot t r h (Temp u) u (a u (suc k, omega (arith, within), is))))

pub loads_read : (ts : List ℕ) (r n : ℕ) (h : HolderPlaces) → length ts ≤ n → ReadsAsk ts (range_with_len r n) (move_all (loads ts r) h)
loads_read [] r n h few = tt
loads_read (t ∷ ts) r zero h few = absurd (omega (arith, few))
loads_read (t ∷ ts) r (suc n) h few =
    (loads_keep_others ts (r + 1) _ (Temp t) r (inl (omega arith)) (inr (refl, refl)), loads_read ts (r + 1) n _ (omega (arith, few)))

-- ---- what is written

-- what stands at home stays there, or is written there
pub home_kept : (ns : List Holder) (h : HolderPlaces) (m : Holder) → h m (home_of m) → write_all ns (map home_of ns) h m (home_of m)
home_kept [] h m k = k
home_kept (n ∷ ns) h m k =
    home_kept ns _ m (⊎_elim (λ e. inr (e, ap home_of e)) (λ (ne, apart). inl ((k, ne), apart)) (apart_or_same m n))

pub test_or_not : (b : Bool) → (b ≡ true) ⊎ (b ≡ false)
test_or_not true = inl refl
test_or_not false = inr refl

pub fixed_there : (fs : List ℕ) (ps : List Holder) (h : HolderPlaces) (r : ℕ) → has_number fs r ≡ true → write_all (map Fixed fs ++ ps) (map home_of (map Fixed fs ++ ps)) h (Fixed r) (Reg r)
fixed_there [] ps h r is = absurd (cc)
fixed_there (f ∷ fs) ps h r is =
    ⊎_elim (λ e. let same = eqb-true f r e in home_kept (map Fixed fs ++ ps) _ (Fixed r) (inr (ap Fixed (sym same), ap Reg (sym same))))
    (λ e. fixed_there fs ps _ r (subst (λ b. (b || has_number fs r) ≡ true) e is))
    (test_or_not (f == r))

-- What an instruction writes: one temporary alone, or no temporary
abbrev pub Lawful : (ws fs : List ℕ) → (ps : List Holder) → Type 0
Lawful [] fs ps = Unit {0}
Lawful (t ∷ []) [] [] = Unit {0}
Lawful (t ∷ []) [] (p ∷ ps) = ⊥
Lawful (t ∷ []) (f ∷ fs) ps = ⊥
Lawful (t ∷ u ∷ ts) fs ps = ⊥

-- the set behind it, where its temporaries have registers from one on
abbrev pub written_places : (ws fs : List ℕ) → (ps : List Holder) → (q : ℕ) → HolderPlaces → HolderPlaces
written_places ws fs ps q h =
    write_all (map Temp ws ++ (map Fixed fs ++ ps)) (map Reg (range_with_len q (length ws)) ++ map home_of (map Fixed fs ++ ps)) h

pub written_fresh : (ws fs : List ℕ) (ps : List Holder) (q : ℕ) (h : HolderPlaces) → Lawful ws fs ps → ReadsAsk ws (range_with_len q (length ws)) (written_places ws fs ps q h)
written_fresh [] fs ps q h l = tt
written_fresh (t ∷ []) [] [] q h l = (inr (refl, refl), tt)
written_fresh (t ∷ []) [] (p ∷ ps) q h l = absurd l
written_fresh (t ∷ []) (f ∷ fs) ps q h l = absurd l
written_fresh (t ∷ u ∷ ts) fs ps q h l = absurd l

pub written_slot : (ws fs : List ℕ) (ps : List Holder) (q : ℕ) (h : HolderPlaces) (u : ℕ) → Lawful ws fs ps → h (Temp u) (Slot u) → Contains ws u ⊎ written_places ws fs ps q h (Temp u) (Slot u)
written_slot [] fs ps q h u l k = inr (home_kept (map Fixed fs ++ ps) h (Temp u) k)
written_slot (t ∷ []) [] [] q h u l k =
    ⊎_elim (λ e. inl (0, omega arith, sym e)) (λ ne. inr (inl ((k, other_temps u t ne), slot_no_register u q))) (same_or_not u t)
written_slot (t ∷ []) [] (p ∷ ps) q h u l k = absurd l
written_slot (t ∷ []) (f ∷ fs) ps q h u l k = absurd l
written_slot (t ∷ u ∷ ts) fs ps q h v l k = absurd l

pub written_keeps : (ws fs : List ℕ) (ps : List Holder) (q : ℕ) (h : HolderPlaces) (r : ℕ) → Lawful ws fs ps → r ≢ q → h (Fixed r) (Reg r) → written_places ws fs ps q h (Fixed r) (Reg r)
written_keeps [] fs ps q h r l ne k = home_kept (map Fixed fs ++ ps) h (Fixed r) k
written_keeps (t ∷ []) [] [] q h r l ne k = inl ((k, fixed_no_temp r t), other_registers r q ne)
written_keeps (t ∷ []) [] (p ∷ ps) q h r l ne k = absurd l
written_keeps (t ∷ []) (f ∷ fs) ps q h r l ne k = absurd l
written_keeps (t ∷ u ∷ ts) fs ps q h r l ne k = absurd l

pub written_fixed : (ws fs : List ℕ) (ps : List Holder) (q : ℕ) (h : HolderPlaces) (r : ℕ) → Lawful ws fs ps → has_number fs r ≡ true → written_places ws fs ps q h (Fixed r) (Reg r)
written_fixed [] fs ps q h r l is = fixed_there fs ps h r is
written_fixed (t ∷ []) [] [] q h r l is = absurd (cc)
written_fixed (t ∷ []) [] (p ∷ ps) q h r l is = absurd l
written_fixed (t ∷ []) (f ∷ fs) ps q h r l is = absurd l
written_fixed (t ∷ u ∷ ts) fs ps q h r l is = absurd l

pub fixed_ask : (rs : List ℕ) (h : HolderPlaces) → ((r : ℕ) → Contains rs r → h (Fixed r) (Reg r)) → FixedAsk rs h
fixed_ask [] h f = tt
fixed_ask (r ∷ rs) h f = (f r (0, omega arith, refl), fixed_ask rs h (λ u (k, within, is). f u (suc k, omega (arith, within), is)))
