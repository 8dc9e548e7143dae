-- What the replay says of the contents over temporaries and over places.
use Rattle.std.proofs.Common.{◌≡◌, ◌≢◌, ℕ, zero, suc, ◌+◌, ◌==◌, List, [], ◌∷◌, ◌++◌, Bool, true, false, if◌then◌else◌, refl, sym, ap, ◌∙◌, subst, ⊎_elim, map, drop, take, length, arith}
use Rattle.std.proofs.lemmas.Bool.{eqb-true, eq-eqb}
use Rattle.temp_ir.specs.declared.insn.TempInsn.{TempInsn}
use Rattle.temp_ir.specs.declared.insn.TempInsn.TheVariants as i
use Rattle.temp_ir.specs.Insns.{reads_of, writes_of}
use Rattle.temp_ir.specs.Fixed.{fixed_reads_of, fixed_writes_of}
use Rattle.alloc_model.specs.declared.allocation.Transfer.{Transfer}
use Rattle.alloc_model.specs.declared.allocation.Transfer.TheVariants.{Store, Load, Shift}
use Rattle.alloc_model.specs.Contents.{Content, unset_content}
use Rattle.alloc_model.specs.Stores.{first_or_unset, empty, without, put, put_all}
use Rattle.alloc_model.specs.Effect.{Holder, Temp, Fixed, Incoming, Outgoing, holder_eq, argument_places, places_read, places_written, others_read, others_written, holders_read, holders_written, calls_function, is_emptied}
use Rattle.alloc_model.specs.Temporaries.{Temps}
use Rattle.alloc_model.specs.Places.{Place, Reg, Slot, In, Out, place_eq, home_of, places_read_at, places_written_at, ends_place, source_of, transfer_target, moved_temp, Places, do_all}
use Rattle.alloc_model.specs.Faithful.{HolderPlaces, stands, forget, end_all, write_all, Includes, move_all, MovesAsk, ReadsAsk, FixedAsk}

-- ---- tests of equality

pub holder_eq-refl : (n : Holder) → holder_eq n n ≡ true
holder_eq-refl (Temp a) = eq-eqb a a refl
holder_eq-refl (Fixed a) = eq-eqb a a refl
holder_eq-refl (Incoming a) = eq-eqb a a refl
holder_eq-refl (Outgoing a) = eq-eqb a a refl

holder_eq-true : (n m : Holder) → holder_eq n m ≡ true → n ≡ m
holder_eq-true (Temp a) (Temp b) e = ap Temp (eqb-true a b e)
holder_eq-true (Fixed a) (Fixed b) e = ap Fixed (eqb-true a b e)
holder_eq-true (Incoming a) (Incoming b) e = ap Incoming (eqb-true a b e)
holder_eq-true (Outgoing a) (Outgoing b) e = ap Outgoing (eqb-true a b e)
holder_eq-true n m e = absurd (cc)

place_eq-refl : (p : Place) → place_eq p p ≡ true
place_eq-refl (Reg a) = eq-eqb a a refl
place_eq-refl (Slot a) = eq-eqb a a refl
place_eq-refl (In a) = eq-eqb a a refl
place_eq-refl (Out a) = eq-eqb a a refl

place_eq-true : (p q : Place) → place_eq p q ≡ true → p ≡ q
place_eq-true (Reg a) (Reg b) e = ap Reg (eqb-true a b e)
place_eq-true (Slot a) (Slot b) e = ap Slot (eqb-true a b e)
place_eq-true (In a) (In b) e = ap In (eqb-true a b e)
place_eq-true (Out a) (Out b) e = ap Out (eqb-true a b e)
place_eq-true p q e = absurd (cc)

untrue : (b : Bool) → (b ≡ true → ⊥) → b ≡ false
untrue true h = absurd (h refl)
untrue false h = refl

place_same : (t : Places) (p : Place) (c : Content) → put place_eq p c t p ≡ c
place_same t p c = ap (λ b. if b then c else t p) (place_eq-refl p)

place_other : (t : Places) (p : Place) (c : Content) (q : Place) → q ≢ p → put place_eq p c t q ≡ t q
place_other t p c q ne = ap (λ b. if b then c else t q) (untrue (place_eq q p) (λ e. ne (place_eq-true q p e)))

holder_same : (s : Temps) (n : Holder) (c : Content) → put holder_eq n c s n ≡ c
holder_same s n c = ap (λ b. if b then c else s n) (holder_eq-refl n)

holder_other : (s : Temps) (n : Holder) (c : Content) (m : Holder) → m ≢ n → put holder_eq n c s m ≡ s m
holder_other s n c m ne = ap (λ b. if b then c else s m) (untrue (holder_eq m n) (λ e. ne (holder_eq-true m n e)))

-- ---- each place that the set has for a temporary or fixed register has its content

abbrev pub IsNamed : Holder → Type 0
IsNamed (Temp t) = Unit {0}
IsNamed (Fixed r) = Unit {0}
IsNamed (Incoming k) = ⊥
IsNamed (Outgoing k) = ⊥

pub record Holds (h : HolderPlaces) (s : Temps) (t : Places) : Type 0 where
  pub each : (n : Holder) (p : Place) → IsNamed n → h n p → t p ≡ s n

stands_there : (h : HolderPlaces) (s : Temps) (t : Places) (n : Holder) (p : Place) (c : Content) → c ≡ s n → Holds h s t → Holds (stands n p h) s (put place_eq p c t)
stands_there h s t n p c e r = record {
  each = λ m q named. ⊎_elim
      (λ (k, ne). place_other t p c q ne ∙ r.each m q named k)
      (λ (em, eq). ap (put place_eq p c t) eq ∙ place_same t p c ∙ e ∙ ap s (sym em));
}

forgets : (h : HolderPlaces) (s : Temps) (t : Places) (n : Holder) (c : Content) → Holds h s t → Holds (forget n h) (put holder_eq n c s) t
forgets h s t n c r = record { each = λ m q named (k, ne). r.each m q named k ∙ sym (holder_other s n c m ne) }

-- holders with the places where they are written
pub data Parallel : List Holder → List Place → Type 0 where
  Done : Parallel [] []
  ByTemp : {ns : List Holder} {ps : List Place} (t r : ℕ) → Parallel ns ps → Parallel (Temp t ∷ ns) (Reg r ∷ ps)
  ByFixed : {ns : List Holder} {ps : List Place} (r : ℕ) → Parallel ns ps → Parallel (Fixed r ∷ ns) (Reg r ∷ ps)
  ByArgument : {ns : List Holder} {ps : List Place} (k : ℕ) → Parallel ns ps → Parallel (Outgoing k ∷ ns) (Out k ∷ ps)

one_written : (h : HolderPlaces) (s : Temps) (t : Places) (n : Holder) (p : Place) (c : Content) → Holds h s t → Holds (stands n p (forget n h)) (put holder_eq n c s) (put place_eq p c t)
one_written h s t n p c r = stands_there (forget n h) (put holder_eq n c s) t n p c (sym (holder_same s n c)) (forgets h s t n c r)

pub writes_hold : (ns : List Holder) (ps : List Place) (cs : List Content) (h : HolderPlaces) (s : Temps) (t : Places) → Parallel ns ps → Holds h s t → Holds (write_all ns ps h) (put_all holder_eq ns cs s) (put_all place_eq ps cs t)
writes_hold [] [] cs h s t Done r = r
writes_hold [] (p ∷ ps) cs h s t x r = elim x [ ]
writes_hold (n ∷ ns) [] cs h s t x r = elim x [ ]
writes_hold (n ∷ ns) (p ∷ ps) cs h s t (ByTemp a b more) r =
    writes_hold ns ps (drop 1 cs) _ _ _ more (one_written h s t n p (first_or_unset cs) r)
writes_hold (n ∷ ns) (p ∷ ps) cs h s t (ByFixed b more) r =
    writes_hold ns ps (drop 1 cs) _ _ _ more (one_written h s t n p (first_or_unset cs) r)
writes_hold (n ∷ ns) (p ∷ ps) cs h s t (ByArgument k more) r =
    writes_hold ns ps (drop 1 cs) _ _ _ more (one_written h s t n p (first_or_unset cs) r)

end_case : (x : TempInsn) (s : Temps) (n : Holder) → IsNamed n → without (is_emptied x) s n ≡ s n
end_case x s (Temp t) named = refl
end_case x s (Fixed r) named = refl
end_case x s (Incoming k) named = absurd named
end_case x s (Outgoing k) named = absurd named

pub ends_hold : (x : TempInsn) (h : HolderPlaces) (s : Temps) (t : Places) → Holds h s t → Holds (end_all (ends_place x) h) (without (is_emptied x) s) (without (ends_place x) t)
ends_hold x h s t r = record { each = λ m q named (k, e). ap (λ b. if b then unset_content else t q) e ∙ r.each m q named k ∙ sym (end_case x s m named) }

pub moves_hold : (xs : List Transfer) (h : HolderPlaces) (s : Temps) (t : Places) → MovesAsk xs h → Holds h s t → Holds (move_all xs h) s (do_all xs t)
moves_hold [] h s t a r = r
moves_hold (x ∷ xs) h s t a r =
    moves_hold xs _ s (put place_eq (transfer_target x) (t (source_of x)) t) a.1
    (stands_there h s t (Temp (moved_temp x)) (transfer_target x) (t (source_of x)) (r.each (Temp (moved_temp x)) (source_of x) tt a.0) r)

pub included_holds : (h k : HolderPlaces) (s : Temps) (t : Places) → Includes h k → Holds h s t → Holds k s t
included_holds h k s t inc r = record { each = λ n p named e. r.each n p named (inc.each n p e) }

-- ---- the argument places, which no allocation moves

pub record SameArguments (s : Temps) (t : Places) : Type 0 where
  pub incoming : (k : ℕ) → t (In k) ≡ s (Incoming k)
  pub outgoing : (k : ℕ) → t (Out k) ≡ s (Outgoing k)

pub writes_keep : (ns : List Holder) (ps : List Place) (cs : List Content) (s : Temps) (t : Places) → Parallel ns ps → SameArguments s t → SameArguments (put_all holder_eq ns cs s) (put_all place_eq ps cs t)
writes_keep [] [] cs s t Done r = r
writes_keep [] (p ∷ ps) cs s t x r = elim x [ ]
writes_keep (n ∷ ns) [] cs s t x r = elim x [ ]
writes_keep (n ∷ ns) (p ∷ ps) cs s t (ByTemp a b more) r =
    writes_keep ns ps (drop 1 cs) _ _ more (record { incoming = r.incoming; outgoing = r.outgoing })
writes_keep (n ∷ ns) (p ∷ ps) cs s t (ByFixed b more) r =
    writes_keep ns ps (drop 1 cs) _ _ more (record { incoming = r.incoming; outgoing = r.outgoing })
writes_keep (n ∷ ns) (p ∷ ps) cs s t (ByArgument j more) r =
    writes_keep ns ps (drop 1 cs) _ _ more
    (record { incoming = r.incoming; outgoing = λ k. ap (λ c. if k == j then first_or_unset cs else c) (r.outgoing k) })

pub ends_keep : (x : TempInsn) (s : Temps) (t : Places) → SameArguments s t → SameArguments (without (is_emptied x) s) (without (ends_place x) t)
ends_keep x s t r = record { incoming = r.incoming; outgoing = λ k. ap (λ c. if calls_function x then unset_content else c) (r.outgoing k) }

pub moves_keep : (xs : List Transfer) (s : Temps) (t : Places) → SameArguments s t → SameArguments s (do_all xs t)
moves_keep [] s t r = r
moves_keep (Store a b ∷ xs) s t r = moves_keep xs s _ (record { incoming = r.incoming; outgoing = r.outgoing })
moves_keep (Load a b ∷ xs) s t r = moves_keep xs s _ (record { incoming = r.incoming; outgoing = r.outgoing })
moves_keep (Shift a b c ∷ xs) s t r = moves_keep xs s _ (record { incoming = r.incoming; outgoing = r.outgoing })

-- ---- what is read

numbers_same : (ks : List ℕ) (s : Temps) (t : Places) → SameArguments s t → map s (map Outgoing ks) ≡ map t (map home_of (map Outgoing ks))
numbers_same [] s t r = refl
numbers_same (k ∷ ks) s t r =
    let head = r.outgoing k in
    let tail = numbers_same ks s t r in
    cc

places_same : (x : TempInsn) (s : Temps) (t : Places) → SameArguments s t → map s (places_read x) ≡ map t (map home_of (places_read x))
places_same (i.Call function arguments) s t r = numbers_same (argument_places arguments) s t r
places_same (i.ReadArgument destination number) s t r = ap (λ c. c ∷ []) (sym (r.incoming number))
places_same (i.Address op destination base plus) s t r = refl
places_same (i.ObjectAddress destination place plus) s t r = refl
places_same (i.Load op destination pointer plus) s t r = refl
places_same (i.Store op value pointer plus) s t r = refl
places_same (i.Operate op destination left right) s t r = refl
places_same (i.Extend op destination source) s t r = refl
places_same (i.ToFixed register source) s t r = refl
places_same (i.FromFixed destination register) s t r = refl
places_same (i.SetFixed register number) s t r = refl
places_same (i.WriteArgument number source) s t r = refl
places_same (i.Branch op source block) s t r = refl
places_same (i.Jump block) s t r = refl
places_same (i.Divide routine) s t r = refl
places_same (i.Serve service) s t r = refl
places_same (i.Return with_value) s t r = refl
places_same i.Mark s t r = refl

fixed_same : (rs : List ℕ) (ks : List Holder) (h : HolderPlaces) (s : Temps) (t : Places) → FixedAsk rs h → Holds h s t → map s ks ≡ map t (map home_of ks) → map s (map Fixed rs ++ ks) ≡ map t (map home_of (map Fixed rs ++ ks))
fixed_same [] ks h s t a r e = e
fixed_same (n ∷ rs) ks h s t a r e =
    let head = r.each (Fixed n) (Reg n) tt a.0 in
    let tail = fixed_same rs ks h s t a.1 r e in
    cc

temps_same : (ts rs : List ℕ) (ks : List Holder) (h : HolderPlaces) (s : Temps) (t : Places) → ReadsAsk ts rs h → Holds h s t → map s ks ≡ map t (map home_of ks) → map s (map Temp ts ++ ks) ≡ map t (map Reg (take (length ts) rs) ++ map home_of ks)
temps_same [] rs ks h s t a r e = e
temps_same (n ∷ ts) [] ks h s t a r e = absurd a
temps_same (n ∷ ts) (q ∷ rs) ks h s t a r e =
    let head = r.each (Temp n) (Reg q) tt a.0 in
    let tail = temps_same ts rs ks h s t a.1 r e in
    cc

pub reads_same : (x : TempInsn) (rs : List ℕ) (h : HolderPlaces) (s : Temps) (t : Places) → ReadsAsk (reads_of x) rs h → FixedAsk (fixed_reads_of x) h → Holds h s t → SameArguments s t → map s (holders_read x) ≡ map t (places_read_at rs x)
reads_same x rs h s t a f r same =
    temps_same (reads_of x) rs (others_read x) h s t a r (fixed_same (fixed_reads_of x) (places_read x) h s t f r (places_same x s t same))

-- ---- what is written

parallel_fixed : (rs : List ℕ) (ns : List Holder) (ps : List Place) → Parallel ns ps → Parallel (map Fixed rs ++ ns) (map Reg rs ++ ps)
parallel_fixed [] ns ps h = h
parallel_fixed (r ∷ rs) ns ps h = ByFixed r (parallel_fixed rs ns ps h)

fixed_home : (rs : List ℕ) (ns : List Holder) → map home_of (map Fixed rs ++ ns) ≡ map Reg rs ++ map home_of ns
fixed_home [] ns = refl
fixed_home (r ∷ rs) ns = ap (λ ps. Reg r ∷ ps) (fixed_home rs ns)

parallel_temps : (ts rs : List ℕ) (ns : List Holder) (ps : List Place) → length ts ≡ length rs → Parallel ns ps → Parallel (map Temp ts ++ ns) (map Reg rs ++ ps)
parallel_temps [] [] ns ps e h = h
parallel_temps [] (r ∷ rs) ns ps e h = absurd (cc)
parallel_temps (t ∷ ts) [] ns ps e h = absurd (cc)
parallel_temps (t ∷ ts) (r ∷ rs) ns ps e h = ByTemp t r (parallel_temps ts rs ns ps (omega (arith, e)) h)

parallel_places : (x : TempInsn) → Parallel (places_written x) (map home_of (places_written x))
parallel_places (i.WriteArgument number source) = ByArgument number Done
parallel_places (i.Call function arguments) = Done
parallel_places (i.ReadArgument destination number) = Done
parallel_places (i.Address op destination base plus) = Done
parallel_places (i.ObjectAddress destination place plus) = Done
parallel_places (i.Load op destination pointer plus) = Done
parallel_places (i.Store op value pointer plus) = Done
parallel_places (i.Operate op destination left right) = Done
parallel_places (i.Extend op destination source) = Done
parallel_places (i.ToFixed register source) = Done
parallel_places (i.FromFixed destination register) = Done
parallel_places (i.SetFixed register number) = Done
parallel_places (i.Branch op source block) = Done
parallel_places (i.Jump block) = Done
parallel_places (i.Divide routine) = Done
parallel_places (i.Serve service) = Done
parallel_places (i.Return with_value) = Done
parallel_places i.Mark = Done

dropped : (n : ℕ) (rs : List ℕ) (m : ℕ) → length rs ≡ n + m → m ≡ length (drop n rs)
dropped zero rs m e = omega (arith, e)
dropped (suc n) [] m e = absurd (omega (arith, e))
dropped (suc n) (r ∷ rs) m e = dropped n rs m (omega (arith, e))

pub written_parallel : (x : TempInsn) (rs : List ℕ) → length rs ≡ length (reads_of x) + length (writes_of x) → Parallel (holders_written x) (places_written_at rs x)
written_parallel x rs e =
    parallel_temps (writes_of x) (drop (length (reads_of x)) rs) (others_written x) (map home_of (others_written x))
    (dropped (length (reads_of x)) rs (length (writes_of x)) e)
    (subst (λ ps. Parallel (others_written x) ps) (sym (fixed_home (fixed_writes_of x) (places_written x)))
    (parallel_fixed (fixed_writes_of x) (places_written x) (map home_of (places_written x)) (parallel_places x)))

-- ---- the entry

home_eq : (m n : Holder) → place_eq (home_of m) (home_of n) ≡ holder_eq m n
home_eq (Fixed a) (Fixed b) = refl
home_eq (Fixed a) (Temp b) = refl
home_eq (Fixed a) (Incoming b) = refl
home_eq (Fixed a) (Outgoing b) = refl
home_eq (Temp a) (Fixed b) = refl
home_eq (Temp a) (Temp b) = refl
home_eq (Temp a) (Incoming b) = refl
home_eq (Temp a) (Outgoing b) = refl
home_eq (Incoming a) (Fixed b) = refl
home_eq (Incoming a) (Temp b) = refl
home_eq (Incoming a) (Incoming b) = refl
home_eq (Incoming a) (Outgoing b) = refl
home_eq (Outgoing a) (Fixed b) = refl
home_eq (Outgoing a) (Temp b) = refl
home_eq (Outgoing a) (Incoming b) = refl
home_eq (Outgoing a) (Outgoing b) = refl

-- each holder's content stands at its home
abbrev pub AtHome : Temps → Places → Type 0
AtHome s t = (m : Holder) → t (home_of m) ≡ s m

home_put : (n : Holder) (c : Content) (s : Temps) (t : Places) → AtHome s t → AtHome (put holder_eq n c s) (put place_eq (home_of n) c t)
home_put n c s t h m = ap (λ b. if b then c else t (home_of m)) (home_eq m n) ∙ ap (λ u. if holder_eq m n then c else u) (h m)

homes : (ns : List Holder) (cs : List Content) (s : Temps) (t : Places) → AtHome s t → AtHome (put_all holder_eq ns cs s) (put_all place_eq (map home_of ns) cs t)
homes [] cs s t h = h
homes (n ∷ ns) cs s t h = homes ns (drop 1 cs) _ _ (home_put n (first_or_unset cs) s t h)

pub entry_homes : (ns : List Holder) (cs : List Content) → AtHome (put_all holder_eq ns cs empty) (put_all place_eq (map home_of ns) cs empty)
entry_homes ns cs = homes ns cs empty empty (λ m. refl)
