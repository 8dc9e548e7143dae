-- What is held where behind the visit of an instruction.
use Rattle.std.proofs.Common.{◌≡◌, ◌⊎◌, ℕ, suc, ◌==◌, ◌||◌, List, [], ◌∷◌, ◌++◌, Bool, true, false, Option, Some, None, refl, sym, ap, ◌∙◌, inl, inr, subst, ⊎_elim, length, map, drop}
use Rattle.std.specs.Prelude.{slice_set}
use Rattle.std.proofs.Common.{append-nil}
use Rattle.std.proofs.lemmas.Bool.{eq-eqb}
use Rattle.temp_ir.specs.Insns.{reads_of, writes_of}
use Rattle.temp_ir.specs.Fixed.{has_number, fixed_reads_of, fixed_writes_of, ended_of}
use Rattle.alloc_model.specs.declared.allocation.Transfer.{Transfer}
use Rattle.alloc_model.specs.Effect.{Temp, Fixed, holders_written, others_written, places_written}
use Rattle.alloc_model.specs.Places.{Place, Reg, Plan, home_of, places_written_at, ends_place, transfers_at, registers_at}
use Rattle.alloc_model.specs.Needs.{is_live_at, IsNeeded}
use Rattle.alloc_model.specs.Faithful.{HolderPlaces, end_all, write_all, move_all, MovesAsk, ReadsAsk, FixedAsk, behind_insn}
use Rattle.alloc_rules.specs.Visits.{takes_away}
use Rattle.binpack_blocks.specs.declared.held.Held.{Held}
use Rattle.binpack_blocks.specs.declared.held.SlotCopy.TheVariants.{Own}
use Rattle.binpack_blocks.specs.model.Bins.{Bins, held_in, has_temp, held, IsNowhere, lives, must_store}
use Rattle.binpack_blocks.specs.model.Steps.{Site, State, Ends, Writes}
use Rattle.binpack_blocks.specs.model.Steps.Writes.{Nothing, Keeps, Gets}
use Rattle.binpack_blocks.specs.model.Visits.{AreHeld, Visits}
use Rattle.binpack_blocks.proofs.Holders.{test_or_not, not_both, held_of, held_within}
use Rattle.binpack_scan.proofs.Claims.{Has, Sound, Handed, IsSite, given_within}
use Rattle.binpack_scan.proofs.Moves.{steps_lead}
use Rattle.binpack_blocks.proofs.Tables.{WritesOne, writes_alone}
use Rattle.binpack_scan.proofs.Acts.{IsBehind, nothing_written, one_written, empties_nothing}

-- ---- what is read

reads_ask : (live need : ℕ → Type 0) (claims : ℕ → Bool) (bins : Bins) (h : HolderPlaces) (ts rs more : List ℕ) → ((t : ℕ) → has_number ts t ≡ true → live t) →
    Has live need claims bins h → AreHeld ts rs bins → ReadsAsk ts (rs ++ more) h
reads_ask live need claims bins h [] [] more lv has held = tt
reads_ask live need claims bins h [] (r ∷ rs) more lv has held = tt
reads_ask live need claims bins h (t ∷ ts) [] more lv has held = absurd held
reads_ask live need claims bins h (t ∷ ts) (r ∷ rs) more lv has held =
    (has.reg r t held.0 (lv t (first t ts)), reads_ask live need claims bins h ts rs more (λ u e. lv u (rest t u ts e)) has held.1)
  where
    or_true : (c d : Bool) → c ≡ true → (c || d) ≡ true
    or_true true d e = refl
    or_true false d e = absurd (cc)

    or_also : (c d : Bool) → d ≡ true → (c || d) ≡ true
    or_also true d e = refl
    or_also false d e = e

    first : (t : ℕ) (ts : List ℕ) → has_number (t ∷ ts) t ≡ true
    first t ts = or_true (t == t) (has_number ts t) (eq-eqb t t refl)

    rest : (t u : ℕ) (ts : List ℕ) → has_number ts u ≡ true → has_number (t ∷ ts) u ≡ true
    rest t u ts e = or_also (t == u) (has_number ts u) e

fixed_ask : (live need : ℕ → Type 0) (claims : ℕ → Bool) (bins : Bins) (h : HolderPlaces) (rs : List ℕ) → ((r : ℕ) → has_number rs r ≡ true → claims r ≡ true) →
    Has live need claims bins h → FixedAsk rs h
fixed_ask live need claims bins h [] all has = tt
fixed_ask live need claims bins h (r ∷ rs) all has =
    (has.fixed r (all r (or_true (r == r) (has_number rs r) (eq-eqb r r refl))), fixed_ask live need claims bins h rs (λ q e. all q (or_also (r == q) (has_number rs q) e)) has)
  where
    or_true : (c d : Bool) → c ≡ true → (c || d) ≡ true
    or_true true d e = refl
    or_true false d e = absurd (cc)

    or_also : (c d : Bool) → d ≡ true → (c || d) ≡ true
    or_also true d e = refl
    or_also false d e = e

held_length : (ts rs : List ℕ) (bins : Bins) → AreHeld ts rs bins → length ts ≡ length rs
held_length [] [] bins held = refl
held_length [] (r ∷ rs) bins held = absurd held
held_length (t ∷ ts) [] bins held = absurd held
held_length (t ∷ ts) (r ∷ rs) bins held = ap suc (held_length ts rs bins held.1)

drop_front : {A : Type 0} (xs ys : List A) (n : ℕ) → n ≡ length xs → drop n (xs ++ ys) ≡ ys
drop_front {A} xs ys n e = ap (λ k. drop k (xs ++ ys)) e ∙ go xs
  where
    go : (xs : List A) → drop (length xs) (xs ++ ys) ≡ ys
    go [] = refl
    go (x ∷ xs) = go xs

-- ---- a visit

module _ (a : Plan) (b at : ℕ) (s : Site) (claims : ℕ → Bool) (site : IsSite a b at s claims)
    (next : (r : ℕ) → s.stands r ≡ true → (has_number (fixed_writes_of s.insn) r ≡ true) ⊎ ((takes_away s.insn r ≡ false) × (claims r ≡ true)))
    (reads : (t : ℕ) → has_number (reads_of s.insn) t ≡ true → is_live_at a t b at)
    (fixed : (r : ℕ) → has_number (fixed_reads_of s.insn) r ≡ true → claims r ≡ true) where
  abbrev live : ℕ → Type 0
  live t = is_live_at a t b at

  abbrev behind : ℕ → Type 0
  behind t = is_live_at a t b (suc at)

  abbrev need : ℕ → Type 0
  need t = IsNeeded a t b

  -- what a visit asks for is there, and what is so behind it
  pub record IsVisited (transfers : List Transfer) (registers : List ℕ) (h : HolderPlaces) (bins : Bins) : Type 0 where
    pub moves : MovesAsk transfers h
    pub temps_read : ReadsAsk (reads_of s.insn) registers (move_all transfers h)
    pub fixed_read : FixedAsk (fixed_reads_of s.insn) (move_all transfers h)
    pub has : Has behind need s.stands bins (behind_insn transfers registers (Some s.insn) h)
    pub sound : Sound s.temps s.stands bins
    pub handed : Handed a b (suc at) (transfers_at a b (suc at)) bins

  abbrev Behind : Bins → HolderPlaces → Type 0
  Behind bins h = IsBehind a b at s claims site next site.flows bins h

  -- the set behind an instruction, by what it writes
  abbrev written_set : (ws : List ℕ) → (ps : List Place) → HolderPlaces → HolderPlaces
  written_set ws ps h = write_all (map Temp ws ++ others_written s.insn) (ps ++ map home_of (others_written s.insn)) (end_all (ends_place s.insn) h)

  same_list : {A : Type 0} (x : A) (xs ys : List A) → x ∷ xs ≡ ys → (y : A) (zs : List A) → ys ≡ y ∷ zs → x ≡ y
  same_list x xs ys e y zs f = cc

  acts : (v m w : State) (written : List ℕ) (ws : List ℕ) (h : HolderPlaces) → writes_of s.insn ≡ ws →
      places_written_at (registers_at a b at) s.insn ≡ map Reg written ++ map home_of (others_written s.insn) →
      Ends s v m → Writes s m w ws written → Has live need claims v.bins h → Sound s.temps claims v.bins → Handed a b at [] v.bins →
      Behind w.bins (written_set (writes_of s.insn) (map Reg written) h)
  acts v m w written ws h is places ends (Nothing are relied) has sound handed =
      let behind_m = nothing_written a b at s claims site next site.flows v m h is places ends has sound handed in
      subst (λ z. Behind z (written_set (writes_of s.insn) [] h)) (sym are)
      (subst (λ z. Behind m.bins (written_set z [] h)) (sym is) behind_m)
  acts v m w written ws h is places ends (Keeps t r there are relied) has sound handed = with_one (writes_alone s.insn)
    where
      with_one : (writes_of s.insn ≡ []) ⊎ WritesOne s.insn → Behind w.bins (written_set (writes_of s.insn) (Reg r ∷ []) h)
      with_one (inl none) = absurd (let clash : t ∷ [] ≡ [] = sym is ∙ none in cc)
      with_one (inr one) =
          let same = empties_nothing s v m (λ q. ap (λ fs. has_number fs q || has_number (ended_of s.insn) q) one.fixed ∙ ap (λ es. has_number es q) one.ended) ends.empties in
          let in_v : has_temp (held_in v.bins r) t ≡ true = ap (λ z. has_temp (held_in z r) t) (sym same.0) ∙ there in
          let k = held_of (held_in v.bins r) t in_v in
          let within = held_within v.bins r k.0 k.1 in
          let unclaimed : s.stands r ≡ false = ⊎_elim
          (λ (c : s.stands r ≡ true). absurd (occupied one r k.0 k.1 c)) (λ n. n) (test_or_not (s.stands r)) in
          let others : others_written s.insn ≡ [] = ap (λ fs. map Fixed fs ++ places_written s.insn) one.fixed ∙ one.places in
          let made = one_written a b at s claims site next site.flows v.bins h t r one is (places ∙ ap (λ os. Reg r ∷ map home_of os) others) within
          (λ q e. sound.once t q r e in_v) (sound.inside r t in_v) unclaimed
          (λ j e ne lv. absurd (ne (same_temp (held_in v.bins r) j k.0 e k.1 ∙ k.2))) has sound handed in
          subst (λ z. Behind z (written_set (writes_of s.insn) (Reg r ∷ []) h)) (sym (are ∙ ap (λ z. slice_set z r (Some (held t Own))) same.0))
          (subst (λ z. Behind (slice_set v.bins r (Some (held t Own))) (written_set z (Reg r ∷ []) h)) (sym is)
          (subst (λ os. Behind (slice_set v.bins r (Some (held t Own))) (write_all (Temp t ∷ os) (Reg r ∷ map home_of os) (end_all (ends_place s.insn) h))) (sym others) made))
        where
          same_temp : (o : Option Held) (j k : Held) → o ≡ Some j → o ≡ Some k → j.temp ≡ k.temp
          same_temp o j k e f = ap (λ (x : Held). x.temp) (one_held (sym e ∙ f))
            where
              one_held : {x y : Held} → Some x ≡ Some y → x ≡ y
              one_held g = cc

          occupied : WritesOne s.insn → (r : ℕ) (k : Held) → held_in v.bins r ≡ Some k → s.stands r ≡ true → ⊥
          occupied one r k e c = ⊎_elim
              (λ (x : has_number (fixed_writes_of s.insn) r ≡ true). not_both (has_number (fixed_writes_of s.insn) r) x (ap (λ fs. has_number fs r) one.fixed))
              (λ (x : (takes_away s.insn r ≡ false) × (claims r ≡ true)). let none : held_in v.bins r ≡ None = sound.free r x.1 in cc)
              (next r c)
  acts v m w written ws h is places ends (Gets t r none low may leaves are) has sound handed = with_one (writes_alone s.insn)
    where
      with_one : (writes_of s.insn ≡ []) ⊎ WritesOne s.insn → Behind w.bins (written_set (writes_of s.insn) (Reg r ∷ []) h)
      with_one (inl no_one) = absurd (let clash : t ∷ [] ≡ [] = sym is ∙ no_one in cc)
      with_one (inr one) =
          let same = empties_nothing s v m (λ q. ap (λ fs. has_number fs q || has_number (ended_of s.insn) q) one.fixed ∙ ap (λ es. has_number es q) one.ended) ends.empties in
          let within = given_within s.temps claims v.bins s r sound may in
          let nowhere : IsNowhere v.bins t = λ q. ap (λ z. has_temp (held_in z q) t) (sym same.0) ∙ none q in
          let others : others_written s.insn ≡ [] = ap (λ fs. map Fixed fs ++ places_written s.insn) one.fixed ∙ one.places in
          let made = one_written a b at s claims site next site.flows v.bins h t r one is (places ∙ ap (λ os. Reg r ∷ map home_of os) others) within
          (λ q e. absurd (not_both (has_temp (held_in v.bins q) t) e (nowhere q))) low may.unclaimed
          (λ j e ne lv. ap (λ c. must_store c (Some j)) (sym (site.behind j.temp lv)) ∙ ap (λ o. must_store (lives s.behind o) o) (sym (ap (λ z. held_in z r) same.0 ∙ e)) ∙ leaves.saved) has sound handed in
          subst (λ z. Behind z (written_set (writes_of s.insn) (Reg r ∷ []) h)) (sym (are ∙ ap (λ z. slice_set z r (Some (held t Own))) same.0))
          (subst (λ z. Behind (slice_set v.bins r (Some (held t Own))) (written_set z (Reg r ∷ []) h)) (sym is)
          (subst (λ os. Behind (slice_set v.bins r (Some (held t Own))) (write_all (Temp t ∷ os) (Reg r ∷ map home_of os) (end_all (ends_place s.insn) h))) (sym others) made))

  pub visited : (u w : State) (transfers : List Transfer) (registers : List ℕ) (h : HolderPlaces) → transfers_at a b at ≡ transfers → registers_at a b at ≡ registers →
      Visits s u w transfers registers → Has live need claims u.bins h → Sound s.temps claims u.bins → Handed a b at (transfers_at a b at) u.bins →
      IsVisited transfers registers h w.bins
  visited u w transfers registers h et er v has sound handed =
      let handed_made = subst (λ xs. Handed a b at xs u.bins) (et ∙ v.is_made ∙ sym (append-nil v.ready.made)) handed in
      let ready = steps_lead a b at s claims site h u v.ready [] v.none_made v.steps has sound handed_made in
      let has_ready = subst (λ xs. Has live need claims v.ready.bins (move_all xs h)) (sym v.is_made) ready.has in
      let size = held_length (reads_of s.insn) v.read v.ready.bins v.held in
      let written_are : drop (length (reads_of s.insn)) registers ≡ v.written = ap (λ rs. drop (length (reads_of s.insn)) rs) v.registers_are ∙ drop_front v.read v.written (length (reads_of s.insn)) size in
      let places : places_written_at registers s.insn ≡ map Reg v.written ++ map home_of (others_written s.insn) = ap (λ rs. map Reg rs ++ map home_of (others_written s.insn)) written_are in
      let places_a : places_written_at (registers_at a b at) s.insn ≡ map Reg v.written ++ map home_of (others_written s.insn) = ap (λ rs. places_written_at rs s.insn) er ∙ places in
      let behind_all = acts v.ready v.left w v.written (writes_of s.insn) (move_all transfers h) refl places_a v.ends v.writes has_ready ready.sound ready.handed in
      record {
        moves = subst (λ xs. MovesAsk xs h) (sym v.is_made) ready.asks;
        temps_read = subst (λ rs. ReadsAsk (reads_of s.insn) rs (move_all transfers h)) (sym v.registers_are) (reads_ask live need claims v.ready.bins (move_all transfers h) (reads_of s.insn) v.read v.written reads has_ready v.held);
        fixed_read = fixed_ask live need claims v.ready.bins (move_all transfers h) (fixed_reads_of s.insn) fixed has_ready;
        has = subst (λ ps. Has behind need s.stands w.bins (write_all (holders_written s.insn) ps (end_all (ends_place s.insn) (move_all transfers h)))) (sym places) behind_all.has;
        sound = behind_all.sound;
        handed = behind_all.handed;
      }
