-- The register of which each is a copy, by when each was written last.
use Rattle.std.proofs.Common.{◌≡◌, ◌≢◌, ℕ, zero, suc, ◌+◌, ◌<◌, ◌≤◌, ◌==◌, ◌&&◌, ◌⊎◌, nat_lt, Bool, true, false, List, [], ◌∷◌, ◌++◌, length, set, get_or, map, take, Option, Some, None, All, refl, sym, ap, ◌∙◌, subst, arith, inl, inr, ⊎_elim, replicate, length-set, get_or-set_same, append_assoc}
use Rattle.std.specs.Prelude.{slice_get, nat_le, if◌then◌else◌}
use Rattle.std.proofs.lemmas.Bool.{eq-eqb, ne_eqb, lt-ltb, le-ltb, le-leb, lt-leb, cases_eq}
use Rattle.std.proofs.lemmas.Option.{slice_get-get_or, slice_get_within, get_or_from_slice_get}
use Rattle.std.proofs.lemmas.List.{length-replicate, map-append, take_more}
use Rattle.std.proofs.lemmas.List.Elements.{All-head, All-set, All-weaker, All-replicate, All-nil, All-map}
use Rattle.std.proofs.Math.Path.{fun_ext}
use Rattle.bk_ilist.specs.Listing.{items}
use Rattle.pass_core.specs.Functions.{UsesRegisters}
use Rattle.suifvm_ir.specs.declared.insn.VmInsn.{VmInsn}
use Rattle.suifvm_ir.specs.Insns.{reads_of, writes_of}
use Rattle.flow_clean.specs.declared.origins.LastWrite.{LastWrite}
use Rattle.flow_clean.specs.Copies.{with_reads, move_source, behind, behind_write, behind_writes, no_copies, without_copies}
use Rattle.flow_clean.specs.model.Origins.{last_before, is_before, origin_by, origin, noted, noted_all, AreBefore, AreLast, IsLineCopied}
use Rattle.flow_clean.proofs.OtherReads.{reads_are, writes_same, source_kept}
use Rattle.flow_clean.proofs.WantedSets.{one_write}

-- ---- look-ups

there : (writes : List LastWrite) (k : ℕ) (d : LastWrite) → k < length writes → slice_get writes k ≡ Some (get_or writes k d)
there writes k d within = slice_get-get_or writes k d within

set_here : (writes : List LastWrite) (w : ℕ) (e : LastWrite) → w < length writes → slice_get (set writes w e) w ≡ Some e
set_here writes w e within =
    slice_get-get_or (set writes w e) w e (let same = length-set writes w e in omega (arith, same, within)) ∙ ap Some (get_or-set_same writes w e e within)

set_there : (writes : List LastWrite) (w k : ℕ) (e : LastWrite) → k ≢ w → slice_get (set writes w e) k ≡ slice_get writes k
set_there [] w k e apart = refl
set_there (v ∷ writes) zero zero e apart = absurd (apart refl)
set_there (v ∷ writes) zero (suc k) e apart = refl
set_there (v ∷ writes) (suc w) zero e apart = refl
set_there (v ∷ writes) (suc w) (suc k) e apart = set_there writes w k e (λ same. apart (ap suc same))

-- an entry of a list has what each has
found : (P : LastWrite → Type 0) (writes : List LastWrite) (k : ℕ) (e : LastWrite) → All P writes → slice_get writes k ≡ Some e → P e
found P writes k e all is = subst P (get_or_from_slice_get writes k e e is) (all k e (slice_get_within writes k e is))

not_less : (a b : ℕ) → b ≤ a → nat_lt a b ≡ false
not_less a b h = le-ltb a b h

-- ---- one write more

module _ (writes : List LastWrite) (start now w s : ℕ) (w_in : w < length writes) (s_in : s < length writes) (before : AreBefore now writes) (later : start ≤ now) where
  abbrev made : LastWrite
  made = record { when = now; source = s }

  abbrev new : List LastWrite
  new = set writes w made

  here : s ≢ w → is_before new s now ≡ true
  here apart =
      ap (λ o. last_before o now) (set_there writes w s made apart ∙ there writes s made s_in)
      ∙ lt-ltb (get_or writes s made).when now (before s made s_in)

  same_time : is_before new w now ≡ false
  same_time = ap (λ o. last_before o now) (set_here writes w made w_in) ∙ not_less now now (omega arith)

  at_write : origin new start w ≡ s
  at_write =
      ap (origin_by new start w) (set_here writes w made w_in)
      ∙ ap (λ b. if b && is_before new s now then s else w) (le-leb start now later)
      ∙ ⊎_elim
      (λ (e : s ≡ w). ap (λ z. if is_before new z now then s else w) e ∙ ap (λ b. if b then s else w) same_time ∙ sym e)
      (λ (apart : s ≢ w). ap (λ b. if b then s else w) (here apart))
      (cases_eq s w)

  module _ (k : ℕ) (apart : k ≢ w) where
    abbrev shown : ℕ → ℕ
    shown m = if m == w then k else m

    shown_self : shown k ≡ k
    shown_self = ap (λ b. if b then k else k) (ne_eqb k w apart)

    by_source : (e : LastWrite) → e.when < now → (e.source ≡ w) ⊎ (e.source ≢ w) → (b : Bool) → nat_le start e.when ≡ b →
        origin_by new start k (Some e) ≡ shown (origin_by writes start k (Some e))
    by_source e old choice false le =
        ap (λ b. if b && is_before new e.source e.when then e.source else k) le
        ∙ sym shown_self
        ∙ sym (ap (λ b. shown (if b && is_before writes e.source e.when then e.source else k)) le)
    by_source e old (inl same) true le =
        ap (λ b. if b && is_before new e.source e.when then e.source else k) le
        ∙ ap (λ z. if is_before new z e.when then e.source else k) same
        ∙ ap (λ b. if b then e.source else k) (ap (λ o. last_before o e.when) (set_here writes w made w_in) ∙ not_less now e.when (omega (arith, old)))
        ∙ sym (ap (λ b. shown (if b && is_before writes e.source e.when then e.source else k)) le ∙ either (is_before writes e.source e.when))
      where
        either : (b : Bool) → shown (if b then e.source else k) ≡ k
        either true = ap (λ b. if b then k else e.source) (eq-eqb e.source w same)
        either false = shown_self
    by_source e old (inr other) true le =
        ap (λ b. if b && is_before new e.source e.when then e.source else k) le
        ∙ ap (λ o. if last_before o e.when then e.source else k) (set_there writes w e.source made other)
        ∙ sym (ap (λ b. shown (if b && is_before writes e.source e.when then e.source else k)) le ∙ either (is_before writes e.source e.when))
      where
        either : (b : Bool) → shown (if b then e.source else k) ≡ (if b then e.source else k)
        either true = ap (λ b. if b then k else e.source) (ne_eqb e.source w other)
        either false = shown_self

    by_entry : (o : Option LastWrite) → slice_get writes k ≡ o → origin_by new start k o ≡ shown (origin_by writes start k o)
    by_entry None is = sym shown_self
    by_entry (Some e) is = by_source e (found (λ last. last.when < now) writes k e before is) (cases_eq e.source w) (nat_le start e.when) refl

    elsewhere : origin new start k ≡ shown (origin writes start k)
    elsewhere = ap (origin_by new start k) (set_there writes w k made apart) ∙ by_entry (slice_get writes k) refl

  pub written : (k : ℕ) → origin new start k ≡ behind_write (origin writes start) w s k
  written k = ⊎_elim
      (λ (e : k ≡ w). ap (origin new start) e ∙ at_write ∙ sym (ap (λ b. if b then s else (if origin writes start k == w then k else origin writes start k)) (eq-eqb k w e)))
      (λ (apart : k ≢ w). elsewhere k apart ∙ sym (ap (λ b. if b then s else (if origin writes start k == w then k else origin writes start k)) (ne_eqb k w apart)))
      (cases_eq k w)

-- ---- one instruction more

module _ (writes : List LastWrite) (start now : ℕ) (j : VmInsn) (before : AreBefore now writes) (later : start ≤ now)
    (reads_in : All (λ register. register < length writes) (reads_of j)) where
  noted_list : (ws : List ℕ) → length ws ≤ 1 → All (λ register. register < length writes) ws → (k : ℕ) → origin (noted_all writes now j ws) start k ≡ behind_writes (origin writes start) j ws k
  noted_list [] few inside k = refl
  noted_list (w ∷ []) few inside k =
      let w_in = All-head (λ register. register < length writes) w [] inside in
      written writes start now w (move_source j w) w_in (source_kept (λ register. register < length writes) j w reads_in w_in) before later k
  noted_list (w ∷ v ∷ ws) few inside k = absurd (omega (arith, few))

  pub noted_origins : All (λ register. register < length writes) (writes_of j) → origin (noted writes now j) start ≡ behind (origin writes start) j
  noted_origins inside = fun_ext (λ k. noted_list (writes_of j) (one_write j) inside k)

  last_list : (ws : List ℕ) → length ws ≤ 1 → All (λ register. register < length writes) ws → All (λ last. last.source < length writes) writes →
      AreLast (length writes) (now + 1) (noted_all writes now j ws)
  last_list [] few inside sources = record {
    as_many = refl;
    before = All-weaker (λ (last : LastWrite). last.when < now) (λ (last : LastWrite). last.when < now + 1) (λ last h. omega (arith, h)) writes before;
    inside = sources;
  }
  last_list (w ∷ []) few inside sources =
      let w_in = All-head (λ register. register < length writes) w [] inside in
      record {
        as_many = length-set writes w (record { when = now; source = move_source j w });
        before = All-set (λ (last : LastWrite). last.when < now + 1) writes w (record { when = now; source = move_source j w }) (omega arith)
            (All-weaker (λ (last : LastWrite). last.when < now) (λ (last : LastWrite). last.when < now + 1) (λ last h. omega (arith, h)) writes before);
        inside = All-set (λ (last : LastWrite). last.source < length writes) writes w (record { when = now; source = move_source j w })
            (source_kept (λ register. register < length writes) j w reads_in w_in) sources;
      }
  last_list (w ∷ v ∷ ws) few inside sources = absurd (omega (arith, few))

  pub noted_last : All (λ register. register < length writes) (writes_of j) → All (λ last. last.source < length writes) writes → AreLast (length writes) (now + 1) (noted writes now j)
  noted_last inside sources = last_list (writes_of j) (one_write j) inside sources

-- ---- what stands at the top of a block, and what is in range

leb_false : (start when : ℕ) → when < start → nat_le start when ≡ false
leb_false start when h = lt-leb start when h

top_by : (writes : List LastWrite) (start k : ℕ) → AreBefore start writes → (o : Option LastWrite) → slice_get writes k ≡ o → origin_by writes start k o ≡ k
top_by writes start k before None is = refl
top_by writes start k before (Some e) is =
    ap (λ b. if b && is_before writes e.source e.when then e.source else k) (leb_false start e.when (found (λ last. last.when < start) writes k e before is))

pub at_top : (writes : List LastWrite) (start : ℕ) → AreBefore start writes → origin writes start ≡ no_copies
at_top writes start before = fun_ext (λ k. top_by writes start k before (slice_get writes k) refl)

range_by : (writes : List LastWrite) (start k : ℕ) → All (λ last. last.source < length writes) writes → k < length writes → (o : Option LastWrite) → slice_get writes k ≡ o → origin_by writes start k o < length writes
range_by writes start k sources within None is = within
range_by writes start k sources within (Some e) is = by_choice (nat_le start e.when && is_before writes e.source e.when)
  where
    by_choice : (b : Bool) → (if b then e.source else k) < length writes
    by_choice true = found (λ last. last.source < length writes) writes k e sources is
    by_choice false = within

mapped_in : (writes : List LastWrite) (start : ℕ) → All (λ last. last.source < length writes) writes → (ks : List ℕ) → All (λ k. k < length writes) ks → All (λ k. k < length writes) (map (origin writes start) ks)
mapped_in writes start sources ks inside = All-map (λ k. k < length writes) (origin writes start) ks
    (All-weaker (λ k. k < length writes) (λ k. origin writes start k < length writes) (λ k within. range_by writes start k sources within (slice_get writes k) refl) ks inside)

-- ---- one line more

module _ (start now : ℕ) (i : VmInsn) (made made_new : List VmInsn) (writes writes_new : List LastWrite) (line : IsLineCopied start now i made made_new writes writes_new)
    (before : AreBefore now writes) (sources : All (λ (last : LastWrite). last.source < length writes) writes) (later : start ≤ now) (uses : UsesRegisters reads_of writes_of (length writes) i) where
  abbrev j : VmInsn
  j = with_reads (origin writes start) i

  reads_inside : All (λ register. register < length writes) (reads_of j)
  reads_inside = subst (All (λ register. register < length writes)) (sym (reads_are (origin writes start) i)) (mapped_in writes start sources (reads_of i) uses.0)

  writes_inside : All (λ register. register < length writes) (writes_of j)
  writes_inside = subst (All (λ register. register < length writes)) (sym (writes_same (origin writes start) i)) uses.1

  pub line_last : AreLast (length writes) (now + 1) writes_new
  line_last = subst (AreLast (length writes) (now + 1)) (sym line.writes_are) (noted_last writes start now j before later reads_inside writes_inside sources)

  pub line_made : (id : ℕ) (rest all : List (ℕ × VmInsn)) (whole : List VmInsn) → all ≡ (id, i) ∷ rest → made ++ without_copies (origin writes start) (items all) ≡ whole →
      made_new ++ without_copies (origin writes_new start) (items rest) ≡ whole
  line_made id rest all whole is so =
      ap (λ l. l ++ without_copies (origin writes_new start) (items rest)) line.made_is
      ∙ append_assoc made (j ∷ []) (without_copies (origin writes_new start) (items rest))
      ∙ ap (λ o. made ++ j ∷ without_copies o (items rest)) (ap (λ l. origin l start) line.writes_are ∙ noted_origins writes start now j before later reads_inside writes_inside)
      ∙ sym (ap (λ l. made ++ without_copies (origin writes start) (items l)) is) ∙ so

-- ---- at first

pub first_last : (registers : ℕ) (writes : List LastWrite) → writes ≡ replicate registers (record { when = 0; source = 0 }) → AreLast registers 1 writes
first_last registers writes is = subst (AreLast registers 1) (sym is) (of_count registers)
  where
    of_count : (n : ℕ) → AreLast n 1 (replicate n (record { when = 0; source = 0 }))
    of_count n = record {
      as_many = length-replicate n (record { when = 0; source = 0 });
      before = All-replicate (λ (last : LastWrite). last.when < 1) n (record { when = 0; source = 0 }) (omega arith);
      inside = in_range n;
    }
      where
        in_range : (m : ℕ) → All (λ (last : LastWrite). last.source < m) (replicate m (record { when = 0; source = 0 }))
        in_range zero = All-nil (λ (last : LastWrite). last.source < 0)
        in_range (suc m) = All-replicate (λ (last : LastWrite). last.source < suc m) (suc m) (record { when = 0; source = 0 }) (omega arith)

pub uses_now : (i : VmInsn) (writes : List LastWrite) (registers : ℕ) → length writes ≡ registers → UsesRegisters reads_of writes_of registers i → UsesRegisters reads_of writes_of (length writes) i
uses_now i writes registers many uses = subst (λ n. UsesRegisters reads_of writes_of n i) (sym many) uses

pub last_now : (registers time : ℕ) (writes writes_new : List LastWrite) → length writes ≡ registers → AreLast (length writes) time writes_new → AreLast registers time writes_new
last_now registers time writes writes_new many last = subst (λ n. AreLast n time writes_new) many last

pub sources_now : (registers time : ℕ) (writes : List LastWrite) → AreLast registers time writes → All (λ (last : LastWrite). last.source < length writes) writes
sources_now registers time writes last = subst (λ n. All (λ (l : LastWrite). l.source < n) writes) (sym last.as_many) last.inside

pub origins_more : (f : ℕ → ℕ) (xs so_far : List ℕ) (i r : ℕ) → so_far ≡ map f (take i xs) → i < length xs → r ≡ get_or xs i r → so_far ++ f r ∷ [] ≡ map f (take (i + 1) xs)
origins_more f xs so_far i r is within found =
    ap (λ l. l ++ f r ∷ []) is ∙ sym (map-append f (take i xs) (r ∷ [])) ∙ ap (map f) (sym (take_more xs i r within ∙ ap (λ x. take i xs ++ x ∷ []) (sym found)))
