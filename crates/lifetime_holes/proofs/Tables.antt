-- What is put behind the lists of a table.
use Rattle.std.proofs.Common.{◌≡◌, ◌≢◌, ℕ, zero, suc, ◌+◌, ◌*◌, ◌<◌, ◌≤◌, ◌==◌, ◌||◌, ◌&&◌, nat_lt, Bool, true, false, List, [], ◌∷◌, ◌++◌, refl, sym, ap, ◌∙◌, subst, ⊎_elim, length, set, arith, length-set, get_or-set_same, get_or-set_other, Option, None}
use Rattle.std.specs.Prelude.{slice_get}
use Rattle.std.proofs.lemmas.Bool.{cases_lt, eq-eqb, eqb-true, lt-ltb, le-ltb}
use Rattle.std.proofs.lemmas.List.{get_or_past}
use Rattle.bk_bits.specs.Sets.{has, IsNext, HasNone}
use Rattle.bk_ilist.specs.Listing.{items}
use Rattle.temp_ir.specs.declared.insn.TempInsn.{TempInsn}
use Rattle.temp_ir.specs.Insns.{reads_of, writes_of}
use Rattle.bitvector_flow.specs.Lives.{has_register}
use Rattle.alloc_rules.specs.declared.scan.LifetimePart.{LifetimePart}
use Rattle.alloc_lifetime_ends.proofs.Few.{few}
use Rattle.lifetime_holes.specs.model.Spans.{Joins, JoinsSome, Puts, Marked, Changes, list_at}
use Rattle.lifetime_holes.specs.model.Spans.JoinsSome.{Once, Again}
use Rattle.lifetime_holes.specs.model.Spans.Puts.{IsPut, IsThere}
use Rattle.lifetime_holes.specs.model.Walks.{is_named, AreVisited, AreNamed}

-- ---- twice

joins_twice : (first last : ℕ) (old mid new : List LifetimePart) → JoinsSome first last old mid → JoinsSome first last mid new → JoinsSome first last old new
joins_twice first last old mid new one (Once j) = Again mid one j
joins_twice first last old mid new one (Again between some j) = Again between (joins_twice first last old mid between one some) j

puts_twice : (point : ℕ) (old mid new : List ℕ) → Puts point old mid → Puts point mid new → Puts point old new
puts_twice point old mid new (IsPut never e) (IsPut other d) = absurd (other old e)
puts_twice point old mid new (IsPut never e) (IsThere xs there d) = IsPut never (d ∙ e)
puts_twice point old mid new (IsThere xs there e) (IsPut never d) = absurd (never xs (e ∙ there))
puts_twice point old mid new (IsThere xs there e) (IsThere ys here d) = IsThere xs there (d ∙ e)

-- ---- tables

module _ {A : Type 0} (R : List A → List A → Type 0) where
  pub none_changed : (named : ℕ → Bool) (table : List (List A)) → ((t : ℕ) → t < length table → named t ≡ false) → Changes named R table table
  none_changed named table none = record {
    as_many = refl;
    each = λ t w. subst (λ b. Marked b R (list_at table t) (list_at table t)) (sym (none t w)) refl;
  }

  pub one_changed : (table new : List (List A)) (temp : ℕ) (xs : List A) → temp < length table → new ≡ set table temp xs → R (list_at table temp) xs → Changes (λ t. temp == t) R table new
  one_changed table new temp xs within is r = subst (Changes (λ t. temp == t) R table) (sym is) (record {
    as_many = length-set table temp xs;
    each = λ t w. by_case t (temp == t) refl;
  })
    where
      by_case : (t : ℕ) (b : Bool) → (temp == t) ≡ b → Marked b R (list_at table t) (list_at (set table temp xs) t)
      by_case t true e =
          let same : temp ≡ t = eqb-true temp t e in
          subst (λ u. R (list_at table u) (list_at (set table temp xs) u)) same (subst (R (list_at table temp)) (sym (get_or-set_same table temp xs [] within)) r)
      by_case t false e = get_or-set_other table temp t xs [] (λ same. let yes = eq-eqb temp t (sym same) in absurd (let clash : true ≡ false = sym yes ∙ e in cc))

  pub renamed : (named other : ℕ → Bool) (old new : List (List A)) → ((t : ℕ) → t < length old → named t ≡ other t) → Changes named R old new → Changes other R old new
  renamed named other old new same c = record {
    as_many = c.as_many;
    each = λ t w. subst (λ b. Marked b R (list_at old t) (list_at new t)) (same t w) (c.each t w);
  }

  module _ (twice : (old mid new : List A) → R old mid → R mid new → R old new) where
    pub both_marked : (a b : Bool) (old mid new : List A) → Marked a R old mid → Marked b R mid new → Marked (a || b) R old new
    both_marked true true old mid new m n = twice old mid new m n
    both_marked true false old mid new m n = subst (R old) (sym n) m
    both_marked false true old mid new m n = subst (λ o. R o new) m n
    both_marked false false old mid new m n = n ∙ m

    pub both_changed : (named other : ℕ → Bool) (old mid new : List (List A)) → Changes named R old mid → Changes other R mid new → Changes (λ t. named t || other t) R old new
    both_changed named other old mid new c d = record {
      as_many = d.as_many ∙ c.as_many;
      each = λ t w. both_marked (named t) (other t) (list_at old t) (list_at mid t) (list_at new t) (c.each t w) (let many = c.as_many in d.each t (omega (arith, w, many)));
    }

-- ---- the code of one temporary

pub mark_done : (table lent new : List (List LifetimePart)) (temp first last : ℕ) (old items made : List LifetimePart) → temp < length table → old ≡ list_at table temp → items ≡ old →
    lent ≡ set table temp [] → Joins first last items made → new ≡ set lent temp made → Changes (λ t. temp == t) (JoinsSome first last) table new
mark_done table lent new temp first last old items made within old_is items_is lent_is j new_is =
    one_changed (JoinsSome first last) table new temp made within (new_is ∙ ap (λ l. set l temp made) lent_is ∙ set_twice table temp) (Once (subst (λ l. Joins first last l made) (items_is ∙ old_is) j))
  where
    set_twice : (table : List (List LifetimePart)) (k : ℕ) → set (set table k []) k made ≡ set table k made
    set_twice [] k = refl
    set_twice (x ∷ xs) zero = refl
    set_twice (x ∷ xs) (suc k) = ap (λ l. x ∷ l) (set_twice xs k)

pub note_done : (table lent new : List (List ℕ)) (temp point : ℕ) (old items made : List ℕ) → temp < length table → old ≡ list_at table temp → items ≡ old →
    lent ≡ set table temp [] → Puts point items made → new ≡ set lent temp made → Changes (λ t. temp == t) (Puts point) table new
note_done table lent new temp point old items made within old_is items_is lent_is j new_is =
    one_changed (Puts point) table new temp made within (new_is ∙ ap (λ l. set l temp made) lent_is ∙ set_twice table temp) (subst (λ l. Puts point l made) (items_is ∙ old_is) j)
  where
    set_twice : (table : List (List ℕ)) (k : ℕ) → set (set table k []) k made ≡ set table k made
    set_twice [] k = refl
    set_twice (x ∷ xs) zero = refl
    set_twice (x ∷ xs) (suc k) = ap (λ l. x ∷ l) (set_twice xs k)

pub point_there : (old popped new : List ℕ) (last point : ℕ) → old ≡ popped ++ last ∷ [] → last ≡ point → new ≡ popped ++ last ∷ [] → Puts point old new
point_there old popped new last point is same made = IsThere popped (is ∙ ap (λ p. popped ++ p ∷ []) same) (made ∙ sym is)

-- ---- an instruction

two_named : (xs : List ℕ) (a b : Option ℕ) (t : ℕ) → length xs ≤ 2 → a ≡ slice_get xs 0 → b ≡ slice_get xs 1 → (is_named a t || is_named b t) ≡ has_register xs t
two_named [] a b t most a_is b_is = ap (λ o. is_named o t || is_named b t) a_is ∙ ap (λ o. is_named None t || is_named o t) b_is
two_named (x ∷ []) a b t most a_is b_is = ap (λ o. is_named o t || is_named b t) a_is ∙ ap (λ o. (x == t) || is_named o t) b_is
two_named (x ∷ y ∷ []) a b t most a_is b_is = ap (λ o. is_named o t || is_named b t) a_is ∙ ap (λ o. (x == t) || is_named o t) b_is ∙ ap (λ c. (x == t) || c) (sym (or_false (y == t)))
  where
    or_false : (c : Bool) → (c || false) ≡ c
    or_false true = refl
    or_false false = refl
two_named (x ∷ y ∷ z ∷ xs) a b t most a_is b_is = absurd (omega (arith, most))

one_named : (xs : List ℕ) (a : Option ℕ) (t : ℕ) → length xs ≤ 1 → a ≡ slice_get xs 0 → is_named a t ≡ has_register xs t
one_named [] a t most a_is = ap (λ o. is_named o t) a_is
one_named (x ∷ []) a t most a_is = ap (λ o. is_named o t) a_is ∙ sym (or_false (x == t))
  where
    or_false : (c : Bool) → (c || false) ≡ c
    or_false true = refl
    or_false false = refl
one_named (x ∷ y ∷ xs) a t most a_is = absurd (omega (arith, most))

pub insn_visited : (x : TempInsn) (start number : ℕ) (table one two three : List (List LifetimePart)) (a b w : Option ℕ) → a ≡ slice_get (reads_of x) 0 → b ≡ slice_get (reads_of x) 1 → w ≡ slice_get (writes_of x) 0 →
    Changes (is_named a) (JoinsSome start (2 * number)) table one → Changes (is_named b) (JoinsSome start (2 * number)) one two →
    Changes (is_named w) (JoinsSome (2 * number + 1) (2 * number + 1)) two three → AreVisited start number x table three
insn_visited x start number table one two three a b w a_is b_is w_is r s u =
    let most = few x in
    let read = renamed (JoinsSome start (2 * number)) (λ t. is_named a t || is_named b t) (has_register (reads_of x)) table two (λ t _. two_named (reads_of x) a b t most.0 a_is b_is)
    (both_changed (JoinsSome start (2 * number)) (joins_twice start (2 * number)) (is_named a) (is_named b) table one two r s) in
    let write = renamed (JoinsSome (2 * number + 1) (2 * number + 1)) (is_named w) (has_register (writes_of x)) two three (λ t _. one_named (writes_of x) w t most.1 w_is) u in
    record {
      as_many = write.as_many ∙ read.as_many;
      each = λ t v. record { mid = list_at two t; read = read.each t v; write = (let many = read.as_many in write.each t (omega (arith, v, many))) };
    }

pub insn_named : (x : TempInsn) (number : ℕ) (table one two three : List (List ℕ)) (a b w : Option ℕ) → a ≡ slice_get (reads_of x) 0 → b ≡ slice_get (reads_of x) 1 → w ≡ slice_get (writes_of x) 0 →
    Changes (is_named a) (Puts (2 * number)) table one → Changes (is_named b) (Puts (2 * number)) one two →
    Changes (is_named w) (Puts (2 * number + 1)) two three → AreNamed number x table three
insn_named x number table one two three a b w a_is b_is w_is r s u =
    let most = few x in
    let read = renamed (Puts (2 * number)) (λ t. is_named a t || is_named b t) (has_register (reads_of x)) table two (λ t _. two_named (reads_of x) a b t most.0 a_is b_is)
    (both_changed (Puts (2 * number)) (puts_twice (2 * number)) (is_named a) (is_named b) table one two r s) in
    let write = renamed (Puts (2 * number + 1)) (is_named w) (has_register (writes_of x)) two three (λ t _. one_named (writes_of x) w t most.1 w_is) u in
    record {
      as_many = write.as_many ∙ read.as_many;
      each = λ t v. record { mid = list_at two t; read = read.each t v; write = (let many = read.as_many in write.each t (omega (arith, v, many))) };
    }

-- ---- the members of a set

abbrev pub below : (set : List Bool) → (from t : ℕ) → Bool
below set from t = has set t && nat_lt t from

module _ (first last : ℕ) (set : List Bool) where
  pub set_begins : (table : List (List LifetimePart)) → Changes (below set 0) (JoinsSome first last) table table
  set_begins table = none_changed (JoinsSome first last) (below set 0) table (λ t w. no (has set t) t)
    where
      no : (b : Bool) (t : ℕ) → (b && nat_lt t 0) ≡ false
      no true t = le-ltb t 0 (omega arith)
      no false t = refl

  pub set_next : (from next temp : ℕ) (table one two : List (List LifetimePart)) → IsNext set from temp → next ≡ temp + 1 →
      Changes (λ t. temp == t) (JoinsSome first last) one two → Changes (below set from) (JoinsSome first last) table one → Changes (below set next) (JoinsSome first last) table two
  set_next from next temp table one two is step c so =
      renamed (JoinsSome first last) (λ t. below set from t || (temp == t)) (below set next) table two (λ t w. same t)
      (both_changed (JoinsSome first last) (joins_twice first last) (below set from) (λ t. temp == t) table one two so c)
    where
      apart : (t : ℕ) (b : Bool) → (temp == t) ≡ b → (temp ≢ t) → b ≡ false
      apart t true e never = absurd (never (eqb-true temp t e))
      apart t false e never = refl

      same : (t : ℕ) → (below set from t || (temp == t)) ≡ below set next t
      same t = ⊎_elim
          (λ (early : t < from).
          let low = is.0 in
          let ne : (temp == t) ≡ false = apart t (temp == t) refl (λ e. omega (arith, early, low, e)) in
          ap (λ c. (has set t && nat_lt t from) || c) ne ∙ or_false (has set t && nat_lt t from)
          ∙ ap (λ c. has set t && c) (lt_true t from early ∙ sym (lt_true t next (omega (arith, early, low, step)))))
          (λ (late : from ≤ t). ⊎_elim
          (λ (before : t < temp).
          let ne : (temp == t) ≡ false = apart t (temp == t) refl (λ e. omega (arith, before, e)) in
          let none = is.2 t late before in
          ap (λ c. (has set t && nat_lt t from) || c) ne ∙ or_false (has set t && nat_lt t from)
          ∙ ap (λ c. c && nat_lt t from) none ∙ sym (ap (λ c. c && nat_lt t next) none))
          (λ (behind : temp ≤ t). ⊎_elim
          (λ (here : t < next).
          let e : temp ≡ t = omega (arith, behind, here, step) in
          ap (λ c. (has set t && nat_lt t from) || c) (eq-eqb temp t e) ∙ or_true (has set t && nat_lt t from)
          ∙ sym (ap (λ c. c && nat_lt t next) (ap (has set) (sym e) ∙ is.1) ∙ lt_true t next here))
          (λ (past : next ≤ t).
          let ne : (temp == t) ≡ false = apart t (temp == t) refl (λ e. omega (arith, past, step, e)) in
          ap (λ c. (has set t && nat_lt t from) || c) ne ∙ or_false (has set t && nat_lt t from)
          ∙ ap (λ c. has set t && c) (lt_false t from late ∙ sym (lt_false t next past)))
          (cases_lt t next))
          (cases_lt t temp))
          (cases_lt t from)
        where
          or_false : (c : Bool) → (c || false) ≡ c
          or_false true = refl
          or_false false = refl

          or_true : (c : Bool) → (c || true) ≡ true
          or_true true = refl
          or_true false = refl

          lt_true : (a b : ℕ) → a < b → nat_lt a b ≡ true
          lt_true a b w = lt-ltb a b w

          lt_false : (a b : ℕ) → b ≤ a → nat_lt a b ≡ false
          lt_false a b w = le-ltb a b w

  pub set_done : (from : ℕ) (table one : List (List LifetimePart)) → HasNone set from → Changes (below set from) (JoinsSome first last) table one → Changes (has set) (JoinsSome first last) table one
  set_done from table one none so = renamed (JoinsSome first last) (below set from) (has set) table one (λ t w. same t) so
    where
      and_true : (c : Bool) → (c && true) ≡ c
      and_true true = refl
      and_true false = refl

      same : (t : ℕ) → below set from t ≡ has set t
      same t = ⊎_elim
          (λ (early : t < from). ap (λ c. has set t && c) (lt-ltb t from early) ∙ and_true (has set t))
          (λ (late : from ≤ t). ap (λ c. c && nat_lt t from) (none t late) ∙ sym (none t late))
          (cases_lt t from)

-- ---- a member is a temporary

within_set : (set : List Bool) (t : ℕ) → has set t ≡ true → t < length set
within_set set t h = ⊎_elim (λ (below : t < length set). below) (λ past. absurd (let none = get_or_past set t false past in cc)) (cases_lt t (length set))

pub next_inside : (set : List Bool) (from t bound : ℕ) → IsNext set from t → length set ≤ bound → t < bound
next_inside set from t bound next most = let within = within_set set t next.1 in omega (arith, within, most)
