-- The arguments of a call are handed over, and the called function has them in its registers.
use Rattle.std.proofs.Common.{◌≡◌, ℕ, zero, suc, ◌+◌, ◌-◌, ◌<◌, ◌≤◌, ◌⊎◌, inl, inr, List, [], ◌∷◌, ◌++◌, length, map, min, take, Bool, true, false, refl, sym, ap, ◌∙◌, subst, arith}
use Rattle.std.specs.Prelude.{◌==◌, nat_lt, slice_index_or, if◌then◌else◌}
use Rattle.std.specs.List.{range_with_len}
use Rattle.std.proofs.Common.{eq-eqb, lt-ltb, le-ltb, ltb-true, ltb-false}
use Rattle.std.proofs.lemmas.Bool.{ne_eqb}
use Rattle.mem_model.specs.declared.value.Value.{Value}
use Rattle.mem_model.specs.declared.value.Value.TheVariants.{Word, Address, Unset}
use Rattle.mem_model.specs.World.{Outer}
use Rattle.machine_model.specs.Code.{Writes}
use Rattle.suifvm_meaning.specs.Operations.{is_set}
use Rattle.suifvm_meaning.specs.Behave.{registers_of}
use Rattle.temp_ir.specs.declared.insn.TempInsn.{TempInsn}
use Rattle.temp_ir.specs.declared.insn.TempInsn.TheVariants as i
use Rattle.temp_ir.specs.Fixed.{register_number}
use Rattle.temp_ir.specs.Fixed as fixed
use Rattle.alloc_model.specs.Contents.{Content, Plain, Gives, unset_content}
use Rattle.alloc_model.specs.Stores.{without, put, put_all, empty}
use Rattle.alloc_model.specs.Effect.{Holder, Temp, Fixed, Incoming, Outgoing, holder_eq, argument_places, entry_holders, argument_answer, writes, fails, holders_read, holders_written, calls_function, is_emptied, does, takes_turn}
use Rattle.alloc_model.specs.Temporaries.{Temps}
use Rattle.selection_forms.specs.alpha_forms.Straight.{NotStraight, goes_with, runs}
use Rattle.selection_forms.proofs.AlphaForms.Runs.{without_plain}
use Rattle.selection_code.specs.Instructions.{temp_of, argument_register, pass_item, pass_items, take_item, take_items}

-- ---- one instruction

eq_self : (h : Holder) → holder_eq h h ≡ true
eq_self (Temp k) = eq-eqb k k refl
eq_self (Fixed k) = eq-eqb k k refl
eq_self (Incoming k) = eq-eqb k k refl
eq_self (Outgoing k) = eq-eqb k k refl

-- an instruction puts a content into one holder
pub record Wrote (widest own : ℕ) (x : TempInsn) (s : Temps) (o : Outer) (h : Holder) (c : Content) : Type 0 where
  pub after : Temps
  pub ran : (xs : List TempInsn) → runs widest (x ∷ xs) own s o ≡ runs widest xs own after o
  pub holds : after h ≡ c
  pub kept : (k : Holder) → holder_eq k h ≡ false → after k ≡ s k

pub wrote_one : (widest own : ℕ) (x : TempInsn) (s : Temps) (o : Outer) (h : Holder) (c : Content) → takes_turn x ≡ false → calls_function x ≡ false → holders_written x ≡ h ∷ [] →
    does widest x own (map s (holders_read x)) o ≡ Writes (c ∷ []) o → Wrote widest own x s o h c
wrote_one widest own x s o h c turn call written act = record {
  after = put holder_eq h c (without (is_emptied x) s);
  ran = λ xs.
      ap (λ b. if b then NotStraight else goes_with x s (does widest x own (map s (holders_read x)) o) (λ t q. runs widest xs own t q)) turn
      ∙ ap (λ a. goes_with x s a (λ t q. runs widest xs own t q)) act
      ∙ ap (λ hs. runs widest xs own (put_all holder_eq hs (c ∷ []) (without (is_emptied x) s)) o) written;
  holds = ap (λ b. if b then c else without (is_emptied x) s h) (eq_self h);
  kept = λ k other. ap (λ b. if b then c else without (is_emptied x) s k) other ∙ without_plain x call s k;
}

-- ---- where an argument stands: in its register, or from the seventh on in a place

abbrev pub holder_of : (place : ℕ → Holder) → (k : ℕ) → Holder
holder_of place k = if nat_lt k 6 then Fixed (16 + k) else place (k - 6)

abbrev pub holders_of : (place : ℕ → Holder) → (k count : ℕ) → List Holder
holders_of place k zero = []
holders_of place k (suc count) = holder_of place k ∷ holders_of place (suc k) count

register_is : (k : ℕ) → k < 6 → register_number (argument_register k) ≡ 16 + k
register_is zero lt = refl
register_is (suc zero) lt = refl
register_is (suc (suc zero)) lt = refl
register_is (suc (suc (suc zero))) lt = refl
register_is (suc (suc (suc (suc zero)))) lt = refl
register_is (suc (suc (suc (suc (suc zero))))) lt = refl
register_is (suc (suc (suc (suc (suc (suc k)))))) lt = absurd (omega (arith, lt))

module _ (place : ℕ → Holder) (in_order : (a b : ℕ) → holder_eq (place a) (place b) ≡ (a == b)) (no_register : (a r : ℕ) → holder_eq (place a) (Fixed r) ≡ false)
    (no_place : (a r : ℕ) → holder_eq (Fixed r) (place a) ≡ false) (no_temp : (a t : ℕ) → holder_eq (place a) (Temp t) ≡ false) (no_holder : (a t : ℕ) → holder_eq (Temp t) (place a) ≡ false) where
  apart_by : (j k : ℕ) (a b : Bool) → nat_lt j 6 ≡ a → nat_lt k 6 ≡ b → j < k →
      holder_eq (if a then Fixed (16 + j) else place (j - 6)) (if b then Fixed (16 + k) else place (k - 6)) ≡ false
  apart_by j k true true e f lt = ne_eqb (16 + j) (16 + k) (λ same. omega (arith, same, lt))
  apart_by j k true false e f lt = no_place (k - 6) (16 + j)
  apart_by j k false true e f lt = no_register (j - 6) (16 + k)
  apart_by j k false false e f lt =
      let high : 6 ≤ j = ltb-false j 6 e in
      in_order (j - 6) (k - 6) ∙ ne_eqb (j - 6) (k - 6) (λ same. omega (arith, same, lt, high))

  pub apart : (j k : ℕ) → j < k → holder_eq (holder_of place j) (holder_of place k) ≡ false
  apart j k lt = apart_by j k (nat_lt j 6) (nat_lt k 6) refl refl lt

  pub temp_apart : (t k : ℕ) → holder_eq (Temp t) (holder_of place k) ≡ false
  temp_apart t k = by_test (nat_lt k 6)
    where
      by_test : (b : Bool) → holder_eq (Temp t) (if b then Fixed (16 + k) else place (k - 6)) ≡ false
      by_test true = refl
      by_test false = no_holder (k - 6) t

  pub holder_apart : (k t : ℕ) → holder_eq (holder_of place k) (Temp t) ≡ false
  holder_apart k t = by_test (nat_lt k 6)
    where
      by_test : (b : Bool) → holder_eq (if b then Fixed (16 + k) else place (k - 6)) (Temp t) ≡ false
      by_test true = refl
      by_test false = no_temp (k - 6) t

  places_from : (p m : ℕ) → map place (range_with_len p m) ≡ holders_of place (6 + p) m
  places_from p zero = refl
  places_from p (suc m) =
      let past : nat_lt (6 + p) 6 ≡ false = le-ltb (6 + p) 6 (omega arith) in
      let back : p ≡ 6 + p - 6 = omega arith in
      let next : 6 + (p + 1) ≡ suc (6 + p) = omega arith in
      ap (λ h. h ∷ map place (range_with_len (p + 1) m)) (ap place back ∙ sym (ap (λ b. if b then Fixed (16 + (6 + p)) else place (6 + p - 6)) past))
      ∙ ap (λ hs. holder_of place (6 + p) ∷ hs) (places_from (p + 1) m ∙ ap (λ k. holders_of place k m) next)

  -- the registers of the first arguments and the places of the others
  pub registers_and_places : (n : ℕ) → map Fixed (fixed.argument_registers n) ++ map place (argument_places n) ≡ holders_of place 0 n
  registers_and_places zero = refl
  registers_and_places (suc zero) = refl
  registers_and_places (suc (suc zero)) = refl
  registers_and_places (suc (suc (suc zero))) = refl
  registers_and_places (suc (suc (suc (suc zero)))) = refl
  registers_and_places (suc (suc (suc (suc (suc zero))))) = refl
  registers_and_places (suc (suc (suc (suc (suc (suc m)))))) =
      let n = suc (suc (suc (suc (suc (suc m))))) in
      let six : min n 6 ≡ 6 = omega arith in
      let rest : n - 6 ≡ m = omega arith in
      ap (λ k. map Fixed (take k (16 ∷ 17 ∷ 18 ∷ 19 ∷ 20 ∷ 21 ∷ [])) ++ map place (argument_places n)) six
      ∙ ap (λ k. map Fixed (16 ∷ 17 ∷ 18 ∷ 19 ∷ 20 ∷ 21 ∷ []) ++ map place (range_with_len 0 k)) rest
      ∙ ap (λ hs. Fixed 16 ∷ Fixed 17 ∷ Fixed 18 ∷ Fixed 19 ∷ Fixed 20 ∷ Fixed 21 ∷ hs) (places_from 0 m)

  -- what holders hold, from one on
  abbrev pub HoldsFrom : Temps → (k : ℕ) → List Content → Type 0
  HoldsFrom s k [] = Unit {0}
  HoldsFrom s k (c ∷ cs) = (s (holder_of place k) ≡ c) × HoldsFrom s (suc k) cs

  -- contents are put into them
  pub record PutFrom (s t : Temps) (k : ℕ) (cs : List Content) : Type 0 where
    pub holds : HoldsFrom t k cs
    pub earlier : (j : ℕ) → j < k → t (holder_of place j) ≡ s (holder_of place j)
    pub temps : (j : ℕ) → t (Temp j) ≡ s (Temp j)

  pub puts_from : (cs : List Content) (k : ℕ) (s : Temps) → PutFrom s (put_all holder_eq (holders_of place k (length cs)) cs s) k cs
  puts_from [] k s = record { holds = tt; earlier = λ j lt. refl; temps = λ j. refl }
  puts_from (c ∷ cs) k s =
      let t = put holder_eq (holder_of place k) c s in
      let rest = puts_from cs (suc k) t in
      record {
        holds = (rest.earlier k (omega arith) ∙ ap (λ b. if b then c else s (holder_of place k)) (eq_self (holder_of place k)), rest.holds);
        earlier = λ j lt. rest.earlier j (omega (arith, lt)) ∙ ap (λ b. if b then c else s (holder_of place j)) (apart j k lt);
        temps = λ j. rest.temps j ∙ ap (λ b. if b then c else s (Temp j)) (temp_apart j k);
      }

-- ---- places of the next call, and of this one

pub out_order : (a b : ℕ) → holder_eq (Outgoing a) (Outgoing b) ≡ (a == b)
out_order a b = refl

pub in_order : (a b : ℕ) → holder_eq (Incoming a) (Incoming b) ≡ (a == b)
in_order a b = refl

pub never_out : (a k : ℕ) → holder_eq (Outgoing a) (Fixed k) ≡ false
never_out a k = refl

pub never_in : (a k : ℕ) → holder_eq (Incoming a) (Fixed k) ≡ false
never_in a k = refl

pub fixed_out : (a k : ℕ) → holder_eq (Fixed k) (Outgoing a) ≡ false
fixed_out a k = refl

pub fixed_in : (a k : ℕ) → holder_eq (Fixed k) (Incoming a) ≡ false
fixed_in a k = refl

pub out_temp : (a k : ℕ) → holder_eq (Outgoing a) (Temp k) ≡ false
out_temp a k = refl

pub in_temp : (a k : ℕ) → holder_eq (Incoming a) (Temp k) ≡ false
in_temp a k = refl

pub temp_out : (a k : ℕ) → holder_eq (Temp k) (Outgoing a) ≡ false
temp_out a k = refl

pub temp_in : (a k : ℕ) → holder_eq (Temp k) (Incoming a) ≡ false
temp_in a k = refl

-- ---- values that are set, and registers that hold values, from one on

abbrev pub AllSet : List Value → Type 0
AllSet [] = Unit {0}
AllSet (v ∷ vs) = (is_set v ≡ true) × AllSet vs

abbrev pub RegistersFrom : Temps → (k : ℕ) → List Value → Type 0
RegistersFrom s k [] = Unit {0}
RegistersFrom s k (v ∷ vs) = (s (Temp (temp_of k)) ≡ Plain v) × RegistersFrom s (suc k) vs

-- ---- arguments are passed

module _ (widest own : ℕ) (o : Outer) where
  pass_wrote : (k t : ℕ) (s : Temps) → k < widest → Wrote widest own (pass_item k t) s o (holder_of Outgoing k) (s (Temp t))
  pass_wrote k t s within = by_test (nat_lt k 6) refl
    where
      by_test : (b : Bool) → nat_lt k 6 ≡ b → Wrote widest own (if b then i.ToFixed (argument_register k) t else i.WriteArgument (k - 6) t) s o (if b then Fixed (16 + k) else Outgoing (k - 6)) (s (Temp t))
      by_test true e =
          wrote_one widest own (i.ToFixed (argument_register k) t) s o (Fixed (16 + k)) (s (Temp t)) refl refl (ap (λ r. Fixed r ∷ []) (register_is k (ltb-true k 6 e))) refl
      by_test false e =
          let high : 6 ≤ k = ltb-false k 6 e in
          wrote_one widest own (i.WriteArgument (k - 6) t) s o (Outgoing (k - 6)) (s (Temp t)) refl refl refl
          (ap (λ b. if b then Writes (s (Temp t) ∷ []) o else fails o) (lt-ltb (k - 6 + 6) widest (omega (arith, high, within))))

  pub record PassesArguments (s : Temps) (k : ℕ) (arguments : List ℕ) : Type 0 where
    pub after : Temps
    pub ran : (xs : List TempInsn) → runs widest (pass_items k arguments ++ xs) own s o ≡ runs widest xs own after o
    pub holds : map after (holders_of Outgoing k (length arguments)) ≡ map (λ a. s (Temp (temp_of a))) arguments
    pub earlier : (j : ℕ) → j < k → after (holder_of Outgoing j) ≡ s (holder_of Outgoing j)
    pub temps : (t : ℕ) → after (Temp t) ≡ s (Temp t)

  pub passed_arguments : (arguments : List ℕ) (k : ℕ) (s : Temps) → k + length arguments ≤ widest → PassesArguments s k arguments
  passed_arguments [] k s fits = record { after = s; ran = λ xs. refl; holds = refl; earlier = λ j lt. refl; temps = λ t. refl }
  passed_arguments (a ∷ arguments) k s fits =
      let w = pass_wrote k (temp_of a) s (omega (arith, fits)) in
      let rest = passed_arguments arguments (suc k) w.after (omega (arith, fits)) in
      record {
        after = rest.after;
        ran = λ xs. w.ran (pass_items (suc k) arguments ++ xs) ∙ rest.ran xs;
        holds =
            ap (λ c. c ∷ map rest.after (holders_of Outgoing (suc k) (length arguments))) (rest.earlier k (omega arith) ∙ w.holds)
            ∙ ap (λ cs. s (Temp (temp_of a)) ∷ cs) (rest.holds ∙ each w.after s arguments (λ t. w.kept (Temp t) (temp_apart Outgoing out_order never_out fixed_out out_temp temp_out t k)));
        earlier = λ j lt. rest.earlier j (omega (arith, lt)) ∙ w.kept (holder_of Outgoing j) (apart Outgoing out_order never_out fixed_out out_temp temp_out j k lt);
        temps = λ t. rest.temps t ∙ w.kept (Temp t) (temp_apart Outgoing out_order never_out fixed_out out_temp temp_out t k);
      }
    where
      each : (p q : Temps) (xs : List ℕ) → ((t : ℕ) → p (Temp t) ≡ q (Temp t)) → map (λ a. p (Temp (temp_of a))) xs ≡ map (λ a. q (Temp (temp_of a))) xs
      each p q [] same = refl
      each p q (a ∷ xs) same = ap (λ c. c ∷ map (λ a. p (Temp (temp_of a))) xs) (same (temp_of a)) ∙ ap (λ cs. q (Temp (temp_of a)) ∷ cs) (each p q xs same)

  -- ---- and taken

  take_wrote : (k : ℕ) (v : Value) (s : Temps) → s (holder_of Incoming k) ≡ Plain v → is_set v ≡ true → Wrote widest own (take_item k (temp_of k)) s o (Temp (temp_of k)) (Plain v)
  take_wrote k v s held set = by_test (nat_lt k 6) refl held
    where
      given : (v : Value) → is_set v ≡ true → argument_answer (Plain v) ≡ Gives (Plain v)
      given (Word n) e = refl
      given (Address p) e = refl
      given Unset e = absurd (cc)

      by_test : (b : Bool) → nat_lt k 6 ≡ b → s (if b then Fixed (16 + k) else Incoming (k - 6)) ≡ Plain v →
          Wrote widest own (if b then i.FromFixed (temp_of k) (argument_register k) else i.ReadArgument (temp_of k) (k - 6)) s o (Temp (temp_of k)) (Plain v)
      by_test true e h =
          wrote_one widest own (i.FromFixed (temp_of k) (argument_register k)) s o (Temp (temp_of k)) (Plain v) refl refl refl
          (ap (λ c. Writes (c ∷ []) o) (ap (λ r. s (Fixed r)) (register_is k (ltb-true k 6 e)) ∙ h))
      by_test false e h =
          wrote_one widest own (i.ReadArgument (temp_of k) (k - 6)) s o (Temp (temp_of k)) (Plain v) refl refl refl
          (ap (λ c. writes (argument_answer c) o) h ∙ ap (λ a. writes a o) (given v set))

  pub record TakenArguments (s : Temps) (k : ℕ) (vs : List Value) : Type 0 where
    pub after : Temps
    pub ran : (xs : List TempInsn) → runs widest (take_items k (length vs) ++ xs) own s o ≡ runs widest xs own after o
    pub holds : RegistersFrom after k vs
    pub kept : (t : ℕ) → (t < temp_of k) ⊎ (temp_of k + length vs ≤ t) → after (Temp t) ≡ s (Temp t)

  still : (s t : Temps) (k : ℕ) (vs : List Value) → ((j : ℕ) → t (holder_of Incoming j) ≡ s (holder_of Incoming j)) → HoldsFrom Incoming in_order never_in fixed_in in_temp temp_in s k (map Plain vs) → HoldsFrom Incoming in_order never_in fixed_in in_temp temp_in t k (map Plain vs)
  still s t k [] same h = tt
  still s t k (v ∷ vs) same h = (same k ∙ h.0, still s t (suc k) vs same h.1)

  pub taken : (vs : List Value) (k : ℕ) (s : Temps) → HoldsFrom Incoming in_order never_in fixed_in in_temp temp_in s k (map Plain vs) → AllSet vs → TakenArguments s k vs
  taken [] k s h set = record { after = s; ran = λ xs. refl; holds = tt; kept = λ t out. refl }
  taken (v ∷ vs) k s h set =
      let w = take_wrote k v s h.0 set.0 in
      let rest = taken vs (suc k) w.after (still s w.after (suc k) vs (λ j. w.kept (holder_of Incoming j) (holder_apart Incoming in_order never_in fixed_in in_temp temp_in j (temp_of k))) h.1) set.1 in
      record {
        after = rest.after;
        ran = λ xs. w.ran (take_items (suc k) (length vs) ++ xs) ∙ rest.ran xs;
        holds = (rest.kept (temp_of k) (inl (omega arith)) ∙ w.holds, rest.holds);
        kept = λ t out. rest.kept t (further t out) ∙ w.kept (Temp t) (ne_eqb t (temp_of k) (other t out));
      }
    where
      further : (t : ℕ) → (t < temp_of k) ⊎ (temp_of k + length (v ∷ vs) ≤ t) → (t < temp_of (suc k)) ⊎ (temp_of (suc k) + length vs ≤ t)
      further t (inl a) = inl (omega (arith, a))
      further t (inr b) = inr (omega (arith, b))

      other : (t : ℕ) → (t < temp_of k) ⊎ (temp_of k + length (v ∷ vs) ≤ t) → t ≡ temp_of k → ⊥
      other t (inl a) e = omega (arith, a, e)
      other t (inr b) e = omega (arith, b, e)

  -- a register holds its argument, and what is past the arguments is unset
  pub register_holds : (vs : List Value) (k j : ℕ) (s : Temps) → RegistersFrom s k vs → ((t : ℕ) → temp_of k + length vs ≤ t → s (Temp t) ≡ unset_content) →
      s (Temp (temp_of (k + j))) ≡ Plain (slice_index_or vs j Unset)
  register_holds [] k j s h past = past (temp_of (k + j)) (omega arith)
  register_holds (v ∷ vs) k zero s h past = let same : k + 0 ≡ k = omega arith in ap (λ n. s (Temp (temp_of n))) same ∙ h.0
  register_holds (v ∷ vs) k (suc j) s h past =
      let same : k + suc j ≡ suc k + j = omega arith in
      ap (λ n. s (Temp (temp_of n))) same ∙ register_holds vs (suc k) j s h.1 (λ t le. past t (omega (arith, le)))

  -- ---- the entry of a function with as many arguments as it takes

  pub record EntersWithArguments (vs : List Value) : Type 0 where
    pub after : Temps
    pub ran : (xs : List TempInsn) → runs widest (take_items 0 (length vs) ++ xs) own (put_all holder_eq (entry_holders (length (map Plain vs))) (map Plain vs) empty) o ≡ runs widest xs own after o
    pub holds : (k : ℕ) → after (Temp (temp_of k)) ≡ Plain (registers_of vs k)

  pub enters : (vs : List Value) → AllSet vs → EntersWithArguments vs
  enters vs set =
      let cs = map Plain vs in
      let s = put_all holder_eq (entry_holders (length cs)) cs empty in
      let same : entry_holders (length cs) ≡ holders_of Incoming 0 (length cs) = registers_and_places Incoming in_order never_in fixed_in in_temp temp_in (length cs) in
      let p = puts_from Incoming in_order never_in fixed_in in_temp temp_in cs 0 empty in
      let q : PutFrom Incoming in_order never_in fixed_in in_temp temp_in empty s 0 cs = subst (λ hs. PutFrom Incoming in_order never_in fixed_in in_temp temp_in empty (put_all holder_eq hs cs empty) 0 cs) (sym same) p in
      let t = taken vs 0 s q.holds set in
      record {
        after = t.after;
        ran = t.ran;
        holds = λ k. ap (λ n. t.after (Temp (temp_of n))) (none k) ∙ register_holds vs 0 k t.after t.holds (λ j le. t.kept j (inr le) ∙ q.temps j);
      }
    where
      none : (k : ℕ) → k ≡ 0 + k
      none k = omega arith
