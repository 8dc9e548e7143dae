-- What a step leaves, and a round, and all of them.
use Rattle.std.proofs.Common.{◌≡◌, ◌≢◌, ℕ, zero, suc, ◌+◌, ◌<◌, ◌≤◌, ◌||◌, ◌&&◌, ◌⊎◌, not, Bool, true, false, List, [], ◌∷◌, refl, sym, ap, ◌∙◌, subst, inl, inr, ⊎_elim, length, get_or, set, arith, length-set, get_or-set_same, get_or-set_other, replicate, take, drop, ◌++◌}
use Rattle.std.specs.Prelude.{Contains}
use Rattle.std.specs.Bool.{OnTrue, OnFalse}
use Rattle.std.proofs.lemmas.Bool.{cases_lt, cases_eq}
use Rattle.std.proofs.lemmas.List.{get_or_default, get_or_past, ext_get_or, length-replicate, get_or-replicate}
use Rattle.std.proofs.lemmas.List.Sums.{sum_by-set}
use Rattle.bk_bits.specs.Sets.{has}
use Rattle.bitvector_flow.specs.Flows.{has_at, FlowsOut, FlowsIn}
use Rattle.bitvector_flow.specs.model.Flows.{AreFlows}
use Rattle.bitvector_flow.specs.Flows.FlowsOut.{IsMade, Passes}
use Rattle.bitvector_flow.proofs.Unions.{none_past, written_back}
use Rattle.bitvector_flow.specs.model.Rounds.{any_has, AreBelow, missing_in, missing_count, GrowsWhere, IsStep, turn, IsSettled, AreForced, IsSwept}

-- ---- numbers that are in no set

fewer : (new old : List Bool) → length new ≡ length old → ((k : ℕ) → has old k ≡ true → has new k ≡ true) → missing_in new ≤ missing_in old
fewer [] [] e more = omega arith
fewer [] (o ∷ old) e more = absurd (omega (arith, e))
fewer (n ∷ new) [] e more = absurd (omega (arith, e))
fewer (true ∷ new) (true ∷ old) e more = fewer new old (omega (arith, e)) (λ k. more (suc k))
fewer (true ∷ new) (false ∷ old) e more = let rest = fewer new old (omega (arith, e)) (λ k. more (suc k)) in omega (arith, rest)
fewer (false ∷ new) (true ∷ old) e more = let clash = more 0 refl in let no : ⊥ = cc in absurd no
fewer (false ∷ new) (false ∷ old) e more = let rest = fewer new old (omega (arith, e)) (λ k. more (suc k)) in omega (arith, rest)

strictly_fewer : (new old : List Bool) → length new ≡ length old → ((k : ℕ) → has old k ≡ true → has new k ≡ true) → new ≢ old → missing_in new < missing_in old
strictly_fewer [] [] e more differ = absurd (differ refl)
strictly_fewer [] (o ∷ old) e more differ = absurd (omega (arith, e))
strictly_fewer (n ∷ new) [] e more differ = absurd (omega (arith, e))
strictly_fewer (true ∷ new) (true ∷ old) e more differ =
    strictly_fewer new old (omega (arith, e)) (λ k. more (suc k)) (λ same. differ (ap (λ s. true ∷ s) same))
strictly_fewer (true ∷ new) (false ∷ old) e more differ = let rest = fewer new old (omega (arith, e)) (λ k. more (suc k)) in omega (arith, rest)
strictly_fewer (false ∷ new) (true ∷ old) e more differ = let clash = more 0 refl in let no : ⊥ = cc in absurd no
strictly_fewer (false ∷ new) (false ∷ old) e more differ =
    let rest = strictly_fewer new old (omega (arith, e)) (λ k. more (suc k)) (λ same. differ (ap (λ s. false ∷ s) same)) in omega (arith, rest)

-- ---- truth values

or_left : (a b : Bool) → a ≡ true → (a || b) ≡ true
or_left true b h = refl
or_left false b h = let no : ⊥ = cc in absurd no

or_right : (a b : Bool) → b ≡ true → (a || b) ≡ true
or_right true b h = refl
or_right false b h = h

or_cases : (a b : Bool) → (a || b) ≡ true → (a ≡ true) ⊎ (b ≡ true)
or_cases true b h = inl refl
or_cases false b h = inr h

and_both : (a b : Bool) → a ≡ true → b ≡ false → (a && not b) ≡ true
and_both true false h n = refl
and_both true true h n = let no : ⊥ = cc in absurd no
and_both false b h n = let no : ⊥ = cc in absurd no

and_first : (a b : Bool) → (a && not b) ≡ true → a ≡ true
and_first true b h = refl
and_first false b h = h

and_second : (a b : Bool) → (a && not b) ≡ true → b ≡ false
and_second true true h = sym h
and_second true false h = refl
and_second false b h = let no : ⊥ = cc in absurd no

or_neither : (a b : Bool) → (a || b) ≡ false → (a ≡ false) × (b ≡ false)
or_neither true b h = let no : ⊥ = cc in absurd no
or_neither false b h = (refl, h)

-- ---- one of some sets

pub any_found : (sets : List (List Bool)) (blocks : List ℕ) (k : ℕ) → any_has sets blocks k ≡ true → (next : ℕ) × Contains blocks next × (has_at sets next k ≡ true)
any_found sets [] k h = let no : ⊥ = cc in absurd no
any_found sets (b ∷ blocks) k h = ⊎_elim (λ here. (b, (0, omega arith, refl), here)) (λ there. further (any_found sets blocks k there)) (or_cases (has_at sets b k) (any_has sets blocks k) h)
  where
    further : (next : ℕ) × Contains blocks next × (has_at sets next k ≡ true) → (next : ℕ) × Contains (b ∷ blocks) next × (has_at sets next k ≡ true)
    further (next, (at, within, is), found) = (next, (suc at, omega (arith, within), is), found)

pub any_there : (sets : List (List Bool)) (blocks : List ℕ) (k next : ℕ) → Contains blocks next → has_at sets next k ≡ true → any_has sets blocks k ≡ true
any_there sets [] k next (at, within, is) h = absurd (omega (arith, within))
any_there sets (b ∷ blocks) k next (zero, within, is) h = or_left (has_at sets b k) (any_has sets blocks k) (subst (λ n. has_at sets n k ≡ true) (sym is) h)
any_there sets (b ∷ blocks) k next (suc at, within, is) h =
    or_right (has_at sets b k) (any_has sets blocks k) (any_there sets blocks k next (at, omega (arith, within), is) h)

-- ---- a step

set_below : (bound block : ℕ) (sets : List (List Bool)) (x : List Bool) → AreBelow bound sets → length x ≡ bound → AreBelow bound (set sets block x)
set_below bound block sets x below e b within =
    let count = length-set sets block x in
    ⊎_elim
    (λ (same : b ≡ block). ap (λ n. length (get_or (set sets block x) n [])) same ∙ ap length (get_or-set_same sets block x [] (omega (arith, within, count, same))) ∙ e)
    (λ (apart : b ≢ block). ap length (get_or-set_other sets block b x [] apart) ∙ below b (omega (arith, within, count)))
    (cases_eq b block)

set_same : (sets : List (List Bool)) (block : ℕ) (x : List Bool) → block < length sets → x ≡ get_or sets block [] → set sets block x ≡ sets
set_same sets block x within is =
    ext_get_or [] (set sets block x) sets (length-set sets block x)
    (λ k below. ⊎_elim
    (λ (same : k ≡ block). ap (λ n. get_or (set sets block x) n []) same ∙ get_or-set_same sets block x [] within ∙ is ∙ ap (λ n. get_or sets n []) (sym same))
    (λ (apart : k ≢ block). get_or-set_other sets block k x [] apart)
    (cases_eq k block))

grown_by : (outs : List (List Bool)) (block : ℕ) (y : List Bool) (grew : Bool) → block < length outs → length y ≡ length (get_or outs block []) →
    ((k : ℕ) → has_at outs block k ≡ true → has y k ≡ true) → OnFalse grew (y ≡ get_or outs block []) → OnTrue grew (y ≢ get_or outs block []) → GrowsWhere outs (set outs block y) grew
grown_by outs block y false within e more same changed = set_same outs block y within same
grown_by outs block y true within e more same changed =
    let sums = sum_by-set missing_in outs block y [] within in
    let less = strictly_fewer y (get_or outs block []) e more changed in
    omega (arith, sums, less)

pub read_again : (ins : List (List Bool)) (block : ℕ) (x j : List Bool) → block < length ins → get_or (set ins block x) block j ≡ get_or (set ins block x) block []
read_again ins block x j within = let count = length-set ins block x in get_or_default (set ins block x) block j [] (omega (arith, within, count))

pub step : (nexts : List ℕ) (stops : List Bool) (bound block : ℕ) (outs ins : List (List Bool)) (i x j o y : List Bool) (grew : Bool) →
    block < length outs → block < length ins → AreBelow bound outs → AreBelow bound ins →
    i ≡ get_or ins block [] → length x ≡ length i → ((k : ℕ) → has x k ≡ (has i k || any_has outs nexts k)) →
    o ≡ get_or outs block [] → j ≡ get_or (set ins block x) block [] → length y ≡ length o →
    ((k : ℕ) → has y k ≡ (has o k || (has j k && not (has stops k)))) → OnFalse grew (y ≡ o) → OnTrue grew (y ≢ o) →
    IsStep nexts stops bound block outs ins (set outs block y) (set ins block x) grew
step nexts stops bound block outs ins i x j o y grew outs_in ins_in outs_below ins_below first x_length x_has old second y_length y_has same changed =
    let count = length-set ins block x in
    let made : get_or (set outs block y) block [] ≡ y = get_or-set_same outs block y [] outs_in in
    let long : length y ≡ length (get_or outs block []) = y_length ∙ ap length old in
    record {
      outs_length = length-set outs block y;
      ins_length = count;
      outs_below = set_below bound block outs y outs_below (long ∙ outs_below block outs_in);
      ins_below = set_below bound block ins x ins_below (x_length ∙ ap length first ∙ ins_below block ins_in);
      into = λ k. ap (λ s. has s k) (get_or-set_same ins block x [] ins_in) ∙ x_has k ∙ ap (λ s. has s k || any_has outs nexts k) first;
      out = λ k. ap (λ s. has s k) made ∙ y_has k ∙ ap (λ s. has s k || (has j k && not (has stops k))) old
          ∙ ap (λ s. has_at outs block k || (has s k && not (has stops k))) second;
      other_ins = λ other k apart. ap (λ s. has s k) (get_or-set_other ins block other x [] apart);
      other_outs = λ other k apart. ap (λ s. has s k) (get_or-set_other outs block other y [] apart);
      grown = grown_by outs block y grew outs_in long (λ k h. y_has k ∙ or_left (has o k) (has j k && not (has stops k)) (ap (λ s. has s k) old ∙ h))
          (subst (λ s. OnFalse grew (y ≡ s)) old same) (subst (λ s. OnTrue grew (y ≢ s)) old changed);
    }

-- ---- a round

module _ (nexts : List (List ℕ)) (makes stops : List (List Bool)) (bound block : ℕ) (outs ins outs_new ins_new : List (List Bool)) (changed : Bool)
    (forced : AreForced nexts makes stops outs ins)
    (s : IsStep (get_or nexts block []) (get_or stops block []) bound block outs ins outs_new ins_new changed) where
  ins_here : (k : ℕ) → has_at ins_new block k ≡ true → FlowsIn (has_at makes) (has_at stops) nexts k block
  ins_here k h = ⊎_elim (λ before. forced.only_ins block k before) (λ any. joins (any_found outs (get_or nexts block []) k any))
      (or_cases (has_at ins block k) (any_has outs (get_or nexts block []) k) (sym (s.into k) ∙ h))
    where
      joins : (next : ℕ) × Contains (get_or nexts block []) next × (has_at outs next k ≡ true) → FlowsIn (has_at makes) (has_at stops) nexts k block
      joins (next, is_next, found) = record { next = next; is_next = is_next; flows = forced.only_outs next k found }

  outs_here : (k : ℕ) → has_at outs_new block k ≡ true → FlowsOut (has_at makes) (has_at stops) nexts k block
  outs_here k h = ⊎_elim (λ before. forced.only_outs block k before)
      (λ passed. passes (ins_here k (and_first (has_at ins_new block k) (has_at stops block k) passed)) (and_second (has_at ins_new block k) (has_at stops block k) passed))
      (or_cases (has_at outs block k) (has_at ins_new block k && not (has_at stops block k)) (sym (s.out k) ∙ h))
    where
      passes : FlowsIn (has_at makes) (has_at stops) nexts k block → has_at stops block k ≡ false → FlowsOut (has_at makes) (has_at stops) nexts k block
      passes f goes = Passes f.next goes f.is_next f.flows

  grows : (b k : ℕ) → has_at outs b k ≡ true → has_at outs_new b k ≡ true
  grows b k h = ⊎_elim
      (λ (same : b ≡ block). ap (λ n. has_at outs_new n k) same ∙ s.out k ∙ or_left (has_at outs block k) (has_at ins_new block k && not (has_at stops block k)) (ap (λ n. has_at outs n k) (sym same) ∙ h))
      (λ (apart : b ≢ block). s.other_outs b k apart ∙ h)
      (cases_eq b block)

  pub forced_more : AreForced nexts makes stops outs_new ins_new
  forced_more = record {
    only_outs = λ b k h. ⊎_elim
        (λ (same : b ≡ block). subst (FlowsOut (has_at makes) (has_at stops) nexts k) (sym same) (outs_here k (ap (λ n. has_at outs_new n k) (sym same) ∙ h)))
        (λ (apart : b ≢ block). forced.only_outs b k (sym (s.other_outs b k apart) ∙ h))
        (cases_eq b block);
    only_ins = λ b k h. ⊎_elim
        (λ (same : b ≡ block). subst (FlowsIn (has_at makes) (has_at stops) nexts k) (sym same) (ins_here k (ap (λ n. has_at ins_new n k) (sym same) ∙ h)))
        (λ (apart : b ≢ block). forced.only_ins b k (sym (s.other_ins b k apart) ∙ h))
        (cases_eq b block);
    made = λ b k h. grows b k (forced.made b k h);
  }

-- the block of a turn is there, and each block has a turn
turn_apart : (backward : Bool) (count i j : ℕ) → i < count → j < i → turn backward count j ≢ turn backward count i
turn_apart true count i j inside below same = omega (arith, inside, below, same)
turn_apart false count i j inside below same = omega (arith, below, same)

turn_back : (backward : Bool) (count block : ℕ) → block < count → (turn backward count block < count) × (turn backward count (turn backward count block) ≡ block)
turn_back true count block inside = (omega (arith, inside), omega (arith, inside))
turn_back false count block inside = (inside, refl)

grown_both : (first outs outs_new : List (List Bool)) (grew changed : Bool) → GrowsWhere first outs grew → GrowsWhere outs outs_new changed → GrowsWhere first outs_new (grew || changed)
grown_both first outs outs_new true true g h = omega (arith, g, h)
grown_both first outs outs_new true false g h = let e = ap missing_count h in omega (arith, g, e)
grown_both first outs outs_new false true g h = let e = ap missing_count g in omega (arith, h, e)
grown_both first outs outs_new false false g h = h ∙ g

same_where : (old new : List (List Bool)) (grew : Bool) → grew ≡ false → GrowsWhere old new grew → new ≡ old
same_where old new true h g = let no : ⊥ = cc in absurd no
same_where old new false h g = g

settled_more : (nexts : List (List ℕ)) (stops outs ins outs_new ins_new : List (List Bool)) (b : ℕ) → outs_new ≡ outs → ((k : ℕ) → has_at ins_new b k ≡ has_at ins b k) → IsSettled nexts stops outs ins b → IsSettled nexts stops outs_new ins_new b
settled_more nexts stops outs ins outs_new ins_new b same others settled = record {
  joined = λ k any. others k ∙ settled.joined k (ap (λ s. any_has s (get_or nexts b []) k) (sym same) ∙ any);
  passed = λ k h goes. ap (λ s. has_at s b k) same ∙ settled.passed k (sym (others k) ∙ h) goes;
}

settled_here : (nexts : List (List ℕ)) (stops outs ins outs_new ins_new : List (List Bool)) (bound b : ℕ) (changed : Bool) → outs_new ≡ outs →
    IsStep (get_or nexts b []) (get_or stops b []) bound b outs ins outs_new ins_new changed → IsSettled nexts stops outs_new ins_new b
settled_here nexts stops outs ins outs_new ins_new bound b changed same s = record {
  joined = λ k any. s.into k ∙ or_right (has_at ins b k) (any_has outs (get_or nexts b []) k) (ap (λ t. any_has t (get_or nexts b []) k) (sym same) ∙ any);
  passed = λ k h goes. s.out k ∙ or_right (has_at outs b k) (has_at ins_new b k && not (has_at stops b k)) (and_both (has_at ins_new b k) (has_at stops b k) h goes);
}

pub sweep_begins : (nexts : List (List ℕ)) (stops : List (List Bool)) (bound : ℕ) (backward : Bool) (outs ins : List (List Bool)) →
    length outs ≡ length nexts → length ins ≡ length nexts → AreBelow bound outs → AreBelow bound ins → IsSwept nexts stops bound backward outs outs ins 0 false
sweep_begins nexts stops bound backward outs ins outs_length ins_length outs_below ins_below = record {
  outs_length = outs_length;
  ins_length = ins_length;
  outs_below = outs_below;
  ins_below = ins_below;
  grown = refl;
  settled = λ h j below. absurd (omega (arith, below));
}

sweep_more : (nexts : List (List ℕ)) (stops : List (List Bool)) (bound : ℕ) (backward : Bool) (first outs ins outs_new ins_new : List (List Bool)) (i block : ℕ) (grew changed : Bool) →
    IsSwept nexts stops bound backward first outs ins i grew → i < length nexts → block ≡ turn backward (length nexts) i →
    IsStep (get_or nexts block []) (get_or stops block []) bound block outs ins outs_new ins_new changed →
    IsSwept nexts stops bound backward first outs_new ins_new (i + 1) (grew || changed)
sweep_more nexts stops bound backward first outs ins outs_new ins_new i block grew changed so inside is s = record {
  outs_length = s.outs_length ∙ so.outs_length;
  ins_length = s.ins_length ∙ so.ins_length;
  outs_below = s.outs_below;
  ins_below = s.ins_below;
  grown = grown_both first outs outs_new grew changed so.grown s.grown;
  settled = λ h j below.
      let neither = or_neither grew changed h in
      let same = same_where outs outs_new changed neither.1 s.grown in
      ⊎_elim
      (λ (early : j < i). settled_more nexts stops outs ins outs_new ins_new (turn backward (length nexts) j) same
      (λ k. s.other_ins (turn backward (length nexts) j) k (λ e. turn_apart backward (length nexts) i j inside early (e ∙ is)))
      (so.settled neither.0 j early))
      (λ (late : i ≤ j).
      let here : block ≡ turn backward (length nexts) j = is ∙ ap (turn backward (length nexts)) (let last : i ≡ j = omega (arith, late, below) in last) in
      subst (IsSettled nexts stops outs_new ins_new) here (settled_here nexts stops outs ins outs_new ins_new bound block changed same s))
      (cases_lt j i);
}

-- ---- all rounds

module _ (nexts : List (List ℕ)) (makes stops : List (List Bool)) (bound : ℕ) (backward : Bool) (first outs ins : List (List Bool))
    (so : IsSwept nexts stops bound backward first outs ins (length nexts) false) (forced : AreForced nexts makes stops outs ins) where
  settled_at : (block : ℕ) → block < length nexts → IsSettled nexts stops outs ins block
  settled_at block inside =
      let back = turn_back backward (length nexts) block inside in
      subst (IsSettled nexts stops outs ins) back.1 (so.settled refl (turn backward (length nexts) block) back.0)

  next_inside : (block next : ℕ) → Contains (get_or nexts block []) next → block < length nexts
  next_inside block next (at, within, is) = ⊎_elim (λ below. below)
      (λ past. absurd (let none = ap length (get_or_past nexts block [] past) in omega (arith, none, within)))
      (cases_lt block (length nexts))

  joins : (block next k : ℕ) → Contains (get_or nexts block []) next → has_at outs next k ≡ true → has_at ins block k ≡ true
  joins block next k is h = (settled_at block (next_inside block next is)).joined k (any_there outs (get_or nexts block []) k next is h)

  all_outs : (k block : ℕ) → FlowsOut (has_at makes) (has_at stops) nexts k block → has_at outs block k ≡ true
  all_outs k block (IsMade inside made) = forced.made block k made
  all_outs k block (Passes next goes is flows) =
      (settled_at block (next_inside block next is)).passed k (joins block next k is (all_outs k next flows)) goes

  pub flows_found : AreFlows (has_at makes) (has_at stops) nexts bound outs ins
  flows_found = record {
    outs_bounded = record { as_many = so.outs_length; bounds = λ block inside. so.outs_below block (omega (arith, inside, so.outs_length)) };
    ins_bounded = record { as_many = so.ins_length; bounds = λ block inside. so.ins_below block (omega (arith, inside, so.ins_length)) };
    flows_out = λ block k. (forced.only_outs block k, all_outs k block);
    flows_in = λ block k. (forced.only_ins block k, λ f. joins block f.next k f.is_next (all_outs k f.next f.flows));
  }

pub fewer_missing : (old new : List (List Bool)) (grew : Bool) → grew ≡ true → GrowsWhere old new grew → missing_count new < missing_count old
fewer_missing old new true h g = g
fewer_missing old new false h g = let no : ⊥ = cc in absurd no

-- ---- in the words of the code

pub bound_same : (a b : ℕ) (sets : List (List Bool)) → a ≡ b → AreBelow b sets → AreBelow a sets
bound_same a b sets same below block inside = below block inside ∙ sym same

module _ (nexts : List (List ℕ)) (stops : List (List Bool)) (bound spare block : ℕ) (outs ins outs_new ins_new : List (List Bool)) (changed : Bool) (row list : List ℕ) (set : List Bool)
    (inside : block < length nexts) (row_is : row ≡ list) (list_is : list ≡ get_or nexts block list) (set_is : set ≡ get_or stops block set) (many : length stops ≡ length nexts)
    (same : spare ≡ bound) (s : IsStep row set spare block outs ins outs_new ins_new changed) where
  step_there : IsStep (get_or nexts block []) (get_or stops block []) bound block outs ins outs_new ins_new changed
  step_there =
      let listed : row ≡ get_or nexts block [] = row_is ∙ list_is ∙ get_or_default nexts block list [] inside in
      let stopped : set ≡ get_or stops block [] = set_is ∙ get_or_default stops block set [] (omega (arith, inside, many)) in
      subst (λ r. IsStep r (get_or stops block []) bound block outs ins outs_new ins_new changed) listed
      (subst (λ t. IsStep row t bound block outs ins outs_new ins_new changed) stopped
      (subst (λ b. IsStep row set b block outs ins outs_new ins_new changed) same s))

  pub sweep_next : (backward : Bool) (first : List (List Bool)) (i : ℕ) (grew both : Bool) → IsSwept nexts stops bound backward first outs ins i grew → i < length nexts →
      block ≡ turn backward (length nexts) i → both ≡ (grew || changed) → IsSwept nexts stops bound backward first outs_new ins_new (i + 1) both
  sweep_next backward first i grew both so below is flag =
      subst (IsSwept nexts stops bound backward first outs_new ins_new (i + 1)) (sym flag)
      (sweep_more nexts stops bound backward first outs ins outs_new ins_new i block grew changed so below is step_there)

  pub forced_next : (makes : List (List Bool)) → AreForced nexts makes stops outs ins → AreForced nexts makes stops outs_new ins_new
  forced_next makes forced = forced_more nexts makes stops bound block outs ins outs_new ins_new changed forced step_there

pub flows_at_end : (nexts : List (List ℕ)) (makes stops : List (List Bool)) (bound spare : ℕ) (backward : Bool) (first outs ins : List (List Bool)) (grew : Bool) → grew ≡ false → spare ≡ bound →
    IsSwept nexts stops spare backward first outs ins (length nexts) grew → AreForced nexts makes stops outs ins → AreFlows (has_at makes) (has_at stops) nexts bound outs ins
flows_at_end nexts makes stops bound spare backward first outs ins grew none same so forced =
    flows_found nexts makes stops bound backward first outs ins
    (subst (λ b. IsSwept nexts stops b backward first outs ins (length nexts) false) same (subst (IsSwept nexts stops spare backward first outs ins (length nexts)) none so)) forced

pub empty_below : (count bound : ℕ) → AreBelow bound (replicate count (replicate bound false))
empty_below count bound block within =
    let many = length-replicate count (replicate bound false) in
    ap length (get_or-replicate count block (replicate bound false) [] (omega (arith, within, many))) ∙ length-replicate bound false

none_there : (count bound block k : ℕ) → has_at (replicate count (replicate bound false)) block k ≡ false
none_there count bound block k =
    let many = length-replicate count (replicate bound false) in
    ⊎_elim
    (λ (below : block < count). ap (λ s. has s k) (get_or-replicate count block (replicate bound false) [] below) ∙ none_in bound k)
    (λ past. none_past (replicate count (replicate bound false)) block k (omega (arith, past, many)))
    (cases_lt block count)
  where
    none_in : (bound k : ℕ) → has (replicate bound false) k ≡ false
    none_in zero k = refl
    none_in (suc bound) zero = refl
    none_in (suc bound) (suc k) = none_in bound k

pub none_forced : (nexts : List (List ℕ)) (makes stops : List (List Bool)) (count bound : ℕ) → length makes ≡ length nexts → AreForced nexts makes stops makes (replicate count (replicate bound false))
none_forced nexts makes stops count bound many = record {
  only_outs = λ block k h. ⊎_elim
      (λ (below : block < length makes). IsMade (omega (arith, below, many)) h)
      (λ past. absurd (let none = none_past makes block k past in cc))
      (cases_lt block (length makes));
  only_ins = λ block k h. absurd (let none = none_there count bound block k in cc);
  made = λ block k h. h;
}

pub solved_sets : (nexts : List (List ℕ)) (makes stops shown ins shown_ins outs_new ins_new : List (List Bool)) (spare : List Bool) (count bound len len_ins : ℕ) →
    shown ≡ makes → shown_ins ≡ ins → ins ≡ replicate count (replicate bound false) → spare ≡ replicate bound false → length makes ≡ length nexts →
    len ≡ length makes → len_ins ≡ length ins → length outs_new ≡ length shown → length ins_new ≡ length shown_ins →
    ((m : List (List Bool)) → AreForced nexts m stops shown shown_ins → AreFlows (has_at m) (has_at stops) nexts (length spare) outs_new ins_new) →
    AreFlows (has_at makes) (has_at stops) nexts bound (take len (outs_new ++ drop (length outs_new) makes)) (take len_ins (ins_new ++ drop (length ins_new) ins))
solved_sets nexts makes stops shown ins shown_ins outs_new ins_new spare count bound len len_ins shown_is shown_ins_is ins_is spare_is many len_is len_ins_is outs_same ins_same flows =
    let forced : AreForced nexts makes stops shown shown_ins =
    subst (λ o. AreForced nexts makes stops o shown_ins) (sym shown_is)
    (subst (AreForced nexts makes stops makes) (sym (shown_ins_is ∙ ins_is)) (none_forced nexts makes stops count bound many)) in
    subst (λ o. AreFlows (has_at makes) (has_at stops) nexts bound o (take len_ins (ins_new ++ drop (length ins_new) ins)))
    (sym (written_back outs_new makes len len_is (outs_same ∙ ap length shown_is)))
    (subst (AreFlows (has_at makes) (has_at stops) nexts bound outs_new)
    (sym (written_back ins_new ins len_ins len_ins_is (ins_same ∙ ap length shown_ins_is)))
    (subst (λ b. AreFlows (has_at makes) (has_at stops) nexts b outs_new ins_new) (ap length spare_is ∙ length-replicate bound false) (flows makes forced)))
