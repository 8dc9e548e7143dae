-- What is done after each block, and that it is what was asked for after the last.
use Rattle.std.proofs.Common.{◌≡◌, ℕ, suc, ◌+◌, ◌*◌, ◌/◌, ◌<◌, ◌≤◌, Bool, true, false, List, [], ◌∷◌, ◌++◌, refl, sym, ap, ◌∙◌, subst, inr, ⊎_elim, length, get_or, take, drop, replicate, arith, Some}
use Rattle.std.specs.Prelude.{slice_get}
use Rattle.std.proofs.lemmas.Bool.{cases_lt}
use Rattle.std.proofs.lemmas.List.{get_or-replicate, replicate_more, get_or_past, length-replicate, take_all}
use Rattle.std.proofs.lemmas.Option.{slice_get-get_or, slice_get_read, none-some}
use Rattle.bk_bits.specs.Sets.{has}
use Rattle.pass_core.specs.Functions.{count_of}
use Rattle.temp_ir.specs.declared.insn.TempInsn.{TempInsn}
use Rattle.temp_ir.specs.Insns.{reads_of, writes_of, targets_of, flows_on_of}
use Rattle.temp_ir.specs.Programs.{TempFn}
use Rattle.alloc_model.specs.Lifetimes.{Blocks, IsPart, IsPresent}
use Rattle.bitvector_flow.specs.Lives.{AreLive}
use Rattle.bitvector_flow.proofs.Unions.{written_back}
use Rattle.alloc_rules.specs.declared.scan.LifetimePart.{LifetimePart}
use Rattle.alloc_rules.specs.declared.scan.Lifetimes.{Lifetimes}
use Rattle.alloc_rules.specs.Scan.{AreLifetimes}
use Rattle.alloc_lifetime_ends.specs.Wanted.{live_by, present_in}
use Rattle.alloc_lifetime_ends.proofs.Wants.{present_tested, tested_present}
use Rattle.alloc_lifetime_ends.proofs.Points.{count_next}
use Rattle.lifetime_holes.specs.model.Spans.{HasSpans, Points, list_at}
use Rattle.lifetime_holes.specs.model.Spans.Spans.{NoSpan}
use Rattle.lifetime_holes.specs.model.Walks.{AreSpanned, AreCounted, AreDone, Agrees, is_present, is_reference}
use Rattle.lifetime_holes.proofs.Pointing.{empty}
use Rattle.lifetime_holes.proofs.Agreement.{block_agrees, block_named, outside_blocks, reference_tested, tested_reference}
use Rattle.lifetime_holes.proofs.Ranges.{IsRange, sound, complete, rises}

pub done_begins : (blocks : Blocks) (bottoms : List (List Bool)) (temps : ℕ) (parts : List (List LifetimePart)) (refs : List (List ℕ)) → temps ≡ length parts →
    parts ≡ replicate (length parts) [] → refs ≡ replicate (length parts) [] → AreDone blocks bottoms 0 temps parts refs
done_begins blocks bottoms temps parts refs many no_parts no_refs = record {
  parts_length = sym many;
  refs_length = ap length no_refs ∙ length-replicate (length parts) [] ∙ sym many;
  spans = λ t w. record {
    behind = 0;
    spans = NoSpan (ap (λ l. list_at l t) no_parts ∙ get_or-replicate (length parts) t [] [] (omega (arith, w, many))) (λ q v. absurd (omega (arith, v)));
  };
  points = λ t w. empty (is_reference blocks t) (list_at refs t) (ap (λ l. list_at l t) no_refs ∙ get_or-replicate (length parts) t [] [] (omega (arith, w, many)));
}

module _ (blocks : Blocks) (bottoms : List (List Bool)) (i : ℕ) (b : List TempInsn) (within : i < length blocks) (b_is : b ≡ get_or blocks i b) where
  pub done_next : (temps number : ℕ) (bottom : List Bool) (parts new_parts : List (List LifetimePart)) (refs new_refs : List (List ℕ)) → number ≡ count_of (take i blocks) → bottom ≡ get_or bottoms i [] →
      AreDone blocks bottoms i temps parts refs → AreSpanned number b bottom parts new_parts → AreCounted number b refs new_refs → AreDone blocks bottoms (i + 1) temps new_parts new_refs
  done_next temps number bottom parts new_parts refs new_refs number_is bottom_is k s c =
      let there : slice_get blocks i ≡ Some b = slice_get-get_or blocks i b within ∙ ap Some (sym b_is) in
      let next = count_next blocks bottoms i b within b_is in
      let end : 2 * (number + length b) ≡ 2 * count_of (take (i + 1) blocks) = omega (arith, number_is, next) in
      let parts_many = k.parts_length in
      let refs_many = k.refs_length in
      record {
        parts_length = s.as_many ∙ k.parts_length;
        refs_length = c.as_many ∙ k.refs_length;
        spans = λ t w. subst (λ n. HasSpans (is_present blocks bottoms t) n (list_at new_parts t)) end
            (s.each (is_present blocks bottoms t) t (omega (arith, w, parts_many))
            (block_agrees_with t)
            (subst (λ n. HasSpans (is_present blocks bottoms t) (2 * n) (list_at parts t)) (sym number_is) (k.spans t w)));
        points = λ t w. subst (λ n. Points (is_reference blocks t) n (list_at new_refs t)) end
            (c.each (is_reference blocks t) t (omega (arith, w, refs_many))
            (block_named blocks bottoms t i b there number number_is)
            (subst (λ n. Points (is_reference blocks t) (2 * n) (list_at refs t)) (sym number_is) (k.points t w)));
      }
    where
      block_agrees_with : (t : ℕ) → Agrees (is_present blocks bottoms t) t (has bottom t) number b
      block_agrees_with t =
          subst (λ l. Agrees (is_present blocks bottoms t) t (has l t) number b) (sym bottom_is)
          (block_agrees blocks bottoms t i b (slice_get-get_or blocks i b within ∙ ap Some (sym b_is)) number number_is)

-- ---- the whole function

no_point : (live : (block at : ℕ) → Bool) (t p : ℕ) (blocks : Blocks) → 2 * count_of blocks ≤ p → present_in live t p 0 0 blocks ≡ false
no_point live t p blocks past =
    let halves = half p in
    outside_blocks t p halves.0 live 0 0 blocks (let low = halves.1 in omega (arith, low)) (let high = halves.2 in omega (arith, high)) (inr (let high = halves.2 in omega (arith, past, high)))
  where
    half : (p : ℕ) → (n : ℕ) × (2 * n ≤ p) × (p ≤ 2 * n + 1)
    half p = (p / 2, omega arith, omega arith)

module _ (f : TempFn) (tops bottoms : List (List Bool)) (are : AreLive reads_of writes_of targets_of flows_on_of f.blocks f.temps tops bottoms) (lives : Lifetimes)
    (k : AreDone f.blocks bottoms (length f.blocks) f.temps lives.parts lives.refs) where
  abbrev test : ℕ → ℕ → Bool
  test t = is_present f.blocks bottoms t

  abbrev end : ℕ
  end = 2 * count_of f.blocks

  spans_of : (t : ℕ) → t < f.temps → HasSpans (test t) end (list_at lives.parts t)
  spans_of t w = subst (λ bs. HasSpans (test t) (2 * count_of bs) (list_at lives.parts t)) (take_all (length f.blocks) f.blocks (omega arith)) (k.spans t w)

  points_of : (t : ℕ) → t < f.temps → Points (is_reference f.blocks t) end (list_at lives.refs t)
  points_of t w = subst (λ bs. Points (is_reference f.blocks t) (2 * count_of bs) (list_at lives.refs t)) (take_all (length f.blocks) f.blocks (omega arith)) (k.points t w)

  present : (t p : ℕ) → test t p ≡ true → IsPresent f.blocks t p
  present t p h = present_tested f.blocks f.temps tops bottoms are t p h

  absent : (t p : ℕ) → test t p ≡ false → IsPresent f.blocks t p → ⊥
  absent t p h is = let e : true ≡ false = sym (tested_present f.blocks f.temps tops bottoms are t p is) ∙ h in cc

  not_present : (t p : ℕ) → (IsPresent f.blocks t p → ⊥) → test t p ≡ false
  not_present t p never = by_value (test t p) refl
    where
      by_value : (b : Bool) → test t p ≡ b → b ≡ false
      by_value true e = absurd (never (present t p e))
      by_value false e = refl

  part_of : (t first last : ℕ) → IsRange (test t) first last → IsPart f.blocks t first last
  part_of t first last r = record {
    ordered = r.ordered;
    present = λ q u v. present t q (r.present q u v);
    begins = λ q e. absent t q (r.begins q e);
    ends = absent t (suc last) r.ends;
  }

  range_of : (t first last : ℕ) → IsPart f.blocks t first last → IsRange (test t) first last
  range_of t first last r = record {
    ordered = r.ordered;
    present = λ q u v. tested_present f.blocks f.temps tops bottoms are t q (r.present q u v);
    begins = λ q e. not_present t q (r.begins q e);
    ends = not_present t (suc last) r.ends;
  }

  below_last : (t p : ℕ) → test t p ≡ true → p < end
  below_last t p h = ⊎_elim (λ (w : p < end). w)
      (λ (w : end ≤ p). absurd (let e : true ≡ false = sym h ∙ no_point (live_by f.blocks bottoms t) t p f.blocks w in cc)) (cases_lt p end)

  reference_below : (t p : ℕ) → is_reference f.blocks t p ≡ true → p < end
  reference_below t p h = ⊎_elim (λ (w : p < end). w)
      (λ (w : end ≤ p). absurd (let e : true ≡ false = sym h ∙ no_point (λ b a. false) t p f.blocks w in cc)) (cases_lt p end)

  pub lifetimes_found : AreLifetimes f lives
  lifetimes_found = record {
    parts_length = k.parts_length;
    refs_length = k.refs_length;
    parts = λ t first last w.
        let s = spans_of t w in (
          λ has. part_of t first last (sound (test t) end s.behind (list_at lives.parts t) s.spans (λ q e h. no_point (live_by f.blocks bottoms t) t end f.blocks (omega arith)) (record { first = first; last = last }) has),
          λ is. let r = range_of t first last is in let o = r.ordered in
              complete (test t) end s.behind (list_at lives.parts t) s.spans (λ q e h. no_point (live_by f.blocks bottoms t) t end f.blocks (omega arith)) first last r
              (below_last t first (r.present first (omega arith) o)),
        );
    parts_rise = λ t n a b one two. parts_rise t n a b one two;
    refs = λ t q w.
        let p = points_of t w in (
          λ (i, inside, is). tested_reference f.blocks t q ((p.only i q (slice_get_read (list_at lives.refs t) (length (list_at lives.refs t)) i q refl inside (sym is))).1),
          λ is. let h = reference_tested f.blocks t q is in p.all q (reference_below t q h) h,
        );
    refs_rise = λ t n a b one two. refs_rise t n a b one two;
  }
    where
      list_none : {A : Type 0} (table : List (List A)) (t : ℕ) → length table ≤ t → list_at table t ≡ []
      list_none table t past = get_or_past table t [] past

      parts_rise : (t n : ℕ) (a b : LifetimePart) → slice_get (list_at lives.parts t) n ≡ Some a → slice_get (list_at lives.parts t) (suc n) ≡ Some b → a.last < b.first
      parts_rise t n a b one two = ⊎_elim
          (λ (w : t < f.temps). let s = spans_of t w in rises (test t) end s.behind (list_at lives.parts t) s.spans n a b one two)
          (λ (past : f.temps ≤ t). absurd (none-some a (sym (ap (λ l. slice_get l n) (list_none lives.parts t (let many = k.parts_length in omega (arith, past, many)))) ∙ one)))
          (cases_lt t f.temps)

      refs_rise : (t n a b : ℕ) → slice_get (list_at lives.refs t) n ≡ Some a → slice_get (list_at lives.refs t) (suc n) ≡ Some b → a < b
      refs_rise t n a b one two = ⊎_elim
          (λ (w : t < f.temps). (points_of t w).rise n a b one two)
          (λ (past : f.temps ≤ t). absurd (none-some a (sym (ap (λ l. slice_get l n) (list_none lives.refs t (let many = k.refs_length in omega (arith, past, many)))) ∙ one)))
          (cases_lt t f.temps)

-- ---- in the words of the code

pub one_more : {A : Type 0} (lists : List (List A)) (count : ℕ) → lists ≡ replicate count [] → lists ++ [] ∷ [] ≡ replicate (count + 1) []
one_more lists count e = ap (λ l. l ++ [] ∷ []) e ∙ replicate_more count []

pub all_found : (f : TempFn) (tops bottoms : List (List Bool)) → AreLive reads_of writes_of targets_of flows_on_of f.blocks f.temps tops bottoms →
    (shown : Blocks) (shown_bottoms : List (List Bool)) → shown ≡ f.blocks → shown_bottoms ≡ bottoms →
    (parts shown_parts new_parts result_parts : List (List LifetimePart)) (refs new_refs result_refs : List (List ℕ)) (parts_len refs_len : ℕ) →
    shown_parts ≡ parts → parts ≡ replicate f.temps [] → parts_len ≡ length parts → refs ≡ replicate f.temps [] → refs_len ≡ length refs →
    AreDone shown shown_bottoms (length shown) (length shown_parts) new_parts new_refs →
    result_parts ≡ take parts_len (new_parts ++ drop (length new_parts) parts) → result_refs ≡ take refs_len (new_refs ++ drop (length new_refs) refs) →
    AreLifetimes f (record { parts = result_parts; refs = result_refs })
all_found f tops bottoms are shown shown_bottoms shown_is bottoms_is parts shown_parts new_parts result_parts refs new_refs result_refs parts_len refs_len
    parts_shown no_parts parts_len_is no_refs refs_len_is k parts_are refs_are =
    let parts_size : length parts ≡ f.temps = ap length no_parts ∙ length-replicate f.temps [] in
    let refs_size : length refs ≡ f.temps = ap length no_refs ∙ length-replicate f.temps [] in
    let size : length shown_parts ≡ f.temps = ap length parts_shown ∙ parts_size in
    let parts_same : result_parts ≡ new_parts = parts_are ∙ written_back new_parts parts parts_len parts_len_is (k.parts_length ∙ size ∙ sym parts_size) in
    let refs_same : result_refs ≡ new_refs = refs_are ∙ written_back new_refs refs refs_len refs_len_is (k.refs_length ∙ size ∙ sym refs_size) in
    subst (λ ps. AreLifetimes f (record { parts = ps; refs = result_refs })) (sym parts_same)
    (subst (λ rs. AreLifetimes f (record { parts = new_parts; refs = rs })) (sym refs_same)
    (lifetimes_found f tops bottoms are (record { parts = new_parts; refs = new_refs })
    (subst (λ n. AreDone f.blocks bottoms (length f.blocks) n new_parts new_refs) size
    (subst (λ bs. AreDone f.blocks bs (length f.blocks) (length shown_parts) new_parts new_refs) bottoms_is
    (subst (λ bs. AreDone bs shown_bottoms (length bs) (length shown_parts) new_parts new_refs) shown_is k)))))
