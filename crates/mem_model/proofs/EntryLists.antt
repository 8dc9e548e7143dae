-- The entries of a memory's objects.
use Rattle.std.proofs.Common.{◌≡◌, ◌≢◌, ℕ, zero, suc, ◌+◌, ◌-◌, ◌<◌, ◌≤◌, List, [], ◌∷◌, ◌++◌, length, take, get_or, set, Bool, Some, None, true, false, cond, refl, sym, ap, ◌∙◌, subst, arith, inl, inr, length-append, length-set}
use Rattle.std.specs.Prelude.{slice_get, option_map, ltb, is_some}
use Rattle.std.specs.List.{filter}
use Rattle.std.specs.List.Sorted.{IsPartitionPoint, IsNonDecreasingBy}
use Rattle.std.proofs.lemmas.Bool.{cases_eq, cases_lt}
use Rattle.std.proofs.lemmas.Bool.Decides.{nat_tests}
use Rattle.std.proofs.lemmas.Option.{same_Some, none-some, slice_get-get_or}
use Rattle.mem_model.specs.declared.entries.Entry.{Entry}
use Rattle.std.proofs.lemmas.List.{ext_get_or, get_or-set_same, get_or-set_other, get_or_past, get_or_push, get_or_append_left}
use Rattle.std.proofs.lemmas.List.FromFn.{length-map-range_with_len, get_or-map-range_with_len}
use Rattle.mem_model.specs.Memory.{Memory, object_at, no_object}
use Rattle.mem_model.specs.model.Objects.{object_in, objects_in, Place, place_in, IsRising, IsEntryAt, IsLastEnded, KeepsObjects}

-- the objects by what is kept of them
pub length-objects : (made : ℕ) (es : List Entry) → length (objects_in made es) ≡ made
unfolding objects_in
length-objects made es = length-map-range_with_len _ 0 made

objects-within : (made : ℕ) (es : List Entry) (number : ℕ) → number < made → object_at (objects_in made es) number ≡ object_in (place_in es number)
unfolding objects_in
objects-within made es number within = get_or-map-range_with_len (λ k. object_in (place_in es k)) 0 made number number no_object within (omega arith)

same_objects : (made : ℕ) (es fs : List Entry) → ((number : ℕ) → place_in fs number ≡ place_in es number) → objects_in made fs ≡ objects_in made es
same_objects made es fs same =
    ext_get_or no_object (objects_in made fs) (objects_in made es) (length-objects made fs ∙ sym (length-objects made es))
    (λ k h. let within : k < made = omega (arith, h, length-objects made fs) in
    objects-within made fs k within ∙ ap object_in (same k) ∙ sym (objects-within made es k within))

-- what an entry in front does
place-here : (e : Entry) (es : List Entry) (number : ℕ) → e.number ≡ number → place_in (e ∷ es) number ≡ e.object
unfolding place_in
place-here e es number is = grind (arith, nat_tests, is)

place-behind : (e : Entry) (es : List Entry) (number : ℕ) → e.number ≢ number → place_in (e ∷ es) number ≡ place_in es number
unfolding place_in
place-behind e es number ne = grind (arith, nat_tests, ne)

place-none : (number : ℕ) → place_in [] number ≡ None
unfolding place_in
place-none number = refl

-- the same entry before two lists
place-same : (e : Entry) (es fs : List Entry) (number : ℕ) → place_in es number ≡ place_in fs number → place_in (e ∷ es) number ≡ place_in (e ∷ fs) number
place-same e es fs number same = elim (cases_eq e.number number) [
  | inl is ↦ place-here e es number is ∙ sym (place-here e fs number is)
  | inr ne ↦ place-behind e es number ne ∙ same ∙ sym (place-behind e fs number ne)
]

-- the bounds of rising numbers
rising-bounds : (low made : ℕ) (es : List Entry) → IsRising low made es → low ≤ made
rising-bounds low made [] rising = rising
rising-bounds low made (e ∷ es) rising = let le = rising.0 in let rest = rising-bounds (suc e.number) made es rising.1 in omega arith

rising-lower : (lower low made : ℕ) (es : List Entry) → lower ≤ low → IsRising low made es → IsRising lower made es
rising-lower lower low made [] le rising = omega (arith, rising)
rising-lower lower low made (e ∷ es) le rising = let front = rising.0 in (omega arith, rising.1)

place-below : (low made : ℕ) (es : List Entry) (number : ℕ) → IsRising low made es → number < low → place_in es number ≡ None
place-below low made [] number rising below = place-none number
place-below low made (e ∷ es) number rising below =
    let le = rising.0 in
    place-behind e es number (λ is. omega arith) ∙ place-below (suc e.number) made es number rising.1 (omega arith)

place-past : (low made : ℕ) (es : List Entry) (number : ℕ) → IsRising low made es → made ≤ number → place_in es number ≡ None
place-past low made [] number rising past = place-none number
place-past low made (e ∷ es) number rising past =
    let within = rising-bounds (suc e.number) made es rising.1 in
    place-behind e es number (λ is. omega arith) ∙ place-past (suc e.number) made es number rising.1 past

-- the number at a place
number-bounds : (low made : ℕ) (es : List Entry) (at number : ℕ) → IsRising low made es → IsEntryAt es at number → (low ≤ number) × (number < made)
number-bounds low made [] at number rising there = absurd (none-some number there)
number-bounds low made (e ∷ es) zero number rising there =
    let le = rising.0 in
    let rest = rising-bounds (suc e.number) made es rising.1 in
    let is : e.number ≡ number = same_Some e.number number there in
    (omega arith, omega arith)
number-bounds low made (e ∷ es) (suc at) number rising there =
    let le = rising.0 in
    let rest = number-bounds (suc e.number) made es at number rising.1 there in
    let front = rest.0 in
    (omega arith, rest.1)

-- an entry that stands at a place is the one with its number
pub place-there : (low made : ℕ) (es : List Entry) (at number : ℕ) (e : Entry) → IsRising low made es → IsEntryAt es at number → e ≡ get_or es at e → place_in es number ≡ e.object
place-there low made [] at number e rising there read = absurd (none-some number there)
place-there low made (f ∷ es) zero number e rising there read =
    let is : f.number ≡ number = same_Some f.number number there in
    place-here f es number is ∙ ap (λ (x : Entry). x.object) (sym read)
place-there low made (f ∷ es) (suc at) number e rising there read =
    let bounds = number-bounds (suc f.number) made es at number rising.1 there in
    let front = bounds.0 in
    place-behind f es number (λ is. omega arith) ∙ place-there (suc f.number) made es at number e rising.1 there read

pub entry-within : (es : List Entry) (at number : ℕ) → IsEntryAt es at number → at < length es
entry-within [] at number there = absurd (none-some number there)
entry-within (e ∷ es) zero number there = omega arith
entry-within (e ∷ es) (suc at) number there = let rest = entry-within es at number there in omega arith

-- another place in an entry
pub rising-set : (low made : ℕ) (es : List Entry) (at : ℕ) (e : Entry) (y : Place) → IsRising low made es → e ≡ get_or es at e → IsRising low made (set es at (record e { object = y }))
rising-set low made [] at e y rising read = rising
rising-set low made (f ∷ es) zero e y rising read =
    let is : f.number ≡ e.number = ap (λ (x : Entry). x.number) (sym read) in
    let le = rising.0 in
    (omega arith, subst (λ n. IsRising (suc n) made es) is rising.1)
rising-set low made (f ∷ es) (suc at) e y rising read = (rising.0, rising-set (suc f.number) made es at e y rising.1 read)

pub place-set_here : (low made : ℕ) (es : List Entry) (at number : ℕ) (e : Entry) (y : Place) → IsRising low made es → IsEntryAt es at number → e ≡ get_or es at e → place_in (set es at (record e { object = y })) number ≡ y
place-set_here low made [] at number e y rising there read = absurd (none-some number there)
place-set_here low made (f ∷ es) zero number e y rising there read =
    let is : f.number ≡ number = same_Some f.number number there in
    place-here (record e { object = y }) es number (ap (λ (x : Entry). x.number) read ∙ is)
place-set_here low made (f ∷ es) (suc at) number e y rising there read =
    let bounds = number-bounds (suc f.number) made es at number rising.1 there in
    let front = bounds.0 in
    place-behind f (set es at (record e { object = y })) number (λ is. omega arith) ∙ place-set_here (suc f.number) made es at number e y rising.1 there read

pub place-set_other : (es : List Entry) (at number other : ℕ) (e : Entry) (y : Place) → IsEntryAt es at number → e ≡ get_or es at e → other ≢ number → place_in (set es at (record e { object = y })) other ≡ place_in es other
place-set_other [] at number other e y there read ne = absurd (none-some number there)
place-set_other (f ∷ es) zero number other e y there read ne =
    let is : f.number ≡ number = same_Some f.number number there in
    let same : e.number ≡ f.number = ap (λ (x : Entry). x.number) read in
    place-behind (record e { object = y }) es other (λ h. ne (omega arith)) ∙ sym (place-behind f es other (λ h. ne (omega arith)))
place-set_other (f ∷ es) (suc at) number other e y there read ne =
    place-same f (set es at (record e { object = y })) es other (place-set_other es at number other e y there read ne)

-- an entry behind the others
pub rising-push : (low made : ℕ) (es : List Entry) (x : Place) → IsRising low made es → IsRising low (made + 1) (es ++ record { number = made; object = x } ∷ [])
rising-push low made [] x rising = (rising, omega arith)
rising-push low made (e ∷ es) x rising = (rising.0, rising-push (suc e.number) made es x rising.1)

place-push_here : (low made : ℕ) (es : List Entry) (x : Place) → IsRising low made es → place_in (es ++ record { number = made; object = x } ∷ []) made ≡ x
place-push_here low made [] x rising = place-here (record { number = made; object = x }) [] made refl
place-push_here low made (e ∷ es) x rising =
    let within = rising-bounds (suc e.number) made es rising.1 in
    place-behind e (es ++ record { number = made; object = x } ∷ []) made (λ is. omega arith) ∙ place-push_here (suc e.number) made es x rising.1

place-push_other : (made : ℕ) (es : List Entry) (x : Place) (other : ℕ) → other ≢ made → place_in (es ++ record { number = made; object = x } ∷ []) other ≡ place_in es other
place-push_other made [] x other ne = place-behind (record { number = made; object = x }) [] other (λ is. ne (sym is))
place-push_other made (e ∷ es) x other ne = place-same e (es ++ record { number = made; object = x } ∷ []) es other (place-push_other made es x other ne)

-- the last entry is left out, which holds nothing
rising-take : (low made n : ℕ) (es : List Entry) → IsRising low made es → IsRising low made (take n es)
rising-take low made zero es rising = rising-bounds low made es rising
rising-take low made (suc n) [] rising = rising
rising-take low made (suc n) (e ∷ es) rising = (rising.0, rising-take (suc e.number) made n es rising.1)

place-last : (n : ℕ) (es : List Entry) (number : ℕ) → length es ≡ suc n → option_map (λ (e : Entry). e.object) (slice_get es n) ≡ Some None → place_in (take n es) number ≡ place_in es number
place-last n [] number len ended = absurd (omega arith)
place-last zero (e ∷ f ∷ es) number len ended = absurd (omega arith)
place-last zero (e ∷ []) number len ended = elim (cases_eq e.number number) [
  | inl is ↦ place-none number ∙ sym (same_Some e.object None ended) ∙ sym (place-here e [] number is)
  | inr ne ↦ sym (place-behind e [] number ne)
]
place-last (suc n) (e ∷ es) number len ended = place-same e (take n es) es number (place-last n es number (omega arith) ended)

place-last_ended : (es : List Entry) (number : ℕ) → IsLastEnded es → place_in (take (length es - 1) es) number ≡ place_in es number
place-last_ended [] number ended = absurd (none-some None ended)
place-last_ended (e ∷ es) number ended = place-last (length (e ∷ es) - 1) (e ∷ es) number (omega arith) ended

pub trim_step : (es : List Entry) → IsLastEnded es → KeepsObjects es (take (length es - 1) es)
trim_step es ended made rising = record {
  rising = rising-take 0 made (length es - 1) es rising;
  objects = same_objects made es (take (length es - 1) es) (λ number. place-last_ended es number ended);
}

pub keeps_same : (es : List Entry) → KeepsObjects es es
keeps_same es made rising = record { rising = rising; objects = refl }

pub keeps_more : (es fs gs : List Entry) → KeepsObjects es fs → KeepsObjects fs gs → KeepsObjects es gs
keeps_more es fs gs first second made rising =
    let kept = first made rising in
    let more = second made kept.rising in
    record { rising = more.rising; objects = more.objects ∙ kept.objects }

-- those that hold nothing are left out
rising-cond : (b : Bool) (low made : ℕ) (e : Entry) (es : List Entry) → low ≤ e.number → IsRising (suc e.number) made es → IsRising low made (cond b (e ∷ es) es)
rising-cond true low made e es le rising = (le, rising)
rising-cond false low made e es le rising = rising-lower low (suc e.number) made es (omega arith) rising

rising-filter : (low made : ℕ) (es : List Entry) → IsRising low made es → IsRising low made (filter (λ (e : Entry). is_some e.object) es)
rising-filter low made [] rising = rising
rising-filter low made (e ∷ es) rising = rising-cond (is_some e.object) low made e (filter (λ (x : Entry). is_some x.object) es) rising.0 (rising-filter (suc e.number) made es rising.1)

place-cond : (o : Place) (made : ℕ) (e : Entry) (es fs : List Entry) (number : ℕ) → e.object ≡ o → IsRising (suc e.number) made fs → place_in fs number ≡ place_in es number →
    place_in (cond (is_some o) (e ∷ fs) fs) number ≡ place_in (e ∷ es) number
place-cond (Some b) made e es fs number is rising same = place-same e fs es number same
place-cond None made e es fs number is rising same = elim (cases_eq e.number number) [
  | inl here ↦ place-below (suc e.number) made fs number rising (omega (arith, here)) ∙ sym is ∙ sym (place-here e es number here)
  | inr ne ↦ same ∙ sym (place-behind e es number ne)
]

place-filter : (low made : ℕ) (es : List Entry) (number : ℕ) → IsRising low made es → place_in (filter (λ (e : Entry). is_some e.object) es) number ≡ place_in es number
place-filter low made [] number rising = refl
place-filter low made (e ∷ es) number rising =
    place-cond e.object made e es (filter (λ (x : Entry). is_some x.object) es) number refl (rising-filter (suc e.number) made es rising.1) (place-filter (suc e.number) made es number rising.1)

pub keeps_filter : (es fs : List Entry) → fs ≡ filter (λ (e : Entry). is_some e.object) es → KeepsObjects es fs
keeps_filter es fs is = subst (KeepsObjects es) (sym is) (λ made rising. record {
  rising = rising-filter 0 made es rising;
  objects = same_objects made es (filter (λ (e : Entry). is_some e.object) es) (λ number. place-filter 0 made es number rising);
})

-- the object with a number
pub object-in_place : (made : ℕ) (es : List Entry) (m : Memory) (number : ℕ) → IsRising 0 made es → objects_in made es ≡ m → object_at m number ≡ object_in (place_in es number)
object-in_place made es m number rising is = elim (cases_lt number made) [
  | inl within ↦ ap (λ (l : Memory). object_at l number) (sym is) ∙ objects-within made es number within
  | inr past ↦ get_or_past m number no_object (omega (arith, past, length-objects made es, ap (λ (l : Memory). length l) is)) ∙ sym (ap object_in (place-past 0 made es number rising past))
]

-- another object behind the others
pub objects-push : (made : ℕ) (es : List Entry) (x : Place) → IsRising 0 made es → objects_in (made + 1) (es ++ record { number = made; object = x } ∷ []) ≡ objects_in made es ++ object_in x ∷ []
objects-push made es x rising =
    ext_get_or no_object (objects_in (made + 1) (es ++ record { number = made; object = x } ∷ [])) (objects_in made es ++ object_in x ∷ []) (len ∙ sym len2)
    (λ k h. each k (omega (arith, h, len)))
  where
    len : length (objects_in (made + 1) (es ++ record { number = made; object = x } ∷ [])) ≡ made + 1
    len = length-objects (made + 1) (es ++ record { number = made; object = x } ∷ [])

    len2 : length (objects_in made es ++ object_in x ∷ []) ≡ made + 1
    len2 = length-append (objects_in made es) (object_in x ∷ []) ∙ ap (λ n. n + 1) (length-objects made es)

    each : (k : ℕ) → k < made + 1 → object_at (objects_in (made + 1) (es ++ record { number = made; object = x } ∷ [])) k ≡ object_at (objects_in made es ++ object_in x ∷ []) k
    each k within = elim (cases_eq k made) [
      | inl is ↦ objects-within (made + 1) (es ++ record { number = made; object = x } ∷ []) k within
          ∙ ap object_in (ap (place_in (es ++ record { number = made; object = x } ∷ [])) is ∙ place-push_here 0 made es x rising)
          ∙ sym (get_or_push (objects_in made es) (object_in x) no_object k (length-objects made es ∙ sym is))
      | inr ne ↦ objects-within (made + 1) (es ++ record { number = made; object = x } ∷ []) k within
          ∙ ap object_in (place-push_other made es x k ne)
          ∙ sym (objects-within made es k (omega arith))
          ∙ sym (get_or_append_left (objects_in made es) (object_in x ∷ []) no_object k (omega (arith, ne, within, length-objects made es)))
    ]

-- another object in the place of one
pub objects-set : (made : ℕ) (es : List Entry) (at number : ℕ) (e : Entry) (y : Place) → IsRising 0 made es → IsEntryAt es at number → e ≡ get_or es at e →
    objects_in made (set es at (record e { object = y })) ≡ set (objects_in made es) number (object_in y)
objects-set made es at number e y rising there read =
    ext_get_or no_object (objects_in made (set es at (record e { object = y }))) (set (objects_in made es) number (object_in y)) (len ∙ sym len2)
    (λ k h. each k (omega (arith, h, len)))
  where
    len : length (objects_in made (set es at (record e { object = y }))) ≡ made
    len = length-objects made (set es at (record e { object = y }))

    len2 : length (set (objects_in made es) number (object_in y)) ≡ made
    len2 = length-set (objects_in made es) number (object_in y) ∙ length-objects made es

    each : (k : ℕ) → k < made → object_at (objects_in made (set es at (record e { object = y }))) k ≡ object_at (set (objects_in made es) number (object_in y)) k
    each k within = elim (cases_eq k number) [
      | inl is ↦ objects-within made (set es at (record e { object = y })) k within
          ∙ ap object_in (ap (place_in (set es at (record e { object = y }))) is ∙ place-set_here 0 made es at number e y rising there read)
          ∙ sym (ap (object_at (set (objects_in made es) number (object_in y))) is ∙ get_or-set_same (objects_in made es) number (object_in y) no_object (omega (arith, is, within, length-objects made es)))
      | inr ne ↦ objects-within made (set es at (record e { object = y })) k within
          ∙ ap object_in (place-set_other es at number k e y there read ne)
          ∙ sym (objects-within made es k within)
          ∙ sym (get_or-set_other (objects_in made es) number k (object_in y) no_object ne)
    ]

-- a turn of the loop that leaves out the last entry
pub trim_turn : (first es fs : List Entry) (n : ℕ) → KeepsObjects first es → IsLastEnded es → n ≡ length es → fs ≡ take (n - 1) es → KeepsObjects first fs
trim_turn first es fs n kept ended len is =
    keeps_more first es fs kept (subst (KeepsObjects es) (sym (is ∙ ap (λ k. take (k - 1) es) len)) (trim_step es ended))

-- a search by halves that finds no entry
get_or-bounds : (low made : ℕ) (es : List Entry) (k : ℕ) (d : Entry) → IsRising low made es → k < length es → low ≤ (get_or es k d).number
get_or-bounds low made [] k d rising within = absurd (omega arith)
get_or-bounds low made (e ∷ es) zero d rising within = rising.0
get_or-bounds low made (e ∷ es) (suc k) d rising within =
    let le = rising.0 in
    let rest = get_or-bounds (suc e.number) made es k d rising.1 (omega arith) in
    omega arith

numbers-rise : (low made : ℕ) (es : List Entry) (i j : ℕ) (d : Entry) → IsRising low made es → i < j → j < length es → (get_or es i d).number < (get_or es j d).number
numbers-rise low made [] i j d rising before within = absurd (omega arith)
numbers-rise low made (e ∷ es) i zero d rising before within = absurd (omega arith)
numbers-rise low made (e ∷ es) zero (suc j) d rising before within = get_or-bounds (suc e.number) made es j d rising.1 (omega arith)
numbers-rise low made (e ∷ es) (suc i) (suc j) d rising before within = numbers-rise (suc e.number) made es i j d rising.1 (omega arith) (omega arith)

pub no_number_falls : (low made : ℕ) (es : List Entry) → IsRising low made es → IsNonDecreasingBy (λ (e : Entry). e.number) es
no_number_falls low made es rising i j d le within = elim (cases_eq i j) [
  | inl is ↦ let same : (get_or es i d).number ≡ (get_or es j d).number = ap (λ k. (get_or es k d).number) is in omega arith
  | inr ne ↦ let less = numbers-rise low made es i j d rising (omega arith) within in omega arith
]

place-nowhere : (es : List Entry) (number : ℕ) → ((k : ℕ) (d : Entry) → k < length es → (get_or es k d).number ≢ number) → place_in es number ≡ None
place-nowhere [] number nowhere = place-none number
place-nowhere (e ∷ es) number nowhere =
    place-behind e es number (nowhere zero e (omega arith)) ∙ place-nowhere es number (λ k d within. nowhere (suc k) d (omega arith))

pub place-searched : (made : ℕ) (es : List Entry) (at number : ℕ) → IsRising 0 made es →
    IsPartitionPoint (λ (e : Entry). ltb e.number number ≡ true) (λ (e : Entry). ltb e.number number ≡ false) es at → (IsEntryAt es at number → ⊥) → place_in es number ≡ None
place-searched made es at number rising point absent = place-nowhere es number (λ k d within is.
    elim (cases_lt k at) [
      | inl before ↦ let less : (get_or es k d).number < number = grind (arith, nat_tests, point.0 k d (omega arith) before) in omega arith
      | inr behind ↦ elim (cases_eq k at) [
        | inl here ↦ absent (ap (option_map (λ (e : Entry). e.number)) (ap (slice_get es) (sym here) ∙ slice_get-get_or es k d within) ∙ ap (λ n. Some n) is)
        | inr ne ↦
            let less = numbers-rise 0 made es at k d rising (omega arith) within in
            let le : number ≤ (get_or es at d).number = grind (arith, nat_tests, point.1 at d (omega arith) (omega arith)) in
            omega arith
      ]
    ])

pub no_objects : (es : List Entry) → objects_in 0 es ≡ []
unfolding objects_in
no_objects es = refl
