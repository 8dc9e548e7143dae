-- How many bytes an item takes, and that it does not depend on what stands behind it.
use Rattle.std.proofs.Common.{◌≡◌, ℕ, zero, suc, ◌+◌, ◌<◌, ◌≤◌, min, true, cond, List, [], ◌∷◌, length, take, Option, Some, None, eqb, sym, ap, ◌∙◌, arith, take-take, length-take}
use Rattle.std.specs.Prelude.{IfSome, ◌||◌, option_map}
use Rattle.std.specs.List.{prefix_len}
use Rattle.std.proofs.lemmas.List.Sums.{prefix_len-le-length}
use Rattle.c_lexer.specs.declared.literals.Item.{Item}
use Rattle.c_lexer.specs.Bytes.{is_octal, is_hex}
use Rattle.c_lexer.specs.Literals.{item, byte, value_in, simple_value, octal_item, hex_item, escape_at, item_at, text_item}
use Rattle.c_lexer.proofs.Options.{pick}
use Rattle.c_lexer.proofs.Runs.{first_run, run_stays, take_comm}

-- the bounds of an item's length
pub record IsWithin (i : Item) (least most : ℕ) : Type 0 where
  pub some : least ≤ i.len
  pub within : i.len ≤ most

item_len : (o : Option ℕ) (n : ℕ) (i : Item) → item o n ≡ Some i → n ≡ i.len
item_len None n i e = cc
item_len (Some v) n i e = cc

octal_fits : (c : ℕ) (s : List ℕ) (i : Item) → is_octal c ≡ true → octal_item (c ∷ s) ≡ Some i → IsWithin i 2 (suc (suc (length s)))
unfolding octal_item
octal_fits c s i is e =
    let n : ℕ = prefix_len is_octal (take 3 (c ∷ s)) in
    let len : n + 1 ≡ i.len = item_len (byte (value_in 8 (take n (c ∷ s)))) (n + 1) i e in
    let a : n ≤ length (take 3 (c ∷ s)) = prefix_len-le-length is_octal (take 3 (c ∷ s)) in
    let b : length (take 3 (c ∷ s)) ≡ min 3 (suc (length s)) = length-take 3 (c ∷ s) in
    let one : prefix_len is_octal (take 2 s) + 1 ≡ n = first_run is_octal c (take 2 s) is in
    record { some = omega arith; within = omega arith }

hex_fits : (s : List ℕ) (i : Item) → hex_item s ≡ Some i → IsWithin i 2 (suc (suc (length s)))
unfolding hex_item
hex_fits s i e = pick (eqb (prefix_len is_hex s) 0) None (item (byte (value_in 16 (take (prefix_len is_hex s) s))) (prefix_len is_hex s + 2)) (Some i) e
    (λ yes w. cc)
    (λ other w.
    let len = item_len (byte (value_in 16 (take (prefix_len is_hex s) s))) (prefix_len is_hex s + 2) i w in
    let a = prefix_len-le-length is_hex s in
    record { some = omega arith; within = omega arith })

escape_fits : (s : List ℕ) (i : Item) → escape_at s ≡ Some i → IsWithin i 2 (suc (length s))
unfolding escape_at
escape_fits [] i e = cc
escape_fits (c ∷ s) i e = pick (is_octal c) (octal_item (c ∷ s)) (cond (eqb c 120) (hex_item s) (item (simple_value c) 2)) (Some i) e
    (λ yes w. octal_fits c s i yes w)
    (λ other w. pick (eqb c 120) (hex_item s) (item (simple_value c) 2) (Some i) w
    (λ yes v. hex_fits s i v)
    (λ no_x v. let len = item_len (simple_value c) 2 i v in record { some = omega arith; within = omega arith }))

pub item_fits : (quote : ℕ) (s : List ℕ) (i : Item) → item_at quote s ≡ Some i → IsWithin i 1 (length s)
unfolding item_at
item_fits quote [] i e = cc
item_fits quote (b ∷ s) i e = pick (eqb b 92) (escape_at s) (cond (eqb b quote || eqb b 10) None (Some (record { value = b; len = 1 }))) (Some i) e
    (λ yes w. let u = escape_fits s i w in record { some = omega arith; within = omega arith })
    (λ other w. pick (eqb b quote || eqb b 10) None (Some (record { value = b; len = 1 })) (Some i) w
    (λ yes v. cc)
    (λ plain v. let len : 1 ≡ i.len = cc in record { some = omega arith; within = omega arith }))

octal_by : ℕ → List ℕ → Option Item
octal_by n s = item (byte (value_in 8 (take n s))) (n + 1)

octal_stays : (s : List ℕ) (i : Item) (k : ℕ) → octal_item s ≡ Some i → i.len ≤ suc k → octal_item (take k s) ≡ Some i
unfolding octal_item octal_by
octal_stays s i k e h =
    let n : ℕ = prefix_len is_octal (take 3 s) in
    let len : n + 1 ≡ i.len = item_len (byte (value_in 8 (take n s))) (n + 1) i e in
    let same : prefix_len is_octal (take 3 (take k s)) ≡ n = ap (prefix_len is_octal) (take_comm 3 k s) ∙ run_stays is_octal (take 3 s) k (omega arith) in
    ap (λ m. octal_by m (take k s)) same ∙ ap (λ r. item (byte (value_in 8 r)) (n + 1)) (take-take n k s (omega arith)) ∙ e

hex_by : ℕ → List ℕ → Option Item
hex_by n s = cond (eqb n 0) None (item (byte (value_in 16 (take n s))) (n + 2))

hex_stays : (s : List ℕ) (i : Item) (k : ℕ) → hex_item s ≡ Some i → i.len ≤ suc (suc k) → hex_item (take k s) ≡ Some i
unfolding hex_item hex_by
hex_stays s i k e h =
    let n : ℕ = prefix_len is_hex s in
    let small : n ≤ k = pick (eqb n 0) None (item (byte (value_in 16 (take n s))) (n + 2)) (Some i) e
    (λ yes w. cc)
    (λ other w. let len = item_len (byte (value_in 16 (take n s))) (n + 2) i w in omega arith) in
    ap (λ m. hex_by m (take k s)) (run_stays is_hex s k small) ∙ ap (λ r. cond (eqb n 0) None (item (byte (value_in 16 r)) (n + 2))) (take-take n k s small) ∙ e

escape_stays : (s : List ℕ) (i : Item) (k : ℕ) → escape_at s ≡ Some i → i.len ≤ suc k → escape_at (take k s) ≡ Some i
unfolding escape_at
escape_stays [] i k e h = cc
escape_stays (c ∷ s) i zero e h = absurd (let w = escape_fits (c ∷ s) i e in omega arith)
escape_stays (c ∷ s) i (suc k) e h = pick (is_octal c) (octal_item (c ∷ s)) (cond (eqb c 120) (hex_item s) (item (simple_value c) 2)) (Some i) e
    (λ yes w. rw yes (octal_stays (c ∷ s) i (suc k) w h))
    (λ other w. pick (eqb c 120) (hex_item s) (item (simple_value c) 2) (Some i) w
    (λ yes v. rw (other, yes) (hex_stays s i k v h))
    (λ no_x v. rw (other, no_x) v))

-- an item does not depend on what stands behind it
pub item_stays : (quote : ℕ) (s : List ℕ) (i : Item) (k : ℕ) → item_at quote s ≡ Some i → i.len ≤ k → item_at quote (take k s) ≡ Some i
unfolding item_at
item_stays quote [] i k e h = cc
item_stays quote (b ∷ s) i zero e h = absurd (let w = item_fits quote (b ∷ s) i e in omega arith)
item_stays quote (b ∷ s) i (suc k) e h = pick (eqb b 92) (escape_at s) (cond (eqb b quote || eqb b 10) None (Some (record { value = b; len = 1 }))) (Some i) e
    (λ yes w. rw yes (escape_stays s i k w h))
    (λ other w. rw other w)

pub escape_some : (s : List ℕ) (o : Option Item) → o ≡ escape_at s → IfSome o (λ i. 0 < i.len)
escape_some s None e = tt
escape_some s (Some i) e = let w = escape_fits s i (sym e) in omega arith

pub escape_within : (s : List ℕ) (n : ℕ) (o : Option Item) → suc (length s) ≤ n → o ≡ escape_at s → IfSome o (λ i. i.len ≤ n)
escape_within s n None h e = tt
escape_within s n (Some i) h e = let w = escape_fits s i (sym e) in omega arith

-- in a string literal
pub text_item_some : (s t : List ℕ) (o : Option Item) (i : Item) → s ≡ t → o ≡ item_at 34 s → o ≡ Some i → text_item t ≡ Some i.len
unfolding text_item
text_item_some s t o i e v is = ap (λ r. option_map (λ i. i.len) (item_at 34 r)) (sym e) ∙ ap (option_map (λ i. i.len)) (sym v ∙ is)

pub text_item_none : (s t : List ℕ) (o : Option Item) → s ≡ t → o ≡ item_at 34 s → o ≡ None → text_item t ≡ None
unfolding text_item
text_item_none s t o e v is = ap (λ r. option_map (λ i. i.len) (item_at 34 r)) (sym e) ∙ ap (option_map (λ i. i.len)) (sym v ∙ is)
