-- Cells that are put behind others.
use Rattle.std.proofs.Common.{◌≡◌, ◌≤◌, ◌<◌, ℕ, zero, suc, ◌+◌, ◌*◌, ◌-◌, ◌/◌, List, [], ◌∷◌, ◌++◌, length, slice_get, Option, Some, None, refl, sym, ap, ◌∙◌, subst, arith, length-append}
use Rattle.std.proofs.lemmas.Option.{none-some, same_Some, slice_get_within}
use Rattle.std.proofs.lemmas.List.{length-replicate}
use Rattle.std.proofs.lemmas.Nat.{mod_below, div-mul-add}
use Rattle.bk_arithmetic.specs.declared.integer_type.IntegerType.{IntegerType}
use Rattle.bk_arithmetic.specs.IntegerTypes.{bytes}
use Rattle.bk_arithmetic.specs.Operations.{conversion}
use Rattle.c_typing_constants.specs.declared.c_constant_rules.addresses.Address.{Address}
use Rattle.mem_objects.specs.declared.DataObject.{DataObject}
use Rattle.mem_objects.specs.declared.DataCell.{DataCell}
use Rattle.mem_objects.specs.declared.DataCell.TheVariants.{Byte, AddressPart}
use Rattle.mem_objects.specs.Globals.{Reaches, StandsWhole}
use Rattle.c_typing_initial_values.specs.declared.values.InitialValue.{InitialValue}
use Rattle.c_typing_initial_values.specs.declared.values.InitialValue.TheVariants as v
use Rattle.c_typing_initial_values.specs.Cells.{zero_cells, word_cells, address_cells, value_cells, text_cells, reach, place_piece}
use Rattle.mem_model.specs.Bytes.{AreBytes}
use Rattle.c_typing_initialiser_sound.specs.c_initial_value_laws.Cells.{ObjectHasSize, IsAddressIn, IsValueIn, IsCellIn, AreInitialCells}
use Rattle.c_typing_initialiser_sound.specs.c_initial_value_laws.Laws.{IsMultiple, IsPlaceFor, value_size}

-- ---- cells by their place

get_front : {A : Type 0} (xs ys : List A) (k : ℕ) (x : A) → slice_get xs k ≡ Some x → slice_get (xs ++ ys) k ≡ Some x
get_front [] ys k x e = absurd (none-some x e)
get_front (z ∷ xs) ys zero x e = e
get_front (z ∷ xs) ys (suc k) x e = get_front xs ys k x e

get_behind : {A : Type 0} (xs ys : List A) (k at : ℕ) → at ≡ length xs + k → slice_get (xs ++ ys) at ≡ slice_get ys k
get_behind [] ys k at e = let f : at ≡ k = omega (arith, e) in ap (slice_get ys) f
get_behind (z ∷ xs) ys k zero e = let no : ⊥ = omega (arith, e) in absurd no
get_behind (z ∷ xs) ys k (suc at) e = get_behind xs ys k at (omega (arith, e))

-- where a cell of two lists stands
data Stands {A : Type 0} (xs ys : List A) (at : ℕ) (x : A) : Type 0 where
  before : slice_get xs at ≡ Some x → Stands xs ys at x
  behind : (k : ℕ) → at ≡ length xs + k → slice_get ys k ≡ Some x → Stands xs ys at x

one_further : {A : Type 0} (z : A) (xs ys : List A) (at : ℕ) (x : A) → Stands xs ys at x → Stands (z ∷ xs) ys (suc at) x
one_further z xs ys at x (before e) = before e
one_further z xs ys at x (behind k e f) = behind k (omega (arith, e)) f

stands : {A : Type 0} (xs ys : List A) (at : ℕ) (x : A) → slice_get (xs ++ ys) at ≡ Some x → Stands xs ys at x
stands [] ys at x e = behind at (omega arith) e
stands (z ∷ xs) ys zero x e = before e
stands (z ∷ xs) ys (suc at) x e = one_further z xs ys at x (stands xs ys at x e)

-- ---- lawful cells

module _ (globals : List DataObject) where
  -- cells stand as they did where others follow
  still_lawful : (xs ys : List DataCell) (at : ℕ) (x : DataCell) → IsCellIn globals xs at x → IsCellIn globals (xs ++ ys) at x
  still_lawful xs ys at (Byte b) h = h
  still_lawful xs ys at (AddressPart g plus part) h = (λ k less. get_front xs ys (at / 8 * 8 + k) (AddressPart g plus k) (h.0 k less), h.1)

  abbrev HoldBytes : List DataCell → Type 0
  HoldBytes [] = Unit {0}
  HoldBytes (Byte b ∷ xs) = (b < 256) × HoldBytes xs
  HoldBytes (AddressPart g plus part ∷ xs) = ⊥

  byte_at : (xs all : List DataCell) (at k : ℕ) (x : DataCell) → HoldBytes xs → slice_get xs k ≡ Some x → IsCellIn globals all at x
  byte_at [] all at k x h e = absurd (none-some x e)
  byte_at (Byte b ∷ xs) all at zero x h e = subst (IsCellIn globals all at) (same_Some (Byte b) x e) h.0
  byte_at (Byte b ∷ xs) all at (suc k) x h e = byte_at xs all at k x h.1 e
  byte_at (AddressPart g plus part ∷ xs) all at k x h e = absurd h

  more_bytes : (end : ℕ) (xs ys : List DataCell) → AreInitialCells globals end xs → HoldBytes ys → AreInitialCells globals (end + length ys) (xs ++ ys)
  more_bytes end xs ys h g = record {
    within = let w : length xs ≤ end = h.within in omega (arith, length-append xs ys);
    lawful = λ at x e. of at x (stands xs ys at x e);
  }
    where
      of : (at : ℕ) (x : DataCell) → Stands xs ys at x → IsCellIn globals (xs ++ ys) at x
      of at x (before e) = still_lawful xs ys at x (h.lawful at x e)
      of at x (behind k e f) = byte_at ys (xs ++ ys) at k x g f

  zeros_bytes : (n : ℕ) → HoldBytes (zero_cells n)
  zeros_bytes zero = tt
  zeros_bytes (suc n) = (omega arith, zeros_bytes n)

  word_bytes : (count word : ℕ) → HoldBytes (word_cells count word)
  word_bytes zero word = tt
  word_bytes (suc count) word = (mod_below word 256 (omega arith), word_bytes count (word / 256))

  text_bytes : (room : ℕ) (text : List ℕ) → AreBytes text → HoldBytes (text_cells room text)
  text_bytes zero text h = tt
  text_bytes (suc room) [] h = tt
  text_bytes (suc room) (b ∷ text) h = (h.0, text_bytes room text h.1)

  -- ---- as far as a place

  record ReachesPlace (place : ℕ) (cells : List DataCell) : Type 0 where
    cells_lawful : AreInitialCells globals place (reach place cells)
    far : length (reach place cells) ≡ place

  reached : (place : ℕ) (cells : List DataCell) → AreInitialCells globals place cells → ReachesPlace place cells
  reached place cells h =
      let gap = place - length cells in
      let w : length cells ≤ place = h.within in
      let zeros : length (zero_cells gap) ≡ gap = length-replicate gap (Byte 0) in
      let all : length (reach place cells) ≡ length cells + length (zero_cells gap) = length-append cells (zero_cells gap) in
      let far : length (reach place cells) ≡ place = omega (arith, zeros, all) in
      record {
        cells_lawful = record { within = omega (arith, far); lawful = (more_bytes place cells (zero_cells gap) h (zeros_bytes gap)).lawful };
        far = far;
      }

  shorter : (end later : ℕ) (cells : List DataCell) → end ≤ later → AreInitialCells globals end cells → AreInitialCells globals later cells
  shorter end later cells less h = record { within = let w : length cells ≤ end = h.within in omega arith; lawful = h.lawful }

  bytes_put : (place size : ℕ) (piece cells : List DataCell) → HoldBytes piece → length piece ≤ size → AreInitialCells globals place cells → AreInitialCells globals (place + size) (place_piece place piece cells)
  bytes_put place size piece cells g less h =
      shorter (place + length piece) (place + size) (place_piece place piece cells) (omega arith) (more_bytes place (reach place cells) piece (reached place cells h).cells_lawful g)

  -- ---- addresses

  part_of : (a : Address) (part : ℕ) → part < 8 → slice_get (address_cells a) part ≡ Some (AddressPart a.global a.plus part)
  part_of a zero h = refl
  part_of a (suc zero) h = refl
  part_of a (suc (suc zero)) h = refl
  part_of a (suc (suc (suc zero))) h = refl
  part_of a (suc (suc (suc (suc zero)))) h = refl
  part_of a (suc (suc (suc (suc (suc zero))))) h = refl
  part_of a (suc (suc (suc (suc (suc (suc zero)))))) h = refl
  part_of a (suc (suc (suc (suc (suc (suc (suc zero))))))) h = refl
  part_of a (suc (suc (suc (suc (suc (suc (suc (suc n)))))))) h = let no : ⊥ = omega arith in absurd no

  -- there are eight parts
  few_parts : (a : Address) (part : ℕ) (x : DataCell) → slice_get (address_cells a) part ≡ Some x → part < 8
  few_parts a part x e = slice_get_within (address_cells a) part x e

  reaches : (a : Address) (o : Option DataObject) → ObjectHasSize a.size o → a.plus ≤ a.size → Reaches a.plus o
  reaches a None h less = absurd h
  reaches a (Some o) h less = omega (arith, h)

  -- eight cells at a multiple of 8
  address_more : (q : ℕ) (xs : List DataCell) (a : Address) → length xs ≡ q * 8 → IsAddressIn globals a → AreInitialCells globals (q * 8) xs → AreInitialCells globals (q * 8 + 8) (xs ++ address_cells a)
  address_more q xs a far there h = record {
    within = omega (arith, far, length-append xs (address_cells a));
    lawful = λ at x e. of at x (stands xs (address_cells a) at x e);
  }
    where
      whole : StandsWhole (xs ++ address_cells a) (q * 8) a.global a.plus
      whole part less = get_behind xs (address_cells a) part (q * 8 + part) (omega (arith, far)) ∙ part_of a part less

      at_part : (at k : ℕ) → at ≡ length xs + k → k < 8 → at / 8 * 8 ≡ q * 8
      at_part at k e less = ap (λ n. n / 8 * 8) (e ∙ ap (λ n. n + k) far) ∙ ap (λ n. n * 8) (div-mul-add q 8 k less)

      one : (at k : ℕ) → at ≡ length xs + k → k < 8 → IsCellIn globals (xs ++ address_cells a) at (AddressPart a.global a.plus k)
      one at k e less = (subst (λ n. StandsWhole (xs ++ address_cells a) n a.global a.plus) (sym (at_part at k e less)) whole, reaches a (slice_get globals a.global) there.there there.within)

      of : (at : ℕ) (x : DataCell) → Stands xs (address_cells a) at x → IsCellIn globals (xs ++ address_cells a) at x
      of at x (before e) = still_lawful xs (address_cells a) at x (h.lawful at x e)
      of at x (behind k e f) =
          let less = few_parts a k x f in
          subst (IsCellIn globals (xs ++ address_cells a) at) (same_Some (AddressPart a.global a.plus k) x (sym (part_of a k less) ∙ f)) (one at k e less)

  address_put : (place : ℕ) (a : Address) (cells : List DataCell) → IsMultiple 8 place → IsAddressIn globals a → AreInitialCells globals place cells → AreInitialCells globals (place + 8) (place_piece place (address_cells a) cells)
  address_put place a cells m there h =
      let r = reached place cells h in
      subst (λ n. AreInitialCells globals (n + 8) (place_piece place (address_cells a) cells)) (sym m.same)
      (address_more m.times (reach place cells) a (r.far ∙ m.same) there (subst (λ n. AreInitialCells globals n (reach place cells)) m.same r.cells_lawful))

  word_length : (count word : ℕ) → length (word_cells count word) ≡ count
  word_length zero word = refl
  word_length (suc count) word = ap suc (word_length count (word / 256))

  put_value : (to : Option IntegerType) (value : InitialValue) (place : ℕ) (cells : List DataCell) → IsValueIn globals value → IsPlaceFor to place → AreInitialCells globals place cells
      → AreInitialCells globals (place + value_size to) (place_piece place (value_cells to value) cells)
  put_value None (v.Word t word) place cells there m h = bytes_put place 8 (zero_cells 8) cells (zeros_bytes 8) (omega arith) h
  put_value None v.Null place cells there m h = bytes_put place 8 (zero_cells 8) cells (zeros_bytes 8) (omega arith) h
  put_value None (v.Address a) place cells there m h = address_put place a cells m there h
  put_value (Some to) (v.Word t word) place cells there m h =
      bytes_put place (bytes to) (word_cells (bytes to) (conversion t to word)) cells (word_bytes (bytes to) (conversion t to word)) (omega (arith, word_length (bytes to) (conversion t to word))) h
  put_value (Some to) v.Null place cells there m h = bytes_put place (bytes to) [] cells tt (omega arith) h
  put_value (Some to) (v.Address a) place cells there m h = bytes_put place (bytes to) [] cells tt (omega arith) h

  text_length : (room : ℕ) (text : List ℕ) → length (text_cells room text) ≤ room
  text_length zero text = omega arith
  text_length (suc room) [] = omega arith
  text_length (suc room) (b ∷ text) = omega (arith, text_length room text)

pub value_put : (globals : List DataObject) (to : Option IntegerType) (value : InitialValue) (place : ℕ) (cells : List DataCell) → IsValueIn globals value → IsPlaceFor to place → AreInitialCells globals place cells
    → AreInitialCells globals (place + value_size to) (place_piece place (value_cells to value) cells)
value_put globals to value place cells there m h = put_value globals to value place cells there m h

pub text_put : (globals : List DataObject) (room : ℕ) (text : List ℕ) (place : ℕ) (cells : List DataCell) → AreBytes text → AreInitialCells globals place cells
    → AreInitialCells globals (place + room) (place_piece place (text_cells room text) cells)
text_put globals room text place cells all h = bytes_put globals place room (text_cells room text) cells (text_bytes globals room text all) (text_length globals room text) h
