-- What a string literal stands for, item by item.
use Rattle.std.proofs.Common.{◌≡◌, ℕ, zero, suc, ◌<◌, ◌-◌, ◌==◌, ◌||◌, nat_le, nat_lt, Bool, true, false, List, [], ◌∷◌, ◌++◌, length, take, Option, Some, None, IfSome, refl, if◌then◌else◌, All, arith, leb-true}
use Rattle.std.specs.List.{prefix_len}
use Rattle.std.proofs.lemmas.List.Elements.{All-head, All-tail}
use Rattle.c_lexer.specs.Bytes.{is_octal, is_hex}
use Rattle.c_lexer.specs.Limits.{text_limit}
use Rattle.c_lexer.specs.Literals.{value_in, byte, item, simple_value, octal_item, hex_item, escape_at, item_at}
use Rattle.c_lexer.specs.declared.literals.Item.{Item}
use Rattle.c_typing_literals.specs.Texts.{with_item_byte, bytes_behind, text_bytes}
use Rattle.c_typing_judgements.specs.Texts.{join_spellings, spelling_bytes}
use Rattle.mem_model.specs.Bytes.{AreBytes}

-- ---- values of items

abbrev IsByte : ℕ → Type 0
IsByte b = b < 256

abbrev HasByte : Item → Type 0
HasByte i = i.value < 256

-- of two of which one is taken
either : {A : Type 0} (P : A → Type 0) (b : Bool) (x y : A) → P x → P y → P (if b then x else y)
either P true x y h g = h
either P false x y h g = g

-- where a test holds
where_true : {A : Type 0} (P : A → Type 0) (b : Bool) (x y : A) → (b ≡ true → P x) → P y → P (if b then x else y)
where_true P true x y h g = h refl
where_true P false x y h g = g

abbrev SomeByte : Option ℕ → Type 0
SomeByte o = IfSome o IsByte

abbrev SomeItem : Option Item → Type 0
SomeItem o = IfSome o HasByte

item_byte : (o : Option ℕ) (len : ℕ) → SomeByte o → SomeItem (item o len)
item_byte None len h = tt
item_byte (Some value) len h = h

small : (value : ℕ) → nat_le value 255 ≡ true → value < 256
small value e = let le = leb-true value 255 e in omega arith

byte_small : (value : ℕ) → SomeByte (byte value)
unfolding byte
byte_small value = where_true SomeByte (nat_le value 255) (Some value) None (small value) tt

simple_small : (c : ℕ) → SomeByte (simple_value c)
unfolding simple_value
simple_small c =
    either SomeByte (c == 110) _ _ (omega arith) (either SomeByte (c == 116) _ _ (omega arith)
    (either SomeByte (c == 114) _ _ (omega arith) (either SomeByte (c == 97) _ _ (omega arith)
    (either SomeByte (c == 98) _ _ (omega arith) (either SomeByte (c == 102) _ _ (omega arith)
    (either SomeByte (c == 118) _ _ (omega arith) (either SomeByte (c == 92) _ _ (omega arith)
    (either SomeByte (c == 39) _ _ (omega arith) (either SomeByte (c == 34) _ _ (omega arith)
    (either SomeByte (c == 63) _ _ (omega arith) tt))))))))))

octal_byte : (s : List ℕ) → SomeItem (octal_item s)
unfolding octal_item
octal_byte s = item_byte (byte (value_in 8 (take (prefix_len is_octal (take 3 s)) s))) _ (byte_small _)

hex_byte : (s : List ℕ) → SomeItem (hex_item s)
unfolding hex_item
hex_byte s = either SomeItem (prefix_len is_hex s == 0) None _ tt (item_byte (byte (value_in 16 (take (prefix_len is_hex s) s))) _ (byte_small _))

escape_byte : (s : List ℕ) → SomeItem (escape_at s)
unfolding escape_at
escape_byte [] = tt
escape_byte (c ∷ s) =
    either SomeItem (is_octal c) (octal_item (c ∷ s)) _ (octal_byte (c ∷ s))
    (either SomeItem (c == 120) (hex_item s) _ (hex_byte s) (item_byte (simple_value c) 2 (simple_small c)))

item_is_byte : (quote : ℕ) (s : List ℕ) → AreBytes s → SomeItem (item_at quote s)
unfolding item_at
item_is_byte quote [] h = tt
item_is_byte quote (b ∷ s) h =
    either SomeItem (b == 92) (escape_at s) _ (escape_byte s)
    (either SomeItem (b == quote || b == 10) None (Some (record { value = b; len = 1 })) tt h.0)

-- ---- bytes of literals

pub bytes_append : (a b : List ℕ) → AreBytes a → AreBytes b → AreBytes (a ++ b)
bytes_append [] b h g = g
bytes_append (x ∷ a) b h g = (h.0, bytes_append a b h.1 g)

with_bytes : (o : Option Item) (next : ℕ → List ℕ) → SomeItem o → ((skip : ℕ) → AreBytes (next skip)) → AreBytes (with_item_byte o next)
with_bytes None next h g = tt
with_bytes (Some i) next h g = (h, g (i.len - 1))

behind_bytes : (skip : ℕ) (s : List ℕ) → AreBytes s → AreBytes (bytes_behind skip s)
behind_bytes zero [] h = tt
behind_bytes (suc skip) [] h = tt
behind_bytes zero (b ∷ s) h = with_bytes (item_at 34 (b ∷ s)) (λ skip. bytes_behind skip s) (item_is_byte 34 (b ∷ s) h) (λ skip. behind_bytes skip s h.1)
behind_bytes (suc skip) (b ∷ s) h = behind_bytes skip s h.1

literal_bytes : (s : List ℕ) → AreBytes s → AreBytes (text_bytes s)
literal_bytes [] h = tt
literal_bytes (q ∷ s) h = either AreBytes (nat_lt text_limit (length s)) [] (bytes_behind 0 s) tt (behind_bytes 0 s h.1)

joined_bytes : (spellings : List (List ℕ)) → All AreBytes spellings → AreBytes (join_spellings spellings)
joined_bytes [] h = tt
joined_bytes (s ∷ ss) h =
    bytes_append (text_bytes s) (join_spellings ss) (literal_bytes s (All-head AreBytes s ss h)) (joined_bytes ss (All-tail AreBytes s ss h))

pub texts_bytes : (spellings : List (List ℕ)) → All AreBytes spellings → AreBytes (spelling_bytes spellings)
texts_bytes spellings h = bytes_append (join_spellings spellings) (0 ∷ []) (joined_bytes spellings h) (omega arith, tt)
