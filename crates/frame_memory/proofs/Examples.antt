-- The example stands.
use Rattle.std.proofs.Common.{◌≡◌, ℕ, zero, suc, ◌<◌, true, [], ◌∷◌, refl, ◌∙◌, arith}
use Rattle.std.specs.Prelude.{◌&&◌, nat_le, nat_lt}
use Rattle.std.proofs.lemmas.Bool.{and_from, le-leb, lt-ltb, le-ltb, and_right, cond-true, cond-false}
use Rattle.mem_model.specs.Cells.{bytes_of, parts_of, number_of, pointer_of, value_or_fault}
use Rattle.mem_model.specs.Memory.{object_at, load_at}
use Rattle.mem_model.specs.Bytes.{AreBytes}
use Rattle.frame_memory.specs.Bytes.{bytes_from, put_bytes, low_bytes, number_from}
use Rattle.frame_memory.specs.Relation.{IsExtent, IsAddressOf, ObjectIs}
use Rattle.frame_memory.specs.Examples.{ExampleStands, example_target, memory, extents, owners, example_bytes}
use Rattle.frame_memory.proofs.Numbers.{put-small, low_bytes-are}

first-extent : IsExtent (record { base = 65536; size = 8 })
first-extent = record { above = omega arith; aligned = refl; small = omega arith }

second-extent : IsExtent (record { base = 65544; size = 3 })
second-extent = record { above = omega arith; aligned = refl; small = omega arith }

address : IsAddressOf extents example_target 65546
address = record { extent = record { base = 65544; size = 3 }; made = refl; sound = second-extent; at = 2; offset = refl; within = omega arith; place = refl }

first : ObjectIs extents (object_at memory 0) owners example_bytes 0
unfolding parts_of put_bytes low_bytes
first = record {
  extent = record { base = 65536; size = 8 };
  made = refl;
  sound = first-extent;
  size = refl;
  cells = ((65546, address, refl), ((65546, address, refl), ((65546, address, refl), ((65546, address, refl), ((65546, address, refl), ((65546, address, refl), ((65546, address, refl), ((65546, address, refl), tt))))))));
  own = λ y from to. cond-true (nat_le 65536 y && nat_lt y 65544) _ _ (and_from (nat_le 65536 y) (nat_lt y 65544) (le-leb 65536 y from) (lt-ltb y 65544 to));
}

second : ObjectIs extents (object_at memory 1) owners example_bytes 1
unfolding put_bytes
second = record {
  extent = record { base = 65544; size = 3 };
  made = refl;
  sound = second-extent;
  size = refl;
  cells = (refl, (refl, (tt, tt)));
  own = λ y from to.
      cond-false (nat_le 65536 y && nat_lt y 65544) _ _ (and_right (nat_le 65536 y) (nat_lt y 65544) (le-ltb y 65544 from))
      ∙ cond-true (nat_le 65544 y && nat_lt y 65547) _ _ (and_from (nat_le 65544 y) (nat_lt y 65547) (le-leb 65544 y from) (lt-ltb y 65547 to));
}

each : (o : ℕ) → (object_at memory o).live ≡ true → ObjectIs extents (object_at memory o) owners example_bytes o
each zero live = first
each (suc zero) live = second
each (suc (suc zero)) live = absurd (cc)
each (suc (suc (suc o))) live = absurd (cc)

pub example_stands : ExampleStands
unfolding parts_of put_bytes low_bytes bytes_from number_from load_at value_or_fault pointer_of number_of bytes_of
example_stands = record {
  stands = record { each = each; count = refl; bytes = λ y. small y };
  pointer = refl;
  address = refl;
  number = refl;
  word = refl;
}
  where
    small : (y : ℕ) → example_bytes y < 256
    small y =
        let back : AreBytes (7 ∷ 1 ∷ 99 ∷ []) = (omega arith, (omega arith, (omega arith, tt))) in
        put-small (7 ∷ 1 ∷ 99 ∷ []) (put_bytes (λ z. 0) 65536 (low_bytes 8 65546)) 65544 back (put-small (low_bytes 8 65546) (λ z. 0) 65536 (low_bytes-are 8 65546) (λ z. omega arith)) y
