-- The small units, computed.
use Rattle.std.proofs.Common.{◌≡◌, [], ◌∷◌, refl}
use Rattle.c_typed_tree.specs.declared.statements.TStmt.TheBlock as sb
use Rattle.c_typed_tree.specs.model.View.{opens}
use Rattle.mem_model.specs.Memory.{load_at, store_at, copy_at}
use Rattle.mem_model.specs.Cells.{bytes_of, parts_of, cells_of, number_of, pointer_of, value_or_fault}
use Rattle.c_mean.specs.Behaviour.{Done, Trap, Undefined, More}
use Rattle.c_semantics.specs.Runs.{◌>>=◌, pure, undefined_behaviour, trap, exit, no_turn, turn, on_memory, set_memory, read_register, write_register}
use Rattle.c_semantics.specs.Evaluates.{put_character, get}
use Rattle.c_semantics.specs.Behaves.{behave_c}
use Rattle.c_semantics.specs.Examples.{returns_seven, returns_nothing, status_is_a_byte, puts_a_byte, gets_a_byte, gets_the_end, aborts, exits, has_no_turn, has_turns_enough, sum_overflows, product_overflows, unsigned_wraps, narrowing_wraps, increment_overflows, minus_least, zero_divisor, least_by_minus_one, remainder_of_least, division_truncates, remainder_has_the_sign, shift_keeps_the_sign, shift_keeps_low_bits, unsigned_compares, compound_narrows, and_needs_the_left, or_needs_the_left, one_arm_is_chosen, commas_go_on, left_before_right, step_gives_the_old, prefix_gives_the_new, while_goes_round, rounds_take_turns, do_goes_once, for_steps_and_continues, switch_falls_through, switch_takes_the_default, return_leaves_the_loop, calls_itself, call_takes_a_turn, written_through_a_pointer, elements_stand_apart, pointers_have_a_distance, globals_begin, globals_hold_addresses, members_have_places, structs_are_copied, parameters_are_objects, unset_register, unset_cell, outside_the_object, through_null, misaligned_access, moved_outside, null_moved, dead_object, dead_pointer_tested, compared_apart, compared_at_the_end, shifted_too_far, shifted_below_zero, literal_written, no_value_used, no_value_left_alone, pointer_read_in_part, copy_overlaps_itself}

-- opens the meaning, and the trees of the units
unfoldable pub the_meaning : Unit {0}
unfolding ◌>>=◌ pure undefined_behaviour trap exit no_turn turn on_memory set_memory read_register write_register put_character get load_at store_at copy_at bytes_of parts_of cells_of number_of pointer_of value_or_fault opens sb.hidden-the_row-TSection-2
the_meaning = tt

pub is-returns_seven : behave_c returns_seven [] 0 ≡ Done [] 7
unfolding the_meaning
is-returns_seven = refl

pub is-returns_nothing : behave_c returns_nothing [] 0 ≡ Done [] 0
unfolding the_meaning
is-returns_nothing = refl

pub is-status_is_a_byte : behave_c status_is_a_byte [] 0 ≡ Done [] 44
unfolding the_meaning
is-status_is_a_byte = refl

pub is-puts_a_byte : behave_c puts_a_byte [] 9 ≡ Done (65 ∷ []) 65
unfolding the_meaning
is-puts_a_byte = refl

pub is-gets_a_byte : behave_c gets_a_byte (9 ∷ 8 ∷ []) 9 ≡ Done [] 9
unfolding the_meaning
is-gets_a_byte = refl

pub is-gets_the_end : behave_c gets_the_end [] 9 ≡ Done [] 255
unfolding the_meaning
is-gets_the_end = refl

pub is-aborts : behave_c aborts [] 9 ≡ Trap (65 ∷ []) 2
unfolding the_meaning
is-aborts = refl

pub is-exits : behave_c exits [] 9 ≡ Done (65 ∷ []) 3
unfolding the_meaning
is-exits = refl

pub is-has_no_turn : behave_c has_no_turn [] 1 ≡ More (65 ∷ [])
unfolding the_meaning
is-has_no_turn = refl

pub is-has_turns_enough : behave_c has_turns_enough [] 2 ≡ Done (65 ∷ 66 ∷ []) 0
unfolding the_meaning
is-has_turns_enough = refl

pub is-sum_overflows : behave_c sum_overflows [] 9 ≡ Trap (65 ∷ []) 3
unfolding the_meaning
is-sum_overflows = refl

pub is-product_overflows : behave_c product_overflows [] 9 ≡ Trap [] 3
unfolding the_meaning
is-product_overflows = refl

pub is-unsigned_wraps : behave_c unsigned_wraps [] 9 ≡ Done [] 1
unfolding the_meaning
is-unsigned_wraps = refl

pub is-narrowing_wraps : behave_c narrowing_wraps [] 9 ≡ Done [] 1
unfolding the_meaning
is-narrowing_wraps = refl

pub is-increment_overflows : behave_c increment_overflows [] 9 ≡ Trap [] 3
unfolding the_meaning
is-increment_overflows = refl

pub is-minus_least : behave_c minus_least [] 9 ≡ Trap [] 3
unfolding the_meaning
is-minus_least = refl

pub is-division_by_zero : behave_c zero_divisor [] 9 ≡ Trap [] 1
unfolding the_meaning
is-division_by_zero = refl

pub is-least_by_minus_one : behave_c least_by_minus_one [] 9 ≡ Trap [] 3
unfolding the_meaning
is-least_by_minus_one = refl

pub is-remainder_of_least : behave_c remainder_of_least [] 9 ≡ Trap [] 3
unfolding the_meaning
is-remainder_of_least = refl

pub is-division_truncates : behave_c division_truncates [] 9 ≡ Done [] 253
unfolding the_meaning
is-division_truncates = refl

pub is-remainder_has_the_sign : behave_c remainder_has_the_sign [] 9 ≡ Done [] 255
unfolding the_meaning
is-remainder_has_the_sign = refl

pub is-shift_keeps_the_sign : behave_c shift_keeps_the_sign [] 9 ≡ Done [] 252
unfolding the_meaning
is-shift_keeps_the_sign = refl

pub is-shift_keeps_low_bits : behave_c shift_keeps_low_bits [] 9 ≡ Done [] 1
unfolding the_meaning
is-shift_keeps_low_bits = refl

pub is-unsigned_compares : behave_c unsigned_compares [] 9 ≡ Done [] 1
unfolding the_meaning
is-unsigned_compares = refl

pub is-compound_narrows : behave_c compound_narrows [] 9 ≡ Done [] 200
unfolding the_meaning
is-compound_narrows = refl

pub is-and_needs_the_left : behave_c and_needs_the_left [] 9 ≡ Done [] 0
unfolding the_meaning
is-and_needs_the_left = refl

pub is-or_needs_the_left : behave_c or_needs_the_left [] 9 ≡ Done [] 1
unfolding the_meaning
is-or_needs_the_left = refl

pub is-one_arm_is_chosen : behave_c one_arm_is_chosen [] 9 ≡ Done [] 5
unfolding the_meaning
is-one_arm_is_chosen = refl

pub is-commas_go_on : behave_c commas_go_on [] 9 ≡ Done (65 ∷ 66 ∷ []) 3
unfolding the_meaning
is-commas_go_on = refl

pub is-left_before_right : behave_c left_before_right [] 9 ≡ Done (65 ∷ 66 ∷ []) 255
unfolding the_meaning
is-left_before_right = refl

pub is-step_gives_the_old : behave_c step_gives_the_old [] 9 ≡ Done [] 9
unfolding the_meaning
is-step_gives_the_old = refl

pub is-prefix_gives_the_new : behave_c prefix_gives_the_new [] 9 ≡ Done [] 10
unfolding the_meaning
is-prefix_gives_the_new = refl

pub is-while_goes_round : behave_c while_goes_round [] 6 ≡ Done (65 ∷ 65 ∷ 65 ∷ []) 0
unfolding the_meaning
is-while_goes_round = refl

pub is-rounds_take_turns : behave_c rounds_take_turns [] 5 ≡ More (65 ∷ 65 ∷ [])
unfolding the_meaning
is-rounds_take_turns = refl

pub is-do_goes_once : behave_c do_goes_once [] 2 ≡ Done (65 ∷ []) 0
unfolding the_meaning
is-do_goes_once = refl

pub is-for_steps_and_continues : behave_c for_steps_and_continues [] 9 ≡ Done (0 ∷ 2 ∷ []) 0
unfolding the_meaning
is-for_steps_and_continues = refl

pub is-switch_falls_through : behave_c switch_falls_through [] 9 ≡ Done (66 ∷ 67 ∷ []) 0
unfolding the_meaning
is-switch_falls_through = refl

pub is-switch_takes_the_default : behave_c switch_takes_the_default [] 9 ≡ Done (65 ∷ []) 0
unfolding the_meaning
is-switch_takes_the_default = refl

pub is-return_leaves_the_loop : behave_c return_leaves_the_loop [] 9 ≡ Done [] 6
unfolding the_meaning
is-return_leaves_the_loop = refl

pub is-calls_itself : behave_c calls_itself [] 5 ≡ Done [] 24
unfolding the_meaning
is-calls_itself = refl

pub is-call_takes_a_turn : behave_c call_takes_a_turn [] 4 ≡ More []
unfolding the_meaning
is-call_takes_a_turn = refl

pub is-written_through_a_pointer : behave_c written_through_a_pointer [] 9 ≡ Done [] 5
unfolding the_meaning
is-written_through_a_pointer = refl

pub is-elements_stand_apart : behave_c elements_stand_apart [] 9 ≡ Done [] 12
unfolding the_meaning
is-elements_stand_apart = refl

pub is-pointers_have_a_distance : behave_c pointers_have_a_distance [] 9 ≡ Done [] 2
unfolding the_meaning
is-pointers_have_a_distance = refl

pub is-globals_begin : behave_c globals_begin [] 9 ≡ Done [] 1
unfolding the_meaning
is-globals_begin = refl

pub is-globals_hold_addresses : behave_c globals_hold_addresses [] 9 ≡ Done [] 7
unfolding the_meaning
is-globals_hold_addresses = refl

pub is-members_have_places : behave_c members_have_places [] 9 ≡ Done [] 31
unfolding the_meaning
is-members_have_places = refl

pub is-structs_are_copied : behave_c structs_are_copied [] 9 ≡ Done [] 3
unfolding the_meaning
is-structs_are_copied = refl

pub is-parameters_are_objects : behave_c parameters_are_objects [] 9 ≡ Done [] 5
unfolding the_meaning
is-parameters_are_objects = refl

pub is-unset_register : behave_c unset_register [] 9 ≡ Undefined
unfolding the_meaning
is-unset_register = refl

pub is-unset_cell : behave_c unset_cell [] 9 ≡ Undefined
unfolding the_meaning
is-unset_cell = refl

pub is-outside_the_object : behave_c outside_the_object [] 9 ≡ Undefined
unfolding the_meaning
is-outside_the_object = refl

pub is-through_null : behave_c through_null [] 9 ≡ Undefined
unfolding the_meaning
is-through_null = refl

pub is-misaligned : behave_c misaligned_access [] 9 ≡ Undefined
unfolding the_meaning
is-misaligned = refl

pub is-moved_outside : behave_c moved_outside [] 9 ≡ Undefined
unfolding the_meaning
is-moved_outside = refl

pub is-null_moved : behave_c null_moved [] 9 ≡ Undefined
unfolding the_meaning
is-null_moved = refl

pub is-dead_object : behave_c dead_object [] 9 ≡ Undefined
unfolding the_meaning
is-dead_object = refl

pub is-dead_pointer_tested : behave_c dead_pointer_tested [] 9 ≡ Undefined
unfolding the_meaning
is-dead_pointer_tested = refl

pub is-compared_apart : behave_c compared_apart [] 9 ≡ Undefined
unfolding the_meaning
is-compared_apart = refl

pub is-compared_at_the_end : behave_c compared_at_the_end [] 9 ≡ Undefined
unfolding the_meaning
is-compared_at_the_end = refl

pub is-shifted_too_far : behave_c shifted_too_far [] 9 ≡ Undefined
unfolding the_meaning
is-shifted_too_far = refl

pub is-shifted_below_zero : behave_c shifted_below_zero [] 9 ≡ Undefined
unfolding the_meaning
is-shifted_below_zero = refl

pub is-literal_written : behave_c literal_written [] 9 ≡ Undefined
unfolding the_meaning
is-literal_written = refl

pub is-no_value_used : behave_c no_value_used [] 9 ≡ Undefined
unfolding the_meaning
is-no_value_used = refl

pub is-no_value_left_alone : behave_c no_value_left_alone [] 9 ≡ Done [] 2
unfolding the_meaning
is-no_value_left_alone = refl

pub is-pointer_read_in_part : behave_c pointer_read_in_part [] 9 ≡ Undefined
unfolding the_meaning
is-pointer_read_in_part = refl

pub is-copy_overlaps_itself : behave_c copy_overlaps_itself [] 9 ≡ Undefined
unfolding the_meaning
is-copy_overlaps_itself = refl
