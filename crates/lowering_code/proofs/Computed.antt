-- The code of the small units, run.
use Rattle.std.proofs.Common.{◌≡◌, [], ◌∷◌, refl}
use Rattle.c_typed_tree.specs.declared.statements.TStmt.TheBlock as sb
use Rattle.c_typed_tree.specs.model.View.{opens}
use Rattle.mem_model.specs.Memory.{load_at, store_at, copy_at}
use Rattle.mem_model.specs.Cells.{bytes_of, parts_of, cells_of, number_of, pointer_of, value_or_fault}
use Rattle.c_mean.specs.Behaviour.{Done, Trap, Undefined, More}
use Rattle.lowering_code.specs.Units.{unit_behaviour}
use Rattle.c_semantics.specs.Examples.{returns_seven, returns_nothing, status_is_a_byte, puts_a_byte, gets_a_byte, gets_the_end, aborts, exits, has_no_turn, has_turns_enough, sum_overflows, product_overflows, unsigned_wraps, narrowing_wraps, increment_overflows, minus_least, zero_divisor, least_by_minus_one, remainder_of_least, division_truncates, remainder_has_the_sign, shift_keeps_the_sign, shift_keeps_low_bits, unsigned_compares, compound_narrows, and_needs_the_left, or_needs_the_left, one_arm_is_chosen, commas_go_on, left_before_right, step_gives_the_old, prefix_gives_the_new, while_goes_round, rounds_take_turns, do_goes_once, for_steps_and_continues, switch_falls_through, switch_takes_the_default, return_leaves_the_loop, calls_itself, call_takes_a_turn, written_through_a_pointer, elements_stand_apart, pointers_have_a_distance, globals_begin, globals_hold_addresses, members_have_places, structs_are_copied, parameters_are_objects, unset_register, unset_cell, outside_the_object, through_null, misaligned_access, moved_outside, null_moved, dead_object, dead_pointer_tested, compared_apart, compared_at_the_end, shifted_too_far, shifted_below_zero, literal_written, no_value_used, no_value_left_alone, pointer_read_in_part, copy_overlaps_itself}

-- opens the memory, and the trees of the units
unfoldable pub the_units : Unit {0}
unfolding load_at store_at copy_at bytes_of parts_of cells_of number_of pointer_of value_or_fault opens sb.hidden-the_row-TSection-2
the_units = tt

pub is-returns_seven : unit_behaviour returns_seven [] 0 300 ≡ Done [] 7
unfolding the_units
is-returns_seven = refl

pub is-returns_nothing : unit_behaviour returns_nothing [] 0 300 ≡ Done [] 0
unfolding the_units
is-returns_nothing = refl

pub is-status_is_a_byte : unit_behaviour status_is_a_byte [] 0 300 ≡ Done [] 44
unfolding the_units
is-status_is_a_byte = refl

pub is-puts_a_byte : unit_behaviour puts_a_byte [] 9 300 ≡ Done (65 ∷ []) 65
unfolding the_units
is-puts_a_byte = refl

pub is-gets_a_byte : unit_behaviour gets_a_byte (9 ∷ 8 ∷ []) 9 300 ≡ Done [] 9
unfolding the_units
is-gets_a_byte = refl

pub is-gets_the_end : unit_behaviour gets_the_end [] 9 300 ≡ Done [] 255
unfolding the_units
is-gets_the_end = refl

pub is-aborts : unit_behaviour aborts [] 9 300 ≡ Trap (65 ∷ []) 2
unfolding the_units
is-aborts = refl

pub is-exits : unit_behaviour exits [] 9 300 ≡ Done (65 ∷ []) 3
unfolding the_units
is-exits = refl

pub is-has_no_turn : unit_behaviour has_no_turn [] 1 300 ≡ More (65 ∷ [])
unfolding the_units
is-has_no_turn = refl

pub is-has_turns_enough : unit_behaviour has_turns_enough [] 2 300 ≡ Done (65 ∷ 66 ∷ []) 0
unfolding the_units
is-has_turns_enough = refl

pub is-sum_overflows : unit_behaviour sum_overflows [] 9 300 ≡ Trap (65 ∷ []) 3
unfolding the_units
is-sum_overflows = refl

pub is-product_overflows : unit_behaviour product_overflows [] 9 300 ≡ Trap [] 3
unfolding the_units
is-product_overflows = refl

pub is-unsigned_wraps : unit_behaviour unsigned_wraps [] 9 300 ≡ Done [] 1
unfolding the_units
is-unsigned_wraps = refl

pub is-narrowing_wraps : unit_behaviour narrowing_wraps [] 9 300 ≡ Done [] 1
unfolding the_units
is-narrowing_wraps = refl

pub is-increment_overflows : unit_behaviour increment_overflows [] 9 300 ≡ Trap [] 3
unfolding the_units
is-increment_overflows = refl

pub is-minus_least : unit_behaviour minus_least [] 9 300 ≡ Trap [] 3
unfolding the_units
is-minus_least = refl

pub is-division_by_zero : unit_behaviour zero_divisor [] 9 300 ≡ Trap [] 1
unfolding the_units
is-division_by_zero = refl

pub is-least_by_minus_one : unit_behaviour least_by_minus_one [] 9 300 ≡ Trap [] 3
unfolding the_units
is-least_by_minus_one = refl

pub is-remainder_of_least : unit_behaviour remainder_of_least [] 9 300 ≡ Trap [] 3
unfolding the_units
is-remainder_of_least = refl

pub is-division_truncates : unit_behaviour division_truncates [] 9 300 ≡ Done [] 253
unfolding the_units
is-division_truncates = refl

pub is-remainder_has_the_sign : unit_behaviour remainder_has_the_sign [] 9 300 ≡ Done [] 255
unfolding the_units
is-remainder_has_the_sign = refl

pub is-shift_keeps_the_sign : unit_behaviour shift_keeps_the_sign [] 9 300 ≡ Done [] 252
unfolding the_units
is-shift_keeps_the_sign = refl

pub is-shift_keeps_low_bits : unit_behaviour shift_keeps_low_bits [] 9 300 ≡ Done [] 1
unfolding the_units
is-shift_keeps_low_bits = refl

pub is-unsigned_compares : unit_behaviour unsigned_compares [] 9 300 ≡ Done [] 1
unfolding the_units
is-unsigned_compares = refl

pub is-compound_narrows : unit_behaviour compound_narrows [] 9 300 ≡ Done [] 200
unfolding the_units
is-compound_narrows = refl

pub is-and_needs_the_left : unit_behaviour and_needs_the_left [] 9 300 ≡ Done [] 0
unfolding the_units
is-and_needs_the_left = refl

pub is-or_needs_the_left : unit_behaviour or_needs_the_left [] 9 300 ≡ Done [] 1
unfolding the_units
is-or_needs_the_left = refl

pub is-one_arm_is_chosen : unit_behaviour one_arm_is_chosen [] 9 300 ≡ Done [] 5
unfolding the_units
is-one_arm_is_chosen = refl

pub is-commas_go_on : unit_behaviour commas_go_on [] 9 300 ≡ Done (65 ∷ 66 ∷ []) 3
unfolding the_units
is-commas_go_on = refl

pub is-left_before_right : unit_behaviour left_before_right [] 9 300 ≡ Done (65 ∷ 66 ∷ []) 255
unfolding the_units
is-left_before_right = refl

pub is-step_gives_the_old : unit_behaviour step_gives_the_old [] 9 300 ≡ Done [] 9
unfolding the_units
is-step_gives_the_old = refl

pub is-prefix_gives_the_new : unit_behaviour prefix_gives_the_new [] 9 300 ≡ Done [] 10
unfolding the_units
is-prefix_gives_the_new = refl

pub is-while_goes_round : unit_behaviour while_goes_round [] 6 300 ≡ Done (65 ∷ 65 ∷ 65 ∷ []) 0
unfolding the_units
is-while_goes_round = refl

pub is-rounds_take_turns : unit_behaviour rounds_take_turns [] 5 300 ≡ More (65 ∷ 65 ∷ [])
unfolding the_units
is-rounds_take_turns = refl

pub is-do_goes_once : unit_behaviour do_goes_once [] 2 300 ≡ Done (65 ∷ []) 0
unfolding the_units
is-do_goes_once = refl

pub is-for_steps_and_continues : unit_behaviour for_steps_and_continues [] 9 300 ≡ Done (0 ∷ 2 ∷ []) 0
unfolding the_units
is-for_steps_and_continues = refl

pub is-switch_falls_through : unit_behaviour switch_falls_through [] 9 300 ≡ Done (66 ∷ 67 ∷ []) 0
unfolding the_units
is-switch_falls_through = refl

pub is-switch_takes_the_default : unit_behaviour switch_takes_the_default [] 9 300 ≡ Done (65 ∷ []) 0
unfolding the_units
is-switch_takes_the_default = refl

pub is-return_leaves_the_loop : unit_behaviour return_leaves_the_loop [] 9 300 ≡ Done [] 6
unfolding the_units
is-return_leaves_the_loop = refl

pub is-calls_itself : unit_behaviour calls_itself [] 5 300 ≡ Done [] 24
unfolding the_units
is-calls_itself = refl

pub is-call_takes_a_turn : unit_behaviour call_takes_a_turn [] 4 300 ≡ More []
unfolding the_units
is-call_takes_a_turn = refl

pub is-written_through_a_pointer : unit_behaviour written_through_a_pointer [] 9 300 ≡ Done [] 5
unfolding the_units
is-written_through_a_pointer = refl

pub is-elements_stand_apart : unit_behaviour elements_stand_apart [] 9 300 ≡ Done [] 12
unfolding the_units
is-elements_stand_apart = refl

pub is-pointers_have_a_distance : unit_behaviour pointers_have_a_distance [] 9 300 ≡ Done [] 2
unfolding the_units
is-pointers_have_a_distance = refl

pub is-globals_begin : unit_behaviour globals_begin [] 9 300 ≡ Done [] 1
unfolding the_units
is-globals_begin = refl

pub is-globals_hold_addresses : unit_behaviour globals_hold_addresses [] 9 300 ≡ Done [] 7
unfolding the_units
is-globals_hold_addresses = refl

pub is-members_have_places : unit_behaviour members_have_places [] 9 300 ≡ Done [] 31
unfolding the_units
is-members_have_places = refl

pub is-structs_are_copied : unit_behaviour structs_are_copied [] 9 300 ≡ Done [] 3
unfolding the_units
is-structs_are_copied = refl

pub is-parameters_are_objects : unit_behaviour parameters_are_objects [] 9 300 ≡ Done [] 5
unfolding the_units
is-parameters_are_objects = refl

pub is-no_value_left_alone : unit_behaviour no_value_left_alone [] 9 300 ≡ Done [] 2
unfolding the_units
is-no_value_left_alone = refl
