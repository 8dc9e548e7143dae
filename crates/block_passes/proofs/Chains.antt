-- What passes keep is kept by several, one after the other.
use Rattle.std.proofs.Common.{◌≡◌, ℕ, zero, suc, ◌+◌, ◌*◌, ◌≤◌, List, [], ◌∷◌, refl, ◌∙◌, subst, arith}
use Rattle.std.specs.Prelude.{All}
use Rattle.std.specs.List.{AllZip}
use Rattle.std.proofs.lemmas.List.Elements.{All-nil, All-cons, All-head, All-tail}
use Rattle.pass_core.specs.Functions.{edge_count}
use Rattle.temp_ir.specs.declared.insn.TempInsn.{TempInsn}
use Rattle.temp_ir.specs.Insns.{targets_of, flows_on_of}
use Rattle.temp_ir.specs.Programs.{TempFn}
use Rattle.block_pass_laws.specs.argument_laws.Kept.{KeepArguments}
use Rattle.block_pass_laws.specs.back_laws.Bulks.{most_edges, GrowBySplits}
use Rattle.block_passes.specs.Keeps.{KeepsFunction, WritesWithinCalls, KeepsIsReflexive, KeepsIsTransitive}

-- ---- sizes

-- more edges make more, and the others are no fewer for it
more_edges : (splits few many : ℕ) → few ≤ many → most_edges splits few + many ≤ most_edges splits many + few
more_edges zero few many le = omega arith
more_edges (suc splits) few many le = omega (arith, le, more_edges splits (2 * few) (2 * many) (omega (arith, le)))

both_splits : (splits more edges : ℕ) → most_edges more (most_edges splits edges) ≡ most_edges (splits + more) edges
both_splits zero more edges =
    let same : more ≡ zero + more = omega arith in
    subst (λ n. most_edges more edges ≡ most_edges n edges) same refl
both_splits (suc splits) more edges =
    let next : suc (splits + more) ≡ suc splits + more = omega arith in
    both_splits splits more (2 * edges) ∙ subst (λ n. most_edges (suc (splits + more)) edges ≡ most_edges n edges) next refl

sizes_chain : (splits more : ℕ) (a b c : List (List TempInsn)) → GrowBySplits splits a b → GrowBySplits more b c → GrowBySplits (splits + more) a c
sizes_chain splits more a b c one two =
    let edges = edge_count targets_of flows_on_of a in
    let between = edge_count targets_of flows_on_of b in
    let first = one.edges in
    let first_blocks = one.blocks in
    let first_insns = one.insns in
    let first_calls = one.calls in
    let second = two.edges in
    let second_blocks = two.blocks in
    let second_insns = two.insns in
    let second_calls = two.calls in
    let grow = more_edges more between (most_edges splits edges) first in
    let both = both_splits splits more edges in
    record {
      blocks = omega (arith, first_blocks, second_blocks, grow, both);
      insns = omega (arith, first_insns, second_insns, grow, both);
      edges = omega (arith, first, second, grow, both);
      calls = omega (arith, first_calls, second_calls);
    }

-- ---- functions

arguments_chain : (a b c : List (List TempInsn)) → KeepArguments a b → KeepArguments b c → KeepArguments a c
arguments_chain a b c one two =
    let first = one.narrow in
    let second = two.narrow in
    record {
      places = λ most h. two.places most (one.places most h);
      within = λ h. two.within (one.within h);
      narrow = omega (arith, first, second);
    }

function_chain : (splits more : ℕ) (a b c : TempFn) → KeepsFunction splits a b → KeepsFunction more b c → KeepsFunction (splits + more) a c
function_chain splits more a b c one two =
    let first = one.temps in
    let second = two.temps in
    record {
      name = two.name ∙ one.name;
      params = two.params ∙ one.params;
      temps = omega (arith, first, second);
      objects = two.objects ∙ one.objects;
      settled = λ h. two.settled (one.settled h);
      marks = λ h. two.marks (one.marks h);
      names = λ functions globals h. two.names functions globals (one.names functions globals h);
      arguments = arguments_chain a.blocks b.blocks c.blocks one.arguments two.arguments;
      sizes = sizes_chain splits more a.blocks b.blocks c.blocks one.sizes two.sizes;
    }

function_itself : (f : TempFn) → KeepsFunction 0 f f
function_itself f = record {
  name = refl;
  params = refl;
  temps = omega arith;
  objects = refl;
  settled = λ h. h;
  marks = λ h. h;
  names = λ functions globals h. h;
  arguments = record { places = λ most h. h; within = λ h. h; narrow = omega arith };
  sizes = record { blocks = omega arith; insns = omega arith; edges = omega arith; calls = omega arith };
}

-- ---- lists

functions_chain : (splits more : ℕ) (fs gs hs : List TempFn) → AllZip (KeepsFunction splits) fs gs → AllZip (KeepsFunction more) gs hs → AllZip (KeepsFunction (splits + more)) fs hs
functions_chain splits more [] [] [] one two = tt
functions_chain splits more [] [] (h ∷ hs) one two = absurd two
functions_chain splits more [] (g ∷ gs) hs one two = absurd one
functions_chain splits more (f ∷ fs) [] hs one two = absurd one
functions_chain splits more (f ∷ fs) (g ∷ gs) [] one two = absurd two
functions_chain splits more (f ∷ fs) (g ∷ gs) (h ∷ hs) one two =
    (function_chain splits more f g h one.0 two.0, functions_chain splits more fs gs hs one.1 two.1)

functions_themselves : (fs : List TempFn) → AllZip (KeepsFunction 0) fs fs
functions_themselves [] = tt
functions_themselves (f ∷ fs) = (function_itself f, functions_themselves fs)

pub all_within : (splits : ℕ) (fs gs : List TempFn) → AllZip (KeepsFunction splits) fs gs → All WritesWithinCalls fs → All WritesWithinCalls gs
all_within splits [] [] kept h = All-nil WritesWithinCalls
all_within splits [] (g ∷ gs) kept h = absurd kept
all_within splits (f ∷ fs) [] kept h = absurd kept
all_within splits (f ∷ fs) (g ∷ gs) kept h =
    All-cons WritesWithinCalls g gs (kept.0.arguments.within (All-head WritesWithinCalls f fs h)) (all_within splits fs gs kept.1 (All-tail WritesWithinCalls f fs h))

-- ---- the laws

pub reflexive : KeepsIsReflexive
reflexive program = record {
  functions = functions_themselves program.functions;
  globals = refl;
  endings = λ within rooms input turns e defined ends. ends;
}

pub transitive : KeepsIsTransitive
transitive splits more a b c one two = record {
  functions = functions_chain splits more a.functions b.functions c.functions one.functions two.functions;
  globals = two.globals ∙ one.globals;
  endings = λ within rooms input turns e defined ends.
      two.endings (all_within splits a.functions b.functions one.functions within) rooms input turns e defined
      (one.endings within rooms input turns e defined ends);
}
