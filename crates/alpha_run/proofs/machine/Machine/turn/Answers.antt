-- Each turn is a run of one step.
use Rattle.std.proofs.Common.{◌≡◌, ◌<◌, ◌+◌, min, cond, refl, option_map, ◌^◌, ◌∷◌, [], ◌++◌, List, ℕ, ap, ◌∙◌, rules}
use Rattle.bk_io.specs.Outside.{count_end, given}
use Rattle.bk_io.proofs.Inputs.{gives_nothing, given_first}
use Rattle.alpha_run.specs.Ending.{halt_is}
use Rattle.alpha_run.specs.model.Stop.{stops_early}
use Rattle.alpha_run.specs.Run.{last_step}
use Rattle.alpha_run.specs.model.ProcessorState.{IsProcessorOf}
use Rattle.alpha_run.proofs.Machines.{processor_runs, goes_turn, over_turn, write_fault, input_fault, puts_turn, takes_turn, ended_early}
use Rattle.alpha_run.proofs.machine.Machine.turn.Goals as goal

pub returns-in-Goes-clause-run : goal.returns-in-Goes-clause-run
returns-in-Goes-clause-run g c = (
  [],
  gives_nothing _,
  λ x may p y r none.
      let runs : IsProcessorOf p c.self.inside.processor = processor_runs p c.self.inside c.args.self.now c.self.view_is c.self.invariant r in
      let did = c.in-Goes.ensures.step p x y runs in
      goes_turn p x y c.self.inside c.args.self.now c.self.view_is none c.step.new.self c.saturating_add-self-inside.result _ did.0 did.1 c.step.ensures.kept.text c.saturating_add-self-inside.ensures,
)

pub returns-in-Over-clause-run : goal.returns-in-Over-clause-run
returns-in-Over-clause-run g c = (
  [],
  gives_nothing _,
  λ x may p y r none.
      let runs : IsProcessorOf p c.self.inside.processor = processor_runs p c.self.inside c.args.self.now c.self.view_is c.self.invariant r in
      let did = c.in-Over.ensures.step p x y runs in
      let small : c.self.inside.steps < 2 ^ 64 = search rules in
      let steps : c.saturating_add-self-inside-in-Over.result ≡ min (c.self.inside.steps + last_step (halt_is c.in-Over.halt)) count_end = c.saturating_add-self-inside-in-Over.ensures ∙ ap (λ n. min (c.self.inside.steps + n) count_end) c.steps.ensures in
      over_turn p x y c.self.inside c.args.self.now c.self.view_is none c.step.new.self c.in-Over.halt c.ending.result c.saturating_add-self-inside-in-Over.result _ did.0 did.1 c.step.ensures.kept.text steps small c.ending.ensures,
)

pub returns-then-is_err-clause-run : goal.returns-then-is_err-clause-run
returns-then-is_err-clause-run g c = (
  [],
  gives_nothing _,
  λ x may p y r none.
      let runs : IsProcessorOf p c.self.inside.processor = processor_runs p c.self.inside c.args.self.now c.self.view_is c.self.invariant r in
      let did = c.in-Puts.ensures.step p x y runs in
      let untaken = c.put.ensures.taken ∙ ap (λ b. cond b (option_map (λ (bytes : List ℕ). bytes ++ c.in-Puts.byte ∷ []) (g.O.Sink.taken c.args.out.now)) (g.O.Sink.taken c.args.out.now)) c.if-is_err.ensures.negation in
      write_fault p x y c.self.inside c.args.self.now c.self.view_is none c.step.new.self _ _ did.3 did.2 c.step.ensures.kept.text refl untaken,
)

pub returns-else-is_err-clause-run : goal.returns-else-is_err-clause-run
returns-else-is_err-clause-run g c = (
  [],
  gives_nothing _,
  λ x may p y r none.
      let z : List ℕ = y ++ c.in-Puts.byte ∷ [] in
      let runs : IsProcessorOf p c.self.inside.processor = processor_runs p c.self.inside c.args.self.now c.self.view_is c.self.invariant r in
      let did = c.in-Puts.ensures.step p x y runs in
      let same = c.in-Puts.ensures.step p x z runs in
      let took = c.put.ensures.taken ∙ ap (λ b. cond b (option_map (λ (bytes : List ℕ). bytes ++ c.in-Puts.byte ∷ []) (g.O.Sink.taken c.args.out.now)) (g.O.Sink.taken c.args.out.now)) c.if-is_err.ensures.negation in
      puts_turn p x y c.self.inside c.args.self.now c.self.view_is none c.step.new.self c.advance.new.self c.in-Puts.byte _ _ _ _ did.0 did.1 same.3 (c.advance.ensures.step x z) (c.advance.ensures.kept.text ∙ c.step.ensures.kept.text) c.saturating_add-self-inside-in-Puts.ensures c.saturating_add-self-inside-in-Puts-2.ensures refl took,
)

pub returns-in-Ok-clause-run : goal.returns-in-Ok-clause-run
returns-in-Ok-clause-run g c = (
  given c.in-Ok.byte,
  c.in-Ok.ensures.gives,
  λ rest may p y r none.
      let x : List ℕ = given c.in-Ok.byte ++ rest in
      let runs : IsProcessorOf p c.self.inside.processor = processor_runs p c.self.inside c.args.self.now c.self.view_is c.self.invariant r in
      let did = c.in-Takes.ensures.step p x y runs in
      let first = given_first c.in-Ok.byte _ _ rest c.in-Ok.ensures.left may in
      takes_turn p x y c.self.inside c.args.self.now c.self.view_is none c.step.new.self c.resume_with.new.self rest _ _ _ did.0 did.1 did.2 (c.resume_with.ensures.step x y first.0) (c.resume_with.ensures.kept.text ∙ c.step.ensures.kept.text) c.saturating_add-self-inside-in-Takes.ensures first.1 c.in-Ok.ensures.made c.in-Ok.ensures.taken,
)

pub returns-in_default-clause-run : goal.returns-in_default-clause-run
returns-in_default-clause-run g c = (
  [],
  c.in_default.ensures.gives,
  λ x may p y r none.
      let runs : IsProcessorOf p c.self.inside.processor = processor_runs p c.self.inside c.args.self.now c.self.view_is c.self.invariant r in
      let did = c.in-Takes.ensures.step p x y runs in
      input_fault p x y c.self.inside c.args.self.now c.self.view_is none c.step.new.self _ _ did.2 did.1 c.step.ensures.kept.text c.in_default.ensures.made c.in_default.ensures.taken,
)

pub returns-in-Over-clause-early : goal.returns-in-Over-clause-early
returns-in-Over-clause-early g c = ap stops_early c.ending.ensures ∙ ended_early (halt_is c.in-Over.halt)
