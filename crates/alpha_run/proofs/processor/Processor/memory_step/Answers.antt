-- Each load, store and address is its case of the step.
use Rattle.std.proofs.Common.{◌∙◌}
use Rattle.alpha_isa.specs.State.{State}
use Rattle.alpha_run.specs.model.ProcessorState.{processor_state}
use Rattle.alpha_run.proofs.Steps.{memory_of, address_is, high_is, lda_given, ldah_given, ldbu_given, ldwu_given, ldl_given, ldq_given, advanced_stored, stb_stored, stw_stored, stl_stored, stq_stored}
use Rattle.alpha_run.proofs.processor.Processor.memory_step.Goals as goal

pub returns-in-Lda-clause-step : goal.returns-in-Lda-clause-step
returns-in-Lda-clause-step c p x y r =
    let s : State = processor_state c.args.self.now x y in
    c.load.ensures.step x y ∙ lda_given p c.args.op c.args.ra c.args.rb c.args.disp s c.address-address.result c.in-Lda.is (address_is s c.args.rb c.args.disp c.bytes_on.result c.address-address.result c.ranges.disp (c.address-address.ensures x y) c.bytes_on.ensures)

pub returns-in-Ldah-clause-step : goal.returns-in-Ldah-clause-step
returns-in-Ldah-clause-step c p x y r =
    let s : State = processor_state c.args.self.now x y in
    c.load-in-Ldah.ensures.step x y ∙ ldah_given p c.args.op c.args.ra c.args.rb c.args.disp s c.address-high.result c.in-Ldah.is (high_is s c.args.rb c.args.disp c.blocks_on.result c.address-high.result c.ranges.disp (c.address-high.ensures x y) c.blocks_on.ensures)

pub returns-in-Ldbu-clause-step : goal.returns-in-Ldbu-clause-step
returns-in-Ldbu-clause-step c p x y r =
    let s : State = processor_state c.args.self.now x y in
    c.load-in-Ldbu.ensures.step x y ∙ ldbu_given p c.args.op c.args.ra c.args.rb c.args.disp s c.address-address.result c.read_byte-word.result c.in-Ldbu.is (address_is s c.args.rb c.args.disp c.bytes_on.result c.address-address.result c.ranges.disp (c.address-address.ensures x y) c.bytes_on.ensures) (c.read_byte-word.ensures p s (memory_of p c.args.self.now x y r))

pub returns-in-Ldwu-clause-step : goal.returns-in-Ldwu-clause-step
returns-in-Ldwu-clause-step c p x y r =
    let s : State = processor_state c.args.self.now x y in
    c.load-in-Ldwu.ensures.step x y ∙ ldwu_given p c.args.op c.args.ra c.args.rb c.args.disp s c.address-address.result c.read_short-word.result c.in-Ldwu.is (address_is s c.args.rb c.args.disp c.bytes_on.result c.address-address.result c.ranges.disp (c.address-address.ensures x y) c.bytes_on.ensures) (c.read_short-word.ensures p s (memory_of p c.args.self.now x y r))

pub returns-in-Ldl-clause-step : goal.returns-in-Ldl-clause-step
returns-in-Ldl-clause-step c p x y r =
    let s : State = processor_state c.args.self.now x y in
    c.load-in-Ldl.ensures.step x y ∙ ldl_given p c.args.op c.args.ra c.args.rb c.args.disp s c.address-address.result c.read_long-word.result c.in-Ldl.is (address_is s c.args.rb c.args.disp c.bytes_on.result c.address-address.result c.ranges.disp (c.address-address.ensures x y) c.bytes_on.ensures) (c.read_long-word.ensures p s (memory_of p c.args.self.now x y r))

pub returns-in-Ldq-clause-step : goal.returns-in-Ldq-clause-step
returns-in-Ldq-clause-step c p x y r =
    let s : State = processor_state c.args.self.now x y in
    c.load-in-Ldq.ensures.step x y ∙ ldq_given p c.args.op c.args.ra c.args.rb c.args.disp s c.address-address.result c.read_quad-word.result c.in-Ldq.is (address_is s c.args.rb c.args.disp c.bytes_on.result c.address-address.result c.ranges.disp (c.address-address.ensures x y) c.bytes_on.ensures) (c.read_quad-word.ensures p s (memory_of p c.args.self.now x y r))

pub returns-in-Stb-clause-step : goal.returns-in-Stb-clause-step
returns-in-Stb-clause-step c p x y r =
    let s : State = processor_state c.args.self.now x y in
    c.finish_store.ensures.step x y ∙ advanced_stored c.write_byte-done.result c.args.self.now c.write_byte-done.new.self x y c.write_byte-done.ensures.unchanged ∙ stb_stored p c.args.op c.args.ra c.args.rb c.args.disp s c.address-address.result c.get.result _ c.in-Stb.is (address_is s c.args.rb c.args.disp c.bytes_on.result c.address-address.result c.ranges.disp (c.address-address.ensures x y) c.bytes_on.ensures) c.get.ensures (c.write_byte-done.ensures.bytes p s (memory_of p c.args.self.now x y r))

pub returns-in-Stw-clause-step : goal.returns-in-Stw-clause-step
returns-in-Stw-clause-step c p x y r =
    let s : State = processor_state c.args.self.now x y in
    c.finish_store-in-Stw.ensures.step x y ∙ advanced_stored c.write_short-done.result c.args.self.now c.write_short-done.new.self x y c.write_short-done.ensures.unchanged ∙ stw_stored p c.args.op c.args.ra c.args.rb c.args.disp s c.address-address.result c.get-in-Stw.result _ c.in-Stw.is (address_is s c.args.rb c.args.disp c.bytes_on.result c.address-address.result c.ranges.disp (c.address-address.ensures x y) c.bytes_on.ensures) c.get-in-Stw.ensures (c.write_short-done.ensures.bytes p s (memory_of p c.args.self.now x y r))

pub returns-in-Stl-clause-step : goal.returns-in-Stl-clause-step
returns-in-Stl-clause-step c p x y r =
    let s : State = processor_state c.args.self.now x y in
    c.finish_store-in-Stl.ensures.step x y ∙ advanced_stored c.write_long-done.result c.args.self.now c.write_long-done.new.self x y c.write_long-done.ensures.unchanged ∙ stl_stored p c.args.op c.args.ra c.args.rb c.args.disp s c.address-address.result c.get-in-Stl.result _ c.in-Stl.is (address_is s c.args.rb c.args.disp c.bytes_on.result c.address-address.result c.ranges.disp (c.address-address.ensures x y) c.bytes_on.ensures) c.get-in-Stl.ensures (c.write_long-done.ensures.bytes p s (memory_of p c.args.self.now x y r))

pub returns-in-Stq-clause-step : goal.returns-in-Stq-clause-step
returns-in-Stq-clause-step c p x y r =
    let s : State = processor_state c.args.self.now x y in
    c.finish_store-in-Stq.ensures.step x y ∙ advanced_stored c.write_quad-done.result c.args.self.now c.write_quad-done.new.self x y c.write_quad-done.ensures.unchanged ∙ stq_stored p c.args.op c.args.ra c.args.rb c.args.disp s c.address-address.result c.get-in-Stq.result _ c.in-Stq.is (address_is s c.args.rb c.args.disp c.bytes_on.result c.address-address.result c.ranges.disp (c.address-address.ensures x y) c.bytes_on.ensures) c.get-in-Stq.ensures (c.write_quad-done.ensures.bytes p s (memory_of p c.args.self.now x y r))
