use Rattle.std.proofs.Common.{sym, ap, refl, subst, [], ◌∷◌, append-nil}
use Rattle.binpack_blocks.specs.model.Scanning.{state_of, local_site}
use Rattle.binpack_blocks.specs.model.Steps.{Writes}
use Rattle.binpack_blocks.specs.model.Steps.Empties.{Begin}
use Rattle.binpack_blocks.specs.model.Steps.Writes.{Nothing}
use Rattle.binpack_blocks.proofs.Bringing.{written_is_named, none_written, one_written, writer_takes_nothing}
use Rattle.binpack_blocks.proofs.bins.Scan.act.Goals as goal

pub give-requires-clause-open : goal.give-requires-clause-open
give-requires-clause-open c = c.requires.open c.in-Some.temp (written_is_named c.args.insn.now c.in-Some.temp c.in-Some.ensures)

pub returns-in-None-clause-acts : goal.returns-in-None-clause-acts
returns-in-None-clause-acts c =
    let s = local_site c.args.self.now.temps c.args.lives.now c.args.number c.args.insn.now c.args.standing.now in
    record {
      ready = state_of c.args.self.now;
      left = state_of c.empty_all.new.self;
      written = [];
      steps = λ u p. p;
      same = λ q m. refl;
      is_made = ap (λ v. v.items) c.empty_all.ensures.made;
      are = sym (append-nil c.args.registers.now.items);
      ends = c.empty_all.ensures.ends s refl refl;
      writes = subst (λ ws. Writes s (state_of c.empty_all.new.self) (state_of c.empty_all.new.self) ws []) (sym (none_written c.args.insn.now c.in-None.ensures)) (Nothing refl refl);
    }

pub returns-in_ok-push-in-Some-clause-acts : goal.returns-in_ok-push-in-Some-clause-acts
returns-in_ok-push-in-Some-clause-acts c =
    let s = local_site c.args.self.now.temps c.args.lives.now c.args.number c.args.insn.now c.args.standing.now in
    let gives = c.in_ok-r-in-Some.ensures.gives in
    record {
      ready = gives.ready;
      left = gives.ready;
      written = c.in_ok-r-in-Some.r ∷ [];
      steps = gives.steps;
      same = gives.same;
      is_made = gives.is_made;
      are = c.in_ok-push-in-Some.ensures.items;
      ends = record { empties = Begin; clear = λ q takes. writer_takes_nothing c.args.insn.now c.in-Some.temp q c.in-Some.ensures takes };
      writes = subst (λ ws. Writes s gives.ready (state_of c.give.new.self) ws (c.in_ok-r-in-Some.r ∷ [])) (sym (one_written c.args.insn.now c.in-Some.temp c.in-Some.ensures)) gives.writes;
    }
