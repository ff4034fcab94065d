use Rattle.std.proofs.Common.{IfSome, List, None, Option, Some, ap, refl, subst, sym, ℕ, ◌∙◌, ◌≡◌}
use Rattle.mar_replay.specs.Commands.{IsAsked}
use Rattle.mar_replay.specs.Gen.{Generates}
use Rattle.mar_replay.specs.declared.command.Command.{Command}
use Rattle.mar_replay.specs.declared.command.Command.TheVariants as command
use Rattle.mar_replay.proofs.runs.run.Goals as goal

same_seed : (a b c d : ℕ) → ◌≡◌ {A = Option Command} (Some (command.Generate a b)) (Some (command.Generate c d)) → a ≡ c
same_seed a b c d is = cc

same_last : (a b c d : ℕ) → ◌≡◌ {A = Option Command} (Some (command.Generate a b)) (Some (command.Generate c d)) → b ≡ d
same_last a b c d is = cc

not_none : (asked : Command) → ◌≡◌ {A = Option Command} None (Some asked) → ⊥
not_none asked is = cc

not_replay : (a b : ℕ) → ◌≡◌ {A = Option Command} (Some command.Replay) (Some (command.Generate a b)) → ⊥
not_replay a b is = cc

-- the words ask for what was parsed
asked_as : (words : List (List ℕ)) (parsed : Option Command) (v asked : Command) → IfSome parsed (IsAsked words) → parsed ≡ Some v → v ≡ asked → IsAsked words asked
asked_as words parsed v asked found is same = subst (IsAsked words) same (subst (λ o. IfSome o (IsAsked words)) is found)

-- and for nothing else
no_gen : (parsed : Option Command) (v : Command) (a b : ℕ) → parsed ≡ Some v → v ≡ command.Replay → parsed ≡ Some (command.Generate a b) → ⊥
no_gen parsed v a b is same made = not_replay a b (ap (λ x. Some x) (sym same) ∙ sym is ∙ made)

pub returns-in-Some-Replay : goal.returns-in-Some-Replay
returns-in-Some-Replay g c =
    let did = c.replay.ensures in
    record {
      usage = λ unknown. absurd (unknown (command.Replay, asked_as _ _ _ command.Replay c.parse.ensures.found c.in-Some-Replay.is c.in-Some-Replay.field-0-is));
      not_usage = λ known. did.not_usage;
      untouched = λ usage. absurd (did.not_usage usage);
      to_end = λ asks. did.to_end;
      read_fault = did.read_fault;
      write_fault = did.write_fault;
      reads = λ asks. did.reads;
      script = did.script;
      source_calm = did.source_calm;
      sink_calm = did.sink_calm;
      outside = λ asks. did.outside;
      headline = λ asks. did.headline;
      generates = λ seed n asks. absurd (no_gen _ _ seed n c.in-Some-Replay.is c.in-Some-Replay.field-0-is (c.parse.ensures.only (command.Generate seed n) asks));
      unread = λ seed n asks. absurd (no_gen _ _ seed n c.in-Some-Replay.is c.in-Some-Replay.field-0-is (c.parse.ensures.only (command.Generate seed n) asks));
    }

pub returns-in-Some-Generate-clause-generates : goal.returns-in-Some-Generate-clause-generates
returns-in-Some-Generate-clause-generates g c = λ seed n asks.
    let made : ℕ = c.in-Some-Generate.seed in
    let last : ℕ = c.in-Some-Generate.last in
    let is : ◌≡◌ {A = Option Command} (Some (command.Generate made last)) (Some (command.Generate seed n)) = ap (λ x. Some x) (sym c.in-Some-Generate.field-0-is) ∙ sym c.in-Some-Generate.is ∙ c.parse.ensures.only (command.Generate seed n) asks in
    subst (λ k. Generates k n (g.K.Sink.written c.args.sink.now) (g.K.Sink.written c.generate.new.sink) c.generate.result.status c.args.stores c.generate.result.stores) (same_seed made last seed n is)
    (subst (λ k. Generates made k (g.K.Sink.written c.args.sink.now) (g.K.Sink.written c.generate.new.sink) c.generate.result.status c.args.stores c.generate.result.stores) (same_last made last seed n is) c.generate.ensures.generates)

pub returns-in-None : goal.returns-in-None
returns-in-None g c = record {
  usage = λ unknown. refl;
  not_usage = λ known usage. not_none known.0 (sym c.in-None.is ∙ c.parse.ensures.only known.0 known.1);
  untouched = λ usage. (refl, refl, refl, refl, refl);
  to_end = λ asks is. absurd cc;
  read_fault = λ is. absurd cc;
  write_fault = λ is. absurd cc;
  reads = λ asks. tt;
  script = λ all n why told is. absurd cc;
  source_calm = λ is. refl;
  sink_calm = λ is. refl;
  outside = λ asks all n why told first. absurd (not_none command.Replay (sym c.in-None.is ∙ c.parse.ensures.only command.Replay asks));
  headline = λ asks. absurd (not_none command.Replay (sym c.in-None.is ∙ c.parse.ensures.only command.Replay asks));
  generates = λ seed n asks. absurd (not_none (command.Generate seed n) (sym c.in-None.is ∙ c.parse.ensures.only (command.Generate seed n) asks));
  unread = λ seed n asks. (refl, refl);
}
