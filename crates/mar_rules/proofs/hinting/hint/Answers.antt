use Rattle.std.proofs.Common.{◌∙◌, sym}
use Rattle.mar_rules.proofs.Hinted.{hint-held, hint-missing, hint-unread}
use Rattle.mar_rules.proofs.hinting.hint.Goals as goal

pub returns-in-Ok-true : goal.returns-in-Ok-true
returns-in-Ok-true g c = record {
  runs = λ life standing told sends answers start whole rest reached. hint-held g.V.Variant.inner _ _ life standing told _ sends answers c.args.height c.args.targets.now start whole rest reached
      c.in-Ok-true.ensures.same c.in-Ok-true.ensures.goes_on (sym c.in-Ok-true.ensures.found ∙ c.in-Ok-true.field-0-test);
}

pub returns-in-Ok-false : goal.returns-in-Ok-false
returns-in-Ok-false g c = record {
  runs = λ life standing told sends answers start whole rest reached. c.ask_targets.ensures.runs life standing told sends answers start whole rest
      (hint-missing g.V.Variant.inner _ _ life standing told _ sends answers c.args.height c.args.targets.now start whole rest reached
      c.in-Ok-false.ensures.same c.in-Ok-false.ensures.goes_on (sym c.in-Ok-false.ensures.found ∙ c.in-Ok-false.field-0-test));
}

pub returns-in-Err : goal.returns-in-Err
returns-in-Err g c = record {
  runs = λ life standing told sends answers start whole rest reached. hint-unread g.V.Variant.inner _ (g.S.HoldsCache.held c.has_certificate.new.self) life standing told _ sends answers c.args.height c.args.targets.now start whole rest reached _
      c.in-Err.ensures.goes_on c.in-Err.ensures.read;
}
