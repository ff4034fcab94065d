use Rattle.std.proofs.Common.{refl}
use Rattle.mar_script.proofs.Rows.{parsed, parsed_lone}
use Rattle.mar_script.proofs.line.parse_line.Goals as goal

pub returns-in-Some-clause-found : goal.returns-in-Some-clause-found
returns-in-Some-clause-found c = rw (← c.settings.view_is) (parsed _ _ _ _ _ c.in-Some.ensures.found c.parse_kind.ensures).found

pub returns-in-Some-clause-only : goal.returns-in-Some-clause-only
returns-in-Some-clause-only c = rw (← c.settings.view_is) (parsed _ _ _ _ _ c.in-Some.ensures.found c.parse_kind.ensures).only

pub returns-in-None-clause-found : goal.returns-in-None-clause-found
returns-in-None-clause-found c = (parsed_lone c.args.settings.members c.args.line.now _ (c.in-None.ensures.none refl) c.lone_line.ensures).found

pub returns-in-None-clause-only : goal.returns-in-None-clause-only
returns-in-None-clause-only c = (parsed_lone c.args.settings.members c.args.line.now _ (c.in-None.ensures.none refl) c.lone_line.ensures).only
