use Rattle.std.proofs.Common.{ap, arith, sym, ◌∙◌}
use Rattle.mar_cert.specs.Finalization.{finalization_bytes}
use Rattle.mar_cert.specs.Grammar.{SpellsMockFinalization, same_finalization, spelled_finalization}
use Rattle.mar_script.specs.Script.{hex}
use Rattle.mar_script.proofs.ReadBytes.{finalization_is_bytes, finalization_some_bytes, refused}
use Rattle.mar_script.proofs.Spelled.{withheld}
use Rattle.mar_script.proofs.certificate_line.finalization_of.Goals as goal

pub returns-in-Err-clause-only : goal.returns-in-Err-clause-only
returns-in-Err-clause-only c = λ f is same. c.in-Err.ensures.only (finalization_bytes f) (finalization_is_bytes c.args.members f (omega arith) is) (finalization_some_bytes c.args.members f is) same

pub returns-in-Ok-decode_cfg-clause-found : goal.returns-in-Ok-decode_cfg-clause-found
returns-in-Ok-decode_cfg-clause-found c = c.in-Ok.ensures.found ∙ ap hex (sym c.as_slice.ensures.value ∙ sym c.in-Ok-decode_cfg.ensures.whole)

pub returns-in-Ok-decode_cfg-clause-only : goal.returns-in-Ok-decode_cfg-clause-only
returns-in-Ok-decode_cfg-clause-only c = λ f is same.
    same_finalization c.args.members c.args.members _ f c.is_finalization.ensures is
    (c.in-Ok-decode_cfg.ensures.whole ∙ c.as_slice.ensures.value ∙ c.in-Ok.ensures.only (finalization_bytes f) (finalization_is_bytes c.args.members f (omega arith) is) (finalization_some_bytes c.args.members f is) same)

pub returns-clause-only : goal.returns-clause-only
returns-clause-only c = λ f is same.
    withheld _ (λ grammar. refused (SpellsMockFinalization c.args.members) _ (finalization_bytes f) _ (c.refusal.ensures.grammar grammar) c.in-Err-decode_cfg.ensures.err
    (c.as_slice.ensures.value ∙ c.in-Ok.ensures.only (finalization_bytes f) (finalization_is_bytes c.args.members f (omega arith) is) (finalization_some_bytes c.args.members f is) same) (spelled_finalization c.args.members f is))
