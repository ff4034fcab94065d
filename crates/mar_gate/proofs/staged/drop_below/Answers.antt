use Rattle.std.proofs.Common.{rules, sym, ◌≤◌, ◌∙◌}
use Rattle.std.proofs.lemmas.Bool.{false≢true}
use Rattle.mar_gate.proofs.ByHeight.{kept_from_first, none_kept}
use Rattle.mar_gate.proofs.staged.drop_below.Goals.{in-Some, in-None}
use Rattle.mar_gate.proofs.staged.drop_below.Goals as goal

pub returns-then-not-is_below-clause-kept : goal.returns-then-not-is_below-clause-kept
returns-then-not-is_below-clause-kept g c = elim c.match-first_key_value.branch [
  | in-Some w ↦ let low : c.args.lowest ≤ w.in-Some.height.now = search rules in sym (kept_from_first _ _ _ low w.in-Some.ensures.all_from) ∙ c.loop.invariant.0
  | in-None w ↦ sym (none_kept _ _ (λ some. false≢true (w.in-None.ensures.variant.1 some))) ∙ c.loop.invariant.0
]
