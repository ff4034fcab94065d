use Rattle.std.proofs.Common.{not, rules, ◌∙◌}
use Rattle.std.proofs.lemmas.Fn.{filter_same}
use Rattle.mar_key.specs.Asked.{is_idle}
use Rattle.mar_key.specs.Recorded.{asked_of}
use Rattle.mar_key.proofs.OpenKeys.{keys_retained}
use Rattle.mar_key.proofs.open_requests.retain_keys.Goals as goal

pub returns : goal.returns
returns g c =
    let kept = filter_same _ (λ x. not (is_idle (asked_of g.D.Named.bytes x))) _ (λ x b f k. search rules) _ _ c.retain.ensures.filtered in
    keys_retained (asked_of g.D.Named.bytes) _ _ _ c.deny_all.new.keys _ _ _ c.deny_all.ensures c.as_mut_slice.ensures.value (c.deny_all.auto.keys ∙ c.as_mut_slice.ensures.len) kept
