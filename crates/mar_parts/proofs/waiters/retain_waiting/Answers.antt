use Rattle.std.proofs.Common.{length, rules, ◌≡◌}
use Rattle.std.proofs.lemmas.Map.Keys.{IsDistinct-from_sorted}
use Rattle.std.specs.Cmp.{eq_by_cmp_equiv}
use Rattle.std.specs.Prelude.{nat_lt}
use Rattle.mar_parts.specs.WaitViews.{wait_of}
use Rattle.mar_parts.specs.Waits.{open_of, still_open}
use Rattle.mar_parts.proofs.Retained.{kept_under}
use Rattle.mar_parts.proofs.Waiting.{still_said}
use Rattle.mar_parts.proofs.waiters.retain_waiting.Goals as goal

pub returns : goal.returns
returns g c =
    λ name key. kept_under _ (wait_of name) (still_open c.args.closed.now) _ (λ k v b w f' t.
    let tickets : (wait_of name w).tickets ≡ open_of c.args.closed.now (wait_of name v).tickets = search rules in
    let told : (wait_of name w).promise ≡ (wait_of name v).promise = search rules in
    let left : b ≡ nat_lt 0 (length (open_of c.args.closed.now (wait_of name v).tickets)) = search rules in
    (still_said c.args.closed.now (wait_of name v) (wait_of name w) b tickets told left, search rules))
    g.K.Ord.cmp (eq_by_cmp_equiv g.met.K.Ord.total) key _ _ (IsDistinct-from_sorted _ _ c.retain.ensures.was_ordered) c.retain.ensures.filtered
