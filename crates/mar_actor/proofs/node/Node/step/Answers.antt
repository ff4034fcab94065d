use Rattle.std.proofs.Common.{Err, IsTrue, Ok, ap, arith, false, refl, subst, sym, ℕ, ◌+◌, ◌≤◌, ◌≡◌, ◌∙◌}
use Rattle.mar_inbox.specs.Answers.{told}
use Rattle.mar_inbox.specs.Views.{sent_by, value_of}
use Rattle.mar_model.specs.Acts.{AreLawful}
use Rattle.mar_model.specs.Event.{is_query, sync_finished}
use Rattle.mar_model.specs.Held.{Ending, remains_of}
use Rattle.mar_model.specs.OpenSyncs.{is_cache_sync}
use Rattle.mar_model.specs.Plans.{RunsPlan}
use Rattle.mar_model.specs.Promise.{heard_with}
use Rattle.mar_model.specs.Queries.{Learns, commitments_found}
use Rattle.mar_model.specs.Scene.{Standing, in_epochs, scene, window_of}
use Rattle.mar_model.specs.Views.{fault_of}
use Rattle.mar_model.specs.Writing.{is_open_sync}
use Rattle.mar_model.proofs.Answering.{step_answered, step_loaded}
use Rattle.mar_model.proofs.Planned.{ran_into, ran_on}
use Rattle.mar_model.proofs.Stepping.{step_lives}
use Rattle.mar_actor.specs.Known.{seen_knowing}
use Rattle.mar_actor.specs.Views.{event_of}
use Rattle.mar_actor.proofs.Noted.{learns, never_above}
use Rattle.mar_actor.proofs.Stepped.{no_ok, same_result, same_seen, scene_in, standing_in, stepped}
use Rattle.mar_actor.proofs.Taken.{taken}
use Rattle.mar_actor.proofs.node.Node.step.Goals as goal

pub invariant_of-result : goal.invariant_of-result
invariant_of-result g c =
    let bytes = g.V.Commitment.Named.bytes in
    let inner = g.V.Variant.inner in
    let event = event_of g.V.Digest.Named.bytes g.V.Variant.plain g.S.Notarization.AsFinalization.plain g.S.Finalization.AsFinalization.plain c.args.event in
    let buffer = g.B.Finds.blocks c.args.buffer.now in
    let epochs = g.E.Epocher.epochs c.self.inside.life.epocher in
    let old = seen_knowing bytes (g.S.HoldsCache.held c.self.inside.stores.value) c.self.inside.life c.self.inside.certified in
    let held = g.S.HoldsCache.held c.take.new.stores in
    let new = seen_knowing bytes held c.take.new.life c.take.new.certified in
    let before = heard_with (g.A.Reporter.told c.args.application.now) (g.R.Resolver.told c.args.resolver.now) (sent_by (g.B.Buffer.sent c.args.buffer.now)) (told (value_of g.V.Digest.Named.bytes g.V.Variant.plain g.S.Finalization.AsFinalization.plain) c.args.answers.now) in
    let after = heard_with (g.A.Reporter.told c.take.new.application) (g.R.Resolver.told c.take.new.resolver) (sent_by (g.B.Buffer.sent c.take.new.buffer)) (told (value_of g.V.Digest.Named.bytes g.V.Variant.plain g.S.Finalization.AsFinalization.plain) c.take.new.answers) in
    let runs = rw c.deref_mut.ensures.value at c.in-Ok.ensures.runs in
    let law : AreLawful (g.S.HoldsCache.held c.self.inside.stores.value) = subst (λ n. AreLawful n.held) (sym c.self.view_is) c.law.ensures.lawful in
    let plan = ran_on inner (fault_of bytes) buffer event (scene_in epochs old before) held after c.take.new.life new.certified tt (runs (standing_in epochs old)) in
    let lives = step_lives c.self.inside.life inner buffer event (scene_in epochs old before) law after (Ok new) plan c.in-Ok.ensures.given in
    let forgets = rw (c.tip-tip.ensures, c.tip.ensures) at c.forget.ensures in
    (lives.intact ∙ c.self.invariant.0, forgets.min (c.in-Ok.ensures.min ∙ c.self.invariant.1) lives.rises)

pub returns-in-Ok : goal.returns-in-Ok
returns-in-Ok g c =
    let bytes = g.V.Commitment.Named.bytes in
    let inner = g.V.Variant.inner in
    let event = event_of g.V.Digest.Named.bytes g.V.Variant.plain g.S.Notarization.AsFinalization.plain g.S.Finalization.AsFinalization.plain c.args.event in
    let built = taken g.V.Digest.Named.bytes g.V.Variant.plain g.S.Notarization.AsFinalization.plain g.S.Finalization.AsFinalization.plain c.args.event in
    let buffer = g.B.Finds.blocks c.args.buffer.now in
    let epochs = g.E.Epocher.epochs c.args.self.life.epocher in
    let held = g.S.HoldsCache.held c.take.new.stores in
    let new = seen_knowing bytes held c.take.new.life c.forget.new.certified in
    let before = heard_with (g.A.Reporter.told c.args.application.now) (g.R.Resolver.told c.args.resolver.now) (sent_by (g.B.Buffer.sent c.args.buffer.now)) (told (value_of g.V.Digest.Named.bytes g.V.Variant.plain g.S.Finalization.AsFinalization.plain) c.args.answers.now) in
    let after = heard_with (g.A.Reporter.told c.take.new.application) (g.R.Resolver.told c.take.new.resolver) (sent_by (g.B.Buffer.sent c.take.new.buffer)) (told (value_of g.V.Digest.Named.bytes g.V.Variant.plain g.S.Finalization.AsFinalization.plain) c.take.new.answers) in
    let runs = rw c.deref_mut.ensures.value at c.in-Ok.ensures.runs in
    let notes = rw c.deref_mut.ensures.value at c.in-Ok.ensures.notes in
    let idle = rw c.deref_mut.ensures.value at c.in-Ok.ensures.idle in
    let plan = subst (λ n. (standing : Standing) → RunsPlan inner buffer event (scene n.held (window_of n.life) (in_epochs (g.E.Epocher.epochs n.life.epocher) standing) before) after (Ok new)) c.self.view_is (λ standing. ran_on inner (fault_of bytes) buffer event _ held after c.take.new.life new.certified tt (runs standing)) in
    let given = subst (λ n. (c.take.new.life.provider ≡ n.life.provider) × (c.take.new.life.epocher ≡ n.life.epocher)) c.self.view_is c.in-Ok.ensures.given in
    let e = stepped epochs inner (g.met.E.Epocher.partition c.args.self.life.epocher) buffer c.args.self before after c.law.ensures.lawful event built (Ok new) (plan (standing_in epochs c.args.self)) given in
    let rises : c.self.inside.life.tip ≤ c.take.new.life.tip = subst (λ n. n.life.tip ≤ c.take.new.life.tip) (sym c.self.view_is) e.lives.rises in
    let least : c.self.inside.certified.min ≤ c.self.inside.life.tip + 1 = rw c.self.invariant.1 (omega arith) in
    let forgets = rw (c.tip-tip.ensures, c.tip.ensures) at c.forget.ensures in
    record {
      ran = plan;
      promise = e.promise;
      answered = λ keeps. step_answered c.args.self.life inner buffer (scene_in epochs c.args.self before) c.law.ensures.lawful after new event (plan (standing_in epochs c.args.self)) keeps;
      sends = c.in-Ok.ensures.sends;
      unsent = tt;
      blocks = c.in-Ok.ensures.blocks;
      notifies = c.in-Ok.ensures.notifies;
      buffer = c.in-Ok.ensures.buffer;
      unanswered = tt;
      watches = e.lives.passed;
      cause = tt;
      idle = λ t is closed other. same_result new c.args.self (subst (λ n. (t : ℕ) → event ≡ sync_finished t → is_open_sync n.held.writes.syncs t ≡ false → is_cache_sync n.held.cache.syncs t ≡ false → new ≡ n) c.self.view_is (λ t is closed other. let same = idle t is closed other in same_seen bytes held (g.S.HoldsCache.held c.self.inside.stores.value) c.take.new.life c.self.inside.life c.forget.new.certified c.self.inside.certified same.1 same.2 (forgets.same (never_above _ _ (ap (λ l. l.tip) same.2)) ∙ same.3)) t is closed other);
      by_value = e.by_value;
      tells = e.tells;
      tickets = e.lives.tickets;
      sync_tickets = e.lives.sync_tickets;
      runs_out = tt;
      same_life = (e.lives.provider, e.lives.epocher, e.lives.sizes);
      loaded = step_loaded c.args.self.life inner buffer (scene_in epochs c.args.self before) c.law.ensures.lawful after new event (plan (standing_in epochs c.args.self));
      rises = e.lives.rises;
      certified = subst (λ n. Learns n.certified (commitments_found inner n.held buffer event) new.life.tip new.certified) c.self.view_is (learns bytes c.self.inside.life.tip c.take.new.life.tip _ c.self.inside.certified c.take.new.certified c.forget.new.certified rises (notes c.take.new.life.tip (omega (arith, rises, least))) forgets.known);
      unlearned = subst (λ n. IsTrue (is_query event) → new.certified ≡ n.certified) c.self.view_is (λ query. let same = c.in-Ok.ensures.unlearned query in rw (same.1, forgets.same (never_above _ _ (ap (λ l. l.tip) same.1)) ∙ same.0) refl);
    }

pub returns-in-Err : goal.returns-in-Err
returns-in-Err g c =
    let bytes = g.V.Commitment.Named.bytes in
    let inner = g.V.Variant.inner in
    let event = event_of g.V.Digest.Named.bytes g.V.Variant.plain g.S.Notarization.AsFinalization.plain g.S.Finalization.AsFinalization.plain c.args.event in
    let built = taken g.V.Digest.Named.bytes g.V.Variant.plain g.S.Notarization.AsFinalization.plain g.S.Finalization.AsFinalization.plain c.args.event in
    let buffer = g.B.Finds.blocks c.args.buffer.now in
    let epochs = g.E.Epocher.epochs c.args.self.life.epocher in
    let held = g.S.HoldsCache.held c.take.new.stores in
    let ending : Ending = record { fault = fault_of bytes c.in-Err.fault; remains = g.S.Ruins.StoresRuin.left c.wreck-ruins.result } in
    let before = heard_with (g.A.Reporter.told c.args.application.now) (g.R.Resolver.told c.args.resolver.now) (sent_by (g.B.Buffer.sent c.args.buffer.now)) (told (value_of g.V.Digest.Named.bytes g.V.Variant.plain g.S.Finalization.AsFinalization.plain) c.args.answers.now) in
    let after = heard_with (g.A.Reporter.told c.take.new.application) (g.R.Resolver.told c.take.new.resolver) (sent_by (g.B.Buffer.sent c.take.new.buffer)) (told (value_of g.V.Digest.Named.bytes g.V.Variant.plain g.S.Finalization.AsFinalization.plain) c.take.new.answers) in
    let left : g.S.Ruins.StoresRuin.left c.wreck-ruins.result ≡ remains_of held = c.wreck-ruins.ensures ∙ ap (λ s. remains_of (g.S.HoldsCache.held s)) c.into_inner.ensures in
    let runs = rw c.deref_mut.ensures.value at c.in-Err.ensures.runs in
    let idle = rw c.deref_mut.ensures.value at c.in-Err.ensures.idle in
    let start = λ (standing : Standing). scene (g.S.HoldsCache.held c.self.inside.stores.value) (window_of c.self.inside.life) (in_epochs (g.E.Epocher.epochs c.self.inside.life.epocher) standing) before in
    let ended = λ (standing : Standing). subst (λ r. RunsPlan {P = g.row.P.Denot} {E = g.row.E.Denot} inner buffer event (start standing) after (Err (record { fault = fault_of bytes c.in-Err.fault; remains = r }))) (sym left) (ran_into inner (fault_of bytes) buffer event (start standing) held after (window_of c.take.new.life) (in_epochs (g.E.Epocher.epochs c.self.inside.life.epocher) standing) c.in-Err.fault (runs standing)) in
    let plan = subst (λ n. (standing : Standing) → RunsPlan inner buffer event (scene n.held (window_of n.life) (in_epochs (g.E.Epocher.epochs n.life.epocher) standing) before) after (Err ending)) c.self.view_is ended in
    let e = stepped epochs inner (g.met.E.Epocher.partition c.args.self.life.epocher) buffer c.args.self before after c.law.ensures.lawful event built (Err ending) (plan (standing_in epochs c.args.self)) tt in
    record {
      ran = plan;
      promise = e.promise;
      answered = λ keeps. tt;
      sends = tt;
      unsent = c.in-Err.ensures.unsent;
      blocks = c.in-Err.ensures.blocks;
      notifies = c.in-Err.ensures.notifies;
      buffer = c.in-Err.ensures.buffer;
      unanswered = c.in-Err.ensures.unanswered;
      watches = tt;
      cause = e.lives.cause;
      idle = λ t is closed other. absurd (subst (λ n. is_open_sync n.held.writes.syncs t ≡ false → is_cache_sync n.held.cache.syncs t ≡ false → ⊥) c.self.view_is (λ closed other. no_ok c.in-Err.fault tt (idle t is closed other).0) closed other);
      by_value = e.by_value;
      tells = e.tells;
      tickets = tt;
      sync_tickets = tt;
      runs_out = e.lives.tickets;
      same_life = tt;
      loaded = tt;
      rises = tt;
      certified = tt;
      unlearned = λ query. tt;
    }
