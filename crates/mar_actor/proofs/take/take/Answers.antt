use Rattle.std.proofs.Common.{ap, refl, subst, sym, false, ℕ, ◌≡◌, ◌∷◌, [], OnOk, ◌+◌, ◌≤◌}
use Rattle.mar_inbox.specs.Answers.{told}
use Rattle.mar_inbox.specs.Views.{value_of}
use Rattle.mar_model.specs.Event.{sync_finished}
use Rattle.mar_model.specs.OpenSyncs.{is_cache_sync}
use Rattle.mar_model.specs.Scene.{remembered}
use Rattle.mar_model.specs.Views.{fault_of}
use Rattle.mar_model.specs.Writing.{is_open_sync}
use Rattle.mar_model.proofs.Doing.{Does-looked}
use Rattle.mar_model.proofs.Heard.{unanswered-err}
use Rattle.mar_model.proofs.Planned.{found_nothing}
use Rattle.mar_actor.specs.Known.{TakesNote}
use Rattle.mar_actor.proofs.Asking.{asked, event_is, firsts_are, none_learned, sendings_are}
use Rattle.mar_actor.proofs.Kept.{on_err}
use Rattle.mar_actor.proofs.Noted.{still_least, unnoted}
use Rattle.mar_actor.proofs.Sent.{front_none, unsent-err, unsent-ok}
use Rattle.mar_actor.proofs.take.take.Goals as goal

-- an event names one ticket
same_ticket : (t u : ℕ) → sync_finished t ≡ sync_finished u → t ≡ u
same_ticket t u is = cc

pub returns-in-Start : goal.returns-in-Start
returns-in-Start g c =
    rw c.in-Start.is (record {
      runs = rw (← c.life.view_is) (λ standing. found_nothing _ _ _ _ _ _ _ (c.start.ensures.runs _ _ _));
      given = rw (← c.life.view_is) (refl, refl);
      unanswered = unanswered-err _ c.start.result;
      sends = unsent-ok _ c.start.result;
      unsent = front_none _ _ c.start.result (unsent-err _ c.start.result);
      blocks = refl;
      notifies = refl;
      buffer = λ none. refl;
      idle = λ t is closed other. absurd cc;
      notes = unnoted g.V.Commitment.Named.bytes c.args.certified.now c.start.result;
      min = still_least c.args.certified.now.min c.start.result;
      unlearned = λ query. absurd cc;
    })

pub returns-in-Reported : goal.returns-in-Reported
returns-in-Reported g c =
    let told_is = event_is g.V.Digest.Named.bytes g.V.Variant.plain g.S.Notarization.AsFinalization.plain g.S.Finalization.AsFinalization.plain c.args.event _ _ _ c.in-Message.is (c.told_by.ensures.told g.V.Digest.Named.bytes g.V.Variant.plain g.S.Notarization.AsFinalization.plain g.S.Finalization.AsFinalization.plain) c.in-Reported.is in
    let sends_are = sendings_are g.V.Variant.plain c.args.event _ _ _ c.in-Message.is (c.told_by.ensures.sends g.V.Variant.plain) c.in-Reported.is in
    let firsts_are_so = firsts_are g.V.Variant.plain c.args.event _ _ _ c.in-Message.is (c.told_by.ensures.first g.V.Variant.plain) c.in-Reported.is in
    record {
      runs = rw (told_is, ← c.life.view_is) (λ standing. c.report_finalization.ensures.runs _ _ _);
      given = rw (← c.life.view_is) (refl, refl);
      unanswered = unanswered-err _ c.report_finalization.result;
      sends = rw sends_are (unsent-ok _ c.report_finalization.result);
      unsent = rw firsts_are_so (front_none _ _ c.report_finalization.result (unsent-err _ c.report_finalization.result));
      blocks = refl;
      notifies = refl;
      buffer = rw sends_are (λ none. refl);
      idle = rw told_is (λ t is closed other. absurd cc);
      notes = rw told_is (unnoted g.V.Commitment.Named.bytes c.args.certified.now c.report_finalization.result);
      min = still_least c.args.certified.now.min c.report_finalization.result;
      unlearned = rw told_is (λ query. absurd cc);
    }

pub returns-in-Notarization : goal.returns-in-Notarization
returns-in-Notarization g c =
    let told_is = event_is g.V.Digest.Named.bytes g.V.Variant.plain g.S.Notarization.AsFinalization.plain g.S.Finalization.AsFinalization.plain c.args.event _ _ _ c.in-Message.is (c.told_by.ensures.told g.V.Digest.Named.bytes g.V.Variant.plain g.S.Notarization.AsFinalization.plain g.S.Finalization.AsFinalization.plain) c.in-Notarization.is in
    let sends_are = sendings_are g.V.Variant.plain c.args.event _ _ _ c.in-Message.is (c.told_by.ensures.sends g.V.Variant.plain) c.in-Notarization.is in
    let firsts_are_so = firsts_are g.V.Variant.plain c.args.event _ _ _ c.in-Message.is (c.told_by.ensures.first g.V.Variant.plain) c.in-Notarization.is in
    record {
      runs = rw told_is (λ standing. c.notarize.ensures.runs _ _ _);
      given = rw (← c.life.view_is) (refl, refl);
      unanswered = unanswered-err _ c.notarize.result;
      sends = rw sends_are (unsent-ok _ c.notarize.result);
      unsent = rw firsts_are_so (front_none _ _ c.notarize.result (unsent-err _ c.notarize.result));
      blocks = refl;
      notifies = refl;
      buffer = rw sends_are (λ none. refl);
      idle = rw told_is (λ t is closed other. absurd cc);
      notes = rw told_is (unnoted g.V.Commitment.Named.bytes c.args.certified.now c.notarize.result);
      min = still_least c.args.certified.now.min c.notarize.result;
      unlearned = rw told_is (λ query. absurd cc);
    }

pub returns-in-Certification : goal.returns-in-Certification
returns-in-Certification g c =
    let old = g.S.HoldsCache.held c.args.stores.now in
    let new = g.S.HoldsCache.held c.learn.new.stores in
    let fault = fault_of g.V.Commitment.Named.bytes in
    let told_is = event_is g.V.Digest.Named.bytes g.V.Variant.plain g.S.Notarization.AsFinalization.plain g.S.Finalization.AsFinalization.plain c.args.event _ _ _ c.in-Message.is (c.told_by.ensures.told g.V.Digest.Named.bytes g.V.Variant.plain g.S.Notarization.AsFinalization.plain g.S.Finalization.AsFinalization.plain) c.in-Certification.is in
    let sends_are = sendings_are g.V.Variant.plain c.args.event _ _ _ c.in-Message.is (c.told_by.ensures.sends g.V.Variant.plain) c.in-Certification.is in
    let firsts_are_so = firsts_are g.V.Variant.plain c.args.event _ _ _ c.in-Message.is (c.told_by.ensures.first g.V.Variant.plain) c.in-Certification.is in
    record {
      runs = rw told_is (λ standing. found_nothing _ _ _ _ _ _ _ (Does-looked g.V.Variant.inner fault old new _ _ _ c.learn.result c.learn.ensures.same c.learn.ensures.goes_on c.learn.ensures.read));
      given = rw (← c.life.view_is) (refl, refl);
      unanswered = unanswered-err _ c.learn.result;
      sends = rw sends_are (unsent-ok _ c.learn.result);
      unsent = rw firsts_are_so (front_none _ _ c.learn.result (unsent-err _ c.learn.result));
      blocks = refl;
      notifies = refl;
      buffer = rw sends_are (λ none. refl);
      idle = rw told_is (λ t is closed other. absurd cc);
      notes = rw told_is (rw c.payload.ensures at c.learn.ensures.notes);
      min = c.learn.ensures.min;
      unlearned = rw told_is (λ query. absurd cc);
    }

pub returns-in-Asked : goal.returns-in-Asked
returns-in-Asked g c =
    let old = g.S.HoldsCache.held c.args.stores.now in
    let new = g.S.HoldsCache.held c.answer.new.stores in
    let fault = fault_of g.V.Commitment.Named.bytes in
    let unanswered = on_err (λ xs. told (value_of g.V.Digest.Named.bytes g.V.Variant.plain g.S.Finalization.AsFinalization.plain) xs) _ _ _ c.answer.ensures.unanswered in
    let told_is = event_is g.V.Digest.Named.bytes g.V.Variant.plain g.S.Notarization.AsFinalization.plain g.S.Finalization.AsFinalization.plain c.args.event _ _ _ c.in-Message.is (c.told_by.ensures.told g.V.Digest.Named.bytes g.V.Variant.plain g.S.Notarization.AsFinalization.plain g.S.Finalization.AsFinalization.plain) c.in-Asked.is in
    let sends_are = sendings_are g.V.Variant.plain c.args.event _ _ _ c.in-Message.is (c.told_by.ensures.sends g.V.Variant.plain) c.in-Asked.is in
    let firsts_are_so = firsts_are g.V.Variant.plain c.args.event _ _ _ c.in-Message.is (c.told_by.ensures.first g.V.Variant.plain) c.in-Asked.is in
    record {
      runs = rw told_is (λ standing. found_nothing _ _ _ _ _ _ _ (asked g.V.Digest.Named.bytes c.in-Asked.ticket c.in-Asked.query g.V.Variant.inner fault (g.B.Finds.blocks c.args.buffer.now) old new _ _ _ _ _ _ _ _ c.answer.result c.answer.ensures.answered unanswered c.answer.ensures.same c.answer.ensures.goes_on c.answer.ensures.read));
      given = rw (← c.life.view_is) (refl, refl);
      unanswered = c.answer.ensures.unanswered;
      sends = rw sends_are (unsent-ok _ c.answer.result);
      unsent = rw firsts_are_so (front_none _ _ c.answer.result (unsent-err _ c.answer.result));
      blocks = refl;
      notifies = refl;
      buffer = rw sends_are (λ none. refl);
      idle = rw told_is (λ t is closed other. absurd cc);
      notes = rw told_is (subst (λ found. OnOk c.answer.result ((tip : ℕ) → c.args.certified.now.min ≤ tip + 1 → TakesNote g.V.Commitment.Named.bytes tip found c.args.certified.now c.args.certified.now)) (sym (none_learned g.V.Digest.Named.bytes c.in-Asked.ticket g.V.Variant.inner old (g.B.Finds.blocks c.args.buffer.now) c.in-Asked.query)) (unnoted g.V.Commitment.Named.bytes c.args.certified.now c.answer.result));
      min = still_least c.args.certified.now.min c.answer.result;
      unlearned = rw told_is (λ query. (refl, refl));
    }

pub returns-in-Prepared : goal.returns-in-Prepared
returns-in-Prepared g c =
    let told_is = event_is g.V.Digest.Named.bytes g.V.Variant.plain g.S.Notarization.AsFinalization.plain g.S.Finalization.AsFinalization.plain c.args.event _ _ _ c.in-Message.is (c.told_by.ensures.told g.V.Digest.Named.bytes g.V.Variant.plain g.S.Notarization.AsFinalization.plain g.S.Finalization.AsFinalization.plain) c.in-Prepared.is in
    let sends_are = sendings_are g.V.Variant.plain c.args.event _ _ _ c.in-Message.is (c.told_by.ensures.sends g.V.Variant.plain) c.in-Prepared.is in
    let firsts_are_so = firsts_are g.V.Variant.plain c.args.event _ _ _ c.in-Message.is (c.told_by.ensures.first g.V.Variant.plain) c.in-Prepared.is in
    record {
      runs = rw told_is (λ standing. found_nothing _ _ _ _ _ _ _ (c.send.ensures.runs _ _ _ _ _ _));
      given = rw (← c.life.view_is) (refl, refl);
      unanswered = unanswered-err _ c.send.result;
      sends = rw sends_are (c.send.ensures.sends);
      unsent = rw firsts_are_so (front_none _ _ c.send.result c.send.ensures.unsent);
      blocks = c.send.ensures.blocks;
      notifies = c.send.ensures.notifies;
      buffer = rw sends_are (λ none. absurd cc);
      idle = rw told_is (λ t is closed other. absurd cc);
      notes = rw told_is (unnoted g.V.Commitment.Named.bytes c.args.certified.now c.send.result);
      min = still_least c.args.certified.now.min c.send.result;
      unlearned = rw told_is (λ query. absurd cc);
    }

pub returns-in-Verified : goal.returns-in-Verified
returns-in-Verified g c =
    let told_is = event_is g.V.Digest.Named.bytes g.V.Variant.plain g.S.Notarization.AsFinalization.plain g.S.Finalization.AsFinalization.plain c.args.event _ _ _ c.in-Message.is (c.told_by.ensures.told g.V.Digest.Named.bytes g.V.Variant.plain g.S.Notarization.AsFinalization.plain g.S.Finalization.AsFinalization.plain) c.in-Verified.is in
    let sends_are = sendings_are g.V.Variant.plain c.args.event _ _ _ c.in-Message.is (c.told_by.ensures.sends g.V.Variant.plain) c.in-Verified.is in
    let firsts_are_so = firsts_are g.V.Variant.plain c.args.event _ _ _ c.in-Message.is (c.told_by.ensures.first g.V.Variant.plain) c.in-Verified.is in
    record {
      runs = rw told_is (λ standing. found_nothing _ _ _ _ _ _ _ (c.verify.ensures.runs _ _ _ _ _));
      given = rw (← c.life.view_is) (refl, refl);
      unanswered = c.verify.ensures.unanswered;
      sends = rw sends_are (unsent-ok _ c.verify.result);
      unsent = rw firsts_are_so (front_none _ _ c.verify.result (unsent-err _ c.verify.result));
      blocks = refl;
      notifies = refl;
      buffer = rw sends_are (λ none. refl);
      idle = rw told_is (λ t is closed other. absurd cc);
      notes = rw told_is (unnoted g.V.Commitment.Named.bytes c.args.certified.now c.verify.result);
      min = still_least c.args.certified.now.min c.verify.result;
      unlearned = rw told_is (λ query. absurd cc);
    }

pub returns-in-Hint : goal.returns-in-Hint
returns-in-Hint g c =
    let told_is = event_is g.V.Digest.Named.bytes g.V.Variant.plain g.S.Notarization.AsFinalization.plain g.S.Finalization.AsFinalization.plain c.args.event _ _ _ c.in-Message.is (c.told_by.ensures.told g.V.Digest.Named.bytes g.V.Variant.plain g.S.Notarization.AsFinalization.plain g.S.Finalization.AsFinalization.plain) c.in-Hint.is in
    let sends_are = sendings_are g.V.Variant.plain c.args.event _ _ _ c.in-Message.is (c.told_by.ensures.sends g.V.Variant.plain) c.in-Hint.is in
    let firsts_are_so = firsts_are g.V.Variant.plain c.args.event _ _ _ c.in-Message.is (c.told_by.ensures.first g.V.Variant.plain) c.in-Hint.is in
    record {
      runs = rw told_is (λ standing. found_nothing _ _ _ _ _ _ _ (rw c.as_slice.ensures at c.hint.ensures.runs _ _ _ _ _));
      given = rw (← c.life.view_is) (refl, refl);
      unanswered = unanswered-err _ c.hint.result;
      sends = rw sends_are (unsent-ok _ c.hint.result);
      unsent = rw firsts_are_so (front_none _ _ c.hint.result (unsent-err _ c.hint.result));
      blocks = refl;
      notifies = refl;
      buffer = rw sends_are (λ none. refl);
      idle = rw told_is (λ t is closed other. absurd cc);
      notes = rw told_is (unnoted g.V.Commitment.Named.bytes c.args.certified.now c.hint.result);
      min = still_least c.args.certified.now.min c.hint.result;
      unlearned = rw told_is (λ query. absurd cc);
    }

pub returns-in-Proposed : goal.returns-in-Proposed
returns-in-Proposed g c =
    let told_is = event_is g.V.Digest.Named.bytes g.V.Variant.plain g.S.Notarization.AsFinalization.plain g.S.Finalization.AsFinalization.plain c.args.event _ _ _ c.in-Message.is (c.told_by.ensures.told g.V.Digest.Named.bytes g.V.Variant.plain g.S.Notarization.AsFinalization.plain g.S.Finalization.AsFinalization.plain) c.in-Proposed.is in
    let sends_are = sendings_are g.V.Variant.plain c.args.event _ _ _ c.in-Message.is (c.told_by.ensures.sends g.V.Variant.plain) c.in-Proposed.is in
    let firsts_are_so = firsts_are g.V.Variant.plain c.args.event _ _ _ c.in-Message.is (c.told_by.ensures.first g.V.Variant.plain) c.in-Proposed.is in
    record {
      runs = rw told_is (λ standing. found_nothing _ _ _ _ _ _ _ (c.propose.ensures.runs _ _ _ _));
      given = rw (← c.life.view_is) (refl, refl);
      unanswered = c.propose.ensures.unanswered;
      sends = rw sends_are (c.propose.ensures.sends);
      unsent = rw firsts_are_so (c.propose.ensures.sent);
      blocks = c.propose.ensures.blocks;
      notifies = c.propose.ensures.notifies;
      buffer = rw sends_are (λ none. absurd cc);
      idle = rw told_is (λ t is closed other. absurd cc);
      notes = rw told_is (unnoted g.V.Commitment.Named.bytes c.args.certified.now c.propose.result);
      min = still_least c.args.certified.now.min c.propose.result;
      unlearned = rw told_is (λ query. absurd cc);
    }

pub returns-in-Certified : goal.returns-in-Certified
returns-in-Certified g c =
    let told_is = event_is g.V.Digest.Named.bytes g.V.Variant.plain g.S.Notarization.AsFinalization.plain g.S.Finalization.AsFinalization.plain c.args.event _ _ _ c.in-Message.is (c.told_by.ensures.told g.V.Digest.Named.bytes g.V.Variant.plain g.S.Notarization.AsFinalization.plain g.S.Finalization.AsFinalization.plain) c.in-Certified.is in
    let sends_are = sendings_are g.V.Variant.plain c.args.event _ _ _ c.in-Message.is (c.told_by.ensures.sends g.V.Variant.plain) c.in-Certified.is in
    let firsts_are_so = firsts_are g.V.Variant.plain c.args.event _ _ _ c.in-Message.is (c.told_by.ensures.first g.V.Variant.plain) c.in-Certified.is in
    record {
      runs = rw told_is (λ standing. found_nothing _ _ _ _ _ _ _ (c.certify.ensures.runs _ _ _ _ _));
      given = rw (← c.life.view_is) (refl, refl);
      unanswered = c.certify.ensures.unanswered;
      sends = rw sends_are (unsent-ok _ c.certify.result);
      unsent = rw firsts_are_so (front_none _ _ c.certify.result (unsent-err _ c.certify.result));
      blocks = refl;
      notifies = refl;
      buffer = rw sends_are (λ none. refl);
      idle = rw told_is (λ t is closed other. absurd cc);
      notes = rw told_is (unnoted g.V.Commitment.Named.bytes c.args.certified.now c.certify.result);
      min = still_least c.args.certified.now.min c.certify.result;
      unlearned = rw told_is (λ query. absurd cc);
    }

pub returns-in-Sync : goal.returns-in-Sync
returns-in-Sync g c =
    rw c.in-Sync.is (record {
      runs = rw (← c.life.view_is) (λ standing. found_nothing _ _ _ _ _ _ _ (c.finish.ensures.runs _ _ _));
      given = rw (← c.life.view_is) (refl, refl);
      unanswered = c.finish.ensures.unanswered;
      sends = unsent-ok _ c.finish.result;
      unsent = front_none _ _ c.finish.result (unsent-err _ c.finish.result);
      blocks = refl;
      notifies = refl;
      buffer = λ none. refl;
      idle = λ t is closed other. let same = c.finish.ensures.idle (subst (λ k. is_open_sync (g.S.HoldsCache.held c.args.stores.now).writes.syncs k ≡ false) (sym (same_ticket _ t is)) closed) (subst (λ k. is_cache_sync (g.S.HoldsCache.held c.args.stores.now).cache.syncs k ≡ false) (sym (same_ticket _ t is)) other) in (same.0, same.1, rw (← c.life.view_is) (ap (λ w. remembered c.life.inside.provider c.life.inside.epocher w) same.2), refl);
      notes = unnoted g.V.Commitment.Named.bytes c.args.certified.now c.finish.result;
      min = still_least c.args.certified.now.min c.finish.result;
      unlearned = λ query. absurd cc;
    })

pub returns-in-Ack : goal.returns-in-Ack
returns-in-Ack g c =
    rw c.in-Ack.is (record {
      runs = rw (← c.life.view_is) (λ standing. found_nothing _ _ _ _ _ _ _ (c.acknowledge.ensures.runs standing _ _));
      given = rw (← c.life.view_is) (refl, refl);
      unanswered = unanswered-err _ c.acknowledge.result;
      sends = unsent-ok _ c.acknowledge.result;
      unsent = front_none _ _ c.acknowledge.result (unsent-err _ c.acknowledge.result);
      blocks = refl;
      notifies = refl;
      buffer = λ none. refl;
      idle = λ t is closed other. absurd cc;
      notes = unnoted g.V.Commitment.Named.bytes c.args.certified.now c.acknowledge.result;
      min = still_least c.args.certified.now.min c.acknowledge.result;
      unlearned = λ query. absurd cc;
    })

pub returns-in-Dropped : goal.returns-in-Dropped
returns-in-Dropped g c =
    rw c.in-Dropped.is (record {
      runs = rw (← c.life.view_is) (λ standing. found_nothing _ _ _ _ _ _ _ (c.acknowledge-in-Dropped.ensures.runs standing _ _));
      given = rw (← c.life.view_is) (refl, refl);
      unanswered = unanswered-err _ c.acknowledge-in-Dropped.result;
      sends = unsent-ok _ c.acknowledge-in-Dropped.result;
      unsent = front_none _ _ c.acknowledge-in-Dropped.result (unsent-err _ c.acknowledge-in-Dropped.result);
      blocks = refl;
      notifies = refl;
      buffer = λ none. refl;
      idle = λ t is closed other. absurd cc;
      notes = unnoted g.V.Commitment.Named.bytes c.args.certified.now c.acknowledge-in-Dropped.result;
      min = still_least c.args.certified.now.min c.acknowledge-in-Dropped.result;
      unlearned = λ query. absurd cc;
    })
